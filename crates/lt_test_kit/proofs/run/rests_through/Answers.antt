use Rattle.lt_test_kit.proofs.run.rests_through.Goals as goal

pub close_rest-requires-in-Err-clause-passes : goal.close_rest-requires-in-Err-clause-passes
close_rest-requires-in-Err-clause-passes g c = rw c.in-Err.ensures.passes c.in-Ok.ensures.passes

pub close_rest-requires-in-Err-clause-guards : goal.close_rest-requires-in-Err-clause-guards
close_rest-requires-in-Err-clause-guards g c = rw c.in-Err.ensures.guards c.in-Ok.ensures.guards
