use Rattle.lt_test_kit.proofs.run.close_through.Goals as goal

pub close-requires-in-Err-clause-passes : goal.close-requires-in-Err-clause-passes
close-requires-in-Err-clause-passes g c = rw c.in-Err.ensures.passes c.in-Ok.ensures.passes

pub close-requires-in-Err-clause-guards : goal.close-requires-in-Err-clause-guards
close-requires-in-Err-clause-guards g c = rw c.in-Err.ensures.guards c.in-Ok.ensures.guards
