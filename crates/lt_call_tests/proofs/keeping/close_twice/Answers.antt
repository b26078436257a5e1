use Rattle.lt_call_tests.proofs.keeping.close_twice.Goals as goal

pub close_rest-requires-clause-passes : goal.close_rest-requires-clause-passes
close_rest-requires-clause-passes g c = rw c.in-Err.ensures.passes c.in-Ok.ensures.passes

pub close_rest-requires-clause-guards : goal.close_rest-requires-clause-guards
close_rest-requires-clause-guards g c = rw c.in-Err.ensures.guards c.in-Ok.ensures.guards
