use Rattle.lt_call_tests.proofs.closing.close_early.Goals as goal

pub seated-requires : goal.seated-requires
seated-requires g c = rw c.in-Err.ensures.passes c.in-Ok.ensures.passes
