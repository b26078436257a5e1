use Rattle.lt_theorem_callers.specs.Heard.{NotesMore}
use Rattle.lt_theorem_callers.proofs.caller.proceed.Given as goal

abbrev pub invariant-loop : goal.invariant-loop
invariant-loop g l = NotesMore g.N.Name.of l.fn.requester.guard.pass l.requester.guard.pass l.requester.notes
