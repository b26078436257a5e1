use Rattle.std.proofs.Common.{◌≡◌, ◌≤◌, length, map, vec_capacity}
use Rattle.std.specs.List.{AllByRecursion}
use Rattle.lt_walk.specs.Closed.{passes_of}
use Rattle.lt_runner.specs.Closing.{AreHanded, CountAlike, finish_all}
use Rattle.lt_runner.proofs.whole.hand_over.Given as goal

abbrev pub invariant-loop-work : goal.invariant-loop-work
invariant-loop-work g l = record {
  passes : AllByRecursion (λ p. p.of ≡ g.N.Name.of) l.passes.items;
  guards : AllByRecursion (λ x. x.pass.of ≡ g.N.Name.of) l.guards.items;
  handed : AreHanded (passes_of l.passes.items l.guards.items) l.yielded;
  counted : CountAlike (passes_of l.passes.items l.guards.items) l.yielded;
  answers : l.answers.items ≡ map (λ w. w.answers) l.yielded;
  finish : l.finish ≡ finish_all (map (λ w. w.finish) l.yielded);
  room_for_passes : (length l.passes.items ≤ length l.yielded) × (vec_capacity l.passes ≡ vec_capacity l.initial.passes);
  room_for_guards : (length l.guards.items ≤ length l.yielded) × (vec_capacity l.guards ≡ vec_capacity l.initial.guards);
  room_for_answers : vec_capacity l.answers ≡ vec_capacity l.initial.answers;
}
