use Rattle.std.proofs.Common.{◌≡◌, sym, ap, subst, refl}
use Rattle.std.specs.Fn.{FnOnceReturnsAtMut}
use Rattle.lt_words.specs.Row.{PassState}
use Rattle.lt_words.specs.History.{LetIn}
use Rattle.lt_words.proofs.Histories.{let_later}
use Rattle.lt_walk.specs.Reported.{GuardState, IsSamePass, current_wait}
use Rattle.lt_walk.proofs.guard.Guard.with_pass.Goals as goal

pub invariant_of-self : goal.invariant_of-self
invariant_of-self g c let_mode =
    let old : PassState = c.self.inside.pass in
    let new : PassState = c.call.new.arg2 in
    let gave : FnOnceReturnsAtMut g.F.FnOnce c.args.call old c.call.result new = record { shown = _; shows = refl; left = _; met = c.call.ensures; leaves = refl } in
    let is_old : old ≡ c.args.self.now.pass = ap (λ (s : GuardState). s.pass) c.self.view_is in
    let given : FnOnceReturnsAtMut g.F.FnOnce c.args.call c.args.self.now.pass c.call.result new = subst (λ p. FnOnceReturnsAtMut g.F.FnOnce c.args.call p c.call.result new) is_old gave in
    let same : IsSamePass old new = subst (λ p. IsSamePass p new) (sym is_old) (c.requires.same c.call.result new given) in
    subst (λ n. LetIn new.seen n (current_wait c.self.inside.walk)) (sym same.number) (let_later old.seen new.seen old.number (current_wait c.self.inside.walk) same.seen (c.self.invariant let_mode))
