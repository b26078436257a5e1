use Rattle.std.proofs.Common.{◌≡◌, ℕ, List, Some, sym, ap, subst, ◌∙◌}
use Rattle.std.specs.Prelude.{slice_get}
use Rattle.lt_ids.specs.declared.request.Access.{Access}
use Rattle.lt_rules.specs.declared.call.Call.TheVariants.{Look}
use Rattle.lt_runner.specs.Machine.{index_of}
use Rattle.lt_runner.proofs.Doings.{strange, looked, look_at, made_in}
use Rattle.lt_runner.proofs.act.look_of.Goals as goal

pub returns-in_default : goal.returns-in_default
returns-in_default g c = strange c.args.key.now c.args.guard.now (sym c.in_default.is ∙ (c.index_of.ensures.index ∙ ap (λ (ks : List (List ℕ × Access)). index_of ks c.args.key.now) c.keys.ensures))

pub returns : goal.returns
returns g c =
    let keys : List (List ℕ × Access) = c.args.guard.now.walk.asked.keys in
    let key : List ℕ = c.args.key.now in
    let number : ℕ = c.args.guard.now.walk.asked.number in
    let is : Some c.in-Some.index ≡ index_of keys key = sym c.in-Some.is ∙ (c.index_of.ensures.index ∙ ap (λ (ks : List (List ℕ × Access)). index_of ks key) c.keys.ensures) in
    let there : (a : Access) × (slice_get keys c.in-Some.index ≡ Some (key, a)) = subst (λ (ks : List (List ℕ × Access)). (a : Access) × (slice_get ks c.in-Some.index ≡ Some (key, a))) c.keys.ensures c.in-Some.ensures.found in
    looked key c.args.guard.now c.look-answered.new.guard c.in-Some.index c.told_of.result is
    (made_in key (Look number) c.args.guard.now c.look-answered.new.guard c.look-answered.result c.told_of.result c.look-answered.ensures.walk
    (look_at keys c.in-Some.index key c.args.guard.now.pass c.look-answered.new.guard.pass number c.look-answered.result there c.look-answered.ensures.ok)
    c.look-answered.ensures.err c.told_of.ensures)
