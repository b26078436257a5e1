use Rattle.std.proofs.Common.{◌≡◌, ◌∙◌, ◌<◌, arith, rules, refl, sym, ap, ℕ, List, [], ◌∷◌, Some, length}
use Rattle.lt_handles.specs.Lists.{after_key}
use Rattle.lt_c.proofs.lists.after_key.Goals as goal

some_key : (bs : List ℕ) → 0 < length bs → after_key bs ≡ Some bs
some_key [] some = absurd (omega (arith, some))
some_key (b ∷ bs) some = refl

pub returns-in-Ok-clause-key : goal.returns-in-Ok-clause-key
returns-in-Ok-clause-key c =
    let some : 0 < length c.args.bytes.now = search (rules, arith) in
    let is : c.in-Ok.key ≡ c.args.bytes.now = search rules in
    ap Some is ∙ sym (some_key c.args.bytes.now some)
