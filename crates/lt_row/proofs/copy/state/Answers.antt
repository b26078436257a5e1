use Rattle.std.proofs.Common.{◌≡◌, ℕ, ◌≤◌, ◌∙◌, ap, subst, take, take_all, length, arith}
use Rattle.std.specs.Prelude.{IfOk}
use Rattle.lt_rules.specs.Rules.{Record}
use Rattle.lt_row.specs.Row.{record_of}
use Rattle.lt_row.specs.Front.{front_of}
use Rattle.lt_row.proofs.copy.state.Goals as goal

-- the front is the whole, if no queue is longer
whole : (most : ℕ) (r : Record) → length r.writers ≤ most → length r.readers ≤ most → front_of most r ≡ r
whole most r writers readers =
    ap (λ ws. record r { writers = ws; readers = take most r.readers }) (take_all most r.writers writers) ∙ ap (λ rs. record r { readers = rs }) (take_all most r.readers readers)

pub returns : goal.returns
returns c =
    let r = record_of c.args.links.now c.args.row.now in
    subst (λ s. IfOk c.front.result (λ state. state ≡ s)) (whole c.max.result r (omega (arith, c.max.ensures, c.lengths-writers.ensures.writers)) (omega (arith, c.max.ensures, c.lengths-writers.ensures.readers))) c.front.ensures
