use Rattle.std.proofs.Common.{sym, ◌∙◌}
use Rattle.std.specs.Ordering.{nat_cmp}
use Rattle.std.specs.Cmp.{Equal-is}
use Rattle.std.specs.Cmp.Lexicographic.{slice_cmp}
use Rattle.std.proofs.lemmas.Map.Text.{is_eq-slice_cmp}
use Rattle.lt_writer.proofs.composer.compare_keys.Goals as goal

pub returns-then-eq : goal.returns-then-eq
returns-then-eq c = sym ((Equal-is (slice_cmp nat_cmp c.args.a.now c.args.b.now)).0 (is_eq-slice_cmp c.args.a.now c.args.b.now ∙ (sym c.eq.ensures ∙ c.if-eq.true)))
