use Rattle.std.proofs.Common.{◌∙◌, ap, length, subst, sym}
use Rattle.std.specs.List.{All}
use Rattle.lt_words.specs.Row.{AreNoting, OwesNoWakeUp}
use Rattle.lt_walk.proofs.Noted.{fresh_owe_none, many_fresh, quiet_are_of}
use Rattle.lt_table_core.proofs.opening.open_valued_waking_with.Goals as goal

pub noting_lets-requires : goal.noting_lets-requires
noting_lets-requires g c =
    let of = g.N.Name.of in
    subst (All (λ p. OwesNoWakeUp p)) (sym c.in_ok-table.ensures.passes) (fresh_owe_none of of.passes)

pub returns-clause-noting : goal.returns-clause-noting
returns-clause-noting g c =
    let of = g.N.Name.of in
    subst (λ n. AreNoting n c.in_ok-passes.passes.items) (ap length c.in_ok-table.ensures.passes ∙ many_fresh of of.passes) c.in_ok-passes.ensures.noting

pub returns-clause-of : goal.returns-clause-of
returns-clause-of g c = quiet_are_of g.N.Name.of c.in_ok-passes.passes.items c.in_ok-table.passes.items c.in_ok-passes.ensures.same c.in_ok-table.ensures.of
