use Rattle.std.proofs.Common.{◌∙◌, length, ap, subst, sym, arith}
use Rattle.std.specs.List.{All}
use Rattle.lt_words.specs.Row.{OwesNoWakeUp}
use Rattle.lt_walk.proofs.Noted.{fresh_owe_none, many_fresh, quiet_are_of}
use Rattle.lt_try.proofs.letting.TryTable+T+M.open_telling.Goals as goal

pub keeping_lets-requires-clause-all : goal.keeping_lets-requires-clause-all
keeping_lets-requires-clause-all g c =
    ap length c.in_ok-table.ensures.passes ∙ (many_fresh c.args.ready.of c.args.ready.of.passes ∙ ap (λ o. o.passes) (sym c.in_ok-table.ensures.book ∙ ap (λ t. t.of) (sym c.table.view_is)))

pub keeping_lets-requires-clause-few : goal.keeping_lets-requires-clause-few
keeping_lets-requires-clause-few g c =
    let opened = c.table.invariant.0 in
    omega (arith, keeping_lets-requires-clause-all g c, opened.passes, opened.config.few_passes)

pub keeping_lets-requires-clause-owe : goal.keeping_lets-requires-clause-owe
keeping_lets-requires-clause-owe g c = subst (All (λ p. OwesNoWakeUp p)) (sym c.in_ok-table.ensures.passes) (fresh_owe_none c.args.ready.of c.args.ready.of.passes)

pub returns-clause-of : goal.returns-clause-of
returns-clause-of g c = quiet_are_of c.args.ready.of c.in_ok-passes.passes.items c.in_ok-table.passes.items c.in_ok-passes.ensures.same c.in_ok-table.ensures.of
