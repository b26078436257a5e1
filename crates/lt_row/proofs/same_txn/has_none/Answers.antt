use Rattle.std.proofs.Common.{◌≡◌, ◌∙◌, arith, subst, sym}
use Rattle.std.proofs.lemmas.Bool.Decides.{nat_tests}
use Rattle.lt_links.specs.Tallies.{HasTally}
use Rattle.lt_row.proofs.SameTxn.{none_at_all, none_but_reserved}
use Rattle.lt_row.proofs.same_txn.has_none.Goals as goal

pub returns-in-Some : goal.returns-in-Some
returns-in-Some c = λ yes.
    none_but_reserved c.args.links.now c.args.row.now c.args.txn c.in-Some.own c.requires (sym c.reserved.ensures.stand ∙ c.in-Some.is) (c.has_only.ensures.only yes)

pub returns-in_default : goal.returns-in_default
returns-in_default c = λ alone.
    let none : c.nodes_of.result ≡ 0 = grind (arith, nat_tests) in
    none_at_all c.args.links.now c.args.txn c.args.row.now.id c.requires.linked.sound (subst (λ n. HasTally c.args.links.now c.args.txn n) none c.nodes_of.ensures.tally)
