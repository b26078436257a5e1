use Rattle.std.proofs.Common.{◌≡◌, ◌∙◌, [], ap, arith}
use Rattle.std.proofs.lemmas.Bool.Decides.{nat_tests}
use Rattle.lt_links.specs.declared.stand.Stand.{Stand}
use Rattle.lt_row.specs.Row.{queue_at}
use Rattle.lt_row.proofs.Rows.{first_cut}
use Rattle.lt_row.proofs.Written.{stand_is}
use Rattle.lt_row.proofs.find.at_front.Goals as goal

pub returns-then-stand-number-clause-found : goal.returns-then-stand-number-clause-found
returns-then-stand-number-clause-found c =
    let m = c.args.links.now in
    let node = c.in_ok-node.node in
    let cut = first_cut m c.in_ok-node.ensures.sound (queue_at c.args.id c.args.kind) node c.in_ok-node.ensures.first in
    let same : c.stand-stand.result.number ≡ c.args.number = grind (arith, nat_tests) in
    record {
      before = [];
      after = cut.0;
      cut = cut.1;
      number_is = ap (λ (s : Stand). s.number) (stand_is m node c.stand-stand.result c.stand-stand.ensures.stand) ∙ same;
    }
