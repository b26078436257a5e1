use Rattle.std.proofs.Common.{refl, rules}
use Rattle.lt_checker.proofs.PieceLaws.{both_with}
use Rattle.lt_checker.proofs.pieces.Checker.joined.Goals as goal

pub returns-clause-ok : goal.returns-clause-ok
returns-clause-ok c =
    both_with c.args.self c.args.next _ (search rules) (search rules)
    record {
      cursor = refl;
      version = c.added.ensures.version;
      steps = c.added.ensures.steps;
      keys = c.added.ensures.keys;
      first = c.first_of_both.ensures;
    }
