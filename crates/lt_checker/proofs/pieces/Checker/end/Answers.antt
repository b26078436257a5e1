use Rattle.lt_checker.proofs.PieceLaws.{says_at_end, accepts_at_end, refuses_at_end}
use Rattle.lt_checker.proofs.pieces.Checker.end.Goals as goal

pub returns-clause-says : goal.returns-clause-says
returns-clause-says c = says_at_end c.args.self c.args.rest.now c.judge.result c.judge.ensures

pub returns-clause-legal : goal.returns-clause-legal
returns-clause-legal c = accepts_at_end c.args.self c.args.rest.now c.judge.result c.judge.ensures

pub returns-clause-faulty : goal.returns-clause-faulty
returns-clause-faulty c = refuses_at_end c.args.self c.args.rest.now c.judge.result c.judge.ensures
