use Rattle.lt_checker.proofs.PieceLaws.{reports_legal}
use Rattle.lt_checker.proofs.pieces.Checker.report.Goals as goal

pub returns-clause-legal : goal.returns-clause-legal
returns-clause-legal c = reports_legal c.args.self.now
