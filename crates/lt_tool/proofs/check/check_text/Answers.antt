use Rattle.std.proofs.Common.{Ok, rules, refl}
use Rattle.lt_tool.specs.Check.{reported}
use Rattle.lt_tool.proofs.Checks.{legal_again}
use Rattle.lt_tool.proofs.check.check_text.Goals as goal

pub returns-in_err-report-clause-legal : goal.returns-in_err-report-clause-legal
returns-in_err-report-clause-legal g c =
    legal_again (g.R.Read.remaining c.args.reader.now) (reported c.legal_text.result) c.from_residual.result (search rules) c.legal_text.ensures.legal

pub returns-in-Ok-write_out-clause-legal : goal.returns-in-Ok-write_out-clause-legal
returns-in-Ok-write_out-clause-legal g c =
    legal_again (g.R.Read.remaining c.args.reader.now) (Ok c.in_ok-report.report) (Ok c.in_ok-report.report) refl c.in_ok-report.ensures.legal
