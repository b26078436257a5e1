use Rattle.std.proofs.Common.{Ok, rules, refl}
use Rattle.lt_tool.specs.Check.{reported}
use Rattle.lt_tool.proofs.Checks.{legal_again}
use Rattle.lt_tool.proofs.check.upgrade_text.Goals as goal

pub returns-in_err-text-clause-legal : goal.returns-in_err-text-clause-legal
returns-in_err-text-clause-legal g c =
    legal_again (g.R.Read.remaining c.args.reader.now) (reported c.legal_text.result) c.from_residual.result (search rules) c.legal_text.ensures.legal

pub returns-in-Ok-clause-legal : goal.returns-in-Ok-clause-legal
returns-in-Ok-clause-legal g c =
    legal_again (g.R.Read.remaining c.args.reader.now) (Ok c.in_ok-text.report) (Ok c.in_ok-text.report) refl c.in_ok-text.ensures.legal
