use Rattle.lt_tool.proofs.Checks.{legal_taken, legal_refused}
use Rattle.lt_tool.proofs.check.legal_text.Goals as goal

pub returns-in-Ok-check-clause-legal : goal.returns-in-Ok-check-clause-legal
returns-in-Ok-check-clause-legal g c =
    legal_taken (g.R.Read.remaining c.args.reader.now) c.in-Ok.text.items c.deref.result.now c.in-Ok-check.report c.in-Ok.ensures.ok c.deref.ensures.value c.in-Ok-check.ensures.legal

pub returns-in-Err-check-clause-legal : goal.returns-in-Err-check-clause-legal
returns-in-Err-check-clause-legal g c =
    legal_refused (g.R.Read.remaining c.args.reader.now) c.in-Ok.text.items c.deref.result.now c.in-Err-check.why c.in-Ok.ensures.ok c.deref.ensures.value c.in-Err-check.ensures.legal
