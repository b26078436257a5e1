use Rattle.std.proofs.Common.{refl}
use Rattle.lt_rules.specs.declared.call.Call.TheVariants.{Update}
use Rattle.lt_runner.specs.declared.session.Session.TheVariants.{Free}
use Rattle.lt_runner.proofs.Doings.{made, made_in}
use Rattle.lt_runner.proofs.act.update.Goals as goal

pub returns-in-Free : goal.returns-in-Free
returns-in-Free g c = rw c.in-Free.is (made c.args.key.now (Update c.args.txn c.args.ts) (Free c.in-Free.pass) (Free c.update-answered.new.pass) c.update-answered.result c.told_of.result refl c.update-answered.ensures.ok c.update-answered.ensures.err c.told_of.ensures)

pub returns-in-Open : goal.returns-in-Open
returns-in-Open g c = rw c.in-Open.is (made_in c.args.key.now (Update c.args.txn c.args.ts) c.in-Open.guard c.update_in-answered.new.guard c.update_in-answered.result c.told_of-in-Open.result c.update_in-answered.ensures.walk c.update_in-answered.ensures.ok c.update_in-answered.ensures.err c.told_of-in-Open.ensures)
