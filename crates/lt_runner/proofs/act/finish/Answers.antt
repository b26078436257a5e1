use Rattle.std.proofs.Common.{refl}
use Rattle.lt_rules.specs.declared.call.Call.TheVariants.{Finish}
use Rattle.lt_runner.specs.declared.session.Session.TheVariants.{Free}
use Rattle.lt_runner.proofs.Doings.{made, made_in}
use Rattle.lt_runner.proofs.act.finish.Goals as goal

pub returns-in-Free : goal.returns-in-Free
returns-in-Free g c = rw c.in-Free.is (made c.args.key.now (Finish c.args.txn) (Free c.in-Free.pass) (Free c.finish-answered.new.pass) c.finish-answered.result c.told_of.result refl c.finish-answered.ensures.ok c.finish-answered.ensures.err c.told_of.ensures)

pub returns-in-Open : goal.returns-in-Open
returns-in-Open g c = rw c.in-Open.is (made_in c.args.key.now (Finish c.args.txn) c.in-Open.guard c.finish_in-answered.new.guard c.finish_in-answered.result c.told_of-in-Open.result c.finish_in-answered.ensures.walk c.finish_in-answered.ensures.ok c.finish_in-answered.ensures.err c.told_of-in-Open.ensures)
