use Rattle.std.proofs.Common.{refl}
use Rattle.lt_rules.specs.declared.call.Call.TheVariants.{Acquire}
use Rattle.lt_runner.specs.declared.session.Session.TheVariants.{Free}
use Rattle.lt_runner.proofs.Doings.{made, made_in}
use Rattle.lt_runner.proofs.act.acquire.Goals as goal

pub returns-in-Free : goal.returns-in-Free
returns-in-Free g c = rw c.in-Free.is (made c.args.key.now (Acquire c.args.txn c.args.ts) (Free c.in-Free.pass) (Free c.acquire-answered.new.pass) c.acquire-answered.result c.told_of.result refl c.acquire-answered.ensures.ok c.acquire-answered.ensures.err c.told_of.ensures)

pub returns-in-Open : goal.returns-in-Open
returns-in-Open g c = rw c.in-Open.is (made_in c.args.key.now (Acquire c.args.txn c.args.ts) c.in-Open.guard c.acquire_in-answered.new.guard c.acquire_in-answered.result c.told_of-in-Open.result c.acquire_in-answered.ensures.walk c.acquire_in-answered.ensures.ok c.acquire_in-answered.ensures.err c.told_of-in-Open.ensures)
