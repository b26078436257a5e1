use Rattle.std.proofs.Common.{Result, Ok, Err}
use Rattle.std.specs.Result.{IfOk}
use Rattle.lt_links.proofs.Placed.{InsertsAfter-put}
use Rattle.lt_links.proofs.links.Links.insert_after.Goals as goal

if_ok : {T E : Type 0} {P Q : T → Type 0} (r : Result T E) → ((x : T) → P x → Q x) → IfOk r P → IfOk r Q
if_ok (Ok x) f p = f x p
if_ok (Err e) f p = tt

pub returns-clause-inserts : goal.returns-clause-inserts
returns-clause-inserts c =
    if_ok c.put_after.result (λ n puts. InsertsAfter-put c.args.self.now c.put_after.new.self c.queue_of-queue.result c.args.node n c.args.stand c.queue_of-queue.ensures.sound c.queue_of-queue.ensures.queue puts)
    (rw c.key.ensures at c.put_after.ensures.puts)
