use Rattle.lt_links.proofs.Joints.{SetsLen-value}
use Rattle.lt_links.proofs.queues.store_len.Goals as goal

pub returns : goal.returns
returns c =
    let there = rw c.key.ensures at c.index_mut.ensures.value in
    rw (c.set_len.ensures, c.key.ensures) (SetsLen-value c.args.heads.now c.args.queue.now _ c.args.len there)
