use Rattle.std.proofs.Common.{◌∙◌, ap, Some, slice_get, sym}
use Rattle.lt_links.specs.Maps.{queue}
use Rattle.lt_row.proofs.Rows.{first_cut, first_reader, first_after_readers}
use Rattle.lt_row.proofs.Written.{stand_is}
use Rattle.lt_row.proofs.settle.first_waiter.Goals as goal

pub returns-in-Some : goal.returns-in-Some
returns-in-Some c =
    let m = c.args.links.now in
    let cut = first_cut m c.requires.sound _ c.in-Some.node c.in-Some.ensures.first in
    ap (λ s. Some s.number) (sym (stand_is m c.in-Some.node c.stand.result c.stand.ensures.stand)) ∙ first_reader m c.args.row.now c.in-Some.node cut.0 (ap (queue m) (sym c.queue.ensures) ∙ cut.1)

pub returns-in-None : goal.returns-in-None
returns-in-None c =
    let m = c.args.links.now in
    c.first_writer.ensures
    ∙ first_after_readers m c.args.row.now (c.in-None.ensures.first ∙ ap (λ q. slice_get (queue m q) 0) c.queue.ensures)
