use Rattle.lt_row.proofs.Written.{WritesQueue-inserted, KeepsNodes-inserted}
use Rattle.lt_row.proofs.Enqueued.{place_there, PutsWriter-first, PutsWriter-behind, on_ok_both}
use Rattle.lt_row.proofs.visit.put_writer.Goals as goal

pub insert_after-requires : goal.insert_after-requires
insert_after-requires c = place_there c.args.links.now c.args.to.now c.args.stand.now.number c.in-Some.node c.requires.sound c.in-Some.ensures.position

pub returns-in-None-clause-ok : goal.returns-in-None-clause-ok
returns-in-None-clause-ok c =
    on_ok_both c.insert_first.result _ _ _
    (PutsWriter-first c.args.links.now c.insert_first.new.links c.args.to.now c.args.stand.now c.in-None.ensures.position c.requires.rises c.requires.missing c.requires.active c.requires.named)
    c.insert_first.ensures.ok c.insert_first.ensures.nodes

pub returns-in_ok-insert_after-in-Some-clause-ok : goal.returns-in_ok-insert_after-in-Some-clause-ok
returns-in_ok-insert_after-in-Some-clause-ok c =
    let put = c.in_ok-insert_after-in-Some.ensures in
    PutsWriter-behind c.args.links.now c.insert_after.new.self c.args.to.now c.args.stand.now c.in-Some.node c.in-Some.ensures.position c.requires.rises c.requires.missing c.requires.active c.requires.named
    (λ q xs ys cut. (
      WritesQueue-inserted c.args.links.now c.insert_after.new.self q c.in-Some.node xs ys c.requires.sound cut c.in_ok-insert_after-in-Some.field-0 c.args.stand.now put.fresh put.inserts put.sound,
      KeepsNodes-inserted c.args.links.now c.insert_after.new.self q c.in-Some.node xs ys c.requires.sound cut c.in_ok-insert_after-in-Some.field-0 c.args.stand.now put.fresh put.inserts,
    ))
