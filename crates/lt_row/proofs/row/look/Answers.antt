use Rattle.std.proofs.Common.{◌∙◌, ap, sym, Some}
use Rattle.lt_rules.specs.Step.{look_waiter, reader_reply}
use Rattle.lt_row.specs.Row.{record_of, writer_of}
use Rattle.lt_row.proofs.Rows.{cut_there}
use Rattle.lt_row.proofs.Written.{stand_is}
use Rattle.lt_row.proofs.Leaves.{missing_looks, found_reads, found_writes}
use Rattle.lt_row.proofs.row.look.Goals as goal

pub returns-in_default : goal.returns-in_default
returns-in_default c = sym (missing_looks c.args.links.now c.args.row.now c.args.number c.in_default.ensures.found)

pub stand-requires : goal.stand-requires
stand-requires c = let f = c.in-Some.ensures.found in cut_there c.args.links.now c.requires.linked.sound _ _ f.before f.after f.cut

pub returns-in-Readers : goal.returns-in-Readers
returns-in-Readers c = c.look_reader.ensures ∙ ap (λ s. reader_reply c.args.row.now.distinguished c.args.number c.args.row.now.holder s) c.reserved_txn.ensures ∙ sym (found_reads c.args.links.now c.args.row.now c.args.number c.requires.linked c.requires.lawful.first.numbers_differ _ _ c.in-Some.ensures.found c.in-Readers.is)

pub returns-in-Writers : goal.returns-in-Writers
returns-in-Writers c =
    let m = c.args.links.now in
    c.look_waiting.ensures
    ∙ ap (λ s. look_waiter (record_of m c.args.row.now) c.args.number (Some (writer_of s))) (sym (stand_is m c.in-Some.found.node c.stand.result c.stand.ensures.stand))
    ∙ sym (found_writes m c.args.row.now c.args.number c.requires.linked c.requires.lawful.first.numbers_differ _ _ c.in-Some.ensures.found c.in-Writers.is)
