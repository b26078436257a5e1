use Rattle.std.proofs.Common.{rules, ◌≢◌, ◌∙◌, ap, refl, sym}
use Rattle.lt_rules.specs.Rules.{settle}
use Rattle.lt_links.specs.declared.ids.QueueKind.TheVariants.{Reservation}
use Rattle.lt_row.specs.Row.{record_of}
use Rattle.lt_row.proofs.Rows.{cut_there, others_same, others_written}
use Rattle.lt_row.proofs.Leaves.{missing_absent, found_reserved, lawful_unreserved, left_linked, left_row, left_distinct, found_leaves}
use Rattle.lt_row.proofs.row.leave.Goals as goal

pub returns-in_default-clause-ok : goal.returns-in_default-clause-ok
returns-in_default-clause-ok c =
    let absent = missing_absent c.args.links.now c.args.row.now c.args.number c.in_default.ensures.found in
    record {
      same_id = refl;
      is_outcome = record { moved = sym (ap (λ o. o.after) absent); replied = sym (ap (λ o. o.reply) absent); let_through = c.requires.lets ∙ sym (ap (λ o. o.lets) absent) };
      linked = c.requires.row.linked;
      others = others_same c.args.links.now c.args.row.now.id;
    }

pub free-requires-clause-lawful : goal.free-requires-clause-lawful
free-requires-clause-lawful c = lawful_unreserved (record_of c.args.links.now c.args.row.now) c.requires.row.lawful c.args.number (found_reserved c.args.links.now c.args.row.now c.args.number c.requires.row.linked c.requires.row.lawful.first.numbers_differ _ _ c.in-Some.ensures.found (search rules))

pub take_out-requires-clause-there : goal.take_out-requires-clause-there
take_out-requires-clause-there c = let f = c.in-Some.ensures.found in cut_there c.args.links.now c.requires.row.linked.sound _ _ f.before f.after f.cut

pub settle-requires-clause-linked : goal.settle-requires-clause-linked
settle-requires-clause-linked c =
    let f = c.in-Some.ensures.found in
    left_linked c.args.links.now c.args.row.now c.args.number c.requires.row.linked c.requires.row.lawful.first.numbers_differ _ _ f c.take_out.new.links (c.take_out.ensures _ f.before f.after f.cut) (search rules)

pub settle-requires-clause-distinct : goal.settle-requires-clause-distinct
settle-requires-clause-distinct c =
    let f = c.in-Some.ensures.found in
    left_distinct c.args.links.now c.args.row.now c.args.number c.requires.row.linked c.requires.row.lawful.first.numbers_differ _ _ f c.take_out.new.links (c.take_out.ensures _ f.before f.after f.cut) (search rules) c.requires.row.lawful

pub returns-clause-ok : goal.returns-clause-ok
returns-clause-ok c =
    let m = c.args.links.now in
    let f = c.in-Some.ensures.found in
    let waits : c.in-Some.found.kind ≢ Reservation = search rules in
    let leaves = found_leaves m c.args.row.now c.args.number c.requires.row.linked c.requires.row.lawful.first.numbers_differ _ _ f waits in
    let taken = c.take_out.ensures _ f.before f.after f.cut in
    record {
      same_id = c.settle.ensures.id;
      is_outcome = record {
        moved = c.settle.ensures.record ∙ ap settle (left_row m c.args.row.now c.args.number c.requires.row.linked c.requires.row.lawful.first.numbers_differ _ _ f c.take_out.new.links taken waits) ∙ sym (ap (λ o. o.after) leaves);
        replied = sym (ap (λ o. o.reply) leaves);
        let_through = c.requires.lets ∙ sym (ap (λ o. o.lets) leaves);
      };
      linked = left_linked m c.args.row.now c.args.number c.requires.row.linked c.requires.row.lawful.first.numbers_differ _ _ f c.take_out.new.links taken waits;
      others = others_written m c.take_out.new.links c.args.row.now.id _ _ taken;
    }
