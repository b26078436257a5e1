use Rattle.std.proofs.Common.{◌∙◌, sym, ap}
use Rattle.std.specs.Option.{option_map}
use Rattle.lt_rules.specs.Rules.{is_eligible}
use Rattle.lt_row.specs.Row.{request_of, writer_of, record_of}
use Rattle.lt_row.proofs.Rows.{cut_there, missing_may_not, reserved_may_not, writer_may}
use Rattle.lt_row.proofs.Written.{stand_is}
use Rattle.lt_row.proofs.settle.is_among_eligible.Goals as goal

pub returns-in_default : goal.returns-in_default
returns-in_default c = sym (missing_may_not c.args.links.now c.args.row.now c.args.number c.in_default.ensures.found)

pub stand-requires : goal.stand-requires
stand-requires c = let f = c.in-Some.ensures.found in cut_there c.args.links.now c.requires.linked.sound _ _ f.before f.after f.cut

pub returns-in-Reservation : goal.returns-in-Reservation
returns-in-Reservation c = sym (reserved_may_not c.args.links.now c.args.row.now c.args.number c.requires.linked c.requires.distinct _ _ c.in-Some.ensures.found c.in-Reservation.is)

pub returns-in-Writers : goal.returns-in-Writers
returns-in-Writers c =
    let m = c.args.links.now in
    c.is_eligible.ensures
    ∙ ap (λ o. is_eligible (option_map request_of o) (writer_of c.stand.result)) c.reserved.ensures.stand
    ∙ ap (λ s. is_eligible (record_of m c.args.row.now).reservation (writer_of s)) (sym (stand_is m c.in-Some.found.node c.stand.result c.stand.ensures.stand))
    ∙ sym (writer_may m c.args.row.now c.args.number c.requires.linked c.requires.distinct _ _ c.in-Some.ensures.found c.in-Writers.is)
