use Rattle.std.proofs.Common.{◌∙◌, refl}
use Rattle.lt_links.proofs.Rings.{is_itself}
use Rattle.lt_row.proofs.Records.{new_row, new_record}
use Rattle.lt_row.proofs.record.add_row.Goals as goal

pub returns-clause-row : goal.returns-clause-row
returns-clause-row c =
    let added = c.in_ok-add_record.ensures in
    new_row c.add_record.new.self _ added.empty (added.adds.records_are c.in_ok-add_record.field-0 ∙ rw (is_itself c.in_ok-add_record.field-0) refl) added.sound (new_record c.add_record.new.self _ added.empty)

pub returns-clause-empty : goal.returns-clause-empty
returns-clause-empty c = new_record c.add_record.new.self _ c.in_ok-add_record.ensures.empty
