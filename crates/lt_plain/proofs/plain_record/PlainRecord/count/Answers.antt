use Rattle.std.proofs.Common.{◌≤◌, IfSome, subst}
use Rattle.lt_rules.specs.Rules.{Record, record_with}
use Rattle.lt_rules.specs.Memory.{how_many}
use Rattle.lt_plain.proofs.Rooms.{counted_all}
use Rattle.lt_plain.proofs.plain_record.PlainRecord.count.Goals as goal

pub returns : goal.returns
returns c =
    let at = c.self.inside in
    subst (λ (r : Record). IfSome c.count.result (λ n. how_many r ≤ n)) c.self.view_is
    (counted_all (record_with at.holder at.reservation at.writers.items at.readers.items at.distinguished) c.count.result (rw (c.deref.ensures.value, c.deref-2.ensures.value) at c.count.ensures))
