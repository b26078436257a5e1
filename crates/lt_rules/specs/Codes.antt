-- Codes of records and of maps of records, by which proofs tell them apart. A `Model` whose value contains records
-- cites them as its `coded`. Nothing here says what a record means.
use Rattle.std.specs.Prelude.{ℕ, Option, List, refl}
use Rattle.std.specs.FinMap as map
use Rattle.std.specs.Coded.{Coded, code_by, coded×, coded_ℕ, coded_list, coded_option}
use Rattle.lt_rules.specs.contracts.queued.Holder as holder
use Rattle.lt_rules.specs.contracts.queued.QueuedRequest as request
use Rattle.lt_rules.specs.contracts.queued.QueuedWriter as writer
use Rattle.lt_rules.specs.declared.queued.Holder.{Holder}
use Rattle.lt_rules.specs.declared.queued.QueuedRequest.{QueuedRequest}
use Rattle.lt_rules.specs.declared.queued.QueuedWriter.{QueuedWriter}
use Rattle.lt_rules.specs.Rules.{Record}
use Rattle.lt_rules.specs.Table.{Records}

abbrev pub record_code : Coded Record
record_code =
    code_by (Option Holder × (Option QueuedRequest × (List QueuedWriter × (List QueuedRequest × Option ℕ))))
    (coded× (coded_option holder.the_row.coded) (coded× (coded_option request.the_row.coded) (coded× (coded_list writer.the_row.coded) (coded× (coded_list request.the_row.coded) (coded_option coded_ℕ)))))
    (λ r. (r.holder, (r.reservation, (r.writers, (r.readers, r.distinguished)))))
    (λ p. record { holder = p.0; reservation = p.1.0; writers = p.1.1.0; readers = p.1.1.1.0; distinguished = p.1.1.1.1 })
    (λ _. refl)

-- the code of the maps from keys, as byte lists, to records
abbrev pub records_code : Coded Records
records_code = map.code (coded_list coded_ℕ) record_code
