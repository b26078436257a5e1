-- The table of one thread: its records, and the lets of the last step that C has not been given yet.
use Rattle.std.specs.Prelude.{List, [], refl}
use Rattle.std.specs.FinMap as map
use Rattle.std.specs.Coded.{Coded, code_by, coded×, coded_list}
use Rattle.lt_ids.specs.declared.ticket.Through.{Through}
use Rattle.lt_ids.specs.contracts.ticket.Through as through
use Rattle.lt_rules.specs.Codes.{records_code}
use Rattle.lt_rules.specs.Table.{Records}

pub record OneTableState : Type 0 where
  pub records : Records
  pub lets : List Through

-- a table without keys, and no lets
abbrev pub new_table : OneTableState
new_table = record { records = map.empty; lets = [] }

abbrev pub one_table_code : Coded OneTableState
one_table_code =
    code_by (Records × List Through)
    (coded× records_code (coded_list through.the_row.coded))
    (λ h. (h.records, h.lets))
    (λ p. record { records = p.0; lets = p.1 })
    (λ _. refl)
