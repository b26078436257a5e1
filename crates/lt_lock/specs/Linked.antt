-- How the links and the map of keys are seen as a table of records, and the effect of a call on them.
use Rattle.std.specs.Prelude.{◌≡◌, ℕ, true, Option, Some, None, List, [], map, if◌then◌else◌}
use Rattle.std.specs.Str.{bytes_eq}
use Rattle.std.specs.FinMap.{from_entries}
use Rattle.std.specs.HashMap as hash
use Rattle.std.specs.HashMap.{HashMap}
use Rattle.lt_ids.specs.declared.ticket.Through.{Through}
use Rattle.lt_rules.specs.declared.call.Reply.{Reply}
use Rattle.lt_rules.specs.Rules.{Record, Outcome, is_empty}
use Rattle.lt_rules.specs.Table.{Records, AreSound, IsStep, without_empty}
use Rattle.lt_links.specs.Maps.{Maps, has_record, IsSound}
use Rattle.lt_links.specs.declared.hashing.KeyHashing.{KeyHashing}
use Rattle.lt_lock.specs.declared.row_table.RowStep.{RowStep}
use Rattle.lt_row.specs.declared.row.Row.{Row}
use Rattle.lt_row.specs.Row.{record_of, HasQueues}

abbrev pub Rows : Type 0
Rows = HashMap (List ℕ) Row KeyHashing

-- the row of a key
abbrev pub row_at : Rows → List ℕ → Option Row
row_at rows key = hash.get bytes_eq rows key

abbrev pub records_of : Maps → Rows → Records
records_of m rows = from_entries (map (λ e. (e.0, record_of m e.1)) rows.entries)

-- Some key's row has these queues.
abbrev pub IsUsed : Rows → ℕ → Type 0
IsUsed rows id = (k : List ℕ) × (r : Row) × (row_at rows k ≡ Some r) × (r.id ≡ id)

-- Each row has its queues in the links, no two keys share their queues, and every record of the links belongs to a
-- row.
pub record AreLinked (m : Maps) (rows : Rows) : Type 0 where
  pub sound : IsSound m
  pub each : (k : List ℕ) (r : Row) → row_at rows k ≡ Some r → HasQueues m r.id
  pub apart : (j k : List ℕ) (q r : Row) → row_at rows j ≡ Some q → row_at rows k ≡ Some r → q.id ≡ r.id → j ≡ k
  pub used : (id : ℕ) → has_record m id ≡ true → IsUsed rows id

-- The act was applied to the record at the key, with these lets and this reply, and no other key's record changed.
abbrev pub UpdatesRows : Maps → Maps → Rows → Rows → List ℕ → (Record → Outcome) → List Through → Reply → Type 0
UpdatesRows old new rows after key act lets = λ reply.
    IsStep (records_of old rows) key act reply lets (records_of new after)

-- No record has changed, and there are no lets.
abbrev pub KeepsRows : Maps → Maps → Rows → Rows → List Through → Type 0
KeepsRows old new rows after lets = (records_of new after ≡ records_of old rows) × (lets ≡ [])

-- The parts of a table, which are the links and the rows of its keys, agree and hold sound records.
pub record IsTable (m : Maps) (rows : Rows) : Type 0 where
  pub linked : AreLinked m rows
  pub records_sound : AreSound (records_of m rows)

-- the row's queues, if the row's record is empty
abbrev pub emptied_id : Maps → Row → Option ℕ
emptied_id m r = if is_empty (record_of m r) then Some r.id else None

-- The key's row is empty and has these queues, or there is no empty record at the key to drop.
abbrev pub IsEmptied : Maps → Rows → List ℕ → Option ℕ → Type 0
IsEmptied m rows key (Some id) =
    (r : Row) × (Some r ≡ row_at rows key) × (r.id ≡ id) × (is_empty (record_of m r) ≡ true)
IsEmptied m rows key None = records_of m rows ≡ without_empty (records_of m rows) key

-- What a call at the row of a key came to: the act was applied to the key's record, and this tells whether the row is
-- empty now. `None` if the key has no row; then nothing has changed.
abbrev pub MakesAtRow : Maps → Maps → Rows → Rows → List ℕ → (Record → Outcome) → List Through → Option RowStep → Type 0
MakesAtRow old new rows after key act lets None = (row_at rows key ≡ None) × (new ≡ old) × (after ≡ rows) × (lets ≡ [])
MakesAtRow old new rows after key act lets (Some made) =
    UpdatesRows old new rows after key act lets made.reply × IsEmptied new after key made.emptied
