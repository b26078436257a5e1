-- The record of a new row, and of a row after a call that is given as a value.
use Rattle.std.proofs.Common.{◌≡◌, ℕ, true, List, [], refl, sym, ap, subst, arith}
use Rattle.std.specs.Result.{IfOk, OnErr}
use Rattle.std.specs.declared.result.Result.{Result}
use Rattle.std.specs.declared.result.Result.TheVariants.{Ok, Err}
use Rattle.lt_ids.specs.declared.ticket.Through.{Through}
use Rattle.lt_links.specs.declared.ids.QueueKind.{QueueKind}
use Rattle.lt_links.specs.declared.ids.QueueKind.TheVariants.{Writers, Readers, Reservation}
use Rattle.lt_links.specs.Maps.{Maps, has_record, IsEmpty, IsSound}
use Rattle.lt_rules.specs.declared.call.Call.{Call}
use Rattle.lt_rules.specs.declared.call.Reply.{Reply}
use Rattle.lt_rules.specs.Rules.{empty}
use Rattle.lt_rules.specs.Step.{step}
use Rattle.lt_rules.specs.Lawful.{IsLawful}
use Rattle.lt_rules.proofs.Lawfulness.{step_keeps_lawful, empty_is_lawful}
use Rattle.lt_row.specs.declared.row.Row.{Row}
use Rattle.lt_row.specs.Row.{stands_at, line, queue_at, record_of, HasQueues}
use Rattle.lt_row.specs.RowStepped.{IsRow, UpdatesRow}

-- A row whose queues have no nodes.
module _ (m : Maps) (r : Row) (no_nodes : IsEmpty m r.id) where
  no_line : (kind : QueueKind) → line m (queue_at r.id kind) ≡ []
  no_line kind = ap (stands_at m) (no_nodes kind)

  pub new_linked : has_record m r.id ≡ true → IsSound m → HasQueues m r.id
  new_linked there sound = record {
    sound = sound;
    there = there;
    one_reservation = rw (no_line Reservation) (omega arith);
    named = λ kind. rw (no_line kind) tt;
  }

  pub new_record : record_of m r ≡ record empty { holder = r.holder; distinguished = r.distinguished }
  new_record = rw (no_line Reservation, no_line Writers, no_line Readers) refl

-- a new row, which nobody has locked, is a row
pub new_row : (m : Maps) (r : Row) → IsEmpty m r.id → has_record m r.id ≡ true → IsSound m → record_of m r ≡ empty → IsRow m r
new_row m r no_nodes there sound is = record {
  linked = new_linked m r no_nodes there sound;
  lawful = subst IsLawful (sym is) empty_is_lawful;
}

-- a row stays a row, whether the call is made or fails
pub row_after : {E : Type 0} (old new : Maps) (r after : Row) (pass : ℕ) (call : Call) (lets : List Through) (result : Result Reply E) (X : Type 0) → (X → (new ≡ old) × (after ≡ r)) → IsRow old r → IfOk result (UpdatesRow old new r after (λ x. step x pass call) lets) → OnErr result X → IsRow new after
row_after old new r after pass call lets (Ok reply) X same row went err = record {
  linked = subst (HasQueues new) (sym went.same_id) went.linked;
  lawful = subst IsLawful (sym went.is_outcome.moved) (step_keeps_lawful (record_of old r) pass call row.lawful);
}
row_after old new r after pass call lets (Err e) X same row ok err = let kept = same err in subst (λ m. IsRow m after) (sym kept.0) (subst (IsRow old) (sym kept.1) row)
