-- The links and the map of keys, read as one map of records.
use Rattle.std.proofs.Common.{◌≡◌, ◌≢◌, ◌≤◌, ℕ, true, false, cond, List, [], ◌∷◌, map, Option, Some, None, unwrap_or, length, refl, sym, ap, ◌∙◌, IsSome, IfSome, subst, arith, inl, inr}
use mathlib.Core.Bool.{true≢false}
use Rattle.std.proofs.lemmas.Result.{IfOk-weaker}
use Rattle.std.specs.Option.{option_map}
use Rattle.std.specs.Result.{IfOk, OnErr}
use Rattle.std.specs.declared.result.Result.{Result}
use Rattle.std.specs.declared.result.Result.TheVariants.{Ok, Err}
use Rattle.std.specs.Cmp.Lexicographic.{nat_list_cmp_total}
use Rattle.std.specs.FinMap as finmap
use Rattle.std.specs.FinMap.{get, find, gets, from_entries, get-empty, get-from_entries, get-remove}
use Rattle.std.specs.Cmp.{eq_by_cmp_equiv}
use Rattle.std.specs.HashMap as hash
use Rattle.std.specs.HashMap.{UpdatesBy}
use Rattle.std.specs.Str.{bytes_eq}
use Rattle.std.specs.Cmp.Lexicographic.{texts_ties}
use Rattle.std.specs.Map.{lookup}
use Rattle.lt_ids.specs.declared.ticket.Through.{Through}
use Rattle.lt_links.specs.declared.ids.Queue.{Queue}
use Rattle.lt_links.specs.declared.ids.QueueKind.{QueueKind}
use Rattle.lt_links.specs.declared.ids.QueueKind.TheVariants.{Writers, Readers, Reservation}
use Rattle.lt_links.specs.Maps.{Maps, queue, stand, has_record, IsEmpty, AddsRecord, DropsRecord, IsSound, no_maps}
use Rattle.lt_links.proofs.Rings.{is_itself}
use Rattle.lt_links.proofs.Rings as rings
use Rattle.lt_rules.specs.declared.queued.Holder.{Holder}
use Rattle.lt_rules.specs.declared.call.Reply.{Reply}
use Rattle.lt_rules.specs.declared.call.Reply.TheVariants.{Taken}
use Rattle.lt_rules.specs.Rules.{Record, empty, is_empty, Outcome, unchanged, take_lock}
use Rattle.lt_rules.specs.Table.{Records, record_at, with_record, AreSound, IsKept, IsStep}
use Rattle.lt_rules.specs.Lawful.{IsLawful}
use Rattle.lt_rules.specs.Memory.{how_many, HasRoom}
use Rattle.lt_rules.proofs.Rooms.{room_stepped}
use Rattle.lt_rules.proofs.Maps.{order, same_records, same_or_apart, is_apart, kept_record, here_dropped, others_dropped, sound_filled}
use Rattle.lt_row.specs.declared.row.Row.{Row}
use Rattle.lt_row.specs.Row.{no_stand, stand_at, line, queue_at, record_of, HasQueues}
use Rattle.lt_row.specs.RowStepped.{KeepsOthers, IsRow, RowStepped}
use Rattle.lt_row.proofs.Records.{new_linked, new_record}
use Rattle.lt_lock.specs.Linked.{Rows, row_at, records_of, IsUsed, AreLinked, IsTable, IsEmptied, emptied_id}

-- the test of a map's keys does not pass another key
is_other : (q k : List ℕ) → q ≢ k → bytes_eq k q ≡ false
is_other q k apart = texts_ties k q ∙ is_apart q k apart

-- a lookup among mapped values finds the image of what it found before
find_mapped : {V X : Type 0} (g : V → X) (k : List ℕ) (es : List (List ℕ × V)) → find order k (map (λ e. (e.0, g e.1)) es) ≡ option_map g (lookup (bytes_eq k) es)
find_mapped g k [] = refl
find_mapped g k (e ∷ es) =
    ap (λ b. cond b (Some (g e.1)) (find order k (map (λ e. (e.0, g e.1)) es))) (sym (texts_ties k e.0))
    ∙ (elim (bytes_eq k e.0) as (λ b. cond b (Some (g e.1)) (find order k (map (λ e. (e.0, g e.1)) es)) ≡ option_map g (cond b (Some e.1) (lookup (bytes_eq k) es))) [
      | true ↦ refl
      | false ↦ find_mapped g k es
    ])

-- a key's record is the one that its row and the links give
pub get_of : (m : Maps) (rows : Rows) (k : List ℕ) → get (records_of m rows) k ≡ option_map (record_of m) (row_at rows k)
get_of m rows k = get-from_entries nat_list_cmp_total (map (λ e. (e.0, record_of m e.1)) rows.entries) k ∙ find_mapped (record_of m) k rows.entries

-- the record of a row that a lookup finds
pub found : (m : Maps) (rows : Rows) (k : List ℕ) (r : Row) → Some r ≡ row_at rows k → record_at (records_of m rows) k ≡ record_of m r
found m rows k r e = ap (λ o. unwrap_or o empty) (get_of m rows k ∙ ap (option_map (record_of m)) (sym e))

pub missing : (m : Maps) (rows : Rows) (k : List ℕ) → None ≡ row_at rows k → record_at (records_of m rows) k ≡ empty
missing m rows k e = ap (λ o. unwrap_or o empty) (get_of m rows k ∙ ap (option_map (record_of m)) (sym e))

nil_of : {X : Type 0} (xs : List X) → length xs ≡ 0 → xs ≡ []
nil_of [] e = refl
nil_of (x ∷ xs) e = absurd (omega arith)

-- a map of records without a record has no row
rows_of_none : (m : Maps) (es : List (List ℕ × Row)) → from_entries {R = order} (map (λ e. (e.0, record_of m e.1)) es) ≡ finmap.empty → length es ≡ 0
rows_of_none m [] none = refl
rows_of_none m (e ∷ es) none =
    let some : find order e.0 (map (λ x. (x.0, record_of m x.1)) (e ∷ es)) ≡ Some (record_of m e.1) = rw ((eq_by_cmp_equiv nat_list_cmp_total).refl e.0) refl in
    let gone : None ≡ Some (record_of m e.1) = sym (get-empty order e.0) ∙ ap (λ x. get x e.0) (sym none) ∙ get-from_entries nat_list_cmp_total (map (λ x. (x.0, record_of m x.1)) (e ∷ es)) e.0 ∙ some in
    absurd cc

pub no_rows : (m : Maps) (rows : Rows) → records_of m rows ≡ finmap.empty → length rows.entries ≡ 0
no_rows m rows none = rows_of_none m rows.entries none

pub no_records : (m : Maps) (rows : Rows) → length rows.entries ≡ 0 → records_of m rows ≡ finmap.empty
no_records m rows e = rw (nil_of rows.entries e) refl

pub no_row : (rows : Rows) (k : List ℕ) → length rows.entries ≡ 0 → None ≡ row_at rows k
no_row rows k e = rw (nil_of rows.entries e) refl

-- a row that a lookup finds is linked, and its record is lawful
pub linked_at : (m : Maps) (rows : Rows) (k : List ℕ) (r : Row) → AreLinked m rows → Some r ≡ row_at rows k → HasQueues m r.id
linked_at m rows k r linked e = linked.each k r (sym e)

pub row_is : (m : Maps) (rows : Rows) (k : List ℕ) (r : Row) → IsTable m rows → Some r ≡ row_at rows k → IsRow m r
row_is m rows k r t e = record {
  linked = linked_at m rows k r t.linked e;
  lawful =
      let sound = t.records_sound k in
      let here : get (records_of m rows) k ≡ Some (record_of m r) = get_of m rows k ∙ ap (option_map (record_of m)) (sym e) in
      (rw here at sound).lawful;
}

-- and the record is not empty
pub filled_at : (m : Maps) (rows : Rows) (k : List ℕ) (r : Row) → IsTable m rows → Some r ≡ row_at rows k → is_empty (record_of m r) ≡ false
filled_at m rows k r t e =
    let sound = t.records_sound k in
    let here : get (records_of m rows) k ≡ Some (record_of m r) = get_of m rows k ∙ ap (option_map (record_of m)) (sym e) in
    (rw here at sound).filled

-- if the entries of a row's queues are as before, so is its record
record Stays (old new : Maps) (id : ℕ) : Type 0 where
  lines : (kind : QueueKind) → line new (queue_at id kind) ≡ line old (queue_at id kind)
  there : has_record new id ≡ has_record old id

record_stays : (old new : Maps) (r : Row) → Stays old new r.id → record_of new r ≡ record_of old r
record_stays old new r s = rw (s.lines Reservation, s.lines Writers, s.lines Readers) refl

linked_stays : (old new : Maps) (id : ℕ) → IsSound new → Stays old new id → HasQueues old id → HasQueues new id
linked_stays old new id sound s linked = record {
  sound = sound;
  there = s.there ∙ linked.there;
  one_reservation = subst (λ l. length l ≤ 1) (sym (s.lines Reservation)) linked.one_reservation;
  named = λ kind. rw (s.lines kind) (linked.named kind);
}

option_stays : (old new : Maps) (o : Option Row) → ((r : Row) → o ≡ Some r → Stays old new r.id) → option_map (record_of new) o ≡ option_map (record_of old) o
option_stays old new None stays = refl
option_stays old new (Some r) stays = ap Some (record_stays old new r (stays r refl))

-- Each key has the same row as before, and no row's queues have changed.
module _ (old new : Maps) (rows after : Rows) (same : (q : List ℕ) → row_at after q ≡ row_at rows q) (stays : (q : List ℕ) (r : Row) → row_at rows q ≡ Some r → Stays old new r.id) where
  records_stay : records_of new after ≡ records_of old rows
  records_stay = same_records _ _ (λ q. get_of new after q ∙ ap (option_map (record_of new)) (same q) ∙ option_stays old new (row_at rows q) (stays q) ∙ sym (get_of old rows q))

  rows_stay : ((id : ℕ) → has_record new id ≡ true → has_record old id ≡ true) → IsSound new → AreLinked old rows → AreLinked new after
  rows_stay fewer sound linked = record {
    sound = sound;
    each = λ q r e. linked_stays old new r.id sound (stays q r (sym (same q) ∙ e)) (linked.each q r (sym (same q) ∙ e));
    apart = λ i j q r e f. linked.apart i j q r (sym (same i) ∙ e) (sym (same j) ∙ f);
    used = λ id there. let o = linked.used id (fewer id there) in (o.0, o.1, same o.0 ∙ o.2, o.3);
  }

-- One key's row is replaced or dropped, and the other rows' queues are as before.
module _ (old new : Maps) (rows after : Rows) (k : List ℕ) (w : Option Row) (u : UpdatesBy bytes_eq (bytes_eq k) rows after w) (stays : (q : List ℕ) (r : Row) → q ≢ k → row_at rows q ≡ Some r → Stays old new r.id) where
  -- the other keys' records are as before
  others_written : (q : List ℕ) → q ≢ k → get (records_of new after) q ≡ get (records_of old rows) q
  others_written q apart = get_of new after q ∙ ap (option_map (record_of new)) (u.2 q (is_other q k apart)) ∙ option_stays old new (row_at rows q) (λ r. stays q r apart) ∙ sym (get_of old rows q)

  here_written : get (records_of new after) k ≡ option_map (record_of new) w
  here_written = get_of new after k ∙ ap (option_map (record_of new)) u.1

  -- the rows are linked, if the new one is, and its queues are its own
  linked_written : AreLinked old rows → IsSound new → ((a : Row) → w ≡ Some a → HasQueues new a.id) → ((a : Row) (q : List ℕ) (r : Row) → w ≡ Some a → q ≢ k → row_at rows q ≡ Some r → a.id ≢ r.id) → ((id : ℕ) → has_record new id ≡ true → IsUsed after id) → AreLinked new after
  linked_written linked sound here own used = record {
    sound = sound;
    each = λ q r e. elim (same_or_apart q k) [
      | inl s ↦ here r (at_key q r s.0 e)
      | inr d ↦ linked_stays old new r.id sound (stays q r d.0 (at_other q r d.0 e)) (linked.each q r (at_other q r d.0 e))
    ];
    apart = λ i j q r e f same. elim (same_or_apart i k) [
      | inl s ↦ elim (same_or_apart j k) [
        | inl t ↦ s.0 ∙ sym t.0
        | inr d ↦ absurd (own q j r (at_key i q s.0 e) d.0 (at_other j r d.0 f) same)
      ]
      | inr d ↦ elim (same_or_apart j k) [
        | inl t ↦ absurd (own r i q (at_key j r t.0 f) d.0 (at_other i q d.0 e) (sym same))
        | inr d2 ↦ linked.apart i j q r (at_other i q d.0 e) (at_other j r d2.0 f) same
      ]
    ];
    used = used;
  }
    where
      at_key : (q : List ℕ) (r : Row) → q ≡ k → row_at after q ≡ Some r → w ≡ Some r
      at_key q r s e = sym u.1 ∙ ap (row_at after) (sym s) ∙ e

      at_other : (q : List ℕ) (r : Row) → q ≢ k → row_at after q ≡ Some r → row_at rows q ≡ Some r
      at_other q r d e = sym (u.2 q (is_other q k d)) ∙ e

-- the row that uses these queues, if its key is a different one
other_used : (rows after : Rows) (k : List ℕ) (w : Option Row) (u : UpdatesBy bytes_eq (bytes_eq k) rows after w) (id : ℕ) → (o : IsUsed rows id) → o.0 ≢ k → IsUsed after id
other_used rows after k w u id o apart = (o.0, o.1, u.2 o.0 (is_other o.0 k apart) ∙ o.2, o.3)

-- the row's id at the key, if this row uses the queues
used_here : (rows : Rows) (k : List ℕ) (r : Row) → Some r ≡ row_at rows k → (id : ℕ) (o : IsUsed rows id) → o.0 ≡ k → r.id ≡ id
used_here rows k r some id o s =
    let at : Some r ≡ Some o.1 = some ∙ ap (row_at rows) (sym s) ∙ o.2 in
    let same : r.id ≡ o.1.id = cc in
    same ∙ o.3

-- The row at a key changed with an outcome.
module _ (old new : Maps) (rows rows' : Rows) (k : List ℕ) (r after : Row) (linked : AreLinked old rows) (some : Some r ≡ row_at rows k) (u : UpdatesBy bytes_eq (bytes_eq k) rows rows' (Some after)) where
  -- the other rows have other queues
  other_id : (q : List ℕ) (o : Row) → q ≢ k → row_at rows q ≡ Some o → o.id ≢ r.id
  other_id q o apart e same = apart (linked.apart q k o r e (sym some) same)

  others_stay : KeepsOthers old new r.id → (q : List ℕ) (o : Row) → q ≢ k → row_at rows q ≡ Some o → Stays old new o.id
  others_stay others q o apart e = record {
    lines = λ kind. others.lines (queue_at o.id kind) (other_id q o apart e);
    there = others.records o.id;
  }

  went_step : (act : Record → Outcome) (reply : Reply) (lets : List Through) → RowStepped old new after r.id (act (record_of old r)) reply lets → IsStep (records_of old rows) k act reply lets (records_of new rows')
  went_step act reply lets went =
      let at : record_at (records_of old rows) k ≡ record_of old r = found old rows k r some in
      record {
        replied = rw at went.is_outcome.replied;
        let_through = rw at went.is_outcome.let_through;
        here = rw at (ap (λ o. unwrap_or o empty) (here_written old new rows rows' k (Some after) u (others_stay went.others)) ∙ went.is_outcome.moved);
        others = others_written old new rows rows' k (Some after) u (others_stay went.others);
      }

  went_linked : (outcome : Outcome) (reply : Reply) (lets : List Through) → RowStepped old new after r.id outcome reply lets → AreLinked new rows'
  went_linked outcome reply lets went = linked_written old new rows rows' k (Some after) u (others_stay went.others) linked went.linked.sound
      (λ a e. subst (λ i. HasQueues new i) (sym went.same_id ∙ same a e) went.linked)
      (λ a q o e apart f i. other_id q o apart f (sym i ∙ sym (same a e) ∙ went.same_id))
      (λ id there.
      let o = linked.used id (sym (went.others.records id) ∙ there) in
      elim (same_or_apart o.0 k) [
        | inl s ↦ (k, after, u.1, went.same_id ∙ used_here rows k r some id o s.0)
        | inr d ↦ other_used rows rows' k (Some after) u id o d.0
      ])
    where
      same : (a : Row) → Some after ≡ Some a → after.id ≡ a.id
      same a e = cc

  -- the row is written back unchanged
  same_rows : after ≡ r → (q : List ℕ) → row_at rows' q ≡ row_at rows q
  same_rows same q = elim (same_or_apart q k) [
    | inl s ↦ ap (row_at rows') s.0 ∙ u.1 ∙ ap Some same ∙ some ∙ ap (row_at rows) (sym s.0)
    | inr d ↦ u.2 q (is_other q k d.0)
  ]

  all_stay : new ≡ old → (id : ℕ) → Stays old new id
  all_stay m id = record { lines = λ kind. ap (λ x. line x (queue_at id kind)) m; there = ap (λ x. has_record x id) m }

  same_written : new ≡ old → after ≡ r → records_of new rows' ≡ records_of old rows
  same_written m same = records_stay old new rows rows' (same_rows same) (λ q o e. all_stay m o.id)

  same_linked : new ≡ old → after ≡ r → AreLinked new rows'
  same_linked m same = rows_stay old new rows rows' (same_rows same) (λ q o e. all_stay m o.id) (λ id there. ap (λ x. has_record x id) (sym m) ∙ there) (subst IsSound (sym m) linked.sound) linked

-- what follows in either case
pub either_way : {T E : Type 0} (r : Result T E) (P : T → Type 0) (Q Y : Type 0) → ((t : T) → P t → Y) → (Q → Y) → IfOk r P → OnErr r Q → Y
either_way (Ok t) P Q Y f g ok err = f t ok
either_way (Err e) P Q Y f g ok err = g err

-- what holds at all holds after an error
pub on_err : {T E : Type 0} (r : Result T E) (X : Type 0) → X → OnErr r X
on_err (Ok t) X x = tt
on_err (Err e) X x = x

-- a step at a key without a row, if the act leaves an empty record unchanged
pub nothing_stepped : (m : Maps) (rows rows' : Rows) (k : List ℕ) (act : Record → Outcome) (reply : Reply) (lets : List Through) → None ≡ row_at rows k → rows' ≡ rows → act empty ≡ unchanged empty reply → lets ≡ [] → IsStep (records_of m rows) k act reply lets (records_of m rows')
nothing_stepped m rows rows' k act reply lets none same nothing no_lets =
    let at : record_at (records_of m rows) k ≡ empty = missing m rows k none in
    let outcome : act (record_at (records_of m rows) k) ≡ unchanged empty reply = ap act at ∙ nothing in
    record {
      replied = sym (ap (λ o. o.reply) outcome);
      let_through = no_lets ∙ sym (ap (λ o. o.lets) outcome);
      here = ap (λ x. record_at (records_of m x) k) same ∙ at ∙ sym (ap (λ o. o.after) outcome);
      others = λ q apart. ap (λ x. get (records_of m x) q) same;
    }

-- The effect on the table of a call on the row that a lookup found, for a reply and for an error.
module _ {E : Type 0} (old new : Maps) (rows rows' : Rows) (k : List ℕ) (r after : Row) (table : IsTable old rows) (some : Some r ≡ row_at rows k) (w : hash.WritesThrough bytes_eq (bytes_eq k) rows after rows') (act : Record → Outcome) (lets : List Through) (result : Result Reply E) where
  updates : UpdatesBy bytes_eq (bytes_eq k) rows rows' (Some after)
  updates = w.3 (subst IsSome some refl)

  abbrev goes : Reply → Type 0
  goes reply = RowStepped old new after r.id (act (record_of old r)) reply lets

  pub ok_step : IfOk result goes → IfOk result (λ reply. IsStep (records_of old rows) k act reply lets (records_of new rows'))
  ok_step ok = IfOk-weaker result goes _ (λ reply. went_step old new rows rows' k r after table.linked some updates act reply lets) ok

  module _ (X : Type 0) (same : X → (new ≡ old) × (after ≡ r)) where
    pub either_linked : IfOk result goes → OnErr result X → AreLinked new rows'
    either_linked ok err = either_way result goes X (AreLinked new rows')
        (λ reply. went_linked old new rows rows' k r after table.linked some updates (act (record_of old r)) reply lets)
        (λ x. same_linked old new rows rows' k r after table.linked some updates (same x).0 (same x).1)
        ok err

    pub err_records : X → records_of new rows' ≡ records_of old rows
    err_records x = same_written old new rows rows' k r after table.linked some updates (same x).0 (same x).1

    -- the list of lets keeps room for every key
    pub either_room : (room more : ℕ) → room ≤ more → (how_many (record_of old r) ≤ room → how_many (record_of new after) ≤ more) → IfOk result goes → OnErr result X → HasRoom (records_of old rows) room → HasRoom (records_of new rows') more
    either_room room more grown here ok err has = either_way result goes X (HasRoom (records_of new rows') more)
        (λ reply went. room_stepped (records_of old rows) (records_of new rows') k act reply lets room more
        (went_step old new rows rows' k r after table.linked some updates act reply lets went) grown
        (λ few. subst (λ x. how_many x ≤ more) (went.is_outcome.moved ∙ ap (λ x. (act x).after) (sym (found old rows k r some))) (here (subst (λ x. how_many x ≤ room) (found old rows k r some) few))) has)
        (λ x q. let few = subst (λ m. how_many (record_at m q) ≤ room) (sym (err_records x)) (has q) in omega (arith, few, grown))
        ok err

    -- if the act leaves the record lawful and not empty, the table invariant holds
    pub either_table : ((q : Record) → IsLawful q → IsLawful (act q).after) → is_empty (act (record_of old r)).after ≡ false → IfOk result goes → OnErr result X → IsTable new rows'
    either_table keeps filled ok err = record {
      linked = either_linked ok err;
      records_sound = either_way result goes X (AreSound (records_of new rows'))
          (λ reply went. sound_filled (records_of old rows) (records_of new rows') k act reply lets keeps (went_step old new rows rows' k r after table.linked some updates act reply lets went) (rw (found old rows k r some) filled) table.records_sound)
          (λ x. rw (err_records x) table.records_sound)
          ok err;
    }

-- The row was written back after a step of its own: the table made that step.
pub stepped : (old new : Maps) (rows rows' : Rows) (k : List ℕ) (r after : Row) → IsTable old rows → (some : Some r ≡ row_at rows k) → hash.WritesThrough bytes_eq (bytes_eq k) rows after rows' → (act : Record → Outcome) (reply : Reply) (lets : List Through) → RowStepped old new after r.id (act (record_of old r)) reply lets → IsStep (records_of old rows) k act reply lets (records_of new rows')
stepped old new rows rows' k r after table some w = went_step old new rows rows' k r after table.linked some (w.3 (subst IsSome some refl))

map_same : {A B : Type 0} (f g : A → B) → ((a : A) → f a ≡ g a) → (xs : List A) → map f xs ≡ map g xs
map_same f g same [] = refl
map_same f g same (x ∷ xs) = ap (λ y. y ∷ map f xs) (same x) ∙ ap (λ l. g x ∷ l) (map_same f g same xs)

-- if the queues and their entries are as before, so are the lists of entries
lines_same : (old new : Maps) → ((q : Queue) → queue new q ≡ queue old q) → ((n : ℕ) → stand new n ≡ stand old n) → (q : Queue) → line new q ≡ line old q
lines_same old new queues stands q = ap (map (stand_at new)) (queues q) ∙ map_same (stand_at new) (stand_at old) (λ n. ap (λ s. unwrap_or s no_stand) (stands n)) (queue old q)

-- A row that a lookup finds is to be dropped exactly if it is empty.
pub emptied_at : (m : Maps) (rows : Rows) (k : List ℕ) (r : Row) → Some r ≡ row_at rows k → IsEmptied m rows k (emptied_id m r)
emptied_at m rows k r some = elim (is_empty (record_of m r)) as (λ b. is_empty (record_of m r) ≡ b → IsEmptied m rows k (cond b (Some r.id) None)) [
  | true ↦ λ e. (r, some, refl, e)
  | false ↦ λ e. kept_record (records_of m rows) k (rw (found m rows k r some) e)
] refl

-- the same, of a row that is written back
pub emptied_after : (m : Maps) (rows rows' : Rows) (k : List ℕ) (r after : Row) → Some r ≡ row_at rows k → hash.WritesThrough bytes_eq (bytes_eq k) rows after rows' → IsEmptied m rows' k (emptied_id m after)
emptied_after m rows rows' k r after some w = emptied_at m rows' k after (sym (w.3 (subst IsSome some refl)).1)

-- The row at a key is dropped, with its queues.
module _ (old new : Maps) (rows rows' : Rows) (k : List ℕ) (r : Row) (linked : AreLinked old rows) (some : Some r ≡ row_at rows k) (u : UpdatesBy bytes_eq (bytes_eq k) rows rows' None) (drops : DropsRecord old new r.id) where
  left_stay : (q : List ℕ) (o : Row) → q ≢ k → row_at rows q ≡ Some o → Stays old new o.id
  left_stay q o apart e = record {
    lines = λ kind. lines_same old new drops.queues_are drops.stands_are (queue_at o.id kind);
    there = drops.records_are o.id ∙ elim (rings.same_or_apart o.id r.id) [
      | inl s ↦ absurd (apart (linked.apart q k o r e (sym some) s.0))
      | inr d ↦ rw d.1 refl
    ];
  }

  pub dropped_linked : IsSound new → AreLinked new rows'
  dropped_linked sound = linked_written old new rows rows' k None u left_stay linked sound (λ a e. absurd (cc)) (λ a q o e. absurd (cc))
      (λ id there. elim (rings.same_or_apart id r.id) [
        | inl s ↦ absurd (true≢false (sym there ∙ drops.records_are id ∙ rw s.1 refl))
        | inr d ↦
            let o = linked.used id (sym (drops.records_are id ∙ rw d.1 refl) ∙ there) in
            elim (same_or_apart o.0 k) [
              | inl s ↦ absurd (d.0 (sym (used_here rows k r some id o s.0)))
              | inr e ↦ other_used rows rows' k None u id o e.0
            ]
      ])

  pub dropped_records : is_empty (record_of old r) ≡ true → records_of new rows' ≡ with_record (records_of old rows) k (record_at (records_of old rows) k)
  dropped_records gone =
      let at : record_at (records_of old rows) k ≡ record_of old r = found old rows k r some in
      rw at (same_records _ _ (λ q. elim (same_or_apart q k) [
        | inl s ↦ ap (get (records_of new rows')) s.0 ∙ here_written old new rows rows' k None u left_stay ∙ sym (rw gone (get-remove nat_list_cmp_total (records_of old rows) k q ∙ rw s.1 refl))
        | inr d ↦ others_written old new rows rows' k None u left_stay q d.0 ∙ sym (others_dropped (records_of old rows) k (record_of old r) q d.0)
      ]))

-- a key whose record is empty has no row
pub no_row_at : (m : Maps) (rows : Rows) (k : List ℕ) → IsTable m rows → record_at (records_of m rows) k ≡ empty → row_at rows k ≡ None
no_row_at m rows k table none = elim (row_at rows k) as (λ o. row_at rows k ≡ o → o ≡ None) [
  | None ↦ λ e. refl
  | Some r ↦ λ e.
      let here : get (records_of m rows) k ≡ Some (record_of m r) = get_of m rows k ∙ ap (option_map (record_of m)) e in
      let filled : is_empty (record_of m r) ≡ false = filled_at m rows k r table (sym e) in
      let gone : record_of m r ≡ empty = ap (λ o. unwrap_or o empty) (sym here) ∙ none in
      absurd (true≢false (ap is_empty (sym gone) ∙ filled))
] refl

-- A key that has no record gets a row, with new queues.
module _ (old new : Maps) (rows rows' : Rows) (k : List ℕ) (a : Row) (linked : AreLinked old rows) (u : UpdatesBy bytes_eq (bytes_eq k) rows rows' (Some a)) (fresh : has_record old a.id ≡ false) (adds : AddsRecord old new a.id) (no_nodes : IsEmpty new a.id) where
  is_new : (q : List ℕ) (o : Row) → row_at rows q ≡ Some o → a.id ≢ o.id
  is_new q o e same = true≢false (sym (linked.each q o e).there ∙ ap (has_record old) (sym same) ∙ fresh)

  both_stay : (q : List ℕ) (o : Row) → q ≢ k → row_at rows q ≡ Some o → Stays old new o.id
  both_stay q o apart e = record {
    lines = λ kind. lines_same old new adds.queues_are adds.stands_are (queue_at o.id kind);
    there = adds.records_are o.id ∙ elim (rings.same_or_apart o.id a.id) [
      | inl s ↦ absurd (is_new q o e (sym s.0))
      | inr d ↦ rw d.1 refl
    ];
  }

  new_there : has_record new a.id ≡ true
  new_there = adds.records_are a.id ∙ rw (is_itself a.id) refl

  pub inserted_linked : row_at rows k ≡ None → IsSound new → AreLinked new rows'
  inserted_linked none sound = linked_written old new rows rows' k (Some a) u both_stay linked sound
      (λ b e. subst (λ i. HasQueues new i) (same b e) (new_linked new a no_nodes new_there sound))
      (λ b q o e apart f i. is_new q o f (same b e ∙ i))
      (λ id there. elim (rings.same_or_apart id a.id) [
        | inl s ↦ (k, a, u.1, sym s.0)
        | inr d ↦
            let o = linked.used id (sym (adds.records_are id ∙ rw d.1 refl) ∙ there) in
            elim (same_or_apart o.0 k) [
              | inl s ↦ let p : None ≡ Some o.1 = sym none ∙ ap (row_at rows) (sym s.0) ∙ o.2 in cc
              | inr e ↦ other_used rows rows' k (Some a) u id o e.0
            ]
      ])
    where
      same : (b : Row) → Some a ≡ Some b → a.id ≡ b.id
      same b e = cc

  -- The key's lock, which has no holder, is taken.
  pub inserted_step : record_at (records_of old rows) k ≡ empty → (h : Holder) → a.holder ≡ Some h → a.distinguished ≡ None → IsStep (records_of old rows) k (λ r. take_lock r h) Taken [] (records_of new rows')
  inserted_step none h holder first = record {
    replied = refl;
    let_through = rw none refl;
    here = ap (λ o. unwrap_or o empty) (here_written old new rows rows' k (Some a) u both_stay) ∙ new_record new a no_nodes ∙ rw (none, holder, first) refl;
    others = others_written old new rows rows' k (Some a) u both_stay;
  }

-- New queues are dropped again, because the allocation for the row failed.
module _ (old mid new : Maps) (rows rows' : Rows) (id : ℕ) (linked : AreLinked old rows) (same : rows'.entries ≡ rows.entries) (fresh : has_record old id ≡ false) (adds : AddsRecord old mid id) (drops : DropsRecord mid new id) where
  refused_stay : (q : List ℕ) (o : Row) → row_at rows q ≡ Some o → Stays old new o.id
  refused_stay q o e = record {
    lines = λ kind. lines_same mid new drops.queues_are drops.stands_are (queue_at o.id kind) ∙ lines_same old mid adds.queues_are adds.stands_are (queue_at o.id kind);
    there = drops.records_are o.id ∙ elim (rings.same_or_apart o.id id) [
      | inl s ↦ absurd (true≢false (sym (linked.each q o e).there ∙ ap (has_record old) s.0 ∙ fresh))
      | inr d ↦ rw d.1 (adds.records_are o.id ∙ rw d.1 refl)
    ];
  }

  pub refused_records : records_of new rows' ≡ records_of old rows
  refused_records = records_stay old new rows rows' (λ q. ap (lookup (bytes_eq q)) same) refused_stay

  pub refused_linked : IsSound new → AreLinked new rows'
  refused_linked sound = rows_stay old new rows rows' (λ q. ap (lookup (bytes_eq q)) same) refused_stay
      (λ i there. elim (rings.same_or_apart i id) [
        | inl s ↦ absurd (true≢false (sym there ∙ drops.records_are i ∙ rw s.1 refl))
        | inr d ↦ sym (drops.records_are i ∙ rw d.1 (adds.records_are i ∙ rw d.1 refl)) ∙ there
      ]) sound linked

-- a table without keys, over links without nodes
pub nothing_linked : (m : Maps) (rows : Rows) → m ≡ no_maps → IsSound m → rows.entries ≡ [] → IsTable m rows
nothing_linked m rows blank sound none = record {
  linked = record {
    sound = sound;
    each = λ q r e. absurd (no_row q r e);
    apart = λ i j q r e f same. absurd (no_row i q e);
    used = λ id there. let none_there : has_record no_maps id ≡ false = grind (arith, gets) in absurd (true≢false (sym there ∙ ap (λ x. has_record x id) blank ∙ none_there));
  };
  records_sound = λ q. subst (λ o. IfSome o IsKept) (sym (get_of m rows q ∙ ap (option_map (record_of m)) (at q))) tt;
}
  where
    at : (q : List ℕ) → row_at rows q ≡ None
    at q = ap (lookup (bytes_eq q)) none

    no_row : (q : List ℕ) (r : Row) → row_at rows q ≡ Some r → ⊥
    no_row q r e = let p = sym (at q) ∙ e in cc

-- A map with the same entries.
module _ (m : Maps) (rows rows' : Rows) (same : rows'.entries ≡ rows.entries) where
  kept_records : records_of m rows' ≡ records_of m rows
  kept_records = records_stay m m rows rows' (λ q. ap (lookup (bytes_eq q)) same) (λ q r e. record { lines = λ kind. refl; there = refl })

  pub kept_table : IsTable m rows → IsTable m rows'
  kept_table table = record {
    linked = rows_stay m m rows rows' (λ q. ap (lookup (bytes_eq q)) same) (λ q r e. record { lines = λ kind. refl; there = refl }) (λ id there. there) table.linked.sound table.linked;
    records_sound = rw kept_records table.records_sound;
  }

-- The effect on the table of a call on the row of an entry, for a reply and for an error.
module _ {E : Type 0} (old new : Maps) (rows rows' : Rows) (k : List ℕ) (r after : Row) (table : IsTable old rows) (some : Some r ≡ row_at rows k) (u : UpdatesBy bytes_eq (bytes_eq k) rows rows' (Some after)) (act : Record → Outcome) (lets : List Through) (result : Result Reply E) where
  abbrev comes : Reply → Type 0
  comes reply = RowStepped old new after r.id (act (record_of old r)) reply lets

  pub entry_step : IfOk result comes → IfOk result (λ reply. IsStep (records_of old rows) k act reply lets (records_of new rows'))
  entry_step ok = IfOk-weaker result comes _ (λ reply. went_step old new rows rows' k r after table.linked some u act reply lets) ok

  module _ (X : Type 0) (same : X → (new ≡ old) × (after ≡ r)) where
    pub entry_records : X → records_of new rows' ≡ records_of old rows
    entry_records x = same_written old new rows rows' k r after table.linked some u (same x).0 (same x).1

    pub entry_table : ((q : Record) → IsLawful q → IsLawful (act q).after) → is_empty (act (record_of old r)).after ≡ false → IfOk result comes → OnErr result X → IsTable new rows'
    entry_table keeps filled ok err = record {
      linked = either_way result comes X (AreLinked new rows')
          (λ reply. went_linked old new rows rows' k r after table.linked some u (act (record_of old r)) reply lets)
          (λ x. same_linked old new rows rows' k r after table.linked some u (same x).0 (same x).1)
          ok err;
      records_sound = either_way result comes X (AreSound (records_of new rows'))
          (λ reply went. sound_filled (records_of old rows) (records_of new rows') k act reply lets keeps (went_step old new rows rows' k r after table.linked some u act reply lets went) (rw (found old rows k r some) filled) table.records_sound)
          (λ x. rw (entry_records x) table.records_sound)
          ok err;
    }

-- ---- the room for lets

-- a call that brings no request to its key keeps the room
pub room_of_call : {E : Type 0} (result : Result Reply E) (old new : Records) (k : List ℕ) (act : Record → Outcome) (lets : List Through) (room more : ℕ) → IfOk result (λ reply. IsStep old k act reply lets new) → OnErr result ((new ≡ old) × (lets ≡ [])) → room ≤ more → how_many (act (record_at old k)).after ≤ how_many (record_at old k) → HasRoom old room → HasRoom new more
room_of_call (Ok reply) old new k act lets room more step failed grown few has q = room_stepped old new k act reply lets room more step grown (λ fits. omega (arith, few, fits, grown)) has q
room_of_call (Err e) old new k act lets room more step failed grown few has q =
    let here = subst (λ m. how_many (record_at m q) ≤ room) (sym failed.0) (has q) in
    omega (arith, here, grown)

-- a row that goes because it is empty takes no room
pub room_dropped : (mid new : Records) (k : List ℕ) (more : ℕ) → new ≡ with_record mid k (record_at mid k) → HasRoom mid more → HasRoom new more
room_dropped mid new k more is has q = subst (λ m. how_many (record_at m q) ≤ more) (sym is) (elim (same_or_apart q k) [
  | inl s ↦ subst (λ x. how_many (record_at (with_record mid k (record_at mid k)) x) ≤ more) (sym s.0) (subst (λ r. how_many r ≤ more) (sym (here_dropped mid k)) (has k))
  | inr d ↦ subst (λ r. how_many r ≤ more) (sym (ap (λ o. unwrap_or o empty) (others_dropped mid k (record_at mid k) q d.0))) (has q)
])
