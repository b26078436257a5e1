-- What the step that frees a lock tells: the lock was held until then, and what was put is the key's value.
use Rattle.std.proofs.Common.{◌≡◌, ℕ, Bool, zero, suc, ◌+◌, ◌<◌, ◌≤◌, true, Option, Some, None, List, [], ◌∷◌, ◌++◌, length, take, drop, refl, sym, ap, subst, ◌∙◌, arith, length-append, append_assoc}
use Rattle.std.specs.Prelude.{IfSome, MatchOption, is_some, slice_get}
use Rattle.std.specs.Option.{option_map}
use Rattle.std.specs.List.{AllZip, AllByRecursion}
use Rattle.std.proofs.lemmas.List.{take-append-drop, take-append-le}
use mathlib.Core.List.{IsPrefix}
use Rattle.lt_ids.specs.declared.timestamp.Timestamp.{Timestamp}
use Rattle.lt_rules.specs.declared.call.Call.{Call}
use Rattle.lt_rules.specs.declared.call.Reply.{Reply}
use Rattle.lt_entry.specs.declared.entry.Entry.{Entry}
use Rattle.lt_words.specs.declared.event.Event.{Event}
use Rattle.lt_words.specs.History.{part, shard_of}
use Rattle.lt_words.specs.Laws.{PartsBegin}
use Rattle.lt_tenure.specs.Tenure.{IsTenure, IsHeldAt}
use Rattle.lt_tenure.specs.Laws.{TenureLasts, TenuresStay}
use Rattle.example_cells.specs.declared.cell.Cell.{Cell}
use Rattle.example_cells.specs.declared.cell.PastTenure.{PastTenure}
use Rattle.example_cells.specs.Knowing.{Put, installed, CellMap, cell_at, last_of, tenure_of, CellKnows, CellsKnow, InstallsWith}
use Rattle.example_cells.specs.Committing.{step_outcome, IsTakenAt, tenure_of_lock, Installs, IsFreed, LeavesValue}
use Rattle.example_cells.specs.declared.committed.LockTenure.{LockTenure}

index_is_inside : (xs : List Entry) (k : ℕ) (t : List ℕ × Call × Reply) → option_map step_outcome (slice_get xs k) ≡ Some t → k < length xs
index_is_inside [] k t is = absurd cc
index_is_inside (y ∷ ys) zero t is = omega arith
index_is_inside (y ∷ ys) (suc k) t is = omega (arith, index_is_inside ys k t is)

longer : (xs ys : List Entry) → IsPrefix xs ys → length xs ≤ length ys
longer xs ys p = omega (arith, sym (ap length p.1) ∙ length-append xs p.0)

cell_ended : (key : List ℕ) (es : List Entry) (o : Option Cell) (t : PastTenure) → CellKnows key es o → last_of o ≡ Some t → IsTenure es t.txn (tenure_of key t)
cell_ended key es None t knows is = absurd cc
cell_ended key es (Some c) t knows is = subst (λ l. IfSome l (λ x. IsTenure es x.txn (tenure_of key x))) is knows.ended

-- the lock was held at the point
pub was_held : PartsBegin → TenureLasts → (shards : ℕ) (old seen point from : List Event) (key : List ℕ) (txn : ℕ) (ts : Timestamp) (taken freed : ℕ) (w : CellMap) →
    IsTakenAt shards key txn ts taken from → IsPrefix from point → IsPrefix point old → length (part (shard_of key shards) old) ≤ freed → CellsKnow (take (freed + 1) (part (shard_of key shards) seen)) w →
    last_of (cell_at w key) ≡ Some (record { txn = txn; taken = taken; freed = freed }) → IsHeldAt shards seen point txn (record { key = key; taken = taken; freed = freed })
was_held begins lasts shards old seen point from key txn ts taken freed w took early before later know last =
    let s = shard_of key shards in
    let es = part s seen in
    let ended = cell_ended key (take (freed + 1) es) (cell_at w key) (record { txn = txn; taken = taken; freed = freed }) (know key) last in
    record {
      tenure = subst (λ l. IsTenure l txn (record { key = key; taken = taken; freed = freed })) (take-append-drop (freed + 1) es) (lasts (take (freed + 1) es) (drop (freed + 1) es) txn (record { key = key; taken = taken; freed = freed }) ended);
      before = omega (arith, index_is_inside (part s from) taken _ took, longer (part s from) (part s point) (begins s from point early));
      after = omega (arith, later, longer (part s point) (part s old) (begins s point old before));
    }

-- what was put is the value of a cell that is there
record WasInstalled (left : Bool) (o n : Option Cell) (put : Option Put) : Type 0 where
  old : Cell
  new : Cell
  was : o ≡ Some old
  is : n ≡ Some new
  value : new ≡ installed left put old

was_installed : (left : Bool) (o n : Option Cell) (put : Option Put) (t : PastTenure) → MatchOption o (n ≡ None) (λ c. n ≡ Some (installed left put c)) → last_of o ≡ Some t → WasInstalled left o n put
was_installed left None n put t at last = absurd cc
was_installed left (Some c) n put t at last = record { old = c; new = installed left put c; was = refl; is = at; value = refl }

pub installs : (left : Bool) (es : List Entry) (key : List ℕ) (freed : ℕ) (put : Option Put) (v w : CellMap) (t : PastTenure) → CellsKnow (take (freed + 1) es) v → InstallsWith left v w key put → CellsKnow (take (freed + 1) es) w → last_of (cell_at v key) ≡ Some t → Installs es key freed put
installs left es key freed put v w t knew at know last =
    let x = was_installed left (cell_at v key) (cell_at w key) put t at.here last in
    record { cells = v; old = x.old; new = x.new; knew = knew; was = x.was; after = w; know = know; is = x.is; left = left; value = x.value }

pub if_freed : {A : Type 0} (P : A → Type 0) (o : Option A) → ((at : A) → o ≡ Some at → P at) → IfSome o P
if_freed P None each = tt
if_freed P (Some at) each = each at refl

-- ---- all locks, one after the other

pub zip_more : {A B : Type 0} (R : A → B → Type 0) (xs : List A) (ys : List B) (x : A) (y : B) → AllZip R xs ys → R x y → AllZip R (xs ++ x ∷ []) (ys ++ y ∷ [])
zip_more R [] [] x y all one = (one, tt)
zip_more R [] (b ∷ ys) x y all one = absurd all
zip_more R (a ∷ xs) [] x y all one = absurd all
zip_more R (a ∷ xs) (b ∷ ys) x y all one = (all.0, zip_more R xs ys x y all.1 one)

pub zip_map : {A B : Type 0} (R S : A → B → Type 0) (xs : List A) (ys : List B) → ((a : A) (b : B) → R a b → S a b) → AllZip R xs ys → AllZip S xs ys
zip_map R S [] [] f all = tt
zip_map R S [] (b ∷ ys) f all = absurd all
zip_map R S (a ∷ xs) [] f all = absurd all
zip_map R S (a ∷ xs) (b ∷ ys) f all = (f a b all.0, zip_map R S xs ys f all.1)

pub followed : {A : Type 0} (xs ys zs : List A) → IsPrefix xs ys → IsPrefix ys zs → IsPrefix xs zs
followed xs ys zs p q = (p.0 ++ q.0, sym (append_assoc xs p.0 q.0) ∙ (ap (λ w. w ++ q.0) p.1 ∙ q.1))

-- what a key's lock came to stays, whatever steps follow
taken_again : (es more : List Entry) (n : ℕ) → n ≤ length es → take n (es ++ more) ≡ take n es
taken_again es more n within = take-append-le n es more within

installs_on : (es fs : List Entry) (key : List ℕ) (freed : ℕ) (put : Option Put) → IsPrefix es fs → freed < length es → Installs es key freed put → Installs fs key freed put
installs_on es fs key freed put p within i =
    let after : take (freed + 1) fs ≡ take (freed + 1) es = ap (take (freed + 1)) (sym p.1) ∙ taken_again es p.0 (freed + 1) (omega (arith, within)) in
    record {
      cells = i.cells;
      old = i.old;
      new = i.new;
      knew = subst (λ l. CellsKnow l i.cells) (sym after) i.knew;
      was = i.was;
      after = i.after;
      know = subst (λ l. CellsKnow l i.after) (sym after) i.know;
      is = i.is;
      left = i.left;
      value = i.value;
    }

entry_inside : (xs : List Entry) (k : ℕ) (e : Entry) → slice_get xs k ≡ Some e → k < length xs
entry_inside [] k e is = absurd cc
entry_inside (y ∷ ys) zero e is = omega arith
entry_inside (y ∷ ys) (suc k) e is = omega (arith, entry_inside ys k e is)

pub leaves : (shards : ℕ) (seen point : List Event) (key : List ℕ) (txn taken freed : ℕ) → IsHeldAt shards seen point txn (record { key = key; taken = taken; freed = freed }) → Installs (part (shard_of key shards) seen) key freed None → LeavesValue shards seen key
leaves shards seen point key txn taken freed held i = (freed, entry_inside (part (shard_of key shards) seen) freed held.tenure.freed.0 held.tenure.freed.1, i)

pub leaves_on : PartsBegin → (shards : ℕ) (seen later : List Event) (key : List ℕ) → IsPrefix seen later → LeavesValue shards seen key → LeavesValue shards later key
leaves_on begins shards seen later key p l =
    let s = shard_of key shards in
    (l.0, omega (arith, l.1, longer (part s seen) (part s later) (begins s seen later p)), installs_on (part s seen) (part s later) key l.0 None (begins s seen later p) l.1 l.2)

pub freed_on : TenuresStay → PartsBegin → (shards : ℕ) (seen later point : List Event) (key : List ℕ) (txn taken : ℕ) (put : Option Put) (t : LockTenure) → IsPrefix seen later → IsFreed shards seen point key txn taken put t → IsFreed shards later point key txn taken put t
freed_on stay begins shards seen later point key txn taken put t p f =
    let s = shard_of key shards in
    let here : t.freed < length (part (shard_of t.key shards) seen) = entry_inside (part (shard_of t.key shards) seen) t.freed f.held.tenure.freed.0 f.held.tenure.freed.1 in
    record {
      key_is = f.key_is;
      taken_is = f.taken_is;
      held = stay shards seen later point txn (tenure_of_lock t) p f.held;
      installs = installs_on (part s seen) (part s later) key t.freed put (begins s seen later p) (subst (λ k. t.freed < length (part (shard_of k shards) seen)) f.key_is here) f.installs;
    }

pub some_of : {A : Type 0} (o : Option A) → is_some o ≡ true → (n : A) × (o ≡ Some n)
some_of None is = absurd cc
some_of (Some n) is = (n, refl)

pub every_more : {A : Type 0} (P Q : A → Type 0) (xs : List A) (x : A) → ((y : A) → P y → Q y) → AllByRecursion P xs → Q x → AllByRecursion Q (xs ++ x ∷ [])
every_more P Q [] x f all one = (one, tt)
every_more P Q (y ∷ xs) x f all one = (f y all.0, every_more P Q xs x f all.1 one)

pub some_at : {A : Type 0} (P : A → Type 0) (o : Option A) (x : A) → o ≡ Some x → IfSome o P → P x
some_at P None x is holds = absurd cc
some_at P (Some y) x is holds = let same : y ≡ x = cc is in subst P same holds
