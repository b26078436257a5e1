-- What holds of a lawful record, case by case of its lock: the form that the proofs use.
use Rattle.std.proofs.Common.{◌≡◌, ◌≢◌, ◌<◌, ◌⊎◌, ℕ, Bool, false, true, zero, suc, take, drop, List, [], ◌∷◌, ◌++◌, map, Option, Some, None, IsNone, IsSome, IfSome, refl, sym, subst, arith, nat_eq, inl, inr}
use Rattle.std.specs.Prelude.{option_to_list}
use Rattle.std.proofs.lemmas.List.{map-append}
use Rattle.std.specs.List.{AllByRecursion, IsDistinct}
use mathlib.Core.Bool.{true≢false}
use Rattle.std.proofs.lemmas.Bool.Decides.{nat_tests}
use Rattle.lt_ids.specs.Ids.{is_below}
use Rattle.lt_rules.specs.declared.queued.Holder.{Holder}
use Rattle.lt_rules.specs.declared.queued.QueuedRequest.{QueuedRequest}
use Rattle.lt_rules.specs.declared.queued.QueuedWriter.{QueuedWriter}
use Rattle.lt_rules.specs.Rules.{Record, number_of, writer_number, has_txn, settle}
use Rattle.lt_rules.specs.Lawful.{IsLawful, Rises}

-- The requests that may be queued at a lock. At a free lock there are none. At a reserved one there are only
-- writers with greater numbers. At a held one there are only requests of other transactions, and no reader below
-- the holder's timestamp.
abbrev pub FitsLock : Option Holder → Option QueuedRequest → List QueuedWriter → List QueuedRequest → Type 0
FitsLock None None writers readers = (writers ≡ []) × (readers ≡ [])
FitsLock None (Some s) writers readers = AllByRecursion (λ w. number_of s < writer_number w) writers × (readers ≡ [])
FitsLock (Some h) None writers readers =
    AllByRecursion (λ w. w.request.txn ≢ Some h.txn) writers
    × AllByRecursion (λ q. (q.txn ≢ Some h.txn) × (is_below q.ts h.ts ≡ false)) readers
FitsLock (Some h) (Some s) writers readers = ⊥

-- A writer without a transaction is active.
abbrev pub IsAwake : QueuedWriter → Type 0
IsAwake w = has_txn w ≡ false → w.active ≡ true

-- only requests with a transaction hold the reservation or are inactive writers
pub record AreOwned (r : Record) : Type 0 where
  pub reservation : IfSome r.reservation (λ s. IsSome s.txn)
  pub writers : AllByRecursion IsAwake r.writers

-- no two readers have the same number
abbrev pub Differ : List QueuedRequest → Type 0
Differ [] = Unit {0}
Differ (q ∷ qs) = AllByRecursion (λ p. nat_eq (number_of p) (number_of q) ≡ false) qs × Differ qs

-- no reader has a writer's number
abbrev pub AreApart : List QueuedWriter → List QueuedRequest → Type 0
AreApart writers readers = AllByRecursion (λ q. AllByRecursion (λ w. nat_eq (writer_number w) (number_of q) ≡ false) writers) readers

pub all_weaker : {X : Type 0} (P Q : X → Type 0) → ((x : X) → P x → Q x) → (xs : List X) → AllByRecursion P xs → AllByRecursion Q xs
all_weaker P Q f [] a = tt
all_weaker P Q f (x ∷ xs) a = (f x a.0, all_weaker P Q f xs a.1)

pub all_map : {X Y : Type 0} (P : Y → Type 0) (f : X → Y) (xs : List X) → AllByRecursion (λ x. P (f x)) xs → AllByRecursion P (map f xs)
all_map P f [] a = tt
all_map P f (x ∷ xs) a = (a.0, all_map P f xs a.1)

pub all_unmap : {X Y : Type 0} (P : Y → Type 0) (f : X → Y) (xs : List X) → AllByRecursion P (map f xs) → AllByRecursion (λ x. P (f x)) xs
all_unmap P f [] a = tt
all_unmap P f (x ∷ xs) a = (a.0, all_unmap P f xs a.1)

pub all_append : {X : Type 0} (P : X → Type 0) (xs ys : List X) → AllByRecursion P xs → AllByRecursion P ys → AllByRecursion P (xs ++ ys)
all_append P [] ys a b = b
all_append P (x ∷ xs) ys a b = (a.0, all_append P xs ys a.1 b)

pub all_front : {X : Type 0} (P : X → Type 0) (xs ys : List X) → AllByRecursion P (xs ++ ys) → AllByRecursion P xs
all_front P [] ys a = tt
all_front P (x ∷ xs) ys a = (a.0, all_front P xs ys a.1)

pub all_back : {X : Type 0} (P : X → Type 0) (xs ys : List X) → AllByRecursion P (xs ++ ys) → AllByRecursion P ys
all_back P [] ys a = a
all_back P (x ∷ xs) ys a = all_back P xs ys a.1

pub all_both : {X : Type 0} (P Q : X → Type 0) (xs : List X) → AllByRecursion P xs → AllByRecursion Q xs → AllByRecursion (λ x. P x × Q x) xs
all_both P Q [] a b = tt
all_both P Q (x ∷ xs) a b = ((a.0, b.0), all_both P Q xs a.1 b.1)

pub all_take : {X : Type 0} (P : X → Type 0) (n : ℕ) (xs : List X) → AllByRecursion P xs → AllByRecursion P (take n xs)
all_take P zero xs a = tt
all_take P (suc n) [] a = tt
all_take P (suc n) (x ∷ xs) a = (a.0, all_take P n xs a.1)

pub all_drop : {X : Type 0} (P : X → Type 0) (n : ℕ) (xs : List X) → AllByRecursion P xs → AllByRecursion P (drop n xs)
all_drop P zero xs a = a
all_drop P (suc n) [] a = tt
all_drop P (suc n) (x ∷ xs) a = all_drop P n xs a.1

-- a relation between each of these and each of those, seen from the other side
pub all_flip : {X Y : Type 0} (R : X → Y → Type 0) (xs : List X) (ys : List Y) → AllByRecursion (λ x. AllByRecursion (R x) ys) xs → AllByRecursion (λ y. AllByRecursion (λ x. R x y) xs) ys
all_flip R xs [] a = tt
all_flip R xs (y ∷ ys) a = (
  all_weaker (λ x. AllByRecursion (R x) (y ∷ ys)) (λ x. R x y) (λ x b. b.0) xs a,
  all_flip R xs ys (all_weaker (λ x. AllByRecursion (R x) (y ∷ ys)) (λ x. AllByRecursion (R x) ys) (λ x b. b.1) xs a),
)

-- ---- no number occurs twice

abbrev Apart : List ℕ → List ℕ → Type 0
Apart ms ns = AllByRecursion (λ m. AllByRecursion (λ n. nat_eq m n ≡ false) ns) ms

pub distinct_append : {X : Type 0} (e : X → X → Bool) (xs ys : List X) → IsDistinct e xs → IsDistinct e ys → AllByRecursion (λ x. AllByRecursion (λ y. e x y ≡ false) ys) xs → IsDistinct e (xs ++ ys)
unfolding IsDistinct
distinct_append e [] ys d c a = c
distinct_append e (x ∷ xs) ys d c a = (all_append (λ y. e x y ≡ false) xs ys d.0 a.0, distinct_append e xs ys d.1 c a.1)

distinct_back : (ms ns : List ℕ) → IsDistinct nat_eq (ms ++ ns) → IsDistinct nat_eq ns
unfolding IsDistinct
distinct_back [] ns d = d
distinct_back (m ∷ ms) ns d = distinct_back ms ns d.1

distinct_apart : (ms ns : List ℕ) → IsDistinct nat_eq (ms ++ ns) → Apart ms ns
unfolding IsDistinct
distinct_apart [] ns d = tt
distinct_apart (m ∷ ms) ns d = (all_back (λ n. nat_eq m n ≡ false) ms ns d.0, distinct_apart ms ns d.1)

-- elements whose images are told apart by a test have images that differ
pub distinct_map : {X Y : Type 0} (e : Y → Y → Bool) (f : X → Y) (xs : List X) → IsDistinct (λ x y. e (f x) (f y)) xs → IsDistinct e (map f xs)
unfolding IsDistinct
distinct_map e f [] d = tt
distinct_map e f (x ∷ xs) d = (all_map (λ y. e (f x) y ≡ false) f xs d.0, distinct_map e f xs d.1)

-- whether two writers, or two requests, have the same number
abbrev pub same_writer : QueuedWriter → QueuedWriter → Bool
same_writer v w = nat_eq (writer_number v) (writer_number w)

abbrev pub same_request : QueuedRequest → QueuedRequest → Bool
same_request p q = nat_eq (number_of p) (number_of q)

pub rises_distinct : (ws : List QueuedWriter) → Rises ws → IsDistinct same_writer ws
unfolding IsDistinct
rises_distinct [] r = tt
rises_distinct (w ∷ ws) r = (all_weaker (λ v. writer_number w < writer_number v) (λ v. same_writer w v ≡ false) (λ v lt. grind (arith, nat_tests)) ws r.0, rises_distinct ws r.1)

pub writers_distinct : (ws : List QueuedWriter) → IsDistinct same_writer ws → IsDistinct nat_eq (map number_of (map (λ w. w.request) ws))
writers_distinct ws d = distinct_map nat_eq number_of (map (λ w. w.request) ws) (distinct_map same_request (λ w. w.request) ws d)

pub differ_distinct : (qs : List QueuedRequest) → Differ qs → IsDistinct same_request qs
unfolding IsDistinct
differ_distinct [] d = tt
differ_distinct (q ∷ qs) d = (all_weaker (λ p. nat_eq (number_of p) (number_of q) ≡ false) (λ p. same_request q p ≡ false) (λ p e. grind (arith, nat_tests)) qs d.0, differ_distinct qs d.1)

distinct_differ : (qs : List QueuedRequest) → IsDistinct nat_eq (map number_of qs) → Differ qs
unfolding IsDistinct
distinct_differ [] d = tt
distinct_differ (q ∷ qs) d =
    (all_weaker (λ p. nat_eq (number_of q) (number_of p) ≡ false) (λ p. nat_eq (number_of p) (number_of q) ≡ false) (λ p e. grind (arith, nat_tests)) qs (all_unmap (λ n. nat_eq (number_of q) n ≡ false) number_of qs d.0), distinct_differ qs d.1)

-- ---- the two forms are equivalent

fits_at : (holder : Option Holder) (s : Option QueuedRequest) (ws : List QueuedWriter) (rs : List QueuedRequest) → IsNone holder ⊎ IsNone s → (IsNone holder → IsNone s → ws ≡ []) → (IsNone holder → rs ≡ []) →
    IfSome s (λ s. AllByRecursion (λ w. number_of s < writer_number w) ws) → IfSome holder (λ h. AllByRecursion (λ q. q.txn ≢ Some h.txn) (map (λ w. w.request) ws ++ rs)) → IfSome holder (λ h. AllByRecursion (λ q. is_below q.ts h.ts ≡ false) rs) → FitsLock holder s ws rs
fits_at None None ws rs both free unheld least others above = (free refl refl, unheld refl)
fits_at None (Some s) ws rs both free unheld least others above = (least, unheld refl)
fits_at (Some h) None ws rs both free unheld least others above = (
  all_unmap (λ q. q.txn ≢ Some h.txn) (λ w. w.request) ws (all_front (λ q. q.txn ≢ Some h.txn) (map (λ w. w.request) ws) rs others),
  all_both (λ q. q.txn ≢ Some h.txn) (λ q. is_below q.ts h.ts ≡ false) rs (all_back (λ q. q.txn ≢ Some h.txn) (map (λ w. w.request) ws) rs others) above,
)
fits_at (Some h) (Some s) ws rs both free unheld least others above = elim both [ inl e ↦ true≢false e | inr e ↦ true≢false e ]

pub lawful_fits : (r : Record) → IsLawful r → FitsLock r.holder r.reservation r.writers r.readers
lawful_fits r l = fits_at r.holder r.reservation r.writers r.readers l.first.not_both l.first.free_has_no_writers l.first.unheld_has_no_readers l.first.reservation_is_least l.first.others_wait l.first.readers_are_not_below

-- the numbers of the queued requests
abbrev waiting_numbers : List QueuedWriter → List QueuedRequest → List ℕ
waiting_numbers ws rs = map number_of (map (λ w. w.request) ws) ++ map number_of rs

waiting_distinct : (s : Option QueuedRequest) (ws : List QueuedWriter) (rs : List QueuedRequest) → IsDistinct nat_eq (map number_of (option_to_list s) ++ map number_of (map (λ w. w.request) ws ++ rs)) → IsDistinct nat_eq (waiting_numbers ws rs)
waiting_distinct s ws rs d = rw map-append at (distinct_back (map number_of (option_to_list s)) (map number_of (map (λ w. w.request) ws ++ rs)) d)

pub lawful_differ : (r : Record) → IsLawful r → Differ r.readers
lawful_differ r l = distinct_differ r.readers (distinct_back (map number_of (map (λ w. w.request) r.writers)) (map number_of r.readers) (waiting_distinct r.reservation r.writers r.readers l.first.numbers_differ))

pub lawful_apart : (r : Record) → IsLawful r → AreApart r.writers r.readers
lawful_apart r l =
    let ms = map number_of (map (λ w. w.request) r.writers) in
    let apart = all_flip (λ m n. nat_eq m n ≡ false) ms (map number_of r.readers) (distinct_apart ms (map number_of r.readers) (waiting_distinct r.reservation r.writers r.readers l.first.numbers_differ)) in
    all_weaker (λ q. AllByRecursion (λ m. nat_eq m (number_of q) ≡ false) ms) (λ q. AllByRecursion (λ w. nat_eq (writer_number w) (number_of q) ≡ false) r.writers)
    (λ q a. all_unmap (λ w. nat_eq (number_of w) (number_of q) ≡ false) (λ w. w.request) r.writers (all_unmap (λ m. nat_eq m (number_of q) ≡ false) number_of (map (λ w. w.request) r.writers) a))
    r.readers (all_unmap (λ n. AllByRecursion (λ m. nat_eq m n ≡ false) ms) number_of r.readers apart)

not_both_of : (holder : Option Holder) (s : Option QueuedRequest) (ws : List QueuedWriter) (rs : List QueuedRequest) → FitsLock holder s ws rs → IsNone holder ⊎ IsNone s
not_both_of None s ws rs f = inl refl
not_both_of (Some h) None ws rs f = inr refl
not_both_of (Some h) (Some s) ws rs f = absurd f

no_writers_of : (holder : Option Holder) (s : Option QueuedRequest) (ws : List QueuedWriter) (rs : List QueuedRequest) → FitsLock holder s ws rs → IsNone holder → IsNone s → ws ≡ []
no_writers_of None None ws rs f a b = f.0
no_writers_of None (Some s) ws rs f a b = absurd (true≢false b)
no_writers_of (Some h) s ws rs f a b = absurd (true≢false a)

pub no_readers_of : (holder : Option Holder) (s : Option QueuedRequest) (ws : List QueuedWriter) (rs : List QueuedRequest) → FitsLock holder s ws rs → IsNone holder → rs ≡ []
no_readers_of None None ws rs f a = f.1
no_readers_of None (Some s) ws rs f a = f.1
no_readers_of (Some h) s ws rs f a = absurd (true≢false a)

least_of : (holder : Option Holder) (s : Option QueuedRequest) (ws : List QueuedWriter) (rs : List QueuedRequest) → FitsLock holder s ws rs → IfSome s (λ s. AllByRecursion (λ w. number_of s < writer_number w) ws)
least_of holder None ws rs f = tt
least_of None (Some s) ws rs f = f.0
least_of (Some h) (Some s) ws rs f = absurd f

others_of : (holder : Option Holder) (s : Option QueuedRequest) (ws : List QueuedWriter) (rs : List QueuedRequest) → FitsLock holder s ws rs → IfSome holder (λ h. AllByRecursion (λ q. q.txn ≢ Some h.txn) (map (λ w. w.request) ws ++ rs))
others_of None s ws rs f = tt
others_of (Some h) None ws rs f = all_append (λ q. q.txn ≢ Some h.txn) (map (λ w. w.request) ws) rs (all_map (λ q. q.txn ≢ Some h.txn) (λ w. w.request) ws f.0) (all_weaker (λ q. (q.txn ≢ Some h.txn) × (is_below q.ts h.ts ≡ false)) (λ q. q.txn ≢ Some h.txn) (λ q a. a.0) rs f.1)
others_of (Some h) (Some s) ws rs f = absurd f

above_of : (holder : Option Holder) (s : Option QueuedRequest) (ws : List QueuedWriter) (rs : List QueuedRequest) → FitsLock holder s ws rs → IfSome holder (λ h. AllByRecursion (λ q. is_below q.ts h.ts ≡ false) rs)
above_of None s ws rs f = tt
above_of (Some h) None ws rs f = all_weaker (λ q. (q.txn ≢ Some h.txn) × (is_below q.ts h.ts ≡ false)) (λ q. is_below q.ts h.ts ≡ false) (λ q a. a.1) rs f.1
above_of (Some h) (Some s) ws rs f = absurd f

distinct_waiting : (ws : List QueuedWriter) (rs : List QueuedRequest) → Rises ws → Differ rs → AreApart ws rs → IsDistinct nat_eq (map number_of (map (λ w. w.request) ws ++ rs))
distinct_waiting ws rs r d a =
    let ms = map number_of (map (λ w. w.request) ws) in
    let apart = all_weaker (λ q. AllByRecursion (λ w. nat_eq (writer_number w) (number_of q) ≡ false) ws) (λ q. AllByRecursion (λ m. nat_eq m (number_of q) ≡ false) ms)
    (λ q b. all_map (λ m. nat_eq m (number_of q) ≡ false) number_of (map (λ w. w.request) ws) (all_map (λ w. nat_eq (number_of w) (number_of q) ≡ false) (λ w. w.request) ws b)) rs a in
    rw map-append (distinct_append nat_eq ms (map number_of rs) (writers_distinct ws (rises_distinct ws r)) (distinct_map nat_eq number_of rs (differ_distinct rs d)) (all_flip (λ n m. nat_eq m n ≡ false) (map number_of rs) ms (all_map (λ n. AllByRecursion (λ m. nat_eq m n ≡ false) ms) number_of rs apart)))

distinct_of : (holder : Option Holder) (s : Option QueuedRequest) (ws : List QueuedWriter) (rs : List QueuedRequest) → FitsLock holder s ws rs → Rises ws → Differ rs → AreApart ws rs → IsDistinct nat_eq (map number_of (option_to_list s) ++ map number_of (map (λ w. w.request) ws ++ rs))
unfolding IsDistinct
distinct_of holder None ws rs f r d a = distinct_waiting ws rs r d a
distinct_of (Some h) (Some s) ws rs f r d a = absurd f
distinct_of None (Some s) ws rs f r d a =
    let above = all_weaker (λ w. number_of s < writer_number w) (λ w. nat_eq (number_of s) (writer_number w) ≡ false) (λ w lt. grind (arith, nat_tests)) ws f.0 in
    let writers = all_map (λ q. nat_eq (number_of s) (number_of q) ≡ false) (λ w. w.request) ws above in
    let all = all_append (λ q. nat_eq (number_of s) (number_of q) ≡ false) (map (λ w. w.request) ws) rs writers (subst (AllByRecursion (λ q. nat_eq (number_of s) (number_of q) ≡ false)) (sym f.1) tt) in
    (all_map (λ n. nat_eq (number_of s) n ≡ false) number_of (map (λ w. w.request) ws ++ rs) all, distinct_waiting ws rs r d a)

pub lawful_owned : (r : Record) → IsLawful r → AreOwned r
lawful_owned r l = record { reservation = l.reservation_has_txn; writers = l.writers_without_txn_wait }

pub lawful_from : (r : Record) → FitsLock r.holder r.reservation r.writers r.readers → Rises r.writers → Differ r.readers → AreApart r.writers r.readers → AreOwned r → settle r ≡ r → IsLawful r
lawful_from r f rises d a o s = record {
  first = record {
    not_both = not_both_of r.holder r.reservation r.writers r.readers f;
    free_has_no_writers = no_writers_of r.holder r.reservation r.writers r.readers f;
    unheld_has_no_readers = no_readers_of r.holder r.reservation r.writers r.readers f;
    writers_rise = rises;
    reservation_is_least = least_of r.holder r.reservation r.writers r.readers f;
    numbers_differ = distinct_of r.holder r.reservation r.writers r.readers f rises d a;
    others_wait = others_of r.holder r.reservation r.writers r.readers f;
    readers_are_not_below = above_of r.holder r.reservation r.writers r.readers f;
    is_settled = s;
  };
  reservation_has_txn = o.reservation;
  writers_without_txn_wait = o.writers;
}
