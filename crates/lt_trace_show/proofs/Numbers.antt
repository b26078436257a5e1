-- Lists of numbers that name those who changed.
use Rattle.std.proofs.Common.{◌≡◌, ◌≤◌, ◌<◌, ℕ, ◌+◌, ◌-◌, Bool, true, false, nat_eq, if◌then◌else◌, Option, Some, None, List, [], ◌∷◌, ◌++◌, length, take, drop, get_or, inl, inr, ◌⊎◌, ⊎_elim, refl, sym, ap, subst, ◌∙◌, arith, zero, suc}
use Rattle.std.specs.Prelude.{Contains, map, IfSome, slice_range}
use Rattle.std.specs.List.{find}
use Rattle.std.proofs.lemmas.Bool.Decides.{nat_tests}
use Rattle.std.specs.Ordering.{nat_cmp, is_lt}
use Rattle.std.specs.Cmp.{nat_cmp_total}
use Rattle.std.specs.List.Sorted.{IsSorted}
use Rattle.std.proofs.lemmas.List.Sorted.{sorted_far, ranks_by}
use Rattle.std.proofs.lemmas.List.{map-append, get_or-map, length-map}
use Rattle.std.proofs.lemmas.List.Elements.{Contains-append_left, Contains-append_right, Contains-append_cases}
use Rattle.lt_rules.specs.declared.queued.QueuedRequest.{QueuedRequest}
use Rattle.lt_rules.specs.declared.queued.QueuedWriter.{QueuedWriter}
use Rattle.lt_rules.specs.Rules.{Record, number_of, writer_number}
use Rattle.lt_trace_show.specs.declared.timeline.Lane.{Lane}
use Rattle.lt_trace_show.specs.declared.timeline.Lane.TheVariants.{Request}
use Rattle.lt_trace_show.specs.declared.timeline.Phase.{Phase}
use Rattle.lt_trace_show.specs.declared.timeline.Phase.TheVariants.{Reserved}
use Rattle.lt_trace_show.specs.Phases.{queued_phase, reserved_phase, request_phase}
use Rattle.lt_trace_show.specs.Owners.{holder_lanes, reservation_lanes, writer_lane, request_lane, lanes_in}
use Rattle.lt_trace_show.specs.Change.{reservation_numbers, KeepsNumbers, NamesWriters, NamesReaders, NamesReservation, NamesAll, NeverFall, IsChange}
use Rattle.lt_trace_show.proofs.Changed.{in_parts, found_same, there_before}

pub mapped : {X Y : Type 0} (f : X → Y) (xs : List X) (x : X) → Contains xs x → Contains (map f xs) (f x)
mapped f xs x c =
    let long : length (map f xs) ≡ length xs = rw length-map refl in
    let lt = c.1 in
    (c.0, omega arith, get_or-map f xs c.0 x (f x) lt ∙ ap f c.2)

single : {Y : Type 0} (a b : Y) (k : ℕ) → k < 1 → get_or (a ∷ []) k b ≡ b → a ≡ b
single a b zero lt e = e
single a b (suc k) lt e = absurd (omega arith)

kept_mapped : {Y : Type 0} (f : ℕ → Y) (xs old new : List ℕ) (y : Y) → ((n : ℕ) → Contains xs n → Contains old n) → KeepsNumbers old new → Contains (map f xs) y → Contains (map f new) y
kept_mapped f [] old new y has kept c = absurd (let lt = c.1 in omega arith)
kept_mapped f (x ∷ xs) old new y has kept c =
    ⊎_elim (λ h. subst (Contains (map f new)) (single (f x) y h.0 h.1 h.2) (mapped f new x (kept x (has x (Contains-append_left (x ∷ []) xs x (0, omega arith, refl))))))
    (λ t. kept_mapped f xs old new y (λ n m. has n (Contains-append_right (x ∷ []) xs n m)) kept t)
    (Contains-append_cases (f x ∷ []) (map f xs) y c)

pub lanes_kept : (old new : List ℕ) (l : Lane) → KeepsNumbers old new → Contains (map Request old) l → Contains (map Request new) l
lanes_kept old new l kept c = kept_mapped Request old old new l (λ n m. m) kept c

pub writers_kept : (before after : List QueuedWriter) (old new : List ℕ) → KeepsNumbers old new → NamesWriters before after old → NamesWriters before after new
writers_kept before after old new kept h = record {
  others = λ n absent. h.others n (λ c. absent (kept n c));
  named = λ l c. ⊎_elim (λ m. inl (lanes_kept old new l kept m)) (λ m. inr m) (h.named l c);
}

pub readers_kept : (before after : List QueuedRequest) (old new : List ℕ) → KeepsNumbers old new → NamesReaders before after old → NamesReaders before after new
readers_kept before after old new kept h = record {
  others = λ n absent. h.others n (λ c. absent (kept n c));
  named = λ l c. ⊎_elim (λ m. inl (lanes_kept old new l kept m)) (λ m. inr m) (h.named l c);
}

if_kept : (o : Option QueuedRequest) (old new : List ℕ) → KeepsNumbers old new → IfSome o (λ q. Contains old (number_of q)) → IfSome o (λ q. Contains new (number_of q))
if_kept None old new kept h = h
if_kept (Some q) old new kept h = kept (number_of q) h

pub reservation_kept : (before after : Option QueuedRequest) (old new : List ℕ) → KeepsNumbers old new → NamesReservation before after old → NamesReservation before after new
reservation_kept before after old new kept h = record {
  old = if_kept before old new kept h.old;
  new = if_kept after old new kept h.new;
}

reserved_in : (o : Option QueuedRequest) (numbers : List ℕ) → ((n : ℕ) → Contains (reservation_numbers o) n → Contains numbers n) → IfSome o (λ q. Contains numbers (number_of q))
reserved_in None numbers has = tt
reserved_in (Some q) numbers has = has (number_of q) (0, omega arith, refl)

pub reservation_named : (before after : Option QueuedRequest) (old : List ℕ) → NamesReservation before after ((old ++ reservation_numbers before) ++ reservation_numbers after)
reservation_named before after old = record {
  old = reserved_in before _ (λ n c. Contains-append_left (old ++ reservation_numbers before) (reservation_numbers after) n (Contains-append_right old (reservation_numbers before) n c));
  new = reserved_in after _ (λ n c. Contains-append_right (old ++ reservation_numbers before) (reservation_numbers after) n c);
}

pub pushed_keeps : (old mid mid' : List ℕ) → KeepsNumbers old ((old ++ mid) ++ mid')
pushed_keeps old mid mid' = λ n c. Contains-append_left (old ++ mid) mid' n (Contains-append_left old mid n c)

module _ {X : Type 0} (number : X → ℕ) (before after : List X) (old : List ℕ) (front back : ℕ)
    (low : front + back ≤ length before) (low' : front + back ≤ length after)
    (same : take front before ≡ take front after) (tail : drop (length before - back) before ≡ drop (length after - back) after) where
  abbrev pub mid : List X
  mid = slice_range before front (length before - back)

  abbrev pub mid' : List X
  mid' = slice_range after front (length after - back)

  parts : before ≡ take front after ++ (mid ++ drop (length after - back) after)
  parts = in_parts before front back low ∙ ap (λ xs. xs ++ (mid ++ drop (length before - back) before)) same ∙ ap (λ xs. take front after ++ (mid ++ xs)) tail

  pub others_same : (n : ℕ) → (Contains ((old ++ map number mid) ++ map number mid') n → ⊥) → find (λ x. nat_eq (number x) n) after ≡ find (λ x. nat_eq (number x) n) before
  others_same n absent = found_same number n before after (take front after) mid mid' (drop (length after - back) after) parts (in_parts after front back low')
      (λ c. absent (Contains-append_left (old ++ map number mid) (map number mid') n (Contains-append_right old (map number mid) n c)))
      (λ c. absent (Contains-append_right (old ++ map number mid) (map number mid') n c))

  pub named_or_before : {Y : Type 0} (f : X → Y) (g : ℕ → Y) → map f mid' ≡ map g (map number mid') → (y : Y) → Contains (map f after) y → Contains (map g ((old ++ map number mid) ++ map number mid')) y ⊎ Contains (map f before) y
  named_or_before f g is y c =
      ⊎_elim (λ m. inl (subst (λ ys. Contains ys y) (sym (map-append g (old ++ map number mid) (map number mid'))) (Contains-append_right (map g (old ++ map number mid)) (map g (map number mid')) y (subst (λ ys. Contains ys y) is m))))
      (λ b. inr b)
      (there_before f before after (take front after) mid mid' (drop (length after - back) after) parts (in_parts after front back low') y c)

writer_lanes : (ws : List QueuedWriter) → map writer_lane ws ≡ map Request (map writer_number ws)
writer_lanes [] = refl
writer_lanes (w ∷ ws) = ap (λ ls. writer_lane w ∷ ls) (writer_lanes ws)

reader_lanes : (qs : List QueuedRequest) → map request_lane qs ≡ map Request (map number_of qs)
reader_lanes [] = refl
reader_lanes (q ∷ qs) = ap (λ ls. request_lane q ∷ ls) (reader_lanes qs)

pub writers_named : (before after : List QueuedWriter) (old : List ℕ) (front back : ℕ) → front + back ≤ length before → front + back ≤ length after → take front before ≡ take front after → drop (length before - back) before ≡ drop (length after - back) after
    → NamesWriters before after ((old ++ map writer_number (slice_range before front (length before - back))) ++ map writer_number (slice_range after front (length after - back)))
writers_named before after old front back low low' same tail = record {
  others = others_same writer_number before after old front back low low' same tail;
  named = named_or_before writer_number before after old front back low low' same tail writer_lane Request (writer_lanes _);
}

pub readers_named : (before after : List QueuedRequest) (old : List ℕ) (front back : ℕ) → front + back ≤ length before → front + back ≤ length after → take front before ≡ take front after → drop (length before - back) before ≡ drop (length after - back) after
    → NamesReaders before after ((old ++ map number_of (slice_range before front (length before - back))) ++ map number_of (slice_range after front (length after - back)))
readers_named before after old front back low low' same tail = record {
  others = others_same number_of before after old front back low low' same tail;
  named = named_or_before number_of before after old front back low low' same tail request_lane Request (reader_lanes _);
}

reserved_by : (n : ℕ) (q : QueuedRequest) (numbers : List ℕ) (p : Phase) (t : Bool) → nat_eq (number_of q) n ≡ t → (Contains numbers n → ⊥) → Contains numbers (number_of q) → (if t then Reserved else p) ≡ p
reserved_by n q numbers p true e absent has = let is : number_of q ≡ n = grind (arith, nat_tests) in absurd (absent (subst (Contains numbers) is has))
reserved_by n q numbers p false e absent has = refl

not_reserved : (n : ℕ) (o : Option QueuedRequest) (numbers : List ℕ) (p : Phase) → (Contains numbers n → ⊥) → IfSome o (λ q. Contains numbers (number_of q)) → reserved_phase n o p ≡ p
not_reserved n None numbers p absent has = refl
not_reserved n (Some q) numbers p absent has = reserved_by n q numbers p (nat_eq (number_of q) n) refl absent has

pub phase_same : (n : ℕ) (before after : Record) (numbers : List ℕ) → NamesReservation before.reservation after.reservation numbers → NamesWriters before.writers after.writers numbers → NamesReaders before.readers after.readers numbers → (Contains numbers n → ⊥) → request_phase n after ≡ request_phase n before
phase_same n before after numbers reservation writers readers absent =
    let queued : queued_phase n after.writers after.readers ≡ queued_phase n before.writers before.readers = rw (writers.others n absent, readers.others n absent) refl in
    not_reserved n after.reservation numbers (queued_phase n after.writers after.readers) absent reservation.new ∙ queued ∙ sym (not_reserved n before.reservation numbers (queued_phase n before.writers before.readers) absent reservation.old)

reserved_lane : (o : Option QueuedRequest) (numbers : List ℕ) (l : Lane) → IfSome o (λ q. Contains numbers (number_of q)) → Contains (reservation_lanes o) l → Contains (map Request numbers) l
reserved_lane None numbers l has c = absurd (let lt = c.1 in omega arith)
reserved_lane (Some q) numbers l has c = kept_mapped Request (number_of q ∷ []) numbers numbers l (λ n m. subst (Contains numbers) (single (number_of q) n m.0 m.1 m.2) has) (λ n m. m) c

pub all_named : (before after : Record) (numbers : List ℕ) → NamesReservation before.reservation after.reservation numbers → NamesWriters before.writers after.writers numbers → NamesReaders before.readers after.readers numbers → (l : Lane) → Contains (lanes_in after) l → Contains (holder_lanes after.holder ++ map Request numbers) l ⊎ Contains (lanes_in before) l
all_named before after numbers reservation writers readers l c =
    let ws = map writer_lane after.writers in
    let rs = map request_lane after.readers in
    let ws' = map writer_lane before.writers in
    let rs' = map request_lane before.readers in
    let new : Contains (map Request numbers) l → Contains (holder_lanes after.holder ++ map Request numbers) l = λ m. Contains-append_right (holder_lanes after.holder) (map Request numbers) l m in
    let old : Contains (ws' ++ rs') l → Contains (lanes_in before) l = λ m. Contains-append_right (holder_lanes before.holder) (reservation_lanes before.reservation ++ (ws' ++ rs')) l (Contains-append_right (reservation_lanes before.reservation) (ws' ++ rs') l m) in
    ⊎_elim (λ h. inl (Contains-append_left (holder_lanes after.holder) (map Request numbers) l h))
    (λ a. ⊎_elim (λ h. inl (new (reserved_lane after.reservation numbers l reservation.new h)))
    (λ b. ⊎_elim (λ w. ⊎_elim (λ m. inl (new m)) (λ m. inr (old (Contains-append_left ws' rs' l m))) (writers.named l w))
    (λ r. ⊎_elim (λ m. inl (new m)) (λ m. inr (old (Contains-append_right ws' rs' l m))) (readers.named l r))
    (Contains-append_cases ws rs l b))
    (Contains-append_cases (reservation_lanes after.reservation) (ws ++ rs) l a))
    (Contains-append_cases (holder_lanes after.holder) (reservation_lanes after.reservation ++ (ws ++ rs)) l c)

not_below : (a b : ℕ) → is_lt (nat_cmp b a) ≡ false → a ≤ b
not_below a b e = grind (arith, nat_tests)

pub rises_sorted : (xs : List ℕ) → IsSorted nat_cmp xs → NeverFall xs
rises_sorted xs sorted = λ i j low lt. not_below (get_or xs i 0) (get_or xs j 0) (sorted_far _ (ranks_by nat_cmp_total (λ a. a)) xs sorted i j 0 low lt)

pub all_kept : (before after : Record) (old new : List ℕ) → KeepsNumbers old new → NamesAll before after old → NamesAll before after new
all_kept before after old new kept h = record {
  reservation = reservation_kept before.reservation after.reservation old new kept h.reservation;
  writers = writers_kept before.writers after.writers old new kept h.writers;
  readers = readers_kept before.readers after.readers old new kept h.readers;
}

pub is_change : (before after : Record) (numbers : List ℕ) (phases : List Phase) → NeverFall numbers → NamesAll before after numbers → phases ≡ map (λ n. request_phase n after) numbers → IsChange before after numbers phases
is_change before after numbers phases rises h given = record {
  rises = rises;
  given = given;
  others = λ n absent. phase_same n before after numbers h.reservation h.writers h.readers absent;
  named = λ l c. all_named before after numbers h.reservation h.writers h.readers l c;
}
