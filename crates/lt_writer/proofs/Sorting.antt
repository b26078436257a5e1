-- The result of a stable sort by key.
use Rattle.std.proofs.Common.{◌≡◌, ℕ, ◌+◌, ◌⊎◌, Bool, true, false, cond, not, ◌&&◌, List, [], ◌∷◌, get_or, map, refl, sym, ap, subst, ◌∙◌, inl, inr, suc, arith}
use Rattle.std.specs.List.{filter}
use Rattle.std.specs.List.Sorted.{IsSortedByKey, IsStableByKey, ties}
use Rattle.std.specs.Str.{bytes_eq}
use Rattle.std.specs.declared.cmp.Ordering.{Ordering}
use Rattle.std.specs.declared.cmp.Ordering.TheVariants.{Less, Equal, Greater}
use Rattle.std.specs.Ordering.{nat_cmp, is_lt, is_eq, ordering_reverse}
use Rattle.std.specs.Cmp.Lexicographic.{slice_cmp}
use Rattle.std.proofs.lemmas.Cmp.{nat_list_cmp_total}
use Rattle.std.proofs.lemmas.Map.Text.{is_eq-slice_cmp}
use Rattle.std.proofs.lemmas.List.Elements.{filter_agree}
use Rattle.lt_entry.specs.declared.entry.Entry.{Entry}
use Rattle.lt_writer.specs.declared.composer.Ranked.{Ranked}
use Rattle.lt_checker.specs.Histories.{precedes}
use Rattle.lt_entry.specs.Legal.{key_part}
use Rattle.lt_checker.specs.Sorted.{RiseFrom, HaveSameParts}
use Rattle.lt_checker.proofs.Keys.{never_before_none}
use Rattle.lt_entry.proofs.SameKeys.{same_key}

abbrev key_of : Ranked → List ℕ
key_of e = e.entry.now.key

abbrev seen : List Ranked → List Entry
seen es = map (λ e. e.entry.now) es

abbrev IsSorted : List Ranked → Type 0
IsSorted es = IsSortedByKey key_of (slice_cmp nat_cmp) es

-- ---- they rise

sorted_rest : (e : Ranked) (es : List Ranked) → IsSorted (e ∷ es) → IsSorted es
sorted_rest e es h = λ k d low high.
    let more : suc k + 1 ≡ suc (k + 1) = omega arith in
    ap (λ n. precedes (key_of (get_or (e ∷ es) n d)) (key_of (get_or es k d))) (sym more) ∙ h (suc k) d (omega arith) (omega arith)

rises_after : (e : Ranked) (es : List Ranked) → IsSorted (e ∷ es) → RiseFrom (key_of e) (seen es)
rises_after e [] h = tt
rises_after e (f ∷ fs) h = (h 0 e (omega arith) (omega arith), rises_after f fs (sorted_rest e (f ∷ fs) h))

pub rises : (es : List Ranked) → IsSorted es → RiseFrom [] (seen es)
rises [] h = tt
rises (e ∷ es) h = (never_before_none (key_of e), rises_after e es h)

-- ---- each key keeps its entries

is_tie : (o p : Ordering) → o ≡ ordering_reverse p → not (is_lt o) && not (is_lt p) ≡ is_eq p
is_tie o Less e = rw e refl
is_tie o Equal e = rw e refl
is_tie o Greater e = rw e refl

abbrev test : List ℕ → Ranked → Bool
test key e = bytes_eq (key_of e) key

tie_is_same : (x y : Ranked) → ties (λ a b. is_lt (slice_cmp nat_cmp (key_of a) (key_of b))) x y ≡ bytes_eq (key_of y) (key_of x)
tie_is_same x y =
    is_tie (slice_cmp nat_cmp (key_of x) (key_of y)) (slice_cmp nat_cmp (key_of y) (key_of x)) (nat_list_cmp_total.antisymm (key_of x) (key_of y)) ∙ is_eq-slice_cmp (key_of y) (key_of x)

kept : (x : Ranked) (xs ys : List Ranked) → IsStableByKey key_of (slice_cmp nat_cmp) xs ys → filter (test (key_of x)) ys ≡ filter (test (key_of x)) xs
kept x xs ys h = sym (filter_agree _ (test (key_of x)) (tie_is_same x) ys) ∙ h x ∙ filter_agree _ (test (key_of x)) (tie_is_same x) xs

-- The key has no entry here, or one of its entries is known.
found : (key : List ℕ) (xs : List Ranked) → (filter (test key) xs ≡ []) ⊎ ((x : Ranked) × (key_of x ≡ key))
found key [] = inl refl
found key (x ∷ xs) =
    elim (test key x) as (λ b. test key x ≡ b → (cond b (x ∷ filter (test key) xs) (filter (test key) xs) ≡ []) ⊎ ((y : Ranked) × (key_of y ≡ key))) [
      | true ↦ λ e. inr (x, same_key (key_of x) key e)
      | false ↦ λ e. found key xs
    ] refl

kept_at : (key : List ℕ) (x : Ranked) (xs ys : List Ranked) → IsStableByKey key_of (slice_cmp nat_cmp) xs ys → key_of x ≡ key → filter (test key) ys ≡ filter (test key) xs
kept_at key x xs ys h e = subst (λ (k : List ℕ). filter (test k) ys ≡ filter (test k) xs) e (kept x xs ys h)

stays : (key : List ℕ) (xs ys : List Ranked) → IsStableByKey key_of (slice_cmp nat_cmp) xs ys → filter (test key) ys ≡ filter (test key) xs
stays key xs ys h =
    elim (found key ys) [
      | inr x ↦ kept_at key x.0 xs ys h x.1
      | inl none ↦ elim (found key xs) [
        | inr x ↦ kept_at key x.0 xs ys h x.1
        | inl nothing ↦ none ∙ sym nothing
      ]
    ]

part_seen : (key : List ℕ) (es : List Ranked) → key_part key (seen es) ≡ seen (filter (test key) es)
part_seen key [] = refl
part_seen key (e ∷ es) =
    elim (test key e) as (λ b. cond b (e.entry.now ∷ key_part key (seen es)) (key_part key (seen es)) ≡ seen (cond b (e ∷ filter (test key) es) (filter (test key) es))) [
      | true ↦ ap (λ (more : List Entry). e.entry.now ∷ more) (part_seen key es)
      | false ↦ part_seen key es
    ]

pub same_parts : (es : List Entry) (xs ys : List Ranked) → IsStableByKey key_of (slice_cmp nat_cmp) xs ys → seen xs ≡ es → HaveSameParts (seen ys) es
same_parts es xs ys h e = λ key. part_seen key ys ∙ ap seen (stays key xs ys h) ∙ sym (part_seen key xs) ∙ ap (key_part key) e
