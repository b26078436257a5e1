-- The keys of the rows in byte order, once they are sorted.
use Rattle.std.proofs.Common.{◌≡◌, ℕ, Bool, true, false, cond, ◌||◌, List, [], ◌∷◌, map, Option, Some, None, unwrap_or, is_some, refl, sym, ap, ◌∙◌, subst}
use Rattle.std.specs.Option.{option_map}
use Rattle.std.specs.List.{IsDistinct, dedup, dedup_from, list_any}
use Rattle.std.specs.List.Sorted.{IsPermutation, IsSorted, IsStrictlySortedBy}
use Rattle.std.specs.Str.{bytes_eq}
use Rattle.std.specs.Cmp.{eq_by_cmp_equiv}
use Rattle.std.specs.Cmp.Lexicographic.{nat_list_cmp_total, texts_ties}
use Rattle.std.specs.FinMap.{get, find, keys, from_entries, get-from_entries}
use Rattle.std.specs.HashMap as hash
use Rattle.std.specs.Map.{lookup}
use Rattle.std.proofs.lemmas.Slice.Eq.{bytes_eq-Decides}
use Rattle.std.proofs.lemmas.List.Kept.{IsStrictlySortedBy-dedup}
use Rattle.std.proofs.lemmas.List.Sorted.{list_any-IsPermutation}
use Rattle.std.proofs.lemmas.Map.Keys.{IsDistinct-head, IsDistinct-tail, IsDistinct-IsPermutation}
use Rattle.lt_links.specs.Maps.{Maps}
use Rattle.lt_rules.specs.Rules.{Record, empty}
use Rattle.lt_rules.specs.Table.{Records, record_at}
use Rattle.lt_rules.proofs.Rising.{keys-from_entries}
use Rattle.lt_rules.proofs.Maps.{order, same_records}
use Rattle.lt_row.specs.Row.{record_of}
use Rattle.lt_lock.specs.Linked.{Rows, row_at, records_of}
use Rattle.lt_lock.proofs.Tables.{get_of}

flips : (x y : List ℕ) → bytes_eq x y ≡ bytes_eq y x
flips x y = texts_ties x y ∙ (eq_by_cmp_equiv nat_list_cmp_total).symm x y ∙ sym (texts_ties y x)

-- a list of distinct keys has none to drop
same_from : (k : List ℕ) (ks : List (List ℕ)) → IsDistinct bytes_eq (k ∷ ks) → dedup_from bytes_eq k ks ≡ k ∷ ks
same_from k [] d = refl
same_from k (x ∷ xs) d =
    ap (λ b. cond b (dedup_from bytes_eq k xs) (k ∷ dedup_from bytes_eq x xs)) (flips x k ∙ (IsDistinct-head bytes_eq k (x ∷ xs) d).0)
    ∙ ap (λ l. k ∷ l) (same_from x xs (IsDistinct-tail bytes_eq k (x ∷ xs) d))

same_deduped : (ks : List (List ℕ)) → IsDistinct bytes_eq ks → dedup bytes_eq ks ≡ ks
same_deduped [] d = refl
same_deduped (k ∷ ks) d = same_from k ks d

-- distinct keys in order rise
rising : (ks : List (List ℕ)) → IsSorted order ks → IsDistinct bytes_eq ks → IsStrictlySortedBy order ks
rising ks sorted distinct = subst (IsStrictlySortedBy order) (same_deduped ks distinct) (IsStrictlySortedBy-dedup nat_list_cmp_total texts_ties ks sorted)

has_key : {V : Type 0} (t : List ℕ → Bool) (es : List (List ℕ × V)) → list_any t (map (λ e. e.0) es) ≡ is_some (lookup t es)
has_key t [] = refl
has_key t (e ∷ es) = elim (t e.0) as (λ b. (b || list_any t (map (λ e. e.0) es)) ≡ is_some (cond b (Some e.1) (lookup t es))) [
  | true ↦ refl
  | false ↦ has_key t es
]

same_some : {A B : Type 0} (g : A → B) (o : Option A) → is_some (option_map g o) ≡ is_some o
same_some g None = refl
same_some g (Some x) = refl

same_option : (o : Option Record) → cond (is_some o) (Some (unwrap_or o empty)) None ≡ o
same_option None = refl
same_option (Some r) = refl

-- the entries of these keys in a map
abbrev entries_at : Records → List (List ℕ) → List (List ℕ × Record)
entries_at m ks = map (λ k. (k, record_at m k)) ks

keys_at : (m : Records) (ks : List (List ℕ)) → map (λ (e : List ℕ × Record). e.0) (entries_at m ks) ≡ ks
keys_at m [] = refl
keys_at m (k ∷ ks) = ap (λ l. k ∷ l) (keys_at m ks)

find_at : (m : Records) (q : List ℕ) (ks : List (List ℕ)) → find order q (entries_at m ks) ≡ cond (list_any (bytes_eq q) ks) (Some (record_at m q)) None
find_at m q [] = refl
find_at m q (k ∷ ks) =
    ap (λ b. cond b (Some (record_at m k)) (find order q (entries_at m ks))) (sym (texts_ties q k))
    ∙ (elim (bytes_eq q k) as (λ b. bytes_eq q k ≡ b → cond b (Some (record_at m k)) (find order q (entries_at m ks)) ≡ cond (b || list_any (bytes_eq q) ks) (Some (record_at m q)) None) [
      | true ↦ λ e. ap (λ x. Some (record_at m x)) (sym ((bytes_eq-Decides q k).0 e))
      | false ↦ λ e. find_at m q ks
    ] refl)

-- keys that rise, among which are those of the rows and no others, are the keys of their records
pub rising_keys_of_rows : (m : Maps) (rows : Rows) (all : List (List ℕ)) → IsStrictlySortedBy order all → ((q : List ℕ) → list_any (bytes_eq q) all ≡ list_any (bytes_eq q) (hash.keys rows)) → all ≡ keys (records_of m rows)
rising_keys_of_rows m rows all rise among =
    let records : Records = records_of m rows in
    let same : records ≡ from_entries (entries_at records all) = same_records _ _ (λ q.
    sym (get-from_entries nat_list_cmp_total (entries_at records all) q
    ∙ find_at records q all
    ∙ ap (λ b. cond b (Some (record_at records q)) None) (among q ∙ has_key (bytes_eq q) rows.entries ∙ sym (same_some (record_of m) (row_at rows q)) ∙ ap is_some (sym (get_of m rows q)))
    ∙ same_option (get records q))) in
    sym (ap keys same ∙ keys-from_entries (entries_at records all) (subst (IsStrictlySortedBy order) (sym (keys_at records all)) rise) ∙ keys_at records all)

-- the sorted keys of the rows are the keys of their records
pub sorted_keys : (m : Maps) (rows : Rows) (all : List (List ℕ)) → hash.IsUnique bytes_eq rows → IsPermutation (hash.keys rows) all → IsSorted order all → all ≡ keys (records_of m rows)
sorted_keys m rows all unique permutation sorted =
    rising_keys_of_rows m rows all
    (rising all sorted (IsDistinct-IsPermutation bytes_eq flips (hash.keys rows) all permutation unique))
    (λ q. sym (list_any-IsPermutation (bytes_eq q) (hash.keys rows) all permutation))
