-- The number of lines that entries have, and how many of these are the first of their key.
use Rattle.std.proofs.Common.{◌≡◌, ◌≢◌, ℕ, ◌+◌, ◌≤◌, true, false, cond, eqb, List, [], ◌∷◌, length, refl, sym, ap, subst, ◌∙◌, inl, inr, suc, arith}
use Rattle.std.specs.List.{AllByRecursion, Contains}
use Rattle.std.specs.Str.{bytes_eq}
use Rattle.std.proofs.lemmas.Bool.{false≢true, ne_eqb}
use Rattle.std.proofs.lemmas.List.{length-append}
use Rattle.std.proofs.lemmas.List.Sums.{sum_by-append, sum_by-cons}
use Rattle.lt_entry.specs.declared.entry.Entry.{Entry}
use Rattle.lt_checker.specs.Lines.{Parts}
use Rattle.lt_checker.specs.Text.{key_count}
use Rattle.lt_checker.specs.Histories.{precedes, KeysRise, AreKeysOf, parts_of_entry, lines_from, lines_of}
use Rattle.lt_entry.specs.Legal.{key_part}
use Rattle.lt_entry.proofs.SameKeys.{same_key, key_itself}
use Rattle.lt_checker.proofs.Grouped.{is_head, is_later, head_or_later, none_in_none, part_same, part_other, some_part, lines_of_others}

-- ---- first lines

abbrev first : Parts → ℕ
first p = cond (eqb p.step.index 1) 1 0

not_first : (index : ℕ) → 1 ≤ index → cond {A = ℕ} (eqb (index + 1) 1) 1 0 ≡ 0
not_first index low = ap (λ b. cond {A = ℕ} b 1 0) (ne_eqb (index + 1) 1 (λ same. absurd (omega arith)))

no_first : (index : ℕ) (es : List Entry) → 1 ≤ index → key_count (lines_from (index + 1) es) ≡ 0
no_first index [] low = refl
no_first index (e ∷ es) low =
    let here = not_first index low in
    let more = no_first (index + 1) es (omega arith) in
    sum_by-cons first (parts_of_entry (index + 1) e) (lines_from (index + 1 + 1) es) ∙ omega arith

one_first : (es : List Entry) → es ≢ [] → key_count (lines_from 1 es) ≡ 1
one_first [] some = absurd (some refl)
one_first (e ∷ es) some = let more = no_first 1 es (omega arith) in sum_by-cons first (parts_of_entry 1 e) (lines_from 2 es) ∙ omega arith

pub counted : (es : List Entry) (keys : List (List ℕ)) → ((key : List ℕ) → Contains keys key → key_part key es ≢ []) → key_count (lines_of es keys) ≡ length keys
counted es [] f = refl
counted es (key ∷ keys) f =
    let one = one_first (key_part key es) (f key (is_head key keys)) in
    let more = counted es keys (λ k h. f k (is_later key k keys h)) in
    sum_by-append first (lines_from 1 (key_part key es)) (lines_of es keys) ∙ omega arith

-- ---- all lines

length_lines : (index : ℕ) (es : List Entry) → length (lines_from index es) ≡ length es
length_lines index [] = refl
length_lines index (e ∷ es) = ap (λ n. suc n) (length_lines (index + 1) es)

no_lines : (keys : List (List ℕ)) → lines_of [] keys ≡ []
no_lines [] = refl
no_lines (key ∷ keys) = no_lines keys

pieces : (es : List Entry) (key : List ℕ) (keys : List (List ℕ)) → length (lines_of es (key ∷ keys)) ≡ length (key_part key es) + length (lines_of es keys)
pieces es key keys = length-append (lines_from 1 (key_part key es)) (lines_of es keys) ∙ ap (λ n. n + length (lines_of es keys)) (length_lines 1 (key_part key es))

one_more : (e : Entry) (es : List Entry) (keys : List (List ℕ)) → KeysRise keys → Contains keys e.key → length (lines_of (e ∷ es) keys) ≡ length (lines_of es keys) + 1
one_more e es [] rise h = absurd (none_in_none e.key h)
one_more e es (key ∷ keys) rise h =
    let before = pieces es key keys in
    let after = pieces (e ∷ es) key keys in
    elim (bytes_eq e.key key) as (λ b. bytes_eq e.key key ≡ b → length (lines_of (e ∷ es) (key ∷ keys)) ≡ length (lines_of es (key ∷ keys)) + 1) [
      | true ↦ λ same.
          let here = ap length (part_same key e es same) in
          let others = ap length (lines_of_others e es keys (subst (λ (x : List ℕ). AllByRecursion (λ k. precedes x k ≡ true) keys) (sym (same_key e.key key same)) rise.0)) in
          omega arith
      | false ↦ λ other.
          let here = ap length (part_other key e es other) in
          let later : Contains keys e.key = elim (head_or_later key e.key keys h) [ inl same ↦ absurd (false≢true (sym other ∙ subst (λ (x : List ℕ). bytes_eq e.key x ≡ true) (sym same) (key_itself e.key))) | inr c ↦ c ] in
          let others = one_more e es keys rise.1 later in
          omega arith
    ] refl

all_lines : (es : List Entry) (keys : List (List ℕ)) → KeysRise keys → AllByRecursion (λ e. Contains keys e.key) es → length (lines_of es keys) ≡ length es
all_lines [] keys rise h = ap length (no_lines keys)
all_lines (e ∷ es) keys rise h = let one = one_more e es keys rise h.0 in let more = all_lines es keys rise h.1 in omega arith

each_entry : (P : List ℕ → Type 0) (es : List Entry) → ((key : List ℕ) → key_part key es ≢ [] → P key) → AllByRecursion (λ e. P e.key) es
each_entry P [] f = tt
each_entry P (e ∷ es) f = (
  f e.key (some_part e.key e es (key_itself e.key)),
  each_entry P es (λ key some. f key (elim (bytes_eq e.key key) as (λ b. bytes_eq e.key key ≡ b → key_part key (e ∷ es) ≢ []) [
    | true ↦ λ same. some_part key e es same
    | false ↦ λ other none. some (sym (part_other key e es other) ∙ none)
  ] refl)),
)

pub sized : (es : List Entry) (keys : List (List ℕ)) → AreKeysOf es keys → length (lines_of es keys) ≡ length es
sized es keys are = all_lines es keys are.rise (each_entry (λ key. Contains keys key) es (λ key some. (are.each key).1 some))
