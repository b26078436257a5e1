-- If entries are sorted by key, their lines are the lines of one key after the other.
use Rattle.std.proofs.Common.{◌≡◌, ◌≢◌, ℕ, ◌+◌, ◌⊎◌, true, false, cond, List, [], ◌∷◌, ◌++◌, refl, sym, ap, subst, ◌∙◌, inl, inr, arith}
use Rattle.std.specs.List.{AllByRecursion, Contains}
use Rattle.std.specs.Str.{bytes_eq}
use Rattle.std.proofs.lemmas.Bool.{false≢true}
use Rattle.std.proofs.lemmas.List.Elements.{All-contains, All-from_recursion, Contains-append_right}
use Rattle.std.proofs.lemmas.Map.Made.{Contains-tail}
use Rattle.lt_entry.specs.declared.entry.Entry.{Entry}
use Rattle.lt_checker.specs.Lines.{Parts}
use Rattle.lt_checker.specs.Text.{text_of}
use Rattle.lt_checker.specs.Histories.{precedes, KeysRise, AreKeysOf, IsTextOf, parts_of_entry, lines_from, lines_of}
use Rattle.lt_entry.specs.Legal.{key_part}
use Rattle.lt_checker.specs.Sorted.{RiseFrom, HaveSameParts, lines_after}
use Rattle.lt_checker.proofs.Keys.{same_or_after, apart, apart_back, before_before, before_upto, apart_keys}
use Rattle.lt_entry.proofs.SameKeys.{same_key, key_itself}

-- ---- keys in a list

pub is_head : (key : List ℕ) (keys : List (List ℕ)) → Contains (key ∷ keys) key
is_head key keys = (0, omega arith, refl)

pub is_later : (first key : List ℕ) (keys : List (List ℕ)) → Contains keys key → Contains (first ∷ keys) key
is_later first key keys h = Contains-append_right (first ∷ []) keys key h

pub head_or_later : (first key : List ℕ) (keys : List (List ℕ)) → Contains (first ∷ keys) key → (first ≡ key) ⊎ Contains keys key
head_or_later first key keys h =
    elim (bytes_eq first key) as (λ b. bytes_eq first key ≡ b → (first ≡ key) ⊎ Contains keys key) [
      | true ↦ λ e. inl (same_key first key e)
      | false ↦ λ e. inr (Contains-tail first keys key (λ same. false≢true (sym e ∙ subst (λ (x : List ℕ). bytes_eq first x ≡ true) same (key_itself first))) h)
    ] refl

pub none_in_none : (key : List ℕ) → Contains [] key → ⊥
none_in_none key h = absurd (omega (arith, h.1))

pub at_key : (P : List ℕ → Type 0) (keys : List (List ℕ)) (key : List ℕ) → AllByRecursion P keys → Contains keys key → P key
at_key P keys key all h = All-contains P keys key (All-from_recursion P keys all) h

pub weaker : (P Q : List ℕ → Type 0) → ((key : List ℕ) → P key → Q key) → (keys : List (List ℕ)) → AllByRecursion P keys → AllByRecursion Q keys
weaker P Q f [] h = tt
weaker P Q f (key ∷ keys) h = (f key h.0, weaker P Q f keys h.1)

-- ---- the key_part of a key

pub part_same : (key : List ℕ) (e : Entry) (es : List Entry) → bytes_eq e.key key ≡ true → key_part key (e ∷ es) ≡ e ∷ key_part key es
part_same key e es h = ap (λ b. cond b (e ∷ key_part key es) (key_part key es)) h

pub part_other : (key : List ℕ) (e : Entry) (es : List Entry) → bytes_eq e.key key ≡ false → key_part key (e ∷ es) ≡ key_part key es
part_other key e es h = ap (λ b. cond b (e ∷ key_part key es) (key_part key es)) h

pub some_part : (key : List ℕ) (e : Entry) (es : List Entry) → bytes_eq e.key key ≡ true → key_part key (e ∷ es) ≢ []
some_part key e es h = λ none. absurd (let same = sym (part_same key e es h) ∙ none in cc)

pub none_below : (key : List ℕ) (es : List Entry) → RiseFrom key es → (k : List ℕ) → precedes k key ≡ true → key_part k es ≡ []
none_below key [] h k lt = refl
none_below key (e ∷ es) h k lt =
    let above = before_upto k key e.key lt h.0 in
    part_other k e es (apart_back k e.key above) ∙ none_below e.key es h.1 k above

pub lines_of_others : (e : Entry) (es : List Entry) (keys : List (List ℕ)) → AllByRecursion (λ k. precedes e.key k ≡ true) keys → lines_of (e ∷ es) keys ≡ lines_of es keys
lines_of_others e es [] h = refl
lines_of_others e es (key ∷ keys) h =
    ap (λ (p : List Entry). lines_from 1 p ++ lines_of (e ∷ es) keys) (part_other key e es (apart e.key key h.0)) ∙ ap (λ (ls : List Parts). lines_from 1 (key_part key es) ++ ls) (lines_of_others e es keys h.1)

-- ---- grouped by key

-- What comes after a line of this key and index: more lines of that key, and then the greater keys that have entries.
record Grouped (key : List ℕ) (index : ℕ) (es : List Entry) : Type 0 where
  keys : List (List ℕ)
  rise : KeysRise keys
  above : AllByRecursion (λ k. precedes key k ≡ true) keys
  has : (k : List ℕ) → Contains keys k → key_part k es ≢ []
  all : (k : List ℕ) → precedes key k ≡ true → key_part k es ≢ [] → Contains keys k
  lines : lines_after key index es ≡ lines_from (index + 1) (key_part key es) ++ lines_of es keys

-- The next entry has the same key.
grouped_same : (key : List ℕ) (index : ℕ) (e : Entry) (es : List Entry) → bytes_eq e.key key ≡ true → Grouped key (index + 1) es → Grouped key index (e ∷ es)
grouped_same key index e es same g =
    let k_is = same_key e.key key same in
    let stays : (k : List ℕ) → precedes key k ≡ true → key_part k (e ∷ es) ≡ key_part k es = λ k lt. part_other k e es (apart e.key k (subst (λ (x : List ℕ). precedes x k ≡ true) (sym k_is) lt)) in
    record {
      keys = g.keys;
      rise = g.rise;
      above = g.above;
      has = λ k h none. g.has k h (sym (stays k (at_key (λ k. precedes key k ≡ true) g.keys k g.above h)) ∙ none);
      all = λ k lt some. g.all k lt (λ none. some (stays k lt ∙ none));
      lines =
          ap (λ b. parts_of_entry (cond b (index + 1) 1) e ∷ lines_after e.key (cond b (index + 1) 1) es) same
          ∙ (ap (λ (k : List ℕ). parts_of_entry (index + 1) e ∷ lines_after k (index + 1) es) k_is
          ∙ (ap (λ (ls : List Parts). parts_of_entry (index + 1) e ∷ ls) g.lines
          ∙ (ap (λ (ls : List Parts). parts_of_entry (index + 1) e ∷ (lines_from (index + 1 + 1) (key_part key es) ++ ls)) (sym (lines_of_others e es g.keys (subst (λ (x : List ℕ). AllByRecursion (λ k. precedes x k ≡ true) g.keys) (sym k_is) g.above)))
          ∙ ap (λ (p : List Entry). lines_from (index + 1) p ++ lines_of (e ∷ es) g.keys) (sym (part_same key e es same)))));
    }

-- The next entry has a greater key.
grouped_next : (key : List ℕ) (index : ℕ) (e : Entry) (es : List Entry) → precedes key e.key ≡ true → RiseFrom e.key es → Grouped e.key 1 es → Grouped key index (e ∷ es)
grouped_next key index e es lt rise g =
    let stays : (k : List ℕ) → precedes e.key k ≡ true → key_part k (e ∷ es) ≡ key_part k es = λ k above. part_other k e es (apart e.key k above) in
    record {
      keys = e.key ∷ g.keys;
      rise = (g.above, g.rise);
      above = (lt, weaker (λ k. precedes e.key k ≡ true) (λ k. precedes key k ≡ true) (λ k h. before_before key e.key k lt h) g.keys g.above);
      has = λ k h. elim (head_or_later e.key k g.keys h) [
        | inl same ↦ some_part k e es (subst (λ (x : List ℕ). bytes_eq e.key x ≡ true) same (key_itself e.key))
        | inr later ↦ λ none. g.has k later (sym (stays k (at_key (λ k. precedes e.key k ≡ true) g.keys k g.above later)) ∙ none)
      ];
      all = λ k above some.
          elim (bytes_eq e.key k) as (λ b. bytes_eq e.key k ≡ b → Contains (e.key ∷ g.keys) k) [
            | true ↦ λ same. subst (λ (x : List ℕ). Contains (e.key ∷ g.keys) x) (same_key e.key k same) (is_head e.key g.keys)
            | false ↦ λ other. elim (apart_keys e.key k other) [
              | inl up ↦ is_later e.key k g.keys (g.all k up (λ none. some (part_other k e es other ∙ none)))
              | inr down ↦ absurd (some (part_other k e es other ∙ none_below e.key es rise k down))
            ]
          ] refl;
      lines =
          ap (λ b. parts_of_entry (cond b (index + 1) 1) e ∷ lines_after e.key (cond b (index + 1) 1) es) (apart_back key e.key lt)
          ∙ (ap (λ (ls : List Parts). parts_of_entry 1 e ∷ ls) g.lines
          ∙ (ap (λ (ls : List Parts). parts_of_entry 1 e ∷ (lines_from (1 + 1) (key_part e.key es) ++ ls)) (sym (lines_of_others e es g.keys g.above))
          ∙ (ap (λ (p : List Entry). lines_from 1 p ++ lines_of (e ∷ es) g.keys) (sym (part_same e.key e es (key_itself e.key)))
          ∙ ap (λ (p : List Entry). lines_from (index + 1) p ++ lines_of (e ∷ es) (e.key ∷ g.keys)) (sym (part_other key e es (apart_back key e.key lt) ∙ none_below e.key es rise key lt)))));
    }

grouped : (key : List ℕ) (index : ℕ) (es : List Entry) → RiseFrom key es → Grouped key index es
grouped key index [] h = record { keys = []; rise = tt; above = tt; has = λ k c. absurd (none_in_none k c); all = λ k lt some. absurd (some refl); lines = refl }
grouped key index (e ∷ es) h =
    elim (bytes_eq e.key key) as (λ b. bytes_eq e.key key ≡ b → Grouped key index (e ∷ es)) [
      | true ↦ λ same. grouped_same key index e es same (grouped key (index + 1) es (subst (λ (x : List ℕ). RiseFrom x es) (same_key e.key key same) h.1))
      | false ↦ λ other. elim (same_or_after key e.key h.0) [
        | inl same ↦ absurd (false≢true (sym other ∙ same))
        | inr lt ↦ grouped_next key index e es lt h.1 (grouped e.key 1 es h.1)
      ]
    ] refl

-- ---- the text of entries in the order of their keys

-- Before the first entry the key is the empty one, which has no entries; every other key is greater.
starts : (es : List Entry) (g : Grouped [] 0 es) (p : List Entry) → key_part [] es ≡ p → (keys : List (List ℕ)) × AreKeysOf es keys × (lines_after [] 0 es ≡ lines_of es keys)
starts es g [] none = (
  g.keys,
  record { rise = g.rise; each = λ k. (g.has k, λ some. elim k as (λ k. key_part k es ≢ [] → Contains g.keys k) [ [] ↦ λ some. absurd (some none) | ◌∷◌ b bs ↦ λ some. g.all (b ∷ bs) refl some ] some) },
  g.lines ∙ ap (λ (p : List Entry). lines_from (0 + 1) p ++ lines_of es g.keys) none,
)
starts es g (f ∷ fs) are = (
  [] ∷ g.keys,
  record {
    rise = (g.above, g.rise);
    each = λ k. (
      λ c. elim (head_or_later [] k g.keys c) [
        | inl same ↦ λ none. absurd (let e = sym are ∙ ap (λ (x : List ℕ). key_part x es) same ∙ none in cc)
        | inr later ↦ g.has k later
      ],
      λ some. elim k as (λ k. key_part k es ≢ [] → Contains ([] ∷ g.keys) k) [ [] ↦ λ some. is_head [] g.keys | ◌∷◌ b bs ↦ λ some. is_later [] (b ∷ bs) g.keys (g.all (b ∷ bs) refl some) ] some,
    );
  },
  g.lines,
)

pub sorted_keys : (es : List Entry) → RiseFrom [] es → (keys : List (List ℕ)) × AreKeysOf es keys × (lines_after [] 0 es ≡ lines_of es keys)
sorted_keys es rise = starts es (grouped [] 0 es rise) (key_part [] es) refl

pub text_of_sorted : (text : List ℕ) (es : List Entry) → RiseFrom [] es → text ≡ text_of (lines_after [] 0 es) → IsTextOf text es
text_of_sorted text es rise e = let k = sorted_keys es rise in record { keys = k.0; are_keys = k.1; lines = e ∙ ap text_of k.2 }

-- ---- the text is that of all entries with the same parts

lines_same : (es others : List Entry) (keys : List (List ℕ)) → HaveSameParts es others → lines_of es keys ≡ lines_of others keys
lines_same es others [] h = refl
lines_same es others (key ∷ keys) h =
    ap (λ (p : List Entry). lines_from 1 p ++ lines_of es keys) (h key) ∙ ap (λ (ls : List Parts). lines_from 1 (key_part key others) ++ ls) (lines_same es others keys h)

pub text_of_same : (text : List ℕ) (es others : List Entry) → HaveSameParts es others → IsTextOf text es → IsTextOf text others
text_of_same text es others h t = record {
  keys = t.keys;
  are_keys = record {
    rise = t.are_keys.rise;
    each = λ k. (λ c none. (t.are_keys.each k).0 c (h k ∙ none), λ some. (t.are_keys.each k).1 (λ none. some (sym (h k) ∙ none)));
  };
  lines = t.lines ∙ ap text_of (lines_same es others t.keys h);
}
