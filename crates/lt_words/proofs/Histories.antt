-- What one more event changes in what a history says.
use Rattle.std.proofs.Common.{◌≡◌, ℕ, ◌+◌, ◌≤◌, ◌==◌, Bool, true, false, cond, List, [], ◌∷◌, ◌++◌, length, map, refl, ap, sym, subst, ◌∙◌, inl, inr, ⊎_elim, arith, append-nil, length-append, eq-eqb}
use Rattle.std.specs.Str.{bytes_eq}
use mathlib.Core.List.{IsPrefix}
use Rattle.lt_ids.specs.Ids.{Wait}
use Rattle.lt_rules.specs.Rules.{empty}
use Rattle.lt_rules.specs.Step.{step, record_after}
use Rattle.lt_entry.specs.declared.entry.Entry.{Entry}
use Rattle.lt_entry.specs.Legal.{event_of, AreLegalKeys}
use Rattle.lt_entry.specs.Legal.{key_part}
use Rattle.lt_entry.proofs.SameKeys.{same_key}
use Rattle.lt_entry.proofs.OneMore.{keys_legal_more}
use Rattle.lt_words.specs.declared.event.Event.{Event}
use Rattle.lt_words.specs.declared.event.Event.TheVariants.{Opened, Draw, Step}
use Rattle.lt_words.specs.History.{shard_of, steps_of, part, draws_of, DrawsCount, StepsAreInTheirShards, IsLegalHistory, MayFollow, IsLetAmong, LetIn}
use Rattle.lt_words.proofs.Prefixes.{prefix_whole}

pub steps_of-append : (xs ys : List Event) → steps_of (xs ++ ys) ≡ steps_of xs ++ steps_of ys
steps_of-append [] ys = refl
steps_of-append (Opened a b way ∷ xs) ys = steps_of-append xs ys
steps_of-append (Draw p n ∷ xs) ys = steps_of-append xs ys
steps_of-append (Step s e ∷ xs) ys = ap (λ l. e ∷ l) (steps_of-append xs ys)

cond_append : (b : Bool) (e : Entry) (w xs ys : List Entry) → w ≡ xs ++ ys → cond b (e ∷ w) w ≡ cond b (e ∷ xs) xs ++ ys
cond_append true e w xs ys h = ap (λ l. e ∷ l) h
cond_append false e w xs ys h = h

pub part-append : (s : ℕ) (xs ys : List Event) → part s (xs ++ ys) ≡ part s xs ++ part s ys
part-append s [] ys = refl
part-append s (Opened a b way ∷ xs) ys = part-append s xs ys
part-append s (Draw p n ∷ xs) ys = part-append s xs ys
part-append s (Step t e ∷ xs) ys = cond_append (s == t) e (part s (xs ++ ys)) (part s xs) (part s ys) (part-append s xs ys)

pub draws_of-append : (xs ys : List Event) → draws_of (xs ++ ys) ≡ draws_of xs + draws_of ys
draws_of-append [] ys = omega arith
draws_of-append (Opened a b way ∷ xs) ys = draws_of-append xs ys
draws_of-append (Draw p n ∷ xs) ys = omega (arith, draws_of-append xs ys)
draws_of-append (Step s e ∷ xs) ys = draws_of-append xs ys

pub let_more : (xs ys : List Event) (p : ℕ) (t : Wait) → LetIn xs p t → LetIn (xs ++ ys) p t
let_more [] ys p t h = absurd h
let_more (Opened a b way ∷ xs) ys p t h = let_more xs ys p t h
let_more (Draw q n ∷ xs) ys p t h = let_more xs ys p t h
let_more (Step s e ∷ xs) ys p t h = ⊎_elim (λ a. inl a) (λ l. inr (let_more xs ys p t l)) h

-- a step lets the tickets of its own lets through
pub let_last : (xs : List Event) (s : ℕ) (e : Entry) (p : ℕ) (t : Wait) → IsLetAmong e.lets p t → LetIn (xs ++ Step s e ∷ []) p t
let_last [] s e p t h = inl h
let_last (Opened a b way ∷ xs) s e p t h = let_last xs s e p t h
let_last (Draw q n ∷ xs) s e p t h = let_last xs s e p t h
let_last (Step r f ∷ xs) s e p t h = inr (let_last xs s e p t h)

draws_then_draw : (n : ℕ) (h : List Event) (p k : ℕ) → DrawsCount n h → k ≡ n + draws_of h + 1 → DrawsCount n (h ++ Draw p k ∷ [])
draws_then_draw n [] p k c e = (omega arith, tt)
draws_then_draw n (Opened a b way ∷ h) p k c e = absurd c
draws_then_draw n (Draw q m ∷ h) p k c e = (c.0, draws_then_draw (n + 1) h p k c.1 (omega arith))
draws_then_draw n (Step s f ∷ h) p k c e = draws_then_draw n h p k c e

draws_then_step : (n : ℕ) (h : List Event) (s : ℕ) (e : Entry) → DrawsCount n h → DrawsCount n (h ++ Step s e ∷ [])
draws_then_step n [] s e c = tt
draws_then_step n (Opened a b way ∷ h) s e c = absurd c
draws_then_step n (Draw q m ∷ h) s e c = (c.0, draws_then_step (n + 1) h s e c.1)
draws_then_step n (Step r f ∷ h) s e c = draws_then_step n h s e c

home_more : (shards : ℕ) (xs ys : List Event) → StepsAreInTheirShards shards xs → StepsAreInTheirShards shards ys → StepsAreInTheirShards shards (xs ++ ys)
home_more shards [] ys h k = k
home_more shards (Opened a b way ∷ xs) ys h k = absurd h
home_more shards (Draw p n ∷ xs) ys h k = home_more shards xs ys h k
home_more shards (Step s e ∷ xs) ys h k = (h.0, home_more shards xs ys h.1 k)

-- ---- keys

legal_more : (es : List Entry) (e : Entry) → AreLegalKeys es → MayFollow es e → AreLegalKeys (es ++ e ∷ [])
legal_more es e h may = keys_legal_more es e h (may.reply, may.lets)

-- one entry, in the part of its shard and in the whole
beside : (shards s t : ℕ) (k : List ℕ) (e : Entry) (p w : List Entry) (b : Bool) → bytes_eq e.key k ≡ b → s ≡ shard_of k shards → t ≡ shard_of e.key shards
    → key_part k p ≡ key_part k w → key_part k (cond (s == t) (e ∷ p) p) ≡ cond b (e ∷ key_part k w) (key_part k w)
beside shards s t k e p w true is at home h =
    let same : e.key ≡ k = same_key e.key k is in
    let here : s ≡ t = at ∙ (ap (λ j. shard_of j shards) (sym same) ∙ sym home) in
    let hit : (s == t) ≡ true = eq-eqb s t here in
    rw (hit, is) (ap (λ l. e ∷ l) h)
beside shards s t k e p w false is at home h =
    elim (s == t) as (λ v. key_part k (cond v (e ∷ p) p) ≡ key_part k w) [ true ↦ rw is h | false ↦ h ]

-- all steps of a key are in the part of its shard
pub key_in_part : (shards s : ℕ) (k : List ℕ) (h : List Event) → s ≡ shard_of k shards → StepsAreInTheirShards shards h → key_part k (part s h) ≡ key_part k (steps_of h)
key_in_part shards s k [] at home = refl
key_in_part shards s k (Opened a b way ∷ h) at home = absurd home
key_in_part shards s k (Draw p n ∷ h) at home = key_in_part shards s k h at home
key_in_part shards s k (Step t e ∷ h) at home = beside shards s t k e (part s h) (steps_of h) (bytes_eq e.key k) refl at home.0 (key_in_part shards s k h at home.1)

-- a history with one more draw
pub legal_draw : (shards : ℕ) (h : List Event) (p k : ℕ) → IsLegalHistory shards h → k ≡ draws_of h + 1 → IsLegalHistory shards (h ++ Draw p k ∷ [])
legal_draw shards h p k legal e = record {
  keys = subst AreLegalKeys (sym (steps_of-append h (Draw p k ∷ []) ∙ append-nil (steps_of h))) legal.keys;
  home = home_more shards h (Draw p k ∷ []) legal.home tt;
  draws = draws_then_draw 0 h p k legal.draws (omega arith);
}

-- what may follow depends on the steps of its key alone
follow_same : (es fs : List Entry) (e : Entry) → key_part e.key es ≡ key_part e.key fs → MayFollow es e → MayFollow fs e
follow_same es fs e same may = record {
  reply = may.reply ∙ ap (λ ks. (step (record_after empty (map event_of ks)) e.pass e.call).reply) same;
  lets = may.lets ∙ ap (λ ks. (step (record_after empty (map event_of ks)) e.pass e.call).lets) same;
}

-- a history with one more step
pub legal_step : (shards : ℕ) (h : List Event) (s : ℕ) (e : Entry) → IsLegalHistory shards h → s ≡ shard_of e.key shards → MayFollow (part s h) e → IsLegalHistory shards (h ++ Step s e ∷ [])
legal_step shards h s e legal at may = record {
  keys = subst AreLegalKeys (sym (steps_of-append h (Step s e ∷ []))) (legal_more (steps_of h) e legal.keys (follow_same (part s h) (steps_of h) e (key_in_part shards s e.key h at legal.home) may));
  home = home_more shards h (Step s e ∷ []) legal.home (at, tt);
  draws = draws_then_step 0 h s e legal.draws;
}

-- parts of a prefix

pub part_prefix : (s : ℕ) (xs ys : List Event) → IsPrefix xs ys → IsPrefix (part s xs) (part s ys)
part_prefix s xs ys p = (part s p.0, sym (part-append s xs p.0) ∙ ap (part s) p.1)

-- a prefix with as many steps of a shard as the whole has the same steps of it
pub part_same : (s n : ℕ) (xs ys : List Event) → IsPrefix xs ys → length (part s xs) ≡ n → length (part s ys) ≡ n → part s xs ≡ part s ys
part_same s n xs ys p a b = prefix_whole (part s xs) (part s ys) (part_prefix s xs ys p) (omega arith)

pub part_length : (s : ℕ) (xs ys : List Event) → IsPrefix xs ys → length (part s xs) ≤ length (part s ys)
part_length s xs ys p = omega (arith, ap (λ l. length (part s l)) p.1, ap length (part-append s xs p.0), length-append (part s xs) (part s p.0))

-- what was let through stays let through
pub let_later : (xs ys : List Event) (p : ℕ) (t : Wait) → IsPrefix xs ys → LetIn xs p t → LetIn ys p t
let_later xs ys p t pre h = subst (λ (l : List Event). LetIn l p t) pre.1 (let_more xs pre.0 p t h)
