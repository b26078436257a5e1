-- Each step of a slot keeps its rule.
use Rattle.std.proofs.Common.{◌≡◌, ℕ, List, [], ◌∷◌, get_or, get_or-set_same, length-set, ap, sym, refl, ◌∙◌, subst, arith}
use Rattle.std.specs.Prelude.{length, slice_set}
use mathlib.Core.Logic.{dite}
use mathlib.Core.Option.{some, none}
use lib.ListN.{get_elem?}
use native.Mathlib.Decide.{ℕ_discrete}
use Rattle.atomic_table.specs.Table.{Me, keeps, takes, gives, put_back, rest, Allows, Arrives}
use Rattle.lt_shard.specs.Shards.{View}
use Rattle.lt_try.specs.declared.slot.ShardTag.{ShardTag}
use Rattle.lt_try.specs.Tags.{IsTagged}
use Rattle.lt_try.specs.Slots.{StandsWhileFree, HoldsShard}

-- the first item of a list that was set
set_first : {A : Type 0} (xs : List A) (x : A) → length xs ≡ 1 → get_elem? (slice_set xs 0 x) 0 ≡ some x
set_first [] x long = absurd (omega (arith, long))
set_first (y ∷ ys) x long = refl

-- Whoever writes 1 where the word was 0 takes the shard; where it was not, nothing changes.
pub takes_it : (tag : ShardTag) → Arrives (StandsWhileFree tag) 1 8 (λ _. 1) (λ found me. found ≡ 0 → HoldsShard (IsTagged tag) me)
takes_it tag s rule many _ =
    let long : length (slice_set s.words 8 1) ≡ 16 = length-set s.words 8 1 ∙ rule.0 in
    let one : get_or (slice_set s.words 8 1) 8 0 ≡ 1 = get_or-set_same s.words 8 1 0 (omega (arith, rule.0)) in
    dite (ℕ_discrete (get_or s.words 8 0) 0)
    (λ free. let here = rule.1 free in (tag, takes 0 here.0, here.1, (long, λ zero. absurd (omega (arith, zero, one)), λ _. set_first s.homes none many), λ _. (here.0, refl, here.2)))
    (λ taken. (tag, keeps, tt, (long, λ zero. absurd (omega (arith, zero, one)), λ _. rule.2 taken), λ zero. absurd (taken zero)))

-- Whoever holds a shard with the tag gives it back, and writes 0.
pub gives_it : (tag : ShardTag) (id : ℕ) (me : Me View ShardTag) → HoldsShard (IsTagged tag) me → Allows (StandsWhileFree tag) 1 id me 8 (λ _. 0) (λ _ after. after.1 ≡ [])
gives_it tag id me held s rule many _ _ =
    let there : get_elem? (put_back s.homes me.1) 0 ≡ some (some held.0) = subst (λ (c : List (ℕ × View)). get_elem? (put_back s.homes c) 0 ≡ some (some held.0)) (sym held.1) (set_first s.homes (some held.0) many) in
    let zero : get_or (slice_set s.words 8 0) 8 0 ≡ 0 = get_or-set_same s.words 8 0 0 (omega (arith, rule.0)) in
    (me.0, gives, tt, (length-set s.words 8 0 ∙ rule.0, λ _. (held.0, there, held.2), λ taken. absurd (taken zero)), ap (λ (l : List (ℕ × View)). rest l) held.1)
