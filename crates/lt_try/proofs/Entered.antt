-- Who is in a shard, what is lent to him, and what he leaves there.
use Rattle.std.proofs.Common.{◌≡◌, ◌∙◌, ℕ, List, [], ◌∷◌, Option, Some, None, Result, Ok, Err, IfSome, IfNone, OnSome, OnOk, OnErr, ap, get_or, subst, sym}
use Rattle.atomic_table.specs.Table.{Me, rest}
use Rattle.lt_words.specs.Row.{Opening}
use Rattle.lt_shard.specs.Shards.{View, OnlySeesMore, GaveUp}
use Rattle.lt_try.specs.declared.slot.ShardTag.{ShardTag}
use Rattle.lt_try.specs.Tags.{IsPlaced, IsTagged, SlotState}
use Rattle.lt_try.specs.Slots.{HoldsShard, IsInShard}

-- whoever is in a shard can be lent it
pub can_lend : {of : Opening} {max_steps k : ℕ} {slot : SlotState} {me : Me View ShardTag} → IsInShard of max_steps k slot me → (v : View) × (me.1 ≡ (0, v) ∷ rest me.1)
can_lend entered = let held = entered.shard_is in (held.0, held.1 ∙ ap (λ (l : List (ℕ × View)). (0, held.0) ∷ rest l) (sym held.1))

-- what is true of the shard that the seat holds is true of the one that it lends
pub lent_is : (is : View → Type 0) (me : Me View ShardTag) (v : View) → HoldsShard is me → me.1 ≡ (0, v) ∷ rest me.1 → is v
lent_is is me v held lent = subst is (ap (λ (l : List (ℕ × View)). (get_or l 0 (0, held.0)).1) (sym held.1 ∙ lent)) held.2

-- what is true of the shard that the seat holds is true of that shard by another name
pub held_is : (is : View → Type 0) (me : Me View ShardTag) (w : View) → HoldsShard is me → HoldsShard (λ v. v ≡ w) me → is w
held_is is me w held named = lent_is is me w held (subst (λ (v : View). me.1 ≡ (0, v) ∷ rest me.1) named.2 (named.1 ∙ ap (λ (l : List (ℕ × View)). (0, named.0) ∷ rest l) (sym named.1)))

-- The shard w is the one that was v: of the same book, with the same index and room.
pub record Stays (v w : View) : Type 0 where
  pub of : w.front.of ≡ v.front.of
  pub index : w.index ≡ v.index
  pub max_steps : w.max_steps ≡ v.max_steps

unchanged : {v w : View} → w ≡ v → Stays v w
unchanged is = record { of = ap (λ (x : View). x.front.of) is; index = ap (λ (x : View). x.index) is; max_steps = ap (λ (x : View). x.max_steps) is }

pub stays_after_look : {v w : View} → OnlySeesMore v w → Stays v w
stays_after_look more = record { of = more.of; index = more.index; max_steps = more.max_steps }

stays_after_giving : {v w : View} → GaveUp v w → Stays v w
stays_after_giving gave = record { of = gave.of; index = gave.index; max_steps = gave.max_steps }

pub stays_after_take : (B : Type 0) {A : Type 0} (r : Option A) (v w : View) → OnSome r (GaveUp v w) → IfNone r ((w ≡ v) × B) → Stays v w
stays_after_take B (Some a) v w gave lost = stays_after_giving gave
stays_after_take B None v w gave lost = unchanged lost.0

pub stays_after_next : (B C D : Type 0) {A E : Type 0} (r : Option (Result A E)) (v w : View) → IfSome r (λ x. OnOk x (GaveUp v w)) → IfSome r (λ x. OnErr x (OnlySeesMore v w × B × C)) → IfNone r ((w ≡ v) × D) → Stays v w
stays_after_next B C D (Some (Ok a)) v w gave err lost = stays_after_giving gave
stays_after_next B C D (Some (Err e)) v w gave err lost = stays_after_look err.0
stays_after_next B C D None v w gave err lost = unchanged lost.0

-- a shard that stays is left where it was entered
pub can_leave : {of : Opening} {max_steps k : ℕ} {slot : SlotState} {me : Me View ShardTag} {v w : View} → IsInShard of max_steps k slot me → me.1 ≡ (0, v) ∷ rest me.1 → Stays v w
    → (x : View) × ((0, w) ∷ rest me.1 ≡ (0, x) ∷ []) × IsTagged slot.tag x
can_leave {of} {max_steps} {k} {slot} {me} {v} {w} entered lent stays =
    let is : IsPlaced of max_steps k v = lent_is (IsPlaced of max_steps k) me v entered.shard_is lent in (
      w,
      ap (λ (l : List (ℕ × View)). (0, w) ∷ rest l) entered.shard_is.1,
      record {
        book_is = stays.of ∙ (is.book_is ∙ sym entered.slot_is.of_is);
        index_is = stays.index ∙ (is.index_is ∙ sym entered.slot_is.number_is);
        limit_is = stays.max_steps ∙ (is.limit_is ∙ sym entered.slot_is.most_is);
      },
    )
