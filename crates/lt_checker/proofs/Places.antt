use Rattle.std.proofs.Common.{◌≡◌, ℕ, ◌+◌, ◌<◌, true, false, List, [], ◌∷◌, length, Option, Some, None, Result, Ok, Err, refl, sym, ap, subst, ◌∙◌, inr, arith}
use Rattle.std.specs.Prelude.{IfOk, IfErr, IfSome}
use Rattle.std.specs.Str.{bytes_eq}
use Rattle.std.specs.Ordering.{nat_cmp, is_lt, is_eq}
use Rattle.std.specs.declared.cmp.Ordering.TheVariants.{Equal, Greater}
use Rattle.std.proofs.lemmas.Map.Text.{is_eq-slice_cmp}
use Rattle.std.proofs.lemmas.Slice.Eq.{bytes_eq-Decides}
use Rattle.std.specs.Cmp.{Equal-is}
use Rattle.std.specs.Cmp.Lexicographic.{slice_cmp}
use Rattle.lt_checker.specs.declared.error.Fault.TheVariants.{Header, Shape, KeyOrder, Index, WrongReply, WrongLets}
use Rattle.lt_checker.specs.declared.error.HistoryLineError.{HistoryLineError}
use Rattle.lt_checker.specs.declared.error.HistoryLineError.TheVariants as refusals
use Rattle.lt_checker.specs.declared.cursor.Cursor.{Cursor}
use Rattle.lt_checker.specs.Lines.{Parts}
use Rattle.lt_checker.specs.Text.{Spot, start, MayNotComeNext}
use Rattle.lt_checker.specs.Cursor.{spot, IsInOrder, IsAtNewKey, IsNoFirst, IsNext, IsNoNext, is_latest, GoesOnAtKey, DoesNotGoOnAtKey, IsNoNextWord}
use Rattle.lt_ids.specs.Key.{IsKey}
use Rattle.lt_entry.proofs.SameKeys.{key_itself, same_key}

same_by_order : (xs ys : List ℕ) → slice_cmp nat_cmp xs ys ≡ Equal → xs ≡ ys
same_by_order xs ys e = (bytes_eq-Decides xs ys).0 (sym (is_eq-slice_cmp xs ys) ∙ ap is_eq e)

pub later_key : (xs ys : List ℕ) → slice_cmp nat_cmp xs ys ≡ Greater → (is_lt (slice_cmp nat_cmp xs ys) ≡ false) × (bytes_eq xs ys ≡ false)
later_key xs ys e = (ap is_lt e, sym (is_eq-slice_cmp xs ys) ∙ ap is_eq e)

-- Before the first line the key is the empty one: every key differs from it and is greater.
pub at_start : (key : List ℕ) → 0 < length key → IsInOrder start key × (bytes_eq key [] ≡ false)
at_start [] lt = absurd (omega arith)
at_start (b ∷ bs) lt = (refl, refl)

pub first_is_next : (s : Spot) (key : List ℕ) (index : ℕ) (next : Cursor) (r : Result Unit HistoryLineError) → IsInOrder s key → bytes_eq key s.key ≡ false → IfOk r (λ _. IsAtNewKey key index next) → IfOk r (λ _. IsNext s key index next)
first_is_next s key index next (Ok u) order other h = record {
  ordered = order;
  counted = h.counted ∙ rw other refl;
  key_is = h.key_is;
  index_is = h.index_is;
  state_is = h.state_is ∙ rw other refl;
}
first_is_next s key index next (Err e) order other h = tt

no_first : (s : Spot) (key : List ℕ) (index : ℕ) (e : HistoryLineError) → IsInOrder s key → bytes_eq key s.key ≡ false → IsNoFirst index e → IsNoNext s key index e
no_first s key index refusals.Memory order other h = tt
no_first s key index (refusals.Fault Index) order other h = (order, λ e. h (e ∙ rw other refl))
no_first s key index (refusals.Fault Header) order other h = h
no_first s key index (refusals.Fault Shape) order other h = h
no_first s key index (refusals.Fault KeyOrder) order other h = absurd h
no_first s key index (refusals.Fault WrongReply) order other h = h
no_first s key index (refusals.Fault WrongLets) order other h = h

pub first_is_not_next : (s : Spot) (key : List ℕ) (index : ℕ) (r : Result Unit HistoryLineError) → IsInOrder s key → bytes_eq key s.key ≡ false → IfErr r (λ e. IsNoFirst index e) → IfErr r (λ e. IsNoNext s key index e)
first_is_not_next s key index (Ok u) order other h = tt
first_is_not_next s key index (Err e) order other h = no_first s key index e order other h

-- ---- the key of the previous line

own_order : (key before : List ℕ) → slice_cmp nat_cmp key before ≡ Equal → slice_cmp nat_cmp key key ≡ Equal
own_order key before e = subst (λ (k : List ℕ). slice_cmp nat_cmp key k ≡ Equal) (sym (same_by_order key before e)) e

pub own_key : (p : Cursor) (key before : List ℕ) → p.key ≡ Some before → slice_cmp nat_cmp key before ≡ Equal → p.key ≡ Some key
own_key p key before is e = is ∙ ap Some (sym (same_by_order key before e))

pub same_is_next : (p : Cursor) (key before : List ℕ) (index : ℕ) → p.key ≡ Some before → slice_cmp nat_cmp key before ≡ Equal → index ≡ p.index + 1 → IsNext (spot p) key index (record { key = p.key; index = index; linked = p.linked })
same_is_next p key before index is e one_more =
    let own = own_key p key before is e in
    record {
      ordered = rw own (ap is_lt (own_order key before e));
      counted = one_more ∙ rw (own, key_itself key) refl;
      key_is = own;
      index_is = refl;
      state_is = rw (own, key_itself key) refl;
    }

pub same_is_not_next : (p : Cursor) (key before : List ℕ) (index : ℕ) → p.key ≡ Some before → slice_cmp nat_cmp key before ≡ Equal → (index ≡ p.index + 1 → ⊥) → IsNoNext (spot p) key index (refusals.Fault Index)
same_is_not_next p key before index is e other =
    let own = own_key p key before is e in
    (rw own (ap is_lt (own_order key before e)), λ i. other (i ∙ rw (own, key_itself key) refl))

equal_itself : (key : List ℕ) → slice_cmp nat_cmp key key ≡ Equal
equal_itself key = (Equal-is (slice_cmp nat_cmp key key)).0 (is_eq-slice_cmp key key ∙ key_itself key)

on_latest : (p : Cursor) (index : ℕ) (o : Option (List ℕ)) → p.key ≡ o → index ≡ p.index + 1 → IfSome o (λ key. IsNext (spot p) key index (record { key = p.key; index = index; linked = p.linked }))
on_latest p index None is one_more = tt
on_latest p index (Some key) is one_more = same_is_next p key key index is (equal_itself key) one_more

not_on_latest : (p : Cursor) (index : ℕ) (o : Option (List ℕ)) → p.key ≡ o → (index ≡ p.index + 1 → ⊥) → IfSome o (λ key. IsNoNext (spot p) key index (refusals.Fault Index))
not_on_latest p index None is other = tt
not_on_latest p index (Some key) is other = same_is_not_next p key key index is (equal_itself key) other

pub goes_on : (p : Cursor) (index : ℕ) → index ≡ p.index + 1 → GoesOnAtKey p index (record { key = p.key; index = index; linked = p.linked })
goes_on p index one_more = on_latest p index p.key refl one_more

pub goes_not_on : (p : Cursor) (index : ℕ) → (index ≡ p.index + 1 → ⊥) → DoesNotGoOnAtKey p index (refusals.Fault Index)
goes_not_on p index other = not_on_latest p index p.key refl other

pub goes_to : (p next : Cursor) (key : List ℕ) (index : ℕ) (r : Result Unit HistoryLineError) → p.key ≡ Some key → IfOk r (λ _. GoesOnAtKey p index next) → IfOk r (λ _. IsNext (spot p) key index next)
goes_to p next key index (Ok u) is h = subst (λ (o : Option (List ℕ)). IfSome o (λ k. IsNext (spot p) k index next)) is h
goes_to p next key index (Err e) is h = tt

pub goes_not_to : (p : Cursor) (key : List ℕ) (index : ℕ) (r : Result Unit HistoryLineError) → p.key ≡ Some key → IfErr r (λ e. DoesNotGoOnAtKey p index e) → IfErr r (λ e. IsNoNext (spot p) key index e)
goes_not_to p key index (Ok u) is h = tt
goes_not_to p key index (Err e) is h = subst (λ (o : Option (List ℕ)). IfSome o (λ k. IsNoNext (spot p) k index e)) is h

-- ---- the key as a word

pub latest_is : (latest : Option (List ℕ)) (word : List ℕ) → is_latest latest word ≡ true → latest ≡ Some word
latest_is None word e = absurd cc
latest_is (Some key) word e = ap Some (sym (same_key word key e))

pub no_next_word : (s : Spot) (word : List ℕ) (index : ℕ) (r : Result Unit HistoryLineError) → IsKey word → IfErr r (λ e. IsNoNext s word index e) → IfErr r (λ e. IsNoNextWord s word index e)
no_next_word s word index (Ok u) key h = tt
no_next_word s word index (Err e) key h = inr (key, h)

-- ---- a line that may not come next

refused_line : (s : Spot) (p : Parts) (e : HistoryLineError) → IsNoNext s p.key p.step.index e → MayNotComeNext s p e
refused_line s p refusals.Memory h = tt
refused_line s p (refusals.Fault KeyOrder) h = λ ordered counted. h ordered
refused_line s p (refusals.Fault Index) h = λ ordered counted. h.1 counted
refused_line s p (refusals.Fault Header) h = absurd h
refused_line s p (refusals.Fault Shape) h = absurd h
refused_line s p (refusals.Fault WrongReply) h = absurd h
refused_line s p (refusals.Fault WrongLets) h = absurd h

pub no_next_line : (s : Spot) (p : Parts) (r : Result Unit HistoryLineError) → IfErr r (λ e. IsNoNext s p.key p.step.index e) → IfErr r (MayNotComeNext s p)
no_next_line s p (Ok u) h = tt
no_next_line s p (Err e) h = refused_line s p e h
