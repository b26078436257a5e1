-- A list is cut at the first byte with a given value.
use Rattle.std.proofs.Common.{◌≡◌, ℕ, Bool, true, false, cond, eqb, List, [], ◌∷◌, ◌+◌, length, take, drop, Option, Some, None, refl, ap, ◌∙◌, arith}
use Rattle.std.specs.Prelude.{position}
use Rattle.std.specs.List.{slice_split, position_or_len, before_first, after_first}
use Rattle.std.proofs.lemmas.Bool.{ltb-true, ltb-false, lt-ltb, le-ltb}
use Rattle.std.proofs.lemmas.Option.{cond_some}
use Rattle.std.proofs.lemmas.List.Splits.{slice_split_first, slice_split_none}
use Rattle.std.proofs.lemmas.List.Sums.{fails_before_first, position_or_len_is}
use Rattle.memchr.specs.Find.{IsFirstByte, is_byte}
use Rattle.lt_text.specs.Words.{cut_of}
use Rattle.lt_text.proofs.Names.{when_not}

cond_none : {A : Type 0} (b : Bool) (x : A) → cond b (Some x) None ≡ None → b ≡ false
cond_none true x e = absurd cc
cond_none false x e = refl

pub cut_of_none : (c : ℕ) (bytes : List ℕ) → position (λ b. eqb b c) bytes ≡ None → cut_of c bytes ≡ None
cut_of_none c bytes e = rw (cond_none _ _ e) refl

pub cut_of_at : (c : ℕ) (bytes : List ℕ) (i : ℕ) → position (λ b. eqb b c) bytes ≡ Some i → cut_of c bytes ≡ Some (take i bytes, drop (i + 1) bytes)
cut_of_at c bytes i e =
    let p = cond_some _ (position_or_len (λ b. eqb b c) bytes) i e in
    rw (p.0, p.1) refl

pub slice_split_cut : (c : ℕ) (bytes word rest : List ℕ) → cut_of c bytes ≡ Some (word, rest) → slice_split (λ b. eqb b c) bytes ≡ word ∷ slice_split (λ b. eqb b c) rest
slice_split_cut c bytes word rest e =
    let p = cond_some _ (before_first (λ b. eqb b c) bytes, after_first (λ b. eqb b c) bytes) (word, rest) e in
    let lt = ltb-true (position_or_len (λ b. eqb b c) bytes) (length bytes) p.0 in
    slice_split_first (λ b. eqb b c) bytes 0 lt ∙ ap (λ (t : List ℕ × List ℕ). t.0 ∷ slice_split (λ b. eqb b c) t.1) p.1

pub slice_split_uncut : (c : ℕ) (bytes : List ℕ) → cut_of c bytes ≡ None → slice_split (λ b. eqb b c) bytes ≡ bytes ∷ []
slice_split_uncut c bytes e =
    let le = ltb-false _ _ (cond_none _ _ e) in
    slice_split_none (λ b. eqb b c) bytes (λ i x lt. fails_before_first (λ b. eqb b c) bytes i x (omega arith))

-- The first place of the byte, in the words of the search, is its position.
pub position_of_first : (c : ℕ) (bytes : List ℕ) (r : Option ℕ) → IsFirstByte (is_byte c) bytes r → r ≡ position (λ b. eqb b c) bytes
position_of_first c bytes None none =
    let len = length bytes in
    let place : position_or_len (λ b. eqb b c) bytes ≡ len =
    position_or_len_is (λ b. eqb b c) bytes len 0 (omega arith) (λ k lt. when_not _ (none k (omega arith) lt)) (λ lt. absurd (omega arith)) in
    rw (place, le-ltb len len (omega arith)) refl
position_of_first c bytes (Some i) found =
    let place : position_or_len (λ b. eqb b c) bytes ≡ i =
    position_or_len_is (λ b. eqb b c) bytes i 0 (omega (arith, found.0.high)) (λ k lt. when_not _ (found.0.before k (omega arith) lt)) (λ lt. found.1) in
    rw (place, lt-ltb i (length bytes) found.0.high) refl
