-- Words have no spaces and no line ends, so a line can be cut into its words again.
use Rattle.std.proofs.Common.{◌≡◌, ℕ, zero, suc, ◌+◌, ◌^◌, ◌<◌, ◌≤◌, Bool, true, false, eqb, ltb, List, [], ◌∷◌, ◌++◌, length, drop, Some, refl, sym, ap, ◌∙◌, append_assoc, arith}
use Rattle.std.specs.Fmt.{decimal}
use Rattle.std.specs.Str.Parse.{AllDigits}
use Rattle.std.specs.List.{slice_split, join_with_byte, list_all, All, position_or_len}
use Rattle.std.proofs.lemmas.Bool.{and_parts, and_from, ltb-true, lt-ltb, ne_eqb, eq-eqb}
use Rattle.std.proofs.lemmas.Fmt.{decimal_is_IsNumeral}
use Rattle.std.proofs.lemmas.Str.Parse.{digit_from_value}
use Rattle.std.proofs.lemmas.List.{take_at, drop_at, length-append, get_or_append_left, get_or_at}
use Rattle.std.proofs.lemmas.List.Splits.{slice_split_none, slice_split_at, join_with_byte-slice_split, length-slice_split}
use Rattle.std.proofs.lemmas.List.Sums.{position_or_len_is}
use Rattle.lt_text.specs.Words.{cut_of}
use Rattle.lt_text.proofs.Cuts.{slice_split_cut}

-- each byte is above m
abbrev pub above : ℕ → List ℕ → Bool
above m word = list_all (λ b. ltb m b) word

pub above_append : (m : ℕ) (a b : List ℕ) → above m a ≡ true → above m b ≡ true → above m (a ++ b) ≡ true
above_append m [] b p q = q
above_append m (x ∷ xs) b p q = let h = and_parts _ _ p in and_from _ _ h.0 (above_append m xs b h.1 q)

pub above_less : (m : ℕ) (a : List ℕ) → above (suc m) a ≡ true → above m a ≡ true
above_less m [] p = refl
above_less m (x ∷ xs) p =
    let h = and_parts _ _ p in
    let lt = ltb-true (suc m) x h.0 in
    and_from _ _ (lt-ltb m x (omega arith)) (above_less m xs h.1)

digits_over : (ds : List ℕ) → AllDigits 10 ds → above 47 ds ≡ true
digits_over [] h = refl
digits_over (c ∷ cs) h = let r = digit_from_value c h.0 in and_from _ _ (lt-ltb 47 c (omega arith)) (digits_over cs h.1)

pub digits_above : (n : ℕ) → n < 2 ^ 64 → above 47 (decimal n) ≡ true
digits_above n lt = digits_over (decimal n) (decimal_is_IsNumeral n lt).0.1

plain_digits : (ds : List ℕ) → AllDigits 10 ds → above 32 ds ≡ true
plain_digits [] h = refl
plain_digits (c ∷ cs) h = let r = digit_from_value c h.0 in and_from _ _ (lt-ltb 32 c (omega arith)) (plain_digits cs h.1)

pub plain_decimal : (n : ℕ) → n < 2 ^ 64 → above 32 (decimal n) ≡ true
plain_decimal n lt = plain_digits (decimal n) (decimal_is_IsNumeral n lt).0.1

not_eq : (m b c : ℕ) → c ≤ m → ltb m b ≡ true → eqb b c ≡ false
not_eq m b c le h = let lt = ltb-true m b h in ne_eqb b c (λ e. absurd (omega arith))

-- A list above m has no byte up to m.
pub above_without : (m c : ℕ) (word : List ℕ) → c ≤ m → above m word ≡ true → All (λ b. eqb b c ≡ false) word
above_without m c [] le p k d lt = absurd (omega arith)
above_without m c (b ∷ bs) le p zero d lt = not_eq m b c le (and_parts _ _ p).0
above_without m c (b ∷ bs) le p (suc k) d lt = above_without m c bs le (and_parts _ _ p).1 k d (omega arith)

-- ---- a cut, seen from both sides

cut_position : (c : ℕ) (x y : List ℕ) → All (λ b. eqb b c ≡ false) x → position_or_len (λ b. eqb b c) (x ++ c ∷ y) ≡ length x
cut_position c x y none =
    position_or_len_is (λ b. eqb b c) (x ++ c ∷ y) (length x) 0 (omega (arith, length-append x (c ∷ y)))
    (λ k lt. rw (get_or_append_left x (c ∷ y) 0 k lt) (none k 0 lt))
    (λ lt. rw (get_or_at x c y 0 (length x) refl) (eq-eqb c c refl))

after_cut : (c : ℕ) (x y : List ℕ) → drop (length x + 1) (x ++ c ∷ y) ≡ y
after_cut c x y =
    ap (λ (t : List ℕ). drop (length x + 1) t) (sym (append_assoc x (c ∷ []) y)) ∙ drop_at (x ++ c ∷ []) y (length x + 1) (omega (arith, length-append x (c ∷ [])))

pub cut_again : (c : ℕ) (x y : List ℕ) → All (λ b. eqb b c ≡ false) x → cut_of c (x ++ c ∷ y) ≡ Some (x, y)
cut_again c x y none =
    rw (cut_position c x y none, lt-ltb (length x) (length (x ++ c ∷ y)) (omega (arith, length-append x (c ∷ y))), take_at x (c ∷ y) (length x) refl, after_cut c x y) refl

join_cons : (c : ℕ) (x : List ℕ) (ws : List (List ℕ)) → 0 < length ws → join_with_byte c (x ∷ ws) ≡ x ++ c ∷ join_with_byte c ws
join_cons c x [] lt = absurd (omega arith)
join_cons c x (w ∷ ws) lt = refl

pub cut_takes : (c : ℕ) (bytes x y : List ℕ) → cut_of c bytes ≡ Some (x, y) → bytes ≡ x ++ c ∷ y
cut_takes c bytes x y e =
    sym (join_with_byte-slice_split c bytes)
    ∙ (ap (λ (ws : List (List ℕ)). join_with_byte c ws) (slice_split_cut c bytes x y e)
    ∙ (join_cons c x (slice_split (λ b. eqb b c) y) (omega (arith, length-slice_split (λ b. eqb b c) y)) ∙ ap (λ (t : List ℕ). x ++ c ∷ t) (join_with_byte-slice_split c y)))

-- ---- words of a line

abbrev pub ArePlain : List (List ℕ) → Type 0
ArePlain [] = Unit {0}
ArePlain (w ∷ ws) = (above 32 w ≡ true) × ArePlain ws

pub split_join : (w : List ℕ) (ws : List (List ℕ)) → ArePlain (w ∷ ws) → slice_split (λ b. eqb b 32) (join_with_byte 32 (w ∷ ws)) ≡ w ∷ ws
split_join w [] p = slice_split_none (λ b. eqb b 32) w (above_without 32 32 w (omega arith) p.0)
split_join w (v ∷ ws) p =
    slice_split_at (λ b. eqb b 32) w 32 (join_with_byte 32 (v ∷ ws)) (above_without 32 32 w (omega arith) p.0) refl
    ∙ ap (λ (rest : List (List ℕ)). w ∷ rest) (split_join v ws p.1)

joined_above : (ws : List (List ℕ)) → ArePlain ws → above 31 (join_with_byte 32 ws) ≡ true
joined_above [] p = refl
joined_above (w ∷ []) p = above_less 31 w p.0
joined_above (w ∷ v ∷ ws) p = above_append 31 w (32 ∷ join_with_byte 32 (v ∷ ws)) (above_less 31 w p.0) (joined_above (v ∷ ws) p.1)

pub no_line_end : (ws : List (List ℕ)) → ArePlain ws → All (λ b. eqb b 10 ≡ false) (join_with_byte 32 ws)
no_line_end ws p = above_without 31 10 (join_with_byte 32 ws) (omega arith) (joined_above ws p)
