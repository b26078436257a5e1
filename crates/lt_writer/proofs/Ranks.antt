-- Keys are in the order of their ranks, if the ranks differ.
use Rattle.std.proofs.Common.{◌≡◌, ◌<◌, ◌≤◌, ◌+◌, ◌*◌, ◌%◌, length, ℕ, zero, suc, List, [], ◌∷◌, refl, sym, ap, subst, ◌∙◌, arith}
use Rattle.std.specs.Prelude.{All, IsTrue}
use Rattle.std.specs.declared.cmp.Ordering.{Ordering}
use Rattle.std.specs.declared.cmp.Ordering.TheVariants.{Less, Equal, Greater}
use Rattle.std.specs.Ordering.{nat_cmp, ordering_then, ordering_reverse, MatchOrdering}
use Rattle.std.specs.Cmp.{ranks, Equal-is}
use Rattle.std.specs.Cmp.Lexicographic.{slice_cmp}
use Rattle.std.proofs.lemmas.Cmp.{nat_list_cmp_total}
use Rattle.std.proofs.Common.{leb}
use Rattle.std.proofs.lemmas.Bool.{leb-true, and_parts}
use Rattle.std.proofs.lemmas.Map.Text.{is_eq-slice_cmp}
use Rattle.std.proofs.lemmas.Slice.Eq.{bytes_eq-Decides}
use Rattle.lt_ids.specs.Key.{IsKey, is_key_byte}
use Rattle.lt_writer.specs.Rank.{byte_or_0, rank_of}

abbrev AreBytes : List ℕ → Type 0
AreBytes xs = (k : ℕ) → byte_or_0 xs k < 256

-- The number that a and then the first n bytes spell.
abbrev spelt : ℕ → ℕ → List ℕ → ℕ
spelt a zero xs = a
spelt a (suc n) [] = spelt (a * 256) n []
spelt a (suc n) (x ∷ xs) = spelt (a * 256 + x) n xs

small_rest : (x : ℕ) (xs : List ℕ) → AreBytes (x ∷ xs) → AreBytes xs
small_rest x xs h = λ k. h (suc k)

rises : (n a b : ℕ) (xs ys : List ℕ) → AreBytes xs → a < b → spelt a n xs < spelt b n ys
rises zero a b xs ys h lt = lt
rises (suc n) a b [] [] h lt = rises n (a * 256) (b * 256) [] [] h (omega arith)
rises (suc n) a b [] (y ∷ ys) h lt = rises n (a * 256) (b * 256 + y) [] ys h (omega arith)
rises (suc n) a b (x ∷ xs) [] h lt =
    let small : x < 256 = h 0 in
    rises n (a * 256 + x) (b * 256) xs [] (small_rest x xs h) (omega arith)
rises (suc n) a b (x ∷ xs) (y ∷ ys) h lt =
    let small : x < 256 = h 0 in
    rises n (a * 256 + x) (b * 256 + y) xs ys (small_rest x xs h) (omega arith)

never_before_nothing : (xs : List ℕ) → slice_cmp nat_cmp xs [] ≡ Less → ⊥
never_before_nothing [] e = cc
never_before_nothing (x ∷ xs) e = cc

no_bytes : AreBytes []
no_bytes = λ k. omega arith

-- The first byte decides, or otherwise the rest.
by_first : (n a x y : ℕ) (xs ys : List ℕ) → AreBytes (x ∷ xs) → AreBytes (y ∷ ys) → spelt (a * 256 + x) n xs < spelt (a * 256 + y) n ys → (x ≡ y → slice_cmp nat_cmp xs ys ≡ Less)
    → (r : Ordering) → nat_cmp x y ≡ r → MatchOrdering r (x < y) (x ≡ y) (y < x) → slice_cmp nat_cmp (x ∷ xs) (y ∷ ys) ≡ Less
by_first n a x y xs ys f g lt next Less e h = ap (λ (r : Ordering). ordering_then r (slice_cmp nat_cmp xs ys)) e
by_first n a x y xs ys f g lt next Equal e h = ap (λ (r : Ordering). ordering_then r (slice_cmp nat_cmp xs ys)) e ∙ next h
by_first n a x y xs ys f g lt next Greater e h =
    let over : y < x = h in
    let more : spelt (a * 256 + y) n ys < spelt (a * 256 + x) n xs = rises n (a * 256 + y) (a * 256 + x) ys xs (small_rest y ys g) (omega arith) in
    absurd (omega arith)

settled : (n a : ℕ) (xs ys : List ℕ) → AreBytes xs → AreBytes ys → spelt a n xs < spelt a n ys → slice_cmp nat_cmp xs ys ≡ Less
settled zero a xs ys f g lt = absurd (omega arith)
settled (suc n) a [] [] f g lt = absurd (omega arith)
settled (suc n) a [] (y ∷ ys) f g lt = refl
settled (suc n) a (zero ∷ xs) [] f g lt =
    let same : a * 256 + 0 ≡ a * 256 = omega arith in
    absurd (never_before_nothing xs (settled n (a * 256) xs [] (small_rest zero xs f) no_bytes (subst (λ (m : ℕ). spelt m n xs < spelt (a * 256) n []) same lt)))
settled (suc n) a (suc x ∷ xs) [] f g lt =
    let over : spelt (a * 256) n [] < spelt (a * 256 + suc x) n xs = rises n (a * 256) (a * 256 + suc x) [] xs no_bytes (omega arith) in
    absurd (omega arith)
settled (suc n) a (x ∷ xs) (y ∷ ys) f g lt =
    by_first n a x y xs ys f g lt
    (λ e. settled n (a * 256 + x) xs ys (small_rest x xs f) (small_rest y ys g) (subst (λ (z : ℕ). spelt (a * 256 + x) n xs < spelt (a * 256 + z) n ys) (sym e) lt))
    (nat_cmp x y) refl (ranks x y)

-- the head of the rest
abbrev rest : List ℕ → List ℕ
rest [] = []
rest (x ∷ xs) = xs

byte_of_rest : (xs : List ℕ) (k : ℕ) → byte_or_0 xs (suc k) ≡ byte_or_0 (rest xs) k
byte_of_rest [] k = refl
byte_of_rest (x ∷ xs) k = refl

spelt_on : (a n : ℕ) (xs : List ℕ) → spelt a (suc n) xs ≡ spelt (a * 256 + byte_or_0 xs 0) n (rest xs)
spelt_on a n [] =
    let same : a * 256 ≡ a * 256 + 0 = omega arith in
    ap (λ (m : ℕ). spelt m n []) same
spelt_on a n (x ∷ xs) = refl

abbrev rests : ℕ → List ℕ → List ℕ
rests zero xs = xs
rests (suc k) xs = rests k (rest xs)

byte_on : (k : ℕ) (xs : List ℕ) → byte_or_0 xs k ≡ byte_or_0 (rests k xs) 0
byte_on zero xs = refl
byte_on (suc k) xs = byte_of_rest xs k ∙ byte_on k (rest xs)

abbrev head_on : ℕ → List ℕ → ℕ
head_on k xs = byte_or_0 (rests k xs) 0

abbrev two_on : ℕ → ℕ → List ℕ → ℕ
two_on a k xs = (a * 256 + head_on k xs) * 256 + head_on (suc k) xs

spelt_two : (a n : ℕ) (xs : List ℕ) → spelt a (suc (suc n)) xs ≡ spelt (two_on a 0 xs) n (rest (rest xs))
spelt_two a n xs = spelt_on a (suc n) xs ∙ spelt_on (a * 256 + byte_or_0 xs 0) n (rest xs)

spelt_eight : (xs : List ℕ) → spelt 0 8 xs ≡ two_on (two_on (two_on (two_on 0 0 xs) 2 xs) 4 xs) 6 xs
spelt_eight xs =
    spelt_two 0 6 xs
    ∙ spelt_two (two_on 0 0 xs) 4 (rests 2 xs)
    ∙ spelt_two (two_on (two_on 0 0 xs) 2 xs) 2 (rests 4 xs)
    ∙ spelt_two (two_on (two_on (two_on 0 0 xs) 2 xs) 4 xs) 0 (rests 6 xs)

rank_sum : (xs : List ℕ)
    → rank_of xs
    ≡ byte_or_0 xs 0 * 72057594037927936 + byte_or_0 xs 1 * 281474976710656 + byte_or_0 xs 2 * 1099511627776 + byte_or_0 xs 3 * 4294967296 + byte_or_0 xs 4 * 16777216 + byte_or_0 xs 5 * 65536 + byte_or_0 xs 6 * 256 + byte_or_0 xs 7
rank_sum xs = refl

rank_is : (xs : List ℕ) → rank_of xs ≡ spelt 0 8 xs
rank_is xs =
    let a : byte_or_0 xs 0 ≡ head_on 0 xs = byte_on 0 xs in
    let b : byte_or_0 xs 1 ≡ head_on 1 xs = byte_on 1 xs in
    let c : byte_or_0 xs 2 ≡ head_on 2 xs = byte_on 2 xs in
    let d : byte_or_0 xs 3 ≡ head_on 3 xs = byte_on 3 xs in
    let e : byte_or_0 xs 4 ≡ head_on 4 xs = byte_on 4 xs in
    let f : byte_or_0 xs 5 ≡ head_on 5 xs = byte_on 5 xs in
    let g : byte_or_0 xs 6 ≡ head_on 6 xs = byte_on 6 xs in
    let h : byte_or_0 xs 7 ≡ head_on 7 xs = byte_on 7 xs in
    rank_sum xs ∙ omega (arith, a, b, c, d, e, f, g, h) ∙ sym (spelt_eight xs)

-- The key of the smaller rank comes first.
before : (xs ys : List ℕ) → AreBytes xs → AreBytes ys → rank_of xs < rank_of ys → slice_cmp nat_cmp xs ys ≡ Less
before xs ys f g lt = settled 8 0 xs ys f g (subst (λ (n : ℕ). n < spelt 0 8 ys) (rank_is xs) (subst (λ (n : ℕ). rank_of xs < n) (rank_is ys) lt))

by_rank : (xs ys : List ℕ) (r : Ordering) → AreBytes xs → AreBytes ys → r ≡ nat_cmp (rank_of xs) (rank_of ys) → (r ≡ Equal → ⊥) → slice_cmp nat_cmp xs ys ≡ r
by_rank xs ys Less f g e n = before xs ys f g (subst (λ (o : Ordering). MatchOrdering o (rank_of xs < rank_of ys) (rank_of xs ≡ rank_of ys) (rank_of ys < rank_of xs)) (sym e) (ranks (rank_of xs) (rank_of ys)))
by_rank xs ys Equal f g e n = absurd (n refl)
by_rank xs ys Greater f g e n =
    nat_list_cmp_total.antisymm xs ys
    ∙ ap ordering_reverse (before ys xs g f (subst (λ (o : Ordering). MatchOrdering o (rank_of xs < rank_of ys) (rank_of xs ≡ rank_of ys) (rank_of ys < rank_of xs)) (sym e) (ranks (rank_of xs) (rank_of ys))))

small_byte : (b : ℕ) → IsTrue (is_key_byte b) → b < 256
small_byte b h =
    let parts = and_parts (leb 33 b) (leb b 126) h in
    let le = leb-true b 126 parts.1 in
    omega arith

small_bytes : (xs : List ℕ) → All (λ b. IsTrue (is_key_byte b)) xs → AreBytes xs
small_bytes [] h k = omega arith
small_bytes (x ∷ xs) h zero = small_byte x (h 0 x (omega arith))
small_bytes (x ∷ xs) h (suc k) = small_bytes xs (λ i d lt. h (suc i) d (omega arith)) k

-- If the ranks of two keys differ, the keys compare as the ranks do.
pub keys_by_rank : (xs ys : List ℕ) (r : Ordering) → IsKey xs → IsKey ys → r ≡ nat_cmp (rank_of xs) (rank_of ys) → (r ≡ Equal → ⊥) → slice_cmp nat_cmp xs ys ≡ r
keys_by_rank xs ys r f g = by_rank xs ys r (small_bytes xs f.each) (small_bytes ys g.each)

-- ---- a rank that spells a whole key

abbrev AreKeyBytes : List ℕ → Type 0
AreKeyBytes xs = All (λ b. IsTrue (is_key_byte b)) xs

key_rest : (x : ℕ) (xs : List ℕ) → AreKeyBytes (x ∷ xs) → AreKeyBytes xs
key_rest x xs h = λ i d lt. h (suc i) d (omega arith)

no_zero : (x : ℕ) (xs : List ℕ) → AreKeyBytes (x ∷ xs) → 0 < x
no_zero x xs h =
    let le = leb-true 33 x (and_parts (leb 33 x) (leb x 126) (h 0 x (omega arith))).0 in
    omega arith

-- A key ends where its first zero byte would stand.
ends : (k : ℕ) (xs : List ℕ) → AreKeyBytes xs → byte_or_0 xs k ≡ 0 → length xs ≤ k
ends k [] h e = omega arith
ends zero (x ∷ xs) h e =
    let some : 0 < x = no_zero x xs h in
    let none : x ≡ 0 = e in
    absurd (omega arith)
ends (suc k) (x ∷ xs) h e =
    let rest : length xs ≤ k = ends k xs (key_rest x xs h) e in
    omega arith

same_head : (n a x y : ℕ) (xs ys : List ℕ) → AreBytes xs → AreBytes ys → spelt (a * 256 + x) n xs ≡ spelt (a * 256 + y) n ys → (r : Ordering) → MatchOrdering r (x < y) (x ≡ y) (y < x) → x ≡ y
same_head n a x y xs ys f g e Equal h = h
same_head n a x y xs ys f g e Less h =
    let under : x < y = h in
    let less : spelt (a * 256 + x) n xs < spelt (a * 256 + y) n ys = rises n (a * 256 + x) (a * 256 + y) xs ys f (omega arith) in
    absurd (omega (arith, e, less))
same_head n a x y xs ys f g e Greater h =
    let over : y < x = h in
    let more : spelt (a * 256 + y) n ys < spelt (a * 256 + x) n xs = rises n (a * 256 + y) (a * 256 + x) ys xs g (omega arith) in
    absurd (omega (arith, e, more))

-- Keys of at most n bytes that are spelt alike are the same.
same_spelt : (n a : ℕ) (xs ys : List ℕ) → AreKeyBytes xs → AreKeyBytes ys → length xs ≤ n → length ys ≤ n → spelt a n xs ≡ spelt a n ys → xs ≡ ys
same_spelt n a [] [] f g lx ly e = refl
same_spelt zero a [] (y ∷ ys) f g lx ly e = absurd (omega arith)
same_spelt zero a (x ∷ xs) ys f g lx ly e = absurd (omega arith)
same_spelt (suc n) a [] (y ∷ ys) f g lx ly e =
    let some : 0 < y = no_zero y ys g in
    let more : spelt (a * 256) n [] < spelt (a * 256 + y) n ys = rises n (a * 256) (a * 256 + y) [] ys no_bytes (omega arith) in
    absurd (omega (arith, e, more))
same_spelt (suc n) a (x ∷ xs) [] f g lx ly e =
    let some : 0 < x = no_zero x xs f in
    let more : spelt (a * 256) n [] < spelt (a * 256 + x) n xs = rises n (a * 256) (a * 256 + x) [] xs no_bytes (omega arith) in
    absurd (omega (arith, e, more))
same_spelt (suc n) a (x ∷ xs) (y ∷ ys) f g lx ly e =
    let rest_f = key_rest x xs f in
    let rest_g = key_rest y ys g in
    let head : x ≡ y = same_head n a x y xs ys (small_bytes xs rest_f) (small_bytes ys rest_g) e (nat_cmp x y) (ranks x y) in
    let tail : xs ≡ ys = same_spelt n (a * 256 + x) xs ys rest_f rest_g (omega arith) (omega arith) (subst (λ (z : ℕ). spelt (a * 256 + x) n xs ≡ spelt (a * 256 + z) n ys) (sym head) e) in
    ap (λ (zs : List ℕ). x ∷ zs) tail ∙ ap (λ (z : ℕ). z ∷ ys) head

-- A key whose rank ends in a zero byte has at most seven bytes.
seven : (xs : List ℕ) → IsKey xs → rank_of xs % 256 ≡ 0 → length xs ≤ 7
seven xs f e =
    let small : byte_or_0 xs 7 < 256 = small_bytes xs f.each 7 in
    let sum = rank_sum xs in
    ends 7 xs f.each (omega (arith, small, sum, e))

-- Keys of the same rank are the same, if the rank ends in a zero byte.
pub same_rank : (xs ys : List ℕ) (r : Ordering) → IsKey xs → IsKey ys → r ≡ nat_cmp (rank_of xs) (rank_of ys) → r ≡ Equal → rank_of xs % 256 ≡ 0 → slice_cmp nat_cmp xs ys ≡ Equal
same_rank xs ys r f g e equal zero_end =
    let same : rank_of xs ≡ rank_of ys = subst (λ (o : Ordering). MatchOrdering o (rank_of xs < rank_of ys) (rank_of xs ≡ rank_of ys) (rank_of ys < rank_of xs)) (sym e ∙ equal) (ranks (rank_of xs) (rank_of ys)) in
    let short_x : length xs ≤ 7 = seven xs f zero_end in
    let short_y : length ys ≤ 7 = seven ys g (subst (λ (n : ℕ). n % 256 ≡ 0) same zero_end) in
    let keys : xs ≡ ys = same_spelt 8 0 xs ys f.each g.each (omega arith) (omega arith) (sym (rank_is xs) ∙ (same ∙ rank_is ys)) in
    (Equal-is (slice_cmp nat_cmp xs ys)).0 (is_eq-slice_cmp xs ys ∙ (bytes_eq-Decides xs ys).1 keys)
