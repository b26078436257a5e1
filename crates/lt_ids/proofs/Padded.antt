-- The sum of a key's bytes, and the unused cells after them.
use Rattle.std.proofs.Common.{◌≡◌, ◌+◌, ◌-◌, ℕ, zero, suc, List, [], ◌∷◌, ◌++◌, take, drop, sum, length, replicate, refl, ◌≤◌, true, nat_le, ap, arith}
use Rattle.std.proofs.lemmas.List.Sums.{sum_by-cons}
use Rattle.std.proofs.lemmas.Bool.{le-leb}
use Rattle.std.specs.List.{AllByRecursion}
use Rattle.lt_ids.specs.Bytes.{hash_writes}

abbrev AreZero : List ℕ → Type 0
AreZero xs = AllByRecursion (λ b. b ≡ 0) xs

no_sum : (xs : List ℕ) → AreZero xs → sum xs ≡ 0
no_sum [] zeros = refl
no_sum (x ∷ xs) zeros =
    let here : sum (x ∷ xs) ≡ x + sum xs = sum_by-cons (λ b. b) x xs in
    let rest : sum xs ≡ 0 = no_sum xs zeros.1 in
    let first : x ≡ 0 = zeros.0 in
    omega (arith, here, rest, first)

pub sum_padded : (n : ℕ) (xs : List ℕ) → AreZero (drop n xs) → sum xs ≡ sum (take n xs)
sum_padded zero xs zeros = no_sum xs zeros
sum_padded (suc n) [] zeros = refl
sum_padded (suc n) (x ∷ xs) zeros =
    let all : sum (x ∷ xs) ≡ x + sum xs = sum_by-cons (λ b. b) x xs in
    let part : sum (x ∷ take n xs) ≡ x + sum (take n xs) = sum_by-cons (λ b. b) x (take n xs) in
    let rest : sum xs ≡ sum (take n xs) = sum_padded n xs zeros in
    omega (arith, all, part, rest)

pub zeros_dropped : (n k : ℕ) → AreZero (drop k (replicate n 0))
zeros_dropped zero zero = tt
zeros_dropped zero (suc k) = tt
zeros_dropped (suc n) zero = (refl, zeros_dropped n zero)
zeros_dropped (suc n) (suc k) = zeros_dropped n k

pub dropped_front : (xs ys : List ℕ) → drop (length xs) (xs ++ ys) ≡ ys
dropped_front [] ys = refl
dropped_front (x ∷ xs) ys = dropped_front xs ys

all_zeros : (xs : List ℕ) → AreZero xs → (m : ℕ) → m ≡ length xs → xs ≡ replicate m 0
all_zeros [] zeros zero many = refl
all_zeros [] zeros (suc m) many = absurd (omega (arith, many))
all_zeros (x ∷ xs) zeros zero many = absurd (omega (arith, many))
all_zeros (x ∷ xs) zeros (suc m) many = λ i. zeros.0 i ∷ all_zeros xs zeros.1 m (omega (arith, many)) i

-- The cells are the bytes, and then zeros.
cells_padded : (n : ℕ) (xs : List ℕ) → AreZero (drop n xs) → (m : ℕ) → m + length (take n xs) ≡ length xs → xs ≡ take n xs ++ replicate m 0
cells_padded zero xs zeros m many = all_zeros xs zeros m (omega (arith, many))
cells_padded (suc n) [] zeros zero many = refl
cells_padded (suc n) [] zeros (suc m) many = absurd (omega (arith, many))
cells_padded (suc n) (x ∷ xs) zeros m many = ap (λ rest. x ∷ rest) (cells_padded n xs zeros m (omega (arith, many)))

-- The cells of a short key are what its hash writes.
pub short_writes : (n : ℕ) (xs : List ℕ) → AreZero (drop n xs) → length xs ≡ 22 → length (take n xs) ≤ 22 → xs ∷ [] ≡ hash_writes (take n xs)
short_writes n xs zeros all within =
    let fits : nat_le (length (take n xs)) 22 ≡ true = le-leb (length (take n xs)) 22 within in
    let many : (22 - length (take n xs)) + length (take n xs) ≡ length xs = omega (arith, all, within) in
    let cells = cells_padded n xs zeros (22 - length (take n xs)) many in
    rw fits (ap (λ it. it ∷ []) cells)

drop_zeros : (k : ℕ) (xs : List ℕ) → AreZero xs → AreZero (drop k xs)
drop_zeros zero xs zeros = zeros
drop_zeros (suc k) [] zeros = tt
drop_zeros (suc k) (x ∷ xs) zeros = drop_zeros k xs zeros.1

-- Cells that are 0 from one place on are 0 from a later place on.
pub zeros_later : (n m : ℕ) (xs : List ℕ) → n ≤ m → AreZero (drop n xs) → AreZero (drop m xs)
zeros_later zero m xs later zeros = drop_zeros m xs zeros
zeros_later (suc n) zero xs later zeros = absurd (omega (arith, later))
zeros_later (suc n) (suc m) [] later zeros = tt
zeros_later (suc n) (suc m) (x ∷ xs) later zeros = zeros_later n m xs (omega (arith, later)) zeros
