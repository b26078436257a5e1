-- A list of lets that ran out of room.
use Rattle.std.proofs.Common.{◌≡◌, ◌+◌, ◌<◌, ◌≤◌, ℕ, List, [], ◌∷◌, ◌++◌, length, ap, arith}
use Rattle.std.proofs.lemmas.List.{length-append}
use Rattle.std.specs.Result.{OnErr}
use Rattle.std.specs.declared.result.Result.{Result}
use Rattle.std.specs.declared.result.Result.TheVariants.{Ok, Err}
use Rattle.lt_ids.specs.declared.ticket.Through.{Through}

-- what holds at all holds after an error
pub on_err : {T E : Type 0} (r : Result T E) (X : Type 0) → X → OnErr r X
on_err (Ok t) X x = tt
on_err (Err e) X x = x

-- There was no room for a part, so there is none for all.
pub no_room : (first capacity : ℕ) (part rest all : List Through) → part ++ rest ≡ all → first ≤ capacity → capacity < length part → first < length all
no_room first capacity part rest all is grown full =
    let n : length (part ++ rest) ≡ length all = ap length is in
    let sum : length (part ++ rest) ≡ length part + length rest = length-append part rest in
    omega (arith, n, sum, grown, full)

pub full_before : (capacity len : ℕ) (done : List Through) (t : Through) → capacity ≤ len → len ≡ length done → capacity < length (done ++ t ∷ [])
full_before capacity len done t full is =
    let sum : length (done ++ t ∷ []) ≡ length done + 1 = length-append done (t ∷ []) in
    omega (arith, sum, full, is)
