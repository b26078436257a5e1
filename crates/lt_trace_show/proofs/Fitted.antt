-- How a cut cell reads, and that a cell is printable.
use Rattle.std.proofs.Common.{◌≡◌, ◌<◌, ℕ, ◌+◌, ◌-◌, Bool, true, false, nat_le, if◌then◌else◌, List, [], ◌∷◌, ◌++◌, All, length, take, drop, arith, rules, refl, append_assoc}
use Rattle.std.specs.Prelude.{replicate}
use Rattle.std.specs.List.{flat_map}
use Rattle.std.proofs.Math.Seq.{take-add}
use Rattle.std.proofs.lemmas.Bool.Decides.{nat_tests}
use Rattle.std.proofs.lemmas.List.Elements.{All-append, All-cons, All-nil, All-take, All-replicate}
use Rattle.lt_trace_show.specs.Escape.{IsPrintable, printable_byte}
use Rattle.lt_trace_show.specs.Cells.{cut_to, filled_to, cell_of}
use Rattle.lt_trace_show.proofs.Printed.{all_printable}

cut_if : (t : Bool) (width : ℕ) (text : List ℕ) → nat_le (length text) width ≡ t → width < length text → (if t then text else take (width - 1) text ++ 126 ∷ []) ≡ take (width - 1) text ++ 126 ∷ []
cut_if true width text h wide = grind (arith, nat_tests)
cut_if false width text h wide = refl

-- a text wider than its column
pub cut_wide : (xs : List ℕ) (start width : ℕ) → width < length (drop start xs) → take (start + (width - 1)) xs ++ 126 ∷ [] ≡ take start xs ++ cut_to width (drop start xs)
cut_wide xs start width wide =
    let cut : cut_to width (drop start xs) ≡ take (width - 1) (drop start xs) ++ 126 ∷ [] = cut_if (nat_le (length (drop start xs)) width) width (drop start xs) refl wide in
    rw (cut, take-add start (width - 1) xs, append_assoc)

printable_cut : (t : Bool) (width : ℕ) (text : List ℕ) → All IsPrintable text → All IsPrintable (if t then text else take (width - 1) text ++ 126 ∷ [])
printable_cut true width text all = all
printable_cut false width text all = All-append IsPrintable (take (width - 1) text) (126 ∷ []) (All-take IsPrintable (width - 1) text all) (All-cons IsPrintable 126 [] (search rules) (All-nil IsPrintable))

printable_filled : (width : ℕ) (text : List ℕ) → All IsPrintable text → All IsPrintable (filled_to width text)
printable_filled width text all = All-append IsPrintable text (replicate (width - length text) 32) all (All-replicate IsPrintable (width - length text) 32 (search rules))

pub printable_cell : (width : ℕ) (text : List ℕ) → All IsPrintable (cell_of width text)
printable_cell width text =
    let shown = flat_map printable_byte text in
    printable_filled width (cut_to width shown) (printable_cut (nat_le (length shown) width) width shown (all_printable text))
