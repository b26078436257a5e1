-- Lists that hold all of some lanes.
use Rattle.std.proofs.Common.{◌≡◌, ◌<◌, ℕ, ◌+◌, Bool, true, false, nat_lt, Some, List, length, slice_get, arith, refl, sym}
use Rattle.std.specs.Prelude.{Contains, IsPermutation}
use Rattle.std.proofs.lemmas.Bool.Decides.{nat_tests}
use Rattle.std.proofs.lemmas.List.Sorted.{Contains-permutation}
use Rattle.std.proofs.lemmas.Option.{slice_get_read}
use Rattle.lt_trace_show.specs.declared.timeline.Lane.{Lane}
use Rattle.lt_trace_show.specs.Owners.{KeepsLanes, HaveLanes, HaveLanesOf}

lanes_if : (t : Bool) (old new lanes : List Lane) (n : ℕ) (here : Lane) → slice_get lanes n ≡ Some here → Contains new here → KeepsLanes old new → HaveLanes old lanes n → (k : ℕ) (l : Lane) → nat_lt k n ≡ t → k < n + 1 → slice_get lanes k ≡ Some l → Contains new l
lanes_if true old new lanes n here at added kept all k l lower low is =
    let below : k < n = grind (arith, nat_tests) in
    kept l (all k l below is)
lanes_if false old new lanes n here at added kept all k l lower low is =
    let same : k ≡ n = grind (arith, nat_tests) in
    let lane : l ≡ here = cc in
    rw lane added

pub lanes_more_by : (old new lanes : List Lane) (n : ℕ) (here : Lane) → slice_get lanes n ≡ Some here → Contains new here → KeepsLanes old new → HaveLanes old lanes n → HaveLanes new lanes (n + 1)
lanes_more_by old new lanes n here at added kept all = λ k l low is. lanes_if (nat_lt k n) old new lanes n here at added kept all k l refl low is

-- What holds all lanes of a list that was reordered holds all of the list.
pub has_all_sorted : (own sorted all : List Lane) → IsPermutation all sorted → HaveLanes own sorted (length sorted) → HaveLanesOf own all
has_all_sorted own sorted all moved have = λ l there.
    let found : Contains sorted l = Contains-permutation all sorted l moved there in
    have found.0 l found.1 (slice_get_read sorted (length sorted) found.0 l refl found.1 (sym found.2))
