use Rattle.std.proofs.Common.{nat_eq, ◌≡◌, sym}
use Rattle.std.specs.Cmp.Lexicographic.{pointwise, nat_list_cmp_total, nat_list_eq_equiv, lists_ties, same_text}
use Rattle.std.specs.Cmp.{unsigned_ties}
use Rattle.std.specs.Ordering.{nat_cmp}
use Rattle.std.specs.List.{dedup}
use Rattle.std.proofs.lemmas.List.Filters.{dedup_is}
use Rattle.std.proofs.lemmas.List.Kept.{IsStrictlySortedBy-dedup, Contains-dedup, Contains-from_dedup}
use Rattle.std.proofs.lemmas.List.Sorted.{Contains-permutation, IsPermutation-sym}
use Rattle.lt_walk.proofs.keys.distinct.Goals as goal

pub returns : goal.returns
returns c =
    let is : c.dedup.new.self.items ≡ dedup (pointwise nat_eq) c.sort.new.self.items = dedup_is (pointwise nat_eq) _ _ c.dedup.ensures.filtered in
    let moved = c.sort.ensures.permutation in
    record {
      rise = rw is (IsStrictlySortedBy-dedup nat_list_cmp_total (lists_ties nat_cmp unsigned_ties) _ c.in_ok-sort.ensures.sorted);
      are = λ k. (
        λ h. Contains-permutation _ _ k (IsPermutation-sym _ _ moved) (Contains-from_dedup (pointwise nat_eq) _ k (rw is at h)),
        λ h. rw is (Contains-dedup nat_list_eq_equiv (λ x y e. same_text x y (sym e)) _ k (Contains-permutation _ _ k moved h)),
      );
    }
