use Rattle.std.proofs.Common.{rules, ◌≡◌, ◌∷◌, [], true, false, subst}
use Rattle.std.specs.Cmp.Lexicographic.{slice_cmp}
use Rattle.std.specs.FinMap.{slice_cmp-IsAntisymmetric, nat_cmp-IsAntisymmetric}
use Rattle.std.specs.Ordering.{nat_cmp}
use Rattle.std.specs.declared.cmp.Ordering.TheVariants.{Less, Equal}
use Rattle.std.proofs.lemmas.Result.{IfOk-weaker}
use Rattle.lt_walk.specs.Keys.{IsKeyList, either_access, is_first_of_two}
use Rattle.lt_walk.proofs.FewKeys.{same_key_twice, first_comes_first, second_comes_first, apart, less_from_greater}
use Rattle.lt_walk.proofs.keys.pair_of_keys.Goals as goal

pub returns-then-eq : goal.returns-then-eq
returns-then-eq c =
    let first = c.args.first.now in
    let second = c.args.second.now in
    let tied : slice_cmp nat_cmp first.0 second.0 ≡ Equal = search rules in
    let same : first.0 ≡ second.0 = slice_cmp-IsAntisymmetric nat_cmp-IsAntisymmetric first.0 second.0 tied in
    let list_is : IsKeyList (first ∷ second ∷ []) ((first.0, either_access first.1 second.1) ∷ []) =
    subst (λ z. IsKeyList (first ∷ (z, second.1) ∷ []) ((first.0, either_access first.1 second.1) ∷ [])) same (same_key_twice first.0 first.1 second.1) in
    IfOk-weaker c.one_key.result _ _ (λ list e. rw e (rw c.either_access.ensures list_is)) c.one_key.ensures

pub returns-then-is_first_of_two : goal.returns-then-is_first_of_two
returns-then-is_first_of_two c =
    let first = c.args.first.now in
    let second = c.args.second.now in
    let unequal : slice_cmp nat_cmp first.0 second.0 ≡ Equal → ⊥ = search rules in
    let less : c.eq-2.result ≡ true → slice_cmp nat_cmp first.0 second.0 ≡ Less = search rules in
    let is_first : is_first_of_two first.1 second.1 c.eq-2.result ≡ true = search rules in
    IfOk-weaker c.two_keys.result _ _ (λ list e. rw e (first_comes_first first.0 second.0 first.1 second.1 (apart first.0 second.0 unequal) c.eq-2.result less is_first)) c.two_keys.ensures

pub returns-else-is_first_of_two : goal.returns-else-is_first_of_two
returns-else-is_first_of_two c =
    let first = c.args.first.now in
    let second = c.args.second.now in
    let unequal : slice_cmp nat_cmp first.0 second.0 ≡ Equal → ⊥ = search rules in
    let not_less : c.eq-2.result ≡ false → slice_cmp nat_cmp first.0 second.0 ≡ Less → ⊥ = search rules in
    let is_later : is_first_of_two first.1 second.1 c.eq-2.result ≡ false = search rules in
    IfOk-weaker c.two_keys-else-is_first_of_two.result _ _ (λ list e. rw e (second_comes_first first.0 second.0 first.1 second.1 (apart first.0 second.0 unequal) c.eq-2.result (λ f. less_from_greater first.0 second.0 unequal (not_less f)) is_later)) c.two_keys-else-is_first_of_two.ensures
