-- There is one key list.
use Rattle.std.proofs.Common.{◌≡◌, ◌⊎◌, inl, inr, ℕ, List, [], ◌∷◌, ◌++◌, map, refl, sym, ◌∙◌, ap, subst, arith, ◌<◌}
use Rattle.std.specs.Prelude.{Contains}
use Rattle.std.specs.List.{AllByRecursion}
use Rattle.std.specs.List.Sorted.{IsStrictlySortedBy}
use Rattle.std.specs.Cmp.{IsTotalOrder, tied_itself}
use Rattle.std.specs.Cmp.Lexicographic.{nat_list_cmp_total}
use Rattle.std.specs.Ordering.{ordering_reverse}
use Rattle.std.specs.declared.cmp.Ordering.{Ordering}
use Rattle.std.specs.declared.cmp.Ordering.TheVariants.{Less, Equal, Greater}
use Rattle.std.proofs.lemmas.List.Elements.{Contains-append_left, Contains-append_right, Contains-append_cases, Contains-push, Contains-push_cases}
use Rattle.lt_ids.specs.declared.request.Access.{Access}
use Rattle.lt_ids.specs.declared.request.Access.TheVariants.{Read, Write}
use Rattle.lt_walk.specs.Keys.{AreTheKeys, IsKeyList}

pub none_in_nil : {X : Type 0} (k : X) → Contains [] k → ⊥
none_in_nil k c = let below : c.0 < 0 = c.1 in omega arith

pub cons_cases : {X : Type 0} (x : X) (xs : List X) (k : X) → Contains (x ∷ xs) k → (x ≡ k) ⊎ Contains xs k
cons_cases x xs k c = elim (Contains-append_cases (x ∷ []) xs k c) [
  | inl one ↦ elim (Contains-push_cases [] x k one) [ inl none ↦ absurd (none_in_nil k none) | inr e ↦ inl e ]
  | inr rest ↦ inr rest
]

pub first_in : {X : Type 0} (x : X) (xs : List X) → Contains (x ∷ xs) x
first_in x xs = Contains-append_left (x ∷ []) xs x (Contains-push [] x)

pub later_in : {X : Type 0} (x : X) (xs : List X) (k : X) → Contains xs k → Contains (x ∷ xs) k
later_in x xs k c = Contains-append_right (x ∷ []) xs k c

each_of : {X : Type 0} (P : X → Type 0) (xs : List X) (k : X) → AllByRecursion P xs → Contains xs k → P k
each_of P [] k a c = absurd (none_in_nil k c)
each_of P (x ∷ xs) k a c = elim (cons_cases x xs k c) [ inl e ↦ subst P e a.0 | inr d ↦ each_of P xs k a.1 d ]

module _ {X : Type 0} {R : X → X → Ordering} (o : IsTotalOrder R) where
  not_below_itself : (x : X) → R x x ≡ Less → ⊥
  not_below_itself x e = let t : R x x ≡ Equal = tied_itself o x in cc

  first_same : (x y : X) (xs ys : List X) → AllByRecursion (λ k. R x k ≡ Less) xs → AllByRecursion (λ k. R y k ≡ Less) ys → (x ≡ y) ⊎ Contains xs y → (y ≡ x) ⊎ Contains ys x → x ≡ y
  first_same x y xs ys a b (inl e) d = e
  first_same x y xs ys a b (inr c) (inl e) = sym e
  first_same x y xs ys a b (inr c) (inr d) =
      let up : R x y ≡ Less = each_of (λ k. R x k ≡ Less) xs y a c in
      let down : R y x ≡ Less = each_of (λ k. R y k ≡ Less) ys x b d in
      let turned : R x y ≡ Greater = o.antisymm x y ∙ ap ordering_reverse down in
      absurd cc

  -- each further item of one list is a further item of the other
  rest_of : (x : X) (xs ys : List X) → AllByRecursion (λ k. R x k ≡ Less) xs → ((k : X) → Contains (x ∷ xs) k → Contains (x ∷ ys) k) → (k : X) → Contains xs k → Contains ys k
  rest_of x xs ys a there k c = elim (cons_cases x ys k (there k (later_in x xs k c))) [
    | inl e ↦ absurd (not_below_itself x (subst (λ z. R x z ≡ Less) (sym e) (each_of (λ z. R x z ≡ Less) xs k a c)))
    | inr d ↦ d
  ]

  one_sorted : (xs ys : List X) → IsStrictlySortedBy R xs → IsStrictlySortedBy R ys → ((k : X) → Contains xs k → Contains ys k) → ((k : X) → Contains ys k → Contains xs k) → xs ≡ ys
  unfolding IsStrictlySortedBy
  one_sorted [] [] s t there back = refl
  one_sorted [] (y ∷ ys) s t there back = absurd (none_in_nil y (back y (first_in y ys)))
  one_sorted (x ∷ xs) [] s t there back = absurd (none_in_nil x (there x (first_in x xs)))
  one_sorted (x ∷ xs) (y ∷ ys) s t there back =
      let e : x ≡ y = first_same x y xs ys s.0 t.0 (cons_cases x xs y (back y (first_in y ys))) (cons_cases y ys x (there x (first_in x xs))) in
      let there' : (k : X) → Contains (x ∷ xs) k → Contains (x ∷ ys) k = subst (λ z. (k : X) → Contains (x ∷ xs) k → Contains (z ∷ ys) k) (sym e) there in
      let back' : (k : X) → Contains (x ∷ ys) k → Contains (x ∷ xs) k = subst (λ z. (k : X) → Contains (z ∷ ys) k → Contains (x ∷ xs) k) (sym e) back in
      let above : AllByRecursion (λ k. R x k ≡ Less) ys = subst (λ z. AllByRecursion (λ k. R z k ≡ Less) ys) (sym e) t.0 in
      let rest : xs ≡ ys = one_sorted xs ys s.1 t.1 (rest_of x xs ys s.0 there') (rest_of x ys xs above back') in
      (λ i. e i ∷ rest i)

same_keys : (xs ys : List (List ℕ)) (P : List ℕ → Type 0) → AreTheKeys xs P → AreTheKeys ys P → xs ≡ ys
same_keys xs ys P a b = one_sorted nat_list_cmp_total xs ys a.rise b.rise (λ k c. (b.are k).1 ((a.are k).0 c)) (λ k c. (a.are k).1 ((b.are k).0 c))

pub one_key_list : (given xs ys : List (List ℕ × Access)) → IsKeyList given xs → IsKeyList given ys → xs ≡ ys
one_key_list given xs ys a b =
    let w : a.writes ≡ b.writes = same_keys a.writes b.writes (λ k. Contains given (k, Write)) a.written b.written in
    let r : a.reads ≡ b.reads = same_keys a.reads b.reads (λ k. Contains given (k, Read) × (¬ Contains given (k, Write))) a.read b.read in
    a.joined ∙ (λ i. map (λ k. (k, Write)) (w i) ++ map (λ k. (k, Read)) (r i)) ∙ sym b.joined
