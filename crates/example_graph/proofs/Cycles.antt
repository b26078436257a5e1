-- What removing edges that lead to nobody who waits does to cycles.
use Rattle.std.specs.Prelude.{ℕ, ◌≡◌, ◌<◌, ◌≤◌, suc, zero, Bool, true, false, nat_eq, List, [], ◌∷◌, ◌++◌, Contains, filter, length, Some, None, slice_get}
use Rattle.std.proofs.Common.{arith, rules, refl, ap, cond, ◌∙◌}
use Rattle.std.proofs.lemmas.List.Elements.{filter_passes, All-contains}
use Rattle.std.proofs.lemmas.List.Folds.{list_any_at}
use Rattle.example_graph.specs.declared.graph.WaitEdge.{WaitEdge}
use Rattle.example_graph.specs.Graph.{Waits, IsChain, IsCycle, waits, pruned, KeepsCycles, AllLeadOn, HasNoCycle, edge_of}

Contains-head : {X : Type 0} (y : X) (xs : List X) (x : X) → y ≡ x → Contains (y ∷ xs) x
Contains-head y xs x same = (0, omega arith, same)

Contains-tail : {X : Type 0} (y : X) (xs : List X) (x : X) → Contains xs x → Contains (y ∷ xs) x
Contains-tail y xs x (k, in', is) = (suc k, omega arith, is)

Contains-cond : {X : Type 0} (b : Bool) (y : X) (xs : List X) (x : X) → Contains xs x → Contains (cond b (y ∷ xs) xs) x
Contains-cond true y xs x has = Contains-tail y xs x has
Contains-cond false y xs x has = has

-- an element that passes a filter is kept
pub Contains-filter : {X : Type 0} (p : X → Bool) (xs : List X) (x : X) → Contains xs x → p x ≡ true → Contains (filter p xs) x
Contains-filter p [] x (k, in', is) passes = absurd (omega arith)
Contains-filter p (y ∷ ys) x (zero, in', is) passes =
    let here : p y ≡ true = ap p is ∙ passes in
    rw here (Contains-head y (filter p ys) x is)
Contains-filter p (y ∷ ys) x (suc k, in', is) passes =
    Contains-cond (p y) y (filter p ys) x (Contains-filter p ys x (k, omega arith, is) passes)

Contains-from_cond : {X : Type 0} (b : Bool) (y : X) (ys zs : List X) (x : X) → (Contains zs x → Contains ys x) → Contains (cond b (y ∷ zs) zs) x → Contains (y ∷ ys) x
Contains-from_cond true y ys zs x before (zero, in', is) = Contains-head y ys x is
Contains-from_cond true y ys zs x before (suc k, in', is) = Contains-tail y ys x (before (k, omega arith, is))
Contains-from_cond false y ys zs x before has = Contains-tail y ys x (before has)

-- what a filter keeps was there before
pub Contains-from_filter : {X : Type 0} (p : X → Bool) (xs : List X) (x : X) → Contains (filter p xs) x → Contains xs x
Contains-from_filter p [] x has = has
Contains-from_filter p (y ∷ ys) x has =
    Contains-from_cond (p y) y ys (filter p ys) x (Contains-from_filter p ys x) has

length-cond : {X : Type 0} (b : Bool) (y : X) (xs ys : List X) → length xs ≤ length ys → length (cond b (y ∷ xs) xs) ≤ length (y ∷ ys)
length-cond true y xs ys short = omega arith
length-cond false y xs ys short = omega arith

pub length-filter_le : {X : Type 0} (p : X → Bool) (xs : List X) → length (filter p xs) ≤ length xs
length-filter_le p [] = omega arith
length-filter_le p (y ∷ ys) = length-cond (p y) y (filter p ys) ys (length-filter_le p ys)

cond-whole : {X : Type 0} (b : Bool) (y : X) (xs ys : List X) → length xs ≤ length ys → (length xs ≡ length ys → xs ≡ ys) →
    length (cond b (y ∷ xs) xs) ≡ length (y ∷ ys) → cond b (y ∷ xs) xs ≡ y ∷ ys
cond-whole true y xs ys short before same = ap (λ t. y ∷ t) (before (omega arith))
cond-whole false y xs ys short before same = absurd (omega arith)

-- a filter that keeps as many elements as there are keeps all
pub filter-whole : {X : Type 0} (p : X → Bool) (xs : List X) → length (filter p xs) ≡ length xs → filter p xs ≡ xs
filter-whole p [] same = refl
filter-whole p (y ∷ ys) same =
    cond-whole (p y) y (filter p ys) ys (length-filter_le p ys) (filter-whole p ys) same

-- who waits for somebody waits
pub waits-from_Waits : (edges : List WaitEdge) (a b : ℕ) → Waits edges a b → waits edges a ≡ true
waits-from_Waits edges a b (k, in', is) =
    list_any_at (λ e. nat_eq e.waiter a) edges k (edge_of a b) in' (rw is (search rules))

-- the start of a chain that is not empty waits
pub waits-from_chain : (edges : List WaitEdge) (a b : ℕ) (bs : List ℕ) → IsChain edges a (bs ++ b ∷ []) → waits edges a ≡ true
waits-from_chain edges a b [] chain = waits-from_Waits edges a b chain.0
waits-from_chain edges a b (c ∷ bs) chain = waits-from_Waits edges a c chain.0

-- A chain to somebody who waits is kept.
pub IsChain-pruned : (edges : List WaitEdge) (a b : ℕ) (bs : List ℕ) → waits edges b ≡ true → IsChain edges a (bs ++ b ∷ []) → IsChain (pruned edges) a (bs ++ b ∷ [])
IsChain-pruned edges a b [] w chain = (Contains-filter (λ e. waits edges e.holder) edges (edge_of a b) chain.0 w, tt)
IsChain-pruned edges a b (c ∷ bs) w chain = (
  Contains-filter (λ e. waits edges e.holder) edges (edge_of a c) chain.0 (waits-from_chain edges c b bs chain.1),
  IsChain-pruned edges c b bs w chain.1,
)

pub IsCycle-pruned : (edges : List WaitEdge) (cycle : List ℕ) → IsCycle edges cycle → IsCycle (pruned edges) cycle
IsCycle-pruned edges [] is = is
IsCycle-pruned edges (a ∷ bs) is = IsChain-pruned edges a a bs (waits-from_chain edges a a bs is) is

pub KeepsCycles-pruned : (edges left : List WaitEdge) → KeepsCycles edges left → KeepsCycles edges (pruned left)
KeepsCycles-pruned edges left keeps = record {
  among = λ e has. keeps.among e (Contains-from_filter (λ e. waits left e.holder) left e has);
  kept = λ cycle is. IsCycle-pruned left cycle (keeps.kept cycle is);
}

-- If nothing was removed, each edge leads on.
pub AllLeadOn-pruned : (edges : List WaitEdge) → length (pruned edges) ≡ length edges → AllLeadOn (pruned edges)
AllLeadOn-pruned edges same = record {
  each = λ a b has.
      let leads : waits edges b ≡ true = All-contains (λ e. waits edges e.holder ≡ true) (pruned edges) (edge_of a b) (filter_passes (λ e. waits edges e.holder) edges) has in
      rw (filter-whole (λ e. waits edges e.holder) edges same) leads;
}

-- the same for the edges that a round has left

pub KeepsCycles-fewer : (edges left fewer : List WaitEdge) → KeepsCycles edges left → fewer ≡ pruned left → KeepsCycles edges fewer
KeepsCycles-fewer edges left fewer keeps is = rw is (KeepsCycles-pruned edges left keeps)

pub AllLeadOn-fewer : (left fewer : List WaitEdge) → fewer ≡ pruned left → length fewer ≡ length left → AllLeadOn fewer
AllLeadOn-fewer left fewer is same = rw is (AllLeadOn-pruned left (rw is at same))

pub length-fewer : (left fewer : List WaitEdge) → fewer ≡ pruned left → (length fewer ≡ length left → ⊥) → length fewer < length left
length-fewer left fewer is differs =
    let most : length fewer ≤ length left = rw is (length-filter_le (λ e. waits left e.holder) left) in
    omega arith

IsCycle-none : (cycle : List ℕ) → IsCycle [] cycle → ⊥
IsCycle-none [] is = is
IsCycle-none (a ∷ bs) is = let no : false ≡ true = waits-from_chain [] a a bs is in cc

pub HasNoCycle-from_none : (edges left : List WaitEdge) → KeepsCycles edges left → left ≡ [] → HasNoCycle edges
HasNoCycle-from_none edges left keeps none = λ cycle is. IsCycle-none cycle (rw none at (keeps.kept cycle is))

IsChain-among : (edges left : List WaitEdge) (a : ℕ) (bs : List ℕ) → ((e : WaitEdge) → Contains left e → Contains edges e) → IsChain left a bs → IsChain edges a bs
IsChain-among edges left a [] among chain = tt
IsChain-among edges left a (b ∷ bs) among chain =
    (among (edge_of a b) chain.0, IsChain-among edges left b bs among chain.1)

pub IsCycle-among : (edges left : List WaitEdge) (cycle : List ℕ) → KeepsCycles edges left → IsCycle left cycle → IsCycle edges cycle
IsCycle-among edges left [] keeps is = is
IsCycle-among edges left (a ∷ bs) keeps is = IsChain-among edges left a (bs ++ a ∷ []) keeps.among is

pub none_from_first : (xs : List WaitEdge) → None ≡ slice_get xs 0 → xs ≡ []
none_from_first [] is = refl
none_from_first (x ∷ xs) is = cc

pub waits-from_first : (edges : List WaitEdge) (e : WaitEdge) → Some e ≡ slice_get edges 0 → waits edges e.waiter ≡ true
waits-from_first [] e is = cc
waits-from_first (x ∷ xs) e is = let same : e ≡ x = cc in rw same (search rules)
