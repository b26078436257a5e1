-- What a walk along edges has done so far.
use Rattle.std.specs.Prelude.{ℕ, ◌≡◌, ◌<◌, ◌≤◌, suc, zero, Bool, true, false, not, ◌||◌, List, [], ◌∷◌, ◌++◌, Contains, filter, length, drop}
use Rattle.std.proofs.Common.{arith, rules, refl, ap, cond, get_or, ◌∙◌}
use Rattle.std.proofs.lemmas.List.Folds.{list_any-append}
use Rattle.example_graph.specs.declared.graph.WaitEdge.{WaitEdge}
use Rattle.example_graph.specs.Graph.{Waits, IsChain, IsCycle, waits, is_among, IsOnPathAt, AllLeadOn, edge_of}

-- the edges of transactions that were not visited
abbrev pub unvisited : List ℕ → List WaitEdge → List WaitEdge
unvisited path edges = filter (λ e. not (is_among path e.waiter)) edges

-- Each of these waits for the next one.
abbrev pub IsWalk : List WaitEdge → List ℕ → Type 0
IsWalk edges [] = Unit {0}
IsWalk edges (a ∷ bs) = IsChain edges a bs

-- The walk has come along this path to the transaction, which is new to it and waits.
pub record IsOnWay (edges : List WaitEdge) (path : List ℕ) (txn : ℕ) : Type 0 where
  pub walk : IsWalk edges (path ++ txn ∷ [])
  pub new : is_among path txn ≡ false
  pub waiting : waits edges txn ≡ true

IsChain-push : (edges : List WaitEdge) (start : ℕ) (bs : List ℕ) (a b : ℕ) → IsChain edges start (bs ++ a ∷ []) → Waits edges a b → IsChain edges start ((bs ++ a ∷ []) ++ b ∷ [])
IsChain-push edges start [] a b chain w = (chain.0, (w, tt))
IsChain-push edges start (c ∷ bs) a b chain w = (chain.0, IsChain-push edges c bs a b chain.1 w)

pub IsWalk-push : (edges : List WaitEdge) (path : List ℕ) (a b : ℕ) → IsWalk edges (path ++ a ∷ []) → Waits edges a b → IsWalk edges ((path ++ a ∷ []) ++ b ∷ [])
IsWalk-push edges [] a b walk w = (w, tt)
IsWalk-push edges (c ∷ bs) a b walk w = IsChain-push edges c bs a b walk w

IsWalk-tail : (edges : List WaitEdge) (a : ℕ) (path : List ℕ) → IsWalk edges (a ∷ path) → IsWalk edges path
IsWalk-tail edges a [] walk = tt
IsWalk-tail edges a (b ∷ bs) walk = walk.1

-- A walk that comes back to a transaction has a cycle from there on.
pub IsCycle-from_walk : (edges : List WaitEdge) (path : List ℕ) (i next : ℕ) → i < length path → get_or path i 0 ≡ next → IsWalk edges (path ++ next ∷ []) → IsCycle edges (drop i path)
IsCycle-from_walk edges [] i next in' is walk = absurd (omega arith)
IsCycle-from_walk edges (a ∷ bs) zero next in' is walk = rw (← is) at walk
IsCycle-from_walk edges (a ∷ bs) (suc i) next in' is walk =
    IsCycle-from_walk edges bs i next (omega arith) is (IsWalk-tail edges a (bs ++ next ∷ []) walk)

-- the next step of a walk that has not come back
pub IsOnWay-more : (edges : List WaitEdge) (path : List ℕ) (txn next : ℕ) → AllLeadOn edges → IsOnWay edges path txn → Waits edges txn next → is_among (path ++ txn ∷ []) next ≡ false → IsOnWay edges (path ++ txn ∷ []) next
IsOnWay-more edges path txn next core way w fresh = record {
  walk = IsWalk-push edges path txn next way.walk w;
  new = fresh;
  waiting = core.each txn next w;
}

cond-le : {X : Type 0} (b c : Bool) (y : X) (xs ys : List X) → (b ≡ true → c ≡ true) → length xs ≤ length ys → length (cond b (y ∷ xs) xs) ≤ length (cond c (y ∷ ys) ys)
cond-le true true y xs ys implies less = omega arith
cond-le true false y xs ys implies less = let no : false ≡ true = implies refl in cc
cond-le false true y xs ys implies less = omega arith
cond-le false false y xs ys implies less = less

cond-lt : {X : Type 0} (b c : Bool) (y : X) (xs ys : List X) → (b ≡ true → c ≡ true) → length xs < length ys → length (cond b (y ∷ xs) xs) < length (cond c (y ∷ ys) ys)
cond-lt true true y xs ys implies less = omega arith
cond-lt true false y xs ys implies less = let no : false ≡ true = implies refl in cc
cond-lt false true y xs ys implies less = omega arith
cond-lt false false y xs ys implies less = less

filter-le : {X : Type 0} (p q : X → Bool) (xs : List X) → ((x : X) → q x ≡ true → p x ≡ true) → length (filter q xs) ≤ length (filter p xs)
filter-le p q [] implies = omega arith
filter-le p q (y ∷ ys) implies = cond-le (q y) (p y) y (filter q ys) (filter p ys) (implies y) (filter-le p q ys implies)

-- A filter keeps fewer than a weaker one that keeps an element which it does not.
pub filter-lt : {X : Type 0} (p q : X → Bool) (xs : List X) → ((x : X) → q x ≡ true → p x ≡ true) → (x : X) → Contains xs x → p x ≡ true → q x ≡ false → length (filter q xs) < length (filter p xs)
filter-lt p q [] implies x (k, in', is) passes fails = absurd (omega arith)
filter-lt p q (y ∷ ys) implies x (zero, in', is) passes fails =
    let less : length (filter q ys) ≤ length (filter p ys) = filter-le p q ys implies in
    let here : p y ≡ true = ap p is ∙ passes in
    let gone : q y ≡ false = ap q is ∙ fails in
    rw (here, gone) (omega arith)
filter-lt p q (y ∷ ys) implies x (suc k, in', is) passes fails =
    cond-lt (q y) (p y) y (filter q ys) (filter p ys) (implies y) (filter-lt p q ys implies x (k, omega arith, is) passes fails)

not-from_or : (b c : Bool) → not (b || c) ≡ true → not b ≡ true
not-from_or true c is = is
not-from_or false c is = refl

-- With one more transaction, fewer edges are left.
pub unvisited-push : (path : List ℕ) (edges : List WaitEdge) (txn next : ℕ) → Waits edges txn next → is_among path txn ≡ false → length (unvisited (path ++ txn ∷ []) edges) < length (unvisited path edges)
unvisited-push path edges txn next w new =
    filter-lt (λ e. not (is_among path e.waiter)) (λ e. not (is_among (path ++ txn ∷ []) e.waiter)) edges
    (λ e still. not-from_or (is_among path e.waiter) (is_among (txn ∷ []) e.waiter) (rw list_any-append at still))
    (edge_of txn next) w (rw new refl) (rw (list_any-append, new) (search rules))

-- the same for the path that a push leaves

pub IsOnWay-pushed : (edges : List WaitEdge) (path longer : List ℕ) (txn next : ℕ) → AllLeadOn edges → IsOnWay edges path txn → Waits edges txn next →
    longer ≡ path ++ txn ∷ [] → is_among longer next ≡ false → IsOnWay edges longer next
IsOnWay-pushed edges path longer txn next core way w is fresh =
    rw is (IsOnWay-more edges path txn next core way w (rw is at fresh))

pub unvisited-pushed : (edges : List WaitEdge) (path longer : List ℕ) (txn next : ℕ) → IsOnWay edges path txn → Waits edges txn next →
    longer ≡ path ++ txn ∷ [] → length (unvisited longer edges) < length (unvisited path edges)
unvisited-pushed edges path longer txn next way w is = rw is (unvisited-push path edges txn next w way.new)

pub IsCycle-pushed : (edges : List WaitEdge) (path longer : List ℕ) (txn next index : ℕ) → IsOnWay edges path txn → Waits edges txn next →
    longer ≡ path ++ txn ∷ [] → IsOnPathAt longer next index → IsCycle edges (drop index longer)
IsCycle-pushed edges path longer txn next index way w is on_path =
    IsCycle-from_walk edges longer index next on_path.within on_path.is (rw is (IsWalk-push edges path txn next way.walk w))
