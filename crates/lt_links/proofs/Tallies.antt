-- The stored count of each transaction stays the number of its nodes.
use Rattle.std.proofs.Common.{◌≡◌, ◌≢◌, ℕ, zero, suc, ◌-◌, ◌<◌, Bool, true, false, cond, nat_eq, Option, Some, None, [], ◌∷◌, unwrap_or, refl, sym, ap, ◌∙◌, inl, inr, subst, arith}
use Rattle.std.specs.Prelude.{IfSome}
use Rattle.std.specs.Map.{lookup}
use mathlib.Core.Bool.{true≢false}
use Rattle.std.proofs.lemmas.Bool.Decides.{nat_tests}
use Rattle.lt_links.specs.declared.stand.Stand.{Stand}
use Rattle.lt_links.specs.Ring.{without}
use Rattle.lt_links.specs.Maps.{Maps, stand}
use Rattle.lt_links.specs.Tallies.{Txns, stored_of, count_of, as_stored, CountsIn, CountsOut, Retallies, names_txn, is_node_of, HasTally, AreTallied}
use Rattle.lt_links.proofs.Rings.{same_or_apart, same_neighbours, is_itself, has-without, Distinct-without, length-without}

-- what is stored depends only on the entries
pub stored_kept : (txns txns' : Txns) → txns'.entries ≡ txns.entries → (t : ℕ) → stored_of txns' t ≡ stored_of txns t
stored_kept txns txns' e t = ap (lookup (nat_eq t)) e

-- the count as it is stored tells the count
pub count_is : (txns : Txns) (t n : ℕ) → stored_of txns t ≡ as_stored n → count_of txns t ≡ n
count_is txns t zero e = ap (λ s. unwrap_or s 0) e
count_is txns t (suc n) e = ap (λ s. unwrap_or s 0) e

pub tally_is : (m : Maps) (txns : Txns) (t n : ℕ) → AreTallied m txns → n ≡ count_of txns t → HasTally m t n
tally_is m txns t n tallied e =
    let own = tallied t in
    record { nodes = own.1.nodes; distinct = own.1.distinct; are = own.1.are; count = e ∙ count_is txns t own.0 own.2 ∙ own.1.count }

-- If each transaction has the same nodes, the counts stay right.
pub AreTallied-same : (m m' : Maps) (txns txns' : Txns) → ((i t : ℕ) → is_node_of (stand m' i) t ≡ is_node_of (stand m i) t) → ((t : ℕ) → stored_of txns' t ≡ stored_of txns t) → AreTallied m txns → AreTallied m' txns'
AreTallied-same m m' txns txns' same kept tallied t =
    let old = tallied t in
    (old.0, record { nodes = old.1.nodes; distinct = old.1.distinct; are = λ i. old.1.are i ∙ sym (same i t); count = old.1.count }, kept t ∙ old.2)

-- without nodes
pub AreTallied-none : (m : Maps) (txns : Txns) → ((i : ℕ) → stand m i ≡ None) → txns.entries ≡ [] → AreTallied m txns
AreTallied-none m txns none empty t =
    (0, record { nodes = []; distinct = tt; are = λ i. sym (ap (λ s. is_node_of s t) (none i)); count = refl }, ap (lookup (nat_eq t)) empty)

one_less : (n : ℕ) → suc n - 1 ≡ n
one_less n = omega arith

named : (u t : ℕ) → nat_eq u t ≡ true → u ≡ t
named u t h = grind (arith, nat_tests)

unnamed : (u t : ℕ) → nat_eq u t ≡ false → t ≢ u
unnamed u t h e = true≢false (sym (ap (λ k. nat_eq k t) (sym e) ∙ is_itself t) ∙ h)

-- what is stored for a transaction after a node has come or gone
module _ (a b : Txns) where
  in_here : (own : Option ℕ) (t : ℕ) → CountsIn a b own → names_txn own t ≡ true → stored_of b t ≡ as_stored (suc (count_of a t))
  in_here None t comes h = absurd (true≢false (sym h))
  in_here (Some u) t comes h = subst (λ k. stored_of b k ≡ as_stored (suc (count_of a k))) (named u t h) comes.here

  in_other : (own : Option ℕ) (t : ℕ) → CountsIn a b own → names_txn own t ≡ false → stored_of b t ≡ stored_of a t
  in_other None t comes h = stored_kept a b comes t
  in_other (Some u) t comes h = comes.others t (unnamed u t h)

  out_here : (own : Option ℕ) (t : ℕ) → CountsOut a b own → names_txn own t ≡ true → stored_of b t ≡ as_stored (count_of a t - 1)
  out_here None t goes h = absurd (true≢false (sym h))
  out_here (Some u) t goes h = subst (λ k. stored_of b k ≡ as_stored (count_of a k - 1)) (named u t h) goes.here

  out_other : (own : Option ℕ) (t : ℕ) → CountsOut a b own → names_txn own t ≡ false → stored_of b t ≡ stored_of a t
  out_other None t goes h = stored_kept a b goes t
  out_other (Some u) t goes h = goes.others t (unnamed u t h)

-- a transaction's nodes, as the map stores their number
abbrev Tallied : Maps → Txns → ℕ → Type 0
Tallied m txns t = (k : ℕ) × HasTally m t k × (stored_of txns t ≡ as_stored k)

-- the transaction has the nodes that it had
kept_tally : (m m' : Maps) (txns txns' : Txns) (t : ℕ) → ((i : ℕ) → is_node_of (stand m' i) t ≡ is_node_of (stand m i) t) → stored_of txns' t ≡ stored_of txns t → Tallied m txns t → Tallied m' txns' t
kept_tally m m' txns txns' t same kept old =
    (old.0, record { nodes = old.1.nodes; distinct = old.1.distinct; are = λ i. old.1.are i ∙ sym (same i); count = old.1.count }, kept ∙ old.2)

-- it has one node more
more_tally : (m m' : Maps) (txns txns' : Txns) (t n : ℕ) → is_node_of (stand m n) t ≡ false → ((i : ℕ) → is_node_of (stand m' i) t ≡ cond (nat_eq i n) true (is_node_of (stand m i) t)) → stored_of txns' t ≡ as_stored (suc (count_of txns t)) → Tallied m txns t → Tallied m' txns' t
more_tally m m' txns txns' t n fresh comes stored old = (
  suc old.0,
  record {
    nodes = n ∷ old.1.nodes;
    distinct = (old.1.are n ∙ fresh, old.1.distinct);
    are = λ i. ap (cond (nat_eq i n) true) (old.1.are i) ∙ sym (comes i);
    count = ap suc old.1.count;
  },
  stored ∙ ap (λ k. as_stored (suc k)) (count_is txns t old.0 old.2),
)

-- it has one node less
less_tally : (m m' : Maps) (txns txns' : Txns) (t n : ℕ) → is_node_of (stand m n) t ≡ true → ((i : ℕ) → is_node_of (stand m' i) t ≡ cond (nat_eq i n) false (is_node_of (stand m i) t)) → stored_of txns' t ≡ as_stored (count_of txns t - 1) → Tallied m txns t → Tallied m' txns' t
less_tally m m' txns txns' t n there goes stored old =
    let one = length-without n old.1.nodes old.1.distinct (old.1.are n ∙ there) in (
      old.0 - 1,
      record {
        nodes = without n old.1.nodes;
        distinct = Distinct-without n old.1.nodes old.1.distinct;
        are = λ i. has-without i n old.1.nodes ∙ ap (cond (nat_eq i n) false) (old.1.are i) ∙ sym (goes i);
        count = omega (arith, old.1.count, one);
      },
      stored ∙ ap (λ k. as_stored (k - 1)) (count_is txns t old.0 old.2),
    )

-- what a node has after it was written
wrote : (m m' : Maps) (n : ℕ) (o : Option Stand) (t : ℕ) → ((i : ℕ) → stand m' i ≡ cond (nat_eq i n) o (stand m i)) → (i : ℕ) → is_node_of (stand m' i) t ≡ cond (nat_eq i n) (is_node_of o t) (is_node_of (stand m i) t)
wrote m m' n o t writes i = ap (λ s. is_node_of s t) (writes i) ∙ by_case (nat_eq i n)
  where
    by_case : (b : Bool) → is_node_of (cond b o (stand m i)) t ≡ cond b (is_node_of o t) (is_node_of (stand m i) t)
    by_case true = refl
    by_case false = refl

-- and if that is what it had, nothing has changed
wrote_same : (m m' : Maps) (n : ℕ) (o : Option Stand) (t : ℕ) → ((i : ℕ) → stand m' i ≡ cond (nat_eq i n) o (stand m i)) → is_node_of o t ≡ is_node_of (stand m n) t → (i : ℕ) → is_node_of (stand m' i) t ≡ is_node_of (stand m i) t
wrote_same m m' n o t writes same i = wrote m m' n o t writes i ∙ elim (same_or_apart i n) [
  | inl e ↦ rw e.1 (same ∙ ap (λ k. is_node_of (stand m k) t) (sym e.0))
  | inr d ↦ rw d.1 refl
]

-- a transaction other than the node's is not concerned
by_own : {X : Type 0} (own : Option ℕ) (t : ℕ) → (names_txn own t ≡ true → X) → (names_txn own t ≡ false → X) → X
by_own {X} own t here elsewhere = elim (names_txn own t) as (λ b. names_txn own t ≡ b → X) [
  | true ↦ here
  | false ↦ elsewhere
] refl

-- a node comes
pub AreTallied-in : (m m' : Maps) (n : ℕ) (s : Stand) → ((i : ℕ) → stand m' i ≡ cond (nat_eq i n) (Some s) (stand m i)) → stand m n ≡ None → (txns txns' : Txns) → AreTallied m txns → CountsIn txns txns' s.txn → AreTallied m' txns'
AreTallied-in m m' n s writes fresh txns txns' tallied comes t =
    let none : is_node_of (stand m n) t ≡ false = ap (λ o. is_node_of o t) fresh in
    by_own s.txn t
    (λ own. more_tally m m' txns txns' t n none (λ i. wrote m m' n (Some s) t writes i ∙ ap (λ b. cond (nat_eq i n) b (is_node_of (stand m i) t)) own) (in_here txns txns' s.txn t comes own) (tallied t))
    (λ other. kept_tally m m' txns txns' t (wrote_same m m' n (Some s) t writes (other ∙ sym none)) (in_other txns txns' s.txn t comes other) (tallied t))

-- a node goes
pub AreTallied-out : (m m' : Maps) (n : ℕ) (s : Stand) → ((i : ℕ) → stand m' i ≡ cond (nat_eq i n) None (stand m i)) → stand m n ≡ Some s → (txns txns' : Txns) → AreTallied m txns → CountsOut txns txns' s.txn → AreTallied m' txns'
AreTallied-out m m' n s writes there txns txns' tallied goes t =
    let had : is_node_of (stand m n) t ≡ names_txn s.txn t = ap (λ o. is_node_of o t) there in
    by_own s.txn t
    (λ own. less_tally m m' txns txns' t n (had ∙ own) (wrote m m' n None t writes) (out_here txns txns' s.txn t goes own) (tallied t))
    (λ other. kept_tally m m' txns txns' t (wrote_same m m' n None t writes (sym (had ∙ other))) (out_other txns txns' s.txn t goes other) (tallied t))

-- a node gets an entry of the transaction that it had
pub AreTallied-set : (m m' : Maps) (n : ℕ) (s d : Stand) → ((i : ℕ) → stand m' i ≡ cond (nat_eq i n) (Some s) (stand m i)) → stand m n ≡ Some d → d.txn ≡ s.txn → (txns : Txns) → AreTallied m txns → AreTallied m' txns
AreTallied-set m m' n s d writes there same txns tallied t =
    kept_tally m m' txns txns t (wrote_same m m' n (Some s) t writes (ap (λ o. names_txn o t) (sym same) ∙ sym (ap (λ o. is_node_of o t) there))) refl (tallied t)

-- a node gets an entry of another transaction
pub AreTallied-moved : (m m' : Maps) (n : ℕ) (s d : Stand) → ((i : ℕ) → stand m' i ≡ cond (nat_eq i n) (Some s) (stand m i)) → stand m n ≡ Some d → d.txn ≢ s.txn → (txns txns1 txns2 : Txns) → AreTallied m txns → CountsIn txns txns1 s.txn → CountsOut txns1 txns2 d.txn → AreTallied m' txns2
AreTallied-moved m m' n s d writes there apart txns txns1 txns2 tallied comes goes t =
    let had : is_node_of (stand m n) t ≡ names_txn d.txn t = ap (λ o. is_node_of o t) there in
    by_own s.txn t
    (λ new. by_own d.txn t
    (λ old. absurd (apart (both d.txn s.txn t old new)))
    (λ other. more_tally m m' txns txns2 t n (had ∙ other) (λ i. wrote m m' n (Some s) t writes i ∙ ap (λ b. cond (nat_eq i n) b (is_node_of (stand m i) t)) new)
    (out_other txns1 txns2 d.txn t goes other ∙ in_here txns txns1 s.txn t comes new) (tallied t)))
    (λ not_new. by_own d.txn t
    (λ old. less_tally m m' txns txns2 t n (had ∙ old) (λ i. wrote m m' n (Some s) t writes i ∙ ap (λ b. cond (nat_eq i n) b (is_node_of (stand m i) t)) not_new)
    (out_here txns1 txns2 d.txn t goes old ∙ ap (λ o. as_stored (unwrap_or o 0 - 1)) (in_other txns txns1 s.txn t comes not_new)) (tallied t))
    (λ other. kept_tally m m' txns txns2 t (wrote_same m m' n (Some s) t writes (not_new ∙ sym (had ∙ other)))
    (out_other txns1 txns2 d.txn t goes other ∙ in_other txns txns1 s.txn t comes not_new) (tallied t)))
  where
    both : (a b : Option ℕ) (t : ℕ) → names_txn a t ≡ true → names_txn b t ≡ true → a ≡ b
    both None b t h g = absurd (true≢false (sym h))
    both (Some u) None t h g = absurd (true≢false (sym g))
    both (Some u) (Some v) t h g = ap Some (named u t h ∙ sym (named v t g))

-- a node's transaction has a node
pub out_positive : (m : Maps) (txns : Txns) (n : ℕ) (s : Stand) → AreTallied m txns → stand m n ≡ Some s → IfSome s.txn (λ t. 0 < count_of txns t)
out_positive m txns n s tallied there = by_case s.txn (λ t own. ap (λ o. is_node_of o t) there ∙ own)
  where
    by_case : (o : Option ℕ) → ((t : ℕ) → names_txn o t ≡ true → is_node_of (stand m n) t ≡ true) → IfSome o (λ t. 0 < count_of txns t)
    by_case None has_it = tt
    by_case (Some t) has_it =
        let old = tallied t in
        let one = length-without n old.1.nodes old.1.distinct (old.1.are n ∙ has_it t (is_itself t)) in
        omega (arith, count_is txns t old.0 old.2, old.1.count, one)

-- A node gets an entry, of whichever transaction.
pub AreTallied-retallied : (m m' : Maps) (n : ℕ) (s d : Stand) → ((i : ℕ) → stand m' i ≡ cond (nat_eq i n) (Some s) (stand m i)) → stand m n ≡ Some d → (txns txns' : Txns) → AreTallied m txns → Retallies txns txns' d.txn s.txn → AreTallied m' txns'
AreTallied-retallied m m' n s d writes there txns txns' tallied moves =
    elim (same_neighbours d.txn s.txn) [
      | inl same ↦ λ t. kept_tally m' m' txns txns' t (λ i. refl) (stored_kept txns txns' (moves.0 same) t) (AreTallied-set m m' n s d writes there same txns tallied t)
      | inr apart ↦ let moved = moves.1 apart in AreTallied-moved m m' n s d writes there apart txns moved.between txns' tallied moved.comes moved.goes
    ]

-- A node that is counted in, and then out again, leaves each count as it was.
module _ (m : Maps) (txns txns1 txns2 : Txns) (own : Option ℕ) (tallied : AreTallied m txns) (comes : CountsIn txns txns1 own) where
  pub AreTallied-back : CountsOut txns1 txns2 own → AreTallied m txns2
  AreTallied-back goes t =
      by_own own t
      (λ here. kept_tally m m txns txns2 t (λ i. refl) (back here) (tallied t))
      (λ other. kept_tally m m txns txns2 t (λ i. refl) (out_other txns1 txns2 own t goes other ∙ in_other txns txns1 own t comes other) (tallied t))
    where
      back : names_txn own t ≡ true → stored_of txns2 t ≡ stored_of txns t
      back here =
          let old = tallied t in
          let counted = count_is txns1 t (suc (count_of txns t)) (in_here txns txns1 own t comes here) in
          out_here txns1 txns2 own t goes here ∙ ap (λ k. as_stored (k - 1)) counted ∙ ap as_stored (one_less (count_of txns t)) ∙ ap as_stored (count_is txns t old.0 old.2) ∙ sym old.2
