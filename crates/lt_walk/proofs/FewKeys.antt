-- The key lists of one access and of two.
use Rattle.std.proofs.Common.{◌≡◌, ◌⊎◌, inl, inr, ℕ, Bool, true, false, List, [], ◌∷◌, refl, sym, ◌∙◌, ap, subst}
use Rattle.std.specs.Prelude.{Contains}
use Rattle.std.specs.List.Sorted.{IsStrictlySortedBy}
use Rattle.std.specs.Cmp.{tied_itself}
use Rattle.std.specs.Cmp.Lexicographic.{slice_cmp, nat_list_cmp_total}
use Rattle.std.specs.Ordering.{nat_cmp, ordering_reverse}
use Rattle.std.specs.declared.cmp.Ordering.{Ordering}
use Rattle.std.specs.declared.cmp.Ordering.TheVariants.{Less, Equal, Greater}
use Rattle.lt_ids.specs.declared.request.Access.{Access}
use Rattle.lt_ids.specs.declared.request.Access.TheVariants.{Read, Write}
use Rattle.lt_walk.specs.Keys.{IsKeyList, either_access, is_first_of_two}
use Rattle.lt_walk.proofs.OneList.{none_in_nil, cons_cases, first_in, later_in}

abbrev Pair : Type 0
Pair = List ℕ × Access

-- ---- members of short lists

one_case : {X : Type 0} (x k : X) → Contains (x ∷ []) k → x ≡ k
one_case x k c = elim (cons_cases x [] k c) [ inl e ↦ e | inr d ↦ absurd (none_in_nil k d) ]

two_cases : {X : Type 0} (x y k : X) → Contains (x ∷ y ∷ []) k → (x ≡ k) ⊎ (y ≡ k)
two_cases x y k c = elim (cons_cases x (y ∷ []) k c) [ inl e ↦ inl e | inr d ↦ inr (one_case y k d) ]

second_in : {X : Type 0} (x y : X) → Contains (x ∷ y ∷ []) y
second_in x y = later_in x (y ∷ []) y (first_in y [])

key_in : (x y : Pair) (k : List ℕ) (a : Access) → (x ≡ (k, a)) ⊎ (y ≡ (k, a)) → Contains (x ∷ y ∷ []) (k, a)
key_in x y k a (inl e) = subst (λ z. Contains (x ∷ y ∷ []) z) e (first_in x (y ∷ []))
key_in x y k a (inr e) = subst (λ z. Contains (x ∷ y ∷ []) z) e (second_in x y)

other_kind : (j k : List ℕ) → ◌≡◌ {A = Pair} (j, Read) (k, Write) → ⊥
other_kind j k e = let same : Read ≡ Write = ap (λ (x : Pair). x.1) e in absurd cc

kind_other : (j k : List ℕ) → ◌≡◌ {A = Pair} (j, Write) (k, Read) → ⊥
kind_other j k e = let same : Write ≡ Read = ap (λ (x : Pair). x.1) e in absurd cc

same_key : (j k : List ℕ) (a : Access) → ◌≡◌ {A = Pair} (j, a) (k, a) → j ≡ k
same_key j k a e = ap (λ (x : Pair). x.0) e

paired : (j k : List ℕ) (a : Access) → j ≡ k → ◌≡◌ {A = Pair} (j, a) (k, a)
paired j k a e = λ i. (e i, a)

-- ---- short lists are sorted

sorted_one : (k : List ℕ) → IsStrictlySortedBy (slice_cmp nat_cmp) (k ∷ [])
unfolding IsStrictlySortedBy
sorted_one k = (tt, tt)

sorted_two : (j k : List ℕ) → slice_cmp nat_cmp j k ≡ Less → IsStrictlySortedBy (slice_cmp nat_cmp) (j ∷ k ∷ [])
unfolding IsStrictlySortedBy
sorted_two j k less = ((less, tt), (tt, tt))

sorted_none : IsStrictlySortedBy (slice_cmp nat_cmp) []
unfolding IsStrictlySortedBy
sorted_none = tt

-- ---- the same accesses in another order

IsKeyList-same : (given other visited : List Pair) → ((x : Pair) → Contains given x → Contains other x) → ((x : Pair) → Contains other x → Contains given x) → IsKeyList given visited → IsKeyList other visited
IsKeyList-same given other visited there back l = record {
  writes = l.writes;
  reads = l.reads;
  written = record {
    rise = l.written.rise;
    are = λ k. (λ c. there (k, Write) ((l.written.are k).0 c), λ c. (l.written.are k).1 (back (k, Write) c));
  };
  read = record {
    rise = l.read.rise;
    are = λ k. (
      λ c. (there (k, Read) ((l.read.are k).0 c).0, λ w. ((l.read.are k).0 c).1 (back (k, Write) w)),
      λ c. (l.read.are k).1 (back (k, Read) c.0, λ w. c.1 (there (k, Write) w)),
    );
  };
  joined = l.joined;
}

turned : (x y : Pair) (visited : List Pair) → IsKeyList (x ∷ y ∷ []) visited → IsKeyList (y ∷ x ∷ []) visited
turned x y visited l = IsKeyList-same (x ∷ y ∷ []) (y ∷ x ∷ []) visited (λ z c. elim (two_cases x y z c) [ inl e ↦ key_in y x z.0 z.1 (inr e) | inr e ↦ key_in y x z.0 z.1 (inl e) ]) (λ z c. elim (two_cases y x z c) [ inl e ↦ key_in x y z.0 z.1 (inr e) | inr e ↦ key_in x y z.0 z.1 (inl e) ]) l

twice : (x : Pair) (visited : List Pair) → IsKeyList (x ∷ []) visited → IsKeyList (x ∷ x ∷ []) visited
twice x visited l = IsKeyList-same (x ∷ []) (x ∷ x ∷ []) visited (λ z c. later_in x (x ∷ []) z c) (λ z c. elim (two_cases x x z c) [ inl e ↦ subst (λ w. Contains (x ∷ []) w) e (first_in x []) | inr e ↦ subst (λ w. Contains (x ∷ []) w) e (first_in x []) ]) l

-- ---- one key

pub one_access : (key : List ℕ) (a : Access) → IsKeyList ((key, a) ∷ []) ((key, a) ∷ [])
one_access key Write = record {
  writes = key ∷ [];
  reads = [];
  written = record {
    rise = sorted_one key;
    are = λ k. (
      λ c. subst (λ z. Contains {X = Pair} ((key, Write) ∷ []) (z, Write)) (one_case key k c) (first_in (key, Write) []),
      λ c. subst (λ z. Contains (key ∷ []) z) (same_key key k Write (one_case (key, Write) (k, Write) c)) (first_in key []),
    );
  };
  read = record {
    rise = sorted_none;
    are = λ k. (λ c. absurd (none_in_nil k c), λ c. absurd (kind_other key k (one_case (key, Write) (k, Read) c.0)));
  };
  joined = refl;
}
one_access key Read = record {
  writes = [];
  reads = key ∷ [];
  written = record {
    rise = sorted_none;
    are = λ k. (λ c. absurd (none_in_nil k c), λ c. absurd (other_kind key k (one_case (key, Read) (k, Write) c)));
  };
  read = record {
    rise = sorted_one key;
    are = λ k. (
      λ c. (subst (λ z. Contains {X = Pair} ((key, Read) ∷ []) (z, Read)) (one_case key k c) (first_in (key, Read) []), λ w. other_kind key k (one_case (key, Read) (k, Write) w)),
      λ c. subst (λ z. Contains (key ∷ []) z) (same_key key k Read (one_case (key, Read) (k, Read) c.0)) (first_in key []),
    );
  };
  joined = refl;
}

-- a key that is written and read
written_and_read : (key : List ℕ) → IsKeyList ((key, Write) ∷ (key, Read) ∷ []) ((key, Write) ∷ [])
written_and_read key =
    let w : Pair = (key, Write) in
    let r : Pair = (key, Read) in
    record {
      writes = key ∷ [];
      reads = [];
      written = record {
        rise = sorted_one key;
        are = λ k. (
          λ c. key_in w r k Write (inl (paired key k Write (one_case key k c))),
          λ c. elim (two_cases w r (k, Write) c) [
            | inl e ↦ subst (λ z. Contains (key ∷ []) z) (same_key key k Write e) (first_in key [])
            | inr e ↦ absurd (other_kind key k e)
          ],
        );
      };
      read = record {
        rise = sorted_none;
        are = λ k. (
          λ c. absurd (none_in_nil k c),
          λ c. elim (two_cases w r (k, Read) c.0) [
            | inl e ↦ absurd (kind_other key k e)
            | inr e ↦ absurd (c.1 (key_in w r k Write (inl (paired key k Write (same_key key k Read e)))))
          ],
        );
      };
      joined = refl;
    }

pub same_key_twice : (key : List ℕ) (a b : Access) → IsKeyList ((key, a) ∷ (key, b) ∷ []) ((key, either_access a b) ∷ [])
same_key_twice key Write Write = twice (key, Write) ((key, Write) ∷ []) (one_access key Write)
same_key_twice key Write Read = written_and_read key
same_key_twice key Read Write = turned (key, Write) (key, Read) ((key, Write) ∷ []) (written_and_read key)
same_key_twice key Read Read = twice (key, Read) ((key, Read) ∷ []) (one_access key Read)

-- ---- two keys

both_written : (j k : List ℕ) → slice_cmp nat_cmp j k ≡ Less → IsKeyList ((j, Write) ∷ (k, Write) ∷ []) ((j, Write) ∷ (k, Write) ∷ [])
both_written j k less =
    let x : Pair = (j, Write) in
    let y : Pair = (k, Write) in
    record {
      writes = j ∷ k ∷ [];
      reads = [];
      written = record {
        rise = sorted_two j k less;
        are = λ q. (
          λ c. elim (two_cases j k q c) [ inl e ↦ key_in x y q Write (inl (paired j q Write e)) | inr e ↦ key_in x y q Write (inr (paired k q Write e)) ],
          λ c. elim (two_cases x y (q, Write) c) [
            | inl e ↦ subst (λ z. Contains (j ∷ k ∷ []) z) (same_key j q Write e) (first_in j (k ∷ []))
            | inr e ↦ subst (λ z. Contains (j ∷ k ∷ []) z) (same_key k q Write e) (second_in j k)
          ],
        );
      };
      read = record {
        rise = sorted_none;
        are = λ q. (
          λ c. absurd (none_in_nil q c),
          λ c. elim (two_cases x y (q, Read) c.0) [ inl e ↦ absurd (kind_other j q e) | inr e ↦ absurd (kind_other k q e) ],
        );
      };
      joined = refl;
    }

both_read : (j k : List ℕ) → slice_cmp nat_cmp j k ≡ Less → IsKeyList ((j, Read) ∷ (k, Read) ∷ []) ((j, Read) ∷ (k, Read) ∷ [])
both_read j k less =
    let x : Pair = (j, Read) in
    let y : Pair = (k, Read) in
    let unwritten : (q : List ℕ) → Contains (x ∷ y ∷ []) (q, Write) → ⊥ =
    λ q c. elim (two_cases x y (q, Write) c) [ inl e ↦ other_kind j q e | inr e ↦ other_kind k q e ] in
    record {
      writes = [];
      reads = j ∷ k ∷ [];
      written = record {
        rise = sorted_none;
        are = λ q. (λ c. absurd (none_in_nil q c), λ c. absurd (unwritten q c));
      };
      read = record {
        rise = sorted_two j k less;
        are = λ q. (
          λ c. (
            elim (two_cases j k q c) [ inl e ↦ key_in x y q Read (inl (paired j q Read e)) | inr e ↦ key_in x y q Read (inr (paired k q Read e)) ],
            unwritten q,
          ),
          λ c. elim (two_cases x y (q, Read) c.0) [
            | inl e ↦ subst (λ z. Contains (j ∷ k ∷ []) z) (same_key j q Read e) (first_in j (k ∷ []))
            | inr e ↦ subst (λ z. Contains (j ∷ k ∷ []) z) (same_key k q Read e) (second_in j k)
          ],
        );
      };
      joined = refl;
    }

written_then_read : (j k : List ℕ) → (j ≡ k → ⊥) → IsKeyList ((j, Write) ∷ (k, Read) ∷ []) ((j, Write) ∷ (k, Read) ∷ [])
written_then_read j k other =
    let x : Pair = (j, Write) in
    let y : Pair = (k, Read) in
    record {
      writes = j ∷ [];
      reads = k ∷ [];
      written = record {
        rise = sorted_one j;
        are = λ q. (
          λ c. key_in x y q Write (inl (paired j q Write (one_case j q c))),
          λ c. elim (two_cases x y (q, Write) c) [
            | inl e ↦ subst (λ z. Contains (j ∷ []) z) (same_key j q Write e) (first_in j [])
            | inr e ↦ absurd (other_kind k q e)
          ],
        );
      };
      read = record {
        rise = sorted_one k;
        are = λ q. (
          λ c. (
            key_in x y q Read (inr (paired k q Read (one_case k q c))),
            λ w. elim (two_cases x y (q, Write) w) [
              | inl e ↦ other (same_key j q Write e ∙ sym (one_case k q c))
              | inr e ↦ other_kind k q e
            ],
          ),
          λ c. elim (two_cases x y (q, Read) c.0) [
            | inl e ↦ absurd (kind_other j q e)
            | inr e ↦ subst (λ z. Contains (k ∷ []) z) (same_key k q Read e) (first_in k [])
          ],
        );
      };
      joined = refl;
    }

-- the first access comes first
pub first_comes_first : (j k : List ℕ) (a b : Access) → (j ≡ k → ⊥) → (is_less : Bool) → (is_less ≡ true → slice_cmp nat_cmp j k ≡ Less) → is_first_of_two a b is_less ≡ true → IsKeyList ((j, a) ∷ (k, b) ∷ []) ((j, a) ∷ (k, b) ∷ [])
first_comes_first j k Write Write other is_less less first = both_written j k (less first)
first_comes_first j k Write Read other is_less less first = written_then_read j k other
first_comes_first j k Read Write other is_less less first = absurd cc
first_comes_first j k Read Read other is_less less first = both_read j k (less first)

-- the second access comes first
pub second_comes_first : (j k : List ℕ) (a b : Access) → (j ≡ k → ⊥) → (is_less : Bool) → (is_less ≡ false → slice_cmp nat_cmp k j ≡ Less) → is_first_of_two a b is_less ≡ false → IsKeyList ((j, a) ∷ (k, b) ∷ []) ((k, b) ∷ (j, a) ∷ [])
second_comes_first j k Write Write other is_less less first = turned (k, Write) (j, Write) ((k, Write) ∷ (j, Write) ∷ []) (both_written k j (less first))
second_comes_first j k Write Read other is_less less first = absurd cc
second_comes_first j k Read Write other is_less less first = turned (k, Write) (j, Read) ((k, Write) ∷ (j, Read) ∷ []) (written_then_read k j (λ e. other (sym e)))
second_comes_first j k Read Read other is_less less first = turned (k, Read) (j, Read) ((k, Read) ∷ (j, Read) ∷ []) (both_read k j (less first))

-- ---- the order of two keys

pub apart : (j k : List ℕ) → (slice_cmp nat_cmp j k ≡ Equal → ⊥) → j ≡ k → ⊥
apart j k unequal e = unequal (subst (λ z. slice_cmp nat_cmp j z ≡ Equal) e (tied_itself nat_list_cmp_total j))

turned_less : (o : Ordering) → (o ≡ Equal → ⊥) → (o ≡ Less → ⊥) → ordering_reverse o ≡ Less
turned_less Less a b = absurd (b refl)
turned_less Equal a b = absurd (a refl)
turned_less Greater a b = refl

pub less_from_greater : (j k : List ℕ) → (slice_cmp nat_cmp j k ≡ Equal → ⊥) → (slice_cmp nat_cmp j k ≡ Less → ⊥) → slice_cmp nat_cmp k j ≡ Less
less_from_greater j k a b = nat_list_cmp_total.antisymm k j ∙ turned_less (slice_cmp nat_cmp j k) a b
