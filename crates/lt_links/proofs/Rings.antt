use Rattle.std.proofs.Common.{◌≡◌, ◌≢◌, ◌⊎◌, ℕ, ◌+◌, Bool, true, false, cond, Option, Some, None, List, [], ◌∷◌, ◌++◌, length, refl, sym, ap, ◌∙◌, inl, inr, arith}
use Rattle.std.specs.Prelude.{nat_eq}
use Rattle.std.specs.List.{last_or}
use Rattle.std.proofs.lemmas.Bool.Decides.{nat_tests}
use Rattle.lt_links.specs.Ring.{has, is_in, Distinct, without, put_after, Link, Path, Ring, Joins}

-- two numbers are equal or different, and the test tells which
pub same_or_apart : (m n : ℕ) → ((m ≡ n) × (nat_eq m n ≡ true)) ⊎ ((m ≢ n) × (nat_eq m n ≡ false))
same_or_apart m n =
    elim (nat_eq m n) as (λ b. nat_eq m n ≡ b → ((m ≡ n) × (nat_eq m n ≡ true)) ⊎ ((m ≢ n) × (nat_eq m n ≡ false))) [
      | true ↦ λ e. inl (grind (arith, nat_tests), e)
      | false ↦ λ e. inr (grind (arith, nat_tests), e)
    ] refl

pub is_itself : (n : ℕ) → nat_eq n n ≡ true
is_itself n = grind (arith, nat_tests)

pub same_neighbours : (a b : Option ℕ) → (a ≡ b) ⊎ (a ≢ b)
same_neighbours None None = inl refl
same_neighbours None (Some n) = inr (λ e. cc)
same_neighbours (Some m) None = inr (λ e. cc)
same_neighbours (Some m) (Some n) = elim (same_or_apart m n) [ inl s ↦ inl (ap Some s.0) | inr d ↦ inr (λ e. d.0 (cc)) ]

pub has-without : (m n : ℕ) (l : List ℕ) → has m (without n l) ≡ cond (nat_eq m n) false (has m l)
has-without m n [] = grind (arith, nat_tests)
has-without m n (x ∷ xs) =
    elim (same_or_apart n x) [
      | inl s ↦ elim (same_or_apart m x) [
        | inl t ↦ rw (s.1, has-without m n xs) (grind (arith, nat_tests))
        | inr d ↦ rw (s.1, d.1, has-without m n xs) refl
      ]
      | inr e ↦ elim (same_or_apart m x) [
        | inl t ↦ rw (e.1, t.1) (grind (arith, nat_tests))
        | inr d ↦ rw (e.1, d.1, has-without m n xs) refl
      ]
    ]

none≢some : (n : ℕ) → None ≢ Some n
none≢some n = λ e. cc

true≢false : true ≢ false
true≢false = λ e. cc

pub Distinct-without : (n : ℕ) (l : List ℕ) → Distinct l → Distinct (without n l)
Distinct-without n [] d = tt
Distinct-without n (x ∷ xs) d =
    elim (same_or_apart n x) [
      | inl s ↦ rw s.1 (Distinct-without n xs d.1)
      | inr e ↦ rw e.1 (rw (has-without x n xs, d.0) (elim (nat_eq x n) as (λ b. cond b false false ≡ false) [ true ↦ refl | false ↦ refl ]), Distinct-without n xs d.1)
    ]

-- removing a number that is not in a list changes nothing
pub without_absent : (n : ℕ) (l : List ℕ) → has n l ≡ false → without n l ≡ l
without_absent n [] h = refl
without_absent n (x ∷ xs) h =
    elim (same_or_apart n x) [
      | inl s ↦ absurd (true≢false (rw s.1 at h))
      | inr e ↦ rw e.1 (ap (λ l. x ∷ l) (without_absent n xs (rw e.1 at h)))
    ]

-- removing a number that is once in a list makes the list shorter by one
pub length-without : (n : ℕ) (l : List ℕ) → Distinct l → has n l ≡ true → length l ≡ length (without n l) + 1
length-without n [] d h = absurd (true≢false (sym h))
length-without n (x ∷ xs) d h =
    elim (same_or_apart n x) [
      | inl s ↦ rw (s.1, without_absent n xs (rw s.0 d.0)) (omega arith)
      | inr o ↦ rw o.1 (omega (arith, length-without n xs d.1 (rw o.1 at h)))
    ]

-- a position on a path, including the one before its list
abbrev pub OnPath : Option ℕ → List ℕ → Option ℕ → Type 0
OnPath p l a = (a ≡ p) ⊎ ((m : ℕ) × (a ≡ Some m) × (has m l ≡ true))

has_later : (m x : ℕ) (xs : List ℕ) → has m xs ≡ true → has m (x ∷ xs) ≡ true
has_later m x xs h = rw h (elim (nat_eq m x) as (λ b. cond b true true ≡ true) [ true ↦ refl | false ↦ refl ])

has_first : (x : ℕ) (xs : List ℕ) → has x (x ∷ xs) ≡ true
has_first x xs = rw (is_itself x) refl

OnPath-later : (p a : Option ℕ) (x : ℕ) (xs : List ℕ) → OnPath (Some x) xs a → OnPath p (x ∷ xs) a
OnPath-later p a x xs (inl e) = inr (x, e, has_first x xs)
OnPath-later p a x xs (inr (m, e, h)) = inr (m, e, has_later m x xs h)

-- the cases of a position on a path
OnPath-cases : (p a : Option ℕ) (x : ℕ) (xs : List ℕ) → OnPath p (x ∷ xs) a → (a ≡ p) ⊎ OnPath (Some x) xs a
OnPath-cases p a x xs (inl e) = inl e
OnPath-cases p a x xs (inr (m, e, h)) =
    elim (same_or_apart m x) [
      | inl s ↦ inr (inl (e ∙ ap Some s.0))
      | inr d ↦ inr (inr (m, e, rw d.1 at h))
    ]

is_in-OnPath : (l : List ℕ) (a : Option ℕ) → is_in l a ≡ true → OnPath None l a
is_in-OnPath l None h = inl refl
is_in-OnPath l (Some m) h = inr (m, refl, h)

OnPath-is_in : (l : List ℕ) (a : Option ℕ) → OnPath None l a → is_in l a ≡ true
OnPath-is_in l a (inl e) = rw e refl
OnPath-is_in l a (inr (m, e, h)) = rw e h

-- the successor of a position on a path is in its list, or is the end
next_on : (next : Link) (p : Option ℕ) (l : List ℕ) (a : Option ℕ) → Path next p l → OnPath p l a → is_in l (next a) ≡ true
next_on next p [] a path (inl e) = rw (e, path) refl
next_on next p [] a path (inr (m, e, h)) = absurd (true≢false (sym h))
next_on next p (x ∷ xs) a path on =
    elim (OnPath-cases p a x xs on) [
      | inl e ↦ rw (e, path.0) (has_first x xs)
      | inr later ↦ later_in (next a) x xs (next_on next (Some x) xs a path.1 later)
    ]
  where
    later_in : (b : Option ℕ) (x : ℕ) (xs : List ℕ) → is_in xs b ≡ true → is_in (x ∷ xs) b ≡ true
    later_in None x xs h = refl
    later_in (Some m) x xs h = has_later m x xs h

-- each position in a list follows one on its path
before : (next : Link) (p : Option ℕ) (l : List ℕ) (b : Option ℕ) → Path next p l → is_in l b ≡ true → (a : Option ℕ) × OnPath p l a × (next a ≡ b)
before next p [] None path h = (p, inl refl, path)
before next p [] (Some m) path h = absurd (true≢false (sym h))
before next p (x ∷ xs) None path h =
    let r = before next (Some x) xs None path.1 refl in
    (r.0, OnPath-later p r.0 x xs r.1, r.2)
before next p (x ∷ xs) (Some m) path h =
    elim (same_or_apart m x) [
      | inl s ↦ (p, inl refl, path.0 ∙ ap Some (sym s.0))
      | inr d ↦
          let r = before next (Some x) xs (Some m) path.1 (rw d.1 at h) in
          (r.0, OnPath-later p r.0 x xs r.1, r.2)
    ]

module _ (next prev : Link) (l : List ℕ) (ring : Ring next prev l) where
  pub next_in : (a : Option ℕ) → is_in l a ≡ true → is_in l (next a) ≡ true
  next_in a h = next_on next None l a ring.path (is_in-OnPath l a h)

  pub prev_in : (b : Option ℕ) → is_in l b ≡ true → is_in l (prev b) ≡ true
  prev_in b h =
      let r = before next None l b ring.path h in
      let i : is_in l r.0 ≡ true = OnPath-is_in l r.0 r.1 in
      rw (← r.2, ring.back r.0 i) i

  pub forth : (b : Option ℕ) → is_in l b ≡ true → next (prev b) ≡ b
  forth b h =
      let r = before next None l b ring.path h in
      let i : is_in l r.0 ≡ true = OnPath-is_in l r.0 r.1 in
      ap next (ap prev (sym r.2) ∙ ring.back r.0 i) ∙ r.2

-- a number is not its own neighbor
next_differs : (next : Link) (p : Option ℕ) (l : List ℕ) (n : ℕ) → Path next p l → Distinct l → has n l ≡ true → next (Some n) ≢ Some n
next_differs next p [] n path d h = absurd (true≢false (sym h))
next_differs next p (x ∷ []) n path d h =
    elim (same_or_apart n x) [
      | inl s ↦ λ e. none≢some n (sym path.1 ∙ ap (λ m. next (Some m)) (sym s.0) ∙ e)
      | inr o ↦ absurd (true≢false (sym (rw o.1 at h)))
    ]
next_differs next p (x ∷ y ∷ ys) n path d h =
    elim (same_or_apart n x) [
      | inl s ↦ λ e.
          let same : Some y ≡ Some x = sym path.1.0 ∙ ap (λ m. next (Some m)) (sym s.0) ∙ e ∙ ap Some s.0 in
          let eq : y ≡ x = cc in
          true≢false (rw (eq, is_itself x) at d.0)
      | inr o ↦ next_differs next (Some x) (y ∷ ys) n path.1 d.1 (rw o.1 at h)
    ]

-- the path without a number, if its predecessor leads to its successor
Path-without : (next next' : Link) (n : ℕ) (p : Option ℕ) (l : List ℕ) → ((a : Option ℕ) → OnPath p l a → next a ≡ Some n → next' a ≡ next (Some n)) → ((a : Option ℕ) → next a ≢ Some n → next' a ≡ next a) → Distinct l → Path next p l → Path next' p (without n l)
Path-without next next' n p [] at else d path = else p (λ e. none≢some n (sym path ∙ e)) ∙ path
Path-without next next' n p (x ∷ []) at else d path =
    elim (same_or_apart n x) [
      | inl s ↦ rw s.1 (at p (inl refl) (path.0 ∙ ap Some (sym s.0)) ∙ ap (λ m. next (Some m)) s.0 ∙ path.1)
      | inr o ↦ rw o.1 (
        else p (λ e. o.0 (cc (path.0, e))) ∙ path.0,
        else (Some x) (λ e. none≢some n (sym path.1 ∙ e)) ∙ path.1,
      )
    ]
Path-without next next' n p (x ∷ y ∷ ys) at else d path =
    elim (same_or_apart n x) [
      | inl s ↦
          let apart : nat_eq n y ≡ false = rw s.0 (first_differs x y ys d.0) in
          rw (s.1, apart) (
            at p (inl refl) (path.0 ∙ ap Some (sym s.0)) ∙ ap (λ m. next (Some m)) s.0 ∙ path.1.0,
            Path-without next next' n (Some y) ys (λ a on. at a (OnPath-later p a x (y ∷ ys) (OnPath-later (Some x) a y ys on))) else d.1.1 path.1.1,
          )
      | inr o ↦
          let rest = Path-without next next' n (Some x) (y ∷ ys) (λ a on. at a (OnPath-later p a x (y ∷ ys) on)) else d.1 path.1 in
          rw o.1 (else p (λ e. o.0 (cc (path.0, e))) ∙ path.0, rest)
    ]
  where
    first_differs : (x y : ℕ) (ys : List ℕ) → has x (y ∷ ys) ≡ false → nat_eq x y ≡ false
    first_differs x y ys h =
        elim (same_or_apart x y) [
          | inl s ↦ absurd (true≢false (rw s.1 at h))
          | inr o ↦ o.1
        ]

module _ (next prev next' prev' : Link) (l : List ℕ) (n : ℕ) where
  -- A number leaves a ring when its predecessor and its successor are joined.
  pub Ring-without : Ring next prev l → has n l ≡ true → Joins next prev next' prev' (prev (Some n)) (next (Some n)) → Ring next' prev' (without n l)
  Ring-without ring there joins =
      let p : Option ℕ = prev (Some n) in
      let s : Option ℕ = next (Some n) in
      let before_n : next p ≡ Some n = forth next prev l ring (Some n) there in
      let at_p : (a : Option ℕ) → is_in l a ≡ true → next a ≡ Some n → a ≡ p = λ a i e. sym (ring.back a i) ∙ ap prev e in
      record {
        path = Path-without next next' n None l
            (λ a on e. ap next' (at_p a (OnPath-is_in l a on) e) ∙ joins.next_here)
            (λ a e. joins.next_else a (λ same. e (ap next same ∙ before_n)))
            ring.distinct ring.path;
        back = λ a i. elim (same_neighbours a p) [
          | inl e ↦ ap (λ b. prev' (next' b)) e ∙ ap prev' joins.next_here ∙ joins.prev_here ∙ sym e
          | inr apart ↦
              let was : is_in l a ≡ true = stays a i in
              ap prev' (joins.next_else a apart)
              ∙ joins.prev_else (next a) (λ e. out a i (sym (ring.back a was) ∙ ap prev e ∙ ring.back (Some n) there))
              ∙ ring.back a was
        ];
        distinct = Distinct-without n l ring.distinct;
      }
    where
      stays : (a : Option ℕ) → is_in (without n l) a ≡ true → is_in l a ≡ true
      stays None i = refl
      stays (Some m) i = elim (same_or_apart m n) [
        | inl e ↦ absurd (true≢false (sym (rw (has-without m n l, e.1) at i)))
        | inr o ↦ rw (has-without m n l, o.1) at i
      ]

      out : (a : Option ℕ) → is_in (without n l) a ≡ true → a ≢ Some n
      out None i = none≢some n
      out (Some m) i = λ e. elim (same_or_apart m n) [
        | inl s ↦ absurd (true≢false (sym (rw (has-without m n l, s.1) at i)))
        | inr o ↦ o.0 (cc)
      ]

-- the same links lead through the same list
Path-kept : (next next' : Link) (p : Option ℕ) (l : List ℕ) → ((a : Option ℕ) → OnPath p l a → next' a ≡ next a) → Path next p l → Path next' p l
Path-kept next next' p [] same path = same p (inl refl) ∙ path
Path-kept next next' p (x ∷ xs) same path = (
  same p (inl refl) ∙ path.0,
  Path-kept next next' (Some x) xs (λ a on. same a (OnPath-later p a x xs on)) path.1,
)

pub Ring-kept : (next prev next' prev' : Link) (l : List ℕ) → ((a : Option ℕ) → is_in l a ≡ true → next' a ≡ next a) → ((a : Option ℕ) → is_in l a ≡ true → prev' a ≡ prev a) → Ring next prev l → Ring next' prev' l
Ring-kept next prev next' prev' l n_same p_same ring =
    record {
      path = Path-kept next next' None l (λ a on. n_same a (OnPath-is_in l a on)) ring.path;
      back = λ a i. ap prev' (n_same a i) ∙ p_same (next a) (next_in next prev l ring a i) ∙ ring.back a i;
      distinct = ring.distinct;
    }

pub has-put_after : (m : ℕ) (a : Option ℕ) (n : ℕ) (l : List ℕ) → is_in l a ≡ true → has m (put_after a n l) ≡ cond (nat_eq m n) true (has m l)
has-put_after m None n l i = refl
has-put_after m (Some k) n [] i = absurd (true≢false (sym i))
has-put_after m (Some k) n (x ∷ xs) i =
    elim (same_or_apart k x) [
      | inl s ↦ rw s.1 (elim (nat_eq m x) as (λ b. cond b true (cond (nat_eq m n) true (has m xs)) ≡ cond (nat_eq m n) true (cond b true (has m xs))) [ true ↦ settled (nat_eq m n) | false ↦ refl ])
      | inr o ↦ rw (o.1, has-put_after m (Some k) n xs (rw o.1 at i)) (elim (nat_eq m x) as (λ b. cond b true (cond (nat_eq m n) true (has m xs)) ≡ cond (nat_eq m n) true (cond b true (has m xs))) [ true ↦ settled (nat_eq m n) | false ↦ refl ])
    ]
  where
    settled : (b : Bool) → true ≡ cond b true true
    settled true = refl
    settled false = refl

-- inserting after a position of a list makes the list longer by one
pub length-put_after : (a : Option ℕ) (n : ℕ) (l : List ℕ) → is_in l a ≡ true → length (put_after a n l) ≡ length l + 1
length-put_after None n l i = omega arith
length-put_after (Some k) n [] i = absurd (true≢false (sym i))
length-put_after (Some k) n (x ∷ xs) i =
    elim (same_or_apart k x) [
      | inl s ↦ rw s.1 (omega arith)
      | inr o ↦ rw o.1 (omega (arith, length-put_after (Some k) n xs (rw o.1 at i)))
    ]

Distinct-put_after : (a : Option ℕ) (n : ℕ) (l : List ℕ) → is_in l a ≡ true → has n l ≡ false → Distinct l → Distinct (put_after a n l)
Distinct-put_after None n l i absent d = (absent, d)
Distinct-put_after (Some k) n [] i absent d = absurd (true≢false (sym i))
Distinct-put_after (Some k) n (x ∷ xs) i absent d =
    elim (same_or_apart n x) [
      | inl s ↦ absurd (true≢false (rw s.1 at absent))
      | inr o ↦
          let apart : nat_eq x n ≡ false = grind (arith, nat_tests) in
          let later : has n xs ≡ false = rw o.1 at absent in
          elim (same_or_apart k x) [
            | inl s ↦ rw s.1 (rw apart d.0, (later, d.1))
            | inr e ↦
                let i' : has k xs ≡ true = rw e.1 at i in
                rw e.1 (rw (has-put_after x (Some k) n xs i', apart) d.0, Distinct-put_after (Some k) n xs i' later d.1)
          ]
    ]

-- a path that starts at a different position and has the same successors
Path-from : (next next' : Link) (p q : Option ℕ) (l : List ℕ) → next' q ≡ next p → ((m : ℕ) → has m l ≡ true → next' (Some m) ≡ next (Some m)) → Path next p l → Path next' q l
Path-from next next' p q [] here same path = here ∙ path
Path-from next next' p q (x ∷ xs) here same path =
    (here ∙ path.0, Path-from next next' (Some x) (Some x) xs (same x (has_first x xs)) (λ m h. same m (has_later m x xs h)) path.1)

-- the path through a list with an inserted number
Path-put_after : (next next' : Link) (a : Option ℕ) (n : ℕ) (p : Option ℕ) (l : List ℕ) → next' (Some n) ≡ next a → next' a ≡ Some n → ((b : Option ℕ) → OnPath p l b → b ≢ a → next' b ≡ next b) → p ≢ a → ((m : ℕ) → (has m l ≡ true) → p ≢ Some m) → Distinct l → is_in l a ≡ true → a ≢ None → Path next p l → Path next' p (put_after a n l)
Path-put_after next next' None n p l new here else off apart d i some path = absurd (some refl)
Path-put_after next next' (Some k) n p [] new here else off apart d i some path = absurd (true≢false (sym i))
Path-put_after next next' (Some k) n p (x ∷ xs) new here else off apart d i some path =
    elim (same_or_apart k x) [
      | inl s ↦ rw s.1 (
        else p (inl refl) off ∙ path.0,
        (
          ap (λ m. next' (Some m)) (sym s.0) ∙ here,
          Path-from next next' (Some x) (Some n) xs (new ∙ ap (λ m. next (Some m)) s.0)
              (λ m h. else (Some m) (OnPath-later p (Some m) x xs (inr (m, refl, h))) (λ e. absent m x xs d.0 h (cc (e, s.0)))) path.1,
        ),
      )
      | inr o ↦
          let later : has k xs ≡ true = rw o.1 at i in
          let rest = Path-put_after next next' (Some k) n (Some x) xs new here (λ b on. else b (OnPath-later p b x xs on)) (λ e. o.0 (cc)) (λ m h e. absent m x xs d.0 h (cc)) d.1 later some path.1 in
          rw o.1 (else p (inl refl) off ∙ path.0, rest)
    ]
  where
    absent : (m x : ℕ) (xs : List ℕ) → has x xs ≡ false → has m xs ≡ true → m ≡ x → ⊥
    absent m x xs out there e = true≢false (sym there ∙ ap (λ k. has k xs) e ∙ out)

module _ (next prev next1 prev1 next' prev' : Link) (l : List ℕ) (a : Option ℕ) (n : ℕ) where
  -- A number enters a ring when it is joined to its predecessor, and then to the successor that this one had.
  pub Ring-put_after : Ring next prev l → is_in l a ≡ true → has n l ≡ false → Joins next prev next1 prev1 a (Some n) → Joins next1 prev1 next' prev' (Some n) (next a) → Ring next' prev' (put_after a n l)
  Ring-put_after ring there absent one two =
      let s : Option ℕ = next a in
      let s_in : is_in l s ≡ true = next_in next prev l ring a there in
      let not_n : (b : Option ℕ) → is_in l b ≡ true → b ≢ Some n = λ b i e. true≢false (sym i ∙ ap (is_in l) e ∙ absent) in
      let n_next : next' (Some n) ≡ s = two.next_here in
      let a_next : next' a ≡ Some n = two.next_else a (not_n a there) ∙ one.next_here in
      let else_next : (b : Option ℕ) → is_in l b ≡ true → b ≢ a → next' b ≡ next b = λ b i e. two.next_else b (not_n b i) ∙ one.next_else b e in
      let n_prev : prev' (Some n) ≡ a = two.prev_else (Some n) (λ e. not_n s s_in (sym e)) ∙ one.prev_here in
      record {
        path = path_of a there n_next a_next else_next ring.path ring.distinct;
        back = λ b i. elim (same_neighbours b (Some n)) [
          | inl e ↦ ap (λ c. prev' (next' c)) e ∙ ap prev' n_next ∙ two.prev_here ∙ sym e
          | inr not ↦ elim (same_neighbours b a) [
            | inl e ↦ ap (λ c. prev' (next' c)) e ∙ ap prev' a_next ∙ n_prev ∙ sym e
            | inr off ↦
                let was : is_in l b ≡ true = stays b not i in
                ap prev' (else_next b was off)
                ∙ two.prev_else (next b) (λ e. off (sym (ring.back b was) ∙ ap prev e ∙ ring.back a there))
                ∙ one.prev_else (next b) (not_n (next b) (next_in next prev l ring b was))
                ∙ ring.back b was
          ]
        ];
        distinct = Distinct-put_after a n l there absent ring.distinct;
      }
    where
      path_of : (a : Option ℕ) → is_in l a ≡ true → next' (Some n) ≡ next a → next' a ≡ Some n → ((b : Option ℕ) → is_in l b ≡ true → b ≢ a → next' b ≡ next b) → Path next None l → Distinct l → Path next' None (put_after a n l)
      path_of None i new here else path d = (here, Path-from next next' None (Some n) l new (λ m h. else (Some m) h (λ e. none≢some m (sym e))) path)
      path_of (Some k) i new here else path d =
          Path-put_after next next' (Some k) n None l new here (λ b on. else b (OnPath-is_in l b on)) (none≢some k) (λ m h. none≢some m) d i (λ e. none≢some k (sym e)) path

      stays : (b : Option ℕ) → b ≢ Some n → is_in (put_after a n l) b ≡ true → is_in l b ≡ true
      stays None off i = refl
      stays (Some m) off i = elim (same_or_apart m n) [
        | inl s ↦ absurd (off (ap Some s.0))
        | inr o ↦ rw (has-put_after m a n l there, o.1) at i
      ]

put_last : (next : Link) (p : Option ℕ) (l : List ℕ) (m n : ℕ) → Path next p l → next (Some m) ≡ None → has m l ≡ true → put_after (Some m) n l ≡ l ++ n ∷ []
put_last next p [] m n path last h = absurd (true≢false (sym h))
put_last next p (x ∷ []) m n path last h =
    elim (same_or_apart m x) [
      | inl s ↦ rw s.1 refl
      | inr o ↦ absurd (true≢false (sym (rw o.1 at h)))
    ]
put_last next p (x ∷ y ∷ ys) m n path last h =
    elim (same_or_apart m x) [
      | inl s ↦ absurd (none≢some y (sym last ∙ ap (λ k. next (Some k)) s.0 ∙ path.1.0))
      | inr o ↦ rw o.1 (ap (λ l. x ∷ l) (put_last next (Some x) (y ∷ ys) m n path.1 last (rw o.1 at h)))
    ]

-- inserting after the last number of a ring appends to its list
pub put_after_last : (next prev : Link) (l : List ℕ) (n : ℕ) → Ring next prev l → put_after (prev None) n l ≡ l ++ n ∷ []
put_after_last next prev l n ring = by_case (prev None) (forth next prev l ring None refl) (prev_in next prev l ring None refl)
  where
    by_case : (a : Option ℕ) → next a ≡ None → is_in l a ≡ true → put_after a n l ≡ l ++ n ∷ []
    by_case None last h = empty l ring.path
      where
        empty : (l : List ℕ) → Path next None l → n ∷ l ≡ l ++ n ∷ []
        empty [] path = refl
        empty (x ∷ xs) path = absurd (none≢some x (sym last ∙ path.0))
    by_case (Some m) last h = put_last next None l m n ring.path last h

-- a number with no neighbors is alone in its list
pub alone : (next prev : Link) (l : List ℕ) (n m : ℕ) → Ring next prev l → has n l ≡ true → prev (Some n) ≡ None → next (Some n) ≡ None → has m l ≡ true → m ≡ n
alone next prev l n m ring there before after h = by_case l ring.path h
  where
    first : next None ≡ Some n
    first = ap next (sym before) ∙ forth next prev l ring (Some n) there

    by_case : (l : List ℕ) → Path next None l → has m l ≡ true → m ≡ n
    by_case [] path h = absurd (true≢false (sym h))
    by_case (x ∷ []) path h = elim (same_or_apart m x) [
      | inl s ↦ let e : Some x ≡ Some n = sym path.0 ∙ first in cc
      | inr o ↦ absurd (true≢false (sym (rw o.1 at h)))
    ]
    by_case (x ∷ y ∷ ys) path h =
        let e : Some x ≡ Some n = sym path.0 ∙ first in
        absurd (none≢some y (sym after ∙ ap next (sym e) ∙ path.1.0))

-- a number with a neighbor is not alone in its list
pub not_alone : (next prev : Link) (l : List ℕ) (n : ℕ) → Ring next prev l → has n l ≡ true → (prev (Some n) ≡ None → next (Some n) ≡ None → ⊥) → without n l ≢ []
not_alone next prev l n ring there neighbour e = neighbour (end (prev (Some n)) (prev_in next prev l ring (Some n) there) before) (end (next (Some n)) (next_in next prev l ring (Some n) there) behind)
  where
    behind : next (Some n) ≢ Some n
    behind = next_differs next None l n ring.path ring.distinct there

    before : prev (Some n) ≢ Some n
    before p = behind (ap next (sym p) ∙ forth next prev l ring (Some n) there)

    end : (a : Option ℕ) → is_in l a ≡ true → a ≢ Some n → a ≡ None
    end None h off = refl
    end (Some m) h off = elim (same_or_apart m n) [
      | inl s ↦ absurd (off (ap Some s.0))
      | inr o ↦ absurd (true≢false (sym (rw (has-without m n l, o.1) (h)) ∙ ap (has m) e))
    ]

-- inserting after a number that is not in a list changes nothing
pub put_after_absent : (m n : ℕ) (l : List ℕ) → has m l ≡ false → put_after (Some m) n l ≡ l
put_after_absent m n [] h = refl
put_after_absent m n (x ∷ xs) h =
    elim (same_or_apart m x) [
      | inl s ↦ absurd (true≢false (rw s.1 at h))
      | inr o ↦ rw o.1 (ap (λ l. x ∷ l) (put_after_absent m n xs (rw o.1 at h)))
    ]

-- the last number before a position of a path is on the path
last_on : (p : Option ℕ) (xs rest : List ℕ) → OnPath p (xs ++ rest) (last_or p xs)
last_on p [] rest = inl refl
last_on p (x ∷ xs) rest = OnPath-later p (last_or (Some x) xs) x (xs ++ rest) (last_on (Some x) xs rest)

next_last : (next : Link) (p : Option ℕ) (xs rest : List ℕ) → Path next p (xs ++ rest) → Path next (last_or p xs) rest
next_last next p [] rest path = path
next_last next p (x ∷ xs) rest path = next_last next (Some x) xs rest path.1

-- the predecessor of a number in a ring
pub prev_behind : (next prev : Link) (xs ys : List ℕ) (n : ℕ) → Ring next prev (xs ++ n ∷ ys) → prev (Some n) ≡ last_or None xs
prev_behind next prev xs ys n ring =
    ap prev (sym (next_last next None xs (n ∷ ys) ring.path).0) ∙ ring.back (last_or None xs) (OnPath-is_in (xs ++ n ∷ ys) (last_or None xs) (last_on None xs (n ∷ ys)))

-- the predecessor of the end of a ring
pub prev_end : (next prev : Link) (l : List ℕ) → Ring next prev l → prev None ≡ last_or None l
prev_end next prev l ring =
    ap prev (sym (end None l ring.path)) ∙ ring.back (last_or None l) (OnPath-is_in l (last_or None l) (on None l))
  where
    end : (p : Option ℕ) (l : List ℕ) → Path next p l → next (last_or p l) ≡ None
    end p [] path = path
    end p (x ∷ xs) path = end (Some x) xs path.1

    on : (p : Option ℕ) (l : List ℕ) → OnPath p l (last_or p l)
    on p [] = inl refl
    on p (x ∷ xs) = OnPath-later p (last_or (Some x) xs) x xs (on (Some x) xs)
