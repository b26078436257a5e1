-- Two queues with a common front and a common back differ in between.
use Rattle.std.proofs.Common.{◌≡◌, ◌≤◌, ℕ, ◌+◌, ◌-◌, Bool, true, false, cond, nat_eq, Some, None, List, [], ◌∷◌, ◌++◌, length, take, drop, inl, inr, ◌⊎◌, ⊎_elim, refl, sym, ap, subst, ◌∙◌, arith}
use Rattle.std.specs.Prelude.{Contains, map, slice_range}
use Rattle.std.specs.Option.{option_or}
use Rattle.std.specs.List.{find}
use Rattle.std.proofs.lemmas.Bool.Decides.{nat_tests}
use Rattle.std.proofs.lemmas.List.{take-append-drop, map-append}
use Rattle.std.proofs.lemmas.List.Folds.{find-append, drop_split}
use Rattle.std.proofs.lemmas.List.Elements.{Contains-append_left, Contains-append_right, Contains-append_cases}

-- a list in three parts
pub in_parts : {X : Type 0} (xs : List X) (front back : ℕ) → front + back ≤ length xs → xs ≡ take front xs ++ (slice_range xs front (length xs - back) ++ drop (length xs - back) xs)
in_parts xs front back le = sym (take-append-drop front xs) ∙ ap (λ ys. take front xs ++ ys) (drop_split xs front (length xs - back) (omega arith))

module _ {X : Type 0} (number : X → ℕ) where
  found_by : (n : ℕ) (x : X) (xs : List X) (t : Bool) → nat_eq (number x) n ≡ t → (Contains (map number (x ∷ xs)) n → ⊥) → find (λ y. nat_eq (number y) n) xs ≡ None → cond t (Some x) (find (λ y. nat_eq (number y) n) xs) ≡ None
  found_by n x xs true e absent rest =
      let is : number x ≡ n = grind (arith, nat_tests) in
      absurd (absent (0, omega arith, is))
  found_by n x xs false e absent rest = rest

  -- who is not named is not found
  pub not_found : (n : ℕ) (xs : List X) → (Contains (map number xs) n → ⊥) → find (λ x. nat_eq (number x) n) xs ≡ None
  not_found n [] absent = refl
  not_found n (x ∷ xs) absent = found_by n x xs (nat_eq (number x) n) refl absent (not_found n xs (λ c. absent (Contains-append_right (number x ∷ []) (map number xs) n c)))

  same_found : (n : ℕ) (front mid tail : List X) → (Contains (map number mid) n → ⊥) → find (λ x. nat_eq (number x) n) (front ++ (mid ++ tail)) ≡ option_or (find (λ x. nat_eq (number x) n) front) (find (λ x. nat_eq (number x) n) tail)
  same_found n front mid tail absent =
      let test : X → Bool = λ x. nat_eq (number x) n in
      find-append test front (mid ++ tail) ∙ ap (option_or (find test front)) (find-append test mid tail ∙ ap (λ o. option_or o (find test tail)) (not_found n mid absent))

  -- whoever is in neither middle part is found as before
  pub found_same : (n : ℕ) (before after front mid mid' tail : List X) → before ≡ front ++ (mid ++ tail) → after ≡ front ++ (mid' ++ tail) → (Contains (map number mid) n → ⊥) → (Contains (map number mid') n → ⊥) → find (λ x. nat_eq (number x) n) after ≡ find (λ x. nat_eq (number x) n) before
  found_same n before after front mid mid' tail b a absent absent' =
      let test : X → Bool = λ x. nat_eq (number x) n in
      ap (find test) a ∙ same_found n front mid' tail absent' ∙ sym (same_found n front mid tail absent) ∙ sym (ap (find test) b)

-- whoever is there is in the middle, or was there before
pub there_before : {X Y : Type 0} (f : X → Y) (before after front mid mid' tail : List X) → before ≡ front ++ (mid ++ tail) → after ≡ front ++ (mid' ++ tail) → (y : Y) → Contains (map f after) y → Contains (map f mid') y ⊎ Contains (map f before) y
there_before f before after front mid mid' tail b a y c =
    let all = subst (λ xs. Contains xs y) (ap (map f) a ∙ map-append f front (mid' ++ tail)) c in
    let whole : map f before ≡ map f front ++ (map f mid ++ map f tail) = ap (map f) b ∙ map-append f front (mid ++ tail) ∙ ap (λ ys. map f front ++ ys) (map-append f mid tail) in
    let back : Contains (map f front ++ (map f mid ++ map f tail)) y → Contains (map f before) y = λ w. subst (λ xs. Contains xs y) (sym whole) w in
    ⊎_elim (λ h. inr (back (Contains-append_left (map f front) (map f mid ++ map f tail) y h)))
    (λ h. ⊎_elim (λ m. inl m)
    (λ t. inr (back (Contains-append_right (map f front) (map f mid ++ map f tail) y (Contains-append_right (map f mid) (map f tail) y t))))
    (Contains-append_cases (map f mid') (map f tail) y (subst (λ xs. Contains xs y) (map-append f mid' tail) h)))
    (Contains-append_cases (map f front) (map f (mid' ++ tail)) y all)
