-- A loop that writes the image of a list to the front of another list.
use Rattle.std.proofs.Common.{◌≡◌, ◌∙◌, ◌+◌, ◌<◌, ℕ, zero, suc, List, [], ◌∷◌, ◌++◌, length, map, take, drop, set, get_or, refl, sym, ap, add-one, arith}

-- the image of the element at `i` is written
set-written : {A B : Type 0} (f : A → B) (xs : List A) (ys : List B) (i : ℕ) (d : A)
    → i < length xs → i < length ys
    → set (map f (take i xs) ++ drop i ys) i (f (get_or xs i d)) ≡ map f (take (suc i) xs) ++ drop (suc i) ys
set-written f [] ys i d in_xs in_ys = absurd (omega (arith, in_xs))
set-written f (x ∷ xs) [] i d in_xs in_ys = absurd (omega (arith, in_ys))
set-written f (x ∷ xs) (y ∷ ys) zero d in_xs in_ys = refl
set-written f (x ∷ xs) (y ∷ ys) (suc i) d in_xs in_ys =
    ap (λ zs. f x ∷ zs) (set-written f xs ys i d (omega (arith, in_xs)) (omega (arith, in_ys)))

-- the next turn of the loop: it writes the image `y` of the element `x` at `i`
pub written-more : {A B : Type 0} (f : A → B) (xs : List A) (ys now : List B) (i : ℕ) (x : A) (y : B)
    → i < length xs → i < length ys → now ≡ map f (take i xs) ++ drop i ys → x ≡ get_or xs i x → y ≡ f x
    → set now i y ≡ map f (take (i + 1) xs) ++ drop (i + 1) ys
written-more f xs ys now i x y in_xs in_ys so_far is image =
    ap (λ zs. set zs i y) so_far
    ∙ ap (λ z. set (map f (take i xs) ++ drop i ys) i z) (image ∙ ap f is)
    ∙ set-written f xs ys i x in_xs in_ys
    ∙ ap (λ j. map f (take j xs) ++ drop j ys) (sym (add-one i))
