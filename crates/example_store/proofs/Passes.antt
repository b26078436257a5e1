-- The same pass, which has seen more.
use Rattle.std.proofs.Common.{◌≡◌, ◌≢◌, ◌<◌, ℕ, List, [], ◌∷◌, ◌++◌, length, take, drop, refl, sym, ap, subst, ◌∙◌, arith, append_assoc}
use Rattle.std.proofs.lemmas.List.{append-nil, take-append-drop}
use Rattle.std.proofs.Math.Seq.{take-append_seam}
use Rattle.std.specs.Prelude.{slice_index_or}
use Rattle.std.specs.List.{All, AllZip, AllByRecursion}
use Rattle.std.proofs.lemmas.List.Elements.{All-append}
use mathlib.Core.List.{IsPrefix}
use Rattle.lt_words.specs.declared.event.Event.{Event}
use Rattle.lt_words.specs.History.{IsLegalHistory}
use Rattle.lt_words.specs.Row.{Opening, PassState, SeesMore}
use Rattle.lt_walk.specs.declared.closing.Rests.{Rests}
use Rattle.lt_walk.specs.Closed.{IsClosedRest}
use Rattle.lt_walk.specs.Reported.{IsSamePass, PassStays}
use Rattle.example_cells.specs.Committing.{LogState, PassesDiffer, WentInOrder}
use Rattle.example_store.specs.Sessions.{IsSeenIn}
use Rattle.example_store.specs.Closing.{IsLogOf, PassNumbersDiffer, ClosedInOrder}

pub prefix_self : {A : Type 0} (xs : List A) → IsPrefix xs xs
prefix_self xs = ([], append-nil xs)

pub prefix_on : {A : Type 0} (xs ys zs : List A) → IsPrefix xs ys → IsPrefix ys zs → IsPrefix xs zs
prefix_on xs ys zs p q = (p.0 ++ q.0, sym (append_assoc xs p.0 q.0) ∙ (ap (λ w. w ++ q.0) p.1 ∙ q.1))

pub prefix_begins : (xs ys : List Event) → IsSeenIn xs ys → IsPrefix xs ys
prefix_begins xs ys b = (drop (length xs) ys, ap (λ w. w ++ drop (length xs) ys) (sym b) ∙ take-append-drop (length xs) ys)

pub begins_prefix : (xs ys : List Event) → IsPrefix xs ys → IsSeenIn xs ys
begins_prefix xs ys p = ap (take (length xs)) (sym p.1) ∙ take-append_seam xs p.0

pub same_self : (p : PassState) → IsSamePass p p
same_self p = record { of = refl; number = refl; seen = prefix_self p.seen }

pub same_on : (a b c : PassState) → IsSamePass a b → IsSamePass b c → IsSamePass a c
same_on a b c p q = record { of = q.of ∙ p.of; number = q.number ∙ p.number; seen = prefix_on a.seen b.seen c.seen p.seen q.seen }

pub same_of_more : (a b : PassState) → SeesMore a b → IsSamePass a b
same_of_more a b p = record { of = p.of; number = p.number; seen = p.seen }

pub same_of_stays : (a b : PassState) → PassStays a b → IsSamePass a b
same_of_stays a b p = record { of = p.of; number = p.number; seen = p.seen }

pub zip_more : {A B : Type 0} (R : A → B → Type 0) (xs : List A) (ys : List B) (x : A) (y : B) → AllZip R xs ys → R x y → AllZip R (xs ++ x ∷ []) (ys ++ y ∷ [])
zip_more R [] [] x y all one = (one, tt)
zip_more R [] (b ∷ ys) x y all one = absurd all
zip_more R (a ∷ xs) [] x y all one = absurd all
zip_more R (a ∷ xs) (b ∷ ys) x y all one = (all.0, zip_more R xs ys x y all.1 one)

pub all_more : {A : Type 0} (P : A → Type 0) (xs : List A) (x : A) → All P xs → P x → All P (xs ++ x ∷ [])
all_more P xs x all one = All-append P xs (x ∷ []) all (λ k d within. subst (λ i. P (slice_index_or (x ∷ []) i d)) (sym (first k within)) one)
  where
    first : (k : ℕ) → k < length (x ∷ []) → k ≡ 0
    first k within = omega (arith, within)

-- what the passes have seen, the logs have
pub logs_seen : (whole : List Event) (ps : List PassState) (ls : List LogState) → AllZip IsLogOf ps ls → AllByRecursion (λ p. IsPrefix p.seen whole) ps → AllByRecursion (λ l. IsPrefix l.seen whole) ls
logs_seen whole [] [] each seen = tt
logs_seen whole [] (l ∷ ls) each seen = absurd each
logs_seen whole (p ∷ ps) [] each seen = absurd each
logs_seen whole (p ∷ ps) (l ∷ ls) each seen = (prefix_on l.seen p.seen whole each.0.seen seen.0, logs_seen whole ps ls each.1 seen.1)

-- of passes with different numbers, the logs are of different passes
others_differ : (p : PassState) (l : LogState) (ps : List PassState) (ls : List LogState) → p.number ≡ l.pass → AllZip IsLogOf ps ls → AllByRecursion (λ q. p.number ≢ q.number) ps → AllByRecursion (λ m. l.pass ≢ m.pass) ls
others_differ p l [] [] is each differ = tt
others_differ p l [] (m ∷ ls) is each differ = absurd each
others_differ p l (q ∷ ps) [] is each differ = absurd each
others_differ p l (q ∷ ps) (m ∷ ls) is each differ = ((λ same. differ.0 (is ∙ (same ∙ sym each.0.number))), others_differ p l ps ls is each.1 differ.1)

pub logs_differ : (ps : List PassState) (ls : List LogState) → AllZip IsLogOf ps ls → PassNumbersDiffer ps → PassesDiffer ls
logs_differ [] [] each differ = tt
logs_differ [] (l ∷ ls) each differ = absurd each
logs_differ (p ∷ ps) [] each differ = absurd each
logs_differ (p ∷ ps) (l ∷ ls) each differ = (others_differ p l ps ls each.0.number each.1 differ.0, logs_differ ps ls each.1 differ.1)

-- what holds of all of a list holds of all that begins it
pub every_of_prefix : {A : Type 0} (P : A → Type 0) (xs zs : List A) → AllByRecursion P (xs ++ zs) → AllByRecursion P xs
every_of_prefix P [] zs all = tt
every_of_prefix P (x ∷ xs) zs all = (all.0, every_of_prefix P xs zs all.1)

-- A table was closed with passes of which these are the first, and these logs are theirs.
pub closed_in_order : (of : Opening) (ps qs : List PassState) (rests : Rests) (ls : List LogState) → AllZip IsLogOf ps ls → PassNumbersDiffer ps → IsPrefix ps qs → (closed : IsClosedRest of qs rests.shards.items rests.draws) →
    ((whole : List Event) → IsLegalHistory of.shards whole → AllByRecursion (λ l. IsPrefix l.seen whole) ls → PassesDiffer ls → WentInOrder ls) → ClosedInOrder of qs rests ls
closed_in_order of ps qs rests ls each differ first closed order =
    let seen = logs_seen closed.whole ps ls each (every_of_prefix (λ p. IsPrefix p.seen closed.whole) ps first.0 (subst (AllByRecursion (λ p. IsPrefix p.seen closed.whole)) (sym first.1) closed.seen)) in
    record { closed = closed; seen = seen; in_order = order closed.whole closed.legal seen (logs_differ ps ls each differ) }

pub begins_more : (xs ys zs : List Event) → IsSeenIn xs ys → IsPrefix ys zs → IsSeenIn xs zs
begins_more xs ys zs b p = begins_prefix xs zs (prefix_on xs ys zs (prefix_begins xs ys b) p)

pub begins_self : (xs : List Event) → IsSeenIn xs xs
begins_self xs = begins_prefix xs xs (prefix_self xs)
