-- What two callers know when the table is opened and when it is closed.
use Rattle.std.proofs.Common.{◌≡◌, ◌≢◌, ℕ, zero, suc, ◌<◌, List, [], ◌∷◌, ◌++◌, map, length, get_or, refl, sym, ◌∙◌, ap, subst, arith}
use Rattle.std.specs.List.{All}
use Rattle.lt_words.specs.Row.{Opening, PassState, fresh, fresh_passes, quiet}
use Rattle.lt_shard.specs.declared.answer.Answer.{Answer}
use Rattle.lt_shard.specs.declared.holding.Rest.{Rest}
use Rattle.lt_walk.specs.Closed.{IsClosedRest, passes_of}
use Rattle.lt_walk.specs.Reported.{GuardState}
use Rattle.lt_walk.specs.Theorem.{Told, Heard, AreHeard, ShardHistories, IsEnd, TheMainTheorem, RestIsEnd, FreshHaveHeardNothing}
use Rattle.lt_theorem_callers.specs.declared.notes.Notes.{Notes}
use Rattle.lt_theorem_callers.specs.Heard.{WasTold, HasNoted, IsConcluded}

first_heard : (of : Opening) (told : List Told) (all : List (List Told)) (p : PassState) (ps : List PassState) → AreHeard of (told ∷ all) (p ∷ ps) → Heard (fresh of p.number) told p
first_heard of told all p ps h = h.0

others_heard : (of : Opening) (told : List Told) (all : List (List Told)) (p : PassState) (ps : List PassState) → AreHeard of (told ∷ all) (p ∷ ps) → AreHeard of all ps
others_heard of told all p ps h = h.2

first_differs : (of : Opening) (told : List Told) (all : List (List Told)) (p q : PassState) (ps : List PassState) → AreHeard of (told ∷ all) (p ∷ q ∷ ps) → p.number ≢ q.number
first_differs of told all p q ps h = h.1.0

told_nothing : (of : Opening) (p : PassState) → p.of ≡ of → Heard (fresh of p.number) [] p → WasTold p [] []
told_nothing of p same h = record {
  told = [];
  heard = subst (λ o. Heard (fresh o p.number) [] p) (sym same) h;
  answers_are = refl;
  lets_are = refl;
}

noted_nothing : (of : Opening) (p : PassState) (notes : Notes) → p.of ≡ of → Heard (fresh of p.number) [] p → notes.answers.items ≡ [] → notes.lets.items ≡ [] → HasNoted of p notes
noted_nothing of p notes same h answers lets = record { table = same; told = rw (answers, lets) (told_nothing of p same h) }

-- Two passes that are all that were handed out have different numbers, and their callers have noted nothing.
pub two_begin : FreshHaveHeardNothing → (of : Opening) (n : ℕ) (one two : PassState) (ps : List PassState) (a b : Notes) → ps ≡ fresh_passes of n → All (λ p. p.of ≡ of) ps → ps ≡ one ∷ two ∷ []
    → a.answers.items ≡ [] → a.lets.items ≡ [] → b.answers.items ≡ [] → b.lets.items ≡ [] → (one.number ≢ two.number) × HasNoted of one a × HasNoted of two b
two_begin law of n one two ps a b fresh of_table are a-answers a-lets b-answers b-lets =
    let h : AreHeard of ([] ∷ [] ∷ []) (one ∷ two ∷ []) = law of n (one ∷ two ∷ []) (ap (map quiet) (sym are ∙ fresh)) in
    let each : All (λ p. p.of ≡ of) (one ∷ two ∷ []) = subst (All (λ p. p.of ≡ of)) are of_table in (
      first_differs of [] ([] ∷ []) one two [] h,
      noted_nothing of one a (each 0 one (omega arith)) (first_heard of [] ([] ∷ []) one (two ∷ []) h) a-answers a-lets,
      noted_nothing of two b (each 1 two (omega arith)) (first_heard of [] [] two [] (others_heard of [] ([] ∷ []) one (two ∷ []) h)) b-answers b-lets,
    )

pub concluded : TheMainTheorem → RestIsEnd → (of : Opening) (one two : PassState) (answers answers' : List Answer) (lets lets' : List ℕ) (rests : List Rest) (draws : ℕ) (d : Rest) →
    one.of ≡ of → two.of ≡ of → one.number ≢ two.number → WasTold one answers lets → WasTold two answers' lets' → IsClosedRest of (one ∷ two ∷ []) rests draws → IsConcluded of d rests answers answers' lets lets'
concluded theorem ended of one two answers answers' lets lets' rests draws d same same' differ w w' closed =
    let ps : List PassState = one ∷ two ∷ [] in
    let finals : ShardHistories of = λ s here. (closed.each s d here).all in
    let end : IsEnd of ps finals = ended of ps rests draws d closed in
    let last : AreHeard of (w'.told ∷ []) (two ∷ []) = (subst (λ o. Heard (fresh o two.number) w'.told two) same' w'.heard, tt, tt) in
    let heard : AreHeard of (w.told ∷ w'.told ∷ []) ps = (subst (λ o. Heard (fresh o one.number) w.told one) same w.heard, (differ, tt), last) in
    record {
      passes = ps;
      finals = finals;
      ends = λ s here. (closed.each s d here).rest;
      end = end;
      told_one = w.told;
      told_two = w'.told;
      answers_one = w.answers_are;
      answers_two = w'.answers_are;
      lets_of_one = w.lets_are;
      lets_of_two = w'.lets_are;
      heard = heard;
      theorem = theorem of ps finals end (w.told ∷ w'.told ∷ []) heard;
    }

both_of : (of : Opening) (one two : PassState) → one.of ≡ of → two.of ≡ of → (k : ℕ) (d : PassState) → k < length (one ∷ two ∷ []) → (get_or (one ∷ two ∷ []) k d).of ≡ of
both_of of one two a b zero d lt = a
both_of of one two a b (suc zero) d lt = b
both_of of one two a b (suc (suc k)) d lt = absurd (omega arith)

-- both passes are of the table
pub two_of : (of : Opening) (one two : PassState) (ps : List PassState) → ps ≡ one ∷ two ∷ [] → one.of ≡ of → two.of ≡ of → (k : ℕ) (d : PassState) → k < length ps → (get_or ps k d).of ≡ of
two_of of one two ps are a b = subst (λ qs. (k : ℕ) (d : PassState) → k < length qs → (get_or qs k d).of ≡ of) (sym are) (both_of of one two a b)

-- a table that is closed with these passes and no guards
pub closed_with : (of : Opening) (one two : PassState) (ps : List PassState) (gs : List GuardState) (rests : List Rest) (draws : ℕ) → ps ≡ one ∷ two ∷ [] → gs ≡ [] → IsClosedRest of (passes_of ps gs) rests draws → IsClosedRest of (one ∷ two ∷ []) rests draws
closed_with of one two ps gs rests draws are none closed =
    let all : passes_of ps gs ≡ one ∷ two ∷ [] = ap (λ hs. ps ++ map (λ g. g.pass) hs) none ∙ ap (λ qs. qs ++ []) are in
    subst (λ qs. IsClosedRest of qs rests draws) all closed
