-- Takes of a shard's steps that follow one another, and the close that follows them.
use Rattle.std.proofs.Common.{◌≡◌, ◌≢◌, ℕ, zero, suc, ◌<◌, ◌≤◌, List, [], ◌∷◌, ◌++◌, length, take, drop, get_or, refl, ap, sym, ◌∙◌, arith}
use Rattle.std.specs.Prelude.{slice_index}
use Rattle.std.proofs.Math.Seq.{take-append_seam, drop-append_seam}
use Rattle.std.proofs.lemmas.List.{length-drop, drop-append-le, take-append-le, take-append-drop}
use mathlib.Core.List.{IsPrefix}
use Rattle.lt_entry.specs.declared.entry.Entry.{Entry}
use Rattle.lt_words.specs.History.{part}
use Rattle.lt_words.proofs.Histories.{part_prefix}
use Rattle.lt_words.proofs.Prefixes.{prefix_trans}
use Rattle.lt_shard.specs.declared.holding.Rest.{Rest}
use Rattle.lt_words.specs.Row.{PassState}
use Rattle.lt_walk.specs.declared.closing.PassCount.{PassCount}
use Rattle.lt_walk.specs.declared.closing.PassCount.TheVariants.{Taken}
use Rattle.lt_walk.specs.Closed.{tally, tallied_at, IsRest}
use Rattle.lt_walk.specs.Taken.{RestJoins, RestFollowsOneReader, TakesJoin}
use Rattle.lt_walk.proofs.InPlace.{each_at}

-- of two prefixes of one list, the shorter is a prefix of the longer
shorter : {A : Type 0} (xs ys zs : List A) → IsPrefix xs zs → IsPrefix ys zs → length xs ≤ length ys → take (length xs) ys ≡ xs
shorter xs ys zs p q le =
    sym (take-append-le (length xs) ys q.0 le) ∙ (ap (take (length xs)) (q.1 ∙ sym p.1) ∙ take-append_seam xs p.0)

pub takes_join : TakesJoin
takes_join shard from from' whole seen seen' es es' pre pre' t t' fits =
    let xs : List Entry = part shard seen in
    let ys : List Entry = part shard seen' in
    let all : from' ≡ length xs = omega (arith, fits, ap length t.are, length-drop from xs, t.within) in
    let le : length xs ≤ length ys = omega (arith, all, t'.within) in
    let begins : take (length xs) ys ≡ xs = shorter xs ys (part shard whole) (part_prefix shard seen whole pre) (part_prefix shard seen' whole pre') le in
    let cut : ys ≡ xs ++ es' = sym (take-append-drop (length xs) ys) ∙ (ap (λ (l : List Entry). l ++ drop (length xs) ys) begins ∙ ap (λ (l : List Entry). xs ++ l) (ap (λ n. drop n ys) (sym all) ∙ sym t'.are)) in
    record {
      within = omega (arith, t.within, le);
      are = ap (λ (l : List Entry). l ++ es') t.are ∙ (sym (drop-append-le from xs es' t.within) ∙ ap (drop from) (sym cut));
    }

pub rest_joins : RestJoins
rest_joins of ps rests draws k s from p seen es d closed here lt is began t fits =
    let left : Rest = get_or rests s d in
    let m : IsRest of ps closed.whole closed.whole_shown s left.from left.entries.items = closed.each s d here in
    let xs : List Entry = part s seen in
    let before : IsPrefix (part s p.seen) m.all = each_at (λ q. IsPrefix (part s q.seen) m.all) ps k p m.final.seen lt is in
    let begins : IsPrefix xs m.all = prefix_trans xs (part s p.seen) m.all (part_prefix s seen p.seen began) before in
    let at : left.from ≡ length xs = omega (arith, fits, ap length t.are, length-drop from xs, t.within) in
    let rest : left.entries.items ≡ begins.0 = m.rest ∙ (ap (λ n. drop n m.all) at ∙ (ap (drop (length xs)) (sym begins.1) ∙ drop-append_seam xs begins.0)) in
    ap (λ (l : List Entry). l ++ left.entries.items) t.are ∙ (ap (λ (l : List Entry). drop from xs ++ l) rest ∙ (sym (drop-append-le from xs begins.0 t.within) ∙ ap (drop from) begins.1))

-- ---- what only one pass counts

none_tallied : (t : PassCount) (s : ℕ) (ps : List PassState) → ((j : ℕ) (q : PassState) → j < length ps → q ≡ get_or ps j q → slice_index (tally t q) s ≡ 0) → tallied_at t s ps ≡ 0
none_tallied t s [] none = omega arith
none_tallied t s (p ∷ ps) none = omega (arith, none 0 p (omega arith) refl, none_tallied t s ps (λ j q lt is. none (suc j) q (omega (arith, lt)) is))

one_tallied : (t : PassCount) (s : ℕ) (ps : List PassState) (k : ℕ) (p : PassState) → k < length ps → p ≡ get_or ps k p → ((j : ℕ) (q : PassState) → j < length ps → j ≢ k → q ≡ get_or ps j q → slice_index (tally t q) s ≡ 0)
    → tallied_at t s ps ≡ slice_index (tally t p) s
one_tallied t s [] k p lt is none = absurd (omega (arith, lt))
one_tallied t s (q ∷ ps) zero p lt is none =
    omega (arith, ap (λ r. slice_index (tally t r) s) is, none_tallied t s ps (λ j r less same. none (suc j) r (omega (arith, less)) (λ e. absurd (omega (arith, e))) same))
one_tallied t s (q ∷ ps) (suc k) p lt is none =
    omega (arith, none 0 q (omega arith) (λ e. absurd (omega (arith, e))) refl, one_tallied t s ps k p (omega (arith, lt)) is (λ j r less other same. none (suc j) r (omega (arith, less)) (λ e. other (omega (arith, e))) same))

pub rest_follows_one_reader : RestFollowsOneReader
rest_follows_one_reader of ps rests draws k s p d closed here streamed lt is none = (closed.each s d here).streamed streamed ∙ one_tallied Taken s ps k p lt is none
