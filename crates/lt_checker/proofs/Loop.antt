-- Lines are added to legal lines, and what a line with a fault is not.
use Rattle.std.proofs.Common.{◌≡◌, ℕ, ◌+◌, ◌<◌, ◌≤◌, Bool, true, false, cond, eqb, List, [], ◌∷◌, ◌++◌, length, refl, sym, ap, subst, ◌∙◌, arith}
use Rattle.std.specs.List.{flat_map, AllByRecursion}
use Rattle.lt_checker.proofs.LineLaws.{one_line, no_empty_line}
use Rattle.std.proofs.lemmas.List.{append-nil, length-append}
use Rattle.std.proofs.lemmas.Grind.{flat_map-append}
use Rattle.std.proofs.lemmas.List.Sums.{sum_by-append}
use Rattle.lt_checker.specs.declared.error.Fault.{Fault}
use Rattle.lt_checker.specs.declared.error.Fault.TheVariants.{Header, Shape, KeyOrder, Index, WrongReply, WrongLets}
use Rattle.lt_checker.specs.Lines.{Parts, IsLine, line_text}
use Rattle.lt_checker.specs.Text.{Spot, IsOf, spot_after, spot_from, Follows, IsWrong, AreLegalFrom, key_count, HasFault}

pub legal_push : (s : Spot) (ps : List Parts) (p : Parts) → AreLegalFrom s ps → IsLine p → Follows (spot_from s ps) p → AreLegalFrom s (ps ++ p ∷ [])
legal_push s [] p h line follows = (line, follows, tt)
legal_push s (q ∷ ps) p h line follows = (h.0, h.1, legal_push (spot_after s q) ps p h.2 line follows)

pub spot_push : (s : Spot) (ps : List Parts) (p : Parts) → spot_from s (ps ++ p ∷ []) ≡ spot_after (spot_from s ps) p
spot_push s [] p = refl
spot_push s (q ∷ ps) p = spot_push (spot_after s q) ps p

pub text_push : (ps : List Parts) (p : Parts) → flat_map line_text ps ++ line_text p ≡ flat_map line_text (ps ++ p ∷ [])
text_push ps p = ap (λ (t : List ℕ). flat_map line_text ps ++ t) (sym (append-nil (line_text p))) ∙ sym (flat_map-append line_text ps (p ∷ []))

pub one_more_of : (version : ℕ) (ps : List Parts) (p : Parts) → AllByRecursion (IsOf version) ps → IsOf version p → AllByRecursion (IsOf version) (ps ++ p ∷ [])
one_more_of version [] p h q = (q, tt)
one_more_of version (x ∷ ps) p h q = (h.0, one_more_of version ps p h.1 q)

plus_if : (b : Bool) (n : ℕ) → n + (0 + cond b 1 0) ≡ cond b (n + 1) n
plus_if true n = omega arith
plus_if false n = omega arith

pub keys_push : (ps : List Parts) (p : Parts) → key_count (ps ++ p ∷ []) ≡ cond (eqb p.step.index 1) (key_count ps + 1) (key_count ps)
keys_push ps p = sum_by-append (λ q. cond (eqb q.step.index 1) 1 0) ps (p ∷ []) ∙ plus_if (eqb p.step.index 1) (key_count ps)

line_takes_room : (p : Parts) → 0 < length (line_text p)
unfolding line_text
line_takes_room p = omega (arith, length-append {A = ℕ})

pub room_of : (ps : List Parts) → length ps ≤ length (flat_map line_text ps)
room_of [] = omega arith
room_of (p ∷ ps) = let more = room_of ps in let here = line_takes_room p in omega (arith, length-append (line_text p) (flat_map line_text ps))

-- ---- a line with a fault

still_follows : (s : Spot) (p : Parts) (fault : Fault) → IsWrong s p fault → Follows s p → ⊥
still_follows s p Header w f = w
still_follows s p Shape w f = w
still_follows s p KeyOrder w f = w f.ordered
still_follows s p Index w f = w.1 f.counted
still_follows s p WrongReply w f = w.2 f.replied
still_follows s p WrongLets w f = w.3 f.let_through

-- If the rest has a fault, it is not empty and does not start with a line of the version that follows.
pub record IsSpoiled (version : ℕ) (s : Spot) (rest : List ℕ) : Type 0 where
  pub some : rest ≡ [] → ⊥
  pub none_follows : (p : Parts) (more : List ℕ) → IsLine p → IsOf version p → rest ≡ line_text p ++ more → Follows s p → ⊥

spoiled_line : (version : ℕ) (s : Spot) (rest : List ℕ) (fault : Fault) (q : Parts) (more : List ℕ) → IsLine q → rest ≡ line_text q ++ more → IsWrong s q fault → IsSpoiled version s rest
spoiled_line version s rest fault q more line e w = record {
  some = λ empty. no_empty_line q more (sym empty ∙ e);
  none_follows = λ p other line' old e' follows.
      let same = one_line p q other more line' line (sym e' ∙ e) in
      still_follows s q fault w (subst (λ (x : Parts). Follows s x) same.0 follows);
}

pub spoiled : (version : ℕ) (s : Spot) (rest : List ℕ) (fault : Fault) → HasFault version s rest fault → IsSpoiled version s rest
spoiled version s rest Header f = absurd f
spoiled version s rest Shape f = record { some = f.0; none_follows = λ p more line old e follows. f.1 p more line old e }
spoiled version s rest KeyOrder f = spoiled_line version s rest KeyOrder f.0 f.1 f.2 f.4 f.5
spoiled version s rest Index f = spoiled_line version s rest Index f.0 f.1 f.2 f.4 f.5
spoiled version s rest WrongReply f = spoiled_line version s rest WrongReply f.0 f.1 f.2 f.4 f.5
spoiled version s rest WrongLets f = spoiled_line version s rest WrongLets f.0 f.1 f.2 f.4 f.5
