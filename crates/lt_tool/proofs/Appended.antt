-- Bytes that are written piece after piece.
use Rattle.std.proofs.Common.{◌≡◌, ◌+◌, ℕ, suc, List, [], ◌∷◌, ◌++◌, length, Option, Some, None, sym, ap, ◌∙◌, append_assoc, arith}
use Rattle.std.specs.Global.{Vec}
use Rattle.std.specs.Io.KnownBytes.{Appends}
use Rattle.std.proofs.lemmas.List.{append-nil}
use Rattle.lt_runner.specs.declared.answer.AnswerLine.{AnswerLine}
use Rattle.lt_tool.specs.Answers.{pass_text, texts_from}

appends_two : (old mid new : Option (List ℕ)) (a b : List ℕ) → Appends old mid a → Appends mid new b → Appends old new (a ++ b)
appends_two None mid new a b p q = tt
appends_two (Some xs) None new a b p q = absurd p
appends_two (Some xs) (Some ys) None a b p q = q
appends_two (Some xs) (Some ys) (Some zs) a b p q = q ∙ (ap (λ (t : List ℕ). t ++ b) p ∙ append_assoc xs a b)

pub appends_three : (old first second new : Option (List ℕ)) (a b c : List ℕ) → Appends old first a → Appends first second b → Appends second new c → Appends old new (a ++ b ++ c)
appends_three old first second new a b c p q r = appends_two old second new (a ++ b) c (appends_two old first second a b p q) r

-- The text with the lines of one more pass.
pub texts_more : (n : ℕ) (ps : List (Vec AnswerLine)) (p : Vec AnswerLine) → texts_from n (ps ++ p ∷ []) ≡ texts_from n ps ++ pass_text (n + length ps) p.items
texts_more n [] p = append-nil (pass_text n p.items) ∙ ap (λ (m : ℕ). pass_text m p.items) (omega arith)
texts_more n (q ∷ ps) p =
    let rest : texts_from (n + 1) (ps ++ p ∷ []) ≡ texts_from (n + 1) ps ++ pass_text (n + 1 + length ps) p.items = texts_more (n + 1) ps p in
    let same : n + 1 + length ps ≡ n + suc (length ps) = omega arith in
    ap (λ (t : List ℕ). pass_text n q.items ++ t) (rest ∙ ap (λ (m : ℕ). texts_from (n + 1) ps ++ pass_text m p.items) same) ∙ sym (append_assoc (pass_text n q.items) (texts_from (n + 1) ps) (pass_text (n + suc (length ps)) p.items))
