use Rattle.std.proofs.Common.{◌≡◌, ◌+◌, ◌++◌, [], ◌∷◌, ℕ, List, length, take, sym, ap, ◌∙◌, append_assoc, arith, length-take-le}
use Rattle.std.specs.Global.{Vec}
use Rattle.std.proofs.lemmas.List.{take_more}
use Rattle.lt_runner.specs.declared.answer.AnswerLine.{AnswerLine}
use Rattle.lt_tool.specs.Answers.{answers_text, pass_text}
use Rattle.lt_tool.proofs.Appended.{texts_more}
use Rattle.lt_tool.proofs.answer.put_answers.Goals as goal

pub loop-lines-preserved : goal.loop-lines-preserved
loop-lines-preserved c =
    let i : ℕ = c.loop-lines.lines-index in
    let ps : List (Vec AnswerLine) = c.args.passes.now in
    let p : Vec AnswerLine = c.lines-item.result in
    let many : length (take i ps) ≡ i = length-take-le i ps (omega (arith, c.loop-lines-test.true)) in
    let same : 1 + length (take i ps) ≡ c.loop-lines.pass = omega (arith, many, c.loop-lines.invariant.0) in
    let text : answers_text (take (i + 1) ps) ≡ answers_text (take i ps) ++ pass_text c.loop-lines.pass p.items =
    ap answers_text (take_more ps i p c.loop-lines-test.true ∙ ap (λ (q : Vec AnswerLine). take i ps ++ q ∷ []) (sym c.lines-item.is)) ∙ texts_more 1 (take i ps) p ∙ ap (λ (n : ℕ). answers_text (take i ps) ++ pass_text n p.items) same in (
      ap (λ (n : ℕ). n + 1) c.loop-lines.invariant.0,
      c.in_ok-put_pass.ensures ∙ (ap (λ (xs : List AnswerLine). c.loop-lines.out.items ++ pass_text c.loop-lines.pass xs) c.deref.ensures.value ∙ (ap (λ (t : List ℕ). t ++ pass_text c.loop-lines.pass p.items) c.loop-lines.invariant.1 ∙ (append_assoc c.args.out.now.items (answers_text (take i ps)) (pass_text c.loop-lines.pass p.items) ∙ ap (λ (t : List ℕ). c.args.out.now.items ++ t) (sym text)))),
    )
