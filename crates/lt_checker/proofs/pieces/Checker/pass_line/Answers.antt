use Rattle.std.proofs.Common.{Some, sym, ap, ◌∙◌, inl, rules}
use Rattle.lt_checker.proofs.PartsLaws.{step_takes}
use Rattle.lt_checker.proofs.LineLaws.{without_words, without_step, without_lets}
use Rattle.lt_checker.proofs.PieceLaws.{takes_line, refuses_line}
use Rattle.lt_checker.proofs.pieces.Checker.pass_line.Goals as goal

pub returns-in_default-clause-err : goal.returns-in_default-clause-err
returns-in_default-clause-err c = inl (without_words c.args.self.now.report.version c.args.bytes.now (sym c.new-words.ensures ∙ c.in_default.ensures.0))

pub returns-in_default-read_step-clause-err : goal.returns-in_default-read_step-clause-err
returns-in_default-read_step-clause-err c = inl (without_step c.args.self.now.report.version c.args.bytes.now c.in-Some.key.now c.next.new.self (sym c.new-words.ensures ∙ c.in-Some.ensures) c.in_default-read_step.ensures)

pub returns-in_err-tickets-clause-err : goal.returns-in_err-tickets-clause-err
returns-in_err-tickets-clause-err c =
    let shapeless = without_lets c.args.self.now.report.version c.args.bytes.now c.in-Some.key.now c.next.new.self c.read_step.new.words c.in-Some-read_step.step c.in_err-tickets.field-0.0 (sym c.new-words.ensures ∙ c.in-Some.ensures) c.in-Some-read_step.ensures c.in_err-tickets.ensures in
    search rules

pub take_parts-requires : goal.take_parts-requires
take_parts-requires c = (step_takes c.next.new.self c.in-Some-read_step.step c.read_step.new.words c.in-Some-read_step.ensures).1

pub returns-clause-ok : goal.returns-clause-ok
returns-clause-ok c =
    takes_line c.args.self.now c.take_parts.new.self c.args.bytes.now c.in-Some.key.now c.next.new.self c.read_step.new.words c.in-Some-read_step.step c.deref.result.now c.take_parts.result (sym c.new-words.ensures ∙ c.in-Some.ensures) c.in-Some-read_step.ensures (c.in_ok-tickets.ensures ∙ ap Some (sym c.deref.ensures.value)) c.take_parts.ensures.ok

pub returns-clause-err : goal.returns-clause-err
returns-clause-err c =
    refuses_line c.args.self.now.report.version _ c.args.bytes.now c.in-Some.key.now c.next.new.self c.read_step.new.words c.in-Some-read_step.step c.deref.result.now c.take_parts.result (sym c.new-words.ensures ∙ c.in-Some.ensures) c.in-Some-read_step.ensures (c.in_ok-tickets.ensures ∙ ap Some (sym c.deref.ensures.value)) c.take_parts.ensures.err
