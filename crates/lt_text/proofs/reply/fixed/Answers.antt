use Rattle.std.proofs.Common.{sym, ◌∙◌}
use Rattle.lt_text.proofs.ReplyLaws.{unnamed}
use Rattle.lt_text.proofs.reply.fixed.Goals as goal

pub returns : goal.returns
returns c = unnamed c.args.word.now (sym c.is_name.ensures ∙ c.if-is_name.false) (sym c.is_name-2.ensures ∙ c.if-is_name-2.false) (sym c.is_name-3.ensures ∙ c.if-is_name-3.false) (sym c.is_name-4.ensures ∙ c.if-is_name-4.false) (sym c.is_name-5.ensures ∙ c.if-is_name-5.false) (sym c.is_name-6.ensures ∙ c.if-is_name-6.false) (sym c.is_name-7.ensures ∙ c.if-is_name-7.false) (sym c.is_name-8.ensures ∙ c.if-is_name-8.false) (sym c.is_name-9.ensures ∙ c.if-is_name-9.false) (sym c.is_name-10.ensures ∙ c.if-is_name-10.false) (sym c.is_name-11.ensures ∙ c.if-is_name-11.false) (sym c.is_name-12.ensures ∙ c.if-is_name-12.false) (sym c.is_name-13.ensures ∙ c.if-is_name-13.false)
