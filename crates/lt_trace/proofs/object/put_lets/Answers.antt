use Rattle.std.proofs.Common.{sym, ◌∙◌, rules}
use Rattle.lt_trace.proofs.JsonLaws.{lets_put}
use Rattle.lt_trace.proofs.object.put_lets.Goals as goal

pub returns : goal.returns
returns c = lets_put c.args.out.now.items c.put_word.new.out.items c.put_tickets.new.out.items c.args.tickets.now c.put_tickets.result (sym c.is_empty.ensures ∙ c.if-is_empty.false) (search rules) c.put_tickets.ensures
