use Rattle.std.proofs.Common.{◌∷◌, [], ◌++◌, take, ap, ◌∙◌, sym, rules}
use Rattle.std.proofs.lemmas.List.{take_more}
use Rattle.lt_trace_statistics.proofs.ByNumber.{none_ended, one_more_ended}
use Rattle.lt_trace_statistics.proofs.waits.drop_ended.Goals as goal

pub loop-ticket-init : goal.loop-ticket-init
loop-ticket-init c = none_ended c.args.pending.now

pub loop-ticket-preserved : goal.loop-ticket-preserved
loop-ticket-preserved c =
    let i = c.loop-ticket.ticket-index in
    let more = take_more c.args.tickets.now i c.ticket-item.result (search rules) in
    one_more_ended c.args.pending.now c.loop-ticket.pending c.drop_ticket.new.pending c.args.tickets.now i c.ticket-item.result (more ∙ ap (λ t. take i c.args.tickets.now ++ t ∷ []) (sym c.ticket-item.is)) c.loop-ticket.invariant c.drop_ticket.ensures
