use Rattle.std.proofs.Common.{subst, rules}
use Rattle.lt_trace_statistics.specs.Findings.{mover_of, without_mover, without_ended}
use Rattle.lt_trace_statistics.specs.OpenWaits.{HasWaits}
use Rattle.lt_trace_statistics.proofs.ByNumber.{no_mover}
use Rattle.lt_trace_statistics.proofs.statistics.Statistics.note_step.Goals as goal

pub returns-clause-findings : goal.returns-clause-findings
returns-clause-findings c = λ f are.
    let mover = mover_of c.args.line.now.step.call in
    let tickets = c.args.line.now.tickets.items in
    let moved = c.drop_mover.ensures f.pending are.pending in
    let ended = subst (λ ts. HasWaits c.drop_ended.new.pending (without_ended ts (without_mover mover f.pending))) c.deref-2.ensures.value (c.drop_ended.ensures (without_mover mover f.pending) moved) in
    record {
      keys = search rules;
      latest = search rules;
      earlier = search rules;
      pending = c.in_ok-begin_wait.ensures (without_ended tickets (without_mover mover f.pending)) (no_mover mover tickets f.pending) ended;
      queue = search rules;
      wait = search (c.in_ok-note_ended.ensures (without_mover mover f.pending) moved, rules);
    }
