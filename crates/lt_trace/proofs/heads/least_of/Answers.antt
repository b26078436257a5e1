use Rattle.std.proofs.Common.{sym, ◌∙◌, option_map, arith, rules}
use Rattle.lt_trace.specs.Heads.{keys_of_heads}
use Rattle.lt_trace.proofs.HeadLaws.{ended_more, below_more_heads, not_below_more_heads, line_head, ended_head, all_ended, least_of_all}
use Rattle.lt_trace.proofs.heads.least_of.Goals.{in-Some+then-is_below_least, in-Some+else-is_below_least, in_default}
use Rattle.lt_trace.proofs.heads.least_of.Goals as goal

pub loop-head-preserved : goal.loop-head-preserved
loop-head-preserved c = record {
  counts = search rules;
  least = elim c.match-head.branch [
    | in-Some+then-is_below_least w ↦ rw w.least-is
        (below_more_heads (keys_of_heads c.args.heads.now) c.loop-head.i w.in-Some.line.key (option_map (λ x. (x.0, x.1.now)) c.loop-head.least)
        (line_head c.args.heads.now c.loop-head.i c.loop-head.head-index c.head-item.result w.in-Some.line c.loop-head.invariant.counts c.loop-head-test.true c.head-item.is w.in-Some.is)
        (sym w.is_below_least.ensures ∙ w.if-is_below_least.true) c.loop-head.invariant.least)
    | in-Some+else-is_below_least w ↦ rw w.least-is
        (not_below_more_heads (keys_of_heads c.args.heads.now) c.loop-head.i w.in-Some.line.key (option_map (λ x. (x.0, x.1.now)) c.loop-head.least)
        (line_head c.args.heads.now c.loop-head.i c.loop-head.head-index c.head-item.result w.in-Some.line c.loop-head.invariant.counts c.loop-head-test.true c.head-item.is w.in-Some.is)
        (sym w.is_below_least.ensures ∙ w.if-is_below_least.false) c.loop-head.invariant.least)
    | in_default w ↦ rw w.least-is
        (ended_more (keys_of_heads c.args.heads.now) c.loop-head.i (option_map (λ x. (x.0, x.1.now)) c.loop-head.least)
        (ended_head c.args.heads.now c.loop-head.i c.loop-head.head-index c.head-item.result c.loop-head.invariant.counts c.loop-head-test.true c.head-item.is w.in_default.is)
        c.loop-head.invariant.least)
  ];
}

pub returns-in_err-index-clause-none : goal.returns-in_err-index-clause-none
returns-in_err-index-clause-none c =
    rw c.from_residual.ensures (all_ended c.args.heads.now c.loop-head.i (omega arith) (rw (c.branch-index.ensures, c.in_err-index.is) at c.loop-head.invariant.least))

pub returns-clause-some : goal.returns-clause-some
returns-clause-some c =
    least_of_all c.args.heads.now c.loop-head.i c.in_ok-index.index c.in_ok-index.field-0-1.now (omega arith) (rw c.in_ok-index.was at c.loop-head.invariant.least)
