use Rattle.std.proofs.Common.{◌-◌, nat_eq, ap, arith}
use Rattle.std.specs.BTreeMap.{get}
use Rattle.std.specs.Ordering.{nat_cmp}
use Rattle.lt_rules.specs.Rules.{writer_number}
use Rattle.lt_trace_show.specs.Phases.{writer_phase}
use Rattle.lt_trace_show.proofs.Phased.{found_before, none_found, all_found}
use Rattle.lt_trace_show.proofs.phase_map.put_writers.Goals as goal

pub loop-left-init : goal.loop-left-init
loop-left-init c = record {
  within = omega arith;
  put = λ n. none_found writer_phase (λ w. nat_eq (writer_number w) n) c.args.writers.now (get nat_cmp c.args.phases.now n);
}

pub offset_bounds-writers-left : goal.offset_bounds-writers-left
offset_bounds-writers-left c = omega (arith, c.loop-left.invariant.within, c.loop-left-test.true)

pub bounds-writers-left : goal.bounds-writers-left
bounds-writers-left c = omega (arith, c.loop-left.invariant.within, c.loop-left-test.true)

pub loop-left-preserved : goal.loop-left-preserved
loop-left-preserved c = record {
  within = omega (arith, c.loop-left.invariant.within, c.loop-left-test.true);
  put = λ n.
      found_before writer_phase (λ w. nat_eq (writer_number w) n) c.args.writers.now (c.loop-left.left - 1) c.loop-left.left c.index-writers-left.result (nat_eq c.number.result n) _
      (get nat_cmp c.args.phases.now n) (get nat_cmp c.put_phase.new.phases n) (get nat_cmp c.loop-left.phases n)
      (omega (arith, c.loop-left.invariant.within, c.loop-left-test.true)) c.index-writers-left.is (omega (arith, c.loop-left-test.true))
      (ap (λ k. nat_eq k n) c.number.ensures.value) c.writer_phase.ensures (c.loop-left.invariant.put n) (c.in_ok-put_phase.ensures n);
}

pub returns : goal.returns
returns c = λ n. all_found writer_phase (λ w. nat_eq (writer_number w) n) c.args.writers.now c.loop-left.left (get nat_cmp c.args.phases.now n) (get nat_cmp c.loop-left.phases n) (omega (arith, c.loop-left-test.false)) (c.loop-left.invariant.put n)
