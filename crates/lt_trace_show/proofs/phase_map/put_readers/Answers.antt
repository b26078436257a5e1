use Rattle.std.proofs.Common.{◌-◌, nat_eq, ap, arith}
use Rattle.std.specs.BTreeMap.{get}
use Rattle.std.specs.Ordering.{nat_cmp}
use Rattle.lt_rules.specs.Rules.{number_of}
use Rattle.lt_trace_show.specs.Phases.{reader_phase}
use Rattle.lt_trace_show.proofs.Phased.{found_before, none_found, all_found}
use Rattle.lt_trace_show.proofs.phase_map.put_readers.Goals as goal

pub loop-left-init : goal.loop-left-init
loop-left-init c = record {
  within = omega arith;
  put = λ n. none_found reader_phase (λ q. nat_eq (number_of q) n) c.args.readers.now (get nat_cmp c.args.phases.now n);
}

pub offset_bounds-readers-left : goal.offset_bounds-readers-left
offset_bounds-readers-left c = omega (arith, c.loop-left.invariant.within, c.loop-left-test.true)

pub bounds-readers-left : goal.bounds-readers-left
bounds-readers-left c = omega (arith, c.loop-left.invariant.within, c.loop-left-test.true)

pub loop-left-preserved : goal.loop-left-preserved
loop-left-preserved c = record {
  within = omega (arith, c.loop-left.invariant.within, c.loop-left-test.true);
  put = λ n.
      found_before reader_phase (λ q. nat_eq (number_of q) n) c.args.readers.now (c.loop-left.left - 1) c.loop-left.left c.index-readers-left.result (nat_eq c.number.result n) _
      (get nat_cmp c.args.phases.now n) (get nat_cmp c.put_phase.new.phases n) (get nat_cmp c.loop-left.phases n)
      (omega (arith, c.loop-left.invariant.within, c.loop-left-test.true)) c.index-readers-left.is (omega (arith, c.loop-left-test.true))
      (ap (λ k. nat_eq k n) c.number.ensures.value) c.reader_phase.ensures (c.loop-left.invariant.put n) (c.in_ok-put_phase.ensures n);
}

pub returns : goal.returns
returns c = λ n. all_found reader_phase (λ q. nat_eq (number_of q) n) c.args.readers.now c.loop-left.left (get nat_cmp c.args.phases.now n) (get nat_cmp c.loop-left.phases n) (omega (arith, c.loop-left-test.false)) (c.loop-left.invariant.put n)
