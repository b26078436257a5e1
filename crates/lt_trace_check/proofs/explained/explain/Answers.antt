use Rattle.std.proofs.Common.{◌≡◌, ◌+◌, ℕ, Bool, List, ap, subst, arith}
use Rattle.std.proofs.lemmas.Result.{IfOk-weaker}
use Rattle.lt_checker.specs.declared.checker.Report.{Report}
use Rattle.lt_trace_check.specs.Audit.{IsSplit}
use Rattle.lt_trace_check.proofs.Streams.{explained}
use Rattle.lt_trace_check.proofs.explained.explain.Goals as goal

pub returns-clause-ok : goal.returns-clause-ok
returns-clause-ok g c =
    let source = g.R.Read.remaining c.args.reader.now in
    let mid = g.R.Read.remaining c.loop.reader in
    let now = g.R.Read.remaining c.read_next.new.reader in
    let pending = c.read_next.new.pending.items in
    let ended : Bool = c.without_end-split.result.1 in
    let split : IsSplit pending c.without_end-split.result.0.now ended =
    subst (λ (t : List ℕ). IsSplit t c.without_end-split.result.0.now ended) c.deref.ensures.value c.without_end-split.ensures in
    let numbered : c.loop.checker.report.steps + 2 ≡ c.args.number = omega (arith, c.if-report-number.false, c.if-number-lt2.false, ap (λ (r : Report). r.steps) c.report.ensures.report) in
    IfOk-weaker c.explain_line.result _ _ (λ x said.
    explained source mid now c.loop.checker c.loop.pending.items pending c.in_ok-read_next.ensures.ok.0 c.args.number _ ended x
    c.loop.invariant c.in_ok-read_next.ensures.ok.1 c.in_ok-read_next.ensures.stops split numbered said) c.explain_line.ensures.ok
