use Rattle.std.proofs.Common.{ℕ, sym, ap, subst}
use Rattle.lt_checker.specs.declared.checker.Report.{Report}
use Rattle.lt_trace_check.specs.KnownText.{known_from}
use Rattle.lt_trace_check.specs.Parallel.{IsCheckedPrefix}
use Rattle.lt_trace_check.proofs.PieceJoins.{begins}
use Rattle.lt_trace_check.proofs.parallel.begin_prefix.Goals as goal

pub returns : goal.returns
returns g c =
    let known = g.T.TextAt.contents c.args.text.now in
    let after = known_from (g.T.TextAt.contents c.read_exact.new.self.text.now) c.read_exact.new.self.at in
    subst (λ (v : ℕ). IsCheckedPrefix known record { version = v; to = 8; checker = c.in_ok-checker.checker })
    (ap (λ (r : Report). r.version) (sym c.report.ensures.report))
    (begins known after c.read_exact.new.buf c.in_ok-checker.field-0-1.now c.in_ok-checker.checker c.in-Ok.ensures.bytes c.in_ok-checker.ensures.some)
