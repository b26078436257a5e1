use Rattle.std.proofs.Common.{ℕ, List, sym, subst, rules}
use Rattle.lt_checker.specs.Pieces.{HasBegun, LacksHeader}
use Rattle.lt_trace_check.specs.Audit.{IsReading}
use Rattle.lt_trace_check.proofs.Streams.{lacks_first_line, starts_reading}
use Rattle.lt_trace_check.proofs.stream.begin.Goals as goal

pub returns-in_default-clause-err : goal.returns-in_default-clause-err
returns-in_default-clause-err g c =
    lacks_first_line (g.R.Read.remaining c.args.reader.now) (g.R.Read.remaining c.read_beginning.new.reader) c.in_ok-beginning.beginning.items c.in_ok-beginning.ensures.ok
    (subst LacksHeader c.deref.ensures.value (c.in_default.ensures.none (search rules)))

pub returns-clause-ok : goal.returns-clause-ok
returns-clause-ok g c =
    let source = g.R.Read.remaining c.args.reader.now in
    let now = g.R.Read.remaining c.read_beginning.new.reader in
    subst (IsReading source now c.in-Some.checker) (sym c.in_ok-pending.ensures.items)
    (starts_reading source now c.in_ok-beginning.beginning.items c.in-Some.lines.now c.in-Some.checker c.in_ok-beginning.ensures.ok.taken
    (subst (λ (t : List ℕ). HasBegun t c.in-Some.checker c.in-Some.lines.now) c.deref.ensures.value c.in-Some.ensures.some))
