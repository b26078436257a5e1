use Rattle.std.proofs.Common.{◌∷◌, [], rules}
use Rattle.std.proofs.lemmas.List.Sums.{fold-append}
use Rattle.lt_trace_statistics.specs.Findings.{traced_step, after_step, no_findings, findings_of}
use Rattle.lt_trace_statistics.proofs.Longest.{sums_pushed}
use Rattle.lt_trace_statistics.proofs.statistics.Statistics.take.Goals as goal

pub returns : goal.returns
returns c = λ steps gathered.
    let x = traced_step c.args.line.now c.args.queue in
    let here = c.in_ok-note_step.ensures.findings _ (c.in_ok-enter_key.ensures.findings (findings_of steps) gathered.findings) in
    record {
      findings = rw (fold-append after_step no_findings steps (x ∷ [])) (search (here, rules));
      sums = sums_pushed c.args.self.now.counts c.counted-self.result steps x gathered.sums (search rules) (search rules) (search rules);
    }
