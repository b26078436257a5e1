use Rattle.std.proofs.Common.{◌∙◌}
use Rattle.lt_trace_statistics.specs.Findings.{findings_of}
use Rattle.lt_trace_statistics.proofs.Ranks.{hottest_with_latest}
use Rattle.lt_trace_statistics.proofs.statistics.Statistics.finish.Goals as goal

pub returns : goal.returns
returns c = λ steps gathered. record {
  sums = gathered.sums;
  keys = gathered.findings.keys;
  queue = gathered.findings.queue;
  wait = gathered.findings.wait;
  hottest = c.in_ok-rank_latest.ensures ∙ hottest_with_latest (findings_of steps).keys c.args.self.latest c.args.self.earlier.items gathered.findings.latest gathered.findings.earlier;
}
