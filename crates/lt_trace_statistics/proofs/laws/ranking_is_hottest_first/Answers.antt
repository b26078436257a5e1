use Rattle.lt_trace_statistics.proofs.Heat.{ranking_is_hottest_first}
use Rattle.lt_trace_statistics.proofs.laws.ranking_is_hottest_first.Goals as goal

pub returns : goal.returns
returns c = ranking_is_hottest_first
