use Rattle.std.proofs.Common.{arith}
use Rattle.lt_trace_show.proofs.columns.widths.Goals as goal

pub returns-clause-writers : goal.returns-clause-writers
returns-clause-writers c = omega (arith, c.take-writers.ensures.most, c.take-more_writers.ensures.most)

pub returns-clause-readers : goal.returns-clause-readers
returns-clause-readers c = omega (arith, c.take-readers.ensures.most, c.take-more_readers.ensures.most)
