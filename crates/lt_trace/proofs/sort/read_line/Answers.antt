use Rattle.lt_trace.proofs.LineEnds.{with_end}
use Rattle.lt_trace.proofs.SortLaws.{told_form}
use Rattle.lt_trace.proofs.sort.read_line.Goals as goal

pub returns-in-Ok-clause-line : goal.returns-in-Ok-clause-line
returns-in-Ok-clause-line c = record {
  text = c.in-Some.text.now;
  ended = with_end c.args.bytes.now c.in-Some.text.now c.in-Some.ensures.cases.0 c.in-Some.ensures.cases.1;
  reads = c.in-Ok.ensures;
}

pub returns-in-Err-clause-told : goal.returns-in-Err-clause-told
returns-in-Err-clause-told c = told_form c.args.form c.args.bytes.now c.in-Some.text.now c.in-Err.e
    (with_end c.args.bytes.now c.in-Some.text.now c.in-Some.ensures.cases.0 c.in-Some.ensures.cases.1) c.in-Err.ensures
