use Rattle.lt_trace_show.proofs.Numbers.{writers_named}
use Rattle.lt_trace_show.proofs.change.push_changed_writers.Goals as goal

pub returns-clause-named : goal.returns-clause-named
returns-clause-named c =
    let front = c.writers_front-front in
    let back = c.writers_back-back in
    rw (c.in_ok-push_writers-2.ensures, c.in_ok-push_writers.ensures) (writers_named c.args.before.now c.args.after.now c.args.numbers.now.items front.result back.result back.ensures.before back.ensures.after front.ensures.same back.ensures.same)
