use Rattle.lt_trace_show.proofs.Numbers.{readers_named}
use Rattle.lt_trace_show.proofs.change.push_changed_readers.Goals as goal

pub returns-clause-named : goal.returns-clause-named
returns-clause-named c =
    let front = c.readers_front-front in
    let back = c.readers_back-back in
    rw (c.in_ok-push_readers-2.ensures, c.in_ok-push_readers.ensures) (readers_named c.args.before.now c.args.after.now c.args.numbers.now.items front.result back.result back.ensures.before back.ensures.after front.ensures.same back.ensures.same)
