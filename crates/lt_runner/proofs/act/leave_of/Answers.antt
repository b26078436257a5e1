use Rattle.std.proofs.Common.{refl}
use Rattle.lt_runner.proofs.Telling.{tells_steps}
use Rattle.lt_runner.proofs.act.leave_of.Goals as goal

pub returns-in-Ok : goal.returns-in-Ok
returns-in-Ok g c =
    let l = c.in-Ok.ensures.leave in
    record {
      word = 0;
      steps = l.steps;
      done = (record { answered = c.in-Ok.left.answers.items; left = l.left }, refl);
      tells = tells_steps c.args.guard.pass l.steps c.in-Ok.left.pass l.reported;
      heard = tt;
    }

pub returns-in-HistoryFull : goal.returns-in-HistoryFull
returns-in-HistoryFull g c =
    let l = c.in-Err.ensures.leave in
    record {
      word = 0;
      steps = l.steps;
      done = record { state = c.in-Err.stopped.guard.walk; refused = l.stopped; goes_on = refl };
      tells = tells_steps c.args.guard.pass l.steps c.in-Err.stopped.guard.pass l.reported;
      heard = tt;
    }
