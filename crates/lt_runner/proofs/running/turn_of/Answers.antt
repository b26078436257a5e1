use Rattle.lt_runner.proofs.running.turn_of.Goals as goal

pub returns : goal.returns
returns g c = record {
  session = c.learn.new.self;
  learns = c.learn.ensures;
  goes_on = c.in_ok-next_line.ensures;
  of = c.seen.ensures.of;
  seen_is = c.seen.ensures.seen;
  shown_is = c.seen.ensures.shown;
}
