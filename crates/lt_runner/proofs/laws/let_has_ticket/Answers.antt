use Rattle.lt_runner.proofs.Replying.{let_ticket}
use Rattle.lt_runner.proofs.laws.let_has_ticket.Goals as goal

pub returns : goal.returns
returns c = let_ticket
