use Rattle.std.proofs.Common.{rules}
use Rattle.example_store.proofs.Passes.{prefix_begins}
use Rattle.example_store.proofs.closing.parts_of.Goals as goal

pub returns-clause-log : goal.returns-clause-log
returns-clause-log g c = record {
  number = search rules;
  seen = prefix_begins c.args.session.log.seen c.in_ok-pass.pass.seen (search rules);
}
