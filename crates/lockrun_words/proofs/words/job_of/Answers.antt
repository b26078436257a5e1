use Rattle.std.proofs.Common.{rules}
use Rattle.clap.specs.Words.{found_of}
use Rattle.lockrun_words.proofs.Commands.{runs, checks, upgrades}
use Rattle.lockrun_words.proofs.words.job_of.Goals as goal

pub returns-then-eq-clause-named : goal.returns-then-eq-clause-named
returns-then-eq-clause-named c = runs c.args.matches.now (found_of c.in-Some.inner.now) c.in-Some.name.now _ c.in-Some.ensures.name c.in-Some.ensures.rows (search rules) c.run_of.ensures.named

pub returns-then-eq-2-clause-named : goal.returns-then-eq-2-clause-named
returns-then-eq-2-clause-named c = checks c.args.matches.now (found_of c.in-Some.inner.now) c.in-Some.name.now _ c.in-Some.ensures.name c.in-Some.ensures.rows (search rules) c.get_str.ensures

pub returns-then-eq-3-clause-named : goal.returns-then-eq-3-clause-named
returns-then-eq-3-clause-named c = upgrades c.args.matches.now (found_of c.in-Some.inner.now) c.in-Some.name.now _ c.in-Some.ensures.name c.in-Some.ensures.rows (search rules) c.get_str-then-eq-3.ensures
