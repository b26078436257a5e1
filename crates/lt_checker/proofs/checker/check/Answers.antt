use Rattle.std.proofs.Common.{Err, arith, rules}
use Rattle.lt_checker.specs.declared.checker.CheckError.TheVariants as errors
use Rattle.lt_checker.specs.declared.error.Fault.TheVariants.{Header}
use Rattle.lt_checker.proofs.Verdicts.{is_said, legal_is_said, fault_is_said}
use Rattle.lt_checker.proofs.PieceLaws.{begun_accepts, headless}
use Rattle.lt_checker.proofs.checker.check.Goals as goal

pub returns-in-Some-clause-legal : goal.returns-in-Some-clause-legal
returns-in-Some-clause-legal c = begun_accepts c.args.text.now _ _ _ (search rules) (omega arith) c.end.ensures.legal

pub returns-in-None-clause-says : goal.returns-in-None-clause-says
returns-in-None-clause-says c = is_said c.args.text.now (Err (errors.Refused 1 Header)) (headless c.args.text.now (c.begin.ensures.none (search rules)))

pub returns-in-None-clause-legal : goal.returns-in-None-clause-legal
returns-in-None-clause-legal c = legal_is_said c.args.text.now (Err (errors.Refused 1 Header)) (omega arith) (headless c.args.text.now (c.begin.ensures.none (search rules)))

pub returns-in-None-clause-faulty : goal.returns-in-None-clause-faulty
returns-in-None-clause-faulty c = fault_is_said c.args.text.now (Err (errors.Refused 1 Header)) (headless c.args.text.now (c.begin.ensures.none (search rules)))
