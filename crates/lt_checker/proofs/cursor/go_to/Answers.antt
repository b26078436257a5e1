use Rattle.std.proofs.Common.{rules}
use Rattle.lt_checker.proofs.Places.{own_key, goes_to, goes_not_to}
use Rattle.lt_checker.proofs.cursor.go_to.Goals as goal

pub returns-in-Equal-clause-err : goal.returns-in-Equal-clause-err
returns-in-Equal-clause-err c = goes_not_to c.args.cursor.now c.args.key.now c.args.index c.go_on.result (own_key c.args.cursor.now c.args.key.now _ c.in-Some.is (search rules)) c.go_on.ensures.err

pub returns-in-Equal-clause-ok : goal.returns-in-Equal-clause-ok
returns-in-Equal-clause-ok c = goes_to c.args.cursor.now c.go_on.new.cursor c.args.key.now c.args.index c.go_on.result (own_key c.args.cursor.now c.args.key.now _ c.in-Some.is (search rules)) c.go_on.ensures.ok

pub returns-in-Less-clause-err : goal.returns-in-Less-clause-err
returns-in-Less-clause-err c = search rules

pub returns-in-Less-clause-ok : goal.returns-in-Less-clause-ok
returns-in-Less-clause-ok c = search rules
