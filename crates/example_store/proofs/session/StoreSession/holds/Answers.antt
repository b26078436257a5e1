use Rattle.std.proofs.Common.{rules}
use Rattle.example_store.proofs.session.StoreSession.holds.Goals as goal

pub returns-in-Some : goal.returns-in-Some
returns-in-Some g c = rw c.in-Some.is (search rules)
