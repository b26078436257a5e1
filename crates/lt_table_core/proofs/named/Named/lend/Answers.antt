use Rattle.std.proofs.Common.{refl}
use Rattle.lt_table_core.proofs.named.Named.lend.Goals as goal

pub returns : goal.returns
returns g c = rw (← c.self.view_is) (c.self.inside.value, (_, c.f.ensures, refl), c.self.invariant.1)
