use Rattle.lt_lock.proofs.LoneLocks.{sound_with}
use Rattle.lt_lock.proofs.table.LinkedTableKeyTable.look.Goals as goal

pub returns-clause-sound : goal.returns-clause-sound
returns-clause-sound c = rw (← c.self.view_is) (sound_with c.self.inside.lone c.self.inside.rows c.self.invariant)
