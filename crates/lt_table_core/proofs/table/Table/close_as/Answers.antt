use Rattle.lt_table_core.proofs.table.Table.close_as.Goals as goal

pub close_in-requires-clause-passes : goal.close_in-requires-clause-passes
close_in-requires-clause-passes g c = rw c.take_room.ensures.passes c.requires.passes

pub returns-in-Ok-clause-closed : goal.returns-in-Ok-clause-closed
returns-in-Ok-clause-closed g c = rw (← c.take_room.ensures.passes) c.close_in.ensures.closed

pub returns-in-Ok-clause-enough : goal.returns-in-Ok-clause-enough
returns-in-Ok-clause-enough g c = rw (← c.take_room.ensures.passes) c.close_in.ensures.enough

pub returns-in-Ok-clause-back : goal.returns-in-Ok-clause-back
returns-in-Ok-clause-back g c = rw (← c.take_room.ensures.passes) c.close_in.ensures.back
