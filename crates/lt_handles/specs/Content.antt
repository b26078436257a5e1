-- What an open handle holds: a table, the check of a text in pieces, what a caller has of a shared table, or steps of one.
use Rattle.std.specs.Prelude.{Option, Some, None}
use Rattle.std.specs.Coded.{Coded, coded_option}
use Rattle.lt_handles.specs.OneTable.{OneTableState}
use Rattle.lt_handles.specs.contracts.content.Content.{the_row}
use Rattle.lt_handles.specs.declared.content.Content.TheVariants.{Table, Check, Shared, Pass, Guard, Steps, Ended}
use Rattle.lt_shard.specs.declared.holding.Rest.{Rest}
use Rattle.lt_walk.specs.declared.closing.Rests.{Rests}
use Rattle.lt_handles.specs.declared.held_check.HeldCheck.{HeldCheck}
use Rattle.lt_handles.specs.declared.held_shared.HeldShared.{HeldShared}
use Rattle.lt_handles.specs.declared.held_shared.HeldPass.{HeldPass}
use Rattle.lt_handles.specs.declared.held_shared.HeldGuard.{HeldGuard}

abbrev pub ContentState : Type 0
ContentState = the_row.Denot

abbrev pub content_coded : Coded (Option ContentState)
content_coded = coded_option the_row.coded

-- the table that a handle holds, if it holds one
abbrev pub table_in : Option ContentState → Option OneTableState
table_in (Some (Table table)) = Some table.value
table_in _ = None

-- the check that a handle holds, if it holds one
abbrev pub check_in : Option ContentState → Option HeldCheck
check_in (Some (Check check)) = Some check.value
check_in _ = None

-- the shared table that a handle holds, if it holds one
abbrev pub shared_in : Option ContentState → Option HeldShared
shared_in (Some (Shared held)) = Some held
shared_in _ = None

-- the pass that a handle holds, if it holds one and no request has it
abbrev pub pass_in : Option ContentState → Option HeldPass
pass_in (Some (Pass held)) = Some held
pass_in _ = None

-- the request that a handle holds, if it holds one
abbrev pub guard_in : Option ContentState → Option HeldGuard
guard_in (Some (Guard held)) = Some held
guard_in _ = None

-- what is left of an ended table, if a handle holds that
abbrev pub ended_in : Option ContentState → Option Rests
ended_in (Some (Ended rests)) = Some rests
ended_in _ = None

-- the steps that a handle holds, if it holds some
abbrev pub steps_in : Option ContentState → Option Rest
steps_in (Some (Steps rest)) = Some rest
steps_in _ = None
