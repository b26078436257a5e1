use Rattle.std.proofs.Common.{length}
use Rattle.std.specs.List.{find}
use Rattle.std.specs.Option.{option_map}
use Rattle.lt_links.specs.Maps.{queue}
use Rattle.lt_rules.specs.Rules.{is_eligible}
use Rattle.lt_row.specs.Row.{line, request_of, writer_of}
use Rattle.lt_row.proofs.Places.{rest_from}
use Rattle.lt_row.proofs.Walks.{IsWalk, found_in}
use Rattle.lt_row.proofs.queue_walk.first_eligible.Given as goal

abbrev pub invariant-loop-at : goal.invariant-loop-at
invariant-loop-at l = IsWalk (queue l.links l.queue) l.at (found_in (λ s. is_eligible (option_map request_of l.reserved) (writer_of s)) l.links) (find (λ s. is_eligible (option_map request_of l.reserved) (writer_of s)) (line l.links l.queue))

abbrev pub decreases-loop-at : goal.decreases-loop-at
decreases-loop-at l = length (rest_from l.at (queue l.links l.queue))
