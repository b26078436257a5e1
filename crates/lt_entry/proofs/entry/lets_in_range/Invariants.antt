use Rattle.std.specs.List.{AllWithin}
use Rattle.lt_entry.specs.Ranges.{IsTicket}
use Rattle.lt_entry.proofs.entry.lets_in_range.Given as goal

abbrev pub invariant-loop-through : goal.invariant-loop-through
invariant-loop-through l = AllWithin (λ t. IsTicket t.ticket) l.lets 0 l.through-index
