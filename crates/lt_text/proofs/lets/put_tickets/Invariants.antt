use Rattle.std.proofs.Common.{◌≡◌, ◌++◌, ◌∷◌, take}
use Rattle.std.specs.List.{flat_map}
use Rattle.lt_text.specs.Fields.{ticket_word}
use Rattle.lt_text.proofs.lets.put_tickets.Given as goal

abbrev pub invariant-loop-one : goal.invariant-loop-one
invariant-loop-one g l = l.out.items ≡ l.initial.out.items ++ flat_map (λ t. 32 ∷ ticket_word (g.T.HasTicket.ticket t)) (take l.one-index l.lets)
