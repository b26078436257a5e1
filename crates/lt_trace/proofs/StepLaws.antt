-- Reading the words of a step.
use Rattle.std.proofs.Common.{◌≡◌, ℕ, List, ◌∷◌, Option, Some, None, is_some, refl}
use Rattle.lt_ids.specs.Ids.{Wait}
use Rattle.lt_text.specs.Maybe.{◌>>=◌}
use Rattle.lt_text.specs.Fields.{ticket_of}
use Rattle.lt_checker.specs.Lines.{tickets_of, if_any}

rest_decides : (t : Wait) (o : Option (List Wait)) → is_some (o >>= λ ts. Some (t ∷ ts)) ≡ is_some o
rest_decides t None = refl
rest_decides t (Some ts) = refl

-- After a ticket, the other words decide.
pub tickets_after : (word : List ℕ) (words : List (List ℕ)) (t : Wait) → ticket_of word ≡ Some t → is_some (tickets_of (word ∷ words)) ≡ is_some (tickets_of words)
tickets_after word words t e = rw e (rest_decides t (tickets_of words))

any_of_more : (t : Wait) (o : Option (List Wait)) → is_some ((o >>= λ ts. Some (t ∷ ts)) >>= if_any) ≡ is_some (o >>= λ ts. Some (t ∷ ts))
any_of_more t None = refl
any_of_more t (Some ts) = refl

any_of : (o : Option Wait) (others : Option (List Wait)) → is_some ((o >>= λ t. others >>= λ ts. Some (t ∷ ts)) >>= if_any) ≡ is_some (o >>= λ t. others >>= λ ts. Some (t ∷ ts))
any_of None others = refl
any_of (Some t) others = any_of_more t others

-- One word or more that are all tickets are some tickets.
pub any_tickets : (word : List ℕ) (words : List (List ℕ)) → is_some (tickets_of (word ∷ words) >>= if_any) ≡ is_some (tickets_of (word ∷ words))
any_tickets word words = any_of (ticket_of word) (tickets_of words)
