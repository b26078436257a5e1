-- What was shown to the passes that wait: a list of lets (a ticket and its pass), in the order in which they were
-- shown.
use Rattle.std.specs.Prelude.{ℕ, ◌≤◌, ◌==◌, max, List, [], ◌∷◌, if◌then◌else◌}
use Rattle.std.specs.List.{AllByRecursion}
use Rattle.lt_ids.specs.Ids.{Wait, IsNumber, IsWaitNumber, value_of}
use Rattle.lt_ids.specs.declared.ticket.Through.{Through}
use Rattle.lt_words.specs.declared.event.Event.{Event}
use Rattle.lt_words.specs.History.{LetIn}

-- what one let that was shown contributes to the status word of a pass
abbrev pub value_for : ℕ → Through → ℕ
value_for p t = if p == t.pass then value_of t.ticket else 0

-- the status word of a pass after these lets were shown: the highest value of a ticket that was shown to it, or 0
-- if none was
abbrev pub word_of : ℕ → List Through → ℕ
word_of p [] = 0
word_of p (t ∷ ts) = max (value_for p t) (word_of p ts)

-- The ticket was shown to this pass, or a later one was: the pass's status word is at or above the ticket.
abbrev pub IsShown : List Through → ℕ → Wait → Type 0
IsShown ts p t = value_of t ≤ word_of p ts

-- Each of these lets was shown in this sense.
abbrev pub AreShown : List Through → List Through → Type 0
AreShown ts lets = AllByRecursion (λ t. IsShown ts t.pass t.ticket) lets

-- Each ticket that was shown had been let through by some step.
abbrev pub AreLet : List Event → List Through → Type 0
AreLet h ts = AllByRecursion (λ t. IsNumber t.ticket.number × IsWaitNumber t.ticket.wait × LetIn h t.pass t.ticket) ts
