-- The words of the lets of a step.
use Rattle.std.specs.Prelude.{List, ℕ, [], ◌∷◌, map, codes}
use Rattle.lt_ids.specs.Ids.{Wait}
use Rattle.lt_text.specs.Fields.{ticket_word}

-- No words, or `let` and one or more tickets.
abbrev pub lets_words : List Wait → List (List ℕ)
lets_words [] = []
lets_words (t ∷ ts) = codes "let" ∷ map ticket_word (t ∷ ts)
