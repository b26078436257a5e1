-- What a session knows of its pass, and what is left when all of them are closed.
use Rattle.std.specs.Prelude.{◌≡◌, List, length, take}
use Rattle.lt_words.specs.declared.event.Event.{Event}

-- The second history begins with the first one.
abbrev pub IsSeenIn : List Event → List Event → Type 0
IsSeenIn xs ys = take (length xs) ys ≡ xs
