-- The book to which the content of a seat belongs.
use Rattle.lt_words.specs.Row.{Opening}
use Rattle.lt_test_kit.specs.declared.holds.Holds.{Holds}
use Rattle.lt_test_kit.specs.declared.holds.Holds.TheVariants.{Free, Open}

-- The book of the pass or the guard in a seat.
abbrev pub of_holds : Holds → Opening
of_holds (Free pass) = pass.of
of_holds (Open guard) = guard.pass.of
