use Rattle.lt_log_tests.proofs.named.open_by_name.Given as goal

-- Instantiates the name with the book that was just opened.
abbrev pub ghosts-front_of : goal.ghosts-front_of
ghosts-front_of a = record { of = a.book.now }
