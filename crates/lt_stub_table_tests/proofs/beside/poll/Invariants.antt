use Rattle.lt_stub_table_tests.proofs.beside.poll.Given as goal

-- Instantiates the name with the book that was prepared for this run.
abbrev pub ghosts-poll_named : goal.ghosts-poll_named
ghosts-poll_named g a = record { of = a.ready.of }
