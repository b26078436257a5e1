use Rattle.lt_stub_table_tests.proofs.beside.wake.Given as goal

-- Instantiates the name with the book that was prepared for this run.
abbrev pub ghosts-wake_named : goal.ghosts-wake_named
ghosts-wake_named g a = record { of = a.ready.of }
