use Rattle.lt_stub_table_tests.proofs.beside.two_acquires.Given as goal

-- Instantiates the name with the book that was prepared for this run.
abbrev pub ghosts-two_acquires_named : goal.ghosts-two_acquires_named
ghosts-two_acquires_named g a = record { of = a.ready.of }
