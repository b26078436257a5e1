use Rattle.lt_stub_table_tests.proofs.out_of_memory.run_scarce.Given as goal

-- Instantiates the name with the book that was prepared for this run.
abbrev pub ghosts-run_named : goal.ghosts-run_named
ghosts-run_named g a = record { of = a.ready.of }
