use Rattle.worked_calls.proofs.streams.steps_are_counted_on_a_ledger.Given as goal

abbrev pub ghosts-ticks_twice : goal.ghosts-ticks_twice
ghosts-ticks_twice a = record { name = a.blank.name; parts = a.blank.parts }
