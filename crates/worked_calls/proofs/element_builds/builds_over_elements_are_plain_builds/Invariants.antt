use Rattle.worked_calls.proofs.element_builds.builds_over_elements_are_plain_builds.Given as goal

abbrev pub ghosts-run_all : goal.ghosts-run_all
ghosts-run_all g a = record { name = a.blank.name; parts = a.blank.parts }
