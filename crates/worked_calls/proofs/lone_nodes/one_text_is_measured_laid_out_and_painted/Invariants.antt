use Rattle.worked_calls.proofs.lone_nodes.one_text_is_measured_laid_out_and_painted.Given as goal

abbrev pub ghosts-make_all : goal.ghosts-make_all
ghosts-make_all g a = record { name = a.blank.name; parts = a.blank.parts }
