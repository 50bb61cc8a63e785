use Rattle.build_form.proofs.WellMade.{first_well, built_well}
use Rattle.build_form.proofs.laws.builds_are_well_built.Goals as goal

pub returns-clause-first : goal.returns-clause-first
returns-clause-first c = λ p old next root tree s checked was typed is. first_well p old next root tree s checked was typed is

pub returns-clause-whole : goal.returns-clause-whole
returns-clause-whole c = λ p screen old next after root tree checked was typed is. built_well p screen old next after root tree checked was typed is
