use Rattle.layout_rules.proofs.Stepped.{course_ends}
use Rattle.layout_rules.proofs.laws.courses_end_well.Goals as goal

pub returns : goal.returns
returns c = λ s outer duty v kids here all fits may. course_ends s (c.layouts_are_lawful.ensures s) outer v kids here all fits duty may
