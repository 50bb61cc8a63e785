use Rattle.session_form.specs.Framing.{screen_of}
use Rattle.build_walk.proofs.Duly.{count_due}
use Rattle.build_walk.proofs.Rebuilding.{rebuild_same}
use Rattle.build_walk.proofs.laws.frames_keep_outputs.Goals as goal

pub returns-clause-built : goal.returns-clause-built
returns-clause-built c = λ s checked numbered well fresh.
    rebuild_same c.same_means_equal.ensures.widgets s.program (screen_of s) s.tree s.marks s.next s.root checked numbered well fresh

pub returns-clause-due : goal.returns-clause-due
returns-clause-due c = λ s checked numbered well fresh.
    count_due c.same_means_equal.ensures.widgets s.program (screen_of s) s.tree s.marks s.next s.root checked numbered well fresh
