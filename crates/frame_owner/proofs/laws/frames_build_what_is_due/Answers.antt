use Rattle.std.proofs.Common.{◌≤◌, ℕ, length, sym, subst}
use Rattle.build_form.specs.Program.{blueprint_of}
use Rattle.build_walk.specs.Counting.{is_built}
use Rattle.build_walk.specs.Standing.{all_builds}
use Rattle.session_form.specs.Framing.{screen_of}
use Rattle.work_sets.specs.Entered.{entered_widgets}
use Rattle.work_sets.specs.Work.{due_components}
use Rattle.work_sets.specs.Due.{is_due}
use Rattle.frame_owner.proofs.Due.{fewer}
use Rattle.frame_owner.proofs.laws.frames_build_what_is_due.Goals as goal

pub returns : goal.returns
returns c = λ s x next.
    let b = blueprint_of s.program in
    subst (λ (n : ℕ). all_builds b (screen_of s) s.tree s.marks n s.root ≤ length (due_components s)) (sym next)
    (fewer (is_built b.defaults s.tree s.marks) (is_due b.defaults s.tree s.marks) (entered_widgets b (screen_of s) s.tree s.next s.root)
    (c.what_is_built_is_due.ensures.due b.defaults s.tree s.marks))
