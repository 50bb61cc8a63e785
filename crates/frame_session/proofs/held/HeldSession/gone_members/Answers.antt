use Rattle.std.proofs.Common.{◌++◌, ◌+◌, drop, filter, sym, ap, ◌∙◌}
use Rattle.gesture_arena.specs.Pointers.{members_of}
use Rattle.session_form.specs.Framing.{gone_members}
use Rattle.session_form.specs.Handlers.{is_gone}
use Rattle.session_form.specs.Program.{scale_of}
use Rattle.frame_session.proofs.GoneLemmas.{takes_one, passes_one, takes_all}
use Rattle.frame_session.proofs.held.HeldSession.gone_members.Goals as goal
use Rattle.frame_session.proofs.held.HeldSession.gone_members.Goals.{then-is_gone+in_ok-push, else-is_gone}

pub loop-i-preserved : goal.loop-i-preserved
loop-i-preserved c ds s h =
    let xs = members_of s.pointers in
    let x = c.in-Some.member in
    let found = sym (c.in-Some.ensures (scale_of s.program) s.pointers h.pointers) in
    let here = sym (c.is_gone.ensures ds s h) in
    let left = filter (is_gone s.tree) (drop (c.loop-i.i + 1) xs) in
    elim c.if-is_gone.branch [
      | then-is_gone+in_ok-push w ↦
          ap (λ v. v.items ++ left) w.gone-is ∙ ap (λ l. l ++ left) w.in_ok-push.ensures.items
          ∙ takes_one (is_gone s.tree) xs c.loop-i.gone.items (gone_members s) c.loop-i.i x found (here ∙ w.if-is_gone.true) (c.loop-i.invariant ds s h)
      | else-is_gone w ↦
          ap (λ v. v.items ++ left) w.gone-is
          ∙ passes_one (is_gone s.tree) xs c.loop-i.gone.items (gone_members s) c.loop-i.i x found (here ∙ w.if-is_gone.false) (c.loop-i.invariant ds s h)
    ]

pub returns-in_default : goal.returns-in_default
returns-in_default c ds s h =
    takes_all (is_gone s.tree) (members_of s.pointers) c.loop-i.gone.items (gone_members s) c.loop-i.i
    (sym (c.in_default.ensures (scale_of s.program) s.pointers h.pointers)) (c.loop-i.invariant ds s h)
