use Rattle.std.proofs.Common.{◌∙◌, ap, slice_get}
use Rattle.gesture_arena.specs.StandsFor.{held_members}
use Rattle.gesture_arena.proofs.Whole.{members-stand}
use Rattle.gesture_arena.proofs.pointers.Pointers.member.Goals as goal

pub returns : goal.returns
returns c s ps a =
    c.member_at.ensures ∙ ap (λ hs. slice_get (held_members hs) c.args.index) c.as_slice.ensures.value
    ∙ ap (λ ms. slice_get ms c.args.index) (members-stand s c.args.self.now.held.items ps a.pointers)
