use Rattle.std.proofs.Common.{◌∙◌, ap}
use Rattle.std.specs.List.{list_any}
use Rattle.gesture_arena.specs.Stored.{number_is}
use Rattle.gesture_arena.proofs.Whole.{held-stand}
use Rattle.gesture_arena.proofs.pointers.Pointers.is_down.Goals as goal

pub returns : goal.returns
returns c s ps a =
    c.is_held.ensures ∙ ap (list_any (number_is c.args.pointer)) c.as_slice.ensures.value ∙ held-stand s c.args.pointer c.args.self.now.held.items ps a.pointers
