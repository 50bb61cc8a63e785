-- What is read of the children's frames.
use Rattle.std.specs.Prelude.{Bool, true, false, List, [], ◌∷◌, Option, Some, None}
use Rattle.plain_tree.specs.declared.laid.Frame.{Frame}

-- the first frame
abbrev pub first_frame_of : List Frame → Option Frame
first_frame_of [] = None
first_frame_of (f ∷ fs) = Some f

-- all have answered
abbrev pub are_there : List (Option Frame) → Bool
are_there [] = true
are_there (None ∷ fs) = false
are_there (Some f ∷ fs) = are_there fs
