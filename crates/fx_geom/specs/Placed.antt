-- The placing of a child of a Stack.
use Rattle.std.specs.Prelude.{Bool, ◌||◌, is_some}
use Rattle.fx_geom.specs.declared.words.Placed.{Placed}

-- an edge, a width or a height is given (StackParentData.isPositioned)
abbrev pub is_positioned : Placed → Bool
is_positioned p =
    is_some p.left || is_some p.top || is_some p.right || is_some p.bottom || is_some p.width || is_some p.height
