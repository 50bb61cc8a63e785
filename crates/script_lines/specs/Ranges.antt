-- The ranges of a command's numbers.
use Rattle.std.specs.Prelude.{ℕ, ◌≤◌, ℤ, pos, neg_ℤ, ◌≤ℤ◌}
use Rattle.script_lines.specs.Numbers.{greatest_time, greatest_node, greatest_pointer, coordinate_reach, side_reach, distance_reach}
use Rattle.script_lines.specs.declared.command.Command.{Command}
use Rattle.script_lines.specs.declared.command.Command.TheVariants as command

-- a number no further from 0 than so much
abbrev pub IsBetween : ℕ → ℤ → Type 0
IsBetween reach z = (neg_ℤ (pos reach) ≤ℤ z) × (z ≤ℤ pos reach)

-- the signed numbers of a command lie in their ranges: coordinates, sides of a view, distances and a delegate's number
abbrev pub HasSignedRanges : Command → Type 0
HasSignedRanges command.Frame = Unit {0}
HasSignedRanges (command.At t) = Unit {0}
HasSignedRanges (command.Set node field value) = Unit {0}
HasSignedRanges (command.Root json) = Unit {0}
HasSignedRanges (command.Resize w h) = IsBetween side_reach w × IsBetween side_reach h
HasSignedRanges (command.Scroll node by) = IsBetween distance_reach by
HasSignedRanges (command.Down pointer x y) = IsBetween coordinate_reach x × IsBetween coordinate_reach y
HasSignedRanges (command.Move pointer x y) = IsBetween coordinate_reach x × IsBetween coordinate_reach y
HasSignedRanges (command.Up pointer) = Unit {0}
HasSignedRanges (command.Cancel pointer) = Unit {0}
HasSignedRanges (command.Hit x y) = IsBetween coordinate_reach x × IsBetween coordinate_reach y
HasSignedRanges command.Semantics = Unit {0}
HasSignedRanges (command.Act node action) = Unit {0}
HasSignedRanges (command.Delegate name field n) = IsBetween distance_reach n
HasSignedRanges (command.Unplug name) = Unit {0}
HasSignedRanges command.States = Unit {0}

-- the others do: a time, the number of a node and a pointer
abbrev pub HasUnsignedRanges : Command → Type 0
HasUnsignedRanges command.Frame = Unit {0}
HasUnsignedRanges (command.At t) = t ≤ greatest_time
HasUnsignedRanges (command.Set node field value) = node ≤ greatest_node
HasUnsignedRanges (command.Root json) = Unit {0}
HasUnsignedRanges (command.Resize w h) = Unit {0}
HasUnsignedRanges (command.Scroll node by) = node ≤ greatest_node
HasUnsignedRanges (command.Down pointer x y) = pointer ≤ greatest_pointer
HasUnsignedRanges (command.Move pointer x y) = pointer ≤ greatest_pointer
HasUnsignedRanges (command.Up pointer) = pointer ≤ greatest_pointer
HasUnsignedRanges (command.Cancel pointer) = pointer ≤ greatest_pointer
HasUnsignedRanges (command.Hit x y) = Unit {0}
HasUnsignedRanges command.Semantics = Unit {0}
HasUnsignedRanges (command.Act node action) = node ≤ greatest_node
HasUnsignedRanges (command.Delegate name field n) = Unit {0}
HasUnsignedRanges (command.Unplug name) = Unit {0}
HasUnsignedRanges command.States = Unit {0}

-- all numbers of a command lie in their ranges
abbrev pub IsInRange : Command → Type 0
IsInRange command = HasUnsignedRanges command × HasSignedRanges command
