-- What the second phase asks of nodes and widgets.
use Rattle.std.specs.Prelude.{◌≡◌, Some, List, slice_get}
use Rattle.fx_expr.specs.declared.values.Ty.{Ty}
use Rattle.fx_expr.specs.Value.{type_of}
use Rattle.widget_model.specs.Typed.{Declarations, box, AllAre}
use Rattle.plain_tree.specs.PlainNode.{PlainNode}
use Rattle.build_form.specs.BuildRole.{BuildRole, composes, provides, keeps, lists, holds}
use Rattle.build_form.specs.WellBuilt.{sorts_in}

-- each node of a list is a box
abbrev pub AreBoxes : Declarations → List PlainNode → Type 0
AreBoxes d ns = AllAre box (sorts_in d ns)

-- the value that a widget gives to an inherited name is of the name's type
abbrev pub FitsNames : List Ty → BuildRole → Type 0
FitsNames types (composes place props) = Unit {0}
FitsNames types (provides name value) = slice_get types name ≡ Some (type_of value)
FitsNames types (keeps kept) = Unit {0}
FitsNames types (lists extent) = Unit {0}
FitsNames types holds = Unit {0}
