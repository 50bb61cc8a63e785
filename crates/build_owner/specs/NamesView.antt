-- The values of inherited names, as the program keeps them.
use Rattle.std.specs.Prelude.{Bool, true, false, Option, Some, None, List, Vec, Box, slice_set}
use Rattle.std.specs.declared.alloc.Global.{Global}
use Rattle.fx_expr.specs.declared.values.Value.{Value}
use Rattle.fx_handles.specs.declared.Handle.{Handle}
use Rattle.node_tree.specs.Tree.{Tree}
use Rattle.widget_model.specs.Plain.{PlainWidget, look_of}
use Rattle.build_form.specs.BuildRole.{BuildRole, composes, provides, keeps, lists, holds, build_role_of}
use Rattle.build_form.specs.Entering.{values_below}
use Rattle.element_tree.specs.Element.{Element}
use Rattle.build_owner.specs.ArrivalView.{widget_at}
use Rattle.build_owner.specs.declared.names.Outer.{Outer}
use Rattle.build_owner.specs.declared.names.Outers.{Outers}

-- with the value that a name had
abbrev pub with_outer : Option Outer → List Value → List Value
with_outer None values = values
with_outer (Some o) values = slice_set values o.name o.value

-- the value that a name had around a widget, now and in the last frame, where anything was changed there
abbrev pub outer_now : Option (Box Outers Global) → Option Outer
outer_now None = None
outer_now (Some outers) = outers.value.now

abbrev pub outer_was : Option (Box Outers Global) → Option Outer
outer_was None = None
outer_was (Some outers) = outers.value.was

-- whether a widget gives a name a value
abbrev pub provides_value : BuildRole → Bool
provides_value (composes place props) = false
provides_value (provides name value) = true
provides_value (keeps kept) = false
provides_value (lists extent) = false
provides_value holds = false

-- whether an old one did, if there is one
abbrev pub provided_value : Option PlainWidget → Bool
provided_value None = false
provided_value (Some w) = provides_value (build_role_of (look_of w))

-- the values that names had around an element in the last frame, where they are others than these
abbrev pub was_around : Option (Vec Value Global) → List Value → List Value
was_around None was = was
was_around (Some around) was = around.items

-- the values that names had below an old element, if there is one, where they had these around it
abbrev pub values_after : Option PlainWidget → List Value → List Value
values_after None values = values
values_after (Some w) values = values_below w values

abbrev pub widget_had : Tree Element → Option Handle → Option PlainWidget
widget_had t None = None
widget_had t (Some h) = widget_at t h

abbrev pub values_had : Tree Element → Option Handle → List Value → List Value
values_had t partner values = values_after (widget_had t partner) values
