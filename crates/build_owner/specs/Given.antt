-- What is given as the child widgets of a widget, and what its element stores of it.
use Rattle.std.specs.Prelude.{◌≡◌, Option, List, [], ◌∷◌, map}
use Rattle.std.specs.Option.{option_to_list}
use Rattle.widget_model.specs.Plain.{PlainWidget}
use Rattle.widget_model.specs.Plain.{children_of as child_widgets}
use Rattle.widget_model.specs.View.{shared}
use Rattle.build_form.specs.BuildRole.{BuildRole, composes, provides, keeps, lists, holds}
use Rattle.build_owner.specs.declared.giving.GivenWidgets.{GivenWidgets}
use Rattle.build_owner.specs.declared.giving.GivenWidgets.TheVariants as given

-- an element stores the output of a component, and nothing is asked of another kind
abbrev pub Stores : BuildRole → Option PlainWidget → List PlainWidget → Type 0
Stores (composes place props) output given = option_to_list output ≡ given
Stores (provides name value) output given = Unit {0}
Stores (keeps kept) output given = Unit {0}
Stores (lists extent) output given = Unit {0}
Stores holds output given = Unit {0}

-- the child widgets that are given to an element with such a widget
abbrev pub given_to : PlainWidget → GivenWidgets → List PlainWidget
given_to w given.Own = child_widgets w
given_to w (given.One output) = shared output ∷ []
given_to w (given.Others ws) = map shared ws.items
