-- Widgets as plain nested values, without the memory that they stand in: what a widget is, its key, the contents of its
-- slots where it is a use of a component, and its children, in order.
use Rattle.std.specs.Prelude.{List, [], ◌∷◌}
use Rattle.fx_expr.specs.declared.values.Value.{Value}
use Rattle.widget_keys.specs.declared.keys.Key.{Key}
use Rattle.widget_model.specs.Look.{Look}

mutual
  pub data PlainWidget : Type 0 where
    plain : Look → Key Value → Widgets → Widgets → PlainWidget

  pub data Widgets : Type 0 where
    no_widgets : Widgets
    more : PlainWidget → Widgets → Widgets

-- the widgets of a list, one after another
abbrev pub widgets_of : List PlainWidget → Widgets
widgets_of [] = no_widgets
widgets_of (w ∷ ws) = more w (widgets_of ws)

abbrev pub list_of : Widgets → List PlainWidget
list_of no_widgets = []
list_of (more w ws) = w ∷ list_of ws

abbrev pub look_of : PlainWidget → Look
look_of (plain l k slots children) = l

abbrev pub key_of : PlainWidget → Key Value
key_of (plain l k slots children) = k

abbrev pub slots_of : PlainWidget → List PlainWidget
slots_of (plain l k slots children) = list_of slots

abbrev pub children_of : PlainWidget → List PlainWidget
children_of (plain l k slots children) = list_of children
