-- The widgets that stand right in a widget, as one list.
use Rattle.std.specs.Prelude.{◌≡◌, ◌≢◌, ℕ, ◌<◌, List, ◌++◌, length, get_or}
use Rattle.widget_model.specs.declared.widgets.Widget.{Widget}
use Rattle.widget_model.specs.Plain.{PlainWidget}
use Rattle.widget_model.specs.View.{look_in, slots_in}

-- the contents of its slots, then its children
abbrev pub parts_in : Widget → List PlainWidget
parts_in w = slots_in w.kind ++ w.children

-- two widgets are the same in all but their parts, of which they have as many in slots and as children
pub record IsSameHead (a b : Widget) : Type 0 where
  pub key : a.key ≡ b.key
  pub look : look_in a.kind ≡ look_in b.kind
  pub slots : length (slots_in a.kind) ≡ length (slots_in b.kind)
  pub children : length a.children ≡ length b.children

-- two lists agree at each place of the first but one
abbrev pub AgreeBut : ℕ → List PlainWidget → List PlainWidget → Type 0
AgreeBut place vs ws = (i : ℕ) (d : PlainWidget) → i < length vs → i ≢ place → get_or vs i d ≡ get_or ws i d
