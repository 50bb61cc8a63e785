-- What one call changes.
use Rattle.std.specs.Prelude.{◌≡◌, Bool, true, Option, Some, None, ℕ, List}
use Rattle.fx_handles.specs.declared.Handle.{Handle}
use Rattle.node_tree.specs.Forest.{Forest, set_value}
use Rattle.node_tree.specs.Tree.{Tree, Is}
use Rattle.node_tree.specs.Edits.{WritesValue}
use Rattle.fx_expr.specs.declared.values.Value.{Value}
use Rattle.widget_model.specs.Plain.{PlainWidget}
use Rattle.element_tree.specs.Element.{Element, element_at}

-- a live handle's element becomes this one, and nothing else changes
pub record Writes (old new : Tree Element) (h : Handle) (e : Element) : Type 0 where
  pub writes : WritesValue old.nodes new.nodes h e
  pub root : new.root ≡ old.root
  pub inactive : new.inactive ≡ old.inactive
  pub plain : (f : Forest Element) → Is old f → Is new (set_value h e f)

-- a handle's element is changed, and nothing else; where the handle isn't live nothing changes
pub record Changes (old new : Tree Element) (h : Handle) (change : Element → Element) : Type 0 where
  pub live : (e : Element) → element_at old h ≡ Some e → Writes old new h (change e)
  pub dead : element_at old h ≡ None → new ≡ old

-- an element that was made just now
abbrev pub new_element : ℕ → PlainWidget → List Value → Element
new_element number w fields = record {
  number = number;
  widget = w;
  fields = fields;
  index = 0;
  dirty = true;
  output = None;
  render = None;
}

-- an element with another part
abbrev pub with_widget : PlainWidget → Element → Element
with_widget w e = record e { widget = w }

abbrev pub with_render : Option Handle → Element → Element
with_render r e = record e { render = r }

abbrev pub with_flag : Bool → Element → Element
with_flag dirty e = record e { dirty = dirty }

abbrev pub with_output : PlainWidget → Element → Element
with_output w e = record e { output = Some w }

abbrev pub with_index : ℕ → Element → Element
with_index i e = record e { index = i }
