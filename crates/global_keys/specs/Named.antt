-- When a registry names exactly the elements of a tree that have a global key.
use Rattle.std.specs.Prelude.{◌≡◌, Option, Some, None, List}
use Rattle.fx_handles.specs.declared.Handle.{Handle}
use Rattle.fx_handles.specs.Handle.{Among}
use Rattle.fx_expr.specs.declared.values.Value.{Value}
use Rattle.widget_keys.specs.declared.keys.Key.{Key}
use Rattle.widget_keys.specs.declared.keys.Key.TheVariants as key
use Rattle.widget_model.specs.Plain.{key_of}
use Rattle.node_tree.specs.Tree.{Tree, IsNode}
use Rattle.element_tree.specs.Element.{Element, element_at}
use Rattle.global_keys.specs.Holders.{Registry, holder_of}

-- the value of a key that is global
abbrev pub global_in : Key Value → Option Value
global_in key.None = None
global_in (key.Local v) = None
global_in (key.Global v) = Some v

abbrev pub global_of : Option Element → Option Value
global_of None = None
global_of (Some e) = global_in (key_of e.widget)

-- the global key of the element at a handle
abbrev pub global_at : Tree Element → Handle → Option Value
global_at t h = global_of (element_at t h)

-- the registry names exactly the elements that have a global key
pub record NamesExactly (r : Registry) (t : Tree Element) : Type 0 where
  pub to_element : (k : Value) (h : Handle) → holder_of r k ≡ Some h → global_at t h ≡ Some k
  pub to_holder : (k : Value) (h : Handle) → global_at t h ≡ Some k → holder_of r k ≡ Some h

-- it names each of them, and else only elements that are no more
pub record NamesAll (r : Registry) (t : Tree Element) : Type 0 where
  pub to_element : (k : Value) (h : Handle) → holder_of r k ≡ Some h → IsNode t h → global_at t h ≡ Some k
  pub to_holder : (k : Value) (h : Handle) → global_at t h ≡ Some k → holder_of r k ≡ Some h

-- of these elements it names exactly those that have one
pub record NamesAmong (r : Registry) (t : Tree Element) (hs : List Handle) : Type 0 where
  pub to_element : (k : Value) (h : Handle) → holder_of r k ≡ Some h → Among h hs → global_at t h ≡ Some k
  pub to_holder : (k : Value) (h : Handle) → Among h hs → global_at t h ≡ Some k → holder_of r k ≡ Some h
