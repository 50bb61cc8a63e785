-- Children of lazy lists, which are known by their index.
use Rattle.std.specs.Prelude.{Bool, true, false, Option, Some, None}
use Rattle.fx_handles.specs.declared.Handle.{Handle}
use Rattle.node_tree.specs.Tree.{Tree, parent_at}
use Rattle.widget_model.specs.Look.{Look, sliver_lazy}
use Rattle.widget_model.specs.Plain.{PlainWidget, look_of}
use Rattle.element_tree.specs.Element.{Element, element_at}

-- a kind is a SliverLazy
abbrev pub lists_lazily : Look → Bool
lists_lazily (sliver_lazy extent) = true
lists_lazily _ = false

abbrev pub is_lazy : PlainWidget → Bool
is_lazy w = lists_lazily (look_of w)

abbrev pub is_lazy_element : Option Element → Bool
is_lazy_element None = false
is_lazy_element (Some e) = is_lazy e.widget

abbrev pub is_lazy_at : Tree Element → Option Handle → Bool
is_lazy_at t None = false
is_lazy_at t (Some p) = is_lazy_element (element_at t p)

-- an element is the child of a SliverLazy
abbrev pub is_item : Tree Element → Handle → Bool
is_item t h = is_lazy_at t (parent_at t h)
