-- What is read of the nodes of a tree by their numbers.
use Rattle.std.specs.Prelude.{ℕ, Bool, false, ◌||◌, is_some, if◌then◌else◌, Option, Some, None, option_and_then, List, [], ◌∷◌, ◌++◌}
use Rattle.fx_handles.specs.declared.Handle.{Handle}
use Rattle.fx_handles.specs.Handle.{same}
use Rattle.node_tree.specs.Forest.{Forest}
use Rattle.node_tree.specs.Forest.Forest.{none, tree}
use Rattle.node_tree.specs.Tree.{Tree, subtree_at}
use Rattle.widget_model.specs.Plain.{PlainWidget, look_of, key_of}
use Rattle.plain_tree.specs.At.{numbers_of}
use Rattle.plain_tree.specs.Offsets.{of_window}
use Rattle.plain_tree.specs.PlainNode.{PlainNode, widget_of, scroll_of}
use Rattle.plain_tree.specs.Projection.{render_of}
use Rattle.plain_tree.specs.Render.{Renders, no_renders, renders_of}
use Rattle.plain_tree.specs.RenderRole.{render_role_of}
use Rattle.build_form.specs.BuildRole.{build_role_of, is_lazy}
use Rattle.element_tree.specs.Element.{Element, element_at}
use Rattle.global_keys.specs.Named.{global_in}
use Rattle.work_sets.specs.Due.{names_read}
use Rattle.session_form.specs.Handlers.{node_in}

-- how far the Viewport with a number is scrolled, if there is one
abbrev pub window_at : Option PlainNode → ℕ → Option ℕ
window_at old number = option_and_then (λ (n : PlainNode). of_window (render_role_of (look_of (widget_of n))) (scroll_of n)) (node_in old number)

-- the numbers of a tree in preorder, if there is one
abbrev pub numbers_there : Option PlainNode → List ℕ
numbers_there None = []
numbers_there (Some root) = numbers_of root

-- the render nodes of a tree, if there is one
abbrev pub drawn_of : Option PlainNode → Renders
drawn_of None = no_renders
drawn_of (Some root) = renders_of (render_of root)

-- the numbers of elements in preorder
abbrev pub element_numbers : Forest Element → List ℕ
element_numbers none = []
element_numbers (tree h e kids rest) = e.number ∷ (element_numbers kids ++ element_numbers rest)

-- whether one of some elements is a lazy list
abbrev pub lists_among : Forest Element → Bool
lists_among none = false
lists_among (tree h e kids rest) = is_lazy (build_role_of (look_of e.widget)) || (lists_among kids || lists_among rest)

-- the root of the build that left these elements, where it is kept: it is, unless a lazy list is among them, or none is there
abbrev pub root_to_keep : PlainWidget → Tree Element → Option PlainWidget
root_to_keep root t = option_and_then (λ top. if lists_among (subtree_at t top) then None else Some root) t.root

-- whether a widget of one of some elements has a global key
abbrev pub globals_among : Forest Element → Bool
globals_among none = false
globals_among (tree h e kids rest) = is_some (global_in (key_of e.widget)) || (globals_among kids || globals_among rest)

-- whether one of the elements of a root has
abbrev pub globals_below : Tree Element → Option Handle → Bool
globals_below t None = false
globals_below t (Some top) = globals_among (subtree_at t top)

-- a component is marked where that of an element is, if one is: then it alone is, if it is the same, or none was
abbrev pub is_component : Option Element → Bool
is_component None = false
is_component (Some e) = is_some (names_read (look_of e.widget))

abbrev pub is_alone : Tree Element → Option Handle → Handle → Bool
is_alone t None h = is_component (element_at t h)
is_alone t (Some k) h = same k h
