-- The states of a tree: the fields of components, and the offsets of Viewports.
use Rattle.std.specs.Prelude.{ℕ, List, [], ◌∷◌, ◌++◌}
use Rattle.std.specs.Borrow.{Bor}
use Rattle.fx_expr.specs.declared.values.Value.{Value}
use Rattle.widget_model.specs.declared.decl.Decl.{Decl}
use Rattle.widget_model.specs.Look.{Look, sized_box, constrained_box, padding, align, colored_box, text, row, column, wrap, table, stack, flexible, positioned, opacity, clip_rect, repaint_boundary, merge_semantics, intrinsic_width, intrinsic_height, offstage, ignore_pointer, absorb_pointer, detector, semantics, exclude_semantics, custom_paint, custom_layout, viewport, sliver_to_box, sliver_padding, sliver_fixed, sliver_lazy, keep, inherit, component}
use Rattle.widget_model.specs.Plain.{look_of}
use Rattle.plain_tree.specs.PlainNode.{PlainNode, node, PlainNodes, no_nodes, more_nodes}

-- the nodes of a tree in preorder
abbrev mutual
  pub preorder_of : PlainNode → List PlainNode
  preorder_of (node number widget fields scroll index children) = node number widget fields scroll index children ∷ preorder_in children

  pub preorder_in : PlainNodes → List PlainNode
  preorder_in no_nodes = []
  preorder_in (more_nodes n ns) = preorder_of n ++ preorder_in ns

-- a state: a component's number, what it declares and the values of its fields, or a Viewport's number and offset
pub data State : Type 0 where
  holding : ℕ → Decl → List Value → State
  scrolled : ℕ → ℕ → State

-- a component has a state where it has fields
abbrev pub declared_state : ℕ → Decl → List Value → List State
declared_state number declaration [] = []
declared_state number declaration (v ∷ vs) = holding number declaration (v ∷ vs) ∷ []

-- the state of a node of a kind, if it has one
abbrev pub state_of : Look → ℕ → List Value → ℕ → List State
state_of (sized_box width height) number fields scroll = []
state_of (constrained_box min_width max_width min_height max_height) number fields scroll = []
state_of (padding left top right bottom) number fields scroll = []
state_of (align ax ay) number fields scroll = []
state_of (colored_box color) number fields scroll = []
state_of (text words color) number fields scroll = []
state_of (row main cross size) number fields scroll = []
state_of (column main cross size) number fields scroll = []
state_of (wrap spacing run_spacing) number fields scroll = []
state_of (table widths) number fields scroll = []
state_of (stack ax ay fit) number fields scroll = []
state_of (flexible flex fit) number fields scroll = []
state_of (positioned left top right bottom width height) number fields scroll = []
state_of (opacity alpha) number fields scroll = []
state_of clip_rect number fields scroll = []
state_of repaint_boundary number fields scroll = []
state_of merge_semantics number fields scroll = []
state_of intrinsic_width number fields scroll = []
state_of intrinsic_height number fields scroll = []
state_of (offstage hidden) number fields scroll = []
state_of (ignore_pointer ignoring) number fields scroll = []
state_of (absorb_pointer absorbing) number fields scroll = []
state_of (detector behavior tap long vertical horizontal pan) number fields scroll = []
state_of (semantics label button container) number fields scroll = []
state_of (exclude_semantics excluding) number fields scroll = []
state_of (custom_paint delegate) number fields scroll = []
state_of (custom_layout delegate) number fields scroll = []
state_of (viewport axis) number fields scroll = scrolled number scroll ∷ []
state_of sliver_to_box number fields scroll = []
state_of (sliver_padding left top right bottom) number fields scroll = []
state_of (sliver_fixed extent) number fields scroll = []
state_of (sliver_lazy extent) number fields scroll = []
state_of (keep kept) number fields scroll = []
state_of (inherit name value) number fields scroll = []
state_of (component place props declaration) number fields scroll = declared_state number declaration fields

abbrev pub own_state : PlainNode → List State
own_state (node number widget fields scroll index children) = state_of (look_of widget) number fields scroll

-- the states of nodes, and of a tree in preorder
abbrev pub states_in : List PlainNode → List State
states_in [] = []
states_in (n ∷ ns) = own_state n ++ states_in ns

abbrev pub states_of : PlainNode → List State
states_of root = states_in (preorder_of root)

-- a node that is lent
abbrev pub seen : Bor PlainNode → PlainNode
seen n = n.now
