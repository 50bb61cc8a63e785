-- Which tree a `FrameOwner` stands for.
use Rattle.std.specs.Prelude.{◌≡◌, ℕ, Bool, true, false, Option, Some, None, IfSome, option_map, List}
use Rattle.fx_geom.specs.declared.shapes.Size.{Size}
use Rattle.fx_handles.specs.declared.Handle.{Handle}
use Rattle.delegates.specs.Table.{Plug}
use Rattle.node_tree.specs.Tree.{Tree}
use Rattle.plain_tree.specs.PlainNode.{PlainNode}
use Rattle.program_check.specs.Checked.{PlainChecked}
use Rattle.widget_model.specs.Plain.{PlainWidget}
use Rattle.screen_form.specs.Painted.{layer_of}
use Rattle.layout_form.specs.Layout.{lay_view}
use Rattle.layout_form.specs.Object.{setting_of}
use Rattle.layout_owner.specs.Roots.{top_render}
use Rattle.build_form.specs.Program.{blueprint_of}
use Rattle.element_tree.specs.Element.{Element, element_at}
use Rattle.settled_builds.specs.Places.{HasNoGlobals}
use Rattle.settled_builds.specs.Settled.{IsSettledFor}
use Rattle.settled_builds.specs.Taken.{IsMarkedFor}
use Rattle.build_owner.specs.Standing.{StandsFor as TreesStandFor}
use Rattle.render_tree.specs.Plain.{renders_of, root_tree}
use Rattle.kept_layouts.specs.Items.{AllListsUnasked}
use Rattle.screen_owner.specs.Screen.{KeptScreen, shown_in, layer_in, IsRight}
use Rattle.frame_owner.specs.Frame.{KeptFrame}

-- a tree is there which is settled for a root, where some numbers are marked
abbrev pub IsSettledIn : PlainChecked → List ℕ → Option PlainNode → PlainWidget → Type 0
IsSettledIn c marks None root = ⊥
IsSettledIn c marks (Some tree) root = IsSettledFor (blueprint_of c) marks root tree

-- no component is marked, and a tree is settled for a root; or the one whose element is at a handle is, and alone to be built
abbrev pub IsSettledAs : PlainChecked → List ℕ → Tree Element → Option Handle → PlainWidget → PlainNode → Type 0
IsSettledAs c marks t None root tree = IsSettledFor (blueprint_of c) marks root tree
IsSettledAs c marks t (Some h) root tree = (e : Element) × (element_at t h ≡ Some e) × IsMarkedFor (blueprint_of c) marks e.number root tree

-- so it is; and where that is known no widget of the tree has a global key
pub record IsSettledBut (c : PlainChecked) (marks : List ℕ) (t : Tree Element) (keyless : Bool) (marked : Option Handle) (root : PlainWidget) (tree : PlainNode) : Type 0 where
  pub settled : IsSettledAs c marks t marked root tree
  pub globals : keyless ≡ true → HasNoGlobals tree

abbrev pub IsKnownIn : PlainChecked → List ℕ → Option PlainNode → Tree Element → Bool → Option Handle → PlainWidget → Type 0
IsKnownIn c marks None t keyless marked root = ⊥
IsKnownIn c marks (Some tree) t keyless marked root = IsSettledBut c marks t keyless marked root tree

-- what is shown is full layout and full painting of the render nodes as they stand, in a view of this size, where the delegates mean this
abbrev pub ShowsStill : List Plug → KeptScreen → Size → Type 0
ShowsStill delegates x view =
    (shown_in x ≡ option_map (λ r. lay_view (setting_of x.scale delegates) r view) (top_render (renders_of (root_tree x.nodes))))
    × (layer_in x ≡ option_map (layer_of x.scale.cell delegates) (shown_in x))

-- elements, render nodes and the registry of global keys stand for a plain tree, or for none, of which some numbers are marked: its
-- numbers, widgets, fields, offsets. The layouts and layers that are kept are right, where the delegates mean this, and the tree is settled
-- for the root of which that is kept, but for the component that is marked, if one is. And it is shown in the view of which that is kept
pub record FrameStandsFor (c : PlainChecked) (delegates : List Plug) (marks : List ℕ) (tree : Option PlainNode) (x : KeptFrame) : Type 0 where
  pub scrolled : ℕ → ℕ
  pub trees : TreesStandFor c marks tree scrolled x.elements x.screen.nodes x.keys
  pub right : IsRight delegates x.screen
  -- no lazy list is asked how much it would like: it stands in a Viewport
  pub unasked : AllListsUnasked false (renders_of (root_tree x.screen.nodes))
  pub settled : IfSome x.settled (IsKnownIn c marks tree x.elements x.keyless x.marked)
  pub still : IfSome x.still (ShowsStill delegates x.screen)
