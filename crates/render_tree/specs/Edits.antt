-- What one call changes.
use Rattle.std.specs.Prelude.{◌≡◌, ℕ, Bool, true, false, List, [], ◌∷◌, ◌++◌, Option, Some, None}
use Rattle.fx_handles.specs.declared.Handle.{Handle}
use Rattle.fx_geom.specs.declared.shapes.Offset.{Offset}
use Rattle.node_tree.specs.Forest.{Forest, append, paste, without, tree_of, reorder_under, set_value, others_than}
use Rattle.node_tree.specs.Forest.Forest.{none, tree}
use Rattle.node_tree.specs.Tree.{Tree, Is, parent_at}
use Rattle.node_tree.specs.Edits.{Adds, Hooks, Lifts, Reorders, WritesValue, root_with, root_lifted}
use Rattle.sliver_layout.specs.declared.protocol.Window.{Window}
use Rattle.widget_model.specs.Plain.{PlainWidget}
use Rattle.plain_tree.specs.declared.render.ParentData.{ParentData}
use Rattle.plain_tree.specs.declared.laid.Frame.{Frame}
use Rattle.plain_tree.specs.declared.laid.Notes.{Notes}
use Rattle.render_tree.specs.Object.{RenderObject}
use Rattle.render_tree.specs.Tree.{object_at}

-- a live handle's node becomes this one, and nothing else changes
pub record Writes (old new : Tree RenderObject) (h : Handle) (o : RenderObject) : Type 0 where
  pub writes : WritesValue old.nodes new.nodes h o
  pub root : new.root ≡ old.root
  pub inactive : new.inactive ≡ old.inactive
  pub plain : (f : Forest RenderObject) → Is old f → Is new (set_value h o f)

-- a handle's node is changed, and nothing else; where the handle isn't live nothing changes
pub record Changes (old new : Tree RenderObject) (h : Handle) (change : RenderObject → RenderObject) : Type 0 where
  pub live : (o : RenderObject) → object_at old h ≡ Some o → Writes old new h (change o)
  pub dead : object_at old h ≡ None → new ≡ old

-- a new node is put below a parent as child number i, or becomes the root
pub record Inserted (old new : Tree RenderObject) (parent : Option Handle) (at : ℕ) (h : Handle) (o : RenderObject) : Type 0 where
  pub adds : Adds old.nodes new.nodes parent at h o
  pub root : new.root ≡ root_with parent h old.root
  pub inactive : new.inactive ≡ old.inactive
  pub plain : (f : Forest RenderObject) → Is old f → Is new (paste parent at (tree h o none none) f)

-- a new node is the last of the inactive tops
pub record InsertedLoose (old new : Tree RenderObject) (h : Handle) (o : RenderObject) : Type 0 where
  pub adds : Adds old.nodes new.nodes None 0 h o
  pub root : new.root ≡ old.root
  pub inactive : new.inactive ≡ old.inactive ++ h ∷ []
  pub plain : (f : Forest RenderObject) → Is old f → Is new (append f (tree h o none none))

-- a node with all that is below it becomes child number i of a parent
pub record Moved (old new : Tree RenderObject) (h parent : Handle) (at : ℕ) : Type 0 where
  pub hooks : Hooks old.nodes new.nodes h (Some parent) at
  pub root : new.root ≡ old.root
  pub inactive : new.inactive ≡ old.inactive
  pub plain : (f : Forest RenderObject) → Is old f → Is new (paste (Some parent) at (tree_of h f) (without h f))

-- the children of a node stand in this order
pub record Reordered (old new : Tree RenderObject) (h : Handle) (children : List Handle) : Type 0 where
  pub reorders : Reorders old.nodes new.nodes h children
  pub root : new.root ≡ old.root
  pub inactive : new.inactive ≡ old.inactive
  pub plain : (f : Forest RenderObject) → Is old f → Is new (reorder_under h children f)

-- a node with all that is below it becomes the last of the inactive subtrees
pub record Detached (old new : Tree RenderObject) (h : Handle) : Type 0 where
  pub lifts : Lifts old.nodes new.nodes h None
  pub root : new.root ≡ root_lifted (parent_at old h) old.root
  pub inactive : new.inactive ≡ old.inactive ++ h ∷ []
  pub plain : (f : Forest RenderObject) → Is old f → Is new (append (without h f) (tree_of h f))

-- an inactive subtree becomes child number i of a parent, or the root's tree
pub record Attached (old new : Tree RenderObject) (h : Handle) (parent : Option Handle) (at : ℕ) : Type 0 where
  pub hooks : Hooks old.nodes new.nodes h parent at
  pub root : new.root ≡ root_with parent h old.root
  pub inactive : new.inactive ≡ others_than h old.inactive
  pub plain : (f : Forest RenderObject) → Is old f → Is new (paste parent at (tree_of h f) (without h f))

abbrev pub no_parent_data : ParentData
no_parent_data = record { flex = 0; tight = false; placed = None; index = 0 }

abbrev pub no_notes : Notes
no_notes = record { overflow = 0; unbounded = false }

-- a node that was inserted just now: it has everything to be done
abbrev pub new_object : ℕ → PlainWidget → RenderObject
new_object number w = record {
  number = number;
  widget = w;
  parent_data = no_parent_data;
  scroll = 0;
  frame = None;
  notes = no_notes;
  plugged = false;
  scrolled = 0;
  offset = None;
  shown = false;
  live = None;
  needs_layout = true;
  layout_below = true;
  needs_paint = true;
  paint_below = true;
}

-- a node with another part
abbrev pub with_widget : PlainWidget → RenderObject → RenderObject
with_widget w o = record o { widget = w }

abbrev pub with_parent_data : ParentData → RenderObject → RenderObject
with_parent_data d o = record o { parent_data = d }

-- what a node is told, where nothing is said of it
abbrev pub data_or_none : Option ParentData → ParentData
data_or_none None = no_parent_data
data_or_none (Some d) = d

-- a node that was mounted just now
abbrev pub mounted_object : ℕ → PlainWidget → Option ParentData → RenderObject
mounted_object number w told = with_parent_data (data_or_none told) (new_object number w)

abbrev pub with_scroll : ℕ → RenderObject → RenderObject
with_scroll s o = record o { scroll = s }

abbrev pub with_frame : Frame → RenderObject → RenderObject
with_frame f o = record o { frame = Some f }

abbrev pub with_notes : Notes → RenderObject → RenderObject
with_notes n o = record o { notes = n }

abbrev pub with_plugged : Bool → RenderObject → RenderObject
with_plugged on o = record o { plugged = on }

abbrev pub with_scrolled : ℕ → RenderObject → RenderObject
with_scrolled s o = record o { scrolled = s }

abbrev pub with_offset : Offset → RenderObject → RenderObject
with_offset at o = record o { offset = Some at }

abbrev pub with_shown : Bool → RenderObject → RenderObject
with_shown on o = record o { shown = on }

abbrev pub with_live : Option Window → RenderObject → RenderObject
with_live range o = record o { live = range }

-- without one of its marks
abbrev pub laid_out : RenderObject → RenderObject
laid_out o = record o { needs_layout = false }

abbrev pub laid_out_below : RenderObject → RenderObject
laid_out_below o = record o { layout_below = false }

abbrev pub painted_now : RenderObject → RenderObject
painted_now o = record o { needs_paint = false }

abbrev pub painted_below : RenderObject → RenderObject
painted_below o = record o { paint_below = false }
