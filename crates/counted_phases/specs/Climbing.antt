-- How marks for painting climb in an arena, and which nodes of it are flagged by them.
use Rattle.std.specs.Prelude.{◌≡◌, ◌⊎◌, ℕ, zero, suc, Bool, true, false, Option, Some, None, List}
use Rattle.fx_handles.specs.declared.Handle.{Handle}
use Rattle.fx_handles.specs.Handle.{Among}
use Rattle.node_tree.specs.Tree.{Tree, children_at}
use Rattle.tree_marks.specs.Marks.{listed}
use Rattle.kept_layers.specs.Group.{is_boundary}
use Rattle.render_tree.specs.Object.{RenderObject}
use Rattle.render_tree.specs.Tree.{object_at}

-- a node that is no RepaintBoundary
pub record IsPlainNode (t : Tree RenderObject) (c : Handle) : Type 0 where
  pub object : RenderObject
  pub is : object_at t c ≡ Some object
  pub plain : is_boundary object ≡ false

-- a mark of a listed node climbs so many levels, up to this node
abbrev pub Climbs : Tree RenderObject → List Handle → ℕ → Handle → Type 0
Climbs t hs zero k = listed k hs ≡ true
Climbs t hs (suc n) k = (c : Handle) × Among c (children_at t k) × IsPlainNode t c × Climbs t hs n c

-- a node that is to be painted as it was before anything was marked: it was flagged, or it wasn't there
abbrev pub flagged_before : Option RenderObject → Bool
flagged_before None = true
flagged_before (Some o) = o.needs_paint

-- each flag of a tree was there before, or a mark of a listed node climbs to it
abbrev pub AreMarkedBy : Tree RenderObject → Tree RenderObject → List Handle → Type 0
AreMarkedBy old t hs = (k : Handle) (w : RenderObject) → object_at t k ≡ Some w → w.needs_paint ≡ true → (flagged_before (object_at old k) ≡ true) ⊎ ((n : ℕ) × Climbs t hs n k)
