-- A frame whose build goes in two phases, as far as painting goes.
use Rattle.std.specs.Prelude.{◌≡◌, ◌⊎◌, true, false, Some, List}
use Rattle.fx_handles.specs.declared.Handle.{Handle}
use Rattle.fx_handles.specs.Handle.{Among}
use Rattle.node_tree.specs.Forest.{Forest}
use Rattle.node_tree.specs.Forest.Forest.{none, tree}
use Rattle.node_tree.specs.Tree.{Tree, IsTree, children_at}
use Rattle.tree_marks.specs.Marks.{has_listed}
use Rattle.kept_layers.specs.Group.{is_boundary}
use Rattle.layout_rules.specs.Painting.{KeepsRest}
use Rattle.layout_rules.specs.Reads.{state_at}
use Rattle.render_tree.specs.Marked.{SetsMarks}
use Rattle.render_tree.specs.Marks.{paint_marks}
use Rattle.render_tree.specs.Object.{RenderObject, object_look}
use Rattle.render_tree.specs.Plain.{root_tree}
use Rattle.render_tree.specs.Tree.{object_at}
use Rattle.render_sync.specs.Numbering.{NumbersDiffer}
use Rattle.kept_phases.specs.Parts.{RedrawsPart}
use Rattle.kept_phases.specs.Redraws.{Redraws}
use Rattle.counted_work.specs.Shows.{LookOtherwise}
use Rattle.counted_phases.specs.Seen.{SeenSame}

-- a value is this one or that one
abbrev pub IsEither : {A : Type 0} → A → A → A → Type 0
IsEither x a b = (x ≡ a) ⊎ (x ≡ b)

-- of a node with the children that it had in the last frame, and of these, an outer layout leaves, part by part, what was there before it, or what
-- the frame ends with
pub record EndsAlike (old mid ranged laid : Tree RenderObject) : Type 0 where
  pub own : (k : Handle) (o w : RenderObject) → object_at old k ≡ Some o → object_at laid k ≡ Some w → children_at old k ≡ children_at laid k
      → IsEither (state_at ranged k).frame (state_at mid k).frame (state_at laid k).frame × IsEither (state_at ranged k).plugged (state_at mid k).plugged (state_at laid k).plugged
  pub places : (k : Handle) (o w : RenderObject) → object_at old k ≡ Some o → object_at laid k ≡ Some w → children_at old k ≡ children_at laid k → (c : Handle) → Among c (children_at laid k)
      → IsEither (state_at ranged c).offset (state_at mid c).offset (state_at laid c).offset × IsEither (state_at ranged c).shown (state_at mid c).shown (state_at laid c).shown

-- a node that has now the kind that it had in the last frame had it between the phases, and so it is of its children; and the root was the root
pub record StaysBetween (old mid laid : Tree RenderObject) : Type 0 where
  pub looks : (k : Handle) (o m w : RenderObject) → object_at old k ≡ Some o → object_at mid k ≡ Some m → object_at laid k ≡ Some w → object_look o ≡ object_look w → object_look m ≡ object_look o
  pub lists : (k : Handle) (o w : RenderObject) → object_at old k ≡ Some o → object_at laid k ≡ Some w → children_at old k ≡ children_at laid k → children_at mid k ≡ children_at old k
  pub root : mid.root ≡ laid.root

-- nodes out of the window stand where they stood before an outer layout, and of them and those below them it changed none of these
abbrev pub AreStill : Tree RenderObject → Tree RenderObject → List Handle → Forest RenderObject → Type 0
AreStill mid ranged hs none = Unit {0}
AreStill mid ranged hs (tree k w under rest) =
    (w.shown ≡ true → AreStill mid ranged hs under)
    × (w.shown ≡ false → ((state_at ranged k).offset ≡ (state_at mid k).offset) × (has_listed hs (tree k w under none) ≡ false))
    × AreStill mid ranged hs rest

-- no node that stood below another becomes a RepaintBoundary that was none, or the other way round
abbrev pub KeepsBelow : Tree RenderObject → Tree RenderObject → Type 0
KeepsBelow old new = (k c : Handle) (o v : RenderObject) → Among c (children_at old k) → object_at old c ≡ Some o → object_at new c ≡ Some v → is_boundary v ≡ is_boundary o

-- The first phase is brought, and its lists are laid out; what looks otherwise then is marked for painting, and nothing that painting sees is
-- changed until the second phase is brought. Then all is laid out.
pub record BuiltInPhases (old brought laid : Tree RenderObject) : Type 0 where
  pub mid : Tree RenderObject
  pub first : RedrawsPart old mid
  pub run : Tree RenderObject
  pub keeps : KeepsRest mid run
  pub changed : List Handle
  pub otherwise : LookOtherwise mid run changed
  pub marked : Tree RenderObject
  pub marks : SetsMarks paint_marks true changed run marked
  pub ranged : Tree RenderObject
  pub is_tree : IsTree ranged
  pub same : SeenSame marked ranged
  pub root : ranged.root ≡ mid.root
  pub second : Redraws ranged brought
  pub apart : NumbersDiffer second.made
  pub kinds : KeepsBelow ranged second.committed
  pub ends : EndsAlike old mid ranged laid
  pub between : StaysBetween old mid laid
  pub still : AreStill mid ranged changed (root_tree laid)
