-- What of a render node a plan leaves as it was, for layout and for painting, handle by handle.
use Rattle.std.specs.Prelude.{◌≡◌, ◌⊎◌, ◌&&◌, ℕ, Bool, false, List, Option, Some, option_map}
use Rattle.fx_handles.specs.declared.Handle.{Handle}
use Rattle.node_tree.specs.Forest.{Forest, tops}
use Rattle.node_tree.specs.Forest.Forest.{none, tree}
use Rattle.node_tree.specs.Tree.{Tree, children_at}
use Rattle.plain_tree.specs.Render.{Render, render}
use Rattle.tree_marks.specs.Marks.{listed}
use Rattle.work_roles.specs.WorkRole.{is_offstage, is_viewport}
use Rattle.render_tree.specs.Marks.{layout_own, has_say}
use Rattle.render_tree.specs.Object.{RenderObject, bounds_in, object_look}
use Rattle.render_tree.specs.Plain.{lazy_children, renders_of}
use Rattle.render_tree.specs.Tree.{object_at}

-- the plain render node that one is with these below it
abbrev pub render_over : RenderObject → Forest RenderObject → Render
render_over o below = render o.number (object_look o) o.parent_data o.scroll (lazy_children o) (renders_of below)

-- each of these nodes has the number that its handle stands for
abbrev pub AreNumbered : (Handle → Option ℕ) → Forest RenderObject → Type 0
AreNumbered numbered none = Unit {0}
AreNumbered numbered (tree h o kids rest) = (numbered h ≡ Some o.number) × AreNumbered numbered rest

-- no number stands for two handles
abbrev pub TellsApart : (Handle → Option ℕ) → Type 0
TellsApart numbered = (h k : Handle) (n : ℕ) → numbered h ≡ Some n → numbered k ≡ Some n → h ≡ k

-- as many nodes, and their parent takes the same from the widgets between them
abbrev pub AreToldSame : Forest RenderObject → Forest RenderObject → Type 0
AreToldSame none none = Unit {0}
AreToldSame none (tree k w below rest) = ⊥
AreToldSame (tree h v kids more) none = ⊥
AreToldSame (tree h v kids more) (tree k w below rest) = (v.parent_data ≡ w.parent_data) × AreToldSame more rest

-- a layout reads the same of a node and of what is right below it
pub record KeepsForLayout (o : RenderObject) (was : Forest RenderObject) (w : RenderObject) (now : Forest RenderObject) : Type 0 where
  pub own : layout_own w ≡ layout_own o
  pub list : tops now ≡ tops was
  pub told : AreToldSame was now

-- it has the members, the callbacks and the children that it had
pub record KeepsForPaint (o : RenderObject) (was : Forest RenderObject) (w : RenderObject) (now : Forest RenderObject) : Type 0 where
  pub look : object_look w ≡ object_look o
  pub list : tops now ≡ tops was

-- ---- a whole plan

-- each of these nodes is stored at its handle
abbrev pub AreStored : Tree RenderObject → Forest RenderObject → Type 0
AreStored t none = Unit {0}
AreStored t (tree h o kids rest) = (object_at t h ≡ Some o) × AreStored t rest

-- these nodes stood right below a node
pub record StoodBelow (t : Tree RenderObject) (h : Handle) (was : Forest RenderObject) : Type 0 where
  pub list : tops was ≡ children_at t h
  pub stored : AreStored t was

-- the size of each of these nodes follows from its bounds as before, where that has a say: it is a Viewport, and an Offstage that hides
-- its child, as it was. The Boolean says whether the node above was such an Offstage
abbrev pub AreSizedSame : Bool → Forest RenderObject → Forest RenderObject → Type 0
AreSizedSame hidden none none = Unit {0}
AreSizedSame hidden none (tree k w below rest) = ⊥
AreSizedSame hidden (tree h v kids more) none = ⊥
AreSizedSame hidden (tree h v kids more) (tree k w below rest) =
    ((has_say hidden (bounds_in v.frame) && is_viewport (object_look w)) ≡ (has_say hidden (bounds_in v.frame) && is_viewport (object_look v)))
    × ((has_say hidden (bounds_in v.frame) && is_offstage (object_look w)) ≡ (has_say hidden (bounds_in v.frame) && is_offstage (object_look v)))
    × AreSizedSame hidden more rest

-- a node is, with what is right below it, as it was, for layout
abbrev pub StaysForLayout : Tree RenderObject → Handle → RenderObject → Forest RenderObject → Type 0
StaysForLayout t h w now =
    (o : RenderObject) (was : Forest RenderObject) → object_at t h ≡ Some o → StoodBelow t h was → KeepsForLayout o was w now

-- for layout something of it differs, or the size of a node right below it follows otherwise from its bounds, where that has a say
abbrev pub ChangesForLayout : Tree RenderObject → Handle → RenderObject → Forest RenderObject → Type 0
ChangesForLayout t h w now =
    (o : RenderObject) (was : Forest RenderObject) → object_at t h ≡ Some o → StoodBelow t h was → KeepsForLayout o was w now × AreSizedSame (is_offstage (object_look o)) was now → ⊥

-- each node of a new forest that isn't reported stays
abbrev pub OthersStay : Tree RenderObject → List Handle → Forest RenderObject → Type 0
OthersStay t hs none = Unit {0}
OthersStay t hs (tree h w kids rest) = (listed h hs ≡ false → StaysForLayout t h w kids) × OthersStay t hs kids × OthersStay t hs rest

-- some node with a handle changes
abbrev pub SomeChanges : Tree RenderObject → Handle → Forest RenderObject → Type 0
SomeChanges t h none = ⊥
SomeChanges t h (tree k w kids rest) = ((k ≡ h) × ChangesForLayout t k w kids) ⊎ (SomeChanges t h kids ⊎ SomeChanges t h rest)

-- ---- the same for painting

abbrev pub StaysForPaint : Tree RenderObject → Handle → RenderObject → Forest RenderObject → Type 0
StaysForPaint t h w now =
    (o : RenderObject) (was : Forest RenderObject) → object_at t h ≡ Some o → StoodBelow t h was → KeepsForPaint o was w now

abbrev pub ChangesForPaint : Tree RenderObject → Handle → RenderObject → Forest RenderObject → Type 0
ChangesForPaint t h w now =
    (o : RenderObject) (was : Forest RenderObject) → object_at t h ≡ Some o → StoodBelow t h was → KeepsForPaint o was w now → ⊥

abbrev pub OthersLook : Tree RenderObject → List Handle → Forest RenderObject → Type 0
OthersLook t hs none = Unit {0}
OthersLook t hs (tree h w kids rest) = (listed h hs ≡ false → StaysForPaint t h w kids) × OthersLook t hs kids × OthersLook t hs rest

abbrev pub SomeLooks : Tree RenderObject → Handle → Forest RenderObject → Type 0
SomeLooks t h none = ⊥
SomeLooks t h (tree k w kids rest) = ((k ≡ h) × ChangesForPaint t k w kids) ⊎ (SomeLooks t h kids ⊎ SomeLooks t h rest)

-- the number of the node that is stored at a handle
abbrev pub object_number : Tree RenderObject → Handle → Option ℕ
object_number t h = option_map (λ (o : RenderObject). o.number) (object_at t h)
