-- How far the slivers of a Viewport can be scrolled through, before it is known in which views they are laid out. A sliver that needn't
-- be laid out and had this axis and cross extent has it stored. Below any other one the box of a SliverToBox is laid out first, past
-- the SliverPaddings around it, since its bounds don't depend on what is seen; the slivers around it are marked, and laid out later.
use Rattle.std.specs.Prelude.{◌≡◌, ℕ, ◌+◌, ◌-◌, ◌*◌, ◌==◌, Bool, true, false, ◌||◌, ◌&&◌, not, if◌then◌else◌, Option, Some, None, List, [], ◌∷◌, length}
use Rattle.fx_geom.specs.declared.shapes.Axis.{Axis}
use Rattle.fx_geom.specs.declared.shapes.Insets.{Insets}
use Rattle.fx_geom.specs.Insets.{other_of, extent_of, before, after, along}
use Rattle.fx_geom.specs.Len.{stopped}
use Rattle.fx_handles.specs.declared.Handle.{Handle}
use Rattle.node_tree.specs.Forest.{Forest}
use Rattle.node_tree.specs.Forest.Forest.{none, tree}
use Rattle.sliver_layout.specs.declared.protocol.SliverBounds.{SliverBounds}
use Rattle.widget_model.specs.Look.{Look, sliver_to_box, sliver_padding, sliver_fixed, sliver_lazy}
use Rattle.plain_tree.specs.Shown.{box_size}
use Rattle.layout_form.specs.declared.asks.Ask.{Ask}
use Rattle.layout_form.specs.declared.asks.Ask.TheVariants.{AsBox, AsSliver}
use Rattle.layout_form.specs.Object.{frame_geometry}
use Rattle.layout_form.specs.Single.{insets_of}
use Rattle.layout_form.specs.SliverRule.{unseen, box_bounds}
use Rattle.layout_walk.specs.Node.{LayoutNode, member, tellings, frame_or, asked}
use Rattle.layout_walk.specs.Rule.{LayoutParts}
use Rattle.layout_walk.specs.Full.{made_at, objects}
use Rattle.layout_walk.specs.Here.{Here, HereAll, Backs}
use Rattle.layout_walk.specs.Walk.{SameMembers, LaysOut, IsCorrected}
use Rattle.layout_walk.specs.Asking.{same_axis}
use Rattle.layout_walk.specs.Flush.{runs}

-- ---- which slivers

-- a view of this axis and cross extent
abbrev pub views : Axis → ℕ → Option Ask → Bool
views axis cross None = false
views axis cross (Some (AsBox b)) = false
views axis cross (Some (AsSliver b)) = same_axis b.axis axis && b.cross == cross

-- a sliver whose stored frame doesn't tell how far it can be scrolled through
abbrev pub is_open : Axis → ℕ → LayoutNode → Bool
is_open axis cross v = v.needs_layout || not (views axis cross (asked v))

-- what is measured below it: the box of a SliverToBox, or the sliver in a SliverPadding
pub data Measured : Type 0 where
  boxed : Measured
  padded : Insets → Measured
  nothing : Measured

abbrev pub measured_below : Look → Measured
measured_below sliver_to_box = boxed
measured_below (sliver_padding left top right bottom) = padded (insets_of left top right bottom)
measured_below _ = nothing

abbrev pub measured_in : Axis → ℕ → LayoutNode → Measured
measured_in axis cross v = if is_open axis cross v then measured_below v.look else nothing

-- the bounds of the box of a SliverToBox, and the cross extent in a SliverPadding
abbrev pub box_in : Axis → ℕ → Ask
box_in axis cross = AsBox (box_bounds (unseen axis cross))

abbrev pub cross_in : Axis → ℕ → Insets → ℕ
cross_in axis cross i = cross - along i (other_of axis)

-- ---- what measuring does

abbrev pub opened : LayoutNode → LayoutNode
opened v = record v { needs_layout = true; layout_below = true }

-- the first tree is laid out so, and the others are as before
abbrev pub FirstLaid : LayoutParts → Backs → Ask → Forest LayoutNode → Forest LayoutNode → Type 0
FirstLaid P back ask none none = Unit {0}
FirstLaid P back ask none (tree k w below rest) = ⊥
FirstLaid P back ask (tree h v kids more) none = ⊥
FirstLaid P back ask (tree h v kids more) (tree k w below rest) = (h ≡ k) × LaysOut P back ask v kids w below × (more ≡ rest)

abbrev pub MeasuredBy : LayoutParts → Backs → Axis → ℕ → Measured → LayoutNode → Forest LayoutNode → LayoutNode → Forest LayoutNode → (ℕ → Type 0) → Type 0
MeasuredBy P back axis cross boxed v kids w below inner = (w ≡ opened v) × FirstLaid P back (box_in axis cross) kids below
MeasuredBy P back axis cross (padded i) v kids w below inner = (w ≡ opened v) × inner (cross_in axis cross i)
MeasuredBy P back axis cross nothing v kids w below inner = (v ≡ w) × (kids ≡ below)

-- the first tree is measured, and the others are as before
abbrev pub FirstMeasured : LayoutParts → Backs → Axis → ℕ → Forest LayoutNode → Forest LayoutNode → Type 0
FirstMeasured P back axis cross none none = Unit {0}
FirstMeasured P back axis cross none (tree k w below rest) = ⊥
FirstMeasured P back axis cross (tree h v kids more) none = ⊥
FirstMeasured P back axis cross (tree h v kids more) (tree k w below rest) =
    (h ≡ k) × MeasuredBy P back axis cross (measured_in axis cross v) v kids w below (λ c. FirstMeasured P back axis c kids below) × (more ≡ rest)

-- all trees are measured
abbrev pub AreMeasured : LayoutParts → Backs → Axis → ℕ → Forest LayoutNode → Forest LayoutNode → Type 0
AreMeasured P back axis cross none none = Unit {0}
AreMeasured P back axis cross none (tree k w below rest) = ⊥
AreMeasured P back axis cross (tree h v kids more) none = ⊥
AreMeasured P back axis cross (tree h v kids more) (tree k w below rest) =
    (h ≡ k) × MeasuredBy P back axis cross (measured_in axis cross v) v kids w below (λ c. FirstMeasured P back axis c kids below)
    × AreMeasured P back axis cross more rest

-- ---- what it comes to

-- in views of this axis and cross extent nothing that full layout sees of a sliver is changed but offsets that it corrects
pub record IsReadied (P : LayoutParts) (back : Backs) (axis : Axis) (cross : ℕ) (v : LayoutNode) (kids : Forest LayoutNode) (w : LayoutNode) (below : Forest LayoutNode) : Type 0 where
  pub member : member v ≡ member w
  pub same : SameMembers kids below
  pub here : Here P w below
  pub all : HereAll P below
  pub corrected : (b : SliverBounds) → b.axis ≡ axis → b.cross ≡ cross → IsCorrected P back (AsSliver b) v kids w below

abbrev pub AreReady : LayoutParts → Backs → Axis → ℕ → Forest LayoutNode → Forest LayoutNode → Type 0
AreReady P back axis cross none none = Unit {0}
AreReady P back axis cross none (tree k w below rest) = ⊥
AreReady P back axis cross (tree h v kids more) none = ⊥
AreReady P back axis cross (tree h v kids more) (tree k w below rest) = (h ≡ k) × IsReadied P back axis cross v kids w below × AreReady P back axis cross more rest

-- asked in a view of this axis and cross extent, if at all
abbrev pub AsksView : Axis → ℕ → Option Ask → Type 0
AsksView axis cross None = Unit {0}
AsksView axis cross (Some (AsBox b)) = ⊥
AsksView axis cross (Some (AsSliver b)) = (b.axis ≡ axis) × (b.cross ≡ cross)

abbrev pub AskViews : Axis → ℕ → List (Option Ask) → Type 0
AskViews axis cross [] = Unit {0}
AskViews axis cross (ask ∷ asks) = AsksView axis cross ask × AskViews axis cross asks

-- ---- how far they can be scrolled through

abbrev pub stored_extent : Axis → Forest LayoutNode → ℕ
stored_extent axis none = 0
stored_extent axis (tree h v kids rest) = extent_of (box_size (frame_or v.frame)) axis

abbrev pub extent_by : Look → ℕ → Axis → ℕ → Forest LayoutNode → (ℕ → ℕ) → ℕ
extent_by sliver_to_box count axis cross kids inner = stored_extent axis kids
extent_by (sliver_padding left top right bottom) count axis cross kids inner =
    let i = insets_of left top right bottom in stopped (before i axis + after i axis + inner (cross_in axis cross i))
extent_by (sliver_fixed extent) count axis cross kids inner = stopped (length (tellings kids) * extent)
extent_by (sliver_lazy extent) count axis cross kids inner = stopped (count * extent)
extent_by _ count axis cross kids inner = 0

abbrev pub extent_in : Axis → ℕ → LayoutNode → Forest LayoutNode → (ℕ → ℕ) → ℕ
extent_in axis cross v kids inner = if is_open axis cross v then extent_by v.look v.count axis cross kids inner else (frame_geometry (frame_or v.frame)).scroll

abbrev pub first_extent : Axis → ℕ → Forest LayoutNode → ℕ
first_extent axis cross none = 0
first_extent axis cross (tree h v kids rest) = extent_in axis cross v kids (λ c. first_extent axis c kids)

abbrev pub extents_in : Axis → ℕ → Forest LayoutNode → List ℕ
extents_in axis cross none = []
extents_in axis cross (tree h v kids rest) = extent_in axis cross v kids (λ c. first_extent axis c kids) ∷ extents_in axis cross rest

-- by full layout
abbrev pub full_extent : LayoutParts → Axis → ℕ → LayoutNode → Forest LayoutNode → ℕ
full_extent P axis cross v kids = (frame_geometry (made_at P v (AsSliver (unseen axis cross)) kids (objects P kids)).facts.frame).scroll

abbrev pub full_extents : LayoutParts → Axis → ℕ → Forest LayoutNode → List ℕ
full_extents P axis cross none = []
full_extents P axis cross (tree h v kids rest) = full_extent P axis cross v kids ∷ full_extents P axis cross rest

-- ---- how many rules measuring runs, where that of the node at a handle counts for so much

abbrev pub measured_runs : (Handle → ℕ) → LayoutParts → Bool → Axis → ℕ → Measured → Forest LayoutNode → (ℕ → ℕ) → ℕ
measured_runs w P outer axis cross boxed kids inner = runs w P outer (Some (box_in axis cross) ∷ []) kids
measured_runs w P outer axis cross (padded i) kids inner = inner (cross_in axis cross i)
measured_runs w P outer axis cross nothing kids inner = 0

abbrev pub first_runs : (Handle → ℕ) → LayoutParts → Bool → Axis → ℕ → Forest LayoutNode → ℕ
first_runs w P outer axis cross none = 0
first_runs w P outer axis cross (tree h v kids rest) = measured_runs w P outer axis cross (measured_in axis cross v) kids (λ c. first_runs w P outer axis c kids)

abbrev pub measure_runs : (Handle → ℕ) → LayoutParts → Bool → Axis → ℕ → Forest LayoutNode → ℕ
measure_runs w P outer axis cross none = 0
measure_runs w P outer axis cross (tree h v kids rest) =
    measured_runs w P outer axis cross (measured_in axis cross v) kids (λ c. first_runs w P outer axis c kids) + measure_runs w P outer axis cross rest

-- all of them are asked in views of this axis and cross extent
abbrev pub ViewEach : Axis → ℕ → List (Option Ask) → Forest LayoutNode → Type 0
ViewEach axis cross asks none = Unit {0}
ViewEach axis cross [] (tree h v kids rest) = ⊥
ViewEach axis cross (None ∷ asks) (tree h v kids rest) = ⊥
ViewEach axis cross (Some ask ∷ asks) (tree h v kids rest) = AsksView axis cross (Some ask) × ViewEach axis cross asks rest
