-- What the children of a node may be asked.
use Rattle.std.proofs.Common.{◌≡◌, ap, refl, sym, ◌∙◌, subst, ℕ, suc, ◌^◌, ◌≤◌, Bool, true, false, Option, Some, None, option_map, List, [], ◌∷◌, map, length, arith}
use Rattle.fx_geom.specs.declared.boxes.Bounds.{Bounds}
use Rattle.fx_geom.specs.declared.shapes.Axis.{Axis}
use Rattle.fx_geom.specs.declared.shapes.Axis.TheVariants.{Horizontal, Vertical}
use Rattle.fx_geom.specs.Along.{most_along, size_along}
use Rattle.fx_geom.specs.Bounds.{tight}
use Rattle.fx_geom.specs.Insets.{other_of, extent_of}
use Rattle.sliver_layout.specs.declared.protocol.SliverBounds.{SliverBounds}
use Rattle.sliver_layout.specs.declared.protocol.Window.{Window}
use Rattle.sliver_layout.specs.Lists.{window_of}
use Rattle.sliver_layout.specs.Slivers.{padded_of}
use Rattle.widget_model.specs.Look.{Look, text, row, column, wrap, table, stack, flexible, positioned, viewport, sliver_to_box, sliver_padding, sliver_fixed, sliver_lazy, keep, inherit, component}
use Rattle.plain_tree.specs.declared.laid.Frame.{Frame}
use Rattle.plain_tree.specs.declared.render.ParentData.{ParentData}
use Rattle.plain_tree.specs.Laid.{Laid}
use Rattle.plain_tree.specs.Render.{Render, render, renders_of}
use Rattle.layout_form.specs.declared.asks.Ask.{Ask}
use Rattle.layout_form.specs.declared.asks.Ask.TheVariants.{AsBox, AsSliver}
use Rattle.layout_form.specs.Object.{Setting}
use Rattle.layout_form.specs.Single.{insets_of}
use Rattle.layout_form.specs.FlexRule.{unshared}
use Rattle.layout_form.specs.StackRule.{is_free, free_bounds}
use Rattle.layout_form.specs.SliverRule.{view_size, unseen, box_bounds, is_among, counted}
use Rattle.layout_form.specs.WrapTable.{columns_of}
use Rattle.layout_form.specs.Layout.{object}
use Rattle.layout_form.specs.Protocol.{answer, ask_if, asks_where, goes_first, everybody, cells_first, items_first, Found, box_first}
use Rattle.layout_form.specs.Frames.{frame_in, frames_in, others_by, other_by, rest_makes, sliver_asks}
use Rattle.kind_rules.specs.Asked.{first_for, rest_for, IsOffset}
use Rattle.plain_layout.specs.Computed.{blank, MayAsk, MayAskAll}
use Rattle.plain_layout.specs.Slivers.{viewed, across, IsReady, is_answered, kept_slots, IsTask, AllTasks}

if_box : (t : Bool) (b : Bounds) → MayAsk (ask_if t (AsBox b))
if_box true b = tt
if_box false b = tt

where_boxes : (test : ParentData → Bool) (b : Bounds) (ds : List ParentData) → MayAskAll (asks_where test (AsBox b) ds)
where_boxes test b [] = tt
where_boxes test b (d ∷ ds) = (if_box (test d) b, where_boxes test b ds)

all_boxes : (b : Bounds) (ds : List ParentData) → MayAskAll (everybody (AsBox b) ds)
all_boxes b [] = tt
all_boxes b (d ∷ ds) = (tt, all_boxes b ds)

all_views : (b : SliverBounds) (ds : List ParentData) → b.offset ≤ 2 ^ 40 → MayAskAll (everybody (AsSliver b) ds)
all_views b [] small = tt
all_views b (d ∷ ds) small = (small, all_views b ds small)

cell_boxes : (columns : List ℕ) (i : ℕ) (ds : List ParentData) → MayAskAll (cells_first columns i ds)
cell_boxes columns i [] = tt
cell_boxes columns i (d ∷ ds) = (tt, cell_boxes columns (suc i) ds)

item_boxes : (b : SliverBounds) (extent : ℕ) (w : Window) (is : List ℕ) → MayAskAll (items_first b extent w is)
item_boxes b extent w [] = tt
item_boxes b extent w (i ∷ is) = (if_box (is_among w i) (tight (size_along b.axis extent b.cross)), item_boxes b extent w is)

other_task : (s : Setting) (b : Bounds) (slot : Option Laid) (r : Render) → IsTask s None (other_by b (option_map frame_in slot)) slot r
other_task s b None r = tt
other_task s b (Some l) r = tt

pub no_tasks : (s : Setting) (slots : List (Option Laid)) (rs : List Render) → AllTasks s None [] slots rs
no_tasks s [] rs = tt
no_tasks s (slot ∷ slots) [] = tt
no_tasks s (slot ∷ slots) (r ∷ rs) = (tt, no_tasks s slots rs)

other_tasks : (s : Setting) (bs : List Bounds) (slots : List (Option Laid)) (rs : List Render) → AllTasks s None (others_by bs (frames_in slots)) slots rs
other_tasks s bs [] rs = tt
other_tasks s bs (slot ∷ slots) [] = tt
other_tasks s [] (slot ∷ slots) (r ∷ rs) = (tt, no_tasks s slots rs)
other_tasks s (b ∷ bs) (slot ∷ slots) (r ∷ rs) = (other_task s b slot r, other_tasks s bs slots rs)

box_may : (s : Setting) (l : Look) (b : Bounds) (liked : ℕ) (ds : List ParentData) → MayAskAll (box_first s l b liked ds)
box_may s (text m0 m1) b liked ds = tt
box_may s (flexible m0 m1) b liked ds = tt
box_may s (positioned m0 m1 m2 m3 m4 m5) b liked ds = tt
box_may s sliver_to_box b liked ds = tt
box_may s (sliver_padding m0 m1 m2 m3) b liked ds = tt
box_may s (sliver_fixed m0) b liked ds = tt
box_may s (sliver_lazy m0) b liked ds = tt
box_may s (keep m0) b liked ds = tt
box_may s (inherit m0 m1) b liked ds = tt
box_may s (component m0 m1 m2) b liked ds = tt
box_may s (row m0 m1 m2) b liked ds = where_boxes (goes_first (most_along b Horizontal)) (unshared Horizontal m1 b) ds
box_may s (column m0 m1 m2) b liked ds = where_boxes (goes_first (most_along b Vertical)) (unshared Vertical m1 b) ds
box_may s (wrap m0 m1) b liked ds = all_boxes _ ds
box_may s (table m0) b liked ds = cell_boxes (columns_of m0) 0 ds
box_may s (stack m0 m1 m2) b liked ds = where_boxes is_free (free_bounds m2 b) ds
box_may s (viewport m0) b liked ds = all_views (unseen m0 (extent_of (view_size b) (other_of m0))) ds (omega arith)
box_may s l b liked ds = (tt, tt)

padded_small : (l t r o : ℕ) (b : SliverBounds) → b.offset ≤ 2 ^ 40 → (padded_of b (insets_of l t r o)).offset ≤ 2 ^ 40
padded_small l t r o b small = omega (arith, small)

sliver_may : (l : Look) (k : ℕ) (b : SliverBounds) (ds : List ParentData) → b.offset ≤ 2 ^ 40 → MayAskAll (sliver_asks l k b ds)
sliver_may sliver_to_box k b ds small = (tt, tt)
sliver_may (sliver_padding m0 m1 m2 m3) k b ds small = (padded_small m0 m1 m2 m3 b small, tt)
sliver_may (sliver_fixed m0) k b ds small = item_boxes b m0 (window_of b m0 (length ds)) (counted 0 ds)
sliver_may (sliver_lazy m0) k b ds small = item_boxes b m0 (window_of b m0 k) (map (λ (d : ParentData). d.index) ds)
sliver_may l k b ds small = tt

first_may : (s : Setting) (l : Look) (k : ℕ) (ask : Ask) (liked : ℕ) (ds : List ParentData) (first : List (Option Ask))
    → IsOffset ask → first ≡ first_for s l k ask liked ds → MayAskAll first
first_may s l k (AsBox b) liked ds first offset is = subst MayAskAll (sym is) (box_may s l b liked ds)
first_may s l k (AsSliver b) liked ds first offset is = subst MayAskAll (sym is) (sliver_may l k b ds offset)

left_tasks : (s : Setting) (l : Look) (b : Bounds) (found : Found) (ds : List ParentData) (slots : List (Option Laid)) (rs : List Render)
    → viewed l (AsBox b) ≡ None → AllTasks s None (rest_makes l b found ds (frames_in slots)) slots rs
left_tasks s (row m0 m1 m2) b found ds slots rs none = other_tasks s _ slots rs
left_tasks s (column m0 m1 m2) b found ds slots rs none = other_tasks s _ slots rs
left_tasks s (stack m0 m1 m2) b found ds slots rs none = other_tasks s _ slots rs
left_tasks s (viewport m0) b found ds slots rs none = cc
left_tasks s l b found ds slots rs none = no_tasks s slots rs

-- those that are asked then haven't answered
pub rest_tasks : (s : Setting) (l : Look) (ask : Ask) (found : Found) (ds : List ParentData) (slots : List (Option Laid)) (frames : List (Option Frame)) (rs : List Render) (rest : List (Option Ask))
    → viewed l ask ≡ None → frames ≡ frames_in slots → rest ≡ rest_for l ask found ds frames → AllTasks s None rest slots rs
rest_tasks s l (AsBox b) found ds slots frames rs rest none is asks =
    subst (λ (x : List (Option Ask)). AllTasks s None x slots rs) (sym (asks ∙ ap (λ (fs : List (Option Frame)). rest_makes l b found ds fs) is))
    (left_tasks s l b found ds slots rs none)
rest_tasks s l (AsSliver b) found ds slots frames rs rest none is asks =
    subst (λ (x : List (Option Ask)). AllTasks s None x slots rs) (sym asks) (no_tasks s slots rs)

-- ---- nothing is kept but of slivers

blank_task : (s : Setting) (ask : Option Ask) (r : Render) → MayAsk ask → IsTask s None ask None r
blank_task s None r may = tt
blank_task s (Some (AsBox b)) r may = tt
blank_task s (Some (AsSliver b)) r may = may

blank_tasks : (s : Setting) (asks : List (Option Ask)) (rs : List Render) → MayAskAll asks → AllTasks s None asks (blank rs) rs
blank_tasks s asks [] may = tt
blank_tasks s [] (r ∷ rs) may = (tt, no_tasks s (blank rs) rs)
blank_tasks s (ask ∷ asks) (r ∷ rs) may = (blank_task s ask r may.0, blank_tasks s asks rs may.1)

viewed_tasks : (s : Setting) (view : Axis × ℕ) (asks : List (Option Ask)) (rs : List Render) → AllTasks s (Some view) asks (blank rs) rs
viewed_tasks s view asks [] = tt
viewed_tasks s view [] (r ∷ rs) = (refl, viewed_tasks s view [] rs)
viewed_tasks s view (ask ∷ asks) (r ∷ rs) = (refl, viewed_tasks s view asks rs)

some_same : {X : Type 0} (x y : X) → Some x ≡ Some y → x ≡ y
some_same x y is = cc

kept_box : (s : Setting) (b : SliverBounds) (kept : Option Laid) (n : ℕ) (d : ParentData) (o k : ℕ) (r : Render) (rs : List Render)
    → IsReady s (AsSliver b) kept (render n sliver_to_box d o k (renders_of (r ∷ rs))) → IsReady s (AsBox (box_bounds b)) kept r
kept_box s b None n d o k r rs ready = tt
kept_box s b (Some l) n d o k r rs ready = some_same l ((object s r).in_bounds (box_bounds b)) ready.1

kept_sliver : (s : Setting) (b : SliverBounds) (kept : Option Laid) (m0 m1 m2 m3 n : ℕ) (d : ParentData) (o k : ℕ) (r : Render) (rs : List Render)
    → IsReady s (AsSliver b) kept (render n (sliver_padding m0 m1 m2 m3) d o k (renders_of (r ∷ rs)))
    → IsReady s (AsSliver (padded_of b (insets_of m0 m1 m2 m3))) kept r
kept_sliver s b None m0 m1 m2 m3 n d o k r rs ready = padded_small m0 m1 m2 m3 b ready
kept_sliver s b (Some l) m0 m1 m2 m3 n d o k r rs ready = (padded_small m0 m1 m2 m3 b ready.0, ready.1)

offset_is : (s : Setting) (ask : Ask) (kept : Option Laid) (r : Render) → IsReady s ask kept r → IsOffset ask
offset_is s (AsBox b) kept r ready = tt
offset_is s (AsSliver b) None r ready = ready
offset_is s (AsSliver b) (Some l) r ready = ready.0

pub offset_of : (s : Setting) (ask : Ask) (kept : Option Laid) (r : Render) → IsReady s ask kept r → IsOffset ask
offset_of s ask kept r ready = offset_is s ask kept r ready

tasks_first : (s : Setting) (n : ℕ) (l : Look) (d : ParentData) (o k : ℕ) (rs : List Render) (ask : Ask) (kept : Option Laid) (liked : ℕ) (ds : List ParentData)
    → IsReady s ask kept (render n l d o k (renders_of rs)) → MayAskAll (first_for s l k ask liked ds)
    → AllTasks s (across (viewed l ask)) (first_for s l k ask liked ds) (kept_slots l ask kept rs) rs
tasks_first s n l d o k [] ask kept liked ds ready may = tt
tasks_first s n sliver_to_box d o k (r ∷ rs) (AsSliver b) kept liked ds ready may = (kept_box s b kept n d o k r rs ready, no_tasks s (blank rs) rs)
tasks_first s n (sliver_padding m0 m1 m2 m3) d o k (r ∷ rs) (AsSliver b) kept liked ds ready may =
    (kept_sliver s b kept m0 m1 m2 m3 n d o k r rs ready, no_tasks s (blank rs) rs)
tasks_first s n (viewport m0) d o k (r ∷ rs) (AsBox b) kept liked ds ready may =
    viewed_tasks s (m0, extent_of (view_size b) (other_of m0)) (first_for s (viewport m0) k (AsBox b) liked ds) (r ∷ rs)
tasks_first s n l d o k (r ∷ rs) ask kept liked ds ready may = blank_tasks s (first_for s l k ask liked ds) (r ∷ rs) may

pub first_tasks : (s : Setting) (n : ℕ) (l : Look) (d : ParentData) (o k : ℕ) (rs : List Render) (ask : Ask) (kept : Option Laid) (liked : ℕ) (ds : List ParentData) (node : Render)
    (view : Option (Axis × ℕ)) (asks : List (Option Ask)) (slots : List (Option Laid)) → node ≡ render n l d o k (renders_of rs) → IsReady s ask kept node
    → view ≡ across (viewed l ask) → asks ≡ first_for s l k ask liked ds → slots ≡ kept_slots l ask kept rs → AllTasks s view asks slots rs
first_tasks s n l d o k rs ask kept liked ds node view asks slots is ready views askss slotss =
    let here : IsReady s ask kept (render n l d o k (renders_of rs)) = subst (λ (r : Render). IsReady s ask kept r) is ready in
    let may : MayAskAll (first_for s l k ask liked ds) = first_may s l k ask liked ds (first_for s l k ask liked ds) (offset_is s ask kept node ready) refl in
    subst (λ (x : List (Option Ask)). AllTasks s view x slots rs) (sym askss)
    (subst (λ (x : List (Option Laid)). AllTasks s view (first_for s l k ask liked ds) x rs) (sym slotss)
    (subst (λ (x : Option (Axis × ℕ)). AllTasks s x (first_for s l k ask liked ds) (kept_slots l ask kept rs) rs) (sym views)
    (tasks_first s n l d o k rs ask kept liked ds here may)))

-- a box that was laid out before
pub was_answered : (s : Setting) (ask : Ask) (slot : Option Laid) (r : Render) → IsReady s ask slot r → is_answered ask slot ≡ true → slot ≡ Some (answer (object s r) ask)
was_answered s (AsBox b) None r ready is = cc
was_answered s (AsBox b) (Some l) r ready is = ap (λ (x : Laid). Some x) ready
was_answered s (AsSliver b) slot r ready is = cc
