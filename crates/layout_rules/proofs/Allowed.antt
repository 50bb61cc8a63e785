-- What children may be asked: slivers begin at lengths, nobody is asked in both rounds but a sliver of a Viewport, and each child can
-- be laid out as the whole can.
use Rattle.std.proofs.Common.{◌≡◌, ap, refl, sym, ◌∙◌, subst, ℕ, zero, suc, ◌^◌, ◌≤◌, Bool, true, false, cond, ◌&&◌, ◌||◌, Option, Some, None, option_map, List, [], ◌∷◌, map, length, get_or, arith}
use Rattle.fx_geom.specs.declared.boxes.Bounds.{Bounds}
use Rattle.fx_geom.specs.declared.shapes.Axis.{Axis}
use Rattle.fx_geom.specs.declared.shapes.Axis.TheVariants.{Horizontal, Vertical}
use Rattle.fx_geom.specs.declared.shapes.Offset.{Offset}
use Rattle.fx_geom.specs.Along.{most_along, size_along}
use Rattle.fx_geom.specs.Bounds.{tight}
use Rattle.fx_geom.specs.Insets.{other_of, extent_of}
use Rattle.fx_handles.specs.declared.Handle.{Handle}
use Rattle.node_tree.specs.Forest.{Forest, skip}
use Rattle.node_tree.specs.Forest.Forest.{none, tree}
use Rattle.sliver_layout.specs.declared.protocol.SliverBounds.{SliverBounds}
use Rattle.sliver_layout.specs.declared.protocol.Walk.{Walk}
use Rattle.sliver_layout.specs.declared.protocol.Window.{Window}
use Rattle.sliver_layout.specs.Lists.{window_of}
use Rattle.sliver_layout.specs.Slivers.{geometry_of, padded_of, view_of, walk_from, walk_past}
use Rattle.widget_model.specs.Look.{Look, text, row, column, wrap, table, stack, flexible, positioned, viewport, sliver_to_box, sliver_padding, sliver_fixed, sliver_lazy, keep, inherit, component}
use Rattle.plain_tree.specs.declared.laid.Frame.{Frame}
use Rattle.plain_tree.specs.declared.render.ParentData.{ParentData}
use Rattle.plain_tree.specs.Render.{render}
use Rattle.layout_form.specs.declared.asks.Ask.{Ask}
use Rattle.layout_form.specs.declared.asks.Ask.TheVariants.{AsBox, AsSliver}
use Rattle.layout_form.specs.Fits.{CanBeLaidOut, CanAllBeLaidOut, Fits, told_in}
use Rattle.layout_form.specs.Framed.{answers_of, last_asks}
use Rattle.layout_form.specs.Frames.{found_makes, scrolls_by, extents_by, others_by, other_by, rest_makes, sliver_asks, start_by, views_by}
use Rattle.layout_form.specs.FlexRule.{unshared}
use Rattle.layout_form.specs.Object.{Setting}
use Rattle.layout_form.specs.Protocol.{ask_if, asks_where, goes_first, everybody, cells_first, items_first, Found, box_first}
use Rattle.layout_form.specs.Single.{insets_of}
use Rattle.layout_form.specs.SliverRule.{view_size, unseen, is_among, counted}
use Rattle.layout_form.specs.StackRule.{is_free, free_bounds}
use Rattle.layout_form.specs.WrapTable.{columns_of}
use Rattle.kind_rules.specs.Asked.{IsOffset}
use Rattle.layout_walk.specs.Node.{LayoutNode, NodeMember, member, members, tellings, stored, renders_in, asked}
use Rattle.layout_walk.specs.Rule.{LayoutParts, asks_by}
use Rattle.layout_walk.specs.Full.{asks_at, place_of, past}
use Rattle.layout_walk.specs.Here.{Here, HereAll, StandAs, ShownAs}
use Rattle.layout_walk.specs.Rules.{parts_of, first_in, rest_in}
use Rattle.layout_walk.specs.Walk.{SameMembers, AskApart, IsApart, kept_ask, kept_asks}
use Rattle.layout_walk.proofs.Same.{same_tellings}
use Rattle.layout_rules.specs.declared.duties.Duty.{Duty}
use Rattle.layout_rules.specs.declared.duties.Duty.TheVariants.{Lay}
use Rattle.layout_rules.specs.declared.duties.Course.TheVariants.{Run, View}
use Rattle.layout_rules.specs.Duties.{MayDo, lay_duties}
use Rattle.layout_rules.specs.Courses.{rule_course}

-- ---- slivers begin at lengths

abbrev pub MayAsk : Option Ask → Type 0
MayAsk None = Unit {0}
MayAsk (Some ask) = IsOffset ask

abbrev pub MayAskAll : List (Option Ask) → Type 0
MayAskAll [] = Unit {0}
MayAskAll (ask ∷ asks) = MayAsk ask × MayAskAll asks

if_box : (t : Bool) (b : Bounds) → MayAsk (ask_if t (AsBox b))
if_box true b = tt
if_box false b = tt

where_boxes : (test : ParentData → Bool) (b : Bounds) (ds : List ParentData) → MayAskAll (asks_where test (AsBox b) ds)
where_boxes test b [] = tt
where_boxes test b (d ∷ ds) = (if_box (test d) b, where_boxes test b ds)

all_boxes : (b : Bounds) (ds : List ParentData) → MayAskAll (everybody (AsBox b) ds)
all_boxes b [] = tt
all_boxes b (d ∷ ds) = (tt, all_boxes b ds)

all_views : (b : SliverBounds) (ds : List ParentData) → b.offset ≤ 2 ^ 40 → MayAskAll (everybody (AsSliver b) ds)
all_views b [] small = tt
all_views b (d ∷ ds) small = (small, all_views b ds small)

cell_boxes : (columns : List ℕ) (i : ℕ) (ds : List ParentData) → MayAskAll (cells_first columns i ds)
cell_boxes columns i [] = tt
cell_boxes columns i (d ∷ ds) = (tt, cell_boxes columns (suc i) ds)

item_boxes : (b : SliverBounds) (extent : ℕ) (w : Window) (is : List ℕ) → MayAskAll (items_first b extent w is)
item_boxes b extent w [] = tt
item_boxes b extent w (i ∷ is) = (if_box (is_among w i) (tight (size_along b.axis extent b.cross)), item_boxes b extent w is)

box_may : (s : Setting) (l : Look) (b : Bounds) (liked : ℕ) (ds : List ParentData) → MayAskAll (box_first s l b liked ds)
box_may s (text m0 m1) b liked ds = tt
box_may s (flexible m0 m1) b liked ds = tt
box_may s (positioned m0 m1 m2 m3 m4 m5) b liked ds = tt
box_may s sliver_to_box b liked ds = tt
box_may s (sliver_padding m0 m1 m2 m3) b liked ds = tt
box_may s (sliver_fixed m0) b liked ds = tt
box_may s (sliver_lazy m0) b liked ds = tt
box_may s (keep m0) b liked ds = tt
box_may s (inherit m0 m1) b liked ds = tt
box_may s (component m0 m1 m2) b liked ds = tt
box_may s (row m0 m1 m2) b liked ds = where_boxes (goes_first (most_along b Horizontal)) (unshared Horizontal m1 b) ds
box_may s (column m0 m1 m2) b liked ds = where_boxes (goes_first (most_along b Vertical)) (unshared Vertical m1 b) ds
box_may s (wrap m0 m1) b liked ds = all_boxes _ ds
box_may s (table m0) b liked ds = cell_boxes (columns_of m0) 0 ds
box_may s (stack m0 m1 m2) b liked ds = where_boxes is_free (free_bounds m2 b) ds
box_may s (viewport m0) b liked ds = all_views (unseen m0 (extent_of (view_size b) (other_of m0))) ds (omega arith)
box_may s l b liked ds = (tt, tt)

padded_small : (l t r o : ℕ) (b : SliverBounds) → b.offset ≤ 2 ^ 40 → (padded_of b (insets_of l t r o)).offset ≤ 2 ^ 40
padded_small l t r o b small = omega (arith, small)

sliver_may : (l : Look) (k : ℕ) (b : SliverBounds) (ds : List ParentData) → b.offset ≤ 2 ^ 40 → MayAskAll (sliver_asks l k b ds)
sliver_may sliver_to_box k b ds small = (tt, tt)
sliver_may (sliver_padding m0 m1 m2 m3) k b ds small = (padded_small m0 m1 m2 m3 b small, tt)
sliver_may (sliver_fixed m0) k b ds small = item_boxes b m0 (window_of b m0 (length ds)) (counted 0 ds)
sliver_may (sliver_lazy m0) k b ds small = item_boxes b m0 (window_of b m0 k) (map (λ (d : ParentData). d.index) ds)
sliver_may l k b ds small = tt

pub first_may : (s : Setting) (m : NodeMember) (ask : Ask) (liked : ℕ) (ds : List ParentData) → IsOffset ask → MayAskAll (first_in s m ask liked ds)
first_may s m (AsBox b) liked ds offset = box_may s m.look b liked ds
first_may s m (AsSliver b) liked ds offset = sliver_may m.look m.count b ds offset

other_boxes : (bs : List Bounds) (fs : List (Option Frame)) → MayAskAll (others_by bs fs)
other_boxes [] fs = tt
other_boxes (b ∷ bs) [] = tt
other_boxes (b ∷ bs) (None ∷ fs) = (tt, other_boxes bs fs)
other_boxes (b ∷ bs) (Some f ∷ fs) = (tt, other_boxes bs fs)

views_may : (axis : Axis) (main cross : ℕ) (walk : Walk) (ns : List (Option ℕ)) → walk.left ≤ 2 ^ 40 → MayAskAll (views_by axis main cross walk ns)
views_may axis main cross walk [] small = tt
views_may axis main cross walk (None ∷ ns) small = (tt, views_may axis main cross walk ns small)
views_may axis main cross walk (Some n ∷ ns) small =
    let v = view_of axis main cross walk in (small, views_may axis main cross (walk_past walk (geometry_of v n)) ns (omega (arith, small)))

start_small : (axis : Axis) (scroll : ℕ) (b : Bounds) (ns : List ℕ) → start_by axis scroll b ns ≤ 2 ^ 40
start_small axis scroll b ns = omega arith

box_rest_may : (l : Look) (scroll : ℕ) (b : Bounds) (found : Found) (ds : List ParentData) (fs : List (Option Frame)) → found.start ≤ 2 ^ 40 → MayAskAll (rest_makes l b found ds fs)
box_rest_may (row m0 m1 m2) scroll b found ds fs small = other_boxes _ fs
box_rest_may (column m0 m1 m2) scroll b found ds fs small = other_boxes _ fs
box_rest_may (stack m0 m1 m2) scroll b found ds fs small = other_boxes _ fs
box_rest_may (viewport axis) scroll b found ds fs small = views_may axis (extent_of (view_size b) axis) (extent_of (view_size b) (other_of axis)) (walk_from found.start) (extents_by fs) small
box_rest_may l scroll b found ds fs small = tt

pub rest_may : (m : NodeMember) (scroll : ℕ) (ask : Ask) (ds : List ParentData) (fs : List (Option Frame)) → MayAskAll (rest_in m scroll ask ds fs)
rest_may m scroll (AsSliver b) ds fs = tt
rest_may m scroll (AsBox b) ds fs = by m.look
  where
    by : (l : Look) → MayAskAll (rest_in (record m { look = l }) scroll (AsBox b) ds fs)
    by (viewport axis) = box_rest_may (viewport axis) scroll b (found_makes (viewport axis) scroll b fs) ds fs (start_small axis scroll b (scrolls_by fs))
    by (stack m0 m1 m2) = box_rest_may (stack m0 m1 m2) scroll b (found_makes (stack m0 m1 m2) scroll b fs) ds fs (omega arith)
    by l = box_rest_may l scroll b (found_makes l scroll b fs) ds fs (omega arith)

last_may : (xs ys : List (Option Ask)) → MayAskAll xs → MayAskAll ys → MayAskAll (last_asks xs ys)
last_may [] ys one two = two
last_may (x ∷ xs) [] one two = one
last_may (x ∷ xs) (None ∷ ys) one two = (one.0, last_may xs ys one.1 two.1)
last_may (x ∷ xs) (Some ask ∷ ys) one two = (two.0, last_may xs ys one.1 two.1)

asks_may : (s : Setting) (v : LayoutNode) (ask : Ask) (kids : Forest LayoutNode) → IsOffset ask → MayAskAll (asks_at (parts_of s) v ask kids (stored kids))
unfolding asks_by
asks_may s v ask kids offset =
    let P = parts_of s in
    let first = P.first (member v) ask (P.liked v.look ask (members kids)) (tellings kids) in
    last_may first (P.rest (member v) v.scroll ask (tellings kids) (answers_of first (stored kids)))
    (first_may s (member v) ask (P.liked v.look ask (members kids)) (tellings kids) offset)
    (rest_may (member v) v.scroll ask (tellings kids) (answers_of first (stored kids)))

-- those that are visited are asked as they were
one_kept : (o : Option Ask) (at : Offset) (v : LayoutNode) → ShownAs o at v → MayAsk o → MayAsk (kept_ask v)
one_kept o at v stands may = by v.shown (v.needs_layout || v.layout_below) refl
  where
    false_true : false ≡ true → ⊥
    false_true e = cc

    shown_asked : (o : Option Ask) → ShownAs o at v → MayAsk o → v.shown ≡ true → MayAsk (asked v)
    shown_asked None stands may on = absurd (false_true (sym stands ∙ on))
    shown_asked (Some ask) stands may on = subst MayAsk (sym stands.asked) may

    by : (shown marked : Bool) → v.shown ≡ shown → MayAsk (cond {A = Option Ask} (shown && marked) (asked v) None)
    by true true e = shown_asked o stands may e
    by true false e = tt
    by false marked e = tt

kept_may_from : (asks : List (Option Ask)) (places : List Offset) (kids : Forest LayoutNode) → StandAs asks places kids → MayAskAll asks → MayAskAll (kept_asks kids)
kept_may_from asks places none stand may = tt
kept_may_from [] places (tree h v kids rest) stand may = (one_kept None (place_of places) v stand.0 tt, kept_may_from [] places rest stand.1 tt)
kept_may_from (ask ∷ asks) places (tree h v kids rest) stand may = (one_kept ask (place_of places) v stand.0 may.0, kept_may_from asks (past ask places) rest stand.1 may.1)

pub kept_may : (s : Setting) (v : LayoutNode) (ask : Ask) (kids : Forest LayoutNode) → Here (parts_of s) v kids → v.needs_layout ≡ false → asked v ≡ Some ask → IsOffset ask
    → MayAskAll (kept_asks kids)
kept_may s v ask kids here clear is offset =
    let given = here.consistent clear in
    let one : given.ask ≡ ask = some_one given.ask ask (sym given.asked ∙ is) in
    kept_may_from _ _ kids given.gives.placed (asks_may s v given.ask kids (subst IsOffset (sym one) offset))
  where
    some_one : (x y : Ask) → Some x ≡ Some y → x ≡ y
    some_one x y e = cc

-- a duty of the list
pub duty_may : (asks : List (Option Ask)) (i : ℕ) (duty : Duty) → MayAskAll asks → get_or (lay_duties asks) i None ≡ Some duty → MayDo duty
duty_may [] zero duty may is = absurd (none_some duty is)
  where
    none_some : (duty : Duty) → None ≡ Some duty → ⊥
    none_some duty e = cc
duty_may [] (suc i) duty may is = absurd (none_some duty is)
  where
    none_some : (duty : Duty) → None ≡ Some duty → ⊥
    none_some duty e = cc
duty_may (None ∷ asks) zero duty may is = absurd (none_some duty is)
  where
    none_some : (duty : Duty) → None ≡ Some duty → ⊥
    none_some duty e = cc
duty_may (Some (AsBox b) ∷ asks) zero duty may is = subst MayDo (some_job (Lay (AsBox b)) duty is) tt
  where
    some_job : (x y : Duty) → Some x ≡ Some y → x ≡ y
    some_job x y e = cc
duty_may (Some (AsSliver b) ∷ asks) zero duty may is = subst MayDo (some_job (Lay (AsSliver b)) duty is) may.0
  where
    some_job : (x y : Duty) → Some x ≡ Some y → x ≡ y
    some_job x y e = cc
duty_may (ask ∷ asks) (suc i) duty may is = duty_may asks i duty may.1 is

-- ---- nobody is asked twice

nobody_apart : (asks : List (Option Ask)) → AskApart asks []
nobody_apart [] = tt
nobody_apart (ask ∷ asks) = tt

one_apart : (b : Bounds) (ask : Option Ask) (g : Ask → Frame) → IsApart ask (other_by b (option_map g ask))
one_apart b None g = tt
one_apart b (Some ask) g = tt

others_apart : (bs : List Bounds) (asks : List (Option Ask)) (gs : List (Ask → Frame)) → AskApart asks (others_by bs (answers_of asks gs))
others_apart bs [] gs = tt
others_apart [] (ask ∷ asks) gs = tt
others_apart (b ∷ bs) (ask ∷ asks) [] = tt
others_apart (b ∷ bs) (ask ∷ asks) (g ∷ gs) = (one_apart b ask g, others_apart bs asks gs)

run_view : (axis : Axis) (b : Bounds) → View axis b ≡ Run (AsBox b) → ⊥
run_view axis b e = cc

box_apart : (l : Look) (b : Bounds) (found : Found) (ds : List ParentData) (first : List (Option Ask)) (gs : List (Ask → Frame)) → rule_course l (AsBox b) ≡ Run (AsBox b)
    → AskApart first (rest_makes l b found ds (answers_of first gs))
box_apart (row m0 m1 m2) b found ds first gs is = others_apart _ first gs
box_apart (column m0 m1 m2) b found ds first gs is = others_apart _ first gs
box_apart (stack m0 m1 m2) b found ds first gs is = others_apart _ first gs
box_apart (viewport axis) b found ds first gs is = absurd (run_view axis b is)
box_apart l b found ds first gs is = nobody_apart first

pub rests_apart : (m : NodeMember) (scroll : ℕ) (ask : Ask) (ds : List ParentData) (first : List (Option Ask)) (gs : List (Ask → Frame)) → rule_course m.look ask ≡ Run ask
    → AskApart first (rest_in m scroll ask ds (answers_of first gs))
rests_apart m scroll (AsSliver b) ds first gs is = nobody_apart first
rests_apart m scroll (AsBox b) ds first gs is = box_apart m.look b _ ds first gs is

-- ---- each child can be laid out

pub tellings_told : (f : Forest LayoutNode) → told_in (renders_in f) ≡ tellings f
tellings_told none = refl
tellings_told (tree h v kids rest) = ap (λ (ds : List ParentData). v.told ∷ ds) (tellings_told rest)

pub all_fit_same : (f g : Forest LayoutNode) → SameMembers f g → CanAllBeLaidOut (renders_in f) → CanAllBeLaidOut (renders_in g)
all_fit_same none none same fit = tt
all_fit_same none (tree k w below rest) same fit = absurd same
all_fit_same (tree h v kids more) none same fit = absurd same
all_fit_same (tree h v kids more) (tree k w below rest) same fit =
    let look : v.look ≡ w.look = ap (λ (m : NodeMember). m.look) same.1 in
    let told : told_in (renders_in kids) ≡ told_in (renders_in below) = tellings_told kids ∙ same_tellings kids below same.2 ∙ sym (tellings_told below) in (
      (
        subst (λ (l : Look). Fits l (told_in (renders_in below))) look (subst (λ (ds : List ParentData). Fits v.look ds) told fit.0.0),
        all_fit_same kids below same.2 fit.0.1,
      ),
      all_fit_same more rest same.3 fit.1,
    )

pub fits_same : (v : LayoutNode) (kids below : Forest LayoutNode) → SameMembers kids below
    → CanBeLaidOut (render v.number v.look v.told v.scroll v.count (renders_in kids)) → CanBeLaidOut (render v.number v.look v.told v.scroll v.count (renders_in below))
fits_same v kids below same fit =
    let told : told_in (renders_in kids) ≡ told_in (renders_in below) = tellings_told kids ∙ same_tellings kids below same ∙ sym (tellings_told below) in
    (subst (λ (ds : List ParentData). Fits v.look ds) told fit.0, all_fit_same kids below same fit.1)

none_tree : (c : Handle) (v : LayoutNode) (kids after : Forest LayoutNode) → none ≡ tree c v kids after → ⊥
none_tree c v kids after e = cc

skip_none : (i : ℕ) → skip {T = LayoutNode} i none ≡ none
skip_none zero = refl
skip_none (suc i) = refl

pub fits_nth : (i : ℕ) (f : Forest LayoutNode) (c : Handle) (v : LayoutNode) (kids after : Forest LayoutNode) → skip i f ≡ tree c v kids after
    → CanAllBeLaidOut (renders_in f) → CanBeLaidOut (render v.number v.look v.told v.scroll v.count (renders_in kids))
fits_nth i none c v kids after is fit = absurd (none_tree c v kids after (sym (skip_none i) ∙ is))
fits_nth zero (tree h u us more) c v kids after is fit =
    let value : u ≡ v = cc in
    let parts : us ≡ kids = cc in
    subst (λ (g : Forest LayoutNode). CanBeLaidOut (render v.number v.look v.told v.scroll v.count (renders_in g))) parts
    (subst (λ (x : LayoutNode). CanBeLaidOut (render x.number x.look x.told x.scroll x.count (renders_in us))) value fit.0)
fits_nth (suc i) (tree h u us more) c v kids after is fit = fits_nth i more c v kids after is fit.1

pub here_nth : (P : LayoutParts) (i : ℕ) (f : Forest LayoutNode) (c : Handle) (v : LayoutNode) (kids after : Forest LayoutNode) → skip i f ≡ tree c v kids after
    → HereAll P f → Here P v kids × HereAll P kids
here_nth P i none c v kids after is all = absurd (none_tree c v kids after (sym (skip_none i) ∙ is))
here_nth P zero (tree h u us more) c v kids after is all =
    let value : u ≡ v = cc in
    let parts : us ≡ kids = cc in (
      subst (λ (g : Forest LayoutNode). Here P v g) parts (subst (λ (x : LayoutNode). Here P x us) value all.0),
      subst (λ (g : Forest LayoutNode). HereAll P g) parts all.1,
    )
here_nth P (suc i) (tree h u us more) c v kids after is all = here_nth P i more c v kids after is all.2
