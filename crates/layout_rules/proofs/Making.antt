-- A rule can be run over the frames of children that were laid out as they were asked.
use Rattle.std.proofs.Common.{◌≡◌, ap, refl, sym, ◌∙◌, subst, ℕ, zero, suc, ◌+◌, ◌-◌, ◌^◌, ◌<◌, ◌≤◌, Option, Some, None, option_map, List, [], ◌∷◌, map, length, arith}
use Rattle.std.specs.Prelude.{fold, slice_index_or}
use Rattle.std.specs.List.{All}
use Rattle.fx_geom.specs.declared.boxes.Bounds.{Bounds}
use Rattle.fx_geom.specs.declared.lengths.Len.{Len}
use Rattle.fx_geom.specs.declared.lengths.Len.TheVariants.{Finite, Unbounded}
use Rattle.fx_geom.specs.declared.shapes.Axis.{Axis}
use Rattle.fx_geom.specs.declared.shapes.Axis.TheVariants.{Horizontal}
use Rattle.fx_geom.specs.declared.shapes.Size.{Size}
use Rattle.fx_geom.specs.Bounds.{smallest}
use Rattle.fx_geom.specs.Insets.{extent_of}
use Rattle.fx_geom.specs.Len.{limit_of}
use Rattle.fx_geom.specs.Size.{HasLengths, no_size}
use Rattle.node_tree.specs.Forest.{Forest}
use Rattle.node_tree.specs.Forest.Forest.{none, tree}
use Rattle.sliver_layout.specs.declared.protocol.Geometry.{Geometry}
use Rattle.sliver_layout.specs.declared.protocol.SliverBounds.{SliverBounds}
use Rattle.sliver_layout.specs.declared.protocol.Walk.{Walk}
use Rattle.sliver_layout.specs.Slivers.{geometry_of, walk_from, walk_past, view_of}
use Rattle.widget_model.specs.Look.{Look, stack, viewport}
use Rattle.plain_tree.specs.declared.laid.Frame.{Frame}
use Rattle.plain_tree.specs.declared.render.ParentData.{ParentData}
use Rattle.plain_tree.specs.Shown.{box_size}
use Rattle.plain_tree.specs.Render.{Render, render, Renders, no_renders, more_renders}
use Rattle.layout_form.specs.declared.asks.Ask.{Ask}
use Rattle.layout_form.specs.declared.asks.Ask.TheVariants.{AsBox, AsSliver}
use Rattle.layout_form.specs.Fits.{Fits}
use Rattle.layout_form.specs.Object.{Setting, Object, size_in, geometry_in, frame_geometry}
use Rattle.layout_form.specs.StackRule.{greater, whole_of, stack_size}
use Rattle.layout_form.specs.SliverRule.{view_size, unseen}
use Rattle.layout_form.specs.Layout.{object, objects as objects_of}
use Rattle.layout_form.specs.Protocol.{Found, everybody}
use Rattle.layout_form.specs.Frames.{frames_given, sizes_by, geometries_by, scrolls_by, found_makes, start_by, views_by, view_rest_by, geometries_from}
use Rattle.layout_form.specs.Framed.{framed, answers_of}
use Rattle.layout_form.proofs.Meets.{object_meets, within_lengths, view_within}
use Rattle.layout_form.proofs.Extents.{extent_small}
use Rattle.kind_rules.specs.Asked.{found_for, AreLong, IsOffset, IsWalk}
use Rattle.kind_rules.specs.Walks.{IsSeen}
use Rattle.layout_walk.specs.Node.{LayoutNode, member, members, tellings, stored, renders_in, frame_or}
use Rattle.layout_walk.specs.Rule.{LayoutParts, Lawful, AnswerAlike}
use Rattle.layout_walk.specs.Full.{objects}
use Rattle.layout_walk.specs.Measure.{full_extents, full_extent}
use Rattle.layout_walk.specs.Rules.{parts_of}
use Rattle.layout_walk.specs.Walk.{SameMembers}
use Rattle.layout_walk.proofs.Alike.{answers_alike}
use Rattle.layout_walk.proofs.Answering.{objects_are}
use Rattle.layout_walk.proofs.Viewing.{extents_same}
use Rattle.layout_rules.specs.declared.duties.Course.TheVariants.{Run, View}
use Rattle.layout_rules.specs.Ending.{CanMake}
use Rattle.layout_rules.specs.Courses.{cross_of, rule_course}
use Rattle.layout_rules.specs.Lawful.{AnswerAsRenders, FollowScrolls}

-- ---- sides are lengths

abbrev LongSizes : List Size → Type 0
LongSizes [] = Unit {0}
LongSizes (s ∷ ss) = HasLengths s × LongSizes ss

abbrev long_in : List (Option Frame) → List Size
long_in fs = sizes_by (frames_given fs)

frame_long : (s : Setting) (r : Render) (ask : Ask) → HasLengths (box_size (framed (object s r) ask))
unfolding object
frame_long s r (AsBox b) = within_lengths b (size_in ((object s r).in_bounds b)) ((object_meets s r).within b)
frame_long s (render n l d o k rs) (AsSliver b) = record { w = omega arith; h = omega arith }

answer_long : (s : Setting) (r : Render) (ask : Option Ask) (fs : List (Option Frame)) → LongSizes (long_in fs) → LongSizes (long_in (option_map (framed (object s r)) ask ∷ fs))
answer_long s r None fs all = all
answer_long s r (Some ask) fs all = (frame_long s r ask, all)

answers_long : (s : Setting) (asks : List (Option Ask)) (rs : Renders) → LongSizes (long_in (answers_of asks (map framed (objects_of s rs))))
unfolding objects_of
answers_long s asks no_renders = tt
answers_long s [] (more_renders r rs) = answers_long s [] rs
answers_long s (ask ∷ asks) (more_renders r rs) = answer_long s r ask (answers_of asks (map framed (objects_of s rs))) (answers_long s asks rs)

at_all : (s : Size) (ss : List Size) → HasLengths s → All HasLengths ss → (k : ℕ) (d : Size) → k < length (s ∷ ss) → HasLengths (slice_index_or (s ∷ ss) k d)
at_all s ss here all zero d h = here
at_all s ss here all (suc k) d h = all k d (omega arith)

all_more : (s : Size) (ss : List Size) → HasLengths s → All HasLengths ss → All HasLengths (s ∷ ss)
all_more s ss here all = λ k d h. at_all s ss here all k d h

long_at : (ss : List Size) → LongSizes ss → All HasLengths ss
long_at [] all = λ k d h. absurd (omega arith)
long_at (s ∷ ss) all = all_more s ss all.0 (long_at ss all.1)

sizes_long : (ask : Ask) (fs : List (Option Frame)) → LongSizes (long_in fs) → AreLong ask (frames_given fs)
sizes_long (AsBox b) fs long = long_at (long_in fs) long
sizes_long (AsSliver b) fs long = tt

greater_long : (a b : Size) → HasLengths a → HasLengths b → HasLengths (greater a b)
greater_long a b p q =
    let aw : a.w ≤ 2 ^ 40 = p.w in let ah : a.h ≤ 2 ^ 40 = p.h in let bw : b.w ≤ 2 ^ 40 = q.w in let bh : b.h ≤ 2 ^ 40 = q.h in
    record { w = omega arith; h = omega arith }

fold_long : (least : Size) (ss : List Size) → HasLengths least → LongSizes ss → HasLengths (fold greater least ss)
fold_long least [] h all = h
fold_long least (s ∷ ss) h all = fold_long (greater least s) ss (greater_long least s h all.0) all.1

smallest_long : (b : Bounds) → HasLengths (smallest b)
smallest_long b =
    let wo = b.width_in_order in let wr = b.width_in_range in let ho = b.height_in_order in let hr = b.height_in_range in
    record { w = omega arith; h = omega arith }

whole_long : (mw mh : Len) (b : Bounds) → limit_of mw ≤ 2 ^ 40 → limit_of mh ≤ 2 ^ 40 → HasLengths (whole_of mw mh b)
whole_long (Finite w) (Finite h) b p q = record { w = p; h = q }
whole_long (Finite w) Unbounded b p q = smallest_long b
whole_long Unbounded mh b p q = smallest_long b

stack_long : (b : Bounds) (ss : List Size) → LongSizes ss → HasLengths (stack_size b ss)
stack_long b [] all = whole_long b.max_w b.max_h b b.width_in_range b.height_in_range
stack_long b (s ∷ ss) all = fold_long (smallest b) (s ∷ ss) (smallest_long b) all

nothing_long : HasLengths no_size
nothing_long = record { w = omega arith; h = omega arith }

box_long : (l : Look) (o : ℕ) (b : Bounds) (fs : List (Option Frame)) → LongSizes (long_in fs) → HasLengths (found_makes l o b fs).size
box_long (stack m0 m1 m2) o b fs all = stack_long b (long_in fs) all
box_long l o b fs all = nothing_long

found_long : (l : Look) (o : ℕ) (ask : Ask) (fs : List (Option Frame)) → LongSizes (long_in fs) → HasLengths (found_for l o ask fs).size
found_long l o (AsBox b) fs long = box_long l o b fs long
found_long l o (AsSliver b) fs long = nothing_long

run_view : (axis : Axis) (b : Bounds) → View axis b ≡ Run (AsBox b) → ⊥
run_view axis b e = cc

no_walk : (l : Look) (ask : Ask) (start : ℕ) (fs : List Frame) → rule_course l ask ≡ Run ask → IsWalk l ask start fs
no_walk l (AsSliver b) start fs run = tt
no_walk l (AsBox b) start fs run = λ axis is. absurd (run_view axis b (ap (λ (x : Look). rule_course x (AsBox b)) (sym is) ∙ run))

held_walk : (l : Look) (ask : Ask) (start : ℕ) → IsWalk l ask start []
held_walk l (AsSliver b) start = tt
held_walk l (AsBox b) start = λ axis is. tt

-- a rule that is run without what is below
pub can_hold : (look : Look) (scroll : ℕ) (ask : Ask) → Fits look [] → IsOffset ask → CanMake look ask [] (found_for look scroll ask []) []
can_hold look scroll ask fits offset = record {
  fits = fits;
  sizes = sizes_long ask [] tt;
  stack = found_long look scroll ask [] tt;
  offset = offset;
  walk = held_walk look ask (found_for look scroll ask []).start;
}

full_long : AnswerAsRenders → (s : Setting) (asks : List (Option Ask)) (f : Forest LayoutNode) (fs : List (Option Frame)) → fs ≡ answers_of asks (objects (parts_of s) f) → LongSizes (long_in fs)
full_long by s asks f fs is =
    subst (λ (xs : List (Option Frame)). LongSizes (long_in xs)) (sym (is ∙ ap (λ (gs : List (Ask → Frame)). answers_of asks gs) (by s f))) (answers_long s asks (renders_in f))

-- a rule that isn't a Viewport's
pub can_run : AnswerAsRenders → (s : Setting) (look : Look) (scroll : ℕ) (ask : Ask) (ds : List ParentData) (first asks : List (Option Ask)) (f g : Forest LayoutNode) (known frames : List (Option Frame))
    → Fits look ds → IsOffset ask → rule_course look ask ≡ Run ask
    → known ≡ answers_of first (objects (parts_of s) f) → frames ≡ answers_of asks (objects (parts_of s) g)
    → CanMake look ask ds (found_for look scroll ask known) frames
can_run by s look scroll ask ds first asks f g known frames fits offset run is_known is_frames = record {
  fits = fits;
  sizes = sizes_long ask frames (full_long by s asks g frames is_frames);
  stack = found_long look scroll ask known (full_long by s first f known is_known);
  offset = offset;
  walk = no_walk look ask (found_for look scroll ask known).start (frames_given frames) run;
}

-- ---- a Viewport

abbrev scrolls_in : Setting → Axis → ℕ → Renders → List ℕ
scrolls_in s axis cross rs = map (λ (c : Object). (geometry_in (c.in_view (unseen axis cross))).scroll) (objects_of s rs)

next_range : (left at main scroll paint : ℕ) → left + (main - at) ≤ 2 ^ 40 → (left - scroll) + (main - (at + paint)) ≤ 2 ^ 40
next_range left at main scroll paint range = omega arith

walk_gives : (follow : FollowScrolls) (s : Setting) (axis : Axis) (main cross : ℕ) (walk : Walk) (rs : Renders) → walk.left + (main - walk.at) ≤ 2 ^ 40
    → geometries_by (frames_given (answers_of (views_by axis main cross walk (map (λ (n : ℕ). Some n) (scrolls_in s axis cross rs))) (map framed (objects_of s rs))))
    ≡ geometries_from axis main cross walk (scrolls_in s axis cross rs)
unfolding objects_of
walk_gives follow s axis main cross walk no_renders range = refl
walk_gives follow s axis main cross walk (more_renders r rs) range =
    let v = view_of axis main cross walk in
    let g = geometry_of v (geometry_in ((object s r).in_view (unseen axis cross))).scroll in
    let more = geometries_by (frames_given (answers_of (views_by axis main cross (walk_past walk g) (map (λ (n : ℕ). Some n) (scrolls_in s axis cross rs))) (map framed (objects_of s rs)))) in
    ap (λ (x : Geometry). x ∷ more) (follow s r v range)
    ∙ ap (λ (xs : List Geometry). g ∷ xs) (walk_gives follow s axis main cross (walk_past walk g) rs (next_range walk.left walk.at main g.scroll g.paint range))

paint_most : (b : SliverBounds) (n : ℕ) → (geometry_of b n).paint ≤ b.remaining
paint_most b n = omega arith

seen_from : (axis : Axis) (main cross : ℕ) (walk : Walk) (ns : List ℕ) → IsSeen main walk (geometries_from axis main cross walk ns)
seen_from axis main cross walk [] = tt
seen_from axis main cross walk (n ∷ ns) =
    let v = view_of axis main cross walk in
    (paint_most v n, seen_from axis main cross (walk_past walk (geometry_of v n)) ns)

abbrev axis_in : Look → Axis
axis_in (viewport axis) = axis
axis_in l = Horizontal

start_small : (axis : Axis) (scroll : ℕ) (b : Bounds) (ns : List ℕ) → start_by axis scroll b ns ≤ 2 ^ 40
start_small axis scroll b ns = omega arith

abbrev scrolls_of : Axis → ℕ → List (Ask → Frame) → List ℕ
scrolls_of axis cross gs = map (λ (g : Ask → Frame). (frame_geometry (g (AsSliver (unseen axis cross)))).scroll) gs

of_objects : (P : LayoutParts) (axis : Axis) (cross : ℕ) (f : Forest LayoutNode) → full_extents P axis cross f ≡ scrolls_of axis cross (objects P f)
unfolding objects
of_objects P axis cross none = refl
of_objects P axis cross (tree h v kids rest) = ap (λ (ns : List ℕ). full_extent P axis cross v kids ∷ ns) (of_objects P axis cross rest)

of_framed : (axis : Axis) (cross : ℕ) (cs : List Object) → scrolls_of axis cross (map framed cs) ≡ map (λ (c : Object). (geometry_in (c.in_view (unseen axis cross))).scroll) cs
of_framed axis cross [] = refl
of_framed axis cross (c ∷ cs) = ap (λ (ns : List ℕ). (geometry_in (c.in_view (unseen axis cross))).scroll ∷ ns) (of_framed axis cross cs)

-- how far its slivers can be scrolled through, by their render nodes
extents_are : (by : AnswerAsRenders) (s : Setting) (axis : Axis) (cross : ℕ) (f : Forest LayoutNode)
    → full_extents (parts_of s) axis cross f ≡ scrolls_in s axis cross (renders_in f)
extents_are by s axis cross f =
    of_objects (parts_of s) axis cross f
    ∙ ap (λ (gs : List (Ask → Frame)). scrolls_of axis cross gs) (by s f)
    ∙ of_framed axis cross (objects_of s (renders_in f))

-- the stored frames of slivers that are laid out in such views
stored_scrolls : (s : Setting) → Lawful (parts_of s) → (axis : Axis) (main cross : ℕ) (walk : Walk) (f : Forest LayoutNode)
    → AnswerAlike (views_by axis main cross walk (map (λ (n : ℕ). Some n) (full_extents (parts_of s) axis cross f))) (objects (parts_of s) f) (stored f)
    → scrolls_by (answers_of (everybody (AsSliver (unseen axis cross)) (tellings f)) (stored f)) ≡ full_extents (parts_of s) axis cross f
unfolding objects
stored_scrolls s law axis main cross walk none alike = refl
stored_scrolls s law axis main cross walk (tree h v kids rest) alike =
    let P = parts_of s in
    let view = view_of axis main cross walk in
    let g = geometry_of view (full_extent P axis cross v kids) in
    let object_is = law.object (member v) v.scroll (λ ask. P.liked v.look ask (members kids)) (tellings kids) (objects P kids) (objects_are P law kids) in
    let one : (frame_geometry (frame_or v.frame)).scroll ≡ full_extent P axis cross v kids =
    ap (λ (f : Frame). (frame_geometry f).scroll) (sym alike.0) ∙ object_is.steady view (unseen axis cross) refl refl in
    let more = scrolls_by (answers_of (everybody (AsSliver (unseen axis cross)) (tellings rest)) (stored rest)) in
    ap (λ (n : ℕ). n ∷ more) one
    ∙ ap (λ (ns : List ℕ). full_extent P axis cross v kids ∷ ns) (stored_scrolls s law axis main cross (walk_past walk g) rest alike.1)

found_view : (look : Look) (axis : Axis) (scroll : ℕ) (b : Bounds) (known : List (Option Frame)) (ns : List ℕ) → look ≡ viewport axis → scrolls_by known ≡ ns
    → found_for look scroll (AsBox b) known ≡ record { size = no_size; start = start_by axis scroll b ns }
found_view look axis scroll b known ns is scrolls =
    ap (λ (l : Look). found_for l scroll (AsBox b) known) is ∙ ap (λ (ms : List ℕ). record { size = no_size; start = start_by axis scroll b ms }) scrolls

pub can_view : AnswerAsRenders → FollowScrolls → (s : Setting) → Lawful (parts_of s) → (look : Look) (scroll : ℕ) (axis : Axis) (b : Bounds) (ds : List ParentData) (kids mid : Forest LayoutNode)
    (rest : List (Option Ask)) (known frames : List (Option Frame))
    → look ≡ viewport axis → Fits look ds → SameMembers kids mid
    → rest ≡ view_rest_by axis (start_by axis scroll b (full_extents (parts_of s) axis (cross_of axis b) kids)) b (map (λ (n : ℕ). Some n) (full_extents (parts_of s) axis (cross_of axis b) kids))
    → AnswerAlike rest (objects (parts_of s) mid) (stored mid)
    → known ≡ answers_of (everybody (AsSliver (unseen axis (cross_of axis b))) (tellings mid)) (stored mid) → frames ≡ answers_of rest (stored mid)
    → CanMake look (AsBox b) ds (found_for look scroll (AsBox b) known) frames
can_view by follow s law look scroll axis b ds kids mid rest known frames is fits same is_rest alike is_known is_frames =
    let P = parts_of s in
    let main = extent_of (view_size b) axis in
    let cross = cross_of axis b in
    let ns = full_extents P axis cross kids in
    let ms = full_extents P axis cross mid in
    let start = start_by axis scroll b ns in
    let extents : ns ≡ ms = extents_same P law axis cross kids mid same in
    let views : rest ≡ views_by axis main cross (walk_from start) (map (λ (n : ℕ). Some n) ms) =
    is_rest ∙ ap (λ (xs : List ℕ). views_by axis main cross (walk_from start) (map (λ (n : ℕ). Some n) xs)) extents in
    let scrolls : scrolls_by known ≡ ns =
    ap scrolls_by is_known
    ∙ stored_scrolls s law axis main cross (walk_from start) mid (subst (λ (xs : List (Option Ask)). AnswerAlike xs (objects P mid) (stored mid)) views alike)
    ∙ sym extents in
    let found : found_for look scroll (AsBox b) known ≡ record { size = no_size; start = start } = found_view look axis scroll b known ns is scrolls in
    let full : frames ≡ answers_of rest (objects P mid) = is_frames ∙ sym (answers_alike rest (objects P mid) (stored mid) alike) in
    let rs = renders_in mid in
    let range : start + (main - 0) ≤ 2 ^ 40 =
    let long : main ≤ 2 ^ 40 = extent_small (view_size b) axis (within_lengths b (view_size b) (view_within b)) in omega (arith, long) in
    let gives : geometries_by (frames_given frames) ≡ geometries_from axis main cross (walk_from start) (scrolls_in s axis cross rs) =
    ap (λ (fs : List (Option Frame)). geometries_by (frames_given fs)) (full ∙ ap (λ (gs : List (Ask → Frame)). answers_of rest gs) (by s mid))
    ∙ ap (λ (xs : List (Option Ask)). geometries_by (frames_given (answers_of xs (map framed (objects_of s rs)))))
    (views ∙ ap (λ (xs : List ℕ). views_by axis main cross (walk_from start) (map (λ (n : ℕ). Some n) xs)) (extents_are by s axis cross mid))
    ∙ walk_gives follow s axis main cross (walk_from start) rs range in
    record {
      fits = fits;
      sizes = sizes_long (AsBox b) frames (full_long by s rest mid frames full);
      stack = subst (λ (f : Found). HasLengths f.size) (sym found) nothing_long;
      offset = tt;
      walk = λ other is_other.
          let here : IsSeen main (walk_from (found_for look scroll (AsBox b) known).start) (geometries_by (frames_given frames)) =
          subst (λ (f : Found). IsSeen main (walk_from f.start) (geometries_by (frames_given frames))) (sym found)
          (subst (λ (gs : List Geometry). IsSeen main (walk_from start) gs) (sym gives) (seen_from axis main cross (walk_from start) (scrolls_in s axis cross rs))) in
          subst (λ (x : Axis). IsSeen (extent_of (view_size b) x) (walk_from (found_for look scroll (AsBox b) known).start) (geometries_by (frames_given frames)))
          (ap axis_in (sym is ∙ is_other)) here;
    }
