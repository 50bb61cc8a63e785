-- Each box takes a size that its bounds allow.
use Rattle.std.proofs.Common.{◌≡◌, ap, refl, ℕ, ◌≤◌, ◌^◌, Bool, true, false, cond, Option, Some, None, List, [], ◌∷◌, map, arith, if◌then◌else◌}
use Rattle.std.specs.Prelude.{fold, ℤ, unwrap_or, option_map}
use Rattle.std.specs.List.{filter}
use Rattle.fx_geom.specs.declared.boxes.Bounds.{Bounds}
use Rattle.fx_geom.specs.declared.lengths.Len.{Len}
use Rattle.fx_geom.specs.declared.lengths.Len.TheVariants.{Finite, Unbounded}
use Rattle.fx_geom.specs.declared.shapes.Axis.TheVariants.{Horizontal, Vertical}
use Rattle.fx_geom.specs.declared.shapes.Insets.{Insets}
use Rattle.fx_geom.specs.declared.shapes.Size.{Size}
use Rattle.fx_geom.specs.declared.words.StackFit.{StackFit}
use Rattle.fx_geom.specs.declared.words.StackFit.TheVariants.{Loose, Expand, Passthrough}
use Rattle.fx_geom.specs.Along.{is_tight_along}
use Rattle.fx_geom.specs.Bounds.{IsWithin, LiesIn, constrain, smallest, tighten, enforce}
use Rattle.fx_geom.specs.Len.{limit_of, raised, finite_or}
use Rattle.fx_geom.specs.Insets.{inflated}
use Rattle.fx_geom.specs.Size.{no_size, HasLengths}
use Rattle.fx_geom.proofs.Within.{enforce-LiesIn, tighten-LiesIn}
use Rattle.delegates.specs.Meaning.{Meaning}
use Rattle.delegates.specs.Answers.{own_size_of}
use Rattle.delegates.specs.Table.{meaning_of}
use Rattle.widget_model.specs.Look.{Look, sized_box, constrained_box, padding, align, colored_box, text, row, column, wrap, table, stack, flexible, positioned, opacity, clip_rect, repaint_boundary, merge_semantics, intrinsic_width, intrinsic_height, offstage, ignore_pointer, absorb_pointer, detector, semantics, exclude_semantics, custom_paint, custom_layout, viewport, sliver_to_box, sliver_padding, sliver_fixed, sliver_lazy, keep, inherit, component}
use Rattle.plain_tree.specs.Render.{Render, render, Renders, no_renders, more_renders}
use Rattle.layout_form.specs.Object.{Setting, Object, size_in, only_of}
use Rattle.layout_form.specs.Single.{Around, single, passing, within_own, sized_bounds, constrained_bounds, padded_box, aligned_box, hidden_box, insets_of, as_wide, as_high, offstage_box, own_size_by, painted_box, delegated_box}
use Rattle.layout_form.specs.Intrinsic.{child_extent}
use Rattle.layout_form.specs.StackRule.{is_free, free_bounds, free_sizes, greater, whole_of, stack_size}
use Rattle.layout_form.specs.SliverRule.{view_size}
use Rattle.layout_form.specs.Layout.{box_rule, object, objects}

-- ---- bounds

pub smallest_within : (b : Bounds) → IsWithin b (smallest b)
smallest_within b = record { least_w = omega arith; most_w = b.width_in_order; least_h = omega arith; most_h = b.height_in_order }

pub constrain_within : (b : Bounds) (s : Size) → IsWithin b (constrain b s)
constrain_within b s =
    let w = b.width_in_order in
    let h = b.height_in_order in
    record { least_w = omega arith; most_w = omega arith; least_h = omega arith; most_h = omega arith }

pub within_outer : (inner outer : Bounds) (s : Size) → LiesIn inner outer → IsWithin inner s → IsWithin outer s
within_outer inner outer s lies within = record { least_w = omega arith; most_w = omega arith; least_h = omega arith; most_h = omega arith }

pub same_lies : (b : Bounds) → LiesIn b b
same_lies b = record { least_w = omega arith; most_w = omega arith; least_h = omega arith; most_h = omega arith }

pub within_lengths : (b : Bounds) (s : Size) → IsWithin b s → HasLengths s
within_lengths b s within =
    let w = b.width_in_range in
    let h = b.height_in_range in
    record { w = omega arith; h = omega arith }

-- ---- one child

-- an object takes, as a box, what bounds allow
pub record Meets (c : Object) : Type 0 where
  pub within : (b : Bounds) → IsWithin b (size_in (c.in_bounds b))

abbrev pub AllMeet : List Object → Type 0
AllMeet [] = Unit {0}
AllMeet (c ∷ cs) = Meets c × AllMeet cs

passing_meets : (inner b : Bounds) (cs : List Object) → LiesIn inner b → AllMeet cs → IsWithin b (single (passing inner b) (only_of cs)).size
passing_meets inner b [] lies all = smallest_within b
passing_meets inner b (c ∷ cs) lies all = within_outer inner b (size_in (c.in_bounds inner)) lies (all.0.within inner)

own_meets : (own b : Bounds) (cs : List Object) → AllMeet cs → IsWithin b (single (within_own own b) (only_of cs)).size
own_meets own b [] all = within_outer (enforce own b) b _ (enforce-LiesIn own b) (constrain_within (enforce own b) _)
own_meets own b (c ∷ cs) all = within_outer (enforce own b) b (size_in (c.in_bounds (enforce own b))) (enforce-LiesIn own b) (all.0.within (enforce own b))

-- a box whose size is always constrained
constrained_meets : (a : Around) (b : Bounds) (cs : List Object) → ((child : Option Size) → IsWithin b (a.size child)) → IsWithin b (single a (only_of cs)).size
constrained_meets a b [] always = always None
constrained_meets a b (c ∷ cs) always = always (Some (size_in (c.in_bounds a.inner)))

padding_meets : (i : Insets) (b : Bounds) (cs : List Object) → IsWithin b (single (padded_box i b) (only_of cs)).size
padding_meets i b cs = constrained_meets (padded_box i b) b cs (λ child. constrain_within b (inflated i (unwrap_or child no_size)))

align_meets : (ax ay : ℤ) (b : Bounds) (cs : List Object) → IsWithin b (single (aligned_box ax ay b) (only_of cs)).size
align_meets ax ay b cs = constrained_meets (aligned_box ax ay b) b cs
    (λ child. constrain_within b (record { w = finite_or b.max_w (unwrap_or child no_size).w; h = finite_or b.max_h (unwrap_or child no_size).h }))

pub wide_lies : (t : Bool) (b : Bounds) (w : ℕ) → LiesIn (if t then b else tighten b (Some w) None) b
wide_lies true b w = same_lies b
wide_lies false b w = tighten-LiesIn b (Some w) None

pub high_lies : (t : Bool) (b : Bounds) (h : ℕ) → LiesIn (if t then b else tighten b None (Some h)) b
high_lies true b h = same_lies b
high_lies false b h = tighten-LiesIn b None (Some h)

wide_meets : (b : Bounds) (w : ℕ) (cs : List Object) → AllMeet cs → IsWithin b (single (passing (as_wide b w) b) (only_of cs)).size
wide_meets b w cs all = passing_meets (as_wide b w) b cs (wide_lies (is_tight_along b Horizontal) b w) all

high_meets : (b : Bounds) (h : ℕ) (cs : List Object) → AllMeet cs → IsWithin b (single (passing (as_high b h) b) (only_of cs)).size
high_meets b h cs all = passing_meets (as_high b h) b cs (high_lies (is_tight_along b Vertical) b h) all

pub own_size_within : (own : Option Size) (b : Bounds) → IsWithin b (own_size_by own b)
own_size_within None b = smallest_within b
own_size_within (Some own) b = constrain_within b own

painted_meets : (m : Option Meaning) (b : Bounds) (cs : List Object) → AllMeet cs → IsWithin b (single (painted_box m b) (only_of cs)).size
painted_meets m b [] all = own_size_within (option_map (λ (k : Meaning). own_size_of k b) m) b
painted_meets m b (c ∷ cs) all = all.0.within b

delegated_meets : (m : Option Meaning) (b : Bounds) (cs : List Object) → AllMeet cs → IsWithin b (single (delegated_box m b) (only_of cs)).size
delegated_meets None b cs all = passing_meets b b cs (same_lies b) all
delegated_meets (Some m) b cs all = constrained_meets (delegated_box (Some m) b) b cs (λ child. constrain_within b (own_size_of m b))

offstage_meets : (t : Bool) (b : Bounds) (cs : List Object) → AllMeet cs → IsWithin b (single (offstage_box t b) (only_of cs)).size
offstage_meets true b cs all = constrained_meets (hidden_box b) b cs (λ child. smallest_within b)
offstage_meets false b cs all = passing_meets b b cs (same_lies b) all

-- ---- Stack

-- a size is at most the maxima
pub record UpTo (b : Bounds) (s : Size) : Type 0 where
  pub w : s.w ≤ limit_of b.max_w
  pub h : s.h ≤ limit_of b.max_h

abbrev pub AllUpTo : Bounds → List Size → Type 0
AllUpTo b [] = Unit {0}
AllUpTo b (s ∷ ss) = UpTo b s × AllUpTo b ss

greatest_within : (b : Bounds) (least : Size) (ss : List Size) → IsWithin b least → AllUpTo b ss → IsWithin b (fold greater least ss)
greatest_within b least [] within all = within
greatest_within b least (s ∷ ss) within all =
    let up : UpTo b s = all.0 in
    greatest_within b (greater least s) ss
    (record { least_w = omega arith; most_w = omega arith; least_h = omega arith; most_h = omega arith }) all.1

whole_within : (b : Bounds) (w h : Len) → b.max_w ≡ w → b.max_h ≡ h → IsWithin b (whole_of w h b)
whole_within b (Finite w) (Finite h) p q =
    let limit_w : limit_of b.max_w ≡ w = ap limit_of p in
    let limit_h : limit_of b.max_h ≡ h = ap limit_of q in
    let order_w = b.width_in_order in
    let order_h = b.height_in_order in
    record { least_w = omega arith; most_w = omega arith; least_h = omega arith; most_h = omega arith }
whole_within b (Finite w) Unbounded p q = smallest_within b
whole_within b Unbounded h p q = smallest_within b

raised_up : (low : ℕ) (l : Len) → low ≤ limit_of l → limit_of l ≤ 2 ^ 40 → limit_of (raised low l) ≤ limit_of l
raised_up low (Finite n) order range = omega arith
raised_up low Unbounded order range = omega arith

finite_up : (l : Len) → limit_of l ≤ 2 ^ 40 → finite_or l 0 ≤ limit_of l
finite_up (Finite n) range = omega arith
finite_up Unbounded range = omega arith

pub free_up : (fit : StackFit) (b : Bounds) (s : Size) → IsWithin (free_bounds fit b) s → UpTo b s
free_up Loose b s within =
    let w : limit_of (raised 0 b.max_w) ≤ limit_of b.max_w = raised_up 0 b.max_w (omega arith) b.width_in_range in
    let h : limit_of (raised 0 b.max_h) ≤ limit_of b.max_h = raised_up 0 b.max_h (omega arith) b.height_in_range in
    let most_w = within.most_w in
    let most_h = within.most_h in
    record { w = omega arith; h = omega arith }
free_up Expand b s within =
    let w : limit_of (raised (finite_or b.max_w 0) b.max_w) ≤ limit_of b.max_w = raised_up (finite_or b.max_w 0) b.max_w (finite_up b.max_w b.width_in_range) b.width_in_range in
    let h : limit_of (raised (finite_or b.max_h 0) b.max_h) ≤ limit_of b.max_h = raised_up (finite_or b.max_h 0) b.max_h (finite_up b.max_h b.height_in_range) b.height_in_range in
    let most_w = within.most_w in
    let most_h = within.most_h in
    record { w = omega arith; h = omega arith }
free_up Passthrough b s within = record { w = within.most_w; h = within.most_h }

free_one : (t : Bool) (fit : StackFit) (b : Bounds) (c : Object) (cs : List Object) → Meets c
    → AllUpTo b (map (λ (c : Object). size_in (c.in_bounds (free_bounds fit b))) cs)
    → AllUpTo b (map (λ (c : Object). size_in (c.in_bounds (free_bounds fit b))) (cond t (c ∷ cs) cs))
free_one true fit b c cs meets all = (free_up fit b _ (meets.within (free_bounds fit b)), all)
free_one false fit b c cs meets all = all

free_all : (fit : StackFit) (b : Bounds) (cs : List Object) → AllMeet cs → AllUpTo b (free_sizes (free_bounds fit b) cs)
free_all fit b [] all = tt
free_all fit b (c ∷ cs) all =
    free_one (is_free c.parent_data) fit b c (filter (λ (c : Object). is_free c.parent_data) cs) all.0 (free_all fit b cs all.1)

pub stack_within : (b : Bounds) (ss : List Size) → AllUpTo b ss → IsWithin b (stack_size b ss)
stack_within b [] all = whole_within b b.max_w b.max_h refl refl
stack_within b (s ∷ ss) all = greatest_within b (smallest b) (s ∷ ss) (smallest_within b) all

-- ---- Viewport

finite_within : (low : ℕ) (l : Len) → low ≤ limit_of l → (low ≤ finite_or l low) × (finite_or l low ≤ limit_of l)
finite_within low (Finite n) order = (order, omega arith)
finite_within low Unbounded order = (omega arith, order)

pub view_within : (b : Bounds) → IsWithin b (view_size b)
view_within b =
    let w = finite_within b.min_w b.max_w b.width_in_order in
    let h = finite_within b.min_h b.max_h b.height_in_order in
    record { least_w = w.0; most_w = w.1; least_h = h.0; most_h = h.1 }

-- ---- all kinds

pub rule_meets : (s : Setting) (l : Look) (o : ℕ) (b : Bounds) (cs : List Object) → AllMeet cs → IsWithin b (box_rule s l o b cs).size
rule_meets s (sized_box m0 m1) o b cs all = own_meets (sized_bounds m0 m1) b cs all
rule_meets s (constrained_box m0 m1 m2 m3) o b cs all = own_meets (constrained_bounds m0 m1 m2 m3) b cs all
rule_meets s (padding m0 m1 m2 m3) o b cs all = padding_meets (insets_of m0 m1 m2 m3) b cs
rule_meets s (align m0 m1) o b cs all = align_meets m0 m1 b cs
rule_meets s (colored_box m0) o b cs all = passing_meets b b cs (same_lies b) all
rule_meets s (text m0 m1) o b cs all = constrain_within b _
rule_meets s (row m0 m1 m2) o b cs all = constrain_within b _
rule_meets s (column m0 m1 m2) o b cs all = constrain_within b _
rule_meets s (wrap m0 m1) o b cs all = constrain_within b _
rule_meets s (table m0) o b cs all = constrain_within b _
rule_meets s (stack m0 m1 m2) o b cs all = stack_within b (free_sizes (free_bounds m2 b) cs) (free_all m2 b cs all)
rule_meets s (flexible m0 m1) o b cs all = smallest_within b
rule_meets s (positioned m0 m1 m2 m3 m4 m5) o b cs all = smallest_within b
rule_meets s (opacity m0) o b cs all = passing_meets b b cs (same_lies b) all
rule_meets s clip_rect o b cs all = passing_meets b b cs (same_lies b) all
rule_meets s repaint_boundary o b cs all = passing_meets b b cs (same_lies b) all
rule_meets s merge_semantics o b cs all = passing_meets b b cs (same_lies b) all
rule_meets s intrinsic_width o b cs all = wide_meets b (child_extent Horizontal b.max_h (only_of cs)) cs all
rule_meets s intrinsic_height o b cs all = high_meets b (child_extent Vertical b.max_w (only_of cs)) cs all
rule_meets s (offstage m0) o b cs all = offstage_meets m0 b cs all
rule_meets s (ignore_pointer m0) o b cs all = passing_meets b b cs (same_lies b) all
rule_meets s (absorb_pointer m0) o b cs all = passing_meets b b cs (same_lies b) all
rule_meets s (detector m0 m1 m2 m3 m4 m5) o b cs all = passing_meets b b cs (same_lies b) all
rule_meets s (semantics m0 m1 m2) o b cs all = passing_meets b b cs (same_lies b) all
rule_meets s (exclude_semantics m0) o b cs all = passing_meets b b cs (same_lies b) all
rule_meets s (custom_paint m0) o b cs all = painted_meets (meaning_of s.delegates m0) b cs all
rule_meets s (custom_layout m0) o b cs all = delegated_meets (meaning_of s.delegates m0) b cs all
rule_meets s (viewport m0) o b cs all = view_within b
rule_meets s sliver_to_box o b cs all = smallest_within b
rule_meets s (sliver_padding m0 m1 m2 m3) o b cs all = smallest_within b
rule_meets s (sliver_fixed m0) o b cs all = smallest_within b
rule_meets s (sliver_lazy m0) o b cs all = smallest_within b
rule_meets s (keep m0) o b cs all = smallest_within b
rule_meets s (inherit m0 m1) o b cs all = smallest_within b
rule_meets s (component m0 m1 m2) o b cs all = smallest_within b

mutual
  unfolding object objects

  pub object_meets : (s : Setting) (r : Render) → Meets (object s r)
  object_meets s (render n l d o c rs) = record { within = λ b. rule_meets s l o b (objects s rs) (objects_meet s rs) }

  pub objects_meet : (s : Setting) (rs : Renders) → AllMeet (objects s rs)
  objects_meet s no_renders = tt
  objects_meet s (more_renders r rs) = (object_meets s r, objects_meet s rs)
