-- Where children keep to the bounds that they are asked in, so does what is made of them; and where the bounds alone say it.
use Rattle.std.proofs.Common.{◌≡◌, ap, refl, ◌∙◌, ℕ, ◌≤◌, ◌^◌, Bool, true, false, ◌&&◌, Option, Some, None, List, [], ◌∷◌, length, arith, if◌then◌else◌}
use Rattle.std.specs.Prelude.{unwrap_or, option_map}
use Rattle.std.proofs.lemmas.Bool.{eqb-true}
use Rattle.fx_geom.specs.declared.boxes.Bounds.{Bounds}
use Rattle.fx_geom.specs.declared.lengths.Len.{Len}
use Rattle.fx_geom.specs.declared.lengths.Len.TheVariants.{Finite, Unbounded}
use Rattle.fx_geom.specs.declared.shapes.Axis.TheVariants.{Horizontal, Vertical}
use Rattle.fx_geom.specs.declared.shapes.Insets.{Insets}
use Rattle.fx_geom.specs.declared.shapes.Size.{Size}
use Rattle.fx_geom.specs.declared.words.StackFit.{StackFit}
use Rattle.fx_geom.specs.Along.{is_tight_along}
use Rattle.fx_geom.specs.Bounds.{IsWithin, LiesIn, smallest, is_tight, constrain, enforce}
use Rattle.fx_geom.specs.Insets.{inflated}
use Rattle.fx_geom.specs.Len.{limit_of, is_tight_side, finite_or}
use Rattle.fx_geom.specs.Size.{no_size}
use Rattle.fx_geom.proofs.Within.{enforce-LiesIn}
use Rattle.sliver_layout.specs.declared.protocol.SliverBounds.{SliverBounds}
use Rattle.delegates.specs.Meaning.{Meaning}
use Rattle.delegates.specs.Answers.{own_size_of}
use Rattle.delegates.specs.Table.{meaning_of}
use Rattle.widget_model.specs.Look.{Look, sized_box, constrained_box, padding, align, colored_box, text, row, column, wrap, table, stack, flexible, positioned, opacity, clip_rect, repaint_boundary, merge_semantics, intrinsic_width, intrinsic_height, offstage, ignore_pointer, absorb_pointer, detector, semantics, exclude_semantics, custom_paint, custom_layout, viewport, sliver_to_box, sliver_padding, sliver_fixed, sliver_lazy, keep, inherit, component}
use Rattle.plain_tree.specs.declared.laid.Frame.{Frame}
use Rattle.plain_tree.specs.declared.render.ParentData.{ParentData}
use Rattle.plain_tree.specs.Shown.{box_size}
use Rattle.layout_form.specs.declared.asks.Ask.{Ask}
use Rattle.layout_form.specs.declared.asks.Ask.TheVariants.{AsBox}
use Rattle.layout_form.specs.Object.{Setting}
use Rattle.layout_form.specs.Single.{Around, as_wide, as_high, delegated_box, hidden_box, offstage_box, painted_box, sized_bounds, constrained_bounds, insets_of, around}
use Rattle.layout_form.specs.StackRule.{is_free, free_bounds, stack_size}
use Rattle.layout_form.specs.SliverRule.{box_bounds}
use Rattle.layout_form.specs.Protocol.{ask_if, asks_where, first_alone}
use Rattle.layout_form.specs.Frames.{frames_given, sizes_by, single_makes, to_box_makes, padding_makes, sliver_makes, others_by, sliver_asks}
use Rattle.layout_form.specs.Framed.{answers_of, last_asks, box_asks, box_given, sliver_given, IsWithinAsk, AllWithinAsks, tight_size, fixed_size, is_blind}
use Rattle.layout_form.proofs.Meets.{smallest_within, constrain_within, within_outer, within_lengths, same_lies, wide_lies, high_lies, own_size_within, AllUpTo, free_up, stack_within, view_within}
use Rattle.layout_form.proofs.Extents.{extent_small, GivesWithin, nothing_within}

-- ---- boxes

-- the size of a child, if there is one, lies in bounds
abbrev Allowed : Bounds → Option Size → Type 0
Allowed b None = Unit {0}
Allowed b (Some size) = IsWithin b size

passing_within : (inner b : Bounds) (child : Option Size) → LiesIn inner b → Allowed inner child → IsWithin b (unwrap_or child (smallest b))
passing_within inner b None lies within = smallest_within b
passing_within inner b (Some size) lies within = within_outer inner b size lies within

own_within : (own b : Bounds) (child : Option Size) → Allowed (enforce own b) child → IsWithin b (unwrap_or child (constrain (enforce own b) no_size))
own_within own b None within = within_outer (enforce own b) b (constrain (enforce own b) no_size) (enforce-LiesIn own b) (constrain_within (enforce own b) no_size)
own_within own b (Some size) within = within_outer (enforce own b) b size (enforce-LiesIn own b) within

painted_within : (m : Option Meaning) (b : Bounds) (child : Option Size) → Allowed b child → IsWithin b ((painted_box m b).size child)
painted_within m b None within = own_size_within (option_map (λ (k : Meaning). own_size_of k b) m) b
painted_within m b (Some size) within = within

delegated_within : (m : Option Meaning) (b : Bounds) (child : Option Size) → Allowed (delegated_box m b).inner child → IsWithin b ((delegated_box m b).size child)
delegated_within None b child within = passing_within b b child (same_lies b) within
delegated_within (Some m) b child within = constrain_within b (own_size_of m b)

offstage_within : (t : Bool) (b : Bounds) (child : Option Size) → Allowed (offstage_box t b).inner child → IsWithin b ((offstage_box t b).size child)
offstage_within true b child within = smallest_within b
offstage_within false b child within = passing_within b b child (same_lies b) within

-- a kind with at most one child
single_meets : (a : Around) (inner b : Bounds) (gs : List (Ask → Frame)) → ((child : Option Size) → Allowed inner child → IsWithin b (a.size child))
    → AllWithinAsks (first_alone (AsBox inner)) gs → IsWithin b (single_makes a (frames_given (answers_of (first_alone (AsBox inner)) gs))).size
single_meets a inner b [] always all = always None tt
single_meets a inner b (g ∷ gs) always all = always (Some (box_size (g (AsBox inner)))) all.0

-- those that were asked first are asked so in the end
first_kept : (first : List (Option Ask)) (bs : List Bounds) (gs : List (Ask → Frame))
    → AllWithinAsks (last_asks first (others_by bs (answers_of first gs))) gs → AllWithinAsks first gs
first_kept [] bs gs all = tt
first_kept (ask ∷ first) bs [] all = tt
first_kept (ask ∷ first) [] (g ∷ gs) all = all
first_kept (None ∷ first) (b ∷ bs) (g ∷ gs) all = (tt, first_kept first bs gs all.1)
first_kept (Some ask ∷ first) (b ∷ bs) (g ∷ gs) all = (all.0, first_kept first bs gs all.1)

one_up : (t : Bool) (fit : StackFit) (b : Bounds) (g : Ask → Frame) (asks : List (Option Ask)) (gs : List (Ask → Frame))
    → IsWithinAsk (ask_if t (AsBox (free_bounds fit b))) g → AllUpTo b (sizes_by (frames_given (answers_of asks gs)))
    → AllUpTo b (sizes_by (frames_given (answers_of (ask_if t (AsBox (free_bounds fit b)) ∷ asks) (g ∷ gs))))
one_up true fit b g asks gs within all = (free_up fit b (box_size (g (AsBox (free_bounds fit b)))) within, all)
one_up false fit b g asks gs within all = all

free_asks : StackFit → Bounds → List ParentData → List (Option Ask)
free_asks fit b ds = asks_where is_free (AsBox (free_bounds fit b)) ds

all_up : (fit : StackFit) (b : Bounds) (ds : List ParentData) (gs : List (Ask → Frame)) → AllWithinAsks (free_asks fit b ds) gs
    → AllUpTo b (sizes_by (frames_given (answers_of (free_asks fit b ds) gs)))
unfolding free_asks
all_up fit b [] [] all = tt
all_up fit b [] (g ∷ gs) all = all_up fit b [] gs tt
all_up fit b (d ∷ ds) [] all = tt
all_up fit b (d ∷ ds) (g ∷ gs) all = one_up (is_free d) fit b g (free_asks fit b ds) gs all.0 (all_up fit b ds gs all.1)

stack_up : (fit : StackFit) (b : Bounds) (ds : List ParentData) (gs : List (Ask → Frame)) (bs : List Bounds)
    → let first = asks_where is_free (AsBox (free_bounds fit b)) ds in
    AllWithinAsks (last_asks first (others_by bs (answers_of first gs))) gs → IsWithin b (stack_size b (sizes_by (frames_given (answers_of first gs))))
unfolding free_asks
stack_up fit b ds gs bs all =
    stack_within b (sizes_by (frames_given (answers_of (free_asks fit b ds) gs)))
    (all_up fit b ds gs (first_kept (free_asks fit b ds) bs gs all))

pub boxes_meet : (s : Setting) (l : Look) (o : ℕ) (b : Bounds) (liked : ℕ) (ds : List ParentData) (gs : List (Ask → Frame))
    → AllWithinAsks (box_asks s l o b liked ds gs) gs → IsWithin b (box_given s l o b liked ds gs).size
boxes_meet s (sized_box m0 m1) o b liked ds gs all = single_meets (around s (sized_box m0 m1) b 0) (around s (sized_box m0 m1) b liked).inner b gs (λ child within. own_within (sized_bounds m0 m1) b child within) all
boxes_meet s (constrained_box m0 m1 m2 m3) o b liked ds gs all = single_meets (around s (constrained_box m0 m1 m2 m3) b 0) (around s (constrained_box m0 m1 m2 m3) b liked).inner b gs (λ child within. own_within (constrained_bounds m0 m1 m2 m3) b child within) all
boxes_meet s (padding m0 m1 m2 m3) o b liked ds gs all = single_meets (around s (padding m0 m1 m2 m3) b 0) (around s (padding m0 m1 m2 m3) b liked).inner b gs (λ child within. constrain_within b (inflated (insets_of m0 m1 m2 m3) (unwrap_or child no_size))) all
boxes_meet s (align m0 m1) o b liked ds gs all = single_meets (around s (align m0 m1) b 0) (around s (align m0 m1) b liked).inner b gs (λ child within. constrain_within b (record { w = finite_or b.max_w (unwrap_or child no_size).w; h = finite_or b.max_h (unwrap_or child no_size).h })) all
boxes_meet s (colored_box m0) o b liked ds gs all = single_meets (around s (colored_box m0) b 0) (around s (colored_box m0) b liked).inner b gs (λ child within. passing_within b b child (same_lies b) within) all
boxes_meet s (text m0 m1) o b liked ds gs all = constrain_within b _
boxes_meet s (row m0 m1 m2) o b liked ds gs all = constrain_within b _
boxes_meet s (column m0 m1 m2) o b liked ds gs all = constrain_within b _
boxes_meet s (wrap m0 m1) o b liked ds gs all = constrain_within b _
boxes_meet s (table m0) o b liked ds gs all = constrain_within b _
boxes_meet s (stack m0 m1 m2) o b liked ds gs all = stack_up m2 b ds gs _ all
boxes_meet s (flexible m0 m1) o b liked ds gs all = smallest_within b
boxes_meet s (positioned m0 m1 m2 m3 m4 m5) o b liked ds gs all = smallest_within b
boxes_meet s (opacity m0) o b liked ds gs all = single_meets (around s (opacity m0) b 0) (around s (opacity m0) b liked).inner b gs (λ child within. passing_within b b child (same_lies b) within) all
boxes_meet s clip_rect o b liked ds gs all = single_meets (around s clip_rect b 0) (around s clip_rect b liked).inner b gs (λ child within. passing_within b b child (same_lies b) within) all
boxes_meet s repaint_boundary o b liked ds gs all = single_meets (around s repaint_boundary b 0) (around s repaint_boundary b liked).inner b gs (λ child within. passing_within b b child (same_lies b) within) all
boxes_meet s merge_semantics o b liked ds gs all = single_meets (around s merge_semantics b 0) (around s merge_semantics b liked).inner b gs (λ child within. passing_within b b child (same_lies b) within) all
boxes_meet s intrinsic_width o b liked ds gs all = single_meets (around s intrinsic_width b 0) (around s intrinsic_width b liked).inner b gs (λ child within. passing_within (as_wide b liked) b child (wide_lies (is_tight_along b Horizontal) b liked) within) all
boxes_meet s intrinsic_height o b liked ds gs all = single_meets (around s intrinsic_height b 0) (around s intrinsic_height b liked).inner b gs (λ child within. passing_within (as_high b liked) b child (high_lies (is_tight_along b Vertical) b liked) within) all
boxes_meet s (offstage m0) o b liked ds gs all = single_meets (around s (offstage m0) b 0) (around s (offstage m0) b liked).inner b gs (λ child within. offstage_within m0 b child within) all
boxes_meet s (ignore_pointer m0) o b liked ds gs all = single_meets (around s (ignore_pointer m0) b 0) (around s (ignore_pointer m0) b liked).inner b gs (λ child within. passing_within b b child (same_lies b) within) all
boxes_meet s (absorb_pointer m0) o b liked ds gs all = single_meets (around s (absorb_pointer m0) b 0) (around s (absorb_pointer m0) b liked).inner b gs (λ child within. passing_within b b child (same_lies b) within) all
boxes_meet s (detector m0 m1 m2 m3 m4 m5) o b liked ds gs all = single_meets (around s (detector m0 m1 m2 m3 m4 m5) b 0) (around s (detector m0 m1 m2 m3 m4 m5) b liked).inner b gs (λ child within. passing_within b b child (same_lies b) within) all
boxes_meet s (semantics m0 m1 m2) o b liked ds gs all = single_meets (around s (semantics m0 m1 m2) b 0) (around s (semantics m0 m1 m2) b liked).inner b gs (λ child within. passing_within b b child (same_lies b) within) all
boxes_meet s (exclude_semantics m0) o b liked ds gs all = single_meets (around s (exclude_semantics m0) b 0) (around s (exclude_semantics m0) b liked).inner b gs (λ child within. passing_within b b child (same_lies b) within) all
boxes_meet s (custom_paint m0) o b liked ds gs all = single_meets (around s (custom_paint m0) b 0) (around s (custom_paint m0) b liked).inner b gs (λ child within. painted_within (meaning_of s.delegates m0) b child within) all
boxes_meet s (custom_layout m0) o b liked ds gs all = single_meets (around s (custom_layout m0) b 0) (around s (custom_layout m0) b liked).inner b gs (λ child within. delegated_within (meaning_of s.delegates m0) b child within) all
boxes_meet s (viewport m0) o b liked ds gs all = view_within b
boxes_meet s sliver_to_box o b liked ds gs all = smallest_within b
boxes_meet s (sliver_padding m0 m1 m2 m3) o b liked ds gs all = smallest_within b
boxes_meet s (sliver_fixed m0) o b liked ds gs all = smallest_within b
boxes_meet s (sliver_lazy m0) o b liked ds gs all = smallest_within b
boxes_meet s (keep m0) o b liked ds gs all = smallest_within b
boxes_meet s (inherit m0 m1) o b liked ds gs all = smallest_within b
boxes_meet s (component m0 m1 m2) o b liked ds gs all = smallest_within b

-- ---- bounds that allow one size

both_true : (t u : Bool) → (t && u) ≡ true → (t ≡ true) × (u ≡ true)
both_true true true e = (refl, refl)
both_true true false e = cc
both_true false u e = cc

tight_side : (least : ℕ) (most : Len) (n : ℕ) → is_tight_side least most ≡ true → least ≤ n → n ≤ limit_of most → n ≡ least
tight_side least (Finite m) n e low high = let same : least ≡ m = eqb-true least m e in omega arith
tight_side least Unbounded n e low high = cc

tight_one : (t : Bool) (b : Bounds) (size s : Size) → is_tight b ≡ t → (if t then Some (smallest b) else None) ≡ Some size → IsWithin b s → s ≡ size
tight_one true b size s tight e within =
    let sides = both_true (is_tight_side b.min_w b.max_w) (is_tight_side b.min_h b.max_h) tight in
    let w : s.w ≡ b.min_w = tight_side b.min_w b.max_w s.w sides.0 within.least_w within.most_w in
    let h : s.h ≡ b.min_h = tight_side b.min_h b.max_h s.h sides.1 within.least_h within.most_h in
    let both : s ≡ smallest b = λ at. record { w = w at; h = h at } in
    both ∙ ap (λ (x : Option Size). unwrap_or x no_size) e
tight_one false b size s tight e within = cc

tight_is : (b : Bounds) (size s : Size) → tight_size b ≡ Some size → IsWithin b s → s ≡ size
tight_is b size s e within = tight_one (is_tight b) b size s refl e within

hidden_size : (b : Bounds) (fs : List Frame) → (single_makes (hidden_box b) fs).size ≡ smallest b
hidden_size b [] = refl
hidden_size b (f ∷ fs) = refl

offstage_fixed : (hidden : Bool) (b : Bounds) (size : Size) (fs : List Frame) → (if hidden then Some (smallest b) else tight_size b) ≡ Some size
    → IsWithin b (single_makes (offstage_box hidden b) fs).size → (single_makes (offstage_box hidden b) fs).size ≡ size
offstage_fixed true b size fs e within = hidden_size b fs ∙ ap (λ (x : Option Size). unwrap_or x no_size) e
offstage_fixed false b size fs e within = tight_is b size _ e within

pub sizes_fixed : (s : Setting) (l : Look) (o : ℕ) (b : Bounds) (liked : ℕ) (ds : List ParentData) (gs : List (Ask → Frame)) (size : Size)
    → fixed_size l b ≡ Some size → AllWithinAsks (box_asks s l o b liked ds gs) gs → (box_given s l o b liked ds gs).size ≡ size
sizes_fixed s (sized_box m0 m1) o b liked ds gs size e all = tight_is b size _ e (boxes_meet s (sized_box m0 m1) o b liked ds gs all)
sizes_fixed s (constrained_box m0 m1 m2 m3) o b liked ds gs size e all = tight_is b size _ e (boxes_meet s (constrained_box m0 m1 m2 m3) o b liked ds gs all)
sizes_fixed s (padding m0 m1 m2 m3) o b liked ds gs size e all = tight_is b size _ e (boxes_meet s (padding m0 m1 m2 m3) o b liked ds gs all)
sizes_fixed s (align m0 m1) o b liked ds gs size e all = tight_is b size _ e (boxes_meet s (align m0 m1) o b liked ds gs all)
sizes_fixed s (colored_box m0) o b liked ds gs size e all = tight_is b size _ e (boxes_meet s (colored_box m0) o b liked ds gs all)
sizes_fixed s (text m0 m1) o b liked ds gs size e all = tight_is b size _ e (boxes_meet s (text m0 m1) o b liked ds gs all)
sizes_fixed s (row m0 m1 m2) o b liked ds gs size e all = tight_is b size _ e (boxes_meet s (row m0 m1 m2) o b liked ds gs all)
sizes_fixed s (column m0 m1 m2) o b liked ds gs size e all = tight_is b size _ e (boxes_meet s (column m0 m1 m2) o b liked ds gs all)
sizes_fixed s (wrap m0 m1) o b liked ds gs size e all = tight_is b size _ e (boxes_meet s (wrap m0 m1) o b liked ds gs all)
sizes_fixed s (table m0) o b liked ds gs size e all = tight_is b size _ e (boxes_meet s (table m0) o b liked ds gs all)
sizes_fixed s (stack m0 m1 m2) o b liked ds gs size e all = tight_is b size _ e (boxes_meet s (stack m0 m1 m2) o b liked ds gs all)
sizes_fixed s (flexible m0 m1) o b liked ds gs size e all = tight_is b size _ e (boxes_meet s (flexible m0 m1) o b liked ds gs all)
sizes_fixed s (positioned m0 m1 m2 m3 m4 m5) o b liked ds gs size e all = tight_is b size _ e (boxes_meet s (positioned m0 m1 m2 m3 m4 m5) o b liked ds gs all)
sizes_fixed s (opacity m0) o b liked ds gs size e all = tight_is b size _ e (boxes_meet s (opacity m0) o b liked ds gs all)
sizes_fixed s clip_rect o b liked ds gs size e all = tight_is b size _ e (boxes_meet s clip_rect o b liked ds gs all)
sizes_fixed s repaint_boundary o b liked ds gs size e all = tight_is b size _ e (boxes_meet s repaint_boundary o b liked ds gs all)
sizes_fixed s merge_semantics o b liked ds gs size e all = tight_is b size _ e (boxes_meet s merge_semantics o b liked ds gs all)
sizes_fixed s intrinsic_width o b liked ds gs size e all = tight_is b size _ e (boxes_meet s intrinsic_width o b liked ds gs all)
sizes_fixed s intrinsic_height o b liked ds gs size e all = tight_is b size _ e (boxes_meet s intrinsic_height o b liked ds gs all)
sizes_fixed s (offstage m0) o b liked ds gs size e all = offstage_fixed m0 b size _ e (boxes_meet s (offstage m0) o b liked ds gs all)
sizes_fixed s (ignore_pointer m0) o b liked ds gs size e all = tight_is b size _ e (boxes_meet s (ignore_pointer m0) o b liked ds gs all)
sizes_fixed s (absorb_pointer m0) o b liked ds gs size e all = tight_is b size _ e (boxes_meet s (absorb_pointer m0) o b liked ds gs all)
sizes_fixed s (detector m0 m1 m2 m3 m4 m5) o b liked ds gs size e all = tight_is b size _ e (boxes_meet s (detector m0 m1 m2 m3 m4 m5) o b liked ds gs all)
sizes_fixed s (semantics m0 m1 m2) o b liked ds gs size e all = tight_is b size _ e (boxes_meet s (semantics m0 m1 m2) o b liked ds gs all)
sizes_fixed s (exclude_semantics m0) o b liked ds gs size e all = tight_is b size _ e (boxes_meet s (exclude_semantics m0) o b liked ds gs all)
sizes_fixed s (custom_paint m0) o b liked ds gs size e all = tight_is b size _ e (boxes_meet s (custom_paint m0) o b liked ds gs all)
sizes_fixed s (custom_layout m0) o b liked ds gs size e all = tight_is b size _ e (boxes_meet s (custom_layout m0) o b liked ds gs all)
sizes_fixed s (viewport m0) o b liked ds gs size e all = ap (λ (x : Option Size). unwrap_or x no_size) e
sizes_fixed s sliver_to_box o b liked ds gs size e all = tight_is b size _ e (boxes_meet s sliver_to_box o b liked ds gs all)
sizes_fixed s (sliver_padding m0 m1 m2 m3) o b liked ds gs size e all = tight_is b size _ e (boxes_meet s (sliver_padding m0 m1 m2 m3) o b liked ds gs all)
sizes_fixed s (sliver_fixed m0) o b liked ds gs size e all = tight_is b size _ e (boxes_meet s (sliver_fixed m0) o b liked ds gs all)
sizes_fixed s (sliver_lazy m0) o b liked ds gs size e all = tight_is b size _ e (boxes_meet s (sliver_lazy m0) o b liked ds gs all)
sizes_fixed s (keep m0) o b liked ds gs size e all = tight_is b size _ e (boxes_meet s (keep m0) o b liked ds gs all)
sizes_fixed s (inherit m0 m1) o b liked ds gs size e all = tight_is b size _ e (boxes_meet s (inherit m0 m1) o b liked ds gs all)
sizes_fixed s (component m0 m1 m2) o b liked ds gs size e all = tight_is b size _ e (boxes_meet s (component m0 m1 m2) o b liked ds gs all)

-- ---- a hidden Offstage

hidden_asks : (hidden : Bool) (s : Setting) (o : ℕ) (b : Bounds) (liked likes : ℕ) (ds : List ParentData) (gs hs : List (Ask → Frame)) → hidden ≡ true
    → box_asks s (offstage hidden) o b liked ds gs ≡ box_asks s (offstage hidden) o b likes ds hs
hidden_asks true s o b liked likes ds gs hs e = refl
hidden_asks false s o b liked likes ds gs hs e = cc

pub blind_asks : (s : Setting) (l : Look) (o : ℕ) (b : Bounds) (liked likes : ℕ) (ds : List ParentData) (gs hs : List (Ask → Frame)) → is_blind l ≡ true
    → box_asks s l o b liked ds gs ≡ box_asks s l o b likes ds hs
blind_asks s (sized_box m0 m1) o b liked likes ds gs hs e = cc
blind_asks s (constrained_box m0 m1 m2 m3) o b liked likes ds gs hs e = cc
blind_asks s (padding m0 m1 m2 m3) o b liked likes ds gs hs e = cc
blind_asks s (align m0 m1) o b liked likes ds gs hs e = cc
blind_asks s (colored_box m0) o b liked likes ds gs hs e = cc
blind_asks s (text m0 m1) o b liked likes ds gs hs e = cc
blind_asks s (row m0 m1 m2) o b liked likes ds gs hs e = cc
blind_asks s (column m0 m1 m2) o b liked likes ds gs hs e = cc
blind_asks s (wrap m0 m1) o b liked likes ds gs hs e = cc
blind_asks s (table m0) o b liked likes ds gs hs e = cc
blind_asks s (stack m0 m1 m2) o b liked likes ds gs hs e = cc
blind_asks s (flexible m0 m1) o b liked likes ds gs hs e = cc
blind_asks s (positioned m0 m1 m2 m3 m4 m5) o b liked likes ds gs hs e = cc
blind_asks s (opacity m0) o b liked likes ds gs hs e = cc
blind_asks s clip_rect o b liked likes ds gs hs e = cc
blind_asks s repaint_boundary o b liked likes ds gs hs e = cc
blind_asks s merge_semantics o b liked likes ds gs hs e = cc
blind_asks s intrinsic_width o b liked likes ds gs hs e = cc
blind_asks s intrinsic_height o b liked likes ds gs hs e = cc
blind_asks s (offstage m0) o b liked likes ds gs hs e = hidden_asks m0 s o b liked likes ds gs hs e
blind_asks s (ignore_pointer m0) o b liked likes ds gs hs e = cc
blind_asks s (absorb_pointer m0) o b liked likes ds gs hs e = cc
blind_asks s (detector m0 m1 m2 m3 m4 m5) o b liked likes ds gs hs e = cc
blind_asks s (semantics m0 m1 m2) o b liked likes ds gs hs e = cc
blind_asks s (exclude_semantics m0) o b liked likes ds gs hs e = cc
blind_asks s (custom_paint m0) o b liked likes ds gs hs e = cc
blind_asks s (custom_layout m0) o b liked likes ds gs hs e = cc
blind_asks s (viewport m0) o b liked likes ds gs hs e = cc
blind_asks s sliver_to_box o b liked likes ds gs hs e = cc
blind_asks s (sliver_padding m0 m1 m2 m3) o b liked likes ds gs hs e = cc
blind_asks s (sliver_fixed m0) o b liked likes ds gs hs e = cc
blind_asks s (sliver_lazy m0) o b liked likes ds gs hs e = cc
blind_asks s (keep m0) o b liked likes ds gs hs e = cc
blind_asks s (inherit m0 m1) o b liked likes ds gs hs e = cc
blind_asks s (component m0 m1 m2) o b liked likes ds gs hs e = cc

hidden_makes : (hidden : Bool) (s : Setting) (o : ℕ) (b : Bounds) (liked likes : ℕ) (ds : List ParentData) (gs hs : List (Ask → Frame)) → hidden ≡ true → length gs ≡ length hs
    → box_given s (offstage hidden) o b liked ds gs ≡ box_given s (offstage hidden) o b likes ds hs
hidden_makes true s o b liked likes ds [] [] e long = refl
hidden_makes true s o b liked likes ds [] (h ∷ hs) e long = cc
hidden_makes true s o b liked likes ds (g ∷ gs) [] e long = cc
hidden_makes true s o b liked likes ds (g ∷ gs) (h ∷ hs) e long = refl
hidden_makes false s o b liked likes ds gs hs e long = cc

pub blind_makes : (s : Setting) (l : Look) (o : ℕ) (b : Bounds) (liked likes : ℕ) (ds : List ParentData) (gs hs : List (Ask → Frame)) → is_blind l ≡ true → length gs ≡ length hs
    → box_given s l o b liked ds gs ≡ box_given s l o b likes ds hs
blind_makes s (sized_box m0 m1) o b liked likes ds gs hs e long = cc
blind_makes s (constrained_box m0 m1 m2 m3) o b liked likes ds gs hs e long = cc
blind_makes s (padding m0 m1 m2 m3) o b liked likes ds gs hs e long = cc
blind_makes s (align m0 m1) o b liked likes ds gs hs e long = cc
blind_makes s (colored_box m0) o b liked likes ds gs hs e long = cc
blind_makes s (text m0 m1) o b liked likes ds gs hs e long = cc
blind_makes s (row m0 m1 m2) o b liked likes ds gs hs e long = cc
blind_makes s (column m0 m1 m2) o b liked likes ds gs hs e long = cc
blind_makes s (wrap m0 m1) o b liked likes ds gs hs e long = cc
blind_makes s (table m0) o b liked likes ds gs hs e long = cc
blind_makes s (stack m0 m1 m2) o b liked likes ds gs hs e long = cc
blind_makes s (flexible m0 m1) o b liked likes ds gs hs e long = cc
blind_makes s (positioned m0 m1 m2 m3 m4 m5) o b liked likes ds gs hs e long = cc
blind_makes s (opacity m0) o b liked likes ds gs hs e long = cc
blind_makes s clip_rect o b liked likes ds gs hs e long = cc
blind_makes s repaint_boundary o b liked likes ds gs hs e long = cc
blind_makes s merge_semantics o b liked likes ds gs hs e long = cc
blind_makes s intrinsic_width o b liked likes ds gs hs e long = cc
blind_makes s intrinsic_height o b liked likes ds gs hs e long = cc
blind_makes s (offstage m0) o b liked likes ds gs hs e long = hidden_makes m0 s o b liked likes ds gs hs e long
blind_makes s (ignore_pointer m0) o b liked likes ds gs hs e long = cc
blind_makes s (absorb_pointer m0) o b liked likes ds gs hs e long = cc
blind_makes s (detector m0 m1 m2 m3 m4 m5) o b liked likes ds gs hs e long = cc
blind_makes s (semantics m0 m1 m2) o b liked likes ds gs hs e long = cc
blind_makes s (exclude_semantics m0) o b liked likes ds gs hs e long = cc
blind_makes s (custom_paint m0) o b liked likes ds gs hs e long = cc
blind_makes s (custom_layout m0) o b liked likes ds gs hs e long = cc
blind_makes s (viewport m0) o b liked likes ds gs hs e long = cc
blind_makes s sliver_to_box o b liked likes ds gs hs e long = cc
blind_makes s (sliver_padding m0 m1 m2 m3) o b liked likes ds gs hs e long = cc
blind_makes s (sliver_fixed m0) o b liked likes ds gs hs e long = cc
blind_makes s (sliver_lazy m0) o b liked likes ds gs hs e long = cc
blind_makes s (keep m0) o b liked likes ds gs hs e long = cc
blind_makes s (inherit m0 m1) o b liked likes ds gs hs e long = cc
blind_makes s (component m0 m1 m2) o b liked likes ds gs hs e long = cc

-- ---- slivers

to_box_gives : (b : SliverBounds) (gs : List (Ask → Frame)) → AllWithinAsks (first_alone (AsBox (box_bounds b))) gs
    → GivesWithin b (to_box_makes b (frames_given (answers_of (first_alone (AsBox (box_bounds b))) gs))).geometry
to_box_gives b [] all = record { scroll = omega arith; paint = omega arith }
to_box_gives b (g ∷ gs) all =
    let size = box_size (g (AsBox (box_bounds b))) in
    record { scroll = extent_small size b.axis (within_lengths (box_bounds b) size all.0); paint = omega arith }

padding_gives : (i : Insets) (b : SliverBounds) (fs : List Frame) → GivesWithin b (padding_makes i b fs).geometry
padding_gives i b [] = record { scroll = omega arith; paint = omega arith }
padding_gives i b (f ∷ fs) = record { scroll = omega arith; paint = omega arith }

slivers_give : (l : Look) (count : ℕ) (b : SliverBounds) (ds : List ParentData) (gs : List (Ask → Frame)) → AllWithinAsks (sliver_asks l count b ds) gs
    → GivesWithin b (sliver_given l count b ds gs).geometry
slivers_give (sized_box m0 m1) count b ds gs all = nothing_within b
slivers_give (constrained_box m0 m1 m2 m3) count b ds gs all = nothing_within b
slivers_give (padding m0 m1 m2 m3) count b ds gs all = nothing_within b
slivers_give (align m0 m1) count b ds gs all = nothing_within b
slivers_give (colored_box m0) count b ds gs all = nothing_within b
slivers_give (text m0 m1) count b ds gs all = nothing_within b
slivers_give (row m0 m1 m2) count b ds gs all = nothing_within b
slivers_give (column m0 m1 m2) count b ds gs all = nothing_within b
slivers_give (wrap m0 m1) count b ds gs all = nothing_within b
slivers_give (table m0) count b ds gs all = nothing_within b
slivers_give (stack m0 m1 m2) count b ds gs all = nothing_within b
slivers_give (flexible m0 m1) count b ds gs all = nothing_within b
slivers_give (positioned m0 m1 m2 m3 m4 m5) count b ds gs all = nothing_within b
slivers_give (opacity m0) count b ds gs all = nothing_within b
slivers_give clip_rect count b ds gs all = nothing_within b
slivers_give repaint_boundary count b ds gs all = nothing_within b
slivers_give merge_semantics count b ds gs all = nothing_within b
slivers_give intrinsic_width count b ds gs all = nothing_within b
slivers_give intrinsic_height count b ds gs all = nothing_within b
slivers_give (offstage m0) count b ds gs all = nothing_within b
slivers_give (ignore_pointer m0) count b ds gs all = nothing_within b
slivers_give (absorb_pointer m0) count b ds gs all = nothing_within b
slivers_give (detector m0 m1 m2 m3 m4 m5) count b ds gs all = nothing_within b
slivers_give (semantics m0 m1 m2) count b ds gs all = nothing_within b
slivers_give (exclude_semantics m0) count b ds gs all = nothing_within b
slivers_give (custom_paint m0) count b ds gs all = nothing_within b
slivers_give (custom_layout m0) count b ds gs all = nothing_within b
slivers_give (viewport m0) count b ds gs all = nothing_within b
slivers_give sliver_to_box count b ds gs all = to_box_gives b gs all
slivers_give (sliver_padding m0 m1 m2 m3) count b ds gs all = padding_gives (insets_of m0 m1 m2 m3) b _
slivers_give (sliver_fixed m0) count b ds gs all = record { scroll = omega arith; paint = omega arith }
slivers_give (sliver_lazy m0) count b ds gs all = record { scroll = omega arith; paint = omega arith }
slivers_give (keep m0) count b ds gs all = nothing_within b
slivers_give (inherit m0 m1) count b ds gs all = nothing_within b
slivers_give (component m0 m1 m2) count b ds gs all = nothing_within b

pub slivers_reach : (l : Look) (count : ℕ) (b : SliverBounds) (ds : List ParentData) (gs : List (Ask → Frame)) → AllWithinAsks (sliver_asks l count b ds) gs
    → (sliver_given l count b ds gs).geometry.scroll ≤ 2 ^ 40
slivers_reach l count b ds gs all = (slivers_give l count b ds gs all).scroll

to_box_paints : (b : SliverBounds) (fs : List Frame) → (to_box_makes b fs).geometry.paint ≤ b.remaining
to_box_paints b [] = omega arith
to_box_paints b (f ∷ fs) = omega arith

pub slivers_paint : (l : Look) (count : ℕ) (b : SliverBounds) (ds : List ParentData) (fs : List (Option Frame)) → (sliver_makes l count b ds fs).geometry.paint ≤ b.remaining
slivers_paint (sized_box m0 m1) count b ds fs = omega arith
slivers_paint (constrained_box m0 m1 m2 m3) count b ds fs = omega arith
slivers_paint (padding m0 m1 m2 m3) count b ds fs = omega arith
slivers_paint (align m0 m1) count b ds fs = omega arith
slivers_paint (colored_box m0) count b ds fs = omega arith
slivers_paint (text m0 m1) count b ds fs = omega arith
slivers_paint (row m0 m1 m2) count b ds fs = omega arith
slivers_paint (column m0 m1 m2) count b ds fs = omega arith
slivers_paint (wrap m0 m1) count b ds fs = omega arith
slivers_paint (table m0) count b ds fs = omega arith
slivers_paint (stack m0 m1 m2) count b ds fs = omega arith
slivers_paint (flexible m0 m1) count b ds fs = omega arith
slivers_paint (positioned m0 m1 m2 m3 m4 m5) count b ds fs = omega arith
slivers_paint (opacity m0) count b ds fs = omega arith
slivers_paint clip_rect count b ds fs = omega arith
slivers_paint repaint_boundary count b ds fs = omega arith
slivers_paint merge_semantics count b ds fs = omega arith
slivers_paint intrinsic_width count b ds fs = omega arith
slivers_paint intrinsic_height count b ds fs = omega arith
slivers_paint (offstage m0) count b ds fs = omega arith
slivers_paint (ignore_pointer m0) count b ds fs = omega arith
slivers_paint (absorb_pointer m0) count b ds fs = omega arith
slivers_paint (detector m0 m1 m2 m3 m4 m5) count b ds fs = omega arith
slivers_paint (semantics m0 m1 m2) count b ds fs = omega arith
slivers_paint (exclude_semantics m0) count b ds fs = omega arith
slivers_paint (custom_paint m0) count b ds fs = omega arith
slivers_paint (custom_layout m0) count b ds fs = omega arith
slivers_paint (viewport m0) count b ds fs = omega arith
slivers_paint sliver_to_box count b ds fs = to_box_paints b (frames_given fs)
slivers_paint (sliver_padding m0 m1 m2 m3) count b ds fs = (padding_gives (insets_of m0 m1 m2 m3) b (frames_given fs)).paint
slivers_paint (sliver_fixed m0) count b ds fs = omega arith
slivers_paint (sliver_lazy m0) count b ds fs = omega arith
slivers_paint (keep m0) count b ds fs = omega arith
slivers_paint (inherit m0 m1) count b ds fs = omega arith
slivers_paint (component m0 m1 m2) count b ds fs = omega arith
