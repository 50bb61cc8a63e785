-- A walk at a node: what its children may be asked, and where it stands between its two rounds.
use Rattle.std.proofs.Common.{◌≡◌, ap, refl, sym, ◌∙◌, subst, ℕ, zero, suc, ◌+◌, ◌*◌, ◌^◌, ◌≤◌, ◌<◌, Bool, true, false, ◌&&◌, Option, Some, None, List, [], ◌∷◌, map, length, get_or, arith}
use Rattle.std.specs.Prelude.{sum}
use Rattle.std.specs.List.{All}
use Rattle.std.proofs.lemmas.List.Sums.{sum_by-cons}
use Rattle.fx_geom.specs.declared.shapes.Axis.{Axis}
use Rattle.fx_handles.specs.declared.Handle.{Handle}
use Rattle.node_tree.specs.Forest.{Forest}
use Rattle.node_tree.specs.Forest.Forest.{none, tree}
use Rattle.node_tree.specs.Tree.{Tree, IsNode, IsTree, children_at}
use Rattle.widget_model.specs.Look.{Look, viewport}
use Rattle.plain_tree.specs.declared.laid.Frame.{Frame}
use Rattle.plain_tree.specs.declared.render.ParentData.{ParentData}
use Rattle.plain_tree.specs.Render.{Render}
use Rattle.layout_form.specs.declared.asks.Ask.{Ask}
use Rattle.layout_form.specs.declared.asks.Ask.TheVariants.{AsBox, AsSliver}
use Rattle.layout_form.specs.Fits.{IsTold, CanBeLaidOut}
use Rattle.layout_form.specs.FlexRule.{factors_of}
use Rattle.layout_form.specs.Object.{Setting}
use Rattle.kind_rules.specs.Asked.{IsOffset}
use Rattle.render_tree.specs.Object.{RenderObject}
use Rattle.layout_walk.proofs.Measuring.{back_only}
use Rattle.layout_walk.specs.Node.{LayoutNode, member, tellings, renders_in}
use Rattle.layout_walk.specs.Asking.{is_due}
use Rattle.layout_walk.specs.Here.{Here, back_in}
use Rattle.layout_walk.specs.Measure.{Measured, boxed, padded, nothing, measured_in}
use Rattle.layout_walk.specs.Rules.{parts_of, holds_in, liked_in}
use Rattle.layout_walk.specs.Walk.{SameMembers, kept_asks}
use Rattle.layout_rules.specs.declared.duties.Duty.{Duty}
use Rattle.layout_rules.specs.declared.duties.Duty.TheVariants.{Lay, Measure}
use Rattle.layout_rules.specs.declared.duties.Course.{Course}
use Rattle.layout_rules.specs.declared.duties.Course.TheVariants.{Stay, Visit, Hold, Run, View, Open}
use Rattle.layout_rules.specs.Courses.{course_of, lay_course, rule_course, open_course, cross_of, first_duties}
use Rattle.layout_rules.specs.Duties.{MayDo, lay_duties}
use Rattle.layout_rules.specs.Ending.{asked_first, asked_rest}
use Rattle.layout_rules.specs.Nodes.{SeenAt}
use Rattle.layout_rules.specs.Places.{render_at}
use Rattle.layout_rules.specs.Reads.{told_at}
use Rattle.layout_rules.specs.Serving.{IsReadyFor, IsSeen}
use Rattle.layout_rules.specs.Lawful.{Laws}
use Rattle.layout_rules.proofs.Allowed.{MayAskAll, first_may, rest_may, kept_may, duty_may, tellings_told, all_fit_same}
use Rattle.layout_rules.proofs.Doing.{is_clear}
use Rattle.layout_rules.proofs.Served.{all_here, served_same}
use Rattle.layout_rules.proofs.Turning.{seen_live, seen_children, seen_render}
use Rattle.layout_rules.proofs.Walked.{IsCourse, course_is, told_are}
use Rattle.layout_rules.proofs.Walking.{Progress, start, finished}

-- ---- what children may be asked

-- what is needed of a course
abbrev pub CourseMay : Forest LayoutNode → Course → Type 0
CourseMay kids Stay = Unit {0}
CourseMay kids Visit = MayAskAll (kept_asks kids)
CourseMay kids (Hold ask) = Unit {0}
CourseMay kids (Run ask) = IsOffset ask
CourseMay kids (View axis b) = Unit {0}
CourseMay kids (Open duty) = MayDo duty

rule_may : (kids : Forest LayoutNode) (look : Look) (ask : Ask) → IsOffset ask → CourseMay kids (rule_course look ask)
rule_may kids (viewport axis) (AsBox b) offset = tt
rule_may kids (viewport axis) (AsSliver b) offset = offset
rule_may kids look (AsBox b) offset = tt
rule_may kids look (AsSliver b) offset = offset

offset_of : (ask : Ask) → MayDo (Lay ask) → IsOffset ask
offset_of (AsBox b) may = tt
offset_of (AsSliver b) may = may

course_may : (s : Setting) (outer : Bool) (duty : Duty) (v : LayoutNode) (kids : Forest LayoutNode) → Here (parts_of s) v kids → MayDo duty → CourseMay kids (course_of outer duty v)
course_may s outer (Lay ask) v kids here may = by (is_due v ask) (outer && holds_in v.look ask) v.layout_below refl
  where
    by : (due holds marked : Bool) → is_due v ask ≡ due → CourseMay kids (lay_course due holds v.look marked ask)
    by true true marked e = tt
    by true false marked e = rule_may kids v.look ask (offset_of ask may)
    by false true marked e = tt
    by false false true e = let clear = is_clear v ask e in kept_may s v ask kids here clear.0 clear.1 (offset_of ask may)
    by false false false e = tt
course_may s outer (Measure axis cross) v kids here may = by (measured_in axis cross v)
  where
    by : (m : Measured) → CourseMay kids (open_course axis cross m)
    by boxed = tt
    by (padded i) = tt
    by nothing = tt

none_some : (duty : Duty) → None ≡ Some duty → ⊥
none_some duty e = cc

each_may : {A : Type 0} (axis : Axis) (cross : ℕ) (ks : List A) (i : ℕ) (inner : Duty) → get_or (map (λ (k : A). Some (Measure axis cross)) ks) i None ≡ Some inner → MayDo inner
each_may {A} axis cross [] zero inner is = absurd (none_some inner is)
each_may {A} axis cross [] (suc i) inner is = absurd (none_some inner is)
each_may {A} axis cross (k ∷ ks) zero inner is = subst MayDo (let e : Measure axis cross ≡ inner = cc in e) tt
each_may {A} axis cross (k ∷ ks) (suc i) inner is = each_may axis cross ks i inner is

alone_may : (duty : Duty) (i : ℕ) (inner : Duty) → MayDo duty → get_or (Some duty ∷ []) i None ≡ Some inner → MayDo inner
alone_may duty zero inner may is = subst MayDo (let e : duty ≡ inner = cc in e) may
alone_may duty (suc zero) inner may is = absurd (none_some inner is)
alone_may duty (suc (suc i)) inner may is = absurd (none_some inner is)

firsts_may : (s : Setting) (v : LayoutNode) (kids : Forest LayoutNode) (course : Course) (hs : List Handle) (first : List (Option Ask)) → CourseMay kids course → first ≡ asked_first s course v kids
    → (i : ℕ) (inner : Duty) → get_or (first_duties course first hs) i None ≡ Some inner → MayDo inner
firsts_may s v kids Stay hs first may is i inner get = duty_may first i inner (subst MayAskAll (sym is) tt) get
firsts_may s v kids Visit hs first may is i inner get = duty_may first i inner (subst MayAskAll (sym is) may) get
firsts_may s v kids (Hold ask) hs first may is i inner get = duty_may first i inner (subst MayAskAll (sym is) tt) get
firsts_may s v kids (Run ask) hs first may is i inner get =
    duty_may first i inner (subst MayAskAll (sym is) (first_may s (member v) ask (liked_in s v.look ask (renders_in kids)) (tellings kids) may)) get
firsts_may s v kids (View axis b) hs first may is i inner get = each_may axis (cross_of axis b) hs i inner get
firsts_may s v kids (Open duty) hs first may is i inner get = alone_may duty i inner may get

pub rests_may : (course : Course) (v : LayoutNode) (ds : List ParentData) (known : List (Option Frame)) (rest : List (Option Ask)) → rest ≡ asked_rest course v ds known
    → (i : ℕ) (inner : Duty) → get_or (lay_duties rest) i None ≡ Some inner → MayDo inner
rests_may course v ds known rest is i inner get = duty_may rest i inner (subst MayAskAll (sym is) (by course)) get
  where
    by : (course : Course) → MayAskAll (asked_rest course v ds known)
    by (Run ask) = rest_may (member v) v.scroll ask ds known
    by (View axis b) = rest_may (member v) v.scroll (AsBox b) ds known
    by Stay = tt
    by Visit = tt
    by (Hold ask) = tt
    by (Open duty) = tt

-- ---- the factors of children can be summed

factors_small : (ds : List ParentData) → All IsTold ds → sum (factors_of ds) ≤ 1000000 * length ds
factors_small [] all = omega arith
factors_small (d ∷ ds) all =
    let here : d.flex ≤ 1000000 = (all 0 d (omega arith)).flex in
    let rest : sum (factors_of ds) ≤ 1000000 * length ds = factors_small ds (λ k e h. all (suc k) e (omega arith)) in
    let both : sum (d.flex ∷ factors_of ds) ≡ d.flex + sum (factors_of ds) = sum_by-cons (λ n. n) d.flex (factors_of ds) in
    omega arith

-- ---- before the first round

module _ (s : Setting) (outer : Bool) (duty : Duty) (t0 : Tree RenderObject) (h : Handle) (ready : IsReadyFor (parts_of s) t0 h duty) where
  pub ready_live : IsNode t0 h
  ready_live = seen_live t0 h ready.value ready.kids ready.good.stands

  pub ready_fits : IsTree t0 → CanBeLaidOut (render_at t0 h)
  ready_fits is = subst (λ (r : Render). CanBeLaidOut r) (sym (seen_render t0 h ready.value ready.kids is ready.good.stands)) ready.good.fits

  pub ready_start : (end : ℕ) (duties : List (Option Duty)) (steps : ℕ) → end ≡ length (children_at t0 h) → Progress s outer t0 t0 h 0 end duties steps steps
  ready_start end duties steps ends = start s outer t0 h end duties steps ready.value ready.kids ready.good.stands ready.good.all ready.good.fits.1 ends

  ready_told : (told : List ParentData) → told ≡ map (told_at t0) (children_at t0 h) → told ≡ tellings ready.kids
  ready_told told is = is ∙ ap (λ (hs : List Handle). map (told_at t0) hs) (seen_children t0 h ready.value ready.kids ready.good.stands) ∙ told_are t0 (Some h) ready.kids ready.good.stands.stands.1

  pub ready_sum : (told : List ParentData) → told ≡ map (told_at t0) (children_at t0 h) → sum (factors_of told) < 2 ^ 64
  ready_sum told is =
      let fits = ready.good.fits.0 in
      let same = ready_told told is ∙ sym (tellings_told ready.kids) in
      let small = factors_small _ fits.told in
      let few = fits.few in
      let sums = ap (λ (ds : List ParentData). sum (factors_of ds)) same in
      omega (arith, small, few, sums)

  pub ready_may : (course : Course) → IsCourse outer duty t0 h course → (told : List ParentData) → told ≡ map (told_at t0) (children_at t0 h) → (first : List (Option Ask))
      → ((v : LayoutNode) (kids : Forest LayoutNode) → SeenAt t0 h (tree h v kids none) → told ≡ tellings kids → first ≡ asked_first s course v kids)
      → (i : ℕ) (inner : Duty) (o : Option Duty) → o ≡ get_or (first_duties course first (children_at t0 h)) i None → o ≡ Some inner → MayDo inner
  ready_may course is told told_is first first_is i inner o get some =
      let v = ready.value in
      let kids = ready.kids in
      let seen = ready.good.stands in
      firsts_may s v kids course (children_at t0 h) first (subst (λ (x : Course). CourseMay kids x) (course_is outer duty t0 h course v kids is seen) (course_may s outer duty v kids ready.good.here ready.may))
      (first_is v kids seen (ready_told told told_is)) i inner (sym get ∙ some)

  -- ---- after it

  module _ (laws : Laws s) (t1 : Tree RenderObject) (i end : ℕ) (duties : List (Option Duty)) (before now : ℕ) (p : Progress s outer t0 t1 h i end duties before now) where
    kids_same : SameMembers p.kids0 p.kids
    kids_same = served_same s laws.lawful (back_in (parts_of s) outer) (back_only (parts_of s) outer) i duties p.kids0 p.kids p.all p.served

    pub mid_live : IsNode t1 h
    mid_live = seen_live t1 h p.value p.kids p.turns.stands

    pub mid_seen : IsSeen t1 h
    mid_seen = record { value = p.value; kids = p.kids; stands = p.turns.stands }

    pub mid_start : (i < end → ⊥) → (last : ℕ) (others : List (Option Duty)) → last ≡ length (children_at t1 h) → Progress s outer t1 t1 h 0 last others now now
    mid_start over last others ends =
        start s outer t1 h last others now p.value p.kids p.turns.stands
        (all_here s laws.lawful (back_in (parts_of s) outer) (back_only (parts_of s) outer) duties p.kids0 p.kids p.all (finished s laws.lawful outer t0 t1 h i end duties before now p over))
        (all_fit_same p.kids0 p.kids kids_same p.fits) ends
