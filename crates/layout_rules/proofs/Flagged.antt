-- A lazy list that gets a flag is listed.
use Rattle.std.proofs.Common.{◌≡◌, ap, refl, sym, ◌∙◌, inl, inr, ℕ, ◌+◌, ◌≤◌, Bool, true, false, ◌&&◌, cond, if◌then◌else◌, Option, Some, None, List, [], arith}
use Rattle.std.proofs.lemmas.Bool.{cases_Bool}
use Rattle.fx_geom.specs.declared.shapes.Offset.{Offset}
use Rattle.fx_geom.specs.declared.shapes.Axis.{Axis}
use Rattle.fx_handles.specs.declared.Handle.{Handle}
use Rattle.fx_handles.specs.Handle.{times}
use Rattle.fx_handles.specs.HandleLaws.{cases_same, same-ne}
use Rattle.node_tree.specs.Forest.{TreeNode, Forest, count}
use Rattle.node_tree.specs.Forest.Forest.{none, tree}
use Rattle.node_tree.specs.Tree.{Tree}
use Rattle.widget_model.specs.Look.{Look, sliver_lazy}
use Rattle.plain_tree.specs.declared.laid.Frame.{Frame}
use Rattle.plain_tree.specs.declared.render.ParentData.{ParentData}
use Rattle.layout_form.specs.declared.asks.Ask.{Ask}
use Rattle.layout_form.specs.Object.{Setting}
use Rattle.render_tree.specs.Object.{RenderObject}
use Rattle.layout_walk.specs.Asking.{has_frame, is_due}
use Rattle.layout_walk.specs.Measure.{nothing, is_open, measured_below}
use Rattle.layout_walk.specs.Node.{LayoutNode}
use Rattle.layout_walk.specs.Rule.{LayoutParts}
use Rattle.layout_walk.specs.Rules.{is_list, holds_in}
use Rattle.layout_walk.specs.Walk.{stood_as, held_back}
use Rattle.layout_walk.proofs.Asks.{same_frame_self}
use Rattle.layout_rules.specs.declared.duties.Duty.{Duty}
use Rattle.layout_rules.specs.declared.duties.Duty.TheVariants.{Lay, Measure}
use Rattle.layout_rules.specs.declared.duties.Course.{Course}
use Rattle.layout_rules.specs.declared.duties.Course.TheVariants.{Stay, Visit, Hold, Run, View, Open}
use Rattle.layout_rules.specs.Courses.{rule_course, lay_course, open_course, course_of}
use Rattle.layout_rules.specs.Ending.{NodeOver, ended, held_gift, has_gift}
use Rattle.layout_rules.specs.Flags.{list_flag, flag_in, flag_at, FlagsListed, FlagsRun}
use Rattle.layout_rules.specs.Nodes.{seen_at, SeenAt}
use Rattle.layout_rules.specs.Painting.{PaintedOwn, Leaves}
use Rattle.layout_rules.specs.Reads.{state_or, state_at}
use Rattle.layout_rules.specs.Serving.{ListsOnce, EndsAs}
use Rattle.layout_rules.specs.Turns.{Turns}
use Rattle.layout_rules.proofs.Below.{is_in, ended_parts, part_in, below_part}
use Rattle.layout_rules.proofs.Repainting.{times_both}
use Rattle.layout_rules.proofs.Turning.{seen_stored}
use Rattle.layout_rules.proofs.Walked.{IsCourse, course_is, seen_one}
use Rattle.layout_rules.proofs.Walking.{Progress}

-- ---- a list is never opened

false_true : false ≡ true → ⊥
false_true e = cc

true_false : true ≡ false → ⊥
true_false e = cc

pub record ListOf (look : Look) : Type 0 where
  pub extent : ℕ
  pub is : look ≡ sliver_lazy extent

list_of : (look : Look) → is_list look ≡ true → ListOf look
list_of (sliver_lazy extent) is = record { extent = extent; is = refl }
list_of look is = absurd (false_true is)

hold_open : (ask : Ask) (d : Duty) → Hold ask ≡ Open d → ⊥
hold_open ask d e = cc

run_open : (ask : Ask) (d : Duty) → Run ask ≡ Open d → ⊥
run_open ask d e = cc

stay_open : (d : Duty) → Stay ≡ Open d → ⊥
stay_open d e = cc

visit_open : (d : Duty) → Visit ≡ Open d → ⊥
visit_open d e = cc

lay_open : (due held below : Bool) (look : Look) (ask : Ask) (extent : ℕ) (d : Duty) → look ≡ sliver_lazy extent → lay_course due held look below ask ≡ Open d → ⊥
lay_open true true below look ask extent d is e = hold_open ask d e
lay_open true false below look ask extent d is e = run_open ask d (sym (ap (λ (l : Look). rule_course l ask) is) ∙ e)
lay_open false true below look ask extent d is e = stay_open d e
lay_open false false true look ask extent d is e = visit_open d e
lay_open false false false look ask extent d is e = stay_open d e

measure_open : (opens : Bool) (look : Look) (axis : Axis) (cross extent : ℕ) (d : Duty) → look ≡ sliver_lazy extent
    → open_course axis cross (if opens then measured_below look else nothing) ≡ Open d → ⊥
measure_open true look axis cross extent d is e = stay_open d (sym (ap (λ (l : Look). open_course axis cross (measured_below l)) is) ∙ e)
measure_open false look axis cross extent d is e = stay_open d e

not_open : (outer : Bool) (duty d : Duty) (v : LayoutNode) → is_list v.look ≡ true → course_of outer duty v ≡ Open d → ⊥
not_open outer (Lay ask) d v list e = let one = list_of v.look list in lay_open (is_due v ask) (outer && holds_in v.look ask) v.layout_below v.look ask one.extent d one.is e
not_open outer (Measure axis cross) d v list e = let one = list_of v.look list in measure_open (is_open axis cross v) v.look axis cross one.extent d one.is e

-- ---- below a node whose course ends

stood_flag : (o : Option Ask) (at : Offset) (v : LayoutNode) → list_flag (stood_as o at v) ≡ list_flag v
stood_flag None at v = refl
stood_flag (Some ask) at v = refl

abbrev flag_or : Option ℕ → ℕ
flag_or None = 0
flag_or (Some n) = n

flag_is : (x : Option (TreeNode LayoutNode)) → flag_in x ≡ flag_or (part_in list_flag stood_flag x)
flag_is None = refl
flag_is (Some n) = refl

flag_same : (x y : Option (TreeNode LayoutNode)) → part_in list_flag stood_flag y ≡ part_in list_flag stood_flag x → flag_in y ≡ flag_in x
flag_same x y e = flag_is y ∙ (ap flag_or e ∙ sym (flag_is x))

-- ---- a node whose course ends

-- a list whose frame is as before isn't held back
has_own : (x : Option Frame) (frame : Frame) → x ≡ Some frame → has_frame x (Some frame) ≡ true
has_own x frame e = ap (λ (o : Option Frame). has_frame o (Some frame)) e ∙ same_frame_self frame

frame_seen : (t : Tree RenderObject) (h : Handle) (v : LayoutNode) (kids : Forest LayoutNode) → SeenAt t h (tree h v kids none) → (state_at t h).frame ≡ v.frame
frame_seen t h v kids seen =
    let stored = seen_stored t h v kids seen in
    ap (λ (o : Option RenderObject). (state_or o).frame) stored.is ∙ ap (λ (x : LayoutNode). x.frame) stored.seen

small_flag : (v : LayoutNode) → list_flag v ≤ 1
small_flag v = by (v.needs_layout && is_list v.look)
  where
    by : (b : Bool) → cond {A = ℕ} b 1 0 ≤ 1
    by true = omega arith
    by false = omega arith

held_flag : (s : Setting) (ask : Ask) (v : LayoutNode) (n : ℕ) (has : Bool) → has_gift s ask v ≡ has
    → (n ≡ 0 → (if has then v else held_back v (held_gift s ask v)).frame ≡ v.frame) → list_flag (if has then v else held_back v (held_gift s ask v)) ≤ list_flag v + n
held_flag s ask v n true e looks = omega arith
held_flag s ask v n false e looks = elim (is_in n) [
  | inl none_there ↦ absurd (true_false (sym (has_own v.frame (held_gift s ask v).facts.frame (sym (looks none_there))) ∙ e))
  | inr some ↦ let small = small_flag (held_back v (held_gift s ask v)) in omega (arith, small, some)
]

ended_here : (s : Setting) (outer : Bool) (duty : Duty) (course : Course) (v : LayoutNode) (kids : Forest LayoutNode) (ds : List ParentData) (first rest : List (Option Ask)) (n : ℕ)
    → course_of outer duty v ≡ course → (n ≡ 0 → (ended s course v kids ds first rest).value.frame ≡ v.frame) → list_flag (ended s course v kids ds first rest).value ≤ list_flag v + n
ended_here s outer duty Stay v kids ds first rest n is looks = omega arith
ended_here s outer duty Visit v kids ds first rest n is looks = omega arith
ended_here s outer duty (Hold ask) v kids ds first rest n is looks = held_flag s ask v n (has_gift s ask v) refl looks
ended_here s outer duty (Run ask) v kids ds first rest n is looks = omega arith
ended_here s outer duty (View axis b) v kids ds first rest n is looks = omega arith
ended_here s outer duty (Open d) v kids ds first rest n is looks = elim (cases_Bool (is_list v.look)) [
  | inl list ↦ absurd (not_open outer duty d v list is)
  | inr other ↦ let own = ap (λ (b : Bool). cond {A = ℕ} b 1 0) other in omega (arith, own)
]

pub ended_flags : (s : Setting) (outer : Bool) (duty : Duty) (course : Course) (old new : Tree RenderObject) (h : Handle) (v : LayoutNode) (kids : Forest LayoutNode) (ds : List ParentData)
    (first rest : List (Option Ask)) (hs xs : List Handle) → course_of outer duty v ≡ course → SeenAt old h (tree h v kids none)
    → (let e = ended s course v kids ds first rest in Turns old new h (tree h v kids none) (tree h e.value e.kids none)) → Leaves old new h hs xs → FlagsListed old new hs xs
ended_flags s outer duty course old new h v kids ds first rest hs xs is seen turns leaves k =
    let e : NodeOver = ended s course v kids ds first rest in
    let added = ap (λ (ks : List Handle). times k ks) leaves.added in
    let both = times_both k hs leaves.news in
    elim (cases_same h k) [
      | inl one ↦
          let was : flag_at old k ≡ list_flag v = ap (flag_at old) (sym one) ∙ ap flag_in seen.stands.0 in
          let now : flag_at new k ≡ list_flag e.value = ap (flag_at new) (sym one) ∙ ap flag_in turns.stands.stands.0 in
          let looks : times k leaves.news ≡ 0 → e.value.frame ≡ v.frame =
          λ nowhere. sym (frame_seen new h e.value e.kids turns.stands)
          ∙ (ap (λ (o : PaintedOwn). o.frame) (leaves.repaints.same h (ap (λ (x : Handle). times x leaves.news) one ∙ nowhere)).own ∙ frame_seen old h v kids seen) in
          let here = ended_here s outer duty course v kids ds first rest (times k leaves.news) is looks in
          omega (arith, added, both, was, now, here)
      | inr ne ↦
          let own = ap (λ (b : Bool). cond {A = ℕ} b 1 0) (same-ne h k ne) in
          elim (is_in (count k kids)) [
            | inl out ↦
                let alike : flag_at new k ≡ flag_at old k = ap flag_in (turns.others k (λ inside. omega (arith, own, out, inside))) in
                omega (arith, added, both, alike)
            | inr into ↦
                let alike : flag_at new k ≡ flag_at old k =
                flag_same (seen_at old k) (seen_at new k)
                (below_part list_flag stood_flag (seen_at old) (seen_at new) (Some h) (Some h) kids e.kids (ended_parts list_flag stood_flag s course v kids ds first rest)
                seen.stands.1 turns.stands.stands.1 k into) in
                omega (arith, added, both, alike)
          ]
    ]

-- ---- one after another

pub flags_self_listed : (t : Tree RenderObject) (hs : List Handle) → FlagsListed t t hs hs
flags_self_listed t hs k = omega arith

pub flags_again : (a b c : Tree RenderObject) (hs xs ys : List Handle) → FlagsListed a b hs xs → FlagsListed b c xs ys → FlagsListed a c hs ys
flags_again a b c hs xs ys one two k = let first = one k in let second = two k in omega (arith, first, second)

-- a list that is listed had its rule run
pub flags_run : (P : LayoutParts) (outer : Bool) (duty : Duty) (old mid new : Tree RenderObject) (h : Handle) (hs after : List Handle) → ((k : Handle) → seen_at new k ≡ seen_at mid k)
    → Leaves old mid h hs after → FlagsListed old mid hs after → ListsOnce P outer duty old h hs after → FlagsRun P outer duty old new h
flags_run P outer duty old mid new h hs after marked leaves flags lists k v kids seen =
    let alike : flag_at new k ≡ flag_at mid k = ap flag_in (marked k) in
    let flag = flags k in
    let once = lists k v kids seen in
    omega (arith, alike, flag, once)

-- ---- the walk at a node

pub alone_flags : (s : Setting) (outer : Bool) (duty : Duty) (course : Course) (t t1 : Tree RenderObject) (h : Handle) (v : LayoutNode) (before after : ℕ) (hs xs : List Handle)
    → IsCourse outer duty t h course → SeenAt t h (tree h v none none) → EndsAs s course [] [] [] t t1 h before after → Leaves t t1 h hs xs → FlagsListed t t1 hs xs
alone_flags s outer duty course t t1 h v before after hs xs is seen ends leaves =
    ended_flags s outer duty course t t1 h v none [] [] [] hs xs (course_is outer duty t h course v none is seen) seen (ends v none seen).0 leaves

pub walk_flags : (s : Setting) (outer : Bool) (duty : Duty) (course : Course) (t0 t1 t2 t3 : Tree RenderObject) (h : Handle) (i1 end1 i2 end2 steps0 steps1 steps2 steps3 : ℕ)
    (duties1 duties2 : List (Option Duty)) (told : List ParentData) (first rest : List (Option Ask)) (hs0 hs1 hs2 hs3 : List Handle) → IsCourse outer duty t0 h course
    → Progress s outer t0 t1 h i1 end1 duties1 steps0 steps1 → Progress s outer t1 t2 h i2 end2 duties2 steps1 steps2 → FlagsListed t0 t1 hs0 hs1 → FlagsListed t1 t2 hs1 hs2
    → EndsAs s course told first rest t2 t3 h steps2 steps3 → Leaves t2 t3 h hs2 hs3 → FlagsListed t0 t3 hs0 hs3
walk_flags s outer duty course t0 t1 t2 t3 h i1 end1 i2 end2 steps0 steps1 steps2 steps3 duties1 duties2 told first rest hs0 hs1 hs2 hs3 is p1 p2 one two ends leaves =
    let own : course_of outer duty p1.value ≡ course = course_is outer duty t0 h course p1.value p1.kids0 is p1.base in
    let between = seen_one t1 h p2.value p1.value p2.kids0 p1.kids p2.base p1.turns.stands in
    let last = ended_flags s outer duty course t2 t3 h p2.value p2.kids told first rest hs2 hs3 (ap (λ (x : LayoutNode). course_of outer duty x) between.0 ∙ own) p2.turns.stands
    (ends p2.value p2.kids p2.turns.stands).0 leaves in
    flags_again t0 t1 t3 hs0 hs1 hs3 one (flags_again t1 t2 t3 hs1 hs2 hs3 two last)
