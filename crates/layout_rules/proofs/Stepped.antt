-- Each course ends well: what it leaves is what its duty is, its rule can be run, and it ticks no more than its duty may.
use Rattle.std.proofs.Common.{◌≡◌, ap, refl, sym, ◌∙◌, subst, ℕ, zero, ◌+◌, Bool, true, false, cond, ◌&&◌, Option, Some, List, [], ◌∷◌, arith}
use Rattle.fx_geom.specs.declared.boxes.Bounds.{Bounds}
use Rattle.fx_geom.specs.declared.shapes.Axis.{Axis}
use Rattle.fx_geom.specs.declared.shapes.Insets.{Insets}
use Rattle.fx_handles.specs.declared.Handle.{Handle}
use Rattle.node_tree.specs.Forest.{Forest, tops}
use Rattle.node_tree.specs.Forest.Forest.{none, tree}
use Rattle.widget_model.specs.Look.{Look, viewport}
use Rattle.plain_tree.specs.declared.laid.Frame.{Frame}
use Rattle.plain_tree.specs.declared.render.ParentData.{ParentData}
use Rattle.plain_tree.specs.Render.{render}
use Rattle.layout_form.specs.declared.asks.Ask.{Ask}
use Rattle.layout_form.specs.declared.asks.Ask.TheVariants.{AsBox, AsSliver}
use Rattle.layout_form.specs.Fits.{CanBeLaidOut, Fits}
use Rattle.layout_form.specs.Framed.{answers_of, last_asks}
use Rattle.layout_form.specs.Object.{Setting}
use Rattle.layout_form.specs.Protocol.{everybody}
use Rattle.layout_form.specs.SliverRule.{unseen}
use Rattle.kind_rules.specs.Asked.{IsOffset}
use Rattle.layout_walk.specs.Node.{LayoutNode, member, members, tellings, stored, renders_in}
use Rattle.layout_walk.specs.Rule.{LayoutParts}
use Rattle.layout_walk.specs.Full.{asks_at, objects}
use Rattle.layout_walk.specs.Here.{Backs, Here, HereAll, back_in}
use Rattle.layout_walk.specs.Walk.{Round, AskApart, kept_asks}
use Rattle.layout_walk.specs.Asking.{has_frame, is_due}
use Rattle.layout_walk.specs.Flush.{runs, one_runs, held_runs}
use Rattle.layout_walk.specs.Measure.{Measured, boxed, padded, nothing, measured_in, box_in, cross_in, opened, MeasuredBy, FirstMeasured, measured_runs, first_runs}
use Rattle.layout_walk.specs.Rules.{parts_of, liked_in, first_in, holds_in}
use Rattle.layout_walk.proofs.Alike.{answers_alike}
use Rattle.layout_walk.proofs.Rounds.{rounds_join, answers_kept, all_laid, round_here}
use Rattle.layout_walk.proofs.Same.{same_tellings}
use Rattle.layout_walk.proofs.Viewing.{laid_answers}
use Rattle.layout_rules.specs.declared.duties.Duty.{Duty}
use Rattle.layout_rules.specs.declared.duties.Duty.TheVariants.{Lay, Measure}
use Rattle.layout_rules.specs.declared.duties.Course.TheVariants.{Stay, Visit, Hold, Run, View, Open}
use Rattle.layout_rules.specs.Ending.{Ending, ended, has_gift}
use Rattle.layout_rules.specs.Duties.{Does, MayDo, AllServed, runs_left, duty_runs, lay_duties}
use Rattle.layout_rules.specs.Courses.{rule_course, lay_course, open_course, course_of, cross_of}
use Rattle.layout_rules.specs.Lawful.{Laws}
use Rattle.layout_rules.proofs.Allowed.{rests_apart, tellings_told}
use Rattle.layout_rules.proofs.Doing.{back_free, run_does, run_runs, view_does, hold_does, gift_fixed, stay_held, stay_still, visit_does}
use Rattle.layout_rules.proofs.Making.{can_run, can_view}
use Rattle.layout_rules.proofs.Served.{all_round, all_measured, none_served, first_laid, first_measured, left_lay, left_measure, left_nobody}

if_held : (n : ℕ) (t : Bool) → cond {A = ℕ} t 0 n ≡ held_runs n t
if_held n true = refl
if_held n false = refl

left_first : (q : Handle → ℕ) (P : LayoutParts) (outer : Bool) (axis : Axis) (cross : ℕ) (f : Forest LayoutNode)
    → runs_left q P outer zero (Some (Measure axis cross) ∷ []) f ≡ first_runs q P outer axis cross f
left_first q P outer axis cross none = refl
left_first q P outer axis cross (tree h v kids rest) = let none_left = left_nobody q P outer rest in omega arith

module _ (s : Setting) (laws : Laws s) (outer : Bool) (v : LayoutNode) (kids : Forest LayoutNode)
    (here : Here (parts_of s) v kids) (all : HereAll (parts_of s) kids)
    (fits : CanBeLaidOut (render v.number v.look v.told v.scroll v.count (renders_in kids))) where
  abbrev P : LayoutParts
  P = parts_of s

  abbrev back : Backs
  back = back_in P outer

  told_fits : Fits v.look (tellings kids)
  told_fits = subst (λ (ds : List ParentData). Fits v.look ds) (tellings_told kids) fits.0

  none_fits : Fits v.look []
  none_fits = record { members = told_fits.members; told = λ k d less. absurd (omega arith); few = omega arith }

  -- what was asked twice of nobody is as it was
  nobody_moved : (mid1 mid : Forest LayoutNode) (rest : List (Option Ask)) → rest ≡ [] → AllServed P back (lay_duties rest) mid1 mid → mid1 ≡ mid
  nobody_moved mid1 mid rest is served = none_served P back mid1 mid (subst (λ (xs : List (Option Ask)). AllServed P back (lay_duties xs) mid1 mid) is served)

  no_runs : (q : Handle → ℕ) (f : Forest LayoutNode) (rest : List (Option Ask)) → rest ≡ [] → runs_left q P outer zero (lay_duties rest) f ≡ 0
  no_runs q f rest is = ap (λ (xs : List (Option Ask)). runs_left q P outer zero (lay_duties xs) f) is ∙ left_nobody q P outer f

  -- ---- nothing is done

  ends_stay : (duty : Duty) → Does P back duty v kids v kids → Ending s outer duty v kids Stay
  ends_stay duty does mid1 mid first rest is one is_rest two =
      let same1 : kids ≡ mid1 = nobody_moved kids mid1 first is one in
      let same : kids ≡ mid = same1 ∙ nobody_moved mid1 mid rest is_rest two in
      record {
        does = subst (λ (f : Forest LayoutNode). Does P back duty v kids v f) same does;
        can = tt;
        runs = λ q n. let a = no_runs q kids first is in let b = no_runs q mid1 rest is_rest in omega arith;
      }

  -- ---- a rule isn't run

  ends_visit : (ask : Ask) → is_due v ask ≡ false → (outer && holds_in v.look ask) ≡ false → Ending s outer (Lay ask) v kids Visit
  ends_visit ask due holds mid1 mid first rest is one is_rest two =
      let same : mid1 ≡ mid = nobody_moved mid1 mid rest is_rest two in
      let round : Round P back (kept_asks kids) kids mid =
      subst (λ (f : Forest LayoutNode). Round P back (kept_asks kids) kids f) same
      (subst (λ (xs : List (Option Ask)). Round P back xs kids mid1) is (all_round P back first kids mid1 one)) in
      record {
        does = visit_does s laws.lawful back ask v kids mid here all due (back_free P outer v.look ask holds) round;
        can = tt;
        runs = λ q n. let a = left_lay q P outer first kids ∙ ap (λ (xs : List (Option Ask)). runs q P outer xs kids) is in
            let b = no_runs q mid1 rest is_rest in
            let whole : duty_runs q n P outer (Lay ask) v kids ≡ runs q P outer (kept_asks kids) kids =
            ap (λ (t : Bool). one_runs n P t (outer && holds_in v.look ask) v ask kids (λ xs. runs q P outer xs kids)) due
            ∙ ap (λ (t : Bool). one_runs n P false t v ask kids (λ xs. runs q P outer xs kids)) holds in
            omega arith;
      }

  -- ---- a rule is run without what is below

  ends_hold : (ask : Ask) → IsOffset ask → is_due v ask ≡ true → (outer && holds_in v.look ask) ≡ true → Ending s outer (Lay ask) v kids (Hold ask)
  ends_hold ask offset due holds mid1 mid first rest is one is_rest two =
      let same1 : kids ≡ mid1 = nobody_moved kids mid1 first is one in
      let same : kids ≡ mid = same1 ∙ nobody_moved mid1 mid rest is_rest two in
      record {
        does = subst (λ (f : Forest LayoutNode). let e = ended s (Hold ask) v f (tellings kids) first rest in Does P back (Lay ask) v kids e.value f) same
            (hold_does s laws.lawful outer ask v kids here all holds);
        can = (none_fits, offset);
        runs = λ q n. let a = no_runs q kids first is in
            let b = no_runs q mid1 rest is_rest in
            let c = if_held n (has_gift s ask v) in
            let d : duty_runs q n P outer (Lay ask) v kids ≡ held_runs n (has_gift s ask v) =
            ap (λ (t : Bool). one_runs n P t (outer && holds_in v.look ask) v ask kids (λ xs. runs q P outer xs kids)) due
            ∙ ap (λ (t : Bool). one_runs n P true t v ask kids (λ xs. runs q P outer xs kids)) holds
            ∙ ap (λ (o : Option Frame). held_runs n (has_frame v.frame o)) (gift_fixed s laws.lawful outer ask v holds) in
            omega arith;
      }

  -- ---- a rule is run

  first_members : (ask : Ask) (first : List (Option Ask)) → first ≡ first_in s (member v) ask (liked_in s v.look ask (renders_in kids)) (tellings kids)
      → first ≡ first_in s (member v) ask (liked_in s v.look ask (members kids)) (tellings kids)
  first_members ask first is = is ∙ ap (λ (n : ℕ). first_in s (member v) ask n (tellings kids)) (sym (laws.likes s v.look ask kids))

  due_runs : (q : Handle → ℕ) (n : ℕ) (ask : Ask) → is_due v ask ≡ true → (outer && holds_in v.look ask) ≡ false
      → duty_runs q n P outer (Lay ask) v kids ≡ n + runs q P outer (asks_at P v ask kids (objects P kids)) kids
  due_runs q n ask due holds =
      ap (λ (t : Bool). one_runs n P t (outer && holds_in v.look ask) v ask kids (λ xs. runs q P outer xs kids)) due
      ∙ ap (λ (t : Bool). one_runs n P true t v ask kids (λ xs. runs q P outer xs kids)) holds

  ends_run : (ask : Ask) → IsOffset ask → is_due v ask ≡ true → (outer && holds_in v.look ask) ≡ false → rule_course v.look ask ≡ Run ask → Ending s outer (Lay ask) v kids (Run ask)
  ends_run ask offset due holds run mid1 mid first rest is one is_rest two =
      let first_is = first_members ask first is in
      let round1 = all_round P back first kids mid1 one in
      let round2 = all_round P back rest mid1 mid two in
      let apart : AskApart first rest =
      subst (λ (xs : List (Option Ask)). AskApart first xs) (sym is_rest) (rests_apart (member v) v.scroll ask (tellings kids) first (stored mid1) run) in
      let ran = run_does s laws.lawful back ask v kids mid1 mid first rest all first_is round1 is_rest round2 apart (back_free P outer v.look ask holds) in
      let both = rounds_join P back first rest kids mid1 mid apart round1 round2 in
      let here1 = round_here P back first kids mid1 all round1 in
      let here2 = round_here P back (last_asks first rest) kids mid all both in
      let known : answers_of first (stored mid) ≡ answers_of first (objects P mid1) =
      sym (answers_kept P back first rest mid1 mid apart round2)
      ∙ sym (answers_alike first (objects P mid1) (stored mid1) (laid_answers P laws.lawful back first kids mid1 here1 (all_laid P back first kids mid1 round1))) in
      let frames : answers_of (last_asks first rest) (stored mid) ≡ answers_of (last_asks first rest) (objects P mid) =
      sym (answers_alike (last_asks first rest) (objects P mid) (stored mid)
      (laid_answers P laws.lawful back (last_asks first rest) kids mid here2 (all_laid P back (last_asks first rest) kids mid both))) in
      record {
        does = ran.lays;
        can = can_run laws.renders s v.look v.scroll ask (tellings kids) first (last_asks first rest) mid1 mid (answers_of first (stored mid)) (answers_of (last_asks first rest) (stored mid))
            told_fits offset run known frames;
        runs = λ q n. let a = left_lay q P outer first kids in
            let b = left_lay q P outer rest mid1 in
            let c = run_runs q s back outer ask v kids mid1 mid first rest round1 apart ran in
            let d = due_runs q n ask due holds in
            omega arith;
      }

  ends_view : (axis : Axis) (b : Bounds) → v.look ≡ viewport axis → is_due v (AsBox b) ≡ true → (outer && holds_in v.look (AsBox b)) ≡ false
      → Ending s outer (Lay (AsBox b)) v kids (View axis b)
  ends_view axis b look due holds mid1 mid first rest is one is_rest two =
      let first_is = first_members (AsBox b) first is in
      let measured = all_measured P back axis (cross_of axis b) (tops kids) kids mid1 refl one in
      let round2 = all_round P back rest mid1 mid two in
      let viewed = view_does s laws.lawful outer axis b v kids mid1 mid first rest look all first_is measured is_rest round2 (back_free P outer v.look (AsBox b) holds) in
      let alike = laid_answers P laws.lawful back rest kids mid viewed.here viewed.laid in
      let known : answers_of first (stored mid) ≡ answers_of (everybody (AsSliver (unseen axis (cross_of axis b))) (tellings mid)) (stored mid) =
      ap (λ (xs : List (Option Ask)). answers_of xs (stored mid))
      (is ∙ ap (λ (l : Look). first_in s (record (member v) { look = l }) (AsBox b) (liked_in s v.look (AsBox b) (renders_in kids)) (tellings kids)) look
      ∙ ap (λ (ds : List ParentData). everybody (AsSliver (unseen axis (cross_of axis b))) ds) (same_tellings kids mid viewed.same)) in
      record {
        does = viewed.ran.lays;
        can = can_view laws.renders laws.follow s laws.lawful v.look v.scroll axis b (tellings kids) kids mid rest (answers_of first (stored mid)) (answers_of rest (stored mid))
            look told_fits viewed.same viewed.is_rest alike known refl;
        runs = λ q n. let a = left_measure q P outer axis (cross_of axis b) (tops kids) kids refl in
            let c = left_lay q P outer rest mid1 in
            let d = due_runs q n (AsBox b) due holds in
            let e = viewed.few q in
            omega arith;
      }

  -- ---- a sliver is opened

  ends_box : (axis : Axis) (cross : ℕ) → measured_in axis cross v ≡ boxed → Ending s outer (Measure axis cross) v kids (Open (Lay (box_in axis cross)))
  ends_box axis cross m mid1 mid first rest is one is_rest two =
      let same : mid1 ≡ mid = nobody_moved mid1 mid rest is_rest two in
      let laid = subst (λ (f : Forest LayoutNode). MeasuredBy P back axis cross boxed v kids (opened v) f (λ c. FirstMeasured P back axis c kids f)) same
      (refl, first_laid P back (box_in axis cross) kids mid1 one) in
      record {
        does = subst (λ (x : Measured). MeasuredBy P back axis cross x v kids (opened v) mid (λ c. FirstMeasured P back axis c kids mid)) (sym m) laid;
        can = tt;
        runs = λ q n. let a = left_lay q P outer (Some (box_in axis cross) ∷ []) kids in
            let b = no_runs q mid1 rest is_rest in
            let c : duty_runs q n P outer (Measure axis cross) v kids ≡ runs q P outer (Some (box_in axis cross) ∷ []) kids =
            ap (λ (x : Measured). measured_runs q P outer axis cross x kids (λ c. first_runs q P outer axis c kids)) m in
            omega arith;
      }

  ends_sliver : (axis : Axis) (cross : ℕ) (i : Insets) → measured_in axis cross v ≡ padded i → Ending s outer (Measure axis cross) v kids (Open (Measure axis (cross_in axis cross i)))
  ends_sliver axis cross i m mid1 mid first rest is one is_rest two =
      let same : mid1 ≡ mid = nobody_moved mid1 mid rest is_rest two in
      let laid = subst (λ (f : Forest LayoutNode). MeasuredBy P back axis cross (padded i) v kids (opened v) f (λ c. FirstMeasured P back axis c kids f)) same
      (refl, first_measured P back axis (cross_in axis cross i) kids mid1 one) in
      record {
        does = subst (λ (x : Measured). MeasuredBy P back axis cross x v kids (opened v) mid (λ c. FirstMeasured P back axis c kids mid)) (sym m) laid;
        can = tt;
        runs = λ q n. let a = left_first q P outer axis (cross_in axis cross i) kids in
            let b = no_runs q mid1 rest is_rest in
            let c : duty_runs q n P outer (Measure axis cross) v kids ≡ first_runs q P outer axis (cross_in axis cross i) kids =
            ap (λ (x : Measured). measured_runs q P outer axis cross x kids (λ c. first_runs q P outer axis c kids)) m in
            omega arith;
      }

  -- ---- which course it is

  by_rule : (ask : Ask) → MayDo (Lay ask) → is_due v ask ≡ true → (outer && holds_in v.look ask) ≡ false → Ending s outer (Lay ask) v kids (rule_course v.look ask)
  by_rule (AsSliver b) may due holds = by v.look refl
    where
      by : (l : Look) → v.look ≡ l → Ending s outer (Lay (AsSliver b)) v kids (rule_course l (AsSliver b))
      by (viewport axis) is = ends_run (AsSliver b) may due holds (ap (λ (x : Look). rule_course x (AsSliver b)) is)
      by l is = ends_run (AsSliver b) may due holds (ap (λ (x : Look). rule_course x (AsSliver b)) is)
  by_rule (AsBox b) may due holds = by v.look refl
    where
      by : (l : Look) → v.look ≡ l → Ending s outer (Lay (AsBox b)) v kids (rule_course l (AsBox b))
      by (viewport axis) is = ends_view axis b is due holds
      by l is = ends_run (AsBox b) tt due holds (ap (λ (x : Look). rule_course x (AsBox b)) is)

  offset_of : (ask : Ask) → MayDo (Lay ask) → IsOffset ask
  offset_of (AsBox b) may = tt
  offset_of (AsSliver b) may = may

  by_marks : (ask : Ask) → MayDo (Lay ask) → (due holds below : Bool) → is_due v ask ≡ due → (outer && holds_in v.look ask) ≡ holds → v.layout_below ≡ below
      → Ending s outer (Lay ask) v kids (lay_course due holds v.look below ask)
  by_marks ask may true true below due holds is = ends_hold ask (offset_of ask may) due holds
  by_marks ask may true false below due holds is = by_rule ask may due holds
  by_marks ask may false true below due holds is = ends_stay (Lay ask) (stay_held s laws.lawful outer ask v kids here all due holds)
  by_marks ask may false false true due holds is = ends_visit ask due holds
  by_marks ask may false false false due holds is = ends_stay (Lay ask) (stay_still s back ask v kids here all due is)

  by_measured : (axis : Axis) (cross : ℕ) (m : Measured) → measured_in axis cross v ≡ m → Ending s outer (Measure axis cross) v kids (open_course axis cross m)
  by_measured axis cross boxed is = ends_box axis cross is
  by_measured axis cross (padded i) is = ends_sliver axis cross i is
  by_measured axis cross nothing is =
      ends_stay (Measure axis cross) (subst (λ (x : Measured). MeasuredBy P back axis cross x v kids v kids (λ c. FirstMeasured P back axis c kids kids)) (sym is) (refl, refl))

  pub course_ends : (duty : Duty) → MayDo duty → Ending s outer duty v kids (course_of outer duty v)
  course_ends (Lay ask) may = by_marks ask may (is_due v ask) (outer && holds_in v.look ask) v.layout_below refl refl refl
  course_ends (Measure axis cross) may = by_measured axis cross (measured_in axis cross v) refl
