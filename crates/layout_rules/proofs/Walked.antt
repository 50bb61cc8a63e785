-- The walk at one node: both rounds and what the course leaves.
use Rattle.std.proofs.Common.{◌≡◌, ap, refl, sym, ◌∙◌, subst, ℕ, ◌+◌, ◌≤◌, ◌<◌, Bool, cond, Option, Some, List, [], ◌∷◌, map, arith}
use Rattle.fx_handles.specs.declared.Handle.{Handle}
use Rattle.fx_handles.specs.Handle.{same, times}
use Rattle.node_tree.specs.Forest.{Forest, Stands, tops, count}
use Rattle.node_tree.specs.Forest.Forest.{none, tree}
use Rattle.node_tree.specs.Tree.{Tree, children_at}
use Rattle.plain_tree.specs.declared.render.ParentData.{ParentData}
use Rattle.layout_form.specs.declared.asks.Ask.{Ask}
use Rattle.layout_form.specs.Object.{Setting}
use Rattle.render_tree.specs.Object.{RenderObject}
use Rattle.render_tree.specs.Tree.{object_at}
use Rattle.layout_walk.proofs.Measuring.{back_only}
use Rattle.layout_walk.specs.Node.{LayoutNode, tellings}
use Rattle.layout_walk.specs.Rule.{LayoutParts}
use Rattle.layout_walk.specs.Flush.{one_each}
use Rattle.layout_walk.specs.Here.{Backs, back_in}
use Rattle.layout_walk.specs.Rules.{parts_of}
use Rattle.layout_walk.specs.Walk.{SameMembers}
use Rattle.layout_rules.specs.declared.duties.Duty.{Duty}
use Rattle.layout_rules.specs.declared.duties.Course.{Course}
use Rattle.layout_rules.specs.declared.duties.Course.TheVariants.{Stay}
use Rattle.layout_rules.specs.Ending.{EndsWell, Ending, NodeOver, asked_first, asked_rest, known_in, ended, CanEnd}
use Rattle.layout_rules.specs.Duties.{AllServed, duty_runs, runs_left, ticks_left, lay_duties}
use Rattle.layout_rules.specs.Nodes.{layout_node, seen_at, SeenAt}
use Rattle.layout_rules.specs.Reads.{told_at}
use Rattle.layout_rules.specs.Serving.{IsGood, IsReadyFor, Serves, weight_of, ListsOnce, ListsOne, EndsAs, CanEndAt}
use Rattle.layout_rules.specs.Turns.{Turns}
use Rattle.layout_rules.specs.Courses.{first_duties, course_of}
use Rattle.layout_rules.specs.Lawful.{Laws}
use Rattle.layout_rules.proofs.Listed.{Listed, course_listed}
use Rattle.layout_rules.proofs.Putting.{one_forest}
use Rattle.layout_rules.proofs.Served.{all_same, all_here}
use Rattle.layout_rules.proofs.Stepped.{course_ends}
use Rattle.layout_rules.proofs.Readings.{stored_told}
use Rattle.layout_rules.proofs.Turning.{seen_stored, stored_at, seen_children, same_weigh, turn_again, turn_same}
use Rattle.layout_rules.proofs.Walking.{Progress, finished, spent}

pub nobody : (P : LayoutParts) (back : Backs) (f : Forest LayoutNode) → AllServed P back [] f f
nobody P back none = tt
nobody P back (tree h v kids rest) = (refl, (refl, refl), nobody P back rest)

pub seen_one : (t : Tree RenderObject) (h : Handle) (v w : LayoutNode) (kids below : Forest LayoutNode) → SeenAt t h (tree h v kids none) → SeenAt t h (tree h w below none) → (v ≡ w) × (kids ≡ below)
seen_one t h v w kids below a b =
    let e : tree h v kids none ≡ tree h w below none = one_forest (seen_at t) _ _ (tree h v kids none) (tree h w below none) a.stands b.stands refl in
    let values : v ≡ w = cc in
    let parts : kids ≡ below = cc in
    (values, parts)

pub told_are : (t : Tree RenderObject) (p : Option Handle) (f : Forest LayoutNode) → Stands (seen_at t) p f → map (told_at t) (tops f) ≡ tellings f
told_are t p none stands = refl
told_are t p (tree h v kids rest) stands =
    ap (λ (d : ParentData). d ∷ map (told_at t) (tops rest)) (stored_told t h v (tops kids) (stored_at t h p v (tops kids) stands.0))
    ∙ ap (λ (ds : List ParentData). v.told ∷ ds) (told_are t p rest stands.2)

abbrev pub IsCourse : Bool → Duty → Tree RenderObject → Handle → Course → Type 0
IsCourse outer duty t h course = (o : RenderObject) → object_at t h ≡ Some o → course ≡ course_of outer duty (layout_node o)

pub course_is : (outer : Bool) (duty : Duty) (t : Tree RenderObject) (h : Handle) (course : Course) (v : LayoutNode) (kids : Forest LayoutNode) → IsCourse outer duty t h course → SeenAt t h (tree h v kids none) → course_of outer duty v ≡ course
course_is outer duty t h course v kids is seen =
    let stored = seen_stored t h v kids seen in sym (is stored.object stored.is ∙ ap (λ (x : LayoutNode). course_of outer duty x) stored.seen)

pub stay_serves : (s : Setting) → Laws s → (outer : Bool) (duty : Duty) (t : Tree RenderObject) (h : Handle) (course : Course) (steps : ℕ) → IsReadyFor (parts_of s) t h duty → IsCourse outer duty t h course → course ≡ Stay
    → Serves (parts_of s) outer duty t t h steps steps
stay_serves s laws outer duty t h course steps ready is stay =
    let P = parts_of s in
    let v = ready.value in
    let kids = ready.kids in
    let good = ready.good in
    let ends : Ending s outer duty v kids Stay =
    subst (λ (x : Course). Ending s outer duty v kids x) (course_is outer duty t h course v kids is good.stands ∙ stay) (course_ends s laws outer v kids good.here good.all good.fits duty ready.may) in
    let well = ends kids kids [] [] refl (nobody P (back_in P outer) kids) refl (nobody P (back_in P outer) kids) in
    record {
      value = v;
      kids = kids;
      good = good;
      value_now = v;
      kids_now = kids;
      turns = turn_same t h (tree h v kids none) good.stands;
      does = well.does;
      ticks = omega arith;
    }

module _ (s : Setting) (laws : Laws s) (outer : Bool) (duty : Duty) (t0 t1 t2 : Tree RenderObject) (h : Handle) (course : Course) (ready : IsReadyFor (parts_of s) t0 h duty) (is : IsCourse outer duty t0 h course)
    (told : List ParentData) (first rest : List (Option Ask)) (i1 end1 i2 end2 steps0 steps1 steps2 : ℕ)
    (told_is : told ≡ map (told_at t0) (children_at t0 h))
    (first_is : (v : LayoutNode) (kids : Forest LayoutNode) → SeenAt t0 h (tree h v kids none) → told ≡ tellings kids → first ≡ asked_first s course v kids)
    (p1 : Progress s outer t0 t1 h i1 end1 (first_duties course first (children_at t0 h)) steps0 steps1) (over1 : i1 < end1 → ⊥)
    (rest_is : (v : LayoutNode) (kids : Forest LayoutNode) → SeenAt t1 h (tree h v kids none) → rest ≡ asked_rest course v told (known_in course first kids))
    (p2 : Progress s outer t1 t2 h i2 end2 (lay_duties rest) steps1 steps2) (over2 : i2 < end2 → ⊥) where
  abbrev P : LayoutParts
  P = parts_of s

  abbrev back : Backs
  back = back_in P outer

  abbrev v : LayoutNode
  v = p1.value

  abbrev kids : Forest LayoutNode
  kids = p1.kids0

  abbrev mid1 : Forest LayoutNode
  mid1 = p1.kids

  abbrev mid : Forest LayoutNode
  mid = p2.kids

  at_start : (v ≡ ready.value) × (kids ≡ ready.kids)
  at_start = seen_one t0 h v ready.value kids ready.kids p1.base ready.good.stands

  good : IsGood P t0 h v kids
  good = subst (λ (f : Forest LayoutNode). IsGood P t0 h v f) (sym at_start.1) (subst (λ (x : LayoutNode). IsGood P t0 h x ready.kids) (sym at_start.0) ready.good)

  between : (p2.value ≡ v) × (p2.kids0 ≡ mid1)
  between = seen_one t1 h p2.value v p2.kids0 mid1 p2.base p1.turns.stands

  tells : told ≡ tellings kids
  tells = told_is ∙ ap (λ (hs : List Handle). map (told_at t0) hs) (seen_children t0 h v kids p1.base) ∙ told_are t0 (Some h) kids p1.base.stands.1

  jobs_are : first_duties course first (children_at t0 h) ≡ first_duties course first (tops kids)
  jobs_are = ap (λ (hs : List Handle). first_duties course first hs) (seen_children t0 h v kids p1.base)

  one : AllServed P back (first_duties course first (tops kids)) kids mid1
  one = subst (λ (js : List (Option Duty)). AllServed P back js kids mid1) jobs_are (finished s laws.lawful outer t0 t1 h i1 end1 (first_duties course first (children_at t0 h)) steps0 steps1 p1 over1)

  two : AllServed P back (lay_duties rest) mid1 mid
  two = subst (λ (f : Forest LayoutNode). AllServed P back (lay_duties rest) f mid) between.1 (finished s laws.lawful outer t1 t2 h i2 end2 (lay_duties rest) steps1 steps2 p2 over2)

  asks_rest : rest ≡ asked_rest course v (tellings kids) (known_in course first mid1)
  asks_rest =
      rest_is v mid1 p1.turns.stands ∙ ap (λ (ds : List ParentData). asked_rest course v ds (known_in course first mid1)) tells

  well : EndsWell s outer duty v kids mid1 mid course first rest
  well =
      let ends : Ending s outer duty v kids course =
      subst (λ (x : Course). Ending s outer duty v kids x) (course_is outer duty t0 h course v kids is p1.base) (course_ends s laws outer v kids good.here good.all good.fits duty ready.may) in
      ends mid1 mid first rest (first_is v kids p1.base tells) one asks_rest two

  seen_mid : SeenAt t2 h (tree h v mid none)
  seen_mid = subst (λ (x : LayoutNode). SeenAt t2 h (tree h x mid none)) between.0 p2.turns.stands

  turns_mid : Turns t1 t2 h (tree h v mid1 none) (tree h v mid none)
  turns_mid =
      subst (λ (f : Forest LayoutNode). Turns t1 t2 h (tree h v f none) (tree h v mid none)) between.1
      (subst (λ (x : LayoutNode). Turns t1 t2 h (tree h x p2.kids0 none) (tree h x mid none)) between.0 p2.turns)

  pub can_end : CanEndAt course told first rest t2 h
  can_end w below seen =
      let same_now = seen_one t2 h v w mid below seen_mid seen in
      subst (λ (ds : List ParentData). CanEnd course w below ds first rest) (sym tells)
      (subst (λ (f : Forest LayoutNode). CanEnd course w f (tellings kids) first rest) same_now.1
      (subst (λ (x : LayoutNode). CanEnd course x mid (tellings kids) first rest) same_now.0 well.can))

  first_same : SameMembers kids mid1
  first_same = all_same s laws.lawful back (back_only (parts_of s) outer) (first_duties course first (tops kids)) kids mid1 good.all one

  second_same : SameMembers mid1 mid
  second_same = all_same s laws.lawful back (back_only (parts_of s) outer) (lay_duties rest) mid1 mid (all_here s laws.lawful back (back_only (parts_of s) outer) (first_duties course first (tops kids)) kids mid1 good.all one) two

  pub walk_serves : (t3 : Tree RenderObject) (steps3 : ℕ) → EndsAs s course told first rest t2 t3 h steps2 steps3 → Serves P outer duty t0 t3 h steps0 steps3
  walk_serves t3 steps3 ends =
      let e : NodeOver = ended s course v mid (tellings kids) first rest in
      let last = ends v mid seen_mid in
      let turned : Turns t2 t3 h (tree h v mid none) (tree h e.value e.kids none) =
      subst (λ (ds : List ParentData). let d = ended s course v mid ds first rest in Turns t2 t3 h (tree h v mid none) (tree h d.value d.kids none)) tells last.0 in
      let counts1 : (k : Handle) → count k (tree h v mid1 none) ≡ count k (tree h v kids none) =
      λ k. let n = same_weigh (λ j. cond {A = ℕ} (same j k) 1 0) kids mid1 first_same in omega (arith, n) in
      let counts2 : (k : Handle) → count k (tree h v mid none) ≡ count k (tree h v kids none) =
      λ k. let n = same_weigh (λ j. cond {A = ℕ} (same j k) 1 0) kids mid1 first_same in
      let m = same_weigh (λ j. cond {A = ℕ} (same j k) 1 0) mid1 mid second_same in omega (arith, n, m) in
      record {
        value = v;
        kids = kids;
        good = good;
        value_now = e.value;
        kids_now = e.kids;
        turns = turn_again t0 t2 t3 h (tree h v kids none) (tree h v mid none) (tree h e.value e.kids none) counts2
            (turn_again t0 t1 t2 h (tree h v kids none) (tree h v mid1 none) (tree h v mid none) counts1 p1.turns turns_mid) turned;
        does = well.does;
        ticks = let a = spent s laws.lawful outer t0 t1 h i1 end1 (first_duties course first (children_at t0 h)) steps0 steps1 p1 in
            let b = spent s laws.lawful outer t1 t2 h i2 end2 (lay_duties rest) steps1 steps2 p2 in
            let c = well.runs one_each 1 in
            let d = last.1 in
            let f = ap (λ (js : List (Option Duty)). ticks_left P outer 0 js kids) jobs_are in
            let g = ap (λ (x : Forest LayoutNode). ticks_left P outer 0 (lay_duties rest) x) between.1 in
            omega (arith, a, b, c, d, f, g);
      }

  pub walk_lists : (t3 : Tree RenderObject) (steps3 : ℕ) (hs0 hs1 hs2 hs3 : List Handle) → Listed s outer t0 h i1 (first_duties course first (children_at t0 h)) hs0 hs1
      → Listed s outer t1 h i2 (lay_duties rest) hs1 hs2 → ListsOne h hs2 hs3 steps2 steps3 → EndsAs s course told first rest t2 t3 h steps2 steps3 → ListsOnce P outer duty t0 h hs0 hs3
  walk_lists t3 steps3 hs0 hs1 hs2 hs3 one_list two_list last ends k x below seen =
      let same_now = seen_one t0 h x v below kids seen p1.base in
      let a = one_list k v kids p1.base in
      let b = two_list k p2.value p2.kids0 p2.base in
      let c = well.runs (weight_of k) (weight_of k h) in
      let d = course_listed s course v h hs2 hs3 steps2 steps3 last (ends v mid seen_mid).1 k in
      let f = ap (λ (js : List (Option Duty)). runs_left (weight_of k) P outer 0 js kids) jobs_are in
      let g = ap (λ (y : Forest LayoutNode). runs_left (weight_of k) P outer 0 (lay_duties rest) y) between.1 in
      let all : times k hs3 ≤ times k hs0 + duty_runs (weight_of k) (weight_of k h) P outer duty v kids = omega (arith, a, b, c, d, f, g) in
      subst (λ (y : Forest LayoutNode). times k hs3 ≤ times k hs0 + duty_runs (weight_of k) (weight_of k h) P outer duty x y) (sym same_now.1)
      (subst (λ (y : LayoutNode). times k hs3 ≤ times k hs0 + duty_runs (weight_of k) (weight_of k h) P outer duty y kids) (sym same_now.0) all)
