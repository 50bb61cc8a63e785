-- The walk at a box with one child, whose rule knows one.
use Rattle.std.proofs.Common.{◌≡◌, ap, refl, sym, ◌∙◌, subst, ℕ, ◌<◌, Bool, Option, Some, None, true, List, [], ◌∷◌, map, length, get_or, arith}
use Rattle.fx_geom.specs.declared.boxes.Bounds.{Bounds}
use Rattle.fx_geom.specs.Size.{HasLengths}
use Rattle.fx_handles.specs.declared.Handle.{Handle}
use Rattle.node_tree.specs.Forest.{Forest}
use Rattle.node_tree.specs.Forest.Forest.{none, tree}
use Rattle.node_tree.specs.Tree.{Tree, IsNode, IsTree, children_at}
use Rattle.plain_tree.specs.Render.{Render}
use Rattle.plain_tree.specs.Shown.{box_size}
use Rattle.plain_tree.specs.declared.render.ParentData.{ParentData}
use Rattle.layout_form.specs.declared.asks.Ask.{Ask}
use Rattle.layout_form.specs.declared.asks.Ask.TheVariants.{AsBox}
use Rattle.layout_form.specs.Fits.{FitsLayout}
use Rattle.layout_form.specs.Frames.{found_makes}
use Rattle.layout_form.specs.Object.{Setting}
use Rattle.kind_rules.specs.Cursor.{look_of}
use Rattle.kind_rules.specs.Single.{is_single}
use Rattle.kind_rules.proofs.SingleBoxes.{single_rest}
use Rattle.render_tree.specs.Object.{RenderObject}
use Rattle.layout_walk.proofs.Measuring.{back_only}
use Rattle.layout_walk.specs.Here.{back_in}
use Rattle.layout_walk.specs.Node.{LayoutNode, member, tellings, renders_in, frame_or}
use Rattle.layout_walk.specs.Rule.{LayoutParts}
use Rattle.layout_walk.specs.Rules.{parts_of, first_in, liked_in}
use Rattle.layout_rules.specs.declared.duties.Duty.{Duty}
use Rattle.layout_rules.specs.declared.duties.Duty.TheVariants.{Lay}
use Rattle.layout_rules.specs.declared.duties.Course.{Course}
use Rattle.layout_rules.specs.declared.duties.Course.TheVariants.{Run}
use Rattle.layout_rules.specs.Courses.{first_duties}
use Rattle.layout_rules.specs.Ending.{CanEnd, CanRun, asked_first, asked_rest, known_in}
use Rattle.layout_rules.specs.Flags.{FlagsListed}
use Rattle.layout_rules.specs.Nodes.{SeenAt}
use Rattle.layout_rules.specs.Only.{HasOne}
use Rattle.layout_rules.specs.Painting.{Leaves}
use Rattle.layout_rules.specs.Places.{render_at}
use Rattle.layout_rules.specs.Plugs.{ArePlugged}
use Rattle.layout_rules.specs.Reads.{state_at, told_at}
use Rattle.layout_rules.specs.Serving.{IsReadyFor, IsSeen, Serves, ListsOnce, ListsOne, RunsAs, EndsAs, CanEndAt}
use Rattle.layout_rules.specs.Lawful.{Laws}
use Rattle.layout_rules.proofs.Between.{ready_start, mid_live, mid_seen, mid_start}
use Rattle.layout_rules.proofs.Flagged.{flags_self_listed, walk_flags}
use Rattle.layout_rules.proofs.Listed.{Listed, listed_start, listed_passed, listed_one}
use Rattle.layout_rules.proofs.OneBelow.{one_members, one_long}
use Rattle.layout_rules.proofs.Plugged.{plugs_self, walk_plugs}
use Rattle.layout_rules.proofs.Readings.{first_seen}
use Rattle.layout_rules.proofs.Served.{served_same}
use Rattle.layout_rules.proofs.Turning.{seen_children, seen_render, same_tops}
use Rattle.layout_rules.proofs.Walked.{IsCourse, seen_one, can_end, walk_serves, walk_lists}
use Rattle.layout_rules.proofs.Walking.{Progress, passed, ready, served_one}

module _ (s : Setting) (laws : Laws s) (outer : Bool) (duty : Duty) (t0 : Tree RenderObject) (h : Handle) (course : Course) (there : IsReadyFor (parts_of s) t0 h duty) (is_course : IsCourse outer duty t0 h course)
    (is0 : IsTree t0) (c : Handle) (b inner : Bounds) (has : HasOne s t0 h course c b inner) (steps0 : ℕ) where
  abbrev P : LayoutParts
  P = parts_of s

  abbrev first : List (Option Ask)
  first = Some (AsBox inner) ∷ []

  abbrev told : List ParentData
  told = map (told_at t0) (children_at t0 h)

  abbrev duties : List (Option Duty)
  duties = first_duties course first (children_at t0 h)

  first_is : (v : LayoutNode) (kids : Forest LayoutNode) → SeenAt t0 h (tree h v kids none) → told ≡ tellings kids → first ≡ asked_first s course v kids
  first_is v kids seen tells =
      has.asks.asks told ∙ first_seen s t0 h v kids is0 seen (AsBox b) told
      ∙ ap (λ (ds : List ParentData). first_in s (member v) (AsBox b) (liked_in s v.look (AsBox b) (renders_in kids)) ds) tells
      ∙ ap (λ (x : Course). asked_first s x v kids) (sym has.runs)

  get : get_or duties 0 None ≡ Some (Lay (AsBox inner))
  get = ap (λ (x : Course). get_or (first_duties x first (children_at t0 h)) 0 None) has.runs

  named : c ≡ get_or (children_at t0 h) 0 h
  named = sym (ap (λ (hs : List Handle). get_or hs 0 h) has.one)

  p0 : Progress s outer t0 t0 h 0 1 duties steps0 steps0
  p0 = ready_start s outer duty t0 h there 1 duties steps0 (sym (ap (λ (hs : List Handle). length hs) has.one))

  -- the child may be asked so
  pub one_ready : IsReadyFor P t0 c (Lay (AsBox inner))
  one_ready = ready s laws.lawful outer t0 t0 h 0 1 duties steps0 steps0 p0 c (Lay (AsBox inner)) named (omega arith) tt

  module _ (t1 : Tree RenderObject) (steps1 : ℕ) (serves : Serves P outer (Lay (AsBox inner)) t0 t1 c steps0 steps1) where
    p1 : Progress s outer t0 t1 h 1 1 duties steps0 steps1
    p1 = served_one s laws.lawful outer t0 t0 h 0 1 duties steps0 steps0 p0 t1 c (Lay (AsBox inner)) steps1 named (omega arith) get serves

    over : 1 < 1 → ⊥
    over less = omega (arith, less)

    pub one_child : children_at t1 h ≡ c ∷ []
    one_child =
        let alike = served_same s laws.lawful (back_in P outer) (back_only P outer) 1 duties p1.kids0 p1.kids p1.all p1.served in
        seen_children t1 h p1.value p1.kids p1.turns.stands ∙ sym (same_tops p1.kids0 p1.kids alike) ∙ sym (seen_children t0 h p1.value p1.kids0 p1.base) ∙ has.one

    pub one_live : IsNode t1 h
    one_live = mid_live s outer duty t0 h there laws t1 1 1 duties steps0 steps1 p1

    pub one_seen : IsSeen t1 h
    one_seen = mid_seen s outer duty t0 h there laws t1 1 1 duties steps0 steps1 p1

    single_is : is_single p1.value.look ≡ true
    single_is = sym (ap (λ (r : Render). is_single (look_of r)) (seen_render t0 h p1.value p1.kids0 is0 p1.base)) ∙ has.asks.single

    pub one_single : IsTree t1 → is_single (look_of (render_at t1 h)) ≡ true
    one_single is1 = ap (λ (r : Render). is_single (look_of r)) (seen_render t1 h p1.value p1.kids is1 p1.turns.stands) ∙ single_is

    q0 : Progress s outer t1 t1 h 0 1 [] steps1 steps1
    q0 = mid_start s outer duty t0 h there laws t1 1 1 duties steps0 steps1 p1 over 1 [] (sym (ap (λ (hs : List Handle). length hs) one_child))

    p2 : Progress s outer t1 t1 h 1 1 [] steps1 steps1
    p2 = passed s laws.lawful outer t1 t1 h 0 1 [] steps1 steps1 q0 refl (omega arith)

    rest_is : (v : LayoutNode) (kids : Forest LayoutNode) → SeenAt t1 h (tree h v kids none) → [] ≡ asked_rest course v told (known_in course first kids)
    rest_is v kids seen =
        let value = seen_one t1 h v p1.value kids p1.kids seen p1.turns.stands in
        let single : is_single v.look ≡ true = ap (λ (x : LayoutNode). is_single x.look) value.0 ∙ single_is in
        single_rest v.look b (found_makes v.look v.scroll b (known_in (Run (AsBox b)) first kids)) told (known_in (Run (AsBox b)) first kids) single
        ∙ ap (λ (x : Course). asked_rest x v told (known_in x first kids)) (sym has.runs)

    can : CanEndAt course told first [] t1 h
    can = can_end s laws outer duty t0 t1 t1 h course there is_course told first [] 1 1 1 1 steps0 steps1 steps1 refl first_is p1 over rest_is p2 over

    can_run : CanRun (AsBox b) p1.value p1.kids told first first
    can_run = subst (λ (x : Course). CanEnd x p1.value p1.kids told first []) has.runs (can p1.value p1.kids p1.turns.stands)

    pub one_fits : IsTree t1 → FitsLayout (look_of (render_at t1 h))
    one_fits is1 = one_members t1 h p1.value p1.kids b told first first is1 p1.turns.stands can_run

    pub one_size : HasLengths (box_size (frame_or (state_at t1 c).frame))
    one_size = one_long t1 h c p1.value p1.kids b told first (AsBox inner) one_child p1.turns.stands can_run

    ends_so : (t3 : Tree RenderObject) (steps3 : ℕ) → RunsAs s (AsBox b) told first first t1 t3 h steps1 steps3 → EndsAs s course told first [] t1 t3 h steps1 steps3
    ends_so t3 steps3 runs = subst (λ (x : Course). EndsAs s x told first [] t1 t3 h steps1 steps3) (sym has.runs) runs

    pub one_serves : (t3 : Tree RenderObject) (steps3 : ℕ) → RunsAs s (AsBox b) told first first t1 t3 h steps1 steps3 → Serves P outer duty t0 t3 h steps0 steps3
    one_serves t3 steps3 runs =
        walk_serves s laws outer duty t0 t1 t1 h course there is_course told first [] 1 1 1 1 steps0 steps1 steps1 refl first_is p1 over rest_is p2 over t3 steps3 (ends_so t3 steps3 runs)

    pub one_lists : (t3 : Tree RenderObject) (steps3 : ℕ) (hs0 hs1 hs3 : List Handle) → ListsOnce P outer (Lay (AsBox inner)) t0 c hs0 hs1 → ListsOne h hs1 hs3 steps1 steps3
        → RunsAs s (AsBox b) told first first t1 t3 h steps1 steps3 → ListsOnce P outer duty t0 h hs0 hs3
    one_lists t3 steps3 hs0 hs1 hs3 lists last runs =
        let one_list : Listed s outer t0 h 1 duties hs0 hs1 =
        listed_one s laws.lawful outer t0 t0 h 0 1 duties steps0 steps0 p0 hs0 hs0 (listed_start s outer t0 h duties hs0) c (Lay (AsBox inner)) hs1 named (omega arith) get lists in
        let two_list : Listed s outer t1 h 1 [] hs1 hs1 = listed_passed s laws.lawful outer t1 t1 h 0 1 [] steps1 steps1 q0 hs1 hs1 (listed_start s outer t1 h [] hs1) refl (omega arith) in
        walk_lists s laws outer duty t0 t1 t1 h course there is_course told first [] 1 1 1 1 steps0 steps1 steps1 refl first_is p1 over rest_is p2 over t3 steps3 hs0 hs1 hs1 hs3 one_list two_list last
        (ends_so t3 steps3 runs)

    pub one_flags : (t3 : Tree RenderObject) (steps3 : ℕ) (hs0 hs1 hs3 : List Handle) → FlagsListed t0 t1 hs0 hs1 → Leaves t1 t3 h hs1 hs3 → RunsAs s (AsBox b) told first first t1 t3 h steps1 steps3
        → FlagsListed t0 t3 hs0 hs3
    one_flags t3 steps3 hs0 hs1 hs3 flags leaves runs =
        walk_flags s outer duty course t0 t1 t1 t3 h 1 1 1 1 steps0 steps1 steps1 steps3 duties [] told first [] hs0 hs1 hs1 hs3 is_course p1 p2 flags (flags_self_listed t1 hs1) (ends_so t3 steps3 runs) leaves

    pub one_plugs : (t3 : Tree RenderObject) (steps3 : ℕ) → ArePlugged s.delegates t0 t1 → RunsAs s (AsBox b) told first first t1 t3 h steps1 steps3 → ArePlugged s.delegates t0 t3
    one_plugs t3 steps3 plugs runs =
        walk_plugs s outer course t0 t1 t1 t3 h 1 1 steps1 steps1 steps3 [] told first [] plugs p2 (plugs_self s.delegates t1) (ends_so t3 steps3 runs)
