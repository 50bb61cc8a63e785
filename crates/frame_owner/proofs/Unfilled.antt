-- Without the items of lazy lists the whole tree has the render nodes of the first phase's tree.
use Rattle.std.proofs.Common.{◌≡◌, ℕ, ◌-◌, nat_lt, Bool, true, false, cond, Option, Some, None, List, [], ◌∷◌, ◌++◌, length, refl, sym, ap, subst, ◌∙◌, arith}
use Rattle.std.proofs.lemmas.Bool.{false≢true}
use Rattle.fx_expr.specs.declared.values.Value.{Value}
use Rattle.widget_model.specs.Look.{Look, sliver_lazy}
use Rattle.widget_model.specs.Plain.{PlainWidget, look_of}
use Rattle.widget_model.specs.Plain.{children_of as child_widgets}
use Rattle.widget_model.specs.Size.{count_of}
use Rattle.node_tree.specs.Tree.{Tree}
use Rattle.plain_tree.specs.declared.render.ParentData.{ParentData}
use Rattle.plain_tree.specs.declared.role.RenderRole.{RenderRole}
use Rattle.plain_tree.specs.declared.role.RenderRole.TheVariants.{Plain}
use Rattle.plain_tree.specs.PlainNode.{PlainNode, node, PlainNodes, no_nodes, more_nodes}
use Rattle.plain_tree.specs.Projection.{projected, projected_all, told_by, told_at, scroll_in, render_of}
use Rattle.plain_tree.specs.Render.{Render, render, Renders, no_renders, more_renders, renders_of as renders_listed, lazy_count}
use Rattle.plain_tree.specs.RenderRole.{render_role_of, vanishes}
use Rattle.program_check.specs.Checked.{PlainChecked}
use Rattle.element_tree.specs.Element.{Element}
use Rattle.global_keys.specs.Holders.{Registry}
use Rattle.layout_walk.specs.Rules.{is_list}
use Rattle.render_tree.specs.Object.{RenderObject}
use Rattle.render_tree.specs.Plain.{renders_of, root_tree}
use Rattle.kept_layouts.specs.Items.{all_without_items}
use Rattle.session_form.specs.Framing.{top_of}
use Rattle.build_form.specs.Step.{Progress, Step, stops, gives, and_then}
use Rattle.build_form.specs.BuildRole.{BuildRole, composes, provides, keeps, lists, holds, build_role_of, is_lazy}
use Rattle.build_form.specs.Partner.{root_arrival}
use Rattle.build_form.specs.Entering.{Blueprint, Basis, depth_limit, output_limit, values_below}
use Rattle.build_form.specs.FullBuild.{Ranges, Screen, built, built_by, live_ranges, items_entered, if_lazy, filled, all_filled, second_phase, started, basis, first_tree, both_phases, full_build}
use Rattle.build_form.specs.Program.{blueprint_of}
use Rattle.build_form.proofs.OldOrNew.{OnGives, then, small_built}
use Rattle.build_form.proofs.Stepping.{anything, weaker}
use Rattle.build_walk.specs.Merging.{ListsAreBare, AllListsAreBare}
use Rattle.build_owner.specs.Phases.{IsFirstPhase, first_node_of}
use Rattle.build_owner.specs.Standing.{Beginning, next_at}
use Rattle.build_owner.specs.Waiting.{WaitingBuild}
use Rattle.frame_owner.proofs.LaysOut.{LaysOut}
use Rattle.frame_owner.proofs.Left.{list_kind}
use Rattle.frame_owner.proofs.Looks.{head_is, more_is, none_is}

-- ---- the render nodes of two lists

heads : Render → Renders → Render
heads r no_renders = r
heads r (more_renders q qs) = q

tails : Renders → Renders
tails no_renders = no_renders
tails (more_renders q qs) = qs

same_append : (xs ys us vs : List Render) → all_without_items (renders_listed xs) ≡ renders_listed us → all_without_items (renders_listed ys) ≡ renders_listed vs
    → all_without_items (renders_listed (xs ++ ys)) ≡ renders_listed (us ++ vs)
unfolding heads tails
same_append [] ys [] vs e g = g
same_append [] ys (u ∷ us) vs e g = absurd (cc)
same_append (x ∷ xs) ys [] vs e g = absurd (cc)
same_append (x ∷ xs) ys (u ∷ us) vs e g = λ i. more_renders (ap (heads u) e i) (same_append xs ys us vs (ap tails e) g i)

-- ---- one node, with other nodes below it

-- a node has the render nodes of another one, but for items
abbrev Same : PlainNode → PlainNode → Type 0
Same n m = (above : RenderRole) (told : Option ParentData) → all_without_items (renders_listed (projected above told m)) ≡ renders_listed (projected above told n)

abbrev AllSame : PlainNodes → PlainNodes → Type 0
AllSame ns ms = (above : RenderRole) (told : Option ParentData) → all_without_items (renders_listed (projected_all above told ms)) ≡ renders_listed (projected_all above told ns)

-- what has no render node is no list
no_list : (look : Look) → vanishes (render_role_of look) ≡ true → is_lazy (build_role_of look) ≡ false
no_list (sliver_lazy extent) e = absurd (false≢true e)
no_list look e = refl

module _ (number : ℕ) (widget : PlainWidget) (fields : List Value) (scroll index : ℕ) (children ns : PlainNodes)
    (bare : is_lazy (build_role_of (look_of widget)) ≡ true → children ≡ no_nodes) (all : is_lazy (build_role_of (look_of widget)) ≡ false → AllSame children ns) where
  below_same : (b : Bool) → is_lazy (build_role_of (look_of widget)) ≡ b
      → cond b no_renders (all_without_items (renders_listed (projected_all (render_role_of (look_of widget)) None ns))) ≡ renders_listed (projected_all (render_role_of (look_of widget)) None children)
  below_same true e = sym (ap (λ cs. renders_listed (projected_all (render_role_of (look_of widget)) None cs)) (bare e) ∙ ap renders_listed (none_is (render_role_of (look_of widget)) None))
  below_same false e = all e (render_role_of (look_of widget)) None

  own_same : cond (is_list (look_of widget)) no_renders (all_without_items (renders_listed (projected_all (render_role_of (look_of widget)) None ns)))
      ≡ renders_listed (projected_all (render_role_of (look_of widget)) None children)
  own_same =
      ap (λ b. cond b no_renders (all_without_items (renders_listed (projected_all (render_role_of (look_of widget)) None ns)))) (list_kind (look_of widget))
      ∙ below_same (is_lazy (build_role_of (look_of widget))) refl

  by_vanish : (v : Bool) (above : RenderRole) (told : Option ParentData) (link : ParentData) → vanishes (render_role_of (look_of widget)) ≡ v
      → all_without_items
      (renders_listed (cond v (projected_all above told ns)
      (render number (look_of widget) link (scroll_in (render_role_of (look_of widget)) scroll) (lazy_count (render_role_of (look_of widget)) (child_widgets widget))
      (renders_listed (projected_all (render_role_of (look_of widget)) None ns)) ∷ [])))
      ≡ renders_listed (cond v (projected_all above told children)
      (render number (look_of widget) link (scroll_in (render_role_of (look_of widget)) scroll) (lazy_count (render_role_of (look_of widget)) (child_widgets widget))
      (renders_listed (projected_all (render_role_of (look_of widget)) None children)) ∷ []))
  by_vanish true above told link e = all (no_list (look_of widget) e) above told
  by_vanish false above told link e = λ i.
      more_renders
      (render number (look_of widget) link (scroll_in (render_role_of (look_of widget)) scroll) (lazy_count (render_role_of (look_of widget)) (child_widgets widget)) (own_same i)) no_renders

  same_node : Same (node number widget fields scroll index children) (node number widget fields scroll index ns)
  same_node above told =
      ap (λ rs. all_without_items (renders_listed rs)) (head_is above told number widget fields scroll index ns)
      ∙ (by_vanish (vanishes (render_role_of (look_of widget))) above (Some (told_by above (render_role_of (look_of widget)) (told_at above told index))) (told_at above told index) refl
      ∙ sym (ap renders_listed (head_is above told number widget fields scroll index children)))

none_same : AllSame no_nodes no_nodes
none_same above told = ap (λ rs. all_without_items (renders_listed rs)) (none_is above told) ∙ sym (ap renders_listed (none_is above told))

more_same : (n m : PlainNode) (ns ms : PlainNodes) → Same n m → AllSame ns ms → AllSame (more_nodes n ns) (more_nodes m ms)
more_same n m ns ms one all above told =
    ap (λ rs. all_without_items (renders_listed rs)) (more_is above told m ms)
    ∙ (same_append (projected above told m) (projected_all above told ms) (projected above told n) (projected_all above told ns) (one above told) (all above told)
    ∙ sym (ap renders_listed (more_is above told n ns)))

-- ---- a tree whose lists have no items

mutual
  same_self : (n : PlainNode) → ListsAreBare n → Same n n
  same_self (node number widget fields scroll index children) bare = same_node number widget fields scroll index children children bare.0 (λ e. all_self children bare.1)

  all_self : (ns : PlainNodes) → AllListsAreBare ns → AllSame ns ns
  all_self no_nodes bare = none_same
  all_self (more_nodes n ns) bare = more_same n n ns ns (same_self n bare.0) (all_self ns bare.1)

-- ---- its lists get their items

same_if : (p : BuildRole) (itemized : ℕ → Progress → Step PlainNodes) (others : Progress → Step PlainNodes) (s : Progress) (children : PlainNodes)
    → OnGives (others s) (λ ns t. AllSame children ns) → OnGives (if_lazy p itemized others s) (λ ns t. is_lazy p ≡ false → AllSame children ns)
same_if (composes place props) itemized others s children h = weaker (others s) (λ ns t. AllSame children ns) (λ ns t. is_lazy (composes place props) ≡ false → AllSame children ns) (λ ns t k e. k) h
same_if (provides name value) itemized others s children h = weaker (others s) (λ ns t. AllSame children ns) (λ ns t. is_lazy (provides name value) ≡ false → AllSame children ns) (λ ns t k e. k) h
same_if (keeps kept) itemized others s children h = weaker (others s) (λ ns t. AllSame children ns) (λ ns t. is_lazy (keeps kept) ≡ false → AllSame children ns) (λ ns t k e. k) h
same_if (lists extent) itemized others s children h =
    weaker (itemized extent s) (λ ns t. Unit {0}) (λ ns t. is_lazy (lists extent) ≡ false → AllSame children ns) (λ ns t k e. absurd (false≢true (sym e))) (anything (itemized extent s))
same_if holds itemized others s children h = weaker (others s) (λ ns t. AllSame children ns) (λ ns t. is_lazy holds ≡ false → AllSame children ns) (λ ns t k e. k) h

module _ (from : Basis) (ranges : Ranges) where
  mutual
    unfolding filled all_filled

    same_filled : (left : ℕ) (values : List Value) (n : PlainNode) (s : Progress) → ListsAreBare n → OnGives (filled from ranges left values n s) (λ m t. Same n m)
    same_filled left values (node number widget fields scroll index children) s bare =
        let below = values_below widget values in
        then (if_lazy (build_role_of (look_of widget)) (λ e s1. items_entered from (left - 1) below (ranges number e) (child_widgets widget) s1) (λ s1. all_filled from ranges (left - 1) below children s1) s) _
        (λ ns t. is_lazy (build_role_of (look_of widget)) ≡ false → AllSame children ns) (λ m t. Same (node number widget fields scroll index children) m)
        (same_if (build_role_of (look_of widget)) (λ e s1. items_entered from (left - 1) below (ranges number e) (child_widgets widget) s1) (λ s1. all_filled from ranges (left - 1) below children s1) s children
        (same_all (left - 1) below children s bare.1))
        (λ ns t all. same_node number widget fields scroll index children ns bare.0 all)

    same_all : (left : ℕ) (values : List Value) (ns : PlainNodes) (s : Progress) → AllListsAreBare ns → OnGives (all_filled from ranges left values ns s) (λ ms t. AllSame ns ms)
    same_all left values no_nodes s bare = none_same
    same_all left values (more_nodes n ns) s bare =
        then (filled from ranges left values n s) _ (λ m t. Same n m) (λ ms t. AllSame (more_nodes n ns) ms) (same_filled left values n s bare.0) (λ m s1 h.
        then (all_filled from ranges left values ns s1) _ (λ ms t. AllSame ns ms) (λ ms t. AllSame (more_nodes n ns) ms) (same_all left values ns s1 bare.1) (λ ms s2 k. more_same n m ns ms h k))

on_second : (from : Basis) (ranges : PlainNode → Ranges) (part : PlainNode) (waiting : List (Option PlainNode)) (s : Progress) → ListsAreBare part → OnGives (second_phase from ranges part waiting s) (λ m t. Same part m)
on_second from ranges part [] s bare = same_self part bare
on_second from ranges part (partner ∷ others) s bare = same_filled from (ranges part) depth_limit from.program.defaults part s bare

on_built : (part : PlainNode) (r : Step PlainNode) (tree : PlainNode) (after : ℕ) → OnGives r (λ m t. Same part m) → built_by r ≡ built tree after → Same part tree
on_built part (stops f) tree after h e = absurd (cc)
on_built part (gives m s) tree after h e = let same : m ≡ tree = cc in subst (Same part) same h

pub same_built : (b : Blueprint) (screen : Screen) (old : Option PlainNode) (next after : ℕ) (root : PlainWidget) (part tree : PlainNode) (s : Progress)
    → first_tree b old next root ≡ gives part s → full_build b screen old next root ≡ built tree after → ListsAreBare part → Same part tree
unfolding full_build both_phases
same_built b screen old next after root part tree s done is bare =
    on_built part (both_phases (basis b old) (live_ranges screen) (root_arrival old root) (started next)) tree after
    (subst (λ (r : Step PlainNode). OnGives (and_then r (λ n s1. second_phase (basis b old) (live_ranges screen) n s1.waiting s1)) (λ m t. Same part m)) (sym done)
    (on_second (basis b old) (live_ranges screen) part s.waiting s bare))
    (small_built (nat_lt output_limit (count_of root)) _ (both_phases (basis b old) (live_ranges screen) (root_arrival old root) (started next)) tree after is)

-- ---- what is laid out between the phases

pub one_is : (rs : List Render) → length rs ≡ 1 → rs ≡ top_of rs ∷ []
one_is [] e = absurd (omega (arith, e))
one_is (r ∷ []) e = refl
one_is (r ∷ q ∷ rs) e = absurd (omega (arith, e))

pub first_outer : (first : PlainNode) (mid : Tree RenderObject) → ListsAreBare first → LaysOut first mid → all_without_items (renders_of (root_tree mid)) ≡ all_without_items (more_renders (top_of (render_of first)) no_renders)
first_outer first mid bare lays =
    ap all_without_items lays.renders
    ∙ (sym (ap renders_listed lays.bare)
    ∙ (sym (same_self first bare Plain None) ∙ ap (λ rs. all_without_items (renders_listed rs)) (one_is (render_of first) (ap length lays.bare))))

pub outer : (c : PlainChecked) (t0 : Tree Element) (r0 : Tree RenderObject) (g0 : Registry) (b : Beginning c t0 r0 g0) (w : PlainWidget) (t : Tree Element) (mid : Tree RenderObject) (g : Registry) (l : WaitingBuild)
    (q : IsFirstPhase c t0 r0 g0 b w t mid g l) → ListsAreBare (first_node_of q) → LaysOut (first_node_of q) mid → (screen : Screen) (tree : PlainNode) (after : ℕ)
    → full_build (blueprint_of c) screen b.old (next_at t0) w ≡ built tree after → length (render_of tree) ≡ 1
    → all_without_items (renders_of (root_tree mid)) ≡ all_without_items (more_renders (top_of (render_of tree)) no_renders)
outer c t0 r0 g0 b w t mid g l q bare lays screen tree after is one =
    ap all_without_items lays.renders
    ∙ (sym (ap renders_listed lays.bare)
    ∙ (sym (same_built (blueprint_of c) screen b.old (next_at t0) after w (first_node_of q) tree _ q.walked.is is bare Plain None)
    ∙ ap (λ rs. all_without_items (renders_listed rs)) (one_is (render_of tree) one)))
