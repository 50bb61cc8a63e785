-- The nodes of the first phase's tree are in the whole tree, each with its number and its kind.
use Rattle.std.proofs.Common.{◌≡◌, ℕ, ◌-◌, nat_lt, Bool, true, false, cond, Option, List, [], ◌∷◌, refl, sym, subst, inl, inr}
use Rattle.fx_expr.specs.declared.values.Value.{Value}
use Rattle.widget_model.specs.Look.{Look}
use Rattle.widget_model.specs.Plain.{PlainWidget, look_of}
use Rattle.widget_model.specs.Plain.{children_of as child_widgets}
use Rattle.widget_model.specs.Size.{count_of}
use Rattle.plain_tree.specs.PlainNode.{PlainNode, node, PlainNodes, no_nodes, more_nodes}
use Rattle.build_form.specs.Step.{Fault, Progress, Step, stops, gives, and_then}
use Rattle.build_form.specs.BuildRole.{BuildRole, composes, provides, keeps, lists, holds, build_role_of, is_lazy}
use Rattle.build_form.specs.Partner.{root_arrival}
use Rattle.build_form.specs.Entering.{Blueprint, Basis, depth_limit, output_limit, values_below}
use Rattle.build_form.specs.FullBuild.{Ranges, Screen, failed, built, built_by, live_ranges, items_entered, if_lazy, filled, all_filled, second_phase, started, basis, first_tree, both_phases, full_build}
use Rattle.build_form.proofs.OldOrNew.{OnGives, then}
use Rattle.build_walk.specs.Merging.{ListsAreBare, AllListsAreBare}
use Rattle.frame_owner.proofs.Looks.{NodeHas, NodesHave}

anything : {A : Type 0} (r : Step A) → OnGives r (λ x t. Unit {0})
anything (stops f) = tt
anything (gives x t) = tt

module _ (w : ℕ) (l : Look) where
  -- a lazy list has nothing below it, and below another node what is there stays
  stays_if : (p : BuildRole) (itemized : ℕ → Progress → Step PlainNodes) (others : Progress → Step PlainNodes) (s : Progress) (children : PlainNodes) → (is_lazy p ≡ true → children ≡ no_nodes) → NodesHave w l children
      → OnGives (others s) (λ ns t. NodesHave w l ns) → OnGives (if_lazy p itemized others s) (λ ns t. NodesHave w l ns)
  stays_if (composes place props) itemized others s children bare there stay = stay
  stays_if (provides name value) itemized others s children bare there stay = stay
  stays_if (keeps kept) itemized others s children bare there stay = stay
  stays_if (lists extent) itemized others s children bare there stay = absurd (subst (NodesHave w l) (bare refl) there)
  stays_if holds itemized others s children bare there stay = stay

  module _ (from : Basis) (ranges : Ranges) where
    mutual
      unfolding filled all_filled

      stays_filled : (left : ℕ) (values : List Value) (n : PlainNode) (s : Progress) → ListsAreBare n → NodeHas w l n → OnGives (filled from ranges left values n s) (λ m t. NodeHas w l m)
      stays_filled left values (node number widget fields scroll index children) s bare (inl here) =
          let below = values_below widget values in
          let step = if_lazy (build_role_of (look_of widget)) (λ e s1. items_entered from (left - 1) below (ranges number e) (child_widgets widget) s1) (λ s1. all_filled from ranges (left - 1) below children s1) s in
          then step _ (λ ns t. Unit {0}) (λ m t. NodeHas w l m) (anything step) (λ ns t k. inl here)
      stays_filled left values (node number widget fields scroll index children) s bare (inr inner) =
          let below = values_below widget values in
          then (if_lazy (build_role_of (look_of widget)) (λ e s1. items_entered from (left - 1) below (ranges number e) (child_widgets widget) s1) (λ s1. all_filled from ranges (left - 1) below children s1) s) _
          (λ ns t. NodesHave w l ns) (λ m t. NodeHas w l m)
          (stays_if (build_role_of (look_of widget)) (λ e s1. items_entered from (left - 1) below (ranges number e) (child_widgets widget) s1) (λ s1. all_filled from ranges (left - 1) below children s1) s children
          bare.0 inner (all_stay (left - 1) below children s bare.1 inner))
          (λ ns t k. inr k)

      all_stay : (left : ℕ) (values : List Value) (ns : PlainNodes) (s : Progress) → AllListsAreBare ns → NodesHave w l ns → OnGives (all_filled from ranges left values ns s) (λ ms t. NodesHave w l ms)
      all_stay left values no_nodes s bare there = absurd there
      all_stay left values (more_nodes n ns) s bare (inl head) =
          then (filled from ranges left values n s) _ (λ m t. NodeHas w l m) (λ ms t. NodesHave w l ms) (stays_filled left values n s bare.0 head) (λ m s1 h.
          then (all_filled from ranges left values ns s1) _ (λ ms t. Unit {0}) (λ ms t. NodesHave w l ms) (anything (all_filled from ranges left values ns s1)) (λ ms s2 k. inl h))
      all_stay left values (more_nodes n ns) s bare (inr more) =
          then (filled from ranges left values n s) _ (λ m t. Unit {0}) (λ ms t. NodesHave w l ms) (anything (filled from ranges left values n s)) (λ m s1 h.
          then (all_filled from ranges left values ns s1) _ (λ ms t. NodesHave w l ms) (λ ms t. NodesHave w l ms) (all_stay left values ns s1 bare.1 more) (λ ms s2 k. inr k))

  on_second : (from : Basis) (ranges : PlainNode → Ranges) (tree : PlainNode) (waiting : List (Option PlainNode)) (s : Progress) → ListsAreBare tree → NodeHas w l tree
      → OnGives (second_phase from ranges tree waiting s) (λ m t. NodeHas w l m)
  on_second from ranges tree [] s bare there = there
  on_second from ranges tree (partner ∷ others) s bare there = stays_filled from (ranges tree) depth_limit from.program.defaults tree s bare there

  on_built : (r : Step PlainNode) (tree : PlainNode) (after : ℕ) → OnGives r (λ n t. NodeHas w l n) → built_by r ≡ built tree after → NodeHas w l tree
  on_built (stops f) tree after h e = absurd (cc)
  on_built (gives n s) tree after h e =
      let same : n ≡ tree = cc in
      subst (NodeHas w l) same h

  if_small : (large : Bool) (r : Step PlainNode) (tree : PlainNode) (after : ℕ) (fault : Fault) → OnGives r (λ n t. NodeHas w l n) → cond large (failed fault) (built_by r) ≡ built tree after → NodeHas w l tree
  if_small true r tree after fault h e = absurd (cc)
  if_small false r tree after fault h e = on_built r tree after h e

  pub stays_whole : (b : Blueprint) (screen : Screen) (old : Option PlainNode) (next after : ℕ) (root : PlainWidget) (part tree : PlainNode) (s : Progress)
      → first_tree b old next root ≡ gives part s → full_build b screen old next root ≡ built tree after → ListsAreBare part → NodeHas w l part → NodeHas w l tree
  unfolding full_build both_phases
  stays_whole b screen old next after root part tree s done is bare there =
      if_small (nat_lt output_limit (count_of root)) (both_phases (basis b old) (live_ranges screen) (root_arrival old root) (started next)) tree after _
      (subst (λ (r : Step PlainNode). OnGives (and_then r (λ n s1. second_phase (basis b old) (live_ranges screen) n s1.waiting s1)) (λ n t. NodeHas w l n)) (sym done)
      (on_second (basis b old) (live_ranges screen) part s.waiting s bare there)) is
