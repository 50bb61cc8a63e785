-- What the walk of the first phase comes to, by what `enter` says of the root.
use Rattle.std.proofs.Common.{◌≡◌, ℕ, Option, Some, None, IfSome, Result, Ok, Err, List, sym, ◌∙◌, subst}
use Rattle.std.specs.Result.{IfErr, OnOk}
use Rattle.fx_expr.specs.declared.values.Value.{Value}
use Rattle.fx_handles.specs.declared.Handle.{Handle}
use Rattle.node_tree.specs.Forest.{Forest}
use Rattle.node_tree.specs.Plan.{planned}
use Rattle.node_tree.specs.Tree.{Tree, subtree_at, StandsAt}
use Rattle.widget_model.specs.Plain.{PlainWidget}
use Rattle.program_check.specs.Checked.{PlainChecked}
use Rattle.template_build.specs.Program.{declarations_of}
use Rattle.build_form.specs.declared.faults.FrameFault.{FrameFault}
use Rattle.build_form.specs.Entering.{Blueprint, Basis, first, depth_limit}
use Rattle.build_form.specs.FaultView.{fault_of}
use Rattle.build_form.specs.FullBuild.{started, basis, first_tree}
use Rattle.build_form.specs.Partner.{Arrival, root_arrival}
use Rattle.build_form.specs.Program.{blueprint_of}
use Rattle.build_form.specs.Step.{Fault, Progress}
use Rattle.element_tree.specs.Element.{Element, made_count}
use Rattle.global_keys.specs.Holders.{Registry}
use Rattle.render_tree.specs.Object.{RenderObject}
use Rattle.build_walk.specs.Counting.{builds_from}
use Rattle.build_walk.specs.Entered.{IsEntered}
use Rattle.build_walk.specs.Keeping.{reenter}
use Rattle.build_walk.specs.Walked.{WalkPlans, WalkPlace}
use Rattle.build_owner.specs.declared.walk.BuildWalk.{BuildWalk}
use Rattle.build_owner.specs.Entry.{AreTypedSpots, AreOldSpots}
use Rattle.build_owner.specs.LastFrame.{LastFrame, IsSince, basis_in}
use Rattle.build_owner.specs.Making.{MakesNodes}
use Rattle.build_owner.specs.Naming.{AreHeld}
use Rattle.build_owner.specs.Phases.{no_plans, above_all, IsWalkedFirst}
use Rattle.build_owner.specs.Ready.{IsReadyToWalk}
use Rattle.build_owner.specs.Standing.{Beginning, next_at, frame_of}
use Rattle.build_owner.specs.WalkView.{plans_of, progress_of}
use Rattle.build_owner.proofs.Framed.{first_same, by_basis}

-- ---- of what a call answers

pub on_both : {A E : Type 0} (r : Result A E) (P Q : Type 0) → OnOk r P → OnOk r Q → OnOk r (P × Q)
on_both (Ok x) P Q h k = (h, k)
on_both (Err e) P Q h k = tt

some_map : (o : Option Fault) (P Q : Fault → Type 0) → ((x : Fault) → P x → Q x) → IfSome o P → IfSome o Q
some_map None P Q f h = tt
some_map (Some x) P Q f h = f x h

pub fault_map : {A : Type 0} (r : Result A FrameFault) (P Q : Fault → Type 0) → ((x : Fault) → P x → Q x) → IfErr r (λ e. IfSome (fault_of e) P) → IfErr r (λ e. IfSome (fault_of e) Q)
fault_map (Ok x) P Q f h = tt
fault_map (Err e) P Q f h = some_map (fault_of e) P Q f h

-- ---- the walk

module _ (c : PlainChecked) (t : Tree Element) (r : Tree RenderObject) (g : Registry) (b : Beginning c t r g) (w : PlainWidget)
    (shown : (h : Handle) (x : Forest Element) → StandsAt t h x → subtree_at t h ≡ x)
    (same : reenter (basis (blueprint_of c) b.old) (frame_of c t r g b).pasts first depth_limit (blueprint_of c).defaults (root_arrival b.old w) (started (next_at t)) ≡ first_tree (blueprint_of c) b.old (next_at t) w)
    (values : List Value) (a : Arrival) (before : Progress) (of_values : values ≡ (blueprint_of c).defaults) (of_root : a ≡ root_arrival b.old w) (of_start : before ≡ started (next_at t)) where
  abbrev f : LastFrame
  f = frame_of c t r g b

  abbrev B : Blueprint
  B = blueprint_of c

  abbrev from : Basis
  from = basis_in B f

  pub run_same : reenter from f.pasts first depth_limit values a before ≡ first_tree B b.old (next_at t) w
  run_same = (λ i. reenter from f.pasts first depth_limit (of_values i) (of_root i) (of_start i)) ∙ first_same c t r g b shown w same

  pub count_same : (n : ℕ) → builds_from (basis B b.old) f.pasts first depth_limit B.defaults (root_arrival b.old w) (started (next_at t)) ≡ n
      → builds_from from f.pasts first depth_limit values a before ≡ n
  count_same n is =
      (λ i. builds_from from f.pasts first depth_limit (of_values i) (of_root i) (of_start i))
      ∙ by_basis c t r g b shown (λ x. builds_from x f.pasts first depth_limit B.defaults (root_arrival b.old w) (started (next_at t)) ≡ n) is

  module _ (t1 : Tree Element) (r1 : Tree RenderObject) (g1 : Registry) (walk : BuildWalk) (h : Handle) (at : WalkPlace) (p : WalkPlans) (of_place : at ≡ above_all) (of_plans : p ≡ no_plans) where
    begun : IsEntered from f.pasts first depth_limit values f.scrolled at a before (progress_of f walk g1 t1) t1 r1 p (plans_of walk) h
        → IsEntered from f.pasts first depth_limit B.defaults f.scrolled above_all (root_arrival b.old w) (started (next_at t)) (progress_of f walk g1 t1) t1 r1 no_plans (plans_of walk) h
    begun e =
        subst (λ x. IsEntered from f.pasts first depth_limit B.defaults f.scrolled above_all (root_arrival b.old w) (started (next_at t)) (progress_of f walk g1 t1) t1 r1 x (plans_of walk) h) of_plans
        (subst (λ x. IsEntered from f.pasts first depth_limit B.defaults f.scrolled above_all (root_arrival b.old w) x (progress_of f walk g1 t1) t1 r1 p (plans_of walk) h) of_start
        (subst (λ x. IsEntered from f.pasts first depth_limit B.defaults f.scrolled above_all x before (progress_of f walk g1 t1) t1 r1 p (plans_of walk) h) of_root
        (subst (λ x. IsEntered from f.pasts first depth_limit B.defaults f.scrolled x a before (progress_of f walk g1 t1) t1 r1 p (plans_of walk) h) of_place
        (subst (λ x. IsEntered from f.pasts first depth_limit x f.scrolled at a before (progress_of f walk g1 t1) t1 r1 p (plans_of walk) h) of_values e))))

    pub walked_first : IsEntered from f.pasts first depth_limit values f.scrolled at a before (progress_of f walk g1 t1) t1 r1 p (plans_of walk) h → IsSince B.defaults f t1 r1 g1 → MakesNodes (made_count t) (made_count t1) r r1
        → AreHeld g1 t1 (planned walk.elements.items) → IsReadyToWalk (declarations_of c) B.nodes walk.entered t1 r1 g1 → AreTypedSpots (declarations_of c) t1 walk.spots.items
        → AreOldSpots f walk.spots.items → IsWalkedFirst c t r g b w t1 r1 g1 walk h
    walked_first e since makes held ready spots old_spots =
        let entered = begun e in
        record {
          since = since;
          entered = entered;
          is = sym (first_same c t r g b shown w same) ∙ entered.is;
          makes = makes;
          held = held;
          ready = ready;
          spots = spots;
          old_spots = old_spots;
        }
