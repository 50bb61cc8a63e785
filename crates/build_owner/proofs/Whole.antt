-- The plans of a walk become the trees.
use Rattle.std.proofs.Common.{◌≡◌, Option, Some, None, List, [], ◌∷◌, ◌++◌, map, length, get_or, sym, ap, ◌∙◌, subst, arith, ◌<◌}
use Rattle.std.specs.List.{All}
use Rattle.std.specs.Option.{option_to_list}
use Rattle.fx_handles.specs.declared.Handle.{Handle}
use Rattle.node_tree.specs.Forest.{Forest, tops, In, IsDistinct}
use Rattle.node_tree.specs.Part.{is_named}
use Rattle.node_tree.specs.Plan.{PlanEntry, entries, IsPlan}
use Rattle.node_tree.specs.Tree.{Tree, IsNode, Is, Holds}
use Rattle.node_tree.proofs.TreeLemmas.{Holds-from_Is}
use Rattle.element_tree.specs.Element.{Element}
use Rattle.element_tree.specs.Renewal.{FollowsIn}
use Rattle.global_keys.specs.Holders.{Registry}
use Rattle.render_tree.specs.Object.{RenderObject}
use Rattle.render_tree.specs.Redraw.{Redraw}
use Rattle.build_walk.specs.Merging.{lists_redraw, list_handles, serving, merge}
use Rattle.build_walk.specs.Renewing.{renewals}
use Rattle.build_walk.proofs.Items.{listed_handles}
use Rattle.build_walk.proofs.Merging.{tops_grown}
use Rattle.build_owner.specs.declared.walk.BuildWalk.{BuildWalk}
use Rattle.build_owner.specs.Committing.{CanCommit, CanDraw, whole_tree, whole_drawn}
use Rattle.build_owner.specs.Ranging.{listed_in}
use Rattle.build_owner.specs.Redrawn.{IsPlanOf}
use Rattle.build_owner.specs.Staying.{left_items, with_items}
use Rattle.build_owner.proofs.Apart.{each_among, listed_in_plan, items_distinct, items_live}
use Rattle.build_owner.proofs.Leaving.{plan_with_items}

-- a plan for render nodes, in which lazy lists keep what was below them
module _ (t : Tree RenderObject) (walk : BuildWalk) (d : Forest Redraw) (q : CanDraw t walk d) (f : Forest RenderObject) (is : Is t f) (es : List (PlanEntry Redraw)) (copied : es ≡ walk.renders.items) where
  pub lists_held : All (Holds t) (listed_in lists_redraw es)
  lists_held =
      subst (λ xs. All (Holds t) (listed_in lists_redraw xs)) (sym (copied ∙ q.planned_as.is))
      (subst (All (Holds t)) (sym (listed_handles lists_redraw None d q.bare))
      (each_among (Holds t) (list_handles lists_redraw d) (λ h among. Holds-from_Is t f h is (q.planned_as.plan.live h (listed_in_plan d h among)))))

  pub plan_whole : ((u : Tree RenderObject) (fs : List (PlanEntry Redraw)) (root : Option Handle) (inactive : List Handle) (g : Forest Redraw) → fs ≡ entries None g → option_to_list root ++ inactive ≡ tops g → IsDistinct g
      → ((k : Handle) → In k g → IsNode u k) → IsPlan u fs root inactive g) → (k : Handle) → k ≡ q.top → (fs : List (PlanEntry Redraw))
      → fs ≡ (merge lists_redraw es (map (λ h. serving h (left_items t (is_named es) h)) (listed_in lists_redraw es))).plan → IsPlanOf t k fs (with_items t d)
  plan_whole law k top fs done =
      let whole = plan_with_items t d q.bare es fs (copied ∙ q.planned_as.is) done in
      let gs = map (left_items t (is_named (entries None d))) (list_handles lists_redraw d) in
      record {
        is = whole;
        plan =
            law t fs (Some k) [] (with_items t d) whole (ap (λ x. x ∷ []) top ∙ q.planned_as.plan.tops ∙ sym (tops_grown lists_redraw d gs))
            (items_distinct t f is d q.planned_as.plan.distinct q.planned_as.plan.live q.bare) (items_live t f is d q.planned_as.plan.distinct q.planned_as.plan.live q.bare);
      }

-- the only one of a list
pub only_one : (hs : List Handle) (k d : Handle) → hs ≡ k ∷ [] → get_or hs 0 d ≡ k
only_one hs k d is = ap (λ l. get_or l 0 d) is

pub one_there : (hs : List Handle) (k : Handle) → hs ≡ k ∷ [] → 0 < length hs
one_there hs k is = let e = ap length is in omega (arith, e)

module _ (t : Tree Element) (r : Tree RenderObject) (g : Registry) (walk : BuildWalk) (root : Handle) (p : CanCommit t r g walk root) where
  pub render_plan : (k : Handle) → k ≡ p.top → IsPlan r (entries None (whole_drawn p)) (Some p.top) [] (whole_drawn p) → IsPlanOf r k walk.renders.items (whole_drawn p)
  render_plan k same plan = record {
    is = p.renders;
    plan =
        subst (λ es. IsPlan r es (Some k) [] (whole_drawn p)) (sym p.renders)
        (subst (λ x. IsPlan r (entries None (whole_drawn p)) (Some x) [] (whole_drawn p)) (sym same) plan);
  }

  pub element_plan : IsPlan t (entries None (renewals (whole_tree p))) (Some root) [] (renewals (whole_tree p)) → IsPlan t walk.elements.items (Some root) [] (renewals (whole_tree p))
  element_plan plan = subst (λ es. IsPlan t es (Some root) [] (renewals (whole_tree p))) (sym p.elements) plan

  pub element_follows : FollowsIn t (entries None (renewals (whole_tree p))) → FollowsIn t walk.elements.items
  element_follows follows = subst (FollowsIn t) (sym p.elements) follows
