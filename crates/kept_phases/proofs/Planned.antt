-- The plan of a forest of updates.
use Rattle.std.proofs.Common.{◌≡◌, ℕ, Bool, cond, Option, Some, None, IsSome, option_map, List, [], ◌∷◌, ◌++◌, refl, ap, sym, ◌∙◌, subst, inl, inr, arith}
use Rattle.fx_handles.specs.declared.Handle.{Handle}
use Rattle.fx_handles.specs.Handle.{same}
use Rattle.fx_handles.specs.HandleLaws.{cases_same, same-ne}
use Rattle.node_tree.specs.Forest.{TreeNode, Forest, tops, count, In}
use Rattle.node_tree.specs.Forest.Forest.{none, tree}
use Rattle.node_tree.specs.Plan.{PlanEntry, entries, IsPlan, IsUpdated}
use Rattle.node_tree.specs.Tree.{Tree, IsNode, node_at}
use Rattle.node_tree.proofs.ForestLemmas.{is_zero}
use Rattle.node_tree.proofs.PlanLemmas.{plan_of}
use Rattle.render_tree.specs.Changes.{EachEntry}
use Rattle.render_tree.specs.Object.{RenderObject}
use Rattle.render_tree.specs.Redraw.{Redraw, redrawn}
use Rattle.render_tree.specs.Tree.{object_at}
use Rattle.kept_phases.specs.Redraws.{Redraws}

pub each_front : (P : PlanEntry Redraw → Type 0) (xs ys : List (PlanEntry Redraw)) → EachEntry P (xs ++ ys) → EachEntry P xs
each_front P [] ys all = tt
each_front P (x ∷ xs) ys all = (all.0, each_front P xs ys all.1)

pub each_back : (P : PlanEntry Redraw → Type 0) (xs ys : List (PlanEntry Redraw)) → EachEntry P (xs ++ ys) → EachEntry P ys
each_back P [] ys all = all
each_back P (x ∷ xs) ys all = each_back P xs ys all.1

pub tops_updated : (at : Handle → Option RenderObject) (g : Forest Redraw) (f : Forest RenderObject) → IsUpdated redrawn at g f → tops g ≡ tops f
tops_updated at none none u = refl
tops_updated at none (tree k v below rest) u = absurd u
tops_updated at (tree h x kids more) none u = absurd u
tops_updated at (tree h x kids more) (tree k v below rest) u = λ i. u.0 i ∷ tops_updated at more rest u.3 i

pub updated_count : (at : Handle → Option RenderObject) (k : Handle) (g : Forest Redraw) (f : Forest RenderObject) → IsUpdated redrawn at g f → count k g ≡ count k f
updated_count at k none none u = refl
updated_count at k none (tree j v below rest) u = absurd u
updated_count at k (tree h x kids more) none u = absurd u
updated_count at k (tree h x kids more) (tree j v below rest) u =
    let a = updated_count at k kids below u.2 in
    let b = updated_count at k more rest u.3 in
    let c = ap (λ y. cond {A = ℕ} (same y k) 1 0) u.0 in
    omega (arith, a, b, c)

live_updated : (t : Tree RenderObject) (k : Handle) (g : Forest Redraw) (f : Forest RenderObject) → IsUpdated redrawn (object_at t) g f → In k g → IsNode t k
live_updated t k none none u among = absurd (omega (arith, among))
live_updated t k none (tree j v below rest) u among = absurd u
live_updated t k (tree h x kids more) none u among = absurd u
live_updated t k (tree h x kids more) (tree j v below rest) u among = elim (cases_same h k) [
  | inl e ↦ subst (IsNode t) e (stored (node_at t h) u.1)
  | inr ne ↦
      let here : cond {A = ℕ} (same h k) 1 0 ≡ 0 = ap (λ (b : Bool). cond {A = ℕ} b 1 0) (same-ne h k ne) in
      elim (is_zero (count k kids)) [
        | inl gone ↦ live_updated t k more rest u.3 (omega (arith, among, here, gone))
        | inr there ↦ live_updated t k kids below u.2 there
      ]
]
  where
    stored : (o : Option (TreeNode RenderObject)) → option_map (redrawn x) (option_map (λ (n : TreeNode RenderObject). n.value) o) ≡ Some v → IsSome o
    stored None e = absurd cc
    stored (Some n) e = refl

pub plan_is : (old new : Tree RenderObject) (r : Redraws old new) → IsPlan r.made (entries None r.updates) r.committed.root r.committed.inactive r.updates
plan_is old new r =
    plan_of r.made (entries None r.updates) r.committed.root r.committed.inactive r.updates refl
    (r.is.tops ∙ sym (tops_updated (object_at r.made) r.updates r.nodes r.updated))
    (λ k. let once = r.is.distinct k in let same_count = updated_count (object_at r.made) k r.updates r.nodes r.updated in omega (arith, once, same_count))
    (λ k among. live_updated r.made k r.updates r.nodes r.updated among)
