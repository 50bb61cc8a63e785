-- An old element below one that is known where the inherited names have some values.
use Rattle.std.proofs.Common.{◌≡◌, ℕ, zero, suc, ◌<◌, Bool, true, false, cond, Option, Some, None, IsSome, option_map, List, [], ◌∷◌, refl, sym, ap, ◌∙◌, subst, arith}
use Rattle.std.specs.List.{All}
use Rattle.std.proofs.lemmas.List.Elements.{All-head, All-tail}
use Rattle.fx_handles.specs.declared.Handle.{Handle}
use Rattle.fx_handles.specs.Arena.{used_count}
use Rattle.fx_handles.specs.Handle.{same, Among}
use Rattle.fx_handles.specs.HandleLaws.{same-true, times-cons}
use Rattle.node_tree.specs.Children.{Keeps}
use Rattle.node_tree.specs.Forest.{TreeNode, size, plain, plain_node}
use Rattle.node_tree.specs.Forest.Forest.{none}
use Rattle.node_tree.specs.Tree.{Tree, node_at, IsNode, parent_of, children_of, parent_at, children_at, tops_at, subtree_at}
use Rattle.element_tree.specs.Element.{Element, element_at}
use Rattle.fx_expr.specs.declared.values.Value.{Value}
use Rattle.build_form.specs.Entering.{values_below}
use Rattle.build_owner.specs.LastFrame.{LastFrame, IsOld}
use Rattle.build_owner.proofs.Children.{live_element}

-- what holds of all of a list holds of each that stands in it
pub all_among : (P : Handle → Type 0) (hs : List Handle) (h : Handle) → All P hs → Among h hs → P h
all_among P [] h all among = absurd (omega (arith, among))
all_among P (k ∷ hs) h all among = by_test (same k h) refl (all_among P hs h (All-tail P k hs all))
  where
    by_test : (b : Bool) → same k h ≡ b → (Among h hs → P h) → P h
    by_test true e later = subst P (same-true k h e) (All-head P k hs all)
    by_test false e later =
        let more = times-cons h k hs in
        let there : cond {A = ℕ} (same k h) 1 0 ≡ 0 = ap (λ b. cond {A = ℕ} b 1 0) e in
        later (omega (arith, among, more, there))

-- nothing stands at a handle that isn't live
dead_empty : (n : ℕ) (at : Handle → Option (TreeNode Element)) (p : Handle) → at p ≡ None → plain n at (p ∷ []) ≡ none
unfolding plain
dead_empty zero at p dead = refl
dead_empty (suc n) at p dead = ap (λ o. plain_node p o (plain n at) []) dead

live_by : (t : Tree Element) (p : Handle) (o : Option (TreeNode Element)) → node_at t p ≡ o → (n : ℕ) → n < size (subtree_at t p) → IsSome o
live_by t p (Some x) is n less = refl
live_by t p None is n less = let empty = ap (λ f. size f) (dead_empty (used_count t.nodes) (node_at t) p is) in absurd (omega (arith, less, empty))

pub live_above : (t : Tree Element) (p : Handle) (n : ℕ) → n < size (subtree_at t p) → IsNode t p
live_above t p n less = live_by t p (node_at t p) refl n less

module _ (was now : Tree Element) (keeps : Keeps was now) (h : Handle) (live : IsNode was h) where
  pub same_parent : parent_at now h ≡ parent_at was h
  same_parent = ap parent_of (keeps h live)

  pub same_children : children_at now h ≡ children_at was h
  same_children = ap children_of (keeps h live)

-- the element at a handle of which the parent is old is old, where the parent's widget has given its value
module _ (f : LastFrame) (t : Tree Element) (keeps : Keeps f.elements t) (around after : List Value) (h p : Handle) (live : IsNode f.elements h) where
  -- a top
  pub top_old : parent_at t h ≡ None → ((parent_at f.elements h ≡ None) → Among h (tops_at f.elements)) → All (IsOld f around) (tops_at f.elements) → IsOld f around h
  top_old absent among all = all_among (IsOld f around) (tops_at f.elements) h all (among (sym (same_parent f.elements t keeps h live) ∙ absent))

  -- one below another
  pub below_old : parent_at t h ≡ Some p → (parent_at f.elements h ≡ Some p → size (subtree_at f.elements h) < size (subtree_at f.elements p)) → Among h (children_at t p)
      → (IsNode f.elements p → IsOld f around p) → ((e : Element) → IsOld f around p → element_at f.elements p ≡ Some e → All (IsOld f (values_below e.widget around)) (children_at f.elements p))
      → ((e : Element) → element_at t p ≡ Some e → after ≡ values_below e.widget around) → IsOld f after h
  below_old parent larger among old below given =
      let there = live_above f.elements p (size (subtree_at f.elements h)) (larger (sym (same_parent f.elements t keeps h live) ∙ parent)) in
      let e = live_element f.elements p there in
      let now : element_at t p ≡ Some e.0 = ap (option_map (λ (n : TreeNode Element). n.value)) (keeps p there) ∙ e.1 in
      subst (λ vs. IsOld f vs h) (sym (given e.0 now))
      (all_among (IsOld f (values_below e.0.widget around)) (children_at f.elements p) h (below e.0 (old there) e.1) (subst (Among h) (same_children f.elements t keeps p there) among))
