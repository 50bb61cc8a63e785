-- What a change of one node leaves as it is.
use Rattle.std.proofs.Common.{◌≡◌, ℕ, ◌==◌, Bool, true, false, Option, Some, None, List, [], ◌∷◌, ◌++◌, refl, ap, if◌then◌else◌}
use Rattle.fx_expr.specs.declared.values.Value.{Value}
use Rattle.widget_model.specs.Plain.{look_of, children_of as child_widgets}
use Rattle.plain_tree.specs.declared.render.ParentData.{ParentData}
use Rattle.plain_tree.specs.declared.role.RenderRole.{RenderRole}
use Rattle.plain_tree.specs.declared.role.RenderRole.TheVariants.{Plain}
use Rattle.plain_tree.specs.PlainNode.{PlainNode, node, PlainNodes, no_nodes, more_nodes}
use Rattle.plain_tree.specs.RenderRole.{render_role_of, vanishes}
use Rattle.plain_tree.specs.Render.{render, renders_of, lazy_count}
use Rattle.plain_tree.specs.Projection.{projected, projected_all, render_of, told_at, told_by, scroll_in}
use Rattle.plain_tree.specs.At.{numbers_of, numbers_in, is_there, changed_at, changed_in, having_fields, having_scroll}

-- a function of a node that a change leaves, at the node with a number and elsewhere
by_place : {A : Type 0} (g : PlainNode → A) (own : Bool) (changed other n : PlainNode) → g changed ≡ g n → g other ≡ g n → g (if own then changed else other) ≡ g n
by_place g true changed other n h k = h
by_place g false changed other n h k = k

by_list : {A : Type 0} (g : PlainNodes → A) (here : Bool) (first rest ns : PlainNodes) → g first ≡ g ns → g rest ≡ g ns → g (if here then first else rest) ≡ g ns
by_list g true first rest ns h k = h
by_list g false first rest ns h k = k

module _ (f : PlainNode → PlainNode) (same : (n : PlainNode) → numbers_of (f n) ≡ numbers_of n) (wanted : ℕ) where
  mutual
    pub same_numbers : (n : PlainNode) → numbers_of (changed_at f wanted n) ≡ numbers_of n
    same_numbers (node number w fs s i ns) =
        by_place numbers_of (number == wanted) (f (node number w fs s i ns)) (node number w fs s i (changed_in f wanted ns)) (node number w fs s i ns)
        (same (node number w fs s i ns)) (ap (λ l. number ∷ l) (same_numbers_in ns))

    same_numbers_in : (ns : PlainNodes) → numbers_in (changed_in f wanted ns) ≡ numbers_in ns
    same_numbers_in no_nodes = refl
    same_numbers_in (more_nodes n ns) =
        by_list numbers_in (is_there wanted n) (more_nodes (changed_at f wanted n) ns) (more_nodes n (changed_in f wanted ns)) (more_nodes n ns)
        (ap (λ l. l ++ numbers_in ns) (same_numbers n)) (ap (λ l. numbers_of n ++ l) (same_numbers_in ns))

keeps : (fields : List Value) (n : PlainNode) → numbers_of (having_fields fields n) ≡ numbers_of n
keeps fields (node number w fs s i ns) = refl

keeps_too : (scroll : ℕ) (n : PlainNode) → numbers_of (having_scroll scroll n) ≡ numbers_of n
keeps_too scroll (node number w fs s i ns) = refl

pub fields_keep : (fields : List Value) (wanted : ℕ) (n : PlainNode) → numbers_of (changed_at (having_fields fields) wanted n) ≡ numbers_of n
fields_keep fields wanted n = same_numbers (having_fields fields) (keeps fields) wanted n

pub scroll_keeps : (scroll wanted : ℕ) (n : PlainNode) → numbers_of (changed_at (having_scroll scroll) wanted n) ≡ numbers_of n
scroll_keeps scroll wanted n = same_numbers (having_scroll scroll) (keeps_too scroll) wanted n

-- other fields give the same render nodes
unseen_fields : (fields : List Value) (above : RenderRole) (told : Option ParentData) (n : PlainNode) → projected above told (having_fields fields n) ≡ projected above told n
unfolding projected
unseen_fields fields above told (node number w fs s i ns) = refl

mutual
  unfolding projected

  same_render : (fields : List Value) (wanted : ℕ) (above : RenderRole) (told : Option ParentData) (n : PlainNode)
      → projected above told (changed_at (having_fields fields) wanted n) ≡ projected above told n
  same_render fields wanted above told (node number w fs s i ns) =
      let role = render_role_of (look_of w) in
      let d = told_at above told i in
      by_place (projected above told) (number == wanted) (having_fields fields (node number w fs s i ns))
      (node number w fs s i (changed_in (having_fields fields) wanted ns)) (node number w fs s i ns)
      (unseen_fields fields above told (node number w fs s i ns))
      (λ at. if vanishes role
      then same_render_all fields wanted above (Some (told_by above role d)) ns at
      else (render number (look_of w) d (scroll_in role s) (lazy_count role (child_widgets w)) (renders_of (same_render_all fields wanted role None ns at)) ∷ []))

  same_render_all : (fields : List Value) (wanted : ℕ) (above : RenderRole) (told : Option ParentData) (ns : PlainNodes)
      → projected_all above told (changed_in (having_fields fields) wanted ns) ≡ projected_all above told ns
  same_render_all fields wanted above told no_nodes = refl
  same_render_all fields wanted above told (more_nodes n ns) =
      by_list (projected_all above told) (is_there wanted n) (more_nodes (changed_at (having_fields fields) wanted n) ns)
      (more_nodes n (changed_in (having_fields fields) wanted ns)) (more_nodes n ns)
      (ap (λ l. l ++ projected_all above told ns) (same_render fields wanted above told n))
      (ap (λ l. projected above told n ++ l) (same_render_all fields wanted above told ns))

pub projection_same : (fields : List Value) (wanted : ℕ) (n : PlainNode) → render_of (changed_at (having_fields fields) wanted n) ≡ render_of n
projection_same fields wanted n = same_render fields wanted Plain None n
