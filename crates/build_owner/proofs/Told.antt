-- What the elements of a tree tell above all of them is told at each.
use Rattle.std.proofs.Common.{◌≡◌, Option, Some, None, List, sym, subst, arith}
use Rattle.std.specs.List.{All}
use Rattle.std.proofs.lemmas.List.Elements.{All-nil, All-cons}
use Rattle.fx_expr.specs.declared.values.Value.{Value}
use Rattle.fx_handles.specs.declared.Handle.{Handle}
use Rattle.fx_handles.specs.Handle.{Among}
use Rattle.node_tree.specs.Forest.{Forest, tops, below, IsDistinct, Stands}
use Rattle.node_tree.specs.Forest.Forest.{none, tree}
use Rattle.node_tree.specs.Tree.{Tree, node_at, children_at, tops_at, Is, subtree_at, StandsAt, Holds}
use Rattle.build_form.specs.Entering.{values_below}
use Rattle.element_tree.specs.Element.{Element}
use Rattle.build_walk.specs.Past.{Pasts}
use Rattle.build_walk.specs.Telling.{TellPasts}
use Rattle.build_walk.proofs.Kept.{one_stands}
use Rattle.build_owner.proofs.Climbed.{all_among}

module _ (t : Tree Element) (pasts : Pasts) (found : (h : Handle) (s : Forest Element) → StandsAt t h s → subtree_at t h ≡ s) where
  -- the element at a handle, and those below it, tell what is known
  abbrev pub TellsAt : List Value → Handle → Type 0
  TellsAt values k = TellPasts pasts values (subtree_at t k)

  each_tells : (p : Option Handle) (values : List Value) (f : Forest Element) → Stands (node_at t) p f → IsDistinct f → TellPasts pasts values f → All (TellsAt values) (tops f)
  each_tells p values none stands distinct tells = All-nil (TellsAt values)
  each_tells p values (tree h e kids rest) stands distinct tells =
      All-cons (TellsAt values) h (tops rest)
      (subst (TellPasts pasts values) (sym (found h (tree h e kids none) (one_stands t p h e kids rest stands distinct))) (tells.0, tells.1, tt))
      (each_tells p values rest stands.2 (λ x. omega (arith, distinct x)) tells.2)

  -- a top of the tree
  pub top_tells : (f : Forest Element) (values : List Value) (h : Handle) → Is t f → TellPasts pasts values f → Among h (tops_at t) → TellsAt values h
  top_tells f values h is tells among =
      all_among (TellsAt values) (tops_at t) h (subst (All (TellsAt values)) (sym is.tops) (each_tells None values f is.stands is.distinct tells)) among

  -- one below another
  pub below_tells : (around after : List Value) (h p : Handle) (e : Element) → Holds t p → subtree_at t p ≡ tree p e (below (subtree_at t p)) none
      → Stands (node_at t) (Some p) (below (subtree_at t p)) → tops (below (subtree_at t p)) ≡ children_at t p
      → Among h (children_at t p) → TellsAt around p → after ≡ values_below e.widget around → TellsAt after h
  below_tells around after h p e holds opened stands listed_below among tells given =
      let inside : List Value = values_below e.widget around in
      let all = subst IsDistinct opened holds.distinct in
      let each = each_tells (Some p) inside (below (subtree_at t p)) stands (λ x. omega (arith, all x)) (subst (TellPasts pasts around) opened tells).1 in
      subst (λ vs. TellsAt vs h) (sym given) (all_among (TellsAt inside) (children_at t p) h (subst (All (TellsAt inside)) listed_below each) among)
