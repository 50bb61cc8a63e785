-- Elements that stand for a settled tree have the children that their widgets have, each at its place.
use Rattle.std.proofs.Common.{◌≡◌, ℕ, suc, Bool, true, false, cond, List, [], map, sym, ap, ◌∙◌}
use Rattle.fx_handles.specs.declared.Handle.{Handle}
use Rattle.fx_handles.specs.Handle.{same}
use Rattle.node_tree.specs.Forest.{Forest, below, tree_of, or_else}
use Rattle.node_tree.specs.Forest.Forest.{none, tree}
use Rattle.widget_model.specs.Plain.{PlainWidget, look_of, key_of}
use Rattle.widget_model.specs.Plain.{children_of as child_widgets}
use Rattle.plain_tree.specs.PlainNode.{widget_of, list_of, nodes_of as listed}
use Rattle.build_form.specs.BuildRole.{BuildRole, composes, provides, keeps, lists, holds, build_role_of}
use Rattle.build_form.specs.Entering.{first_repeated}
use Rattle.build_form.proofs.Apart.{none_repeats}
use Rattle.element_tree.specs.Element.{Element}
use Rattle.element_tree.specs.Nodes.{nodes_of}
use Rattle.settled_builds.specs.Settled.{AreItsOwn, StandInOrder, IsSettledAbove, AreSettled}
use Rattle.settled_builds.specs.Taken.{has_own_children}
use Rattle.renewed_builds.specs.Taking.{StandInTurn, HasItsOwn, HaveTheirOwn}
use Rattle.renewed_builds.proofs.Retaking.{widgets_are}

its_own : (p : BuildRole) (w : PlainWidget) (ws : List PlainWidget) → has_own_children p ≡ true → AreItsOwn p w ws → ws ≡ child_widgets w
its_own (composes place props) w ws own is = cc
its_own (provides name value) w ws own is = cc
its_own (keeps kept) w ws own is = is
its_own (lists extent) w ws own is = cc
its_own holds w ws own is = is

module _ (scrolled : ℕ → ℕ) where
  in_turn : (place : ℕ) (f : Forest Element) → StandInOrder place (list_of (listed (nodes_of scrolled f))) → StandInTurn place f
  in_turn place none order = tt
  in_turn place (tree h v kids rest) order = (order.0, in_turn (suc place) rest order.1)

  has_own : (v : Element) (kids : Forest Element) → IsSettledAbove v.widget (list_of (listed (nodes_of scrolled kids))) → has_own_children (build_role_of (look_of v.widget)) ≡ true → HasItsOwn v.widget kids
  has_own v kids above own =
      let is = its_own (build_role_of (look_of v.widget)) v.widget (map widget_of (list_of (listed (nodes_of scrolled kids)))) own above.own in
      record {
        widgets = sym (widgets_are scrolled kids) ∙ is;
        order = in_turn 0 kids above.order;
        apart = none_repeats (child_widgets v.widget) (ap (λ ws. first_repeated [] (map key_of ws)) (sym is) ∙ above.apart);
      }

  pub have_own : (f : Forest Element) → AreSettled (listed (nodes_of scrolled f)) → HaveTheirOwn f
  have_own none settled = tt
  have_own (tree h v kids rest) settled = (has_own v kids settled.0.0, have_own kids settled.0.1, have_own rest settled.1)

  -- ---- below one element

  abbrev Settles : Forest Element → Type 0
  Settles f = AreSettled (listed (nodes_of scrolled f))

  settled_else : (f g : Forest Element) → Settles f → Settles g → Settles (or_else f g)
  settled_else none g p q = q
  settled_else (tree h v kids rest) g p q = p

  settled_if : (b : Bool) (f g : Forest Element) → Settles f → Settles g → Settles (cond b f g)
  settled_if true f g p q = p
  settled_if false f g p q = q

  settled_there : (h : Handle) (f : Forest Element) → Settles f → Settles (tree_of h f)
  settled_there h none settled = tt
  settled_there h (tree k v kids rest) settled =
      settled_if (same k h) (tree k v kids none) (or_else (tree_of h kids) (tree_of h rest)) (settled.0, tt)
      (settled_else (tree_of h kids) (tree_of h rest) (settled_there h kids settled.0.1) (settled_there h rest settled.1))

  row_below : (f : Forest Element) → Settles f → HaveTheirOwn (below f) × StandInTurn 0 (below f)
  row_below none settled = (tt, tt)
  row_below (tree h v kids rest) settled = (have_own kids settled.0.1, in_turn 0 kids settled.0.0.order)

  pub rows_below : (h : Handle) (f : Forest Element) → AreSettled (listed (nodes_of scrolled f)) → HaveTheirOwn (below (tree_of h f)) × StandInTurn 0 (below (tree_of h f))
  rows_below h f settled = row_below (tree_of h f) (settled_there h f settled)
