-- What an old element had below it, as its plain node says it.
use Rattle.std.proofs.Common.{◌≡◌, ℕ, suc, ◌<◌, Bool, true, false, cond, eqb, Option, Some, None, IfSome, option_map, List, [], ◌∷◌, length, map, slice_get, slice_index_or, refl, sym, ap, ◌∙◌, subst, arith}
use Rattle.std.specs.List.{All}
use Rattle.std.proofs.lemmas.List.Elements.{All-nil, All-cons}
use borrow.Author.Tests.{eqb-true}
use Rattle.fx_handles.specs.declared.Handle.{Handle}
use Rattle.widget_model.specs.declared.widgets.Widget.{Widget}
use Rattle.widget_model.specs.Plain.{PlainWidget, look_of}
use Rattle.widget_model.specs.Plain.{children_of as child_widgets}
use Rattle.widget_model.specs.PlainLaws.{list_of-widgets_of}
use Rattle.widget_model.specs.Typed.{Declarations}
use Rattle.widget_model.specs.Update.{CanUpdate}
use Rattle.widget_model.specs.UpdateLaws.{updates_mean}
use Rattle.widget_model.specs.View.{plain_of, look_in}
use Rattle.reconcile.specs.Keys.{NoKeyRepeats}
use Rattle.node_tree.specs.Tree.{Tree, IsNode, children_at}
use Rattle.reconcile.specs.Laws.{CanUpdateAt}
use Rattle.reconcile.specs.Matching.{matching}
use Rattle.reconcile.proofs.LawLemmas.{matched_can_update}
use Rattle.plain_tree.specs.PlainNode.{PlainNode, node, PlainNodes, no_nodes, more_nodes, widget_of, index_of, children_of, list_of}
use Rattle.build_form.specs.BuildRole.{build_role_of, is_lazy}
use Rattle.build_form.specs.Numbered.{StandAt, IsInPlace, AreInPlace}
use Rattle.build_form.specs.Partner.{widgets_below, widgets_had, nodes_had, node_at, node_at_any}
use Rattle.build_form.specs.WellBuilt.{IsWellBuilt, AreWellBuilt}
use Rattle.element_tree.specs.Element.{Element}
use Rattle.build_walk.specs.Kept.{plain_at, plain_at_any}
use Rattle.build_owner.specs.ArrivalView.{widget_at, children_had}

-- ---- the whole list of child widgets

abbrev below_by : PlainWidget → List PlainNode → List PlainWidget
below_by w ns = cond (is_lazy (build_role_of (look_of w))) (child_widgets w) (map widget_of ns)

below_is : (n : PlainNode) → widgets_below n ≡ below_by (widget_of n) (children_of n)
below_is (node number w fields scroll index children) = refl

module _ (n : PlainNode) (w : Widget) (same : widget_of n ≡ plain_of w) where
  pub lazy_had : is_lazy (build_role_of (look_in w.kind)) ≡ true → widgets_below n ≡ w.children
  lazy_had lazy =
      below_is n ∙ ap (λ v. below_by v (children_of n)) same
      ∙ ap (λ b. cond b (child_widgets (plain_of w)) (map widget_of (children_of n))) lazy ∙ list_of-widgets_of w.children

  pub others_had : is_lazy (build_role_of (look_in w.kind)) ≡ false → widgets_below n ≡ map widget_of (children_of n)
  others_had other =
      below_is n ∙ ap (λ v. below_by v (children_of n)) same
      ∙ ap (λ b. cond b (child_widgets (plain_of w)) (map widget_of (children_of n))) other

-- ---- nodes in place, well built

pub had_apart : (d : Declarations) (o : Option PlainNode) → IfSome o (IsWellBuilt d) → NoKeyRepeats (widgets_had o)
had_apart d None h = λ i j x low less. absurd (omega (arith, less))
had_apart d (Some (node number w fields scroll index children)) h = h.0.apart

module _ (d : Declarations) where
  each_built : (ns : PlainNodes) → AreWellBuilt d ns → All (IsWellBuilt d) (list_of ns)
  each_built no_nodes h = All-nil (IsWellBuilt d)
  each_built (more_nodes n ns) h = All-cons (IsWellBuilt d) n (list_of ns) h.0 (each_built ns h.1)

  pub built_below : (o : Option PlainNode) → IfSome o (IsWellBuilt d) → All (IsWellBuilt d) (nodes_had o)
  built_below None h = All-nil (IsWellBuilt d)
  built_below (Some (node number w fields scroll index children)) h = each_built children h.1

each_placed : (ns : PlainNodes) → AreInPlace ns → All IsInPlace (list_of ns)
each_placed no_nodes h = All-nil IsInPlace
each_placed (more_nodes n ns) h = All-cons IsInPlace n (list_of ns) h.0 (each_placed ns h.1)

pub placed_below : (o : Option PlainNode) → IfSome o IsInPlace → All IsInPlace (nodes_had o)
placed_below None h = All-nil IsInPlace
placed_below (Some (node number w fields scroll index children)) h = each_placed children h.1

pub standing_below : (o : Option PlainNode) → IfSome o IsInPlace → StandAt (widgets_had o) (nodes_had o)
standing_below None h = tt
standing_below (Some (node number w fields scroll index children)) h = h.0

-- what holds of all plain nodes at handles holds of the plain node at each
module _ (F : Handle → Option PlainNode) (P : PlainNode → Type 0) where
  some_same : {x y : PlainNode} → Some x ≡ Some y → x ≡ y
  some_same e = cc

  heads : {A : Type 0} {x y : A} {xs ys : List A} → x ∷ xs ≡ y ∷ ys → x ≡ y
  heads e = cc

  tails : {A : Type 0} {x y : A} {xs ys : List A} → x ∷ xs ≡ y ∷ ys → xs ≡ ys
  tails e = cc

  pub each_at : (hs : List Handle) (ns : List PlainNode) → map F hs ≡ map Some ns → All P ns → All (λ k. IfSome (F k) P) hs
  each_at [] ns e all = All-nil (λ k. IfSome (F k) P)
  each_at (h ∷ hs) [] e all = cc
  each_at (h ∷ hs) (n ∷ ns) e all =
      All-cons (λ k. IfSome (F k) P) h hs (subst (λ o. IfSome o P) (sym (heads e)) (all 0 n (omega arith))) (each_at hs ns (tails e) (λ i d low. all (suc i) d (omega arith)))

-- ---- what is matched can be updated

-- the node at a place has the widget there
module _ (ws : List PlainWidget) (j : ℕ) where
  found_when : (n : PlainNode) (rest : Option PlainNode) (b : Bool) → eqb (index_of n) j ≡ b → slice_get ws (index_of n) ≡ Some (widget_of n)
      → IfSome rest (λ m. slice_get ws j ≡ Some (widget_of m)) → IfSome (cond b (Some n) rest) (λ m. slice_get ws j ≡ Some (widget_of m))
  found_when n rest true e at others = ap (slice_get ws) (sym (eqb-true (index_of n) j e)) ∙ at
  found_when n rest false e at others = others

  found_standing : (ns : List PlainNode) → StandAt ws ns → IfSome (node_at ns j) (λ m. slice_get ws j ≡ Some (widget_of m))
  found_standing [] h = tt
  found_standing (n ∷ ns) h = found_when n (node_at ns j) (eqb (index_of n) j) refl h.0 (found_standing ns h.1)

some_is : {A : Type 0} {x y : A} → Some x ≡ Some y → x ≡ y
some_is e = cc

-- where place j of the old list can be updated to place i of the new one, so can the node there
pub found_updates : (olds news : List PlainWidget) (ns : List PlainNode) (i j : ℕ) (w : PlainWidget) → StandAt olds ns → slice_get news i ≡ Some w → CanUpdateAt olds news j i
    → IfSome (node_at ns j) (λ m. CanUpdate (widget_of m) w)
found_updates olds news ns i j w stands is can = by_node (node_at ns j) (found_standing olds j ns stands)
  where
    by_node : (o : Option PlainNode) → IfSome o (λ m. slice_get olds j ≡ Some (widget_of m)) → IfSome o (λ m. CanUpdate (widget_of m) w)
    by_node None at = tt
    by_node (Some m) at =
        let a = can.0 in
        let b = can.1 in
        let is_old : a ≡ widget_of m = some_is (sym can.2 ∙ at) in
        let is_new : b ≡ w = some_is (sym can.3 ∙ is) in
        subst (λ x. CanUpdate x w) is_old (subst (CanUpdate a) is_new ((updates_mean a b).0 can.4))

pub matched_updates : (olds news : List PlainWidget) (ns : List PlainNode) (i : ℕ) (m : Option ℕ) (w : PlainWidget) → StandAt olds ns → slice_get news i ≡ Some w → slice_get (matching olds news) i ≡ Some m
    → IfSome (node_at_any ns m) (λ x. CanUpdate (widget_of x) w)
matched_updates olds news ns i None w stands is matched = tt
matched_updates olds news ns i (Some j) w stands is matched = found_updates olds news ns i j w stands is (matched_can_update olds news i j matched)

-- so can the widget of the element there
mapped : (o : Option PlainNode) (w : PlainWidget) → IfSome o (λ x. CanUpdate (widget_of x) w) → IfSome (option_map widget_of o) (λ old. CanUpdate old w)
mapped None w h = tt
mapped (Some n) w h = h

pub beside_updates : (scrolled : ℕ → ℕ) (t : Tree Element) (o : Option Handle) (found : Option PlainNode) (w : PlainWidget) → plain_at_any scrolled t o ≡ found
    → IfSome o (λ k. option_map widget_of (plain_at scrolled t k) ≡ widget_at t k) → IfSome found (λ x. CanUpdate (widget_of x) w)
    → IfSome o (λ k. IfSome (widget_at t k) (λ old. CanUpdate old w))
beside_updates scrolled t None found w is same can = tt
beside_updates scrolled t (Some k) found w is same can =
    subst (λ o. IfSome o (λ old. CanUpdate old w)) same (mapped (plain_at scrolled t k) w (subst (λ o. IfSome o (λ x. CanUpdate (widget_of x) w)) (sym is) can))

-- what stands at a place is one of those
pub some_among : (hs : List (Option Handle)) (P : Handle → Type 0) (m : Option ℕ) (o : Option Handle) → All (λ x. IfSome x P) hs → IfSome m (λ j. j < length hs)
    → (m ≡ None → o ≡ None) → IfSome m (λ j. o ≡ slice_index_or hs j None) → IfSome o P
some_among hs P None o all within none some = subst (λ x. IfSome x P) (sym (none refl)) tt
some_among hs P (Some j) o all within none some = subst (λ x. IfSome x P) (sym some) (all j None within)

-- and its plain node is the one that stood there
pub found_plain : (scrolled : ℕ → ℕ) (t : Tree Element) (hs : List (Option Handle)) (ns : List PlainNode) (m : Option ℕ) (o : Option Handle)
    → ((j : ℕ) → j < length hs → plain_at_any scrolled t (slice_index_or hs j None) ≡ node_at ns j) → IfSome m (λ j. j < length hs)
    → (m ≡ None → o ≡ None) → IfSome m (λ j. o ≡ slice_index_or hs j None) → plain_at_any scrolled t o ≡ node_at_any ns m
found_plain scrolled t hs ns None o by_place within none some = ap (plain_at_any scrolled t) (none refl)
found_plain scrolled t hs ns (Some j) o by_place within none some = ap (plain_at_any scrolled t) some ∙ by_place j within

-- the plain nodes of the elements that there were
pub had_nodes : (scrolled : ℕ → ℕ) (t : Tree Element) (o : Option Handle) → IfSome o (IsNode t)
    → ((h : Handle) → IsNode t h → map (plain_at scrolled t) (children_at t h) ≡ map Some (nodes_had (plain_at scrolled t h)))
    → map (plain_at scrolled t) (children_had t o) ≡ map Some (nodes_had (plain_at_any scrolled t o))
had_nodes scrolled t None live knows = refl
had_nodes scrolled t (Some h) live knows = knows h live
