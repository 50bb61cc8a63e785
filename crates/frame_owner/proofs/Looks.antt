-- Render nodes by the nodes of which they are the projection: their numbers, and their kinds.
use Rattle.std.proofs.Common.{◌≡◌, ℕ, ◌<◌, ◌==◌, Bool, true, false, cond, Option, Some, None, option_map, List, [], ◌∷◌, ◌++◌, ◌⊎◌, refl, sym, ap, subst, ◌∙◌, inl, inr, arith, eqb-true, eq-eqb}
use Rattle.std.proofs.lemmas.Bool.{false≢true}
use Rattle.std.specs.Option.{option_or}
use Rattle.fx_expr.specs.declared.values.Value.{Value}
use Rattle.fx_handles.specs.declared.Handle.{Handle}
use Rattle.fx_handles.specs.HandleLaws.{cases_same, same-ne}
use Rattle.fx_handles.specs.Handle.{same}
use Rattle.node_tree.specs.Forest.{TreeNode, Forest, count, In, Stands}
use Rattle.node_tree.specs.Forest.Forest.{none, tree}
use Rattle.node_tree.proofs.ForestLemmas.{same_Some, is_zero, count_here}
use Rattle.widget_model.specs.Look.{Look, repaint_boundary}
use Rattle.widget_model.specs.Plain.{PlainWidget, look_of}
use Rattle.widget_model.specs.Plain.{children_of as child_widgets}
use Rattle.widget_model.specs.WidgetType.{type_of, type_eq}
use Rattle.work_roles.specs.WorkRole.{is_repaint_boundary}
use Rattle.plain_tree.specs.declared.render.ParentData.{ParentData}
use Rattle.plain_tree.specs.declared.role.RenderRole.{RenderRole}
use Rattle.plain_tree.specs.At.{numbers_of, numbers_in, node_at, node_in}
use Rattle.plain_tree.specs.Laws.{AllDiffer}
use Rattle.plain_tree.specs.PlainNode.{PlainNode, node, PlainNodes, no_nodes, more_nodes, widget_of}
use Rattle.plain_tree.specs.Projection.{projected, projected_all, told_at, told_by, scroll_in}
use Rattle.plain_tree.specs.Render.{Render, render, Renders, no_renders, more_renders, renders_of as renders_listed, lazy_count}
use Rattle.plain_tree.specs.RenderRole.{render_role_of, vanishes}
use Rattle.plain_tree.proofs.Numbers.{IsIn, in_left, in_right, differs, apart, differ_left, differ_right}
use Rattle.build_form.specs.Entering.{Blueprint}
use Rattle.build_form.specs.KeptStates.{HadOrIsNew, EachIs, AllAre}
use Rattle.build_form.specs.Laws.{NumbersAre, AllNumbersAre}
use Rattle.build_form.specs.Numbered.{IsNumbered}
use Rattle.render_tree.specs.Object.{RenderObject, object_look}
use Rattle.render_tree.specs.Plain.{renders_of}

-- ---- a node with a number and a kind stands in a tree

abbrev mutual
  pub NodeHas : ℕ → Look → PlainNode → Type 0
  NodeHas w l (node number widget fields scroll index children) = ((number ≡ w) × (look_of widget ≡ l)) ⊎ NodesHave w l children

  pub NodesHave : ℕ → Look → PlainNodes → Type 0
  NodesHave w l no_nodes = ⊥
  NodesHave w l (more_nodes n ns) = NodeHas w l n ⊎ NodesHave w l ns

abbrev mutual
  pub RenderHas : ℕ → Look → Render → Type 0
  RenderHas w l (render number look told scroll count children) = ((number ≡ w) × (look ≡ l)) ⊎ RendersHave w l children

  pub RendersHave : ℕ → Look → Renders → Type 0
  RendersHave w l no_renders = ⊥
  RendersHave w l (more_renders r rs) = RenderHas w l r ⊎ RendersHave w l rs

-- ---- it is among the render nodes only where it is among the nodes

pub head_is : (above : RenderRole) (told : Option ParentData) (number : ℕ) (widget : PlainWidget) (fields : List Value) (scroll index : ℕ) (children : PlainNodes)
    → projected above told (node number widget fields scroll index children)
    ≡ cond (vanishes (render_role_of (look_of widget)))
    (projected_all above (Some (told_by above (render_role_of (look_of widget)) (told_at above told index))) children)
    (render number (look_of widget) (told_at above told index) (scroll_in (render_role_of (look_of widget)) scroll) (lazy_count (render_role_of (look_of widget)) (child_widgets widget))
    (renders_listed (projected_all (render_role_of (look_of widget)) None children)) ∷ [])
unfolding projected
head_is above told number widget fields scroll index children = refl

pub none_is : (above : RenderRole) (told : Option ParentData) → projected_all above told no_nodes ≡ []
unfolding projected
none_is above told = refl

pub more_is : (above : RenderRole) (told : Option ParentData) (n : PlainNode) (ns : PlainNodes) → projected_all above told (more_nodes n ns) ≡ projected above told n ++ projected_all above told ns
unfolding projected
more_is above told n ns = refl

in_either : (w : ℕ) (l : Look) (xs ys : List Render) → RendersHave w l (renders_listed (xs ++ ys)) → RendersHave w l (renders_listed xs) ⊎ RendersHave w l (renders_listed ys)
in_either w l [] ys h = inr h
in_either w l (x ∷ xs) ys (inl h) = inl (inl h)
in_either w l (x ∷ xs) ys (inr h) = elim (in_either w l xs ys h) [
  | inl first ↦ inl (inr first)
  | inr later ↦ inr later
]

in_cond : (w : ℕ) (l : Look) (v : Bool) (xs ys : List Render) → RendersHave w l (renders_listed (cond v xs ys)) → RendersHave w l (renders_listed xs) ⊎ RendersHave w l (renders_listed ys)
in_cond w l true xs ys h = inl h
in_cond w l false xs ys h = inr h

from_own : (w : ℕ) (l : Look) (number : ℕ) (widget : PlainWidget) (fields : List Value) (scroll index : ℕ) (children : PlainNodes) (told : ParentData) (at many : ℕ) (below : Renders)
    → RendersHave w l (more_renders (render number (look_of widget) told at many below) no_renders) → (RendersHave w l below → NodesHave w l children)
    → NodeHas w l (node number widget fields scroll index children)
from_own w l number widget fields scroll index children told at many below (inl (inl here)) f = inl here
from_own w l number widget fields scroll index children told at many below (inl (inr inner)) f = inr (f inner)
from_own w l number widget fields scroll index children told at many below (inr none_more) f = absurd none_more

mutual
  pub from_one : (w : ℕ) (l : Look) (above : RenderRole) (told : Option ParentData) (n : PlainNode) → RendersHave w l (renders_listed (projected above told n)) → NodeHas w l n
  from_one w l above told (node number widget fields scroll index children) h =
      let role = render_role_of (look_of widget) in
      elim (in_cond w l (vanishes role) _ _ (subst (λ rs. RendersHave w l (renders_listed rs)) (head_is above told number widget fields scroll index children) h)) [
        | inl through ↦ inr (from_all w l above (Some (told_by above role (told_at above told index))) children through)
        | inr own ↦
            from_own w l number widget fields scroll index children (told_at above told index) (scroll_in role scroll) (lazy_count role (child_widgets widget)) (renders_listed (projected_all role None children)) own
            (λ below. from_all w l role None children below)
      ]

  pub from_all : (w : ℕ) (l : Look) (above : RenderRole) (told : Option ParentData) (ns : PlainNodes) → RendersHave w l (renders_listed (projected_all above told ns)) → NodesHave w l ns
  from_all w l above told no_nodes h = absurd (subst (λ rs. RendersHave w l (renders_listed rs)) (none_is above told) h)
  from_all w l above told (more_nodes n ns) h =
      elim (in_either w l (projected above told n) (projected_all above told ns) (subst (λ rs. RendersHave w l (renders_listed rs)) (more_is above told n ns) h)) [
        | inl first ↦ inl (from_one w l above told n first)
        | inr later ↦ inr (from_all w l above told ns later)
      ]

-- ---- and the other way round, of a kind that has a render node

in_front : (w : ℕ) (l : Look) (xs ys : List Render) → RendersHave w l (renders_listed xs) → RendersHave w l (renders_listed (xs ++ ys))
in_front w l [] ys h = absurd h
in_front w l (x ∷ xs) ys (inl h) = inl h
in_front w l (x ∷ xs) ys (inr h) = inr (in_front w l xs ys h)

in_back : (w : ℕ) (l : Look) (xs ys : List Render) → RendersHave w l (renders_listed ys) → RendersHave w l (renders_listed (xs ++ ys))
in_back w l [] ys h = h
in_back w l (x ∷ xs) ys h = inr (in_back w l xs ys h)

own_shown : (w : ℕ) (l : Look) (v : Bool) (xs ys : List Render) → v ≡ false → RendersHave w l (renders_listed ys) → RendersHave w l (renders_listed (cond v xs ys))
own_shown w l true xs ys e h = absurd (false≢true (sym e))
own_shown w l false xs ys e h = h

inner_shown : (w : ℕ) (l : Look) (v : Bool) (xs ys : List Render) → RendersHave w l (renders_listed xs) → RendersHave w l (renders_listed ys) → RendersHave w l (renders_listed (cond v xs ys))
inner_shown w l true xs ys h k = h
inner_shown w l false xs ys h k = k

mutual
  pub one_shown : (w : ℕ) (l : Look) → vanishes (render_role_of l) ≡ false → (above : RenderRole) (told : Option ParentData) (n : PlainNode) → NodeHas w l n → RendersHave w l (renders_listed (projected above told n))
  one_shown w l seen above told (node number widget fields scroll index children) (inl here) =
      let role = render_role_of (look_of widget) in
      subst (λ rs. RendersHave w l (renders_listed rs)) (sym (head_is above told number widget fields scroll index children))
      (own_shown w l (vanishes role) _ _ (ap (λ x. vanishes (render_role_of x)) here.1 ∙ seen) (inl (inl here)))
  one_shown w l seen above told (node number widget fields scroll index children) (inr below) =
      let role = render_role_of (look_of widget) in
      subst (λ rs. RendersHave w l (renders_listed rs)) (sym (head_is above told number widget fields scroll index children))
      (inner_shown w l (vanishes role) _ _ (all_shown w l seen above (Some (told_by above role (told_at above told index))) children below) (inl (inr (all_shown w l seen role None children below))))

  pub all_shown : (w : ℕ) (l : Look) → vanishes (render_role_of l) ≡ false → (above : RenderRole) (told : Option ParentData) (ns : PlainNodes) → NodesHave w l ns → RendersHave w l (renders_listed (projected_all above told ns))
  all_shown w l seen above told no_nodes h = absurd h
  all_shown w l seen above told (more_nodes n ns) (inl first) =
      subst (λ rs. RendersHave w l (renders_listed rs)) (sym (more_is above told n ns)) (in_front w l (projected above told n) (projected_all above told ns) (one_shown w l seen above told n first))
  all_shown w l seen above told (more_nodes n ns) (inr later) =
      subst (λ rs. RendersHave w l (renders_listed rs)) (sym (more_is above told n ns)) (in_back w l (projected above told n) (projected_all above told ns) (all_shown w l seen above told ns later))

-- a render node of a projection is of such a kind
abbrev mutual
  pub AllSeen : Render → Type 0
  AllSeen (render number look told scroll count children) = (vanishes (render_role_of look) ≡ false) × AreAllSeen children

  pub AreAllSeen : Renders → Type 0
  AreAllSeen no_renders = Unit {0}
  AreAllSeen (more_renders r rs) = AllSeen r × AreAllSeen rs

seen_both : (xs ys : List Render) → AreAllSeen (renders_listed xs) → AreAllSeen (renders_listed ys) → AreAllSeen (renders_listed (xs ++ ys))
seen_both [] ys h k = k
seen_both (x ∷ xs) ys h k = (h.0, seen_both xs ys h.1 k)

seen_cond : (v : Bool) (xs ys : List Render) → AreAllSeen (renders_listed xs) → (v ≡ false → AreAllSeen (renders_listed ys)) → AreAllSeen (renders_listed (cond v xs ys))
seen_cond true xs ys h k = h
seen_cond false xs ys h k = k refl

mutual
  one_seen : (above : RenderRole) (told : Option ParentData) (n : PlainNode) → AreAllSeen (renders_listed (projected above told n))
  one_seen above told (node number widget fields scroll index children) =
      let role = render_role_of (look_of widget) in
      subst (λ rs. AreAllSeen (renders_listed rs)) (sym (head_is above told number widget fields scroll index children))
      (seen_cond (vanishes role) _ _ (all_seen above (Some (told_by above role (told_at above told index))) children) (λ e. ((e, all_seen role None children), tt)))

  pub all_seen : (above : RenderRole) (told : Option ParentData) (ns : PlainNodes) → AreAllSeen (renders_listed (projected_all above told ns))
  all_seen above told no_nodes = subst (λ rs. AreAllSeen (renders_listed rs)) (sym (none_is above told)) tt
  all_seen above told (more_nodes n ns) =
      subst (λ rs. AreAllSeen (renders_listed rs)) (sym (more_is above told n ns)) (seen_both (projected above told n) (projected_all above told ns) (one_seen above told n) (all_seen above told ns))

mutual
  look_seen : (w : ℕ) (l : Look) (r : Render) → AllSeen r → RenderHas w l r → vanishes (render_role_of l) ≡ false
  look_seen w l (render number look told scroll count children) seen (inl here) = ap (λ x. vanishes (render_role_of x)) (sym here.1) ∙ seen.0
  look_seen w l (render number look told scroll count children) seen (inr below) = looks_seen w l children seen.1 below

  pub looks_seen : (w : ℕ) (l : Look) (rs : Renders) → AreAllSeen rs → RendersHave w l rs → vanishes (render_role_of l) ≡ false
  looks_seen w l no_renders seen h = absurd h
  looks_seen w l (more_renders r rs) seen (inl first) = look_seen w l r seen.0 first
  looks_seen w l (more_renders r rs) seen (inr later) = looks_seen w l rs seen.1 later

-- ---- it is the node with the number

mutual
  pub number_in : (w : ℕ) (l : Look) (n : PlainNode) → NodeHas w l n → IsIn w (numbers_of n)
  number_in w l (node number widget fields scroll index children) (inl here) = inl (sym here.0)
  number_in w l (node number widget fields scroll index children) (inr below) = inr (numbers_there w l children below)

  numbers_there : (w : ℕ) (l : Look) (ns : PlainNodes) → NodesHave w l ns → IsIn w (numbers_in ns)
  numbers_there w l no_nodes h = absurd h
  numbers_there w l (more_nodes n ns) (inl first) = in_left w (numbers_of n) (numbers_in ns) (number_in w l n first)
  numbers_there w l (more_nodes n ns) (inr later) = in_right w (numbers_of n) (numbers_in ns) (numbers_there w l ns later)

in_two : (w : ℕ) (xs ys : List ℕ) → IsIn w (xs ++ ys) → IsIn w xs ⊎ IsIn w ys
in_two w [] ys h = inr h
in_two w (x ∷ xs) ys (inl h) = inl (inl h)
in_two w (x ∷ xs) ys (inr h) = elim (in_two w xs ys h) [
  | inl first ↦ inl (inr first)
  | inr later ↦ inr later
]

-- a number of a tree is that of a node of some kind
mutual
  pub kind_in : (w : ℕ) (n : PlainNode) → IsIn w (numbers_of n) → (l : Look) × NodeHas w l n
  kind_in w (node number widget fields scroll index children) (inl here) = (look_of widget, inl (sym here, refl))
  kind_in w (node number widget fields scroll index children) (inr below) = let x = kinds_in w children below in (x.0, inr x.1)

  kinds_in : (w : ℕ) (ns : PlainNodes) → IsIn w (numbers_in ns) → (l : Look) × NodesHave w l ns
  kinds_in w no_nodes h = absurd h
  kinds_in w (more_nodes n ns) h = elim (in_two w (numbers_of n) (numbers_in ns) h) [
    | inl first ↦ let x = kind_in w n first in (x.0, inl x.1)
    | inr later ↦ let x = kinds_in w ns later in (x.0, inr x.1)
  ]

by_number : {B : Type 0} (own w : ℕ) → (own ≡ w → B) → ((own ≡ w → ⊥) → B) → B
by_number {B} own w here other = by_test (own == w) refl
  where
    by_test : (b : Bool) → (own == w) ≡ b → B
    by_test true t = here (eqb-true own w t)
    by_test false t = other (λ e. false≢true (sym t ∙ eq-eqb own w e))

at_own : {A : Type 0} (own w : ℕ) (x y : A) → own ≡ w → cond (own == w) x y ≡ x
at_own {A} own w x y e = ap (λ (b : Bool). cond {A = A} b x y) (eq-eqb own w e)

at_other : {A : Type 0} (own w : ℕ) (x y : A) → (own ≡ w → ⊥) → cond (own == w) x y ≡ y
at_other {A} own w x y other = by_test (own == w) refl
  where
    by_test : (b : Bool) → (own == w) ≡ b → cond {A = A} (own == w) x y ≡ y
    by_test true t = absurd (other (eqb-true own w t))
    by_test false t = ap (λ (b : Bool). cond {A = A} b x y) t

-- where a node with a number and a kind stands, the node with the number is found, and has the kind
pub record Found (w : ℕ) (l : Look) (o : Option PlainNode) : Type 0 where
  pub one : PlainNode
  pub is : o ≡ Some one
  pub look : look_of (widget_of one) ≡ l

or_first : (a b : Option PlainNode) (m : PlainNode) → a ≡ Some m → option_or a b ≡ Some m
or_first a b m e = ap (λ (o : Option PlainNode). option_or o b) e

mutual
  absent : (w : ℕ) (n : PlainNode) → (IsIn w (numbers_of n) → ⊥) → node_at w n ≡ None
  absent w (node own widget fields scroll index children) away =
      at_other own w (Some (node own widget fields scroll index children)) (node_in w children) (λ e. away (inl (sym e))) ∙ absent_in w children (λ h. away (inr h))

  absent_in : (w : ℕ) (ns : PlainNodes) → (IsIn w (numbers_in ns) → ⊥) → node_in w ns ≡ None
  absent_in w no_nodes away = refl
  absent_in w (more_nodes n ns) away =
      ap (λ (o : Option PlainNode). option_or o (node_in w ns)) (absent w n (λ h. away (in_left w (numbers_of n) (numbers_in ns) h)))
      ∙ absent_in w ns (λ h. away (in_right w (numbers_of n) (numbers_in ns) h))

mutual
  pub found_at : (w : ℕ) (l : Look) (n : PlainNode) → AllDiffer (numbers_of n) → NodeHas w l n → Found w l (node_at w n)
  found_at w l (node own widget fields scroll index children) differ (inl here) = record {
    one = node own widget fields scroll index children;
    is = at_own own w (Some (node own widget fields scroll index children)) (node_in w children) here.0;
    look = here.1;
  }
  found_at w l (node own widget fields scroll index children) differ (inr below) =
      let inside = found_in w l children differ.1 below in
      record {
        one = inside.one;
        is = at_other own w (Some (node own widget fields scroll index children)) (node_in w children) (λ e. differs own w (numbers_in children) differ.0 (numbers_there w l children below) e) ∙ inside.is;
        look = inside.look;
      }

  found_in : (w : ℕ) (l : Look) (ns : PlainNodes) → AllDiffer (numbers_in ns) → NodesHave w l ns → Found w l (node_in w ns)
  found_in w l no_nodes differ h = absurd h
  found_in w l (more_nodes n ns) differ (inl first) =
      let one = found_at w l n (differ_left (numbers_of n) (numbers_in ns) differ) first in
      record { one = one.one; is = or_first (node_at w n) (node_in w ns) one.one one.is; look = one.look }
  found_in w l (more_nodes n ns) differ (inr later) =
      let one = found_in w l ns (differ_right (numbers_of n) (numbers_in ns) differ) later in
      record {
        one = one.one;
        is = ap (λ (o : Option PlainNode). option_or o (node_in w ns)) (absent w n (λ h. apart w (numbers_of n) (numbers_in ns) differ h (numbers_there w l ns later))) ∙ one.is;
        look = one.look;
      }

-- what holds of each node holds of this one
pub record Known (R : ℕ → PlainWidget → List Value → ℕ → Type 0) (w : ℕ) (l : Look) : Type 0 where
  pub widget : PlainWidget
  pub fields : List Value
  pub scroll : ℕ
  pub look : look_of widget ≡ l
  pub holds : R w widget fields scroll

mutual
  pub known : (R : ℕ → PlainWidget → List Value → ℕ → Type 0) (w : ℕ) (l : Look) (n : PlainNode) → EachIs R n → NodeHas w l n → Known R w l
  known R w l (node number widget fields scroll index children) all (inl here) =
      record { widget = widget; fields = fields; scroll = scroll; look = here.1; holds = subst (λ x. R x widget fields scroll) here.0 all.0 }
  known R w l (node number widget fields scroll index children) all (inr below) = all_known R w l children all.1 below

  all_known : (R : ℕ → PlainWidget → List Value → ℕ → Type 0) (w : ℕ) (l : Look) (ns : PlainNodes) → AllAre R ns → NodesHave w l ns → Known R w l
  all_known R w l no_nodes all h = absurd h
  all_known R w l (more_nodes n ns) all (inl first) = known R w l n all.0 first
  all_known R w l (more_nodes n ns) all (inr later) = all_known R w l ns all.1 later

-- numbers of an old tree are below the next
mutual
  pub number_is : (P : ℕ → Type 0) (w : ℕ) (l : Look) (n : PlainNode) → NumbersAre P n → NodeHas w l n → P w
  number_is P w l (node number widget fields scroll index children) h (inl here) = subst P here.0 h.0
  number_is P w l (node number widget fields scroll index children) h (inr below) = numbers_are P w l children h.1 below

  numbers_are : (P : ℕ → Type 0) (w : ℕ) (l : Look) (ns : PlainNodes) → AllNumbersAre P ns → NodesHave w l ns → P w
  numbers_are P w l no_nodes h there = absurd there
  numbers_are P w l (more_nodes n ns) h (inl first) = number_is P w l n h.0 first
  numbers_are P w l (more_nodes n ns) h (inr later) = numbers_are P w l ns h.1 later

-- ---- a render object

-- each of these nodes is stored at its handle
abbrev pub AreThere : (Handle → Option (TreeNode RenderObject)) → Forest RenderObject → Type 0
AreThere at none = Unit {0}
AreThere at (tree h v below rest) = (option_map (λ (n : TreeNode RenderObject). n.value) (at h) ≡ Some v) × AreThere at below × AreThere at rest

pub stand_there : (at : Handle → Option (TreeNode RenderObject)) (p : Option Handle) (f : Forest RenderObject) → Stands at p f → AreThere at f
stand_there at p none stands = tt
stand_there at p (tree h v below rest) stands =
    (ap (option_map (λ (n : TreeNode RenderObject). n.value)) stands.0, stand_there at (Some h) below stands.1, stand_there at p rest stands.2)

-- where a handle stands in a forest
pub in_parts : (k h : Handle) (v : RenderObject) (below rest : Forest RenderObject) (P : Type 0) → In k (tree h v below rest) → (h ≡ k → P) → (In k below → P) → (In k rest → P) → P
in_parts k h v below rest P among own inner later = elim (cases_same h k) [
  | inl here ↦ own here
  | inr ne ↦
      let miss : cond {A = ℕ} (same h k) 1 0 ≡ 0 = ap (λ (b : Bool). cond {A = ℕ} b 1 0) (same-ne h k ne) in
      elim (is_zero (count k below)) [
        | inl gone ↦ later (omega (arith, among, miss, gone))
        | inr there ↦ inner there
      ]
]

pub object_has : (at : Handle → Option (TreeNode RenderObject)) (f : Forest RenderObject) → AreThere at f → (k : Handle) → In k f → (o : RenderObject)
    → option_map (λ (n : TreeNode RenderObject). n.value) (at k) ≡ Some o → RendersHave o.number (object_look o) (renders_of f)
object_has at none there k among o e = absurd (omega (arith, among))
object_has at (tree h v below rest) there k among o e =
    in_parts k h v below rest (RendersHave o.number (object_look o) (renders_of (tree h v below rest))) among
    (λ here.
    let value : v ≡ o = same_Some (sym there.0 ∙ (ap (λ x. option_map (λ (n : TreeNode RenderObject). n.value) (at x)) here ∙ e)) in
    inl (inl (ap (λ (x : RenderObject). x.number) value, ap object_look value)))
    (λ inner. inl (inr (object_has at below there.1 k inner o e)))
    (λ later. inr (object_has at rest there.2 k later o e))

-- and the other way round
pub record ObjectWith (at : Handle → Option (TreeNode RenderObject)) (f : Forest RenderObject) (w : ℕ) (l : Look) : Type 0 where
  pub handle : Handle
  pub among : In handle f
  pub object : RenderObject
  pub stored : option_map (λ (n : TreeNode RenderObject). n.value) (at handle) ≡ Some object
  pub number : object.number ≡ w
  pub look : object_look object ≡ l

pub object_with : (at : Handle → Option (TreeNode RenderObject)) (f : Forest RenderObject) (w : ℕ) (l : Look) → AreThere at f → RendersHave w l (renders_of f) → ObjectWith at f w l
object_with at none w l there h = absurd h
object_with at (tree k v below rest) w l there (inl (inl here)) =
    record { handle = k; among = count_here k v below rest; object = v; stored = there.0; number = here.0; look = here.1 }
object_with at (tree k v below rest) w l there (inl (inr inner)) =
    let x = object_with at below w l there.1 inner in
    let among = x.among in
    record { handle = x.handle; among = omega (arith, among); object = x.object; stored = x.stored; number = x.number; look = x.look }
object_with at (tree k v below rest) w l there (inr later) =
    let x = object_with at rest w l there.2 later in
    let among = x.among in
    record { handle = x.handle; among = omega (arith, among); object = x.object; stored = x.stored; number = x.number; look = x.look }

-- ---- kinds

-- the type of a widget says whether it is a RepaintBoundary
fences_look : (l : Look) → is_repaint_boundary l ≡ type_eq (type_of l) (type_of repaint_boundary)
fences_look repaint_boundary = refl
fences_look l = refl

pub looks_fence : (a b : Look) → type_of a ≡ type_of b → is_repaint_boundary a ≡ is_repaint_boundary b
looks_fence a b alike = fences_look a ∙ (ap (λ t. type_eq t (type_of repaint_boundary)) alike ∙ sym (fences_look b))

-- two of one number are RepaintBoundaries or not alike, where one is of an old tree, and the other of one that was built after it
module _ (b : Blueprint) (next : ℕ) (old new : PlainNode) (numbered : IsNumbered next old) (states : EachIs (HadOrIsNew b (Some old) next) new) where
  pub fence_same : (w : ℕ) (was now : Look) → NodeHas w was old → NodeHas w now new → is_repaint_boundary now ≡ is_repaint_boundary was
  fence_same w was now there here = by_state (known (HadOrIsNew b (Some old) next) w now new states here)
    where
      by_state : Known (HadOrIsNew b (Some old) next) w now → is_repaint_boundary now ≡ is_repaint_boundary was
      by_state k = elim k.holds [
        | inl had ↦
            let found = found_at w was old numbered.differ there in
            let same_node : had.0 ≡ found.one = same_one had.0 found.one (sym had.1 ∙ found.is) in
            ap is_repaint_boundary (sym k.look)
            ∙ (sym (looks_fence (look_of (widget_of had.0)) (look_of k.widget) had.2.type)
            ∙ ap is_repaint_boundary (ap (λ (x : PlainNode). look_of (widget_of x)) same_node ∙ found.look))
        | inr new_one ↦
            let less = number_is (λ (n : ℕ). n < next) w was old numbered.below there in
            let free = new_one.number_free in
            absurd (omega (arith, less, free))
      ]
        where
          same_one : (x y : PlainNode) → Some x ≡ Some y → x ≡ y
          same_one x y e = cc
