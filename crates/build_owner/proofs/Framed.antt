-- The last frame, as a walk takes it where elements, render nodes and a registry stand for a tree: what the walk goes on from is what
-- the first phase of the build goes on from.
use Rattle.std.proofs.Common.{◌≡◌, ℕ, ◌+◌, Bool, true, false, cond, Option, Some, None, IsSome, IfSome, option_map, List, [], ◌∷◌, ◌++◌, map, refl, sym, ap, ◌∙◌, subst, arith}
use Rattle.std.specs.List.{All}
use Rattle.std.specs.Option.{option_to_list}
use Rattle.std.proofs.lemmas.List.Elements.{All-nil}
use Rattle.fx_expr.specs.declared.values.Value.{Value}
use Rattle.fx_handles.specs.declared.Handle.{Handle}
use Rattle.node_tree.specs.Forest.{TreeNode, Forest, tops, IsDistinct, Stands}
use Rattle.node_tree.specs.Forest.Forest.{none, tree}
use Rattle.node_tree.specs.Tree.{Tree, node_at, IsNode, tops_at, subtree_at, StandsAt}
use Rattle.widget_model.specs.Plain.{PlainWidget}
use Rattle.widget_model.specs.Typed.{Declarations, IsTypedWidget}
use Rattle.widget_model.specs.Update.{updates, CanUpdate}
use Rattle.widget_model.specs.UpdateLaws.{updates_mean}
use Rattle.widget_model.specs.View.{shared}
use Rattle.program_check.specs.Checked.{PlainChecked}
use Rattle.template_build.specs.Program.{declarations_of}
use Rattle.plain_tree.specs.PlainNode.{PlainNode, widget_of}
use Rattle.build_form.specs.Entering.{Blueprint, Basis, first, depth_limit}
use Rattle.build_form.specs.FullBuild.{started, basis, first_tree}
use Rattle.build_form.specs.Numbered.{IsInPlace}
use Rattle.build_form.specs.Partner.{beside_root, root_arrival}
use Rattle.build_form.specs.Program.{blueprint_of}
use Rattle.build_form.specs.WellBuilt.{IsWellBuilt}
use Rattle.element_tree.specs.Element.{Element, element_at}
use Rattle.element_tree.specs.Nodes.{nodes_of}
use Rattle.global_keys.specs.declared.registry.Holder.{Holder}
use Rattle.global_keys.specs.Holders.{Registry, recorded, holder_of, was_met, is_met, unmet}
use Rattle.global_keys.specs.Named.{global_of}
use Rattle.render_tree.specs.Object.{RenderObject}
use Rattle.build_walk.specs.Keeping.{reenter}
use Rattle.build_walk.specs.Kept.{node_over, first_node, plain_at, plain_at_any, IsOldElement}
use Rattle.build_walk.proofs.Kept.{one_stands}
use Rattle.build_owner.specs.declared.arriving.Arrival.{Arrival as ArrivalOfWidget}
use Rattle.build_owner.specs.declared.walk.BuildWalk.{BuildWalk}
use Rattle.build_owner.specs.ArrivalView.{widget_at, arrives_in}
use Rattle.build_owner.specs.Entry.{IsTypedElement}
use Rattle.build_owner.specs.LastFrame.{LastFrame, IsOld, IsSince, basis_in}
use Rattle.build_owner.specs.Naming.{AreHeld, HoldsItsKey}
use Rattle.build_owner.specs.Phases.{if_updates, beside_at, beside_top}
use Rattle.build_owner.specs.Ready.{IsMatched, AreTypedOutputs, HasRoom, IsReadyToWalk, IsTypedArrival}
use Rattle.build_owner.specs.Climbing.{AreAllFitting}
use Rattle.build_owner.specs.Standing.{Beginning, next_at, frame_of}
use Rattle.build_owner.specs.WalkView.{progress_of}
use Rattle.build_owner.proofs.Held.{holder_found}

-- ---- a registry whose walk begins

module _ (g k : Registry) (begun : (v : Value) → recorded k v ≡ option_map unmet (recorded g v)) where
  pub same_holders : (v : Value) → holder_of k v ≡ holder_of g v
  same_holders v = ap (option_map (λ (x : Holder). x.node)) (begun v) ∙ by_record (recorded g v)
    where
      by_record : (o : Option Holder) → option_map (λ (x : Holder). x.node) (option_map unmet o) ≡ option_map (λ (x : Holder). x.node) o
      by_record None = refl
      by_record (Some x) = refl

  pub none_met : (v : Value) → is_met k v ≡ false
  none_met v = ap was_met (begun v) ∙ by_record (recorded g v)
    where
      by_record : (o : Option Holder) → was_met (option_map unmet o) ≡ false
      by_record None = refl
      by_record (Some x) = refl

-- nothing was entered
pub start_progress : (f : LastFrame) (walk : BuildWalk) (k : Registry) (t : Tree Element) → walk.entered ≡ 0 → walk.spots.items ≡ [] → ((v : Value) → is_met k v ≡ false) → progress_of f walk k t ≡ started (next_at t)
start_progress f walk k t entered spots unmet_yet =
    λ i. record { entered = entered i; met = λ v. unmet_yet v i; next = next_at t; waiting = ap (map (λ s. plain_at_any f.scrolled f.elements s.kept)) spots i }

-- ---- the root arrives

module _ (t : Tree Element) (w : PlainWidget) where
  some_same : {A : Type 0} (x y : A) → Some x ≡ Some y → x ≡ y
  some_same x y e = cc

  heads : {A : Type 0} (x y : A) (xs ys : List A) → x ∷ xs ≡ y ∷ ys → x ≡ y
  heads x y xs ys e = cc

  module _ (shown : (h : Handle) (s : Forest Element) → StandsAt t h s → subtree_at t h ≡ s) (scrolled : ℕ → ℕ) where
    beside_same : (o : Option PlainNode) (root : Option Handle) (f : Forest Element) → option_to_list o ≡ nodes_of scrolled f → option_to_list root ≡ tops f → Stands (node_at t) None f → IsDistinct f
        → plain_at_any scrolled t (beside_at t w root) ≡ beside_root o w
    beside_same None None f nodes top stands distinct = refl
    beside_same None (Some h) none nodes top stands distinct = cc
    beside_same None (Some h) (tree k e kids rest) nodes top stands distinct = cc
    beside_same (Some n) root none nodes top stands distinct = cc
    beside_same (Some n) None (tree k e kids rest) nodes top stands distinct = cc
    beside_same (Some n) (Some h) (tree k e kids rest) nodes top stands distinct =
        let here : h ≡ k = heads h k [] (tops rest) top in
        let this : n ≡ node_over scrolled e kids = heads n (node_over scrolled e kids) [] (nodes_of scrolled rest) nodes in
        let stored : element_at t h ≡ Some e = ap (element_at t) here ∙ ap (option_map (λ (x : TreeNode Element). x.value)) stands.0 in
        let plain : plain_at scrolled t h ≡ Some n =
        ap (plain_at scrolled t) here ∙ ap (λ (s : Forest Element). first_node (nodes_of scrolled s)) (shown k (tree k e kids none) (one_stands t None k e kids rest stands distinct)) ∙ ap Some (sym this) in
        ap (λ (o : Option Element). plain_at_any scrolled t (if_updates w h (option_map (λ (x : Element). x.widget) o))) stored
        ∙ by_test (updates e.widget w) plain
        ∙ ap (λ (m : PlainNode). cond (updates (widget_of m) w) (Some n) None) (sym this)
      where
        by_test : (x : Bool) → plain_at scrolled t h ≡ Some n → plain_at_any scrolled t (cond x (Some h) None) ≡ cond x (Some n) None
        by_test true p = p
        by_test false p = refl

  -- what is so of a root is so of it
  if_root : (P : Handle → Type 0) (root : Option Handle) (others : List Handle) → All P (option_to_list root ++ others) → IfSome (beside_at t w root) P
  if_root P None others all = tt
  if_root P (Some h) others all = by_widget (widget_at t h)
    where
      by_updates : (x : Bool) → IfSome (cond x (Some h) None) P
      by_updates true = all 0 h (omega arith)
      by_updates false = tt

      by_widget : (o : Option PlainWidget) → IfSome (if_updates w h o) P
      by_widget None = tt
      by_widget (Some v) = by_updates (updates v w)

  pub old_beside : (P : Handle → Type 0) → All P (tops_at t) → IfSome (beside_top t w) P
  old_beside P all = if_root P t.root t.inactive all

  module _ (d : Declarations) where
    matched_at : (root : Option Handle) → IfSome root (IsTypedElement d t) → IfSome (beside_at t w root) (IsMatched d t w)
    matched_at None typed = tt
    matched_at (Some h) typed = by_widget (widget_at t h) refl
      where
        by_updates : (v : PlainWidget) → widget_at t h ≡ Some v → (x : Bool) → updates v w ≡ x → IfSome (cond x (Some h) None) (IsMatched d t w)
        by_updates v is true e = record { typed = typed; updates = subst (λ o. IfSome o (λ old. CanUpdate old w)) (sym is) ((updates_mean v w).0 e) }
        by_updates v is false e = tt

        by_widget : (o : Option PlainWidget) → widget_at t h ≡ o → IfSome (if_updates w h o) (IsMatched d t w)
        by_widget None is = tt
        by_widget (Some v) is = by_updates v is (updates v w) refl

    live_root : (root : Option Handle) (f : Forest Element) → option_to_list root ≡ tops f → Stands (node_at t) None f → IfSome root (IsNode t)
    live_root None f top stands = tt
    live_root (Some h) none top stands = absurd (let e : h ∷ [] ≡ [] = top in cc)
    live_root (Some h) (tree k e kids rest) top stands =
        let here : h ≡ k = heads h k [] (tops rest) top in
        subst (λ x. IsNode t x) (sym here) (subst IsSome (sym stands.0) refl)

    typed_root : (root : Option Handle) → IfSome root (IsNode t) → ((h : Handle) → IsNode t h → IfSome (plain_at (λ _. 0) t h) (IsWellBuilt d) × IfSome (plain_at (λ _. 0) t h) IsInPlace) → IfSome root (IsTypedElement d t)
    typed_root None live built = tt
    typed_root (Some h) live built = (live, (built h live).0, (built h live).1)

    pub root_matched : (f : Forest Element) → option_to_list t.root ≡ tops f → Stands (node_at t) None f
        → ((h : Handle) → IsNode t h → IfSome (plain_at (λ _. 0) t h) (IsWellBuilt d) × IfSome (plain_at (λ _. 0) t h) IsInPlace) → IfSome (beside_top t w) (IsMatched d t w)
    root_matched f top stands built = matched_at t.root (typed_root t.root (live_root t.root f top stands) built)

    pub root_typed : (a : ArrivalOfWidget) → shared a.widget ≡ w → a.beside ≡ beside_top t w → IsTypedWidget d w → IfSome (beside_top t w) (IsMatched d t w) → IsTypedArrival d t a
    root_typed a widget beside typed matched = record {
      widget = subst (IsTypedWidget d) (sym widget) typed;
      beside = subst (λ v. IfSome a.beside (IsMatched d t v)) (sym widget) (subst (λ o. IfSome o (IsMatched d t w)) (sym beside) matched);
    }

-- ---- where a build begins

module _ (c : PlainChecked) (t : Tree Element) (r : Tree RenderObject) (g : Registry) (b : Beginning c t r g) where
  abbrev f : LastFrame
  f = frame_of c t r g b

  abbrev B : Blueprint
  B = blueprint_of c

  -- a walk that begins is since this frame
  pub since_frame : All (IsOldElement f.pasts b.scrolled B.defaults t r) (tops_at t) → (k : Registry) → ((v : Value) → holder_of k v ≡ holder_of g v) → IsSince B.defaults f t r k
  since_frame tops k begun = record {
    tree = (b.stands.elements.forest, b.stands.elements.is);
    old = tops;
    named = λ v h holder. b.stands.names.to_element v h holder;
    elements = λ h live. refl;
    renders = λ h live. refl;
    holders = λ v unmet_yet. begun v;
    fresh = b.stands.elements.fresh;
  }

  -- each element that is recorded has its key
  pub held_first : (k : Registry) → ((v : Value) → holder_of k v ≡ holder_of g v) → AreHeld k t []
  held_first k begun = record {
    to_element = λ v h holder. b.stands.names.to_element v h (sym (begun v) ∙ holder);
    held = All-nil (HoldsItsKey k t);
  }

  module _ (shown : (h : Handle) (x : Forest Element) → StandsAt t h x → subtree_at t h ≡ x) where
    same_basis : basis_in B f ≡ basis B b.old
    same_basis =
        λ i. record { program = B; holder = λ k. sym (holder_found b.scrolled t k shown g b.stands.names b.stands.elements.forest b.stands.elements.is b.old b.stands.elements.nodes) i }

    pub root_comes : (w : PlainWidget) (a : ArrivalOfWidget) → shared a.widget ≡ w → a.place ≡ 0 → a.beside ≡ beside_top t w → arrives_in b.scrolled t a ≡ root_arrival b.old w
    root_comes w a widget place beside =
        let same = beside_same t w shown b.scrolled b.old t.root b.stands.elements.forest b.stands.elements.nodes b.stands.elements.root b.stands.elements.is.stands b.stands.elements.is.distinct in
        λ i. record { widget = widget i; place = place i; beside = (ap (plain_at_any b.scrolled t) beside ∙ same) i }

    -- the walk that keeps comes to the first phase's tree
    pub first_same : (w : PlainWidget) → reenter (basis B b.old) f.pasts first depth_limit B.defaults (root_arrival b.old w) (started (next_at t)) ≡ first_tree B b.old (next_at t) w
        → reenter (basis_in B f) f.pasts first depth_limit B.defaults (root_arrival b.old w) (started (next_at t)) ≡ first_tree B b.old (next_at t) w
    first_same w law = ap (λ from. reenter from f.pasts first depth_limit B.defaults (root_arrival b.old w) (started (next_at t))) same_basis ∙ law

    pub from_basis : (P : Basis → Type 0) → P (basis_in B f) → P (basis B b.old)
    from_basis P h = subst P same_basis h

    -- so does what is said of it by the frame
    pub by_basis : (P : Basis → Type 0) → P (basis B b.old) → P (basis_in B f)
    by_basis P h = subst P (sym same_basis) h

  -- what the walk asks is so where it begins
  module _ (built : (h : Handle) → IsNode t h → IfSome (plain_at (λ _. 0) t h) (IsWellBuilt (declarations_of c)) × IfSome (plain_at (λ _. 0) t h) IsInPlace) where
    holder_typed : (v : Value) (o : Option Handle) → holder_of g v ≡ o → IfSome o (IsTypedElement (declarations_of c) t)
    holder_typed v None is = tt
    holder_typed v (Some h) is =
        let live = live_global (node_at t h) (b.stands.names.to_element v h is) in
        (live, (built h live).0, (built h live).1)
      where
        live_global : (o : Option (TreeNode Element)) → global_of (option_map (λ (n : TreeNode Element). n.value) o) ≡ Some v → IsSome o
        live_global None e = cc
        live_global (Some n) e = refl

    pub ready_first : (k : Registry) → ((v : Value) → holder_of k v ≡ holder_of g v) → AreAllFitting (declarations_of c).inherited t → AreTypedOutputs (declarations_of c) t → (limit : ℕ) → HasRoom limit 0 t r
        → (n : ℕ) → n ≡ 0 → IsReadyToWalk (declarations_of c) limit n t r k
    ready_first k begun fitting outputs limit room n zero_yet = record {
      elements = record {
        holders = λ v unmet_yet. subst (λ o. IfSome o (IsTypedElement (declarations_of c) t)) (sym (begun v)) (holder_typed v (holder_of g v) refl);
        fitting = fitting;
        outputs = outputs;
      };
      room = subst (λ m. HasRoom limit m t r) (sym zero_yet) room;
    }

-- the old element at which the root arrives
pub old_arrival : (f : LastFrame) (t : Tree Element) (w : PlainWidget) (a : ArrivalOfWidget) (values was : List Value) → All (IsOld f values) (tops_at t) → a.beside ≡ beside_top t w → was ≡ values → IfSome a.beside (IsOld f was)
old_arrival f t w a values was tops beside same =
    subst (λ vs. IfSome a.beside (IsOld f vs)) (sym same) (subst (λ o. IfSome o (IsOld f values)) (sym beside) (old_beside t w (IsOld f values) tops))
