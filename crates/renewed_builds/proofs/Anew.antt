-- What the body of a component gives, by what its element tells.
use Rattle.std.proofs.Common.{◌≡◌, ℕ, true, is_some, Option, Some, None, option_map, List, refl, sym, ap, ◌∙◌, subst}
use Rattle.fx_expr.specs.declared.values.Value.{Value}
use Rattle.fx_handles.specs.declared.Handle.{Handle}
use Rattle.node_tree.specs.Forest.{Forest, below}
use Rattle.node_tree.specs.Forest.Forest.{none, tree}
use Rattle.node_tree.specs.Tree.{Tree, IsTree, Is, subtree_at, StandsAt}
use Rattle.widget_model.specs.Look.{Look}
use Rattle.widget_model.specs.Plain.{PlainWidget, look_of}
use Rattle.widget_model.specs.Typed.{Declarations, IsTypedWidget}
use Rattle.program_check.specs.Checked.{PlainChecked}
use Rattle.plain_tree.specs.PlainNode.{PlainNode, number_of, widget_of, fields_of}
use Rattle.build_form.specs.BuildRole.{BuildRole, composes, build_role_of}
use Rattle.build_form.specs.Entering.{Blueprint, depth_limit, given_by}
use Rattle.build_form.specs.FullBuild.{started}
use Rattle.build_form.specs.Program.{blueprint_of}
use Rattle.build_form.specs.Step.{Progress, Step, gives}
use Rattle.build_form.specs.WellBuilt.{FitFields}
use Rattle.element_tree.specs.Element.{Element, element_at, number_at}
use Rattle.work_sets.specs.Due.{names_read}
use Rattle.build_walk.specs.Counting.{built_here}
use Rattle.build_walk.specs.Fresh.{HasOutput}
use Rattle.build_walk.specs.Past.{Past, Pasts}
use Rattle.build_walk.specs.Standing.{pasts_from}
use Rattle.build_walk.specs.Telling.{TellPasts}
use Rattle.build_walk.proofs.Keeping.{of_component}
use Rattle.build_walk.proofs.Opened.{Stays, given_ends}
use Rattle.build_walk.proofs.Stepping.{Ends}
use Rattle.settled_builds.specs.Settled.{AreItsOwn}
use Rattle.settled_builds.specs.Steps.{IsGivenAt}
use Rattle.build_owner.specs.Entry.{IsTypedElement}
use Rattle.renewed_builds.specs.Stale.{IsComponentAt, IsStaleElement, given_at}
use Rattle.build_owner.proofs.Children.{some_is}
use Rattle.build_owner.proofs.Elements.{NodeLaw, HoldsLaw, typed_widget, fields_fit}
use Rattle.renewed_builds.proofs.Spotted.{IsSpotOf, alone, spot_of}

-- what a body gives at a node, where the inherited names have these values
abbrev given_of : Blueprint → PlainNode → List Value → Progress → Step (List PlainWidget)
given_of b n values s = given_by b (build_role_of (look_of (widget_of n))) values (number_of n) (fields_of n) (widget_of n) s

-- ---- the first marked component is one

pub named : (o : Option (List ℕ)) → is_some o ≡ true → (names : List ℕ) × (o ≡ Some names)
named None e = cc
named (Some names) e = (names, refl)

abbrev pub component_of : (c : PlainChecked) (t : Tree Element) (h : Handle) (x : IsStaleElement c t h) → is_some (names_read (look_of (widget_of x.place.node))) ≡ true → IsComponentAt c t h
component_of c t h x component =
    record {
      marks = x.marks;
      tree = x.tree;
      scrolled = x.scrolled;
      stands = x.stands;
      element = x.element;
      at = x.at;
      place = x.place;
      spot = x.first.at;
      names = (named (names_read (look_of (widget_of x.place.node))) component).0;
      component = (named (names_read (look_of (widget_of x.place.node))) component).1;
    }

-- ---- a component is built once

pub one_here : (look : Look) (names : List ℕ) → names_read look ≡ Some names → built_here (names_read look) None ≡ 1
one_here look names reads = ap (λ r. built_here r None) reads

module _ (c : PlainChecked) (t : Tree Element) (h : Handle) (x : IsComponentAt c t h) where
  abbrev pub pasts : Pasts
  pasts = pasts_from c x.stands.forest

  abbrev pub SpotOf : Type 0
  SpotOf = IsSpotOf t x.scrolled pasts h x.element x.place

  -- what is read of its element
  pub widget_is : (w : PlainWidget) → Some w ≡ option_map (λ (e : Element). e.widget) (element_at t h) → w ≡ x.element.widget
  widget_is w is = some_is (is ∙ ap (option_map (λ (e : Element). e.widget)) x.at)

  pub number_is : (n : ℕ) → Some n ≡ number_at t h → n ≡ x.element.number
  number_is n is = some_is (is ∙ ap (option_map (λ (e : Element). e.number)) x.at)

  -- its element is at the spot
  pub is_spot : ((k : Handle) (s : Forest Element) → StandsAt t k s → subtree_at t k ≡ s) → ((n : ℕ) (a b : Handle) → number_at t a ≡ Some n → number_at t b ≡ Some n → a ≡ b)
      → TellPasts pasts (blueprint_of c).defaults x.stands.forest → SpotOf
  is_spot found once tells =
      spot_of t x.scrolled pasts h x.element found (alone t h x.element x.at once) x.tree x.stands.forest (blueprint_of c).defaults depth_limit 0 0 x.place x.stands.nodes x.stands.is.stands x.stands.is.distinct tells
      x.spot

  module _ (spot : SpotOf) where
    -- it is what the names have there that its element tells
    pub values_are : (values : List Value) → subtree_at t h ≡ tree h x.element (below (subtree_at t h)) none → TellPasts pasts values (subtree_at t h) → x.place.values ≡ values
    values_are values opened told = ap (λ (p : Past). p.values) (some_is (sym spot.told ∙ (subst (TellPasts pasts values) opened told).0))

    widget_there : widget_of x.place.node ≡ x.element.widget
    widget_there = ap widget_of spot.node

    pub reads : names_read (look_of x.element.widget) ≡ Some x.names
    reads = sym (ap (λ w. names_read (look_of w)) widget_there) ∙ x.component

    -- it is a component
    pub composed : (place : ℕ) × (props : List Value) × (build_role_of (look_of x.element.widget) ≡ composes place props)
    composed = of_component (look_of x.element.widget) x.names reads

    pub body_is : (values fields : List Value) (number : ℕ) (w : PlainWidget) → x.place.values ≡ values → w ≡ x.element.widget → number ≡ x.element.number → fields ≡ x.element.fields
        → (s : Progress) → given_at (blueprint_of c) x.place s ≡ given_by (blueprint_of c) (build_role_of (look_of w)) values number fields w s
    body_is values fields number w values_same widget_same number_same fields_same s =
        (λ i. given_of (blueprint_of c) (spot.node i) (values_same i) s)
        ∙ (λ i. given_by (blueprint_of c) (build_role_of (look_of (sym widget_same i))) values (sym number_same i) (sym fields_same i) (sym widget_same i) s)

  own_of : (r : BuildRole) (w : PlainWidget) (ws : List PlainWidget) (place : ℕ) (props : List Value) → r ≡ composes place props → AreItsOwn r w ws
  own_of r w ws place props is = subst (λ p. AreItsOwn p w ws) (sym is) tt

  pub is_given : (ws : List PlainWidget) → ((s : Progress) → given_at (blueprint_of c) x.place s ≡ gives ws s) → IsGivenAt (blueprint_of c) ws x.place
  is_given ws given =
      let b = blueprint_of c in
      let w = widget_of x.place.node in
      let r = build_role_of (look_of w) in
      let role = of_component (look_of w) x.names x.component in
      let ends = subst (Ends (λ vs s. Stays (started 0) s × HasOutput b r w (fields_of x.place.node) x.place.values (number_of x.place.node) vs)) (given (started 0))
      (given_ends b r x.place.values (number_of x.place.node) (fields_of x.place.node) w (started 0)) in
      record { own = own_of r w ws role.0 role.1 role.2; output = ends.1 }

-- what the code hands on to the body is what is at the spot
module _ (c : PlainChecked) (t : Tree Element) (h : Handle) (found : (k : Handle) (s : Forest Element) → StandsAt t k s → subtree_at t k ≡ s)
    (once : (n : ℕ) (a b : Handle) → number_at t a ≡ Some n → number_at t b ≡ Some n → a ≡ b) (opened : (e : Element) → element_at t h ≡ Some e → subtree_at t h ≡ tree h e (below (subtree_at t h)) none)
    (tells : (x : IsComponentAt c t h) → TellPasts (pasts c t h x) (blueprint_of c).defaults x.stands.forest) (values fields : List Value) (number : ℕ) (w : PlainWidget)
    (told : (known : Pasts) (f : Forest Element) → Is t f → TellPasts known (blueprint_of c).defaults f → TellPasts known values (subtree_at t h))
    (of_widget : Some w ≡ option_map (λ (e : Element). e.widget) (element_at t h)) (of_number : Some number ≡ number_at t h) (of_fields : (e : Element) → element_at t h ≡ Some e → fields ≡ e.fields) where
  pub body_told : (x : IsComponentAt c t h) (s : Progress) → given_at (blueprint_of c) x.place s ≡ given_by (blueprint_of c) (build_role_of (look_of w)) values number fields w s
  body_told x s =
      let spot = is_spot c t h x found once (tells x) in
      body_is c t h x spot values fields number w (values_are c t h x spot values (opened x.element x.at) (told (pasts c t h x) x.stands.forest x.stands.is (tells x)))
      (widget_is c t h x w of_widget) (number_is c t h x number of_number) (of_fields x.element x.at) s

  pub role_told : (x : IsComponentAt c t h) → (place : ℕ) × (props : List Value) × (build_role_of (look_of w) ≡ composes place props)
  role_told x =
      let role = composed c t h x (is_spot c t h x found once (tells x)) in (role.0, role.1, ap (λ v. build_role_of (look_of v)) (widget_is c t h x w of_widget) ∙ role.2)

  pub count_told : (x : IsComponentAt c t h) → built_here (names_read (look_of w)) None ≡ 1
  count_told x = one_here (look_of w) x.names (ap (λ v. names_read (look_of v)) (widget_is c t h x w of_widget) ∙ reads c t h x (is_spot c t h x found once (tells x)))

-- ---- its widget and its fields are typed

module _ (law : NodeLaw) (holds : HoldsLaw) (d : Declarations) (t : Tree Element) (is_tree : IsTree t) (h : Handle) (e : Element) (built : IsTypedElement d t h) (at : element_at t h ≡ Some e) where
  pub widget_typed : (w : PlainWidget) → w ≡ e.widget → IsTypedWidget d w
  widget_typed w same = subst (IsTypedWidget d) (sym same) (typed_widget law holds d t is_tree h e built at)

  pub fields_typed : (w : PlainWidget) (fields : List Value) → w ≡ e.widget → fields ≡ e.fields → FitFields d (build_role_of (look_of w)) fields
  fields_typed w fields same fields_same =
      subst (λ v. FitFields d (build_role_of (look_of v)) fields) (sym same)
      (subst (FitFields d (build_role_of (look_of e.widget))) (sym fields_same) (fields_fit law holds d t is_tree h e built at e.widget refl))
