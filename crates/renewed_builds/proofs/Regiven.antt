-- An Inherit that can take another value: what it is by its elements, and by their nodes.
use Rattle.std.proofs.Common.{◌≡◌, ℕ, suc, ◌+◌, ◌<◌, ◌≤◌, ◌==◌, eqb, Bool, true, false, not, ◌&&◌, cond, Option, Some, None, is_some, option_map, IfSome, List, [], ◌∷◌, ◌++◌, map, length, refl, sym, ap, ◌∙◌, subst, arith, inl, inr}
use Rattle.std.specs.Option.{option_to_list}
use Rattle.std.specs.Prelude.{slice_get}
use Rattle.std.proofs.lemmas.Bool.{and_parts, eq-eqb, eqb-true}
use Rattle.std.proofs.lemmas.List.{length-map}
use Rattle.std.proofs.lemmas.Option.{slice_get_within}
use Rattle.fx_expr.specs.declared.values.Ty.{Ty}
use Rattle.fx_expr.specs.Exp.{Exp}
use Rattle.fx_expr.specs.declared.values.Value.{Value}
use Rattle.fx_expr.specs.Value.{value_eq, type_of}
use Rattle.fx_handles.specs.declared.Handle.{Handle}
use Rattle.fx_handles.specs.Handle.{same}
use Rattle.fx_handles.specs.HandleLaws.{same-eq}
use Rattle.node_tree.specs.Forest.{TreeNode, Forest, In, IsDistinct, Stands, below}
use Rattle.node_tree.specs.Forest.Forest.{none, tree}
use Rattle.node_tree.specs.Tree.{Tree, node_at, subtree_at}
use Rattle.widget_model.specs.Look.{Look, component}
use Rattle.widget_model.specs.Plain.{PlainWidget, look_of}
use Rattle.widget_model.specs.Plain.{children_of as child_widgets}
use Rattle.widget_model.specs.Typed.{Declarations, IsTypedWidget}
use Rattle.widget_model.specs.Update.{CanUpdate, updates}
use Rattle.expr_check.specs.Names.{types_in}
use Rattle.expr_check.specs.Sight.{Sight, sight_of}
use Rattle.program_check.specs.Checked.{PlainChecked}
use Rattle.program_check.specs.ProgramCheck.{nothing_seen}
use Rattle.program_check.specs.TypedBody.{AreTypedInOrder}
use Rattle.program_check.specs.TypedChecked.{IsTypedChecked}
use Rattle.template_build.specs.Program.{declarations_of}
use Rattle.plain_tree.specs.PlainNode.{PlainNode, node, PlainNodes, no_nodes, more_nodes, number_of, widget_of, fields_of, nodes_of as listed}
use Rattle.build_form.specs.BuildRole.{BuildRole, composes, provides, build_role_of}
use Rattle.build_form.specs.Entering.{Blueprint, depth_limit, values_below}
use Rattle.build_form.specs.Filling.{FitsNames}
use Rattle.build_form.specs.Laws.{NumbersAre, AllNumbersAre}
use Rattle.build_form.specs.Program.{blueprint_of}
use Rattle.build_form.specs.WellBuilt.{IsWellBuilt, AreWellBuilt}
use Rattle.element_tree.specs.Element.{Element, element_at, number_at}
use Rattle.element_tree.specs.Fields.{CanFollow, declared}
use Rattle.element_tree.specs.Nodes.{nodes_of}
use Rattle.work_sets.specs.Due.{names_read}
use Rattle.work_sets.specs.Members.{is_same_widget}
use Rattle.build_walk.specs.Fresh.{ReadsItsNames, HasOutput}
use Rattle.build_walk.specs.Kept.{node_over}
use Rattle.build_walk.specs.Past.{Past, Pasts, is_marked}
use Rattle.build_walk.specs.Standing.{pasts_from}
use Rattle.build_walk.specs.Telling.{element_past, TellPasts, HoldOutputs, FlagsAre}
use Rattle.build_walk.proofs.Keeping.{of_component}
use Rattle.build_walk.proofs.Standing.{by_place}
use Rattle.build_owner.proofs.Children.{some_is}
use Rattle.settled_builds.specs.Places.{NodePlace}
use Rattle.settled_builds.specs.Regiven.{ReadTheirNames, AllReadTheirNames, CanRegive}
use Rattle.settled_builds.specs.Settled.{AreItsOwn}
use Rattle.settled_builds.specs.Steps.{IsGivenAt, without}
use Rattle.settled_builds.specs.Taken.{nodes_below}
use Rattle.renewed_builds.specs.Regiving.{IsToRegive, are_one, name_between, name_regiven}
use Rattle.renewed_builds.proofs.Anew.{named}
use Rattle.renewed_builds.proofs.Spotted.{IsSpotOf, alone, spot_of}
use Rattle.renewed_builds.proofs.Stored.{unmarked_there, others_stay}

-- ---- what the test of the widgets says

pub record Gives (v w : PlainWidget) (name : ℕ) : Type 0 where
  pub updated : updates v w ≡ true
  pub same : child_widgets w ≡ child_widgets v
  pub was : Value
  pub was_given : build_role_of (look_of v) ≡ provides name was
  pub now : Value
  pub now_given : build_role_of (look_of w) ≡ provides name now
  pub other : value_eq was now ≡ false

record Between (r s : BuildRole) (name : ℕ) : Type 0 where
  pub was : Value
  pub was_given : r ≡ provides name was
  pub now : Value
  pub now_given : s ≡ provides name now
  pub other : value_eq was now ≡ false

no_name : {P : Type 0} {name : ℕ} → None ≡ Some name → P
no_name e = cc

not_true : (b : Bool) → not b ≡ true → b ≡ false
not_true true e = cc
not_true false e = refl

named_by : (n k name : ℕ) (was now : Value) (b : Bool) → ((k == n) && not (value_eq was now)) ≡ b → cond b (Some n) None ≡ Some name → Between (provides n was) (provides k now) name
named_by n k name was now false is e = no_name e
named_by n k name was now true is e =
    let p = and_parts (k == n) (not (value_eq was now)) is in
    let n_is : n ≡ name = some_is e in
    record {
      was = was;
      was_given = ap (λ (j : ℕ). provides j was) n_is;
      now = now;
      now_given = ap (λ (j : ℕ). provides j now) (eqb-true k n p.0 ∙ n_is);
      other = not_true (value_eq was now) p.1;
    }

between : (r s : BuildRole) (name : ℕ) → name_between r s ≡ Some name → Between r s name
between (provides n was) (provides k now) name e = named_by n k name was now ((k == n) && not (value_eq was now)) refl e
between r s name e = no_name e

abbrev EqualLaw : Type 0
EqualLaw = (v w : PlainWidget) → is_same_widget v w ≡ true → v ≡ w

one_same : EqualLaw → (vs ws : List PlainWidget) → are_one vs ws ≡ true → ws ≡ vs
one_same equal (v ∷ []) (w ∷ []) e = ap (λ x. x ∷ []) (sym (equal v w e))
one_same equal vs ws e = cc

gives_by : EqualLaw → (v w : PlainWidget) (name : ℕ) (b : Bool) → (updates v w && are_one (child_widgets v) (child_widgets w)) ≡ b → cond b (name_between (build_role_of (look_of v)) (build_role_of (look_of w))) None ≡ Some name
    → Gives v w name
gives_by equal v w name false is e = no_name e
gives_by equal v w name true is e =
    let p = and_parts (updates v w) (are_one (child_widgets v) (child_widgets w)) is in
    let q = between (build_role_of (look_of v)) (build_role_of (look_of w)) name e in
    record {
      updated = p.0;
      same = one_same equal (child_widgets v) (child_widgets w) p.1;
      was = q.was;
      was_given = q.was_given;
      now = q.now;
      now_given = q.now_given;
      other = q.other;
    }

pub gives : EqualLaw → (v w : PlainWidget) (name : ℕ) → name_regiven v w ≡ Some name → Gives v w name
gives equal v w name e = gives_by equal v w name (updates v w && are_one (child_widgets v) (child_widgets w)) refl e

declares_none : (look : Look) (name : ℕ) (value : Value) → build_role_of look ≡ provides name value → declared look ≡ []
declares_none (component place props declaration) name value e = cc
declares_none look name value e = refl

pub follows : (v w : PlainWidget) (name : ℕ) → Gives v w name → CanUpdate v w → CanFollow v w
follows v w name g updates = record {
  updates = updates;
  fields = declares_none (look_of w) name g.now g.now_given ∙ sym (declares_none (look_of v) name g.was g.was_given);
}

-- ---- each component of a well built tree reads its names

mutual
  reads_their : (b : Blueprint) (d : Declarations) → ((w : PlainWidget) → IsTypedWidget d w → ReadsItsNames b w) → (n : PlainNode) → IsWellBuilt d n → ReadTheirNames b n
  reads_their b d law (node number widget fields scroll index children) well = (law widget well.0.typed, all_read b d law children well.1)

  all_read : (b : Blueprint) (d : Declarations) → ((w : PlainWidget) → IsTypedWidget d w → ReadsItsNames b w) → (ns : PlainNodes) → AreWellBuilt d ns → AllReadTheirNames b ns
  all_read b d law no_nodes well = tt
  all_read b d law (more_nodes n ns) well = (reads_their b d law n well.0, all_read b d law ns well.1)

pub reads_names : (b : Blueprint) (d : Declarations) → ((w : PlainWidget) → IsTypedWidget d w → ReadsItsNames b w) → (n : PlainNode) → IsWellBuilt d n → ReadTheirNames b n
reads_names b d law n well = reads_their b d law n well

-- ---- the name is one of the program's

typed_long : (S : Sight) (ts : List Ty) (es : List Exp) → AreTypedInOrder S ts es → length es ≡ length ts
typed_long S [] [] h = refl
typed_long S (t ∷ ts) (e ∷ es) h = ap suc (typed_long S ts es h.1)
typed_long S [] (e ∷ es) h = absurd h
typed_long S (t ∷ ts) [] h = absurd h

defaults_long : (c : PlainChecked) → IsTypedChecked c → length (blueprint_of c).defaults ≡ length (declarations_of c).inherited
defaults_long c checked =
    let values : length (blueprint_of c).defaults ≡ length c.inherited.values = simp length-map in
    values ∙ typed_long (sight_of nothing_seen) (types_in c.inherited.names) c.inherited.values checked.inherited

pub name_known : (c : PlainChecked) → IsTypedChecked c → (r : BuildRole) (name : ℕ) (value : Value) → r ≡ provides name value → FitsNames (declarations_of c).inherited r → name < length (blueprint_of c).defaults
name_known c checked r name value is fits =
    let at : slice_get (declarations_of c).inherited name ≡ Some (type_of value) = subst (FitsNames (declarations_of c).inherited) is fits in
    let low = slice_get_within (declarations_of c).inherited name (type_of value) at in
    let long = defaults_long c checked in
    omega (arith, low, long)

-- ---- what is stored is what the body gives

pub at_number : (o : Option Element) (number : ℕ) → option_map (λ (e : Element). e.number) o ≡ Some number → (e : Element) × (o ≡ Some e) × (e.number ≡ number)
at_number None number is = cc
at_number (Some e) number is = (e, refl, some_is is)

module _ (b : Blueprint) (pasts : Pasts) (t : Tree Element) (h : Handle) (e : Element) (at : element_at t h ≡ Some e) where
  pub record IsHeld : Type 0 where
    pub values : List Value
    pub told : pasts e.number ≡ Some (element_past values e)
    pub output : e.dirty ≡ false → HasOutput b (build_role_of (look_of e.widget)) e.widget e.fields values e.number (option_to_list e.output)

  pub held_there : (p : Option Handle) (values : List Value) (f : Forest Element) → Stands (node_at t) p f → In h f → TellPasts pasts values f → HoldOutputs b values f → IsHeld
  held_there p values none stands among tells held = absurd (omega (arith, among))
  held_there p values (tree k v kids rest) stands among tells held =
      by_place h k v kids rest IsHeld among
      (λ is.
      let same_one : v ≡ e = some_is (sym (ap (option_map (λ (n : TreeNode Element). n.value)) stands.0) ∙ ap (element_at t) is ∙ at) in
      subst (λ y. (pasts y.number ≡ Some (element_past values y)) → (y.dirty ≡ false → HasOutput b (build_role_of (look_of y.widget)) y.widget y.fields values y.number (option_to_list y.output)) → IsHeld) (sym same_one)
      (λ told output. record { values = values; told = told; output = output }) tells.0 held.0)
      (λ inside. held_there (Some k) (values_below v.widget values) kids stands.1 inside tells.1 held.1)
      (λ later. held_there p values rest stands.2 later tells.2 held.2)

own_of : (r : BuildRole) (w : PlainWidget) (ws : List PlainWidget) (place : ℕ) (props : List Value) → r ≡ composes place props → AreItsOwn r w ws
own_of r w ws place props is = subst (λ p. AreItsOwn p w ws) (sym is) tt

true_false : true ≡ false → ⊥
true_false e = cc

-- ---- an Inherit that was found

module _ (c : PlainChecked) (t : Tree Element) (h : Handle) (x : IsToRegive c t h) where
  abbrev pub b : Blueprint
  b = blueprint_of c

  abbrev pub left : List ℕ
  left = without x.number x.marks

  abbrev pub f : Forest Element
  f = x.stands.forest

  abbrev pub pasts : Pasts
  pasts = pasts_from c f

  -- the component's element, the Inherit's, what is below that, and the widget that the component stores
  pub record IsFound (child : Handle) (e v : Element) (low : Forest Element) (w : PlainWidget) (name : ℕ) : Type 0 where
    pub at : element_at t h ≡ Some e
    pub number : e.number ≡ x.number
    pub opened : subtree_at t h ≡ tree h e (tree child v low none) none
    pub child_at : element_at t child ≡ Some v
    pub child_opened : subtree_at t child ≡ tree child v low none
    pub low_stands : Stands (node_at t) (Some child) low
    pub output : e.output ≡ Some w
    pub gives : Gives v.widget w name
    pub spot : IsSpotOf t x.scrolled pasts h e x.place
    pub live : In h f

  -- ---- which are marked

  left_by : (n : ℕ) (same_number : Bool) → (n == x.number) ≡ same_number → is_marked x.marks n ≡ (n == x.number) → is_marked left n ≡ false
  left_by n true is marked = subst (λ k. is_marked left k ≡ false) (sym (eqb-true n x.number is)) (unmarked_there x.number x.marks)
  left_by n false is marked = others_stay x.number n (λ equal. differ (subst (λ k. (k == x.number) ≡ false) equal is)) x.marks ∙ marked ∙ is
    where
      differ : (x.number == x.number) ≡ false → ⊥
      differ e = true_false (sym (eq-eqb x.number x.number refl) ∙ e)

  pub left_clear : (n : ℕ) → is_marked x.marks n ≡ (n == x.number) → is_marked left n ≡ false
  left_clear n marked = left_by n (n == x.number) refl marked

  pub all_alone : AllNumbersAre (λ k. is_marked x.marks k ≡ (k == x.number)) (listed (nodes_of x.scrolled f))
  all_alone = subst (λ (l : List PlainNode). AllNumbersAre (λ k. is_marked x.marks k ≡ (k == x.number)) (listed l)) x.stands.nodes (x.alone, tt)

  -- ---- it can be given again

  module _ (child : Handle) (e v : Element) (low : Forest Element) (w : PlainWidget) (name : ℕ) (found : IsFound child e v low w name) (clean : e.dirty ≡ false)
      (component : is_some (names_read (look_of (widget_of x.place.node))) ≡ true) (tells : TellPasts pasts b.defaults f) where
    below_is : below (subtree_at t h) ≡ tree child v low none
    below_is = ap (λ (s : Forest Element). below s) found.opened

    pub place_is : x.place.node ≡ node_over x.scrolled e (tree child v low none)
    place_is = found.spot.node ∙ ap (node_over x.scrolled e) below_is

    pub role_there : (place : ℕ) × (props : List Value) × (build_role_of (look_of e.widget) ≡ composes place props)
    role_there =
        let names = named (names_read (look_of (widget_of x.place.node))) component in
        of_component (look_of e.widget) names.0 (sym (ap (λ (n : PlainNode). names_read (look_of (widget_of n))) place_is) ∙ names.1)

    output_there : HasOutput b (build_role_of (look_of e.widget)) e.widget e.fields x.place.values e.number (w ∷ [])
    output_there =
        let held = held_there b pasts t h e found.at None b.defaults f x.stands.is.stands found.live tells x.stands.outputs in
        let past : element_past held.values e ≡ element_past x.place.values e = some_is (sym held.told ∙ found.spot.told) in
        subst (λ vs. HasOutput b (build_role_of (look_of e.widget)) e.widget e.fields vs e.number (w ∷ [])) (ap (λ (q : Past). q.values) past)
        (subst (λ (o : Option PlainWidget). HasOutput b (build_role_of (look_of e.widget)) e.widget e.fields held.values e.number (option_to_list o)) found.output (held.output clean))

    pub is_given : IsGivenAt b (w ∷ []) x.place
    is_given = record {
      own = own_of (build_role_of (look_of (widget_of x.place.node))) (widget_of x.place.node) (w ∷ []) role_there.0 role_there.1 (ap (λ (n : PlainNode). build_role_of (look_of (widget_of n))) place_is ∙ role_there.2);
      output = subst (λ n. HasOutput b (build_role_of (look_of (widget_of n))) (widget_of n) (fields_of n) x.place.values (number_of n) (w ∷ [])) (sym place_is) output_there;
    }

    abbrev pub can_regive : name < length b.defaults → CanRegive b w name x.place
    can_regive known = record {
      given = is_given;
      child = node_over x.scrolled v low;
      below = ap nodes_below place_is;
      was = found.gives.was;
      was_given = found.gives.was_given;
      now = found.gives.now;
      now_given = found.gives.now_given;
      other = found.gives.other;
      known = known;
      key = found.gives.updated;
      same = found.gives.same;
    }
