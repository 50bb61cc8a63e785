-- What elements that stand for a tree say of it.
use Rattle.std.proofs.Common.{◌≡◌, ℕ, zero, suc, ◌+◌, ◌≤◌, Bool, true, false, cond, Option, Some, None, IsSome, IfSome, option_map, List, ◌∷◌, map, slice_get, refl, sym, ap, ◌∙◌, subst, arith}
use Rattle.std.specs.Option.{option_to_list}
use Rattle.std.proofs.lemmas.List.{append-nil}
use Rattle.fx_expr.specs.declared.values.Value.{Value}
use Rattle.fx_expr.specs.Value.{type_of}
use Rattle.fx_handles.specs.declared.Handle.{Handle}
use Rattle.fx_handles.specs.Handle.{same}
use Rattle.fx_handles.specs.HandleLaws.{same-true}
use Rattle.node_tree.specs.Forest.{TreeNode, Forest, count, In, IsDistinct, Stands}
use Rattle.node_tree.specs.Forest.Forest.{none, tree}
use Rattle.node_tree.specs.Tree.{Tree, node_at, IsNode, subtree_at, StandsAt}
use Rattle.widget_model.specs.Plain.{PlainWidget, plain, widgets_of, list_of as widgets_in, look_of, slots_of}
use Rattle.widget_model.specs.Plain.{children_of as child_widgets}
use Rattle.widget_model.specs.Size.{count_in}
use Rattle.widget_model.specs.Typed.{Declarations, sort_of, IsTypedWidget, AreTypedWidgets}
use Rattle.reconcile.specs.Keys.{NoKeyRepeats}
use Rattle.expr_check.specs.Names.{types_in}
use Rattle.program_check.specs.Checked.{PlainChecked}
use Rattle.program_check.specs.TypedChecked.{IsTypedChecked}
use Rattle.template_build.specs.Program.{widget_sort, output_in_body, component_output, declarations_of, scene_in}
use Rattle.template_build.proofs.CallLemmas.{IsOneFine, component_fine}
use Rattle.plain_tree.specs.At.{numbers_in, numbers_of}
use Rattle.plain_tree.specs.Laws.{AllDiffer}
use Rattle.plain_tree.specs.PlainNode.{PlainNode, widget_of, list_of, nodes_of as listed}
use Rattle.build_form.specs.BuildRole.{composes, build_role_of, is_lazy}
use Rattle.build_form.specs.Entering.{output_limit, values_below}
use Rattle.build_form.specs.Filling.{FitsNames}
use Rattle.build_form.specs.Numbered.{IsNumbered, StandAt, IsInPlace, AreInPlace}
use Rattle.build_form.specs.Partner.{widgets_below}
use Rattle.build_form.specs.Program.{names_in, default_values, blueprint_of}
use Rattle.build_form.specs.WellBuilt.{FitFields, FitBelow, sorts_in, IsWellBuilt, AreWellBuilt}
use Rattle.build_form.proofs.Filled.{fits_names}
use Rattle.build_form.proofs.Owning.{typed_below, widgets_again}
use Rattle.build_form.proofs.Typing.{may_build, values_typed}
use Rattle.element_tree.specs.Element.{Element, element_at, made_count}
use Rattle.element_tree.specs.Nodes.{nodes_of}
use Rattle.build_walk.specs.Fresh.{HasOutput}
use Rattle.build_walk.specs.Kept.{node_over, first_node, plain_at}
use Rattle.build_walk.specs.Standing.{ElementsStandFor}
use Rattle.build_walk.specs.Telling.{HoldOutputs}
use Rattle.build_walk.proofs.Kept.{one_stands}

-- ---- of nodes, however far they are scrolled

module _ (a b : ℕ → ℕ) where
  same_listed : (f : Forest Element) → map widget_of (list_of (listed (nodes_of a f))) ≡ map widget_of (list_of (listed (nodes_of b f)))
  same_listed none = refl
  same_listed (tree h e kids rest) = ap (λ l. e.widget ∷ l) (same_listed rest)

  same_below : (e : Element) (kids : Forest Element) → widgets_below (node_over a e kids) ≡ widgets_below (node_over b e kids)
  same_below e kids = ap (λ ws. cond (is_lazy (build_role_of (look_of e.widget))) (child_widgets e.widget) ws) (same_listed kids)

  same_sorts : (d : Declarations) (f : Forest Element) → sorts_in d (list_of (listed (nodes_of a f))) ≡ sorts_in d (list_of (listed (nodes_of b f)))
  same_sorts d none = refl
  same_sorts d (tree h e kids rest) = ap (λ l. sort_of d e.widget ∷ l) (same_sorts d rest)

  pub built_again : (d : Declarations) (f : Forest Element) → AreWellBuilt d (listed (nodes_of a f)) → AreWellBuilt d (listed (nodes_of b f))
  built_again d none w = tt
  built_again d (tree h e kids rest) w = (
    (
      record {
        typed = w.0.0.typed;
        suited = w.0.0.suited;
        apart = subst NoKeyRepeats (same_below e kids) w.0.0.apart;
        fits = subst (FitBelow d (look_of e.widget) (build_role_of (look_of e.widget))) (same_sorts d kids) w.0.0.fits;
      },
      built_again d kids w.0.1,
    ),
    built_again d rest w.1,
  )

  stand_again : (ws us : List PlainWidget) → ws ≡ us → (f : Forest Element) → StandAt ws (list_of (listed (nodes_of a f))) → StandAt us (list_of (listed (nodes_of b f)))
  stand_again ws us e none s = tt
  stand_again ws us e (tree h v kids rest) s = (ap (λ l. slice_get l v.index) (sym e) ∙ s.0, stand_again ws us e rest s.1)

  pub placed_again : (f : Forest Element) → AreInPlace (listed (nodes_of a f)) → AreInPlace (listed (nodes_of b f))
  placed_again none s = tt
  placed_again (tree h e kids rest) s = (
    (
      stand_again (widgets_below (node_over a e kids)) (widgets_below (node_over b e kids)) (same_below e kids) kids s.0.0,
      placed_again kids s.0.1,
    ),
    placed_again rest s.1,
  )

-- ---- where a handle stands in a forest

pub by_place : (h k : Handle) (e : Element) (kids rest : Forest Element) (P : Type 0) → In h (tree k e kids rest) → (k ≡ h → P) → (In h kids → P) → (In h rest → P) → P
by_place h k e kids rest P i own below later = by_same (same k h) refl
  where
    by_kids : (n : ℕ) → count h kids ≡ n → same k h ≡ false → P
    by_kids zero z s = later (omega (arith, i, z, ap (λ b. cond {A = ℕ} b 1 0) s))
    by_kids (suc n) z s = below (omega (arith, z))

    by_same : (b : Bool) → same k h ≡ b → P
    by_same true s = own (same-true k h s)
    by_same false s = by_kids (count h kids) refl s

-- ---- what a component stores

module _ (c : PlainChecked) (checked : IsTypedChecked c) where
  abbrev D : Declarations
  D = declarations_of c

  output_typed : (w : PlainWidget) (values : List Value) (number : ℕ) (fields : List Value) (place : ℕ) (props : List Value) → build_role_of (look_of w) ≡ composes place props
      → map type_of values ≡ D.inherited → IsTypedWidget D w → FitFields D (build_role_of (look_of w)) fields
      → AreTypedWidgets D (widgets_of (component_output c place (names_in props fields values) (slots_of w) number))
  output_typed (plain look k slots children) values number fields place props is e t fit =
      let again = subst (λ xs. IsTypedWidget D (plain look k xs (widgets_of (widgets_in children)))) (sym (widgets_again slots)) (subst (λ ys. IsTypedWidget D (plain look k slots ys)) (sym (widgets_again children)) t) in
      let may = may_build c k (widgets_in slots) (widgets_in children) place props look again is fields values (subst (λ p. FitFields D p fields) is fit) e in
      let there = scene_in c (names_in props fields values) (widgets_in slots) number in
      let fine = component_fine c place number (names_in props fields values) (widgets_in slots) checked may in
      let ws = component_output c place (names_in props fields values) (widgets_in slots) number in
      let here : IsOneFine (widget_sort may.component.sort) there ws = subst (λ x. IsOneFine (widget_sort may.component.sort) there (output_in_body x there)) (sym may.found) fine in
      here.good (subst (AreTypedWidgets D) (sym (widgets_again slots)) t.in_slots)

  alone : (o : Option PlainWidget) → AreTypedWidgets D (widgets_of (option_to_list o)) → IfSome o (IsTypedWidget D)
  alone None h = tt
  alone (Some w) h = h.0

  stored_typed : (e : Element) (values : List Value) (place : ℕ) (props : List Value) → build_role_of (look_of e.widget) ≡ composes place props → map type_of values ≡ D.inherited
      → IsTypedWidget D e.widget → FitFields D (build_role_of (look_of e.widget)) e.fields
      → HasOutput (blueprint_of c) (build_role_of (look_of e.widget)) e.widget e.fields values e.number (option_to_list e.output) → IfSome e.output (IsTypedWidget D)
  stored_typed e values place props is inherits typed fit has =
      let here : (option_to_list e.output ≡ component_output c place (names_in props e.fields values) (slots_of e.widget) e.number) × (count_in (option_to_list e.output) ≤ output_limit) =
      subst (λ p. HasOutput (blueprint_of c) p e.widget e.fields values e.number (option_to_list e.output)) is has in
      alone e.output (subst (λ ws. AreTypedWidgets D (widgets_of ws)) (sym here.0) (output_typed e.widget values e.number e.fields place props is inherits typed fit))

  names_fit : (w : PlainWidget) → IsTypedWidget D w → FitsNames D.inherited (build_role_of (look_of w))
  names_fit (plain look k slots children) typed = fits_names D look k slots children D.inherited typed refl

  -- ---- an element, wherever it stands

  module _ (t : Tree Element) (found : (h : Handle) (s : Forest Element) → StandsAt t h s → subtree_at t h ≡ s) (scrolled : ℕ → ℕ) where
    -- it is well built and in place, and the output that it stores, if it isn't flagged, is what its body gives
    pub record IsFound (h : Handle) : Type 0 where
      pub value : Element
      pub kids : Forest Element
      pub is : subtree_at t h ≡ tree h value kids none
      pub stored : element_at t h ≡ Some value
      pub built : IsWellBuilt D (node_over (λ _. 0) value kids)
      pub placed : IsInPlace (node_over (λ _. 0) value kids)
      pub values : List Value
      pub inherits : map type_of values ≡ D.inherited
      pub held : value.dirty ≡ false → HasOutput (blueprint_of c) (build_role_of (look_of value.widget)) value.widget value.fields values value.number (option_to_list value.output)

    found_in : (p : Option Handle) (values : List Value) (f : Forest Element) → map type_of values ≡ D.inherited → Stands (node_at t) p f → IsDistinct f
        → AreWellBuilt D (listed (nodes_of scrolled f)) → AreInPlace (listed (nodes_of scrolled f)) → HoldOutputs (blueprint_of c) values f → (h : Handle) → In h f → IsFound h
    found_in p values none inherits stands distinct well placed held h i = absurd (omega (arith, i))
    found_in p values (tree k e kids rest) inherits stands distinct well placed held h i =
        by_place h k e kids rest (IsFound h) i
        (λ own. subst IsFound own (record {
          value = e;
          kids = kids;
          is = found k (tree k e kids none) (one_stands t p k e kids rest stands distinct);
          stored = ap (option_map (λ (n : TreeNode Element). n.value)) stands.0;
          built = (built_again scrolled (λ _. 0) D (tree k e kids none) (well.0, tt)).0;
          placed = (placed_again scrolled (λ _. 0) (tree k e kids none) (placed.0, tt)).0;
          values = values;
          inherits = inherits;
          held = held.0;
        }))
        (λ below. found_in (Some k) (values_below e.widget values) kids (typed_below D e.widget values inherits well.0.0.typed) stands.1 (λ x. omega (arith, distinct x)) well.0.1 placed.0.1 held.1 h below)
        (λ later. found_in p values rest inherits stands.2 (λ x. omega (arith, distinct x)) well.1 placed.1 held.2 h later)

    module _ (h : Handle) (at : IsFound h) where
      plain_found : plain_at (λ _. 0) t h ≡ Some (node_over (λ _. 0) at.value at.kids)
      plain_found = ap (λ (s : Forest Element). first_node (nodes_of (λ _. 0) s)) at.is

      pub built_found : IfSome (plain_at (λ _. 0) t h) (IsWellBuilt D)
      built_found = subst (λ o. IfSome o (IsWellBuilt D)) (sym plain_found) at.built

      pub placed_found : IfSome (plain_at (λ _. 0) t h) IsInPlace
      placed_found = subst (λ o. IfSome o IsInPlace) (sym plain_found) at.placed

      module _ (e : Element) (stored : element_at t h ≡ Some e) where
        this_value : at.value ≡ e
        this_value = some_same at.value e (sym at.stored ∙ stored)
          where
            some_same : (x y : Element) → Some x ≡ Some y → x ≡ y
            some_same x y q = cc

        pub names_found : FitsNames D.inherited (build_role_of (look_of e.widget))
        names_found = subst (λ (x : Element). FitsNames D.inherited (build_role_of (look_of x.widget))) this_value (names_fit at.value.widget at.built.0.typed)

        pub output_found : e.dirty ≡ false → (place : ℕ) (props : List Value) → build_role_of (look_of e.widget) ≡ composes place props → IfSome e.output (IsTypedWidget D)
        output_found clean place props is =
            subst (λ (x : Element). IfSome x.output (IsTypedWidget D)) this_value
            (stored_typed at.value at.values place props (ap (λ (x : Element). build_role_of (look_of x.widget)) this_value ∙ is) at.inherits at.built.0.typed at.built.0.suited
            (at.held (ap (λ (x : Element). x.dirty) this_value ∙ clean)))

-- ---- the whole tree

module _ (c : PlainChecked) (marks : List ℕ) (old : Option PlainNode) (scrolled : ℕ → ℕ) (t : Tree Element) (s : ElementsStandFor c marks old scrolled t) where
  pub numbers_apart : AllDiffer (numbers_in (listed (nodes_of scrolled s.forest)))
  numbers_apart = subst (λ ns. AllDiffer (numbers_in (listed ns))) s.nodes (by_old old s.numbered)
    where
      by_old : (o : Option PlainNode) → IfSome o (IsNumbered (made_count t + 1)) → AllDiffer (numbers_in (listed (option_to_list o)))
      by_old None n = tt
      by_old (Some x) n = subst AllDiffer (sym (append-nil (numbers_of x))) n.differ

  pub all_built : AreWellBuilt (declarations_of c) (listed (nodes_of scrolled s.forest))
  all_built = subst (λ ns. AreWellBuilt (declarations_of c) (listed ns)) s.nodes (by_old old s.well)
    where
      by_old : (o : Option PlainNode) → IfSome o (IsWellBuilt (declarations_of c)) → AreWellBuilt (declarations_of c) (listed (option_to_list o))
      by_old None w = tt
      by_old (Some x) w = (w, tt)

  all_placed : AreInPlace (listed (nodes_of scrolled s.forest))
  all_placed = subst (λ ns. AreInPlace (listed ns)) s.nodes (by_old old s.numbered)
    where
      by_old : (o : Option PlainNode) → IfSome o (IsNumbered (made_count t + 1)) → AreInPlace (listed (option_to_list o))
      by_old None n = tt
      by_old (Some x) n = (n.placed, tt)

  pub element_found : (checked : IsTypedChecked c) (found : (h : Handle) (f : Forest Element) → StandsAt t h f → subtree_at t h ≡ f) (h : Handle) → IsNode t h → IsFound c checked t found scrolled h
  element_found checked found h live =
      found_in c checked t found scrolled None (default_values c) s.forest (values_typed (types_in c.inherited.names) c.inherited.values checked.inherited) s.is.stands s.is.distinct all_built all_placed
      s.outputs h (s.is.whole h live)

-- what has an element is live
pub live_element : (t : Tree Element) (h : Handle) (e : Element) → element_at t h ≡ Some e → IsNode t h
live_element t h e = by_node (node_at t h)
  where
    by_node : (o : Option (TreeNode Element)) → option_map (λ (n : TreeNode Element). n.value) o ≡ Some e → IsSome o
    by_node None q = cc
    by_node (Some n) q = refl
