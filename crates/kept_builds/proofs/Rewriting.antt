-- One element is changed, but for its number, widget, place and render node, and is to be built anew.
use Rattle.std.proofs.Common.{◌≡◌, ◌≢◌, ℕ, Bool, true, false, ◌||◌, cond, eqb, Option, Some, None, is_some, option_map, List, [], ◌∷◌, ◌++◌, map, refl, sym, ap, ◌∙◌, subst}
use Rattle.std.specs.List.{list_any}
use Rattle.std.specs.Option.{option_or, option_to_list}
use Rattle.std.specs.Cmp.{unsigned_Decides}
use Rattle.std.proofs.lemmas.Bool.{ne_eqb}
use Rattle.fx_expr.specs.declared.values.Value.{Value}
use Rattle.fx_expr.specs.Value.{type_of}
use Rattle.fx_handles.specs.declared.Handle.{Handle}
use Rattle.fx_handles.specs.Handle.{same}
use Rattle.fx_handles.specs.HandleLaws.{same-true, same-eq}
use Rattle.node_tree.specs.Forest.{TreeNode, Forest, Stands, tops, set_value}
use Rattle.node_tree.specs.Forest.Forest.{none, tree}
use Rattle.node_tree.specs.Tree.{Tree}
use Rattle.widget_model.specs.Plain.{PlainWidget, look_of, children_of as child_widgets}
use Rattle.widget_model.specs.Typed.{Declarations, sort_of, IsTypedWidget}
use Rattle.reconcile.specs.Keys.{NoKeyRepeats}
use Rattle.plain_tree.specs.At.{node_at, node_in, changed_at, changed_in}
use Rattle.plain_tree.specs.PlainNode.{PlainNode, node, PlainNodes, no_nodes, more_nodes, widget_of, list_of, nodes_of as listed}
use Rattle.plain_tree.specs.Projection.{scroll_in}
use Rattle.plain_tree.specs.RenderRole.{render_role_of, vanishes}
use Rattle.build_form.specs.BuildRole.{BuildRole, composes, provides, keeps, lists, holds, build_role_of, is_lazy}
use Rattle.build_form.specs.Entering.{Blueprint, values_below}
use Rattle.build_form.specs.WellBuilt.{FitFields, FitBelow, sorts_in, AreWellBuilt}
use Rattle.element_tree.specs.Edits.{Writes}
use Rattle.element_tree.specs.Element.{Element, element_at}
use Rattle.element_tree.specs.Nodes.{nodes_of}
use Rattle.element_tree.proofs.Changing.{value_after}
use Rattle.global_keys.specs.Holders.{Registry}
use Rattle.global_keys.specs.Named.{global_of, global_at, NamesExactly}
use Rattle.render_tree.specs.Object.{RenderObject}
use Rattle.build_walk.specs.Fresh.{HasOutput}
use Rattle.build_walk.specs.Past.{is_marked}
use Rattle.build_walk.specs.Renewing.{role_of, IsDrawn, Unless, AreDrawn}
use Rattle.build_walk.specs.Telling.{HoldOutputs, FlagsAre}
use Rattle.kept_builds.proofs.Places.{value_in, element_is}

-- what stays of it
pub record IsRewritten (e w : Element) : Type 0 where
  pub number : w.number ≡ e.number
  pub widget : w.widget ≡ e.widget
  pub index : w.index ≡ e.index
  pub render : w.render ≡ e.render
  pub types : map type_of w.fields ≡ map type_of e.fields
  pub dirty : w.dirty ≡ true

-- ---- marks

any_first : (p : ℕ → Bool) (xs : List ℕ) (x : ℕ) → p x ≡ false → list_any p (xs ++ x ∷ []) ≡ list_any p xs
any_first p [] x e = ap (λ b. b || false) e
any_first p (y ∷ xs) x e = ap (λ b. p y || b) (any_first p xs x e)

or_true : (a b : Bool) → b ≡ true → (a || b) ≡ true
or_true true b e = refl
or_true false b e = e

any_last : (p : ℕ → Bool) (xs : List ℕ) (x : ℕ) → p x ≡ true → list_any p (xs ++ x ∷ []) ≡ true
any_last p [] x e = ap (λ b. b || false) e
any_last p (y ∷ xs) x e = or_true (p y) (list_any p (xs ++ x ∷ [])) (any_last p xs x e)

marked_own : (marks : List ℕ) (n m : ℕ) → m ≡ n → is_marked (marks ++ n ∷ []) m ≡ true
marked_own marks n m e = any_last (λ x. eqb x m) marks n ((unsigned_Decides n m).1 (sym e))

marked_other : (marks : List ℕ) (n m : ℕ) → m ≢ n → is_marked (marks ++ n ∷ []) m ≡ is_marked marks m
marked_other marks n m apart = any_first (λ x. eqb x m) marks n (ne_eqb n m (λ e. apart (sym e)))

-- ---- in a forest

no_cons : {A : Type 0} {x : A} {xs : List A} → x ∷ xs ≡ [] → ⊥
no_cons e = cc

no_fields : (g : List Value) → map type_of g ≡ [] → g ≡ []
no_fields [] e = refl
no_fields (x ∷ xs) e = absurd (no_cons e)

fields_again : (d : Declarations) (p : BuildRole) (f g : List Value) → map type_of g ≡ map type_of f → FitFields d p f → FitFields d p g
fields_again d (composes place props) f g e h = e ∙ h
fields_again d (provides name value) f g e h = no_fields g (e ∙ ap (map type_of) h)
fields_again d (keeps kept) f g e h = no_fields g (e ∙ ap (map type_of) h)
fields_again d (lists extent) f g e h = no_fields g (e ∙ ap (map type_of) h)
fields_again d holds f g e h = no_fields g (e ∙ ap (map type_of) h)

pub same_tops : {T : Type 0} (h : Handle) (w : T) (f : Forest T) → tops (set_value h w f) ≡ tops f
same_tops h w none = refl
same_tops h w (tree k v below rest) = ap (λ l. k ∷ l) (same_tops h w rest)

module _ (at : Handle → Option (TreeNode Element)) (h : Handle) (e w : Element) (here : value_in (at h) ≡ Some e) (is : IsRewritten e w) where
  -- what stands at h is e, so what holds of it holds of w
  abbrev put : Bool → Element → Element
  put b v = cond b w v

  own : (p : Option Handle) (k : Handle) (v : Element) (below rest : Forest Element) → Stands at p (tree k v below rest) → same k h ≡ true → v ≡ e
  own p k v below rest stands equal = element_is v e (sym (ap value_in stands.0) ∙ ap (λ x. value_in (at x)) (same-true k h equal) ∙ here)

  widget_put : (b : Bool) (v : Element) → (b ≡ true → v ≡ e) → (put b v).widget ≡ v.widget
  widget_put true v own = is.widget ∙ ap (λ (x : Element). x.widget) (sym (own refl))
  widget_put false v own = refl

  types_put : (b : Bool) (v : Element) → (b ≡ true → v ≡ e) → map type_of (put b v).fields ≡ map type_of v.fields
  types_put true v own = is.types ∙ ap (λ (x : Element). map type_of x.fields) (sym (own refl))
  types_put false v own = refl

  -- ---- the plain nodes

  module _ (scrolled : ℕ → ℕ) where
    widgets_again : (p : Option Handle) (f : Forest Element) → Stands at p f → map widget_of (list_of (listed (nodes_of scrolled (set_value h w f)))) ≡ map widget_of (list_of (listed (nodes_of scrolled f)))
    widgets_again p none stands = refl
    widgets_again p (tree k v below rest) stands = λ i. widget_put (same k h) v (own p k v below rest stands) i ∷ widgets_again p rest stands.2 i

    sorts_again : (d : Declarations) (p : Option Handle) (f : Forest Element) → Stands at p f → sorts_in d (list_of (listed (nodes_of scrolled (set_value h w f)))) ≡ sorts_in d (list_of (listed (nodes_of scrolled f)))
    sorts_again d p none stands = refl
    sorts_again d p (tree k v below rest) stands = λ i. sort_of d (widget_put (same k h) v (own p k v below rest stands) i) ∷ sorts_again d p rest stands.2 i

    pub built_again : (d : Declarations) (p : Option Handle) (f : Forest Element) → Stands at p f → AreWellBuilt d (listed (nodes_of scrolled f)) → AreWellBuilt d (listed (nodes_of scrolled (set_value h w f)))
    built_again d p none stands good = tt
    built_again d p (tree k v below rest) stands good =
        let x = put (same k h) v in
        let widget : x.widget ≡ v.widget = widget_put (same k h) v (own p k v below rest stands) in
        let types : map type_of x.fields ≡ map type_of v.fields = types_put (same k h) v (own p k v below rest stands) in
        let us = map widget_of (list_of (listed (nodes_of scrolled (set_value h w below)))) in
        let ws = map widget_of (list_of (listed (nodes_of scrolled below))) in
        let widgets : us ≡ ws = widgets_again (Some k) below stands.1 in
        let list : PlainWidget → List PlainWidget → List PlainWidget = λ y ys. cond (is_lazy (build_role_of (look_of y))) (child_widgets y) ys in
        let siblings : list v.widget ws ≡ list x.widget us = λ i. list (sym widget i) (sym widgets i) in
        let Fits : PlainWidget → Type 0 = λ y. FitBelow d (look_of y) (build_role_of (look_of y)) (sorts_in d (list_of (listed (nodes_of scrolled (set_value h w below))))) in (
          (
            record {
              typed = subst (IsTypedWidget d) (sym widget) good.0.0.typed;
              suited = fields_again d (build_role_of (look_of x.widget)) v.fields x.fields types (subst (λ y. FitFields d (build_role_of (look_of y)) v.fields) (sym widget) good.0.0.suited);
              apart = subst NoKeyRepeats siblings good.0.0.apart;
              fits = subst Fits (sym widget) (subst (FitBelow d (look_of v.widget) (build_role_of (look_of v.widget))) (sym (sorts_again d (Some k) below stands.1)) good.0.0.fits);
            },
            built_again d (Some k) below stands.1 good.0.1,
          ),
          built_again d p rest stands.2 good.1,
        )

  -- ---- outputs and flags

  module _ (b : Blueprint) where
    held_put : (t : Bool) (v : Element) (P : Element → Type 0) → (v.dirty ≡ false → P v) → (put t v).dirty ≡ false → P (put t v)
    held_put true v P held clean = absurd (let d = is.dirty in cc)
    held_put false v P held clean = held clean

    pub outputs_again : (p : Option Handle) (values : List Value) (f : Forest Element) → Stands at p f → HoldOutputs b values f → HoldOutputs b values (set_value h w f)
    outputs_again p values none stands held = tt
    outputs_again p values (tree k v below rest) stands held = (
      held_put (same k h) v (λ (x : Element). HasOutput b (build_role_of (look_of x.widget)) x.widget x.fields values x.number (option_to_list x.output)) held.0,
      subst (λ vs. HoldOutputs b vs (set_value h w below)) (ap (λ y. values_below y values) (sym (widget_put (same k h) v (own p k v below rest stands)))) (outputs_again (Some k) (values_below v.widget values) below stands.1 held.1),
      outputs_again p values rest stands.2 held.2,
    )

  module _ (marks : List ℕ) (unique : (k : Handle) (v : Element) → value_in (at k) ≡ Some v → v.number ≡ e.number → k ≡ h) where
    flag_put : (t : Bool) (k : Handle) (v : Element) → same k h ≡ t → value_in (at k) ≡ Some v → (t ≡ true → v ≡ e) → v.dirty ≡ is_marked marks v.number → (put t v).dirty ≡ is_marked (marks ++ e.number ∷ []) (put t v).number
    flag_put true k v equal stored own flag = is.dirty ∙ sym (marked_own marks e.number w.number is.number)
    flag_put false k v equal stored own flag =
        flag ∙ sym (marked_other marks e.number v.number (λ same_number. true_false (sym (ap (λ x. same x h) (unique k v stored same_number) ∙ same_itself) ∙ equal)))
      where
        same_itself : same h h ≡ true
        same_itself = same-eq h h refl

        true_false : true ≡ false → ⊥
        true_false q = cc

    pub flags_again : (p : Option Handle) (f : Forest Element) → Stands at p f → FlagsAre marks f → FlagsAre (marks ++ e.number ∷ []) (set_value h w f)
    flags_again p none stands flags = tt
    flags_again p (tree k v below rest) stands flags = (
      flag_put (same k h) k v refl (ap value_in stands.0) (own p k v below rest stands) flags.0,
      flags_again (Some k) below stands.1 flags.1,
      flags_again p rest stands.2 flags.2,
    )

  -- ---- render nodes

  module _ (of : Handle → Option RenderObject) (scrolled : ℕ → ℕ) where
    abbrev DrawnAs : Element → Type 0
    DrawnAs v = Unless (vanishes (role_of v)) (IsDrawn of (scrolled v.number) v)

    drawn_parts : (b : Bool) (v x : Element) (scroll : ℕ) → x.number ≡ v.number → x.widget ≡ v.widget → x.render ≡ v.render → Unless b (IsDrawn of scroll v) → Unless b (IsDrawn of scroll x)
    drawn_parts true v x scroll n wi re d = tt
    drawn_parts false v x scroll n wi re d = record {
      handle = d.handle;
      named = re ∙ d.named;
      object = d.object;
      stored = d.stored;
      number = d.number ∙ sym n;
      scrolled = d.scrolled ∙ ap (λ y. scroll_in (render_role_of (look_of y)) scroll) (sym wi);
    }

    drawn_put : (b : Bool) (v : Element) → (b ≡ true → v ≡ e) → DrawnAs v → DrawnAs (put b v)
    drawn_put true v own d =
        let of_e : DrawnAs e = subst DrawnAs (own refl) d in
        let with_scroll : Unless (vanishes (role_of e)) (IsDrawn of (scrolled w.number) e) = subst (λ n. Unless (vanishes (role_of e)) (IsDrawn of (scrolled n) e)) (sym is.number) of_e in
        let with_widget : Unless (vanishes (role_of w)) (IsDrawn of (scrolled w.number) e) = subst (λ y. Unless (vanishes (role_of (record e { widget = y }))) (IsDrawn of (scrolled w.number) e)) (sym is.widget) with_scroll in
        drawn_parts (vanishes (role_of w)) e w (scrolled w.number) is.number is.widget is.render with_widget
    drawn_put false v own d = d

    pub drawn_again : (p : Option Handle) (f : Forest Element) → Stands at p f → AreDrawn of scrolled f → AreDrawn of scrolled (set_value h w f)
    drawn_again p none stands d = tt
    drawn_again p (tree k v below rest) stands d =
        (drawn_put (same k h) v (own p k v below rest stands) d.0, drawn_again (Some k) below stands.1 d.1, drawn_again p rest stands.2 d.2)

-- ---- the registry

key_after : (b : Bool) (o : Option Element) (e w : Element) → (b ≡ true → o ≡ Some e) → w.widget ≡ e.widget → global_of (option_map (λ v. cond b w v) o) ≡ global_of o
key_after b None e w own widget = refl
key_after true (Some v) e w own widget = let v_is = element_is v e (own refl) in ap (λ y. global_of (Some (record e { widget = y }))) widget ∙ ap (λ x. global_of (Some x)) (sym v_is)
key_after false (Some v) e w own widget = refl

pub names_again : (g : Registry) (t u : Tree Element) (h : Handle) (e w : Element) → element_at t h ≡ Some e → w.widget ≡ e.widget → Writes t u h w → NamesExactly g t → NamesExactly g u
names_again g t u h e w stored widget writes names =
    let same_keys : (k : Handle) → global_at u k ≡ global_at t k =
    λ k. ap global_of (value_after t u h w writes.writes k) ∙ key_after (same k h) (element_at t k) e w (λ equal. ap (element_at t) (same-true k h equal) ∙ stored) widget in
    record { to_element = λ k x named. same_keys x ∙ names.to_element k x named; to_holder = λ k x has. names.to_holder k x (sym (same_keys x) ∙ has) }

-- ---- two changes that do the same to the node that is found

module _ (f g : PlainNode → PlainNode) where
  abbrev Agree : Option PlainNode → Type 0
  Agree o = (m : PlainNode) → o ≡ Some m → f m ≡ g m

  at_own : (b : Bool) (n : PlainNode) (inner : Option PlainNode) (c d : PlainNode) → Agree (cond b (Some n) inner) → (Agree inner → c ≡ d) → cond b (f n) c ≡ cond b (g n) d
  at_own true n inner c d h k = h n refl
  at_own false n inner c d h k = k h

  at_first : (o later : Option PlainNode) (a b c d : PlainNodes) → Agree (option_or o later) → (Agree o → a ≡ b) → (Agree later → c ≡ d) → cond (is_some o) a c ≡ cond (is_some o) b d
  at_first None later a b c d h j k = k h
  at_first (Some n) later a b c d h j k = j h

  mutual
    pub changed_alike : (wanted : ℕ) (n : PlainNode) → Agree (node_at wanted n) → changed_at f wanted n ≡ changed_at g wanted n
    changed_alike wanted (node number widget fields scroll index children) h =
        at_own (eqb number wanted) (node number widget fields scroll index children) (node_in wanted children) (node number widget fields scroll index (changed_in f wanted children)) (node number widget fields scroll index (changed_in g wanted children)) h
        (λ k. ap (node number widget fields scroll index) (all_changed_alike wanted children k))

    all_changed_alike : (wanted : ℕ) (ns : PlainNodes) → Agree (node_in wanted ns) → changed_in f wanted ns ≡ changed_in g wanted ns
    all_changed_alike wanted no_nodes h = refl
    all_changed_alike wanted (more_nodes n ns) h =
        at_first (node_at wanted n) (node_in wanted ns) (more_nodes (changed_at f wanted n) ns) (more_nodes (changed_at g wanted n) ns) (more_nodes n (changed_in f wanted ns)) (more_nodes n (changed_in g wanted ns)) h
        (λ k. ap (λ m. more_nodes m ns) (changed_alike wanted n k)) (λ k. ap (more_nodes n) (all_changed_alike wanted ns k))
