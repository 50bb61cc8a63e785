-- A tree in which an Inherit takes another one's widget is well built, and each component of it stores what is below it.
use Rattle.std.proofs.Common.{◌≡◌, ℕ, zero, suc, ◌+◌, ◌<◌, ◌==◌, Bool, true, false, cond, Option, Some, None, option_map, List, [], ◌∷◌, map, length, refl, sym, ap, ◌∙◌, subst, arith, inl, inr}
use Rattle.std.specs.Option.{option_to_list}
use Rattle.std.proofs.lemmas.Bool.{cases_Bool}
use Rattle.fx_expr.specs.declared.values.Value.{Value}
use Rattle.fx_handles.specs.declared.Handle.{Handle}
use Rattle.fx_handles.specs.Handle.{same}
use Rattle.node_tree.specs.Forest.{Forest, IsDistinct}
use Rattle.node_tree.specs.Forest.Forest.{none, tree}
use Rattle.node_tree.proofs.ForestLemmas.{hit-true}
use Rattle.widget_model.specs.Look.{Look, inherit}
use Rattle.widget_model.specs.Plain.{PlainWidget, plain, Widgets, no_widgets, more, look_of}
use Rattle.widget_model.specs.Plain.{children_of as child_widgets, list_of as widgets_list}
use Rattle.widget_model.specs.Typed.{Sort, box, Declarations, IsTypedWidget, FitChildren, sort_of, sort_with, first_sort}
use Rattle.plain_tree.specs.PlainNode.{PlainNode, node, widget_of, list_of, nodes_of as listed}
use Rattle.reconcile.specs.Keys.{NoKeyRepeats}
use Rattle.build_form.specs.BuildRole.{BuildRole, composes, provides, keeps, lists, holds, build_role_of, is_lazy}
use Rattle.build_form.specs.Entering.{Blueprint, values_below}
use Rattle.build_form.specs.WellBuilt.{FitFields, FitBelow, sorts_in, IsBuilt, AreWellBuilt}
use Rattle.element_tree.specs.Edits.{with_widget, with_flag}
use Rattle.element_tree.specs.Element.{Element}
use Rattle.element_tree.specs.Nodes.{nodes_of}
use Rattle.inherited.specs.Readers.{flagged}
use Rattle.build_walk.specs.Fresh.{HasOutput, HaveFreshOutputs}
use Rattle.build_walk.specs.Past.{is_marked}
use Rattle.build_walk.specs.Telling.{HoldOutputs, StoresBelow, StoreOutputs}
use Rattle.build_walk.proofs.Made.{list_of-nodes_of}
use Rattle.renewed_builds.specs.Renewing.{widgets_in}
use Rattle.renewed_builds.proofs.Below.{first_taking, regiven_at, regiven_absent, HasChild}
use Rattle.renewed_builds.proofs.Retaking.{widgets_are, distinct_below, distinct_later}

-- ---- Inherits

gives_first : (d : Declarations) (look : Look) (name : ℕ) (value : Value) (s : Sort) → build_role_of look ≡ provides name value → sort_with d look s ≡ s
gives_first d (inherit k v) name value s e = refl
gives_first d look name value s e = cc

-- the sort of the first of some widgets
abbrev first_listed : Declarations → List PlainWidget → Sort
first_listed d [] = box
first_listed d (w ∷ ws) = sort_of d w

firsts : (d : Declarations) (ws : Widgets) → first_sort d ws ≡ first_listed d (widgets_list ws)
firsts d no_widgets = refl
firsts d (more w ws) = refl

sort_is : (d : Declarations) (w : PlainWidget) (name : ℕ) (value : Value) → build_role_of (look_of w) ≡ provides name value → sort_of d w ≡ first_listed d (child_widgets w)
sort_is d (plain l k slots ws) name value role = gives_first d l name value (first_sort d ws) role ∙ firsts d ws

-- Inherits over the same child are of one sort
pub sorts_same : (d : Declarations) (v w : PlainWidget) (name : ℕ) (was now : Value) → build_role_of (look_of v) ≡ provides name was → build_role_of (look_of w) ≡ provides name now → child_widgets w ≡ child_widgets v
    → sort_of d w ≡ sort_of d v
sorts_same d v w name was now was_given now_given same = sort_is d w name now now_given ∙ ap (first_listed d) same ∙ sym (sort_is d v name was was_given)

one_below : (look : Look) (name : ℕ) (value : Value) (sorts : List Sort) → build_role_of look ≡ provides name value → FitChildren look sorts → length sorts ≡ 1
one_below (inherit k v) name value sorts e fits = fits
one_below look name value sorts e fits = cc

fits_one : (look : Look) (name : ℕ) (value : Value) (sorts : List Sort) → build_role_of look ≡ provides name value → length sorts ≡ 1 → FitChildren look sorts
fits_one (inherit k v) name value sorts e one = one
fits_one look name value sorts e one = cc

-- ---- well built

module _ (d : Declarations) (scrolled : ℕ → ℕ) where
  abbrev widgets_of_all : Forest Element → List PlainWidget
  widgets_of_all f = map widget_of (list_of (listed (nodes_of scrolled f)))

  abbrev sorts_of_all : Forest Element → List Sort
  sorts_of_all f = sorts_in d (list_of (listed (nodes_of scrolled f)))

  abbrev Built : Element → Forest Element → Type 0
  Built x kids = IsBuilt d x.widget x.fields (cond (is_lazy (build_role_of (look_of x.widget))) (child_widgets x.widget) (widgets_of_all kids)) (sorts_of_all kids)

  sorts_are : (f : Forest Element) → sorts_of_all f ≡ map (sort_of d) (widgets_in f)
  sorts_are none = refl
  sorts_are (tree k v kids rest) = ap (λ l. sort_of d v.widget ∷ l) (sorts_are rest)

  -- over the same widgets
  built_over : (x : Element) (kids others : Forest Element) → widgets_in others ≡ widgets_in kids → Built x kids → Built x others
  built_over x kids others same built =
      let lazy = is_lazy (build_role_of (look_of x.widget)) in
      let ws : widgets_of_all others ≡ widgets_of_all kids = widgets_are scrolled others ∙ same ∙ sym (widgets_are scrolled kids) in
      let ss : sorts_of_all others ≡ sorts_of_all kids = sorts_are others ∙ ap (map (sort_of d)) same ∙ sym (sorts_are kids) in
      subst (λ l. IsBuilt d x.widget x.fields (cond lazy (child_widgets x.widget) l) (sorts_of_all others)) (sym ws)
      (subst (λ l. IsBuilt d x.widget x.fields (cond lazy (child_widgets x.widget) (widgets_of_all kids)) l) (sym ss) built)

  tops_same : (h : Handle) (w : PlainWidget) (f : Forest Element) → widgets_in (regiven_at h w f) ≡ widgets_in f
  tops_same h w none = refl
  tops_same h w (tree k v kids rest) = ap (λ l. v.widget ∷ l) (tops_same h w rest)

  module _ (h child : Handle) (e v : Element) (low : Forest Element) (w : PlainWidget) (place : ℕ) (props : List Value) (composed : build_role_of (look_of e.widget) ≡ composes place props)
      (name : ℕ) (was now : Value) (was_given : build_role_of (look_of v.widget) ≡ provides name was) (now_given : build_role_of (look_of w) ≡ provides name now)
      (typed : IsTypedWidget d w) (same_sort : sort_of d w ≡ sort_of d v.widget) where
    abbrev taken : Forest Element
    taken = tree child (with_widget w v) low none

    -- the component above it
    above : Built e (tree child v low none) → Built e taken
    above built = record {
      typed = built.typed;
      suited = built.suited;
      apart = subst (λ r. NoKeyRepeats (cond (is_lazy r) (child_widgets e.widget) (w ∷ []))) (sym composed) (λ i j x low high. absurd (omega (arith, low, high)));
      fits = subst (λ s. FitBelow d (look_of e.widget) (build_role_of (look_of e.widget)) (s ∷ [])) (sym same_sort) built.fits;
    }

    fields_fit : FitFields d (build_role_of (look_of v.widget)) v.fields → FitFields d (build_role_of (look_of w)) v.fields
    fields_fit fit = subst (λ r. FitFields d r v.fields) (sym now_given) (subst (λ r. FitFields d r v.fields) was_given fit)

    sorts_fit : (sorts : List Sort) → FitBelow d (look_of v.widget) (build_role_of (look_of v.widget)) sorts → FitBelow d (look_of w) (build_role_of (look_of w)) sorts
    sorts_fit sorts fit =
        subst (λ r. FitBelow d (look_of w) r sorts) (sym now_given)
        (fits_one (look_of w) name now sorts now_given (one_below (look_of v.widget) name was sorts was_given (subst (λ r. FitBelow d (look_of v.widget) r sorts) was_given fit)))

    -- the Inherit
    itself : Built v low → Built (with_widget w v) low
    itself built = record {
      typed = typed;
      suited = fields_fit built.suited;
      apart = subst (λ r. NoKeyRepeats (cond (is_lazy r) (child_widgets w) (widgets_of_all low))) (sym now_given)
          (subst (λ r. NoKeyRepeats (cond (is_lazy r) (child_widgets v.widget) (widgets_of_all low))) was_given built.apart);
      fits = sorts_fit (sorts_of_all low) built.fits;
    }

    well_one : (b : Bool) (k : Handle) (x : Element) (kids : Forest Element) → same k h ≡ b → (b ≡ true → (x ≡ e) × (kids ≡ tree child v low none)) → Built x kids → AreWellBuilt d (listed (nodes_of scrolled kids))
        → AreWellBuilt d (listed (nodes_of scrolled (regiven_at h w kids)))
        → Built x (cond b (first_taking w kids) (regiven_at h w kids)) × AreWellBuilt d (listed (nodes_of scrolled (cond b (first_taking w kids) (regiven_at h w kids))))
    well_one true k x kids is own built well inside =
        let p = own refl in
        let low_well = subst (λ f. AreWellBuilt d (listed (nodes_of scrolled f))) p.1 well in (
          subst (λ f. Built x (first_taking w f)) (sym p.1) (subst (λ y. Built y taken) (sym p.0) (above (subst (λ y. Built y (tree child v low none)) p.0 (subst (Built x) p.1 built)))),
          subst (λ f. AreWellBuilt d (listed (nodes_of scrolled (first_taking w f)))) (sym p.1) ((itself low_well.0.0, low_well.0.1), tt),
        )
    well_one false k x kids is own built well inside = (built_over x kids (regiven_at h w kids) (tops_same h w kids) built, inside)

    pub well_regiven : (f : Forest Element) → HasChild h child e v low f → AreWellBuilt d (listed (nodes_of scrolled f)) → AreWellBuilt d (listed (nodes_of scrolled (regiven_at h w f)))
    well_regiven none has well = tt
    well_regiven (tree k x kids rest) has well = (
      well_one (same k h) k x kids refl has.0 well.0.0 well.0.1 (well_regiven kids has.1 well.0.1),
      well_regiven rest has.2 well.1,
    )

-- ---- what is stored

stores_if : (r : BuildRole) (e : Element) (ns : List PlainNode) → option_to_list e.output ≡ map widget_of ns → StoresBelow r e ns
stores_if (composes place props) e ns is = λ clean. is
stores_if (provides name value) e ns is = tt
stores_if (keeps kept) e ns is = tt
stores_if (lists extent) e ns is = tt
stores_if holds e ns is = tt

stores_both : (b : Blueprint) (r : BuildRole) (e : Element) (values : List Value) (ws : List PlainWidget) (ns : List PlainNode) → ws ≡ map widget_of ns
    → HasOutput b r e.widget e.fields values e.number (option_to_list e.output) → HasOutput b r e.widget e.fields values e.number ws → StoresBelow r e ns
stores_both b (composes place props) e values ws ns same stored below = λ clean. stored.0 ∙ sym below.0 ∙ same
stores_both b (provides name value) e values ws ns same stored below = tt
stores_both b (keeps kept) e values ws ns same stored below = tt
stores_both b (lists extent) e values ws ns same stored below = tt
stores_both b holds e values ws ns same stored below = tt

module _ (b : Blueprint) (marks : List ℕ) (scrolled : ℕ → ℕ) (h child : Handle) (e v : Element) (low : Forest Element) (w : PlainWidget) (output : e.output ≡ Some w)
    (name : ℕ) (now : Value) (now_given : build_role_of (look_of w) ≡ provides name now) where
  -- nothing is flagged, and the one at the handle alone is marked
  abbrev pub IsQuiet : Forest Element → Type 0
  IsQuiet none = Unit {0}
  IsQuiet (tree k x kids rest) = ((x.dirty ≡ false) × (is_marked marks x.number ≡ same k h)) × IsQuiet kids × IsQuiet rest

  widgets_above : (f : Forest Element) → map widget_of (nodes_of scrolled (regiven_at h w f)) ≡ map widget_of (list_of (listed (nodes_of scrolled f)))
  widgets_above f = tops_are f ∙ sym (ap (map widget_of) (list_of-nodes_of (nodes_of scrolled f)))
    where
      tops_are : (f : Forest Element) → map widget_of (nodes_of scrolled (regiven_at h w f)) ≡ map widget_of (nodes_of scrolled f)
      tops_are none = refl
      tops_are (tree k x kids rest) = ap (λ l. x.widget ∷ l) (tops_are rest)

  stored_one : (c : Bool) (values : List Value) (k : Handle) (x : Element) (kids rest : Forest Element) → same k h ≡ c → IsDistinct (tree k x kids rest) → (c ≡ true → (x ≡ e) × (kids ≡ tree child v low none)) → x.dirty ≡ false
      → is_marked marks x.number ≡ c → (x.dirty ≡ false → HasOutput b (build_role_of (look_of x.widget)) x.widget x.fields values x.number (option_to_list x.output))
      → (is_marked marks x.number ≡ false → HasOutput b (build_role_of (look_of x.widget)) x.widget x.fields values x.number (map widget_of (list_of (listed (nodes_of scrolled kids)))))
      → StoreOutputs scrolled (regiven_at h w kids)
      → StoresBelow (build_role_of (look_of x.widget)) x (nodes_of scrolled (cond c (first_taking w kids) (regiven_at h w kids))) × StoreOutputs scrolled (cond c (first_taking w kids) (regiven_at h w kids))
  stored_one true values k x kids rest is distinct own clean marked held fresh inside =
      let p = own refl in
      let gone : regiven_at h w kids ≡ kids = regiven_absent h w kids (let few = distinct h in let one = hit-true h k is in omega (arith, few, one)) in
      let low_stored = subst (StoreOutputs scrolled) (gone ∙ p.1) inside in (
        stores_if (build_role_of (look_of x.widget)) x (nodes_of scrolled (first_taking w kids))
            (ap (λ (y : Element). option_to_list y.output) p.0 ∙ ap (λ (o : Option PlainWidget). option_to_list o) output ∙ sym (ap (λ f. map widget_of (nodes_of scrolled (first_taking w f))) p.1)),
        subst (λ f. StoreOutputs scrolled (first_taking w f)) (sym p.1) (subst (λ r. StoresBelow r (with_widget w v) (nodes_of scrolled low)) (sym now_given) tt, low_stored.1, tt),
      )
  stored_one false values k x kids rest is distinct own clean marked held fresh inside = (
    stores_both b (build_role_of (look_of x.widget)) x values (map widget_of (list_of (listed (nodes_of scrolled kids)))) (nodes_of scrolled (regiven_at h w kids)) (sym (widgets_above kids)) (held clean) (fresh marked),
    inside,
  )

  pub stored_regiven : (values : List Value) (f : Forest Element) → IsDistinct f → HasChild h child e v low f → IsQuiet f → HoldOutputs b values f → HaveFreshOutputs b marks values (listed (nodes_of scrolled f))
      → StoreOutputs scrolled (regiven_at h w f)
  stored_regiven values none distinct has quiet held fresh = tt
  stored_regiven values (tree k x kids rest) distinct has quiet held fresh =
      let inside = stored_regiven (values_below x.widget values) kids (distinct_below k x kids rest distinct) has.1 quiet.1 held.1 fresh.0.1 in
      let one = stored_one (same k h) values k x kids rest refl distinct has.0 quiet.0.0 quiet.0.1 held.0 fresh.0.0 inside in
      (one.0, one.1, stored_regiven values rest (distinct_later k x kids rest distinct) has.2 quiet.2 held.2 fresh.1)

-- flags leave it so
flag_stores : (r : BuildRole) (e : Element) (ns ms : List PlainNode) (b : Bool) → ms ≡ ns → StoresBelow r e ns → StoresBelow r (cond b (with_flag true e) e) ms
flag_stores (composes place props) e ns ms true same stores = λ flag. cc
flag_stores (composes place props) e ns ms false same stores = λ clean. stores clean ∙ ap (map widget_of) (sym same)
flag_stores (provides name value) e ns ms b same stores = tt
flag_stores (keeps kept) e ns ms b same stores = tt
flag_stores (lists extent) e ns ms b same stores = tt
flag_stores holds e ns ms b same stores = tt

flag_widget : (b : Bool) (e : Element) → (cond b (with_flag true e) e).widget ≡ e.widget
flag_widget true e = refl
flag_widget false e = refl

pub flagged_stores : (scrolled : ℕ → ℕ) (p : Handle → Bool) → ((f : Forest Element) → nodes_of scrolled (flagged p f) ≡ nodes_of scrolled f) → (f : Forest Element) → StoreOutputs scrolled f → StoreOutputs scrolled (flagged p f)
flagged_stores scrolled p nodes none stores = tt
flagged_stores scrolled p nodes (tree k e kids rest) stores = (
  subst (λ v. StoresBelow (build_role_of (look_of v)) (cond (p k) (with_flag true e) e) (nodes_of scrolled (flagged p kids))) (sym (flag_widget (p k) e))
      (flag_stores (build_role_of (look_of e.widget)) e (nodes_of scrolled kids) (nodes_of scrolled (flagged p kids)) (p k) (nodes kids) stores.0),
  flagged_stores scrolled p nodes kids stores.1,
  flagged_stores scrolled p nodes rest stores.2,
)
