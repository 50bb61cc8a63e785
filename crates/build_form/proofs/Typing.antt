-- What typed widgets say of a build.
use Rattle.std.proofs.Common.{◌≡◌, ℕ, zero, suc, eqb, Bool, true, false, true≢false, ◌<◌, IsTrue, Bor, get_or, arith, Option, Some, None, List, [], ◌∷◌, length, map, slice_get, refl, sym, ap, ◌∙◌, subst}
use Rattle.std.specs.Option.{option_map}
use Rattle.std.proofs.lemmas.Option.{slice_get-map}
use Rattle.std.proofs.lemmas.List.{length-map}
use Rattle.fx_expr.specs.declared.values.Value.{Value}
use Rattle.fx_expr.specs.declared.values.ValueList.{ValueList}
use Rattle.fx_expr.specs.Value.{type_of}
use Rattle.fx_expr.specs.declared.values.Ty.{Ty}
use Rattle.fx_expr.specs.Exp.{Exp}
use Rattle.fx_expr.specs.Typed.{HasType}
use Rattle.fx_expr.specs.ValueOf.{value_of}
use Rattle.fx_expr.specs.TypeLaws.{value_of-typed}
use Rattle.expr_check.specs.Sight.{Sight, sight_of}
use Rattle.program_check.specs.TypedBody.{AreTypedInOrder}
use Rattle.expr_check.specs.Names as declares
use Rattle.widget_keys.specs.declared.keys.Key.{Key}
use Rattle.widget_model.specs.declared.decl.Decl.{Decl}
use Rattle.widget_model.specs.declared.widgets.WidgetList.{WidgetList}
use Rattle.widget_model.specs.Update.{same_type}
use Rattle.widget_model.specs.WidgetType.{type_eq}
use Rattle.widget_model.specs.WidgetType.{type_of as type_of_look}
use Rattle.widget_model.specs.Look.{Look, component}
use Rattle.widget_model.specs.Plain.{PlainWidget, plain, Widgets, widgets_of, look_of}
use Rattle.widget_model.specs.Plain.{children_of as child_widgets}
use Rattle.widget_model.specs.Typed.{Sort, box, ComponentType, Declarations, AreTypedFields, AllAre, FitSlots, FitChildren, IsUse, sort_of, sorts_of, IsTypedWidget}
use borrow.Author.Tests.{eqb-true}
use Rattle.widget_model.specs.PlainLaws.{list_of-widgets_of}
use Rattle.program_check.specs.Checked.{PlainChecked, PlainCheckedComponent}
use Rattle.program_check.specs.ProgramCheck.{nothing_seen}
use Rattle.template_build.specs.Program.{declarations_of, declared_component, props_alone}
use Rattle.template_build.specs.Scene.{declaration_in, declaration_at}
use Rattle.template_build.specs.Suits.{MayBuild, MayBegin}
use Rattle.plain_tree.specs.PlainNode.{PlainNode, node, widget_of, fields_of}
use Rattle.build_form.specs.declared.roles.BuildRole.{BuildRole as RoleOfKind}
use Rattle.build_form.specs.declared.roles.BuildRole.TheVariants as role
use Rattle.build_form.specs.RoleView.{plain_role}
use Rattle.build_form.specs.Step.{Progress, gives}
use Rattle.build_form.specs.BuildRole.{BuildRole, composes, provides, keeps, lists, holds, build_role_of}
use Rattle.build_form.specs.Entering.{Blueprint, given_by, small_enough, first_fields}
use Rattle.build_form.specs.Program.{names_in}
use Rattle.build_form.specs.WellBuilt.{FitFields, FitBelow, IsWellBuilt}

-- a kind that composes is a use of a component
pub as_component : (look : Look) (place : ℕ) (props : List Value) → build_role_of look ≡ composes place props → (d : Decl) × (look ≡ component place props d)
as_component (component p v d) place props e = (d, cc)
as_component _ place props e = cc

-- what a list has at a place after a function
found_under : {A B : Type 0} (f : A → B) (o : Option A) (y : B) → option_map f o ≡ Some y → (x : A) × (o ≡ Some x) × (f x ≡ y)
found_under f None y e = cc
found_under f (Some x) y e = (x, refl, cc)

pub sorts_listed : (d : Declarations) (ws : List PlainWidget) → sorts_of d (widgets_of ws) ≡ map (sort_of d) ws
sorts_listed d [] = refl
sorts_listed d (w ∷ ws) = ap (λ l. sort_of d w ∷ l) (sorts_listed d ws)

module _ (c : PlainChecked) (k : Key Value) (slots children : List PlainWidget) (place : ℕ) (props : List Value) where
  -- the component of a use, as it was checked
  pub record Used : Type 0 where
    pub checked : PlainCheckedComponent
    pub found : slice_get c.components place ≡ Some checked
    pub known : slice_get (declarations_of c).components place ≡ Some (declared_component (length c.inherited.names) checked)
    pub typed : map type_of props ≡ declares.types_in checked.props
    pub filled : length slots ≡ length checked.slots
    pub boxes : AllAre box (map (sort_of (declarations_of c)) slots)

  pub used_by : (look : Look) → IsTypedWidget (declarations_of c) (plain look k (widgets_of slots) (widgets_of children)) → build_role_of look ≡ composes place props → Used
  used_by look t e =
      let is = as_component look place props e in
      let D = declarations_of c in
      let u : IsUse D place props is.0 (sorts_of D (widgets_of slots)) = subst (λ l. FitSlots D l (sorts_of D (widgets_of slots))) is.1 t.filled in
      let f = declared_component (length c.inherited.names) in
      let at = found_under f (slice_get c.components place) u.component (sym (slice_get-map f c.components place) ∙ u.named) in
      let sorts = sorts_listed D slots in
      record {
        checked = at.0;
        found = at.1;
        known = slice_get-map f c.components place ∙ ap (option_map f) at.1;
        typed = u.typed ∙ ap (λ (x : ComponentType). x.props) (sym at.2);
        filled = sym (length-map slots (sort_of D)) ∙ ap length (sym sorts) ∙ u.filled ∙ ap (λ (x : ComponentType). x.slots) (sym at.2);
        boxes = subst (AllAre box) sorts u.boxes;
      }

  module _ (look : Look) (t : IsTypedWidget (declarations_of c) (plain look k (widgets_of slots) (widgets_of children))) (e : build_role_of look ≡ composes place props) where
    pub may_begin : MayBegin c place (map type_of props)
    may_begin = let u = used_by look t e in record { component = u.checked; found = u.found; props = u.typed }

    pub may_build : (fields values : List Value) → FitFields (declarations_of c) (composes place props) fields → map type_of values ≡ (declarations_of c).inherited
        → MayBuild c place (names_in props fields values) slots
    may_build fields values fit inherited =
        let u = used_by look t e in
        let held : map type_of fields ≡ declares.types_in u.checked.fields.names = subst (λ o. AreTypedFields (declaration_in o) fields) u.known fit in
        record {
          component = u.checked;
          found = u.found;
          names = λ at. record { fields = held at; props = u.typed at; vars = []; inherited = inherited at };
          filled = u.filled;
          boxes = u.boxes;
        }

-- ---- kinds that aren't components

other_given : (b : Blueprint) (p : BuildRole) (values : List Value) (number : ℕ) (fields : List Value) (w : PlainWidget) (s : Progress)
    → ((place : ℕ) (props : List Value) → p ≡ composes place props → ⊥) → given_by b p values number fields w s ≡ gives (child_widgets w) s
other_given b (composes place props) values number fields w s not = absurd (not place props refl)
other_given b (provides name value) values number fields w s not = refl
other_given b (keeps kept) values number fields w s not = refl
other_given b (lists extent) values number fields w s not = refl
other_given b holds values number fields w s not = refl

pub children_given : (b : Blueprint) (look : Look) (k : Key Value) (slots : Widgets) (cs ds : List PlainWidget) (values : List Value) (number : ℕ) (fields : List Value)
    → ((place : ℕ) (props : List Value) → build_role_of look ≡ composes place props → ⊥) → ds ≡ cs
    → (s : Progress) → given_by b (build_role_of look) values number fields (plain look k slots (widgets_of cs)) s ≡ gives ds s
children_given b look k slots cs ds values number fields not same s =
    other_given b (build_role_of look) values number fields (plain look k slots (widgets_of cs)) s not
    ∙ ap (λ l. gives l s) (list_of-widgets_of cs ∙ sym same)

pub other_fits : (d : Declarations) (look : Look) (sorts : List Sort) → ((place : ℕ) (props : List Value) → build_role_of look ≡ composes place props → ⊥) → FitChildren look sorts
    → FitBelow d look (build_role_of look) sorts
other_fits d (component p v x) sorts not held = absurd (not p v refl)
other_fits d _ sorts not held = held

pub other_fields : (d : Declarations) (p : BuildRole) → ((place : ℕ) (props : List Value) → p ≡ composes place props → ⊥) → FitFields d p []
other_fields d (composes place props) not = absurd (not place props refl)
other_fields d (provides name value) not = refl
other_fields d (keeps kept) not = refl
other_fields d (lists extent) not = refl
other_fields d holds not = refl

pub other_first : (b : Blueprint) (p : BuildRole) → ((place : ℕ) (props : List Value) → p ≡ composes place props → ⊥) → [] ≡ first_fields b p
other_first b (composes place props) not = absurd (not place props refl)
other_first b (provides name value) not = refl
other_first b (keeps kept) not = refl
other_first b (lists extent) not = refl
other_first b holds not = refl

-- a kind that isn't a component, as the program tells it
pub not_composes : (r : RoleOfKind) → ((place : ℕ) (props : Bor ValueList) (slots : Bor WidgetList) → r ≡ role.Composes place props slots → ⊥)
    → (place : ℕ) (props : List Value) → plain_role r ≡ composes place props → ⊥
not_composes (role.Composes place props slots) not p v e = not place props slots refl
not_composes (role.Provides name value) not p v e = cc
not_composes (role.Keeps kept) not p v e = cc
not_composes (role.Lists extent) not p v e = cc
not_composes role.Holds not p v e = cc

-- a component's child widgets
pub composed : (b : Blueprint) (p : BuildRole) (look : Look) (k : Key Value) (slots ss : List PlainWidget) (cs : Widgets) (place : ℕ) (props values : List Value) (number : ℕ) (fields : List Value) (s : Progress)
    → composes place props ≡ p → ss ≡ slots
    → small_enough (b.output place props ss fields values number) s ≡ given_by b p values number fields (plain look k (widgets_of slots) cs) s
composed b p look k slots ss cs place props values number fields s is same =
    ap (λ l. small_enough (b.output place props l fields values number) s) (same ∙ sym (list_of-widgets_of slots))
    ∙ ap (λ q. given_by b q values number fields (plain look k (widgets_of slots) cs) s) is

-- ---- fields of a node that is kept

is_use : Look → Bool
is_use (component p v d) = true
is_use _ = false

used : (a : Look) → is_use a ≡ true → (p : ℕ) × (v : List Value) × (d : Decl) × (a ≡ component p v d)
unfolding is_use
used (component p v d) e = (p, v, d, refl)
used _ e = cc

to_bare : (d : Declarations) (a : Look) (fields : List Value) → is_use a ≡ false → FitFields d (build_role_of a) fields → fields ≡ []
unfolding is_use
to_bare d (component p v e) fields other h = cc
to_bare d _ fields other h = h

from_bare : (d : Declarations) (a : Look) (fields : List Value) → is_use a ≡ false → fields ≡ [] → FitFields d (build_role_of a) fields
unfolding is_use
from_bare d (component p v e) fields other h = cc
from_bare d _ fields other h = h

no_use : (a : Look) (q : ℕ) (v : List Value) (d : Decl) → is_use a ≡ false → type_eq (type_of_look a) (type_of_look (component q v d)) ≡ false
unfolding is_use
no_use (component p u e) q v d other = cc
no_use _ q v d other = refl

no_use_after : (b : Look) (q : ℕ) (v : List Value) (d : Decl) → is_use b ≡ false → type_eq (type_of_look (component q v d)) (type_of_look b) ≡ false
unfolding is_use
no_use_after (component p u e) q v d other = cc
no_use_after _ q v d other = refl

-- kinds of one type have fields alike
fit_alike : (d : Declarations) (a b : Look) (fields : List Value) (x y : Bool) → is_use a ≡ x → is_use b ≡ y → type_eq (type_of_look a) (type_of_look b) ≡ true
    → FitFields d (build_role_of a) fields → FitFields d (build_role_of b) fields
fit_alike d a b fields false false of_a of_b same h = from_bare d b fields of_b (to_bare d a fields of_a h)
fit_alike d a b fields false true of_a of_b same h =
    let u = used b of_b in
    let not = no_use a u.0 u.1 u.2 of_a in
    let here = ap (λ l. type_eq (type_of_look a) (type_of_look l)) u.3 in
    absurd (true≢false (sym same ∙ here ∙ not))
fit_alike d a b fields true false of_a of_b same h =
    let u = used a of_a in
    let not = no_use_after b u.0 u.1 u.2 of_b in
    let here = ap (λ l. type_eq (type_of_look l) (type_of_look b)) u.3 in
    absurd (true≢false (sym same ∙ here ∙ not))
fit_alike d a b fields true true of_a of_b same h =
    let u = used a of_a in
    let v = used b of_b in
    let at = subst (λ l. FitFields d (build_role_of l) fields) u.3 h in
    let here : eqb u.0 v.0 ≡ true = sym (ap (λ l. type_eq (type_of_look l) (type_of_look b)) u.3 ∙ ap (λ l. type_eq (type_of_look (component u.0 u.1 u.2)) (type_of_look l)) v.3) ∙ same in
    let moved = subst (λ q. AreTypedFields (declaration_at d q) fields) (eqb-true u.0 v.0 here) at in
    subst (λ l. FitFields d (build_role_of l) fields) (sym v.3) moved

-- nodes of one type have fields alike
pub kept_fit : (d : Declarations) (n : PlainNode) (w : PlainWidget) → IsWellBuilt d n → IsTrue (same_type (widget_of n) w) → FitFields d (build_role_of (look_of w)) (fields_of n)
kept_fit d (node number v fields scroll index children) w built same =
    fit_alike d (look_of v) (look_of w) fields (is_use (look_of v)) (is_use (look_of w)) refl refl same built.0.suited

-- ---- expressions that are typed in order

pub typed_at : (S : Sight) (ts : List Ty) (es : List Exp) (i : ℕ) (d : Exp) → i < length es → AreTypedInOrder S ts es → HasType S.types (get_or es i d)
typed_at S [] [] i d low h = absurd (omega arith)
typed_at S [] (e ∷ es) i d low h = absurd h
typed_at S (t ∷ ts) [] i d low h = absurd h
typed_at S (t ∷ ts) (e ∷ es) zero d low h = (t, h.0.0)
typed_at S (t ∷ ts) (e ∷ es) (suc i) d low h = typed_at S ts es i d (omega arith) h.1

pub values_typed : (ts : List Ty) (es : List Exp) → AreTypedInOrder (sight_of nothing_seen) ts es → map type_of (map (λ e. value_of e (props_alone [])) es) ≡ ts
values_typed [] [] h = refl
values_typed [] (e ∷ es) h = absurd h
values_typed (t ∷ ts) [] h = absurd h
values_typed (t ∷ ts) (e ∷ es) h =
    let here : type_of (value_of e (props_alone [])) ≡ t = value_of-typed e (props_alone []) t h.0.0 in
    let rest = values_typed ts es h.1 in
    λ at. here at ∷ rest at
