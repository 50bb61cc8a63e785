-- What is known of the child widgets of a widget that is opened where nothing stood, and where it can't be opened.
use Rattle.std.proofs.Common.{◌≡◌, ℕ, suc, ◌+◌, ◌≤◌, ◌<◌, nat_lt, nat_le, Bool, true, false, not, cond, ◌||◌, List, [], ◌∷◌, length, Option, Some, None, IsSome, refl, sym, ap, ◌∙◌, subst, arith}
use Rattle.std.proofs.lemmas.Bool.{le-leb, lt-leb}
use Rattle.std.specs.Option.{option_to_list}
use Rattle.fx_expr.specs.declared.values.Value.{Value}
use Rattle.fx_expr.specs.Value.{value_eq}
use Rattle.widget_keys.specs.declared.keys.Key.{Key}
use Rattle.widget_keys.specs.declared.keys.Key.TheVariants as key
use Rattle.widget_model.specs.Look.{Look, flexible, positioned, keep, inherit, component, sliver_lazy}
use Rattle.widget_model.specs.Plain.{PlainWidget, plain, Widgets, no_widgets, more, look_of, key_of, slots_of, list_of, widgets_of}
use Rattle.widget_model.specs.Plain.{children_of as child_widgets}
use Rattle.widget_model.specs.Size.{count_in}
use Rattle.widget_model.specs.Typed.{Sort, Declarations, FitChildren, sorts_of, IsTypedWidget, AreTypedWidgets}
use Rattle.plain_tree.specs.Projection.{first_told}
use Rattle.plain_tree.specs.RenderRole.{render_role_of, vanishes}
use Rattle.program_check.specs.Checked.{PlainChecked}
use Rattle.build_form.specs.BuildRole.{BuildRole, composes, provides, keeps, lists, holds, build_role_of}
use Rattle.build_form.specs.Entering.{Blueprint, met_once, given_by, small_enough, output_limit, apart, first_repeated, unless_repeated, first_fields}
use Rattle.build_form.specs.FullBuild.{basis}
use Rattle.build_form.specs.Partner.{arrival}
use Rattle.build_form.specs.Program.{blueprint_of}
use Rattle.build_form.specs.Step.{Fault, repeated_global_key, output_too_large, tree_too_large, Progress, stops, gives}
use Rattle.element_tree.specs.Element.{Element, made_count}
use Rattle.global_keys.specs.Holders.{Registry, recorded, was_met, is_met}
use Rattle.global_keys.specs.Named.{global_in}
use Rattle.node_tree.specs.Tree.{Tree}
use Rattle.render_tree.specs.Edits.{no_parent_data}
use Rattle.versioned_kinds.specs.Lists.{IsNoList, HasNoListBodies, WidgetHasNoLists}
use Rattle.versioned_kinds.specs.Widgets.{AllLooksMeet}
use Rattle.build_walk.specs.Counting.{builds_opening}
use Rattle.build_walk.specs.Keeping.{reopened}
use Rattle.build_walk.specs.Past.{Pasts}
use Rattle.build_owner.proofs.Gives.{none_built_so, one_built_so}
use Rattle.build_owner.proofs.Opens.{too_many, key_again, none_built, none_again}
use Rattle.first_builds.specs.Inflated.{progress_at, given_of}
use Rattle.first_builds.proofs.Opening.{new_built, new_too_large, new_not_apart}

-- ---- which steps give what

abbrev pub IsOther : PlainWidget → Type 0
IsOther w = (place : ℕ) (props : List Value) → build_role_of (look_of w) ≡ composes place props → ⊥

by_role : (b : Blueprint) (p : BuildRole) (values : List Value) (number : ℕ) (fields : List Value) (w : PlainWidget) (s : Progress) → ((place : ℕ) (props : List Value) → p ≡ composes place props → ⊥)
    → given_by b p values number fields w s ≡ gives (child_widgets w) s
by_role b (composes place props) values number fields w s not = absurd (not place props refl)
by_role b (provides name value) values number fields w s not = refl
by_role b (keeps kept) values number fields w s not = refl
by_role b (lists extent) values number fields w s not = refl
by_role b holds values number fields w s not = refl

-- a widget that isn't a component gives its children
pub other_given : (b : Blueprint) (values : List Value) (number : ℕ) (fields : List Value) (w : PlainWidget) (output : Option PlainWidget) → IsOther w → output ≡ None → (s : Progress)
    → given_by b (build_role_of (look_of w)) values number fields w s ≡ gives (given_of w output) s
other_given b values number fields w output not none s = by_role b (build_role_of (look_of w)) values number fields w s not ∙ ap (λ o. gives (given_of w o) s) (sym none)

pub other_stores : (w : PlainWidget) (output : Option PlainWidget) → IsOther w → (p : ℕ) (props : List Value) → build_role_of (look_of w) ≡ composes p props → option_to_list output ≡ given_of w output
other_stores w output not p props is = absurd (not p props is)

-- what a component stores is the one that its body gave
pub output_stored : (w : PlainWidget) (output : Option PlainWidget) → IsSome output → option_to_list output ≡ given_of w output
output_stored w None some = absurd (cc)
output_stored w (Some o) some = refl

pub output_one : (w : PlainWidget) (output : Option PlainWidget) → IsSome output → length (given_of w output) ≡ 1
output_one w None some = absurd (cc)
output_one w (Some o) some = refl

none_repeated : (k : Key Value) → first_repeated [] (k ∷ []) ≡ None
none_repeated key.None = refl
none_repeated (key.Local v) = refl
none_repeated (key.Global v) = refl

-- one widget is apart from all others
pub output_apart : (w : PlainWidget) (output : Option PlainWidget) → IsSome output → (s : Progress) → apart (given_of w output) s ≡ gives (given_of w output) s
output_apart w None some s = absurd (cc)
output_apart w (Some o) some s = ap (λ r. unless_repeated r (o ∷ []) s) (none_repeated (key_of o))

-- ---- how many

all_counted : (d : Declarations) (ws : Widgets) → length (list_of ws) ≡ length (sorts_of d ws)
all_counted d no_widgets = refl
all_counted d (more w ws) = ap suc (all_counted d ws)

one_fits : (look : Look) (sorts : List Sort) → ((place : ℕ) (props : List Value) → build_role_of look ≡ composes place props → ⊥) → vanishes (render_role_of look) ≡ true → FitChildren look sorts → length sorts ≡ 1
one_fits (flexible flex fit) sorts not hidden fits = ap length fits
one_fits (positioned left top right bottom width height) sorts not hidden fits = ap length fits
one_fits (keep kept) sorts not hidden fits = ap length fits
one_fits (inherit name value) sorts not hidden fits = fits
one_fits (component place props x) sorts not hidden fits = absurd (not place props refl)
one_fits _ sorts not hidden fits = cc

one_child : (d : Declarations) (w : PlainWidget) → IsOther w → vanishes (render_role_of (look_of w)) ≡ true → IsTypedWidget d w → length (child_widgets w) ≡ 1
one_child d (plain look k slots children) not hidden typed = all_counted d children ∙ one_fits look (sorts_of d children) not hidden typed.held

pub other_one : (d : Declarations) (w : PlainWidget) (output : Option PlainWidget) → IsOther w → output ≡ None → IsTypedWidget d w → vanishes (render_role_of (look_of w)) ≡ true → length (given_of w output) ≡ 1
other_one d w output not none typed hidden = ap (λ o. length (given_of w o)) none ∙ one_child d w not hidden typed

-- ---- what they are

all_typed : (d : Declarations) (ws : Widgets) → AreTypedWidgets d ws → AreTypedWidgets d (widgets_of (list_of ws))
all_typed d no_widgets typed = tt
all_typed d (more w ws) typed = (typed.0, all_typed d ws typed.1)

children_typed : (d : Declarations) (w : PlainWidget) → IsTypedWidget d w → AreTypedWidgets d (widgets_of (child_widgets w))
children_typed d (plain look k slots children) typed = all_typed d children typed.below

pub other_typed : (d : Declarations) (w : PlainWidget) (output : Option PlainWidget) → output ≡ None → IsTypedWidget d w → AreTypedWidgets d (widgets_of (given_of w output))
other_typed d w output none typed = subst (λ o. AreTypedWidgets d (widgets_of (given_of w o))) (sym none) (children_typed d w typed)

all_listless : (ws : Widgets) → AllLooksMeet IsNoList ws → AllLooksMeet IsNoList (widgets_of (list_of ws))
all_listless no_widgets none = tt
all_listless (more w ws) none = (none.0, all_listless ws none.1)

children_listless : (w : PlainWidget) → WidgetHasNoLists w → AllLooksMeet IsNoList (widgets_of (child_widgets w))
children_listless (plain look k slots children) none = all_listless children none.2

slots_listless : (w : PlainWidget) → WidgetHasNoLists w → AllLooksMeet IsNoList (widgets_of (slots_of w))
slots_listless (plain look k slots children) none = all_listless slots none.1

pub other_listless : (w : PlainWidget) (output : Option PlainWidget) → output ≡ None → WidgetHasNoLists w → AllLooksMeet IsNoList (widgets_of (given_of w output))
other_listless w output none listless = subst (λ o. AllLooksMeet IsNoList (widgets_of (given_of w o))) (sym none) (children_listless w listless)

small_by : (large : Bool) (vs ws : List PlainWidget) (s : Progress) → cond large (stops output_too_large) (gives vs s) ≡ gives ws s → vs ≡ ws
small_by true vs ws s is = cc
small_by false vs ws s is = cc

-- what a body gives has no lists
pub output_listless : (c : PlainChecked) (place number : ℕ) (props values fields : List Value) (w : PlainWidget) (ws : List PlainWidget)
    → (HasNoListBodies c → AllLooksMeet IsNoList (widgets_of (slots_of w)) → AllLooksMeet IsNoList (widgets_of ((blueprint_of c).output place props (slots_of w) fields values number)))
    → build_role_of (look_of w) ≡ composes place props → ((s : Progress) → given_by (blueprint_of c) (build_role_of (look_of w)) values number fields w s ≡ gives ws s) → HasNoListBodies c → WidgetHasNoLists w → AllLooksMeet IsNoList (widgets_of ws)
output_listless c place number props values fields w ws law role given bodies listless =
    let s : Progress = record { entered = 0; met = λ k. false; next = 0; waiting = [] } in
    let small : small_enough ((blueprint_of c).output place props (slots_of w) fields values number) s ≡ gives ws s = ap (λ r. given_by (blueprint_of c) r values number fields w s) (sym role) ∙ given s in
    let same = small_by (nat_lt output_limit (count_in ((blueprint_of c).output place props (slots_of w) fields values number))) ((blueprint_of c).output place props (slots_of w) fields values number) ws s small in
    subst (λ vs. AllLooksMeet IsNoList (widgets_of vs)) same (law bodies (slots_listless w listless))

-- ---- what is told right below a render node that isn't a lazy list

pub nothing_told : (look : Look) (place : ℕ) → IsNoList look → first_told (render_role_of look) place ≡ no_parent_data
nothing_told (sliver_lazy extent) place none = cc
nothing_told _ place none = refl

-- ---- whether it has a render node

pub hidden_so : (drawn hidden : Bool) → drawn ≡ not hidden → drawn ≡ false → hidden ≡ true
hidden_so drawn true is not_drawn = refl
hidden_so drawn false is not_drawn = let e : true ≡ false = sym is ∙ not_drawn in cc

pub shown_so : (drawn hidden : Bool) → drawn ≡ not hidden → drawn ≡ true → hidden ≡ false
shown_so drawn true is now_drawn = let e : false ≡ true = sym is ∙ now_drawn in cc
shown_so drawn false is now_drawn = refl

-- ---- where it can't be opened

pub full_so : (nodes limit entered : ℕ) → limit ≡ nodes → limit ≤ entered → nat_le nodes entered ≡ true
full_so nodes limit entered same full = le-leb nodes entered (omega (arith, same, full))

pub room_so : (nodes limit entered : ℕ) → limit ≡ nodes → entered < limit → nat_le nodes entered ≡ false
room_so nodes limit entered same room = lt-leb nodes entered (omega (arith, same, room))

first_met : (k : Key Value) (s : Progress) (g : Registry) → s.met ≡ (λ j. is_met g j) → ((v : Value) → global_in k ≡ Some v → recorded g v ≡ None) → (met : Progress) × (met_once k s ≡ gives tt met) × (met.next ≡ s.next)
first_met key.None s g same fresh = (s, refl, refl)
first_met (key.Local v) s g same fresh = (s, refl, refl)
first_met (key.Global v) s g same fresh =
    let after : Progress = record { entered = s.entered; met = λ j. value_eq v j || s.met j; next = s.next; waiting = s.waiting } in
    (after, ap (λ b. cond b (stops (repeated_global_key v)) (gives tt after)) (ap (λ m. m v) same ∙ ap was_met (fresh v refl)), refl)

module _ (b : Blueprint) (pasts : Pasts) (values : List Value) (w : PlainWidget) (place n : ℕ) (g : Registry) (t : Tree Element) where
  abbrev before : Progress
  before = progress_at n g t

  pub too_many_so : nat_le b.nodes n ≡ true → reopened (basis b None) pasts values (arrival w place None) before ≡ stops tree_too_large
  too_many_so full = too_many (basis b None) pasts values (arrival w place None) before full

  pub none_built_full : nat_le b.nodes n ≡ true → builds_opening (basis b None) pasts values (arrival w place None) before ≡ 0
  none_built_full full = none_built (basis b None) pasts values (arrival w place None) before full

  module _ (room : nat_le b.nodes n ≡ false) where
    pub key_again_so : (x : Fault) → ((s : Progress) → s.met ≡ (λ k. is_met g k) → met_once (key_of w) s ≡ stops x) → reopened (basis b None) pasts values (arrival w place None) before ≡ stops x
    key_again_so x again = key_again (basis b None) pasts values (arrival w place None) before x room (again before refl)

    pub none_built_again : (x : Fault) → ((s : Progress) → s.met ≡ (λ k. is_met g k) → met_once (key_of w) s ≡ stops x) → builds_opening (basis b None) pasts values (arrival w place None) before ≡ 0
    none_built_again x again = none_again (basis b None) pasts values (arrival w place None) before x room (again before refl)

    module _ (fresh : (k : Value) → global_in (key_of w) ≡ Some k → recorded g k ≡ None) where
      abbrev meets : (met : Progress) × (met_once (key_of w) before ≡ gives tt met) × (met.next ≡ made_count t + 1)
      meets = first_met (key_of w) before g refl fresh

      pub output_fails : (fields : List Value) → fields ≡ first_fields b (build_role_of (look_of w)) → (x : Fault)
          → ((u : Progress) → given_by b (build_role_of (look_of w)) values (made_count t + 1) fields w u ≡ stops x) → reopened (basis b None) pasts values (arrival w place None) before ≡ stops x
      output_fails fields firsts x fails = new_too_large b pasts values w place before meets.0 room meets.1 (made_count t + 1) fields (sym meets.2) firsts x fails

      pub siblings_fail : (fields : List Value) → fields ≡ first_fields b (build_role_of (look_of w)) → IsOther w → (x : Fault) → ((u : Progress) → apart (child_widgets w) u ≡ stops x)
          → reopened (basis b None) pasts values (arrival w place None) before ≡ stops x
      siblings_fail fields firsts not x fails =
          new_not_apart b pasts values w place before meets.0 room meets.1 (made_count t + 1) fields (sym meets.2) firsts (child_widgets w)
          (λ u. by_role b (build_role_of (look_of w)) values (made_count t + 1) fields w u not) x fails

      pub built_one : (p : ℕ) (props : List Value) → build_role_of (look_of w) ≡ composes p props → builds_opening (basis b None) pasts values (arrival w place None) before ≡ 1
      built_one p props role = new_built b pasts values w place before meets.0 room meets.1 ∙ one_built_so (look_of w) p props (sym role)

      pub built_none : IsOther w → builds_opening (basis b None) pasts values (arrival w place None) before ≡ 0
      built_none not = new_built b pasts values w place before meets.0 room meets.1 ∙ none_built_so (look_of w) not
