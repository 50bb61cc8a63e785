-- What is given to an element as its child widgets.
use Rattle.std.proofs.Common.{◌≡◌, ℕ, ◌+◌, ◌≤◌, ◌<◌, Result, Ok, Err, Option, Some, None, IfSome, List, [], ◌∷◌, map, length, get_or, refl, sym, ap, ◌∙◌, subst, arith}
use Rattle.std.specs.Option.{option_to_list}
use Rattle.std.specs.Result.{IfErr}
use Rattle.std.proofs.lemmas.List.{length-map}
use Rattle.std.specs.declared.alloc.Global.{Global}
use Rattle.std.specs.declared.rc.Rc.{Rc}
use Rattle.fx_expr.specs.declared.values.Value.{Value}
use Rattle.fx_expr.specs.declared.values.Ty.{Ty}
use Rattle.fx_expr.specs.Value.{type_of}
use Rattle.fx_handles.specs.declared.Handle.{Handle}
use Rattle.node_tree.specs.Tree.{Tree, IsNode}
use Rattle.widget_model.specs.declared.widgets.Widget.{Widget}
use Rattle.widget_model.specs.Look.{Look, component}
use Rattle.widget_model.specs.Plain.{PlainWidget, look_of, widgets_of, list_of}
use Rattle.widget_model.specs.Plain.{children_of as child_widgets}
use Rattle.widget_model.specs.PlainLaws.{list_of-widgets_of}
use Rattle.widget_model.specs.View.{shared}
use Rattle.widget_model.specs.Typed.{Declarations, AreTypedWidgets}
use Rattle.plain_tree.specs.PlainNode.{PlainNode}
use Rattle.build_form.specs.BuildRole.{BuildRole, composes, provides, keeps, lists, holds, build_role_of}
use Rattle.build_form.specs.declared.faults.FrameFault.{FrameFault}
use Rattle.build_form.specs.Entering.{Blueprint, given_by}
use Rattle.build_form.specs.FaultView.{fault_of}
use Rattle.build_form.specs.Step.{Fault, Progress, Step, gives}
use Rattle.element_tree.specs.Element.{Element}
use Rattle.work_sets.specs.Due.{names_read}
use Rattle.build_walk.specs.Counting.{built_here}
use Rattle.build_walk.specs.Keeping.{kept_or, kept_output}
use Rattle.build_walk.specs.Past.{Pasts}
use Rattle.build_owner.specs.Entry.{IsTypedElement}
use Rattle.build_owner.specs.Given.{Stores}
use Rattle.build_owner.proofs.KeptOutput.{reads_none}

-- inherited names have as many values in both frames
pub as_long : (types : List Ty) (was now : List Value) → map type_of was ≡ types → map type_of now ≡ types → length was ≡ length now
as_long types was now of_was of_now = sym (length-map was type_of) ∙ ap length (of_was ∙ sym of_now) ∙ length-map now type_of

pub still_live : (d : Declarations) (t : Tree Element) (at : Handle) (o : Option Handle) → IfSome o (λ h. (h ≡ at) × IsTypedElement d t h) → IfSome o (IsNode t)
still_live d t at None h = tt
still_live d t at (Some x) h = h.1.0

nothing_counted : (r : Option (List ℕ)) (ws : List PlainWidget) → built_here r (Some ws) ≡ 0
nothing_counted None ws = refl
nothing_counted (Some names) ws = refl

-- what is kept is given, and isn't built
pub kept_given : (o : Option (List PlainWidget)) (ws : List PlainWidget) (step : Progress → Step (List PlainWidget)) (s : Progress) → Some ws ≡ o → kept_or o step s ≡ gives ws s
kept_given o ws step s is = ap (λ k. kept_or k step s) (sym is)

pub kept_counted : (r : Option (List ℕ)) (o : Option (List PlainWidget)) (ws : List PlainWidget) (old new : ℕ) → Some ws ≡ o → new ≡ old → new ≡ old + built_here r o
kept_counted r o ws old new is same = let none : built_here r o ≡ 0 = ap (built_here r) (sym is) ∙ nothing_counted r ws in omega (arith, same, none)

-- what isn't is built
pub anew : (o : Option (List PlainWidget)) (step : Progress → Step (List PlainWidget)) (s : Progress) → None ≡ o → kept_or o step s ≡ step s
anew o step s is = ap (λ k. kept_or k step s) (sym is)

pub anew_counted : (r : Option (List ℕ)) (o : Option (List PlainWidget)) (old new : ℕ) → None ≡ o → new ≡ old + built_here r None → new ≡ old + built_here r o
anew_counted r o old new is counted = counted ∙ ap (λ k. old + built_here r k) is

-- ---- which kinds are built

pub none_built_so : (look : Look) → ((place : ℕ) (props : List Value) → build_role_of look ≡ composes place props → ⊥) → built_here (names_read look) None ≡ 0
none_built_so (component p v d) not = absurd (not p v refl)
none_built_so _ not = refl

pub none_read : (look : Look) → ((place : ℕ) (props : List Value) → build_role_of look ≡ composes place props → ⊥) → None ≡ names_read look
none_read (component p v d) not = absurd (not p v refl)
none_read _ not = refl

nothing_built : (o : Option (List PlainWidget)) → 0 ≡ built_here None o
nothing_built None = refl
nothing_built (Some ws) = refl

-- a widget of another kind gives its own, and isn't built
module _ (w : PlainWidget) (not : (place : ℕ) (props : List Value) → build_role_of (look_of w) ≡ composes place props → ⊥) where
  by_role : (b : Blueprint) (r : BuildRole) (values : List Value) (number : ℕ) (fields : List Value) (s : Progress) → ((place : ℕ) (props : List Value) → r ≡ composes place props → ⊥)
      → given_by b r values number fields w s ≡ gives (child_widgets w) s
  by_role b (composes place props) values number fields s other = absurd (other place props refl)
  by_role b (provides name value) values number fields s other = refl
  by_role b (keeps keep) values number fields s other = refl
  by_role b (lists extent) values number fields s other = refl
  by_role b holds values number fields s other = refl

  pub own_given : (b : Blueprint) (pasts : Pasts) (partner : Option PlainNode) (values : List Value) (number : ℕ) (fields : List Value) (s : Progress)
      → kept_or (kept_output pasts partner w values) (given_by b (build_role_of (look_of w)) values number fields w) s ≡ gives (child_widgets w) s
  own_given b pasts partner values number fields s =
      ap (λ k. kept_or k (given_by b (build_role_of (look_of w)) values number fields w) s) (reads_none pasts partner w values (sym (none_read (look_of w) not)))
      ∙ by_role b (build_role_of (look_of w)) values number fields s not

  pub own_counted : (pasts : Pasts) (partner : Option PlainNode) (values : List Value) (old : ℕ) → old ≡ old + built_here (names_read (look_of w)) (kept_output pasts partner w values)
  own_counted pasts partner values old =
      let none : 0 ≡ built_here (names_read (look_of w)) (kept_output pasts partner w values) =
      nothing_built (kept_output pasts partner w values) ∙ ap (λ r. built_here r (kept_output pasts partner w values)) (none_read (look_of w) not) in
      omega (arith, none)

  pub own_few : (ws : List PlainWidget) (place : ℕ) (props : List Value) → build_role_of (look_of w) ≡ composes place props → length ws ≤ 1
  own_few ws place props e = absurd (not place props e)

pub own_typed : (d : Declarations) (ws : List PlainWidget) → AreTypedWidgets d (widgets_of ws) → AreTypedWidgets d (widgets_of (list_of (widgets_of ws)))
own_typed d ws typed = subst (λ l. AreTypedWidgets d (widgets_of l)) (sym (list_of-widgets_of ws)) typed

pub one_built_so : (look : Look) (place : ℕ) (props : List Value) → composes place props ≡ build_role_of look → built_here (names_read look) None ≡ 1
one_built_so (component p v d) place props is = refl
one_built_so _ place props is = cc

pub any_fault : {A : Type 0} (P : Type 0) (r : Result A FrameFault) → P → IfErr r (λ f. IfSome (fault_of f) (λ g. P))
any_fault P (Ok a) h = tt
any_fault P (Err e) h = some_any P (fault_of e) h
  where
    some_any : (Q : Type 0) (o : Option Fault) → Q → IfSome o (λ g. Q)
    some_any Q None q = tt
    some_any Q (Some x) q = q

-- ---- what is stored of it

pub stores_other : (r : BuildRole) (o : Option PlainWidget) (ws : List PlainWidget) → ((place : ℕ) (props : List Value) → r ≡ composes place props → ⊥) → Stores r o ws
stores_other (composes place props) o ws not = absurd (not place props refl)
stores_other (provides name value) o ws not = tt
stores_other (keeps keep) o ws not = tt
stores_other (lists extent) o ws not = tt
stores_other holds o ws not = tt

stores_same : (r : BuildRole) (o : Option PlainWidget) (ws : List PlainWidget) → option_to_list o ≡ ws → Stores r o ws
stores_same (composes place props) o ws is = is
stores_same (provides name value) o ws is = tt
stores_same (keeps keep) o ws is = tt
stores_same (lists extent) o ws is = tt
stores_same holds o ws is = tt

empty : (xs : List (Rc Widget Global)) → length xs ≡ 0 → [] ≡ map shared xs
empty [] e = refl
empty (x ∷ xs) e = absurd (omega (arith, e))

pub stores_none : (r : BuildRole) (xs : List (Rc Widget Global)) → length xs ≡ 0 → Stores r None (map shared xs)
stores_none r xs e = stores_same r None (map shared xs) (empty xs e)

alone : (xs : List (Rc Widget Global)) (x z : Rc Widget Global) → length xs ≤ 1 → 0 < length xs → shared x ≡ shared z → z ≡ get_or xs 0 z → shared x ∷ [] ≡ map shared xs
alone [] x z few some same at = absurd (omega (arith, some))
alone (y ∷ []) x z few some same at = ap (λ w. w ∷ []) (same ∙ ap shared at)
alone (y ∷ v ∷ xs) x z few some same at = absurd (omega (arith, few))

pub stores_one : (r : BuildRole) (xs : List (Rc Widget Global)) (x z : Rc Widget Global) → length xs ≤ 1 → 0 < length xs → shared x ≡ shared z → z ≡ get_or xs 0 z
    → Stores r (Some (shared x)) (map shared xs)
stores_one r xs x z few some same at = stores_same r (Some (shared x)) (map shared xs) (alone xs x z few some same at)

-- ---- the number that is read

pub some_number : (m n : ℕ) → Some m ≡ Some n → m ≡ n
some_number m n e = cc
