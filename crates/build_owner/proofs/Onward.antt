-- What a walk asks holds on where elements are added and keys are met.
use Rattle.std.proofs.Common.{◌≡◌, ℕ, ◌+◌, ◌≤◌, false, Option, Some, None, IsSome, IfSome, option_map, List, refl, sym, ap, ◌∙◌, subst, inl, inr, arith}
use Rattle.fx_handles.specs.declared.Handle.{Handle}
use Rattle.fx_handles.specs.HandleLaws.{cases_same}
use Rattle.fx_expr.specs.declared.values.Value.{Value}
use Rattle.node_tree.specs.Children.{Keeps}
use Rattle.node_tree.specs.Edits.{Adds, KeepsOtherValues}
use Rattle.node_tree.specs.Tree.{Tree, IsNode, IsTree, Holds}
use Rattle.widget_model.specs.Plain.{PlainWidget, plain, look_of}
use Rattle.widget_model.specs.Typed.{Declarations, IsTypedWidget}
use Rattle.build_form.proofs.Filled.{fits_names}
use Rattle.build_form.specs.BuildRole.{build_role_of}
use Rattle.build_form.specs.Filling.{FitsNames}
use Rattle.build_form.specs.Numbered.{IsInPlace}
use Rattle.build_form.specs.WellBuilt.{IsWellBuilt}
use Rattle.element_tree.specs.Element.{Element, element_at, made_count}
use Rattle.global_keys.specs.Holders.{Registry, recorded, is_met, holder_of}
use Rattle.render_tree.specs.Object.{RenderObject}
use Rattle.build_walk.specs.Kept.{plain_at}
use Rattle.build_owner.specs.Climbing.{AreAllFitting}
use Rattle.build_owner.specs.Entry.{IsTypedElement}
use Rattle.build_owner.specs.LastFrame.{LastFrame, IsSince}
use Rattle.build_owner.specs.Ready.{AreTypedOutputs, AreReady}
use Rattle.build_owner.proofs.Claims.{Meets}
use Rattle.build_owner.proofs.Elements.{HoldsLaw, added_stored}

-- the plain node of an element is the same where elements are added, as a law says it
abbrev pub StaysLaw : Type 0
StaysLaw = (scrolled : ℕ → ℕ) (t u : Tree Element) (h : Handle) → Keeps t u → Holds t h → plain_at scrolled u h ≡ plain_at scrolled t h

pub live_on : (t u : Tree Element) (h : Handle) → Keeps t u → IsNode t h → IsNode u h
live_on t u h keeps live = subst IsSome (sym (keeps h live)) live

-- an element that is typed stays so
pub typed_keeps : (stays : StaysLaw) (holds : HoldsLaw) (d : Declarations) (t u : Tree Element) (h : Handle) → IsTree t → Keeps t u → IsTypedElement d t h → IsTypedElement d u h
typed_keeps stays holds d t u h tree keeps typed =
    let same = sym (stays (λ _. 0) t u h keeps (holds t h tree typed.0)) in
    (live_on t u h keeps typed.0, subst (λ o. IfSome o (IsWellBuilt d)) same typed.1, subst (λ o. IfSome o IsInPlace) same typed.2)

if_typed : (P Q : Handle → Type 0) → ((h : Handle) → P h → Q h) → (o : Option Handle) → IfSome o P → IfSome o Q
if_typed P Q f None h = tt
if_typed P Q f (Some x) h = f x h

pub may_keep : (stays : StaysLaw) (holds : HoldsLaw) (d : Declarations) (t u : Tree Element) (o : Option Handle) → IsTree t → Keeps t u → IfSome o (IsTypedElement d t) → IfSome o (IsTypedElement d u)
may_keep stays holds d t u o tree keeps h = if_typed (IsTypedElement d t) (IsTypedElement d u) (λ k. typed_keeps stays holds d t u k tree keeps) o h

-- ---- a new element

module _ (d : Declarations) (old new : Tree Element) (h : Handle) (e : Element) (adds : Adds old.nodes new.nodes None 0 h e) (others : KeepsOtherValues old new h) where
  pub new_fitting : IsTypedWidget d e.widget → AreAllFitting d.inherited old → AreAllFitting d.inherited new
  new_fitting typed fitting k x is =
      elim (cases_same k h) [
        | inl same ↦ let now : x ≡ e = some_same (sym is ∙ ap (element_at new) same ∙ added_stored old new h e adds) in subst (λ y. FitsNames d.inherited (build_role_of (look_of y.widget))) (sym now) (of_widget e.widget typed)
        | inr other ↦ fitting k x (sym (others k other) ∙ is)
      ]
    where
      some_same : {A : Type 0} {y z : A} → Some y ≡ Some z → y ≡ z
      some_same eq = cc

      of_widget : (w : PlainWidget) → IsTypedWidget d w → FitsNames d.inherited (build_role_of (look_of w))
      of_widget (plain look k slots children) t = fits_names d look k slots children d.inherited t refl

  pub new_outputs : e.output ≡ None → AreTypedOutputs d old → AreTypedOutputs d new
  new_outputs bare outputs k x is clean place props role =
      elim (cases_same k h) [
        | inl same ↦ let now : x ≡ e = some_same (sym is ∙ ap (element_at new) same ∙ added_stored old new h e adds) in subst (λ o. IfSome o (IsTypedWidget d)) (sym (ap (λ y. y.output) now ∙ bare)) tt
        | inr other ↦ outputs k x (sym (others k other) ∙ is) clean place props role
      ]
    where
      some_same : {A : Type 0} {y z : A} → Some y ≡ Some z → y ≡ z
      some_same eq = cc

-- ---- keys that were met

-- what is recorded of the keys that weren't met is as before
pub record StaysUnmet (old new : Registry) : Type 0 where
  pub unmet : (v : Value) → is_met new v ≡ false → is_met old v ≡ false
  pub others : (v : Value) → is_met new v ≡ false → recorded new v ≡ recorded old v

pub no_key : (g : Registry) → StaysUnmet g g
no_key g = record { unmet = λ v e. e; others = λ v e. refl }

pub one_key : (key : Value) (old new : Registry) → Meets key old new → StaysUnmet old new
one_key key old new m = record { unmet = m.unmet; others = m.others }

same_holder : (old new : Registry) (v : Value) → recorded new v ≡ recorded old v → holder_of new v ≡ holder_of old v
same_holder old new v e = ap (option_map (λ x. x.node)) e

module _ (old new : Tree Element) (keeps : Keeps old new) (g s : Registry) (unmet : StaysUnmet g s) where
  pub holders_on : (stays : StaysLaw) (holds : HoldsLaw) (d : Declarations) → IsTree old → ((v : Value) → is_met g v ≡ false → IfSome (holder_of g v) (IsTypedElement d old))
      → (v : Value) → is_met s v ≡ false → IfSome (holder_of s v) (IsTypedElement d new)
  holders_on stays holds d tree typed v not =
      subst (λ o. IfSome o (IsTypedElement d new)) (sym (same_holder g s v (unmet.others v not))) (may_keep stays holds d old new (holder_of g v) tree keeps (typed v (unmet.unmet v not)))

  pub since_on : (defaults : List Value) (f : LastFrame) (r : Tree RenderObject) → ((t : Tree Element) → Keeps t old → Keeps t new) → made_count old ≤ made_count new
      → IsSince defaults f old r g → IsSince defaults f new r s
  since_on defaults f r again more since = record {
    tree = since.tree;
    old = since.old;
    named = since.named;
    elements = again f.elements since.elements;
    renders = since.renders;
    holders = λ v not. same_holder g s v (unmet.others v not) ∙ since.holders v (unmet.unmet v not);
    fresh = λ n low. since.fresh n (omega (arith, more, low));
  }

-- the same at once, where a new element was added, and where none was
pub ready_more : (stays : StaysLaw) (holds : HoldsLaw) (d : Declarations) (old new : Tree Element) (h : Handle) (e : Element) (g s : Registry) → IsTree old → Keeps old new
    → Adds old.nodes new.nodes None 0 h e → KeepsOtherValues old new h → IsTypedWidget d e.widget → e.output ≡ None → StaysUnmet g s → AreReady d old g → AreReady d new s
ready_more stays holds d old new h e g s tree keeps adds others typed bare unmet ready = record {
  holders = holders_on old new keeps g s unmet stays holds d tree ready.holders;
  fitting = new_fitting d old new h e adds others typed ready.fitting;
  outputs = new_outputs d old new h e adds others bare ready.outputs;
}

pub ready_still : (stays : StaysLaw) (holds : HoldsLaw) (d : Declarations) (t : Tree Element) (g s : Registry) → IsTree t → StaysUnmet g s → AreReady d t g → AreReady d t s
ready_still stays holds d t g s tree unmet ready = record {
  holders = holders_on t t (λ k live. refl) g s unmet stays holds d tree ready.holders;
  fitting = ready.fitting;
  outputs = ready.outputs;
}

pub since_more : (old new : Tree Element) (h : Handle) (e : Element) (g s : Registry) (defaults : List Value) (f : LastFrame) (r : Tree RenderObject) → Adds old.nodes new.nodes None 0 h e
    → ((a b c : Tree Element) → Keeps a b → Keeps b c → Keeps a c) → Keeps old new → StaysUnmet g s → IsSince defaults f old r g → IsSince defaults f new r s
since_more old new h e g s defaults f r adds again keeps unmet since =
    let more : made_count new ≡ made_count old + 1 = adds.inserted in
    since_on old new keeps g s unmet defaults f r (λ t k. again t old new k keeps) (omega (arith, more)) since

pub since_still : (t : Tree Element) (g s : Registry) (defaults : List Value) (f : LastFrame) (r : Tree RenderObject) → StaysUnmet g s → IsSince defaults f t r g → IsSince defaults f t r s
since_still t g s defaults f r unmet since = since_on t t (λ k live. refl) g s unmet defaults f r (λ u k. k) (omega arith) since

pub few_more : (used retired after left n : ℕ) → after ≡ used + 1 → left ≡ retired → n ≡ used + retired → after + left ≤ n + 1
few_more used retired after left n a b c = omega (arith, a, b, c)
