-- Elements that were entered are recorded for their global keys.
use Rattle.std.proofs.Common.{◌≡◌, Bool, true, false, cond, ◌||◌, Option, Some, None, IfSome, option_map, List, [], ◌∷◌, ◌++◌, refl, sym, ap, ◌∙◌, subst}
use Rattle.std.specs.List.{All}
use Rattle.std.proofs.lemmas.List.{map-append}
use Rattle.std.proofs.lemmas.List.Elements.{All-cons, All-head, All-tail, All-weaker, All-push}
use Rattle.fx_expr.specs.declared.values.Value.{Value}
use Rattle.fx_expr.specs.Value.{value_eq}
use Rattle.fx_expr.specs.ValueLaws.{value_eq-Decides}
use Rattle.fx_handles.specs.declared.Handle.{Handle}
use Rattle.node_tree.specs.Children.{Keeps}
use Rattle.node_tree.specs.Edits.{Adds}
use Rattle.node_tree.specs.Plan.{PlanEntry, planned}
use Rattle.node_tree.specs.Tree.{Tree, IsNode}
use Rattle.element_tree.specs.Element.{Element, element_at}
use Rattle.element_tree.specs.Renewal.{Renewal}
use Rattle.global_keys.specs.Claims.{claimed_by}
use Rattle.global_keys.specs.declared.registry.Claim.TheVariants.{Fresh, Taken}
use Rattle.global_keys.specs.declared.registry.Holder.{Holder}
use Rattle.global_keys.specs.Holders.{Registry, recorded, was_met, is_met, holder_of, new_holder}
use Rattle.global_keys.specs.Named.{global_in, global_of, global_at}
use Rattle.widget_model.specs.Plain.{PlainWidget, key_of}
use Rattle.widget_model.specs.Typed.{Declarations}
use Rattle.widget_model.specs.Update.{CanUpdate}
use Rattle.build_owner.specs.Naming.{HoldsItsKey, AreHeld}
use Rattle.build_owner.specs.Ready.{IsMatched}
use Rattle.build_owner.proofs.Children.{live_element}
use Rattle.build_owner.proofs.Claims.{Meets, IsTaken, unchanged, both_ways}
use Rattle.build_owner.proofs.Elements.{with_key, live_stored, still_stored, added_stored}
use Rattle.build_owner.proofs.Onward.{live_on}

some_same : {A : Type 0} {x y : A} → Some x ≡ Some y → x ≡ y
some_same e = cc

not_both : {b : Bool} → b ≡ true → b ≡ false → ⊥
not_both x y = cc

-- an element without a global key
pub no_key_held : (g : Registry) (t : Tree Element) (h : Handle) → IsNode t h → global_at t h ≡ None → HoldsItsKey g t h
no_key_held g t h live none = record {
  live = live;
  named = λ k is. absurd (no_some k (sym none ∙ is));
  met = λ k is. absurd (no_some k (sym none ∙ is));
}
  where
    no_some : (k : Value) → None ≡ Some k → ⊥
    no_some k e = cc

-- ---- elements are added, and what is recorded of the keys that were met stays

module _ (old new : Tree Element) (keeps : Keeps old new) where
  key_kept : (h : Handle) → IsNode old h → global_at new h ≡ global_at old h
  key_kept h live = ap global_of (still_stored old new h keeps live)

  key_stays : (k : Value) (h : Handle) → global_at old h ≡ Some k → global_at new h ≡ Some k
  key_stays k h is = let had = with_key k (element_at old h) is in key_kept h (live_stored old h had.0 had.1) ∙ is

  module _ (g s : Registry) (stays : (k : Value) → is_met g k ≡ true → recorded s k ≡ recorded g k) where
    held_on : (h : Handle) → HoldsItsKey g old h → HoldsItsKey s new h
    held_on h held = record {
      live = live_on old new h keeps held.live;
      named = λ k is. let was = sym (key_kept h held.live) ∙ is in ap (option_map (λ (x : Holder). x.node)) (stays k (held.met k was)) ∙ held.named k was;
      met = λ k is. let was = sym (key_kept h held.live) ∙ is in ap was_met (stays k (held.met k was)) ∙ held.met k was;
    }

    held_more : (hs : List Handle) (h : Handle) → ((k : Value) (x : Handle) → holder_of s k ≡ Some x → global_at new x ≡ Some k) → HoldsItsKey s new h → AreHeld g old hs → AreHeld s new (h ∷ hs)
    held_more hs h to_element one before = record {
      to_element = to_element;
      held = All-cons (HoldsItsKey s new) h hs one (All-weaker (HoldsItsKey g old) (HoldsItsKey s new) held_on hs before.held);
    }

-- ---- a widget without a global key

-- it goes on from the element to which it is matched
pub held_beside : (d : Declarations) (t : Tree Element) (g : Registry) (w : PlainWidget) (beside : Option Handle) (h : Handle) (hs : List Handle) → beside ≡ Some h → IfSome beside (IsMatched d t w)
    → global_in (key_of w) ≡ None → AreHeld g t hs → AreHeld g t (h ∷ hs)
held_beside d t g w beside h hs is matched none before =
    let m = subst (λ o. IfSome o (IsMatched d t w)) is matched in
    let e = live_element t h m.typed.0 in
    let updates : CanUpdate e.0.widget w = subst (λ o. IfSome o (λ x. CanUpdate x w)) (ap (option_map (λ (x : Element). x.widget)) e.1) m.updates in
    held_more t t (λ k live. refl) g g (λ k met. refl) hs h before.to_element (no_key_held g t h m.typed.0 (ap global_of e.1 ∙ ap global_in updates.key ∙ none)) before

-- it has a new element
module _ (old new : Tree Element) (keeps : Keeps old new) (at : Handle) (e : Element) (adds : Adds old.nodes new.nodes None 0 at e) where
  new_live : IsNode new at
  new_live = live_stored new at e (added_stored old new at e adds)

  new_key : global_at new at ≡ global_in (key_of e.widget)
  new_key = ap global_of (added_stored old new at e adds)

  pub held_new : (g : Registry) (hs : List Handle) → global_in (key_of e.widget) ≡ None → AreHeld g old hs → AreHeld g new (at ∷ hs)
  held_new g hs none before =
      held_more old new keeps g g (λ k met. refl) hs at (λ k x is. key_stays old new keeps k x (before.to_element k x is)) (no_key_held g new at new_live (new_key ∙ none)) before

  -- ---- its global key is fresh
  module _ (g mid s : Registry) (key : Value) (unmet : is_met g key ≡ false)
      (first : (v : Value) → recorded mid v ≡ cond (value_eq v key) (option_map (claimed_by Fresh) (recorded g v)) (recorded g v))
      (then : (v : Value) → recorded s v ≡ cond (value_eq v key) (Some (new_holder at)) (recorded mid v)) where
    found_same : (v : Value) → recorded mid v ≡ recorded g v
    found_same v = first v ∙ both_ways (value_eq v key) (recorded g v) _ (unchanged (recorded g v))

    fresh_other : (v : Value) → value_eq v key ≡ false → recorded s v ≡ recorded g v
    fresh_other v e = then v ∙ ap (λ b. cond b (Some (new_holder at)) (recorded mid v)) e ∙ found_same v

    fresh_here : (v : Value) → value_eq v key ≡ true → recorded s v ≡ Some (new_holder at)
    fresh_here v e = then v ∙ ap (λ b. cond b (Some (new_holder at)) (recorded mid v)) e

    fresh_stays : (v : Value) → is_met g v ≡ true → recorded s v ≡ recorded g v
    fresh_stays v met = by_test (value_eq v key) refl
      where
        by_test : (b : Bool) → value_eq v key ≡ b → recorded s v ≡ recorded g v
        by_test false e = fresh_other v e
        by_test true e = absurd (not_both (sym (ap (is_met g) ((value_eq-Decides v key).0 e)) ∙ met) unmet)

    fresh_to_element : (hs : List Handle) → global_in (key_of e.widget) ≡ Some key → AreHeld g old hs → (v : Value) (x : Handle) → holder_of s v ≡ Some x → global_at new x ≡ Some v
    fresh_to_element hs global before v x is = by_test (value_eq v key) refl
      where
        by_test : (b : Bool) → value_eq v key ≡ b → global_at new x ≡ Some v
        by_test false f = key_stays old new keeps v x (before.to_element v x (ap (option_map (λ (y : Holder). y.node)) (sym (fresh_other v f)) ∙ is))
        by_test true f =
            let here : at ≡ x = some_same (sym (ap (option_map (λ (y : Holder). y.node)) (fresh_here v f)) ∙ is) in
            ap (global_at new) (sym here) ∙ new_key ∙ global ∙ ap Some (sym ((value_eq-Decides v key).0 f))

    pub held_fresh : (hs : List Handle) → global_in (key_of e.widget) ≡ Some key → AreHeld g old hs → AreHeld s new (at ∷ hs)
    held_fresh hs global before =
        let one : recorded s key ≡ Some (new_holder at) = fresh_here key ((value_eq-Decides key key).1 refl) in
        held_more old new keeps g s fresh_stays hs at (fresh_to_element hs global before)
        (record {
          live = new_live;
          named = λ k is. let same : key ≡ k = some_same (sym global ∙ sym new_key ∙ is) in ap (holder_of s) (sym same) ∙ ap (option_map (λ (y : Holder). y.node)) one;
          met = λ k is. let same : key ≡ k = some_same (sym global ∙ sym new_key ∙ is) in ap (is_met s) (sym same) ∙ ap was_met one;
        })
        before

-- ---- its element had its global key
module _ (t : Tree Element) (g s : Registry) (key : Value) (w : PlainWidget) (h : Handle) (taken : IsTaken t w h (recorded g key)) (meets : Meets key g s)
    (is : (v : Value) → recorded s v ≡ cond (value_eq v key) (option_map (claimed_by (Taken h)) (recorded g v)) (recorded g v)) where
  taken_stays : (v : Value) → is_met g v ≡ true → recorded s v ≡ recorded g v
  taken_stays v met = by_test (value_eq v key) refl
    where
      by_test : (b : Bool) → value_eq v key ≡ b → recorded s v ≡ recorded g v
      by_test false e = is v ∙ ap (λ b. cond b (option_map (claimed_by (Taken h)) (recorded g v)) (recorded g v)) e
      by_test true e = absurd (not_both (sym (ap (is_met g) ((value_eq-Decides v key).0 e)) ∙ met) taken.unmet)

  taken_holder : (v : Value) → holder_of s v ≡ holder_of g v
  taken_holder v = ap (option_map (λ (y : Holder). y.node)) (is v) ∙ by_test (value_eq v key) (recorded g v)
    where
      by_test : (b : Bool) (o : Option Holder) → option_map (λ (y : Holder). y.node) (cond b (option_map (claimed_by (Taken h)) o) o) ≡ option_map (λ (y : Holder). y.node) o
      by_test false o = refl
      by_test true None = refl
      by_test true (Some y) = refl

  pub held_taken : (hs : List Handle) → IsNode t h → AreHeld g t hs → AreHeld s t (h ∷ hs)
  held_taken hs live before =
      let has : global_at t h ≡ Some key = before.to_element key h taken.named in
      let met : is_met s key ≡ true = sym (meets.met key) ∙ ap (λ b. b || is_met g key) ((value_eq-Decides key key).1 refl) in
      held_more t t (λ k x. refl) g s taken_stays hs h (λ k x named. before.to_element k x (sym (taken_holder k) ∙ named))
      (record {
        live = live;
        named = λ k at. let same : key ≡ k = some_same (sym has ∙ at) in ap (holder_of s) (sym same) ∙ taken_holder key ∙ taken.named;
        met = λ k at. let same : key ≡ k = some_same (sym has ∙ at) in ap (is_met s) (sym same) ∙ met;
      })
      before

-- ---- plans

-- an element is planned that was entered before those that are planned already
pub held_planned : (g : Registry) (t : Tree Element) (hs : List Handle) (before after : List (PlanEntry Renewal)) (e : PlanEntry Renewal) → after ≡ before ++ e ∷ []
    → AreHeld g t (e.at ∷ (hs ++ planned before)) → AreHeld g t (hs ++ planned after)
held_planned g t hs before after e is held = record {
  to_element = held.to_element;
  held = subst (λ es. All (HoldsItsKey g t) (hs ++ planned es)) (sym is) (subst (λ ps. All (HoldsItsKey g t) (hs ++ ps)) (sym (map-append (λ (x : PlanEntry Renewal). x.at) before (e ∷ [])))
      (moved hs (All-head (HoldsItsKey g t) e.at (hs ++ planned before) held.held) (All-tail (HoldsItsKey g t) e.at (hs ++ planned before) held.held)));
}
  where
    moved : (xs : List Handle) → HoldsItsKey g t e.at → All (HoldsItsKey g t) (xs ++ planned before) → All (HoldsItsKey g t) (xs ++ (planned before ++ e.at ∷ []))
    moved [] one all = All-push (HoldsItsKey g t) (planned before) e.at all one
    moved (x ∷ xs) one all =
        All-cons (HoldsItsKey g t) x (xs ++ (planned before ++ e.at ∷ [])) (All-head (HoldsItsKey g t) x (xs ++ planned before) all) (moved xs one (All-tail (HoldsItsKey g t) x (xs ++ planned before) all))
