-- What a claim of a global key tells, and what the registry records after it.
use Rattle.std.proofs.Common.{◌≡◌, Bool, true, false, cond, ◌||◌, Option, Some, None, option_map, Decides, refl, sym, ap, ◌∙◌}
use Rattle.fx_handles.specs.declared.Handle.{Handle}
use Rattle.fx_expr.specs.declared.values.Value.{Value}
use Rattle.fx_expr.specs.Value.{value_eq}
use Rattle.fx_expr.specs.ValueLaws.{value_eq-Decides}
use Rattle.node_tree.specs.Tree.{Tree}
use Rattle.widget_model.specs.Plain.{PlainWidget}
use Rattle.element_tree.specs.Element.{Element, element_at}
use Rattle.global_keys.specs.Claims.{is_of_type, claim_of, claimed_by}
use Rattle.global_keys.specs.declared.registry.Claim.TheVariants.{Fresh, Taken, Repeated}
use Rattle.global_keys.specs.declared.registry.Holder.{Holder}
use Rattle.global_keys.specs.Holders.{Registry, recorded, was_met, is_met, new_holder, holder_of}

-- ---- what a claim tells

pub record IsTaken (t : Tree Element) (w : PlainWidget) (h : Handle) (x : Option Holder) : Type 0 where
  pub named : option_map (λ (y : Holder). y.node) x ≡ Some h
  pub unmet : was_met x ≡ false
  pub type : is_of_type (element_at t h) w ≡ true

taken_by : (t : Tree Element) (w : PlainWidget) (h : Handle) (y : Holder) (was same : Bool) → y.met ≡ was → is_of_type (element_at t y.node) w ≡ same
    → cond was Repeated (cond same (Taken y.node) Fresh) ≡ Taken h → IsTaken t w h (Some y)
taken_by t w h y true same e f is = cc
taken_by t w h y false false e f is = cc
taken_by t w h y false true e f is =
    let at : y.node ≡ h = cc in
    record { named = ap Some at; unmet = e; type = ap (λ k. is_of_type (element_at t k) w) (sym at) ∙ f }

pub taken : (t : Tree Element) (x : Option Holder) (w : PlainWidget) (h : Handle) → Taken h ≡ claim_of t x w → IsTaken t w h x
taken t None w h is = cc
taken t (Some y) w h is = taken_by t w h y y.met (is_of_type (element_at t y.node) w) refl refl (sym is)

pub record IsFresh (t : Tree Element) (w : PlainWidget) (x : Option Holder) : Type 0 where
  pub unmet : was_met x ≡ false
  pub other : (h : Handle) → option_map (λ (y : Holder). y.node) x ≡ Some h → is_of_type (element_at t h) w ≡ false

fresh_by : (t : Tree Element) (w : PlainWidget) (y : Holder) (was same : Bool) → y.met ≡ was → is_of_type (element_at t y.node) w ≡ same
    → cond was Repeated (cond same (Taken y.node) Fresh) ≡ Fresh → IsFresh t w (Some y)
fresh_by t w y true same e f is = cc
fresh_by t w y false true e f is = cc
fresh_by t w y false false e f is = record { unmet = e; other = λ h at. let node : y.node ≡ h = cc in ap (λ k. is_of_type (element_at t k) w) (sym node) ∙ f }

pub fresh : (t : Tree Element) (x : Option Holder) (w : PlainWidget) → Fresh ≡ claim_of t x w → IsFresh t w x
fresh t None w is = record { unmet = refl; other = λ h at. cc }
fresh t (Some y) w is = fresh_by t w y y.met (is_of_type (element_at t y.node) w) refl refl (sym is)

repeated_by : (node : Handle) (was same : Bool) → cond was Repeated (cond same (Taken node) Fresh) ≡ Repeated → was ≡ true
repeated_by node true same is = refl
repeated_by node false true is = cc
repeated_by node false false is = cc

pub repeated : (t : Tree Element) (x : Option Holder) (w : PlainWidget) → Repeated ≡ claim_of t x w → was_met x ≡ true
repeated t None w is = cc
repeated t (Some y) w is = repeated_by y.node y.met (is_of_type (element_at t y.node) w) (sym is)

-- ---- what is recorded then

-- a key was met, and what is recorded of those that weren't met is as before
pub record Meets (key : Value) (old new : Registry) : Type 0 where
  pub met : (v : Value) → (value_eq key v || is_met old v) ≡ is_met new v
  pub unmet : (v : Value) → is_met new v ≡ false → is_met old v ≡ false
  pub others : (v : Value) → is_met new v ≡ false → recorded new v ≡ recorded old v

same_bools : (a b : Bool) {P : Type 0} → Decides a P → Decides b P → a ≡ b
same_bools true true p q = refl
same_bools true false p q = let e = q.1 (p.0 refl) in cc
same_bools false true p q = let e = p.1 (q.0 refl) in cc
same_bools false false p q = refl

turned : (v w : Value) → value_eq v w ≡ value_eq w v
turned v w =
    let d = value_eq-Decides w v in
    let other : Decides (value_eq w v) (v ≡ w) = (λ e. sym (d.0 e), λ e. d.1 (sym e)) in
    same_bools (value_eq v w) (value_eq w v) (value_eq-Decides v w) other

module _ (key : Value) (old new : Registry) (now : Value → Option Holder) (is : (v : Value) → recorded new v ≡ cond (value_eq v key) (now v) (recorded old v))
    (here : (v : Value) → value_eq v key ≡ true → was_met (now v) ≡ true) where
  met_by : (v : Value) (same : Bool) → value_eq v key ≡ same → (same || is_met old v) ≡ is_met new v
  met_by v true e = sym (here v e) ∙ sym (ap was_met (is v ∙ ap (λ b. cond b (now v) (recorded old v)) e))
  met_by v false e = sym (ap was_met (is v ∙ ap (λ b. cond b (now v) (recorded old v)) e))

  others_by : (v : Value) (same : Bool) → value_eq v key ≡ same → is_met new v ≡ false → recorded new v ≡ recorded old v
  others_by v true e unmet = let m = met_by v true e in cc
  others_by v false e unmet = is v ∙ ap (λ b. cond b (now v) (recorded old v)) e

  pub meets : Meets key old new
  meets = record {
    met = λ v. ap (λ b. b || is_met old v) (turned key v) ∙ met_by v (value_eq v key) refl;
    unmet = λ v unmet. sym (ap was_met (others_by v (value_eq v key) refl unmet)) ∙ unmet;
    others = λ v unmet. others_by v (value_eq v key) refl unmet;
  }

taken_met : (x : Option Holder) (h : Handle) → option_map (λ (y : Holder). y.node) x ≡ Some h → was_met (option_map (claimed_by (Taken h)) x) ≡ true
taken_met None h at = cc
taken_met (Some y) h at = refl

-- where the key was taken
pub meets_taken : (key : Value) (old new : Registry) (h : Handle) → holder_of old key ≡ Some h
    → ((v : Value) → recorded new v ≡ cond (value_eq v key) (option_map (claimed_by (Taken h)) (recorded old v)) (recorded old v)) → Meets key old new
meets_taken key old new h at is =
    meets key old new (λ v. option_map (claimed_by (Taken h)) (recorded old v)) is
    (λ v same. taken_met (recorded old v) h (ap (holder_of old) ((value_eq-Decides v key).0 same) ∙ at))

pub unchanged : (x : Option Holder) → option_map (claimed_by Fresh) x ≡ x
unchanged None = refl
unchanged (Some y) = refl

pub both_ways : (b : Bool) (x y : Option Holder) → y ≡ x → cond b y x ≡ x
both_ways true x y e = e
both_ways false x y e = refl

-- where a new holder was noted after the key was found fresh
pub meets_noted : (key : Value) (old mid new : Registry) (h : Handle)
    → ((v : Value) → recorded mid v ≡ cond (value_eq v key) (option_map (claimed_by Fresh) (recorded old v)) (recorded old v))
    → ((v : Value) → recorded new v ≡ cond (value_eq v key) (Some (new_holder h)) (recorded mid v)) → Meets key old new
meets_noted key old mid new h first then =
    meets key old new (λ v. Some (new_holder h))
    (λ v. then v ∙ ap (cond (value_eq v key) (Some (new_holder h))) (first v ∙ both_ways (value_eq v key) (recorded old v) _ (unchanged (recorded old v))))
    (λ v same. refl)
