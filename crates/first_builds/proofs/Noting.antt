-- What the registry records where an element is made whose global key no element has.
use Rattle.std.proofs.Common.{◌≡◌, ◌+◌, ◌<◌, Bool, true, false, cond, Option, Some, None, option_map, refl, sym, ap, ◌∙◌, subst}
use Rattle.fx_handles.specs.declared.Handle.{Handle}
use Rattle.fx_handles.specs.declared.TheConstants.{SLOTS_MAX}
use Rattle.fx_handles.specs.Arena.{used_count, retired_count}
use Rattle.fx_expr.specs.declared.values.Value.{Value}
use Rattle.fx_expr.specs.Value.{value_eq}
use Rattle.node_tree.specs.Mounting.{CanMount}
use Rattle.node_tree.specs.Tree.{Tree}
use Rattle.widget_keys.specs.declared.keys.Key.{Key}
use Rattle.widget_keys.specs.declared.keys.Key.TheVariants as key
use Rattle.widget_model.specs.Plain.{PlainWidget, key_of}
use Rattle.build_form.specs.Entering.{met_once}
use Rattle.build_form.specs.Step.{Progress, gives}
use Rattle.element_tree.specs.Element.{Element}
use Rattle.global_keys.specs.Claims.{claim_of, claimed_by}
use Rattle.global_keys.specs.declared.registry.Claim.{Claim}
use Rattle.global_keys.specs.declared.registry.Claim.TheVariants.{Fresh, Taken, Repeated}
use Rattle.global_keys.specs.declared.registry.Holder.{Holder}
use Rattle.global_keys.specs.Holders.{Registry, recorded, was_met, is_met, new_holder, Notes}
use Rattle.global_keys.specs.Named.{global_in, global_at, NamesExactly}
use Rattle.build_owner.proofs.Claims.{taken, fresh, meets, unchanged, both_ways}
use Rattle.build_owner.proofs.Elements.{KeyMet, none_met, now_met}
use Rattle.first_builds.specs.Mounts.{NotesKey, IsFreeFor, IsNoted}

-- ---- what a claim tells, where each key that is recorded was met

module _ (t : Tree Element) (x : Option Holder) (w : PlainWidget) (met : was_met x ≡ false → x ≡ None) where
  pub none_fresh : Fresh ≡ claim_of t x w → x ≡ None
  none_fresh is = met (fresh t x w is).unmet

  pub none_taken : (h : Handle) → Taken h ≡ claim_of t x w → ⊥
  none_taken h is =
      let at = taken t x w h is in
      let none : None ≡ Some h = sym (ap (option_map (λ (y : Holder). y.node)) (met at.unmet)) ∙ at.named in
      cc

  pub claimed : (c : Claim) → c ≡ claim_of t x w → (c ≡ Repeated → ⊥) → x ≡ None
  claimed Fresh is not = none_fresh is
  claimed (Taken h) is not = absurd (none_taken h is)
  claimed Repeated is not = absurd (not refl)

  -- where it isn't repeated no element has the key, and nothing is taken
  pub not_taken : (c : Claim) → c ≡ claim_of t x w → (h : Handle) → Taken h ≡ c → ⊥
  not_taken c is h taken = none_taken h (taken ∙ is)

-- a claim that takes nothing changes nothing
unclaimed : (c : Claim) (x : Option Holder) → ((h : Handle) → Taken h ≡ c → ⊥) → option_map (claimed_by c) x ≡ x
unclaimed Fresh x not = unchanged x
unclaimed (Taken h) x not = absurd (not h refl)
unclaimed Repeated None not = refl
unclaimed Repeated (Some y) not = refl

pub as_recorded : (c : Claim) (key : Value) (old new : Registry) → ((h : Handle) → Taken h ≡ c → ⊥)
    → ((v : Value) → recorded new v ≡ cond (value_eq v key) (option_map (claimed_by c) (recorded old v)) (recorded old v)) → (v : Value) → recorded new v ≡ recorded old v
as_recorded c key old new not is v = is v ∙ both_ways (value_eq v key) (recorded old v) (option_map (claimed_by c) (recorded old v)) (unclaimed c (recorded old v) not)

-- ---- an element without a global key

with_all : (s met : Progress) (keys : Value → Bool) → met.entered ≡ s.entered → met.met ≡ keys → met.next ≡ s.next → met.waiting ≡ s.waiting
    → met ≡ record { entered = s.entered; met = keys; next = s.next; waiting = s.waiting }
with_all s met keys e k n w = λ i. record { entered = e i; met = k i; next = n i; waiting = w i }

once_by : (w : PlainWidget) (s : Progress) (g : Registry) → KeyMet w s g → met_once (key_of w) s ≡ gives tt (record { entered = s.entered; met = λ k. is_met g k; next = s.next; waiting = s.waiting })
once_by w s g m = m.is ∙ ap (gives tt) (with_all s m.met (λ k. is_met g k) m.entered m.keys m.next m.waiting)

some_value : (v w : Value) → Some v ≡ Some w → v ≡ w
some_value v w e = cc

module _ (w : PlainWidget) (old new : Registry) (t0 t : Tree Element) (h : Handle) (names : NamesExactly old t0) (met : (k : Value) → is_met old k ≡ false → recorded old k ≡ None)
    (fresh_so : (k : Value) → global_in (key_of w) ≡ Some k → recorded old k ≡ None) (unnamed : global_in (key_of w) ≡ None → NamesExactly old t)
    (named : (k : Value) → global_in (key_of w) ≡ Some k → ((x : Handle) → global_at t0 x ≡ Some k → ⊥) → Notes old new k h → NamesExactly new t) where
  no_other : (k : Value) → recorded old k ≡ None → (x : Handle) → global_at t0 x ≡ Some k → ⊥
  no_other k none x has =
      let there = names.to_holder k x has in
      let gone : None ≡ Some x = sym (ap (option_map (λ (y : Holder). y.node)) none) ∙ there in
      cc

  met_by : (k : Value) → Notes old new k h → (v : Value) (same : Bool) → value_eq v k ≡ same → is_met new v ≡ false → recorded new v ≡ None
  met_by k notes v true e unmet =
      let here : recorded new v ≡ Some (new_holder h) = notes v ∙ ap (λ b. cond b (Some (new_holder h)) (recorded old v)) e in
      let was : true ≡ false = sym (ap was_met here) ∙ unmet in
      cc
  met_by k notes v false e unmet =
      let same : recorded new v ≡ recorded old v = notes v ∙ ap (λ b. cond b (Some (new_holder h)) (recorded old v)) e in
      same ∙ met v (sym (ap was_met same) ∙ unmet)

  pub noted_by : (o : Option Value) → global_in (key_of w) ≡ o → NotesKey o old new h → IsNoted w old new t
  noted_by None global same = record {
    names = transport_names (sym same) (unnamed global);
    met = λ k unmet. ap (λ g. recorded g k) same ∙ met k (ap (λ g. is_met g k) (sym same) ∙ unmet);
    once = λ s keys. once_by w s new (none_met w s new global (keys ∙ ap (λ g. λ k. is_met g k) (sym same)));
  }
    where
      transport_names : old ≡ new → NamesExactly old t → NamesExactly new t
      transport_names e n = rw e at n
  noted_by (Some k) global notes = record {
    names = named k global (no_other k (fresh_so k global)) notes;
    met = λ v. met_by k notes v (value_eq v k) refl;
    once = λ s keys. once_by w s new (now_met w k s old new global keys (ap was_met (fresh_so k global)) (meets k old new (λ v. Some (new_holder h)) notes (λ v same. refl)));
  }

-- what is recorded is all that counts
pub noted_since : (w : PlainWidget) (was old new : Registry) (t : Tree Element) → ((k : Value) → recorded old k ≡ recorded was k) → IsNoted w old new t → IsNoted w was new t
noted_since w was old new t same n = record { names = n.names; met = n.met; once = λ s keys. n.once s (keys ∙ (λ i. λ k. was_met (sym (same k) i))) }

-- where nothing but what was met is recorded otherwise, and no element has the key, the element can be made
pub free_for : (w : PlainWidget) (q : Option Handle) (was g : Registry) (t : Tree Element) → CanMount t q → used_count t.nodes + retired_count t.nodes < SLOTS_MAX → NamesExactly was t
    → ((k : Value) → is_met was k ≡ false → recorded was k ≡ None) → ((k : Value) → recorded g k ≡ recorded was k) → ((k : Value) → global_in (key_of w) ≡ Some k → recorded g k ≡ None) → IsFreeFor w q g t
free_for w q was g t place room names met same fresh_so = record {
  place = place;
  room = room;
  names = record {
    to_element = λ k h is. names.to_element k h (ap (option_map (λ (y : Holder). y.node)) (sym (same k)) ∙ is);
    to_holder = λ k h is. ap (option_map (λ (y : Holder). y.node)) (same k) ∙ names.to_holder k h is;
  };
  met = λ k unmet. same k ∙ met k (ap was_met (sym (same k)) ∙ unmet);
  fresh = fresh_so;
}

-- ---- a key that isn't global

pub not_global : (k : Key Value) → ((v : Value) → k ≡ key.Global v → ⊥) → global_in k ≡ None
not_global key.None not = refl
not_global (key.Local v) not = refl
not_global (key.Global v) not = absurd (not v refl)

pub notes_none : (o : Option Value) (g : Registry) (h : Handle) → o ≡ None → NotesKey o g g h
notes_none o g h none = subst (λ p. NotesKey p g g h) (sym none) refl

pub notes_some : (o : Option Value) (k : Value) (old new : Registry) (h : Handle) → o ≡ Some k → Notes old new k h → NotesKey o old new h
notes_some o k old new h some notes = subst (λ p. NotesKey p old new h) (sym some) notes
