-- A widget is opened where nothing stood before.
use Rattle.std.proofs.Common.{◌≡◌, ℕ, nat_le, false, List, Option, None, refl, sym, ap, ◌∙◌}
use Rattle.std.specs.Option.{option_to_list}
use Rattle.fx_expr.specs.declared.values.Value.{Value}
use Rattle.widget_model.specs.Plain.{PlainWidget, look_of, key_of}
use Rattle.plain_tree.specs.PlainNode.{PlainNode}
use Rattle.build_form.specs.BuildRole.{BuildRole, composes, provides, keeps, lists, holds, build_role_of}
use Rattle.build_form.specs.Entering.{Blueprint, Basis, first_fields, fields_for, number_for, scroll_for, met_once, given_by, apart, counted, opening}
use Rattle.build_form.specs.FullBuild.{basis}
use Rattle.build_form.specs.Partner.{Arrival, arrival, partner_of, holder_in}
use Rattle.build_form.specs.Step.{Fault, Progress, Step, stops, gives}
use Rattle.element_tree.specs.Element.{Element}
use Rattle.work_sets.specs.Due.{names_read}
use Rattle.build_walk.specs.Counting.{built_here, builds_opening}
use Rattle.build_walk.specs.Entered.{StoresGiven, IsElementFor}
use Rattle.build_walk.specs.Keeping.{kept_output, kept_or, reopened}
use Rattle.build_walk.specs.Past.{Pasts}
use Rattle.build_owner.proofs.Opens.{no_output, not_apart, all_open, built_there}
use Rattle.first_builds.proofs.Placing.{new_alone, none_kept}

module _ (b : Blueprint) (pasts : Pasts) (values : List Value) (w : PlainWidget) (place : ℕ) (s met : Progress) (room : nat_le b.nodes s.entered ≡ false) (is : met_once (key_of w) s ≡ gives tt met) where
  abbrev from : Basis
  from = basis b None

  abbrev a : Arrival
  a = arrival w place None

  abbrev partner : Option PlainNode
  partner = partner_of from.holder a

  abbrev step : ℕ → List Value → Progress → Step (List PlainWidget)
  step number fields = given_by b (build_role_of (look_of w)) values number fields w

  kept_nothing : kept_output pasts partner w values ≡ None
  kept_nothing = ap (λ p. kept_output pasts p w values) (new_alone w place) ∙ none_kept pasts w values

  -- a component is built, and no other widget
  pub new_built : builds_opening from pasts values a s ≡ built_here (names_read (look_of w)) None
  new_built = built_there from pasts values a s met room is ∙ ap (built_here (names_read (look_of w))) kept_nothing

  module _ (number : ℕ) (fields : List Value) (next : number ≡ met.next) (firsts : fields ≡ first_fields b (build_role_of (look_of w))) where
    number_so : number ≡ number_for partner met
    number_so = next ∙ ap (λ p. number_for p met) (sym (new_alone w place))

    fields_so : fields ≡ fields_for b w partner
    fields_so = firsts ∙ ap (fields_for b w) (sym (new_alone w place))

    step_so : (u : Progress) (r : Step (List PlainWidget)) → step number fields u ≡ r → kept_or (kept_output pasts partner w values) (step number fields) u ≡ r
    step_so u r e = ap (λ o. kept_or o (step number fields) u) kept_nothing ∙ e

    pub new_too_large : (x : Fault) → ((u : Progress) → step number fields u ≡ stops x) → reopened from pasts values a s ≡ stops x
    new_too_large x e = no_output from pasts values a s met room is number fields number_so fields_so x (step_so (counted partner met) (stops x) (e (counted partner met)))

    module _ (ws : List PlainWidget) (given : (u : Progress) → step number fields u ≡ gives ws u) where
      pub new_not_apart : (x : Fault) → ((u : Progress) → apart ws u ≡ stops x) → reopened from pasts values a s ≡ stops x
      new_not_apart x e =
          not_apart from pasts values a s met room is number fields number_so fields_so ws (step_so (counted partner met) (gives ws (counted partner met)) (given (counted partner met))) x (e (counted partner met))

      pub new_opened : (after : Progress) → ((u : Progress) → apart ws u ≡ gives ws u) → counted None met ≡ after → reopened from pasts values a s ≡ gives (opening partner number fields ws) after
      new_opened after e done =
          all_open from pasts values a s met room is number fields number_so fields_so ws (step_so (counted partner met) (gives ws (counted partner met)) (given (counted partner met))) after (e (counted partner met))
          (ap (λ p. counted p met) (new_alone w place) ∙ done)

-- what a component stores is what its body gave
pub stores_given : (r : BuildRole) (e : Element) (ws : List PlainWidget) → ((place : ℕ) (props : List Value) → r ≡ composes place props → option_to_list e.output ≡ ws) → StoresGiven r e ws
stores_given (composes place props) e ws h = λ clean. h place props refl
stores_given (provides name value) e ws h = tt
stores_given (keeps kept) e ws h = tt
stores_given (lists extent) e ws h = tt
stores_given holds e ws h = tt

-- the element that is mounted is that of the widget
pub element_for : (scrolled : ℕ → ℕ) (w : PlainWidget) (place number : ℕ) (fields : List Value) (ws : List PlainWidget) (e : Element) → e.number ≡ number → e.widget ≡ w → e.fields ≡ fields → e.index ≡ place → scrolled number ≡ 0
    → StoresGiven (build_role_of (look_of e.widget)) e ws → IsElementFor scrolled (arrival w place None) (opening (partner_of (holder_in None) (arrival w place None)) number fields ws) e
element_for scrolled w place number fields ws e number_is widget_is fields_is place_is unscrolled stores = record {
  number = number_is;
  widget = widget_is;
  fields = fields_is;
  place = place_is;
  scroll = ap scrolled number_is ∙ unscrolled ∙ ap scroll_for (sym (new_alone w place));
  output = stores;
}
