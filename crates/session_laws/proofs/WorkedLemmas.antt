-- The worked values hold.
use Rattle.std.proofs.Common.{◌≡◌, ◌<◌, ◌≤◌, pos, true, inl, inr, [], ◌∷◌, refl, ap, arith}
use Rattle.std.specs.Prelude.{Contains}
use Rattle.std.proofs.lemmas.List.Elements.{All-nil, All-cons}
use Rattle.fx_geom.specs.Offset.{origin}
use Rattle.widget_model.specs.Look.{padding, offstage}
use Rattle.screen_form.specs.FocusOrder.{spots_of}
use Rattle.screen_form.specs.declared.spot.Spot.{Spot}
use Rattle.session_laws.specs.Focus.{CanTakeFocus}
use Rattle.session_laws.specs.Worked.{tappable, Works}
use Rattle.session_laws.proofs.WayLemmas.{first_in, cons_cases, none_in, spot_of, way_of}

one_spot : (s t : Spot) → Contains (s ∷ []) t → s ≡ t
one_spot s t h = elim (cons_cases s [] t h) [ inl here ↦ here | inr later ↦ absurd (none_in t later) ]

can : CanTakeFocus (tappable (padding 0 0 0 0)) 3
unfolding spots_of
can = (record { y = pos 15; x = pos 35; number = 3 }, refl, way_of (tappable (padding 0 0 0 0)) origin (record { y = pos 15; x = pos 35; number = 3 }) (first_in (record { y = pos 15; x = pos 35; number = 3 }) []))

other : CanTakeFocus (tappable (padding 0 0 0 0)) 2 → ⊥
unfolding spots_of
other h =
    let same : 3 ≡ h.0.number = ap (λ (x : Spot). x.number) (one_spot (record { y = pos 15; x = pos 35; number = 3 }) h.0 (spot_of (tappable (padding 0 0 0 0)) origin h.0 h.2)) in
    let is : h.0.number ≡ 2 = h.1 in
    absurd (omega (arith, same, is))

hidden : CanTakeFocus (tappable (offstage true)) 3 → ⊥
unfolding spots_of
hidden h = none_in h.0 (spot_of (tappable (offstage true)) origin h.0 h.2)

pub works : Works
works = record {
  apart = record {
    differ = ((λ e. absurd (omega (arith, e)), tt), (tt, tt));
    positive = All-cons (λ n. 1 ≤ n) 1 (3 ∷ []) (omega arith) (All-cons (λ n. 1 ≤ n) 3 [] (omega arith) (All-nil (λ n. 1 ≤ n)));
    below = All-cons (λ n. n < 4) 1 (3 ∷ []) (omega arith) (All-cons (λ n. n < 4) 3 [] (omega arith) (All-nil (λ n. n < 4)));
  };
  free = λ h. let low : 3 < 3 = h.below 1 0 (omega arith) in absurd (omega (arith, low));
  from_one = λ h. let low : 1 ≤ 0 = h.positive 0 0 (omega arith) in absurd (omega (arith, low));
  twice = λ h. h.differ.0.0 refl;
  tap = refl;
  long = refl;
  no_long = refl;
  all = refl;
  end = refl;
  place = refl;
  can = can;
  other = other;
  hidden = hidden;
  replaced = λ r. (refl, refl);
  beside = λ r h. let same : 1 ≡ 2 = h.0 in absurd (omega (arith, same));
  pressed = λ r h. h;
}
