-- The nodes that can have the focus are those to which a way leads.
use Rattle.std.proofs.Common.{◌≡◌, ℕ, zero, suc, ◌+◌, Bool, true, false, ◌||◌, ◌⊎◌, inl, inr, Option, Some, None, is_some, List, [], ◌∷◌, length, refl, sym, ap, subst, ◌∙◌, if◌then◌else◌, arith}
use Rattle.std.specs.Prelude.{Contains}
use Rattle.std.specs.List.{All}
use Rattle.std.proofs.lemmas.Grind.{common_steps}
use Rattle.std.proofs.lemmas.List.Elements.{All-nil, All-cons, All-tail, Contains-append_left, Contains-append_right, Contains-append_cases}
use Rattle.fx_expr.specs.declared.handlers.Handler.{Handler}
use Rattle.fx_geom.specs.Offset.{offset_sum}
use Rattle.fx_geom.specs.declared.shapes.Offset.{Offset}
use Rattle.gesture_arena.specs.declared.gesture.Gesture.TheVariants as gesture
use Rattle.layout_form.specs.Object.{stood_in}
use Rattle.plain_tree.specs.declared.laid.Facts.{Facts}
use Rattle.plain_tree.specs.Laid.{Laid, laid, Laids, no_laids, more_laids, Stood, list_of}
use Rattle.plain_tree.specs.Shown.{is_unseen}
use Rattle.widget_model.specs.Look.{Look, detector}
use Rattle.screen_form.specs.FocusOrder.{spot_at, spots_by, spots_of, spots_in}
use Rattle.screen_form.specs.FocusRole.{shown_role, focus_role}
use Rattle.screen_form.specs.Hidden.{hides_below}
use Rattle.screen_form.specs.Members.{handler_in}
use Rattle.screen_form.specs.declared.focus_role.FocusRole.{FocusRole}
use Rattle.screen_form.specs.declared.focus_role.FocusRole.TheVariants.{Hides, TakesFocus, Passes}
use Rattle.screen_form.specs.declared.spot.Spot.{Spot}
use Rattle.session_laws.specs.Focus.{IsWay, end_of, place_of, above, laid_number, CanBeTapped, HidesNothing, CanHaveFocus}

-- ---- items of a list

pub first_in : {A : Type 0} (x : A) (xs : List A) → Contains (x ∷ xs) x
first_in x xs = let more : length (x ∷ xs) ≡ length xs + 1 = grind (arith, common_steps) in (0, omega arith, refl)

pub one_only : {A : Type 0} (x y : A) → Contains (x ∷ []) y → x ≡ y
one_only x y (zero, within, is) = is
one_only x y (suc k, within, is) = absurd (omega (arith, within))

pub cons_cases : {A : Type 0} (x : A) (xs : List A) (y : A) → Contains (x ∷ xs) y → (x ≡ y) ⊎ Contains xs y
cons_cases x xs y h = elim (Contains-append_cases (x ∷ []) xs y h) [ inl here ↦ inl (one_only x y here) | inr later ↦ inr later ]

pub later_in : {A : Type 0} (x : A) (xs : List A) (y : A) → Contains xs y → Contains (x ∷ xs) y
later_in x xs y h = Contains-append_right (x ∷ []) xs y h

pub none_in : {A : Type 0} (y : A) → Contains [] y → ⊥
none_in y (k, within, is) = absurd (omega (arith, within))

-- ---- what a node is to the focus

takes_by : (tap : Option Handler) → (if is_some tap then TakesFocus else Passes) ≡ TakesFocus → (h : Handler) × (tap ≡ Some h)
takes_by None e = cc
takes_by (Some h) e = (h, refl)

tapped_by : (tap : Option Handler) (h : Handler) → tap ≡ Some h → (if is_some tap then TakesFocus else Passes) ≡ TakesFocus
tapped_by None h e = cc
tapped_by (Some x) h e = refl

passes_by : (tap : Option Handler) → (if is_some tap then TakesFocus else Passes) ≡ Hides → ⊥
passes_by None e = cc
passes_by (Some x) e = cc

role_tapped : (look : Look) → shown_role look ≡ TakesFocus → (h : Handler) × (handler_in look gesture.Tap ≡ Some h)
role_tapped (detector behavior tap long vertical horizontal pan) e = takes_by tap e
role_tapped _ e = cc

tapped_role : (look : Look) (h : Handler) → handler_in look gesture.Tap ≡ Some h → shown_role look ≡ TakesFocus
tapped_role (detector behavior tap long vertical horizontal pan) h e = tapped_by tap h e
tapped_role _ h e = cc

role_shows : (look : Look) → shown_role look ≡ Hides → ⊥
role_shows (detector behavior tap long vertical horizontal pan) e = passes_by tap e
role_shows _ e = cc

-- the role of a node that hides nothing
open_role : (a b : Bool) (r : FocusRole) → a ≡ false → b ≡ false → (if a || b then Hides else r) ≡ r
open_role a b r ea eb = ap (λ (x : Bool). if x || b then Hides else r) ea ∙ ap (λ (x : Bool). if x then Hides else r) eb

role_open : (a b : Bool) (r q : FocusRole) → (if a || b then Hides else r) ≡ q → (q ≡ Hides → ⊥) → (a ≡ false) × (b ≡ false) × (r ≡ q)
role_open true b r q e not = absurd (not (sym e))
role_open false true r q e not = absurd (not (sym e))
role_open false false r q e not = (refl, refl, e)

-- ---- from a spot to its way

-- a way from a laid child
record Below (ls : Laids) (at : Offset) (s : Spot) : Type 0 where
  pub child : Stood
  pub there : Contains (list_of ls) child
  pub on : CanHaveFocus child.child (offset_sum at child.at) s

one_more : (l : Laid) (ls : Laids) (at : Offset) (s : Spot) → stood_in l ≡ list_of ls → HidesNothing l → Below ls at s → CanHaveFocus l at s
one_more l ls at s same clear b = record {
  way = b.child ∷ b.on.way;
  leads = (subst (λ xs. Contains xs b.child) (sym same) b.there, b.on.leads);
  number = b.on.number;
  place = b.on.place;
  tapped = b.on.tapped;
  seen = b.on.seen;
  seen_above = All-cons HidesNothing l (above b.child.child b.on.way) clear b.on.seen_above;
}

by_role : (r : FocusRole) (number : ℕ) (look : Look) (facts : Facts) (ls : Laids) (at : Offset) (s : Spot) → focus_role look facts.frame ≡ r
    → Contains (spots_by r (spot_at number at) (spots_in ls at)) s → (Contains (spots_in ls at) s → Below ls at s) → CanHaveFocus (laid number look facts ls) at s
by_role Hides number look facts ls at s is h down = absurd (none_in s h)
by_role Passes number look facts ls at s is h down =
    let clear = role_open (is_unseen facts.frame) (hides_below look facts.frame) (shown_role look) Passes is (λ e. cc) in
    one_more (laid number look facts ls) ls at s refl (clear.0, clear.1) (down h)
by_role TakesFocus number look facts ls at s is h down =
    let clear = role_open (is_unseen facts.frame) (hides_below look facts.frame) (shown_role look) TakesFocus is (λ e. cc) in
    elim (cons_cases (spot_at number at) (spots_in ls at) s h) [
      | inl own ↦ record {
        way = [];
        leads = tt;
        number = ap (λ (x : Spot). x.number) own;
        place = λ i. record { x = (own i).x; y = (own i).y };
        tapped = role_tapped look clear.2;
        seen = (clear.0, clear.1);
        seen_above = All-nil HidesNothing;
      }
      | inr below ↦ one_more (laid number look facts ls) ls at s refl (clear.0, clear.1) (down below)
    ]

mutual
  unfolding spots_of

  pub way_of : (l : Laid) (at : Offset) (s : Spot) → Contains (spots_of l at) s → CanHaveFocus l at s
  way_of (laid number look facts ls) at s h = by_role (focus_role look facts.frame) number look facts ls at s refl h (λ k. way_in ls at s k)

  way_in : (ls : Laids) (at : Offset) (s : Spot) → Contains (spots_in ls at) s → Below ls at s
  way_in no_laids at s h = absurd (none_in s h)
  way_in (more_laids by l ls) at s h =
      elim (Contains-append_cases (spots_of l (offset_sum at by)) (spots_in ls at) s h) [
        | inl here ↦ record { child = record { at = by; child = l }; there = first_in (record { at = by; child = l }) (list_of ls); on = way_of l (offset_sum at by) s here }
        | inr later ↦ let b = way_in ls at s later in record { child = b.child; there = later_in (record { at = by; child = l }) (list_of ls) b.child b.there; on = b.on }
      ]

-- ---- from a way to the spot

below_in : (r : FocusRole) (own : Spot) (below : List Spot) (s : Spot) → (r ≡ Hides → ⊥) → Contains below s → Contains (spots_by r own below) s
below_in Hides own below s not h = absurd (not refl)
below_in TakesFocus own below s not h = later_in own below s h
below_in Passes own below s not h = h

spots_child : (ls : Laids) (at : Offset) (c : Stood) (s : Spot) → Contains (list_of ls) c → Contains (spots_of c.child (offset_sum at c.at)) s → Contains (spots_in ls at) s
unfolding spots_of
spots_child no_laids at c s there h = absurd (none_in c there)
spots_child (more_laids by l ls) at c s there h =
    elim (cons_cases (record { at = by; child = l }) (list_of ls) c there) [
      | inl here ↦
          let P : Stood → Type 0 = λ x. Contains (spots_of x.child (offset_sum at x.at)) s in
          Contains-append_left (spots_of l (offset_sum at by)) (spots_in ls at) s (subst P (sym here) h)
      | inr later ↦ Contains-append_right (spots_of l (offset_sum at by)) (spots_in ls at) s (spots_child ls at c s later h)
    ]

own_spot : (number : ℕ) (at : Offset) (s : Spot) → number ≡ s.number → at ≡ record { x = s.x; y = s.y } → spot_at number at ≡ s
own_spot number at s e f = λ i. record { y = (f i).y; x = (f i).x; number = e i }

at_end : (l : Laid) (at : Offset) (s : Spot) → laid_number l ≡ s.number → at ≡ record { x = s.x; y = s.y } → CanBeTapped l → HidesNothing l → Contains (spots_of l at) s
unfolding spots_of
at_end (laid number look facts ls) at s e f tapped clear =
    let role : focus_role look facts.frame ≡ TakesFocus =
    open_role (is_unseen facts.frame) (hides_below look facts.frame) (shown_role look) clear.0 clear.1 ∙ tapped_role look tapped.0 tapped.1 in
    subst (λ r. Contains (spots_by r (spot_at number at) (spots_in ls at)) s) (sym role)
    (subst (λ x. Contains (x ∷ spots_in ls at) s) (sym (own_spot number at s e f)) (first_in s (spots_in ls at)))

past_node : (l : Laid) (at : Offset) (c : Stood) (s : Spot) → HidesNothing l → Contains (stood_in l) c → Contains (spots_of c.child (offset_sum at c.at)) s → Contains (spots_of l at) s
unfolding spots_of
past_node (laid number look facts ls) at c s clear there h =
    let role : focus_role look facts.frame ≡ shown_role look = open_role (is_unseen facts.frame) (hides_below look facts.frame) (shown_role look) clear.0 clear.1 in
    subst (λ r. Contains (spots_by r (spot_at number at) (spots_in ls at)) s) (sym role)
    (below_in (shown_role look) (spot_at number at) (spots_in ls at) s (role_shows look) (spots_child ls at c s there h))

along : (way : List Stood) (l : Laid) (at : Offset) (s : Spot) → IsWay l way → laid_number (end_of l way) ≡ s.number → place_of at way ≡ record { x = s.x; y = s.y }
    → CanBeTapped (end_of l way) → HidesNothing (end_of l way) → All HidesNothing (above l way) → Contains (spots_of l at) s
along [] l at s leads e f tapped clear others = at_end l at s e f tapped clear
along (c ∷ cs) l at s leads e f tapped clear others =
    past_node l at c s (others 0 l (let more : length (l ∷ above c.child cs) ≡ length (above c.child cs) + 1 = grind (arith, common_steps) in omega arith)) leads.0
    (along cs c.child (offset_sum at c.at) s leads.1 e f tapped clear (All-tail HidesNothing l (above c.child cs) others))

pub spot_of : (l : Laid) (at : Offset) (s : Spot) → CanHaveFocus l at s → Contains (spots_of l at) s
spot_of l at s h = along h.way l at s h.leads h.number h.place h.tapped h.seen h.seen_above
