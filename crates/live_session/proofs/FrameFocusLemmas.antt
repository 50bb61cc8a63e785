-- The focus after a frame.
use Rattle.std.proofs.Common.{◌≡◌, ◌↔◌, ℕ, Bool, true, false, ◌||◌, Option, Some, None, List, [], ◌∷◌, nat_eq, refl, sym, ap, ap₂, subst, ◌∙◌, if◌then◌else◌}
use Rattle.std.specs.Cmp.{nat_eq_equiv}
use Rattle.std.specs.List.{Contains, list_any}
use Rattle.std.proofs.lemmas.Bool.{eqb-true, false≢true}
use Rattle.std.proofs.lemmas.Map.Views.{list_any-from_Contains, Contains-from_any}
use Rattle.tickers.specs.declared.tween.Tween.{Tween}
use Rattle.session_form.specs.Outcome as outcome
use Rattle.live_session.specs.EntryStep.{framed_by}
use Rattle.live_session.specs.Focus.{order_in, is_in, focus_kept}
use Rattle.live_session.specs.RunState.{RunState, went}

same_number : (m n : ℕ) → Some m ≡ Some n → m ≡ n
same_number m n e = cc

same_run : (a b : RunState) (x y : List ℕ) → went a x ≡ went b y → a ≡ b
same_run a b x y e = cc

either_way : (order : List ℕ) (number : ℕ) → is_in order number ≡ list_any (nat_eq number) order
either_way [] number = refl
either_way (n ∷ ns) number = ap₂ (λ a b. a || b) (nat_eq_equiv.symm n number) (either_way ns number)

-- by whether the number is in the order
kept_by : (v : Bool) (order : List ℕ) (m number : ℕ) → is_in order m ≡ v
    → ((if v then Some m else None) ≡ Some number) ↔ ((Some m ≡ Some number) × Contains order number)
kept_by true order m number is = (
  λ e. (e, subst (Contains order) (same_number m number e) (Contains-from_any {eq = nat_eq} eqb-true m order (sym (either_way order m) ∙ is))),
  λ both. both.0,
)
kept_by false order m number is = (
  λ e. cc,
  λ both.
      let there : is_in order number ≡ true = either_way order number ∙ list_any-from_Contains nat_eq_equiv number order both.1 in
      let absent : is_in order number ≡ false = ap (is_in order) (sym (same_number m number both.0)) ∙ is in
      absurd (false≢true (sym absent ∙ there)),
)

-- the focus is kept exactly where its number is in the order
pub kept_where_in : (order : List ℕ) (focus : Option ℕ) (number : ℕ)
    → (focus_kept order focus ≡ Some number) ↔ ((focus ≡ Some number) × Contains order number)
kept_where_in order None number = (λ e. cc, λ both. let e : None ≡ Some number = both.0 in cc)
kept_where_in order (Some m) number = kept_by (is_in order m) order m number refl

pub frame_focus : (o : outcome.Outcome) (now : ℕ) (ts : List Tween) (r next : RunState) (text : List ℕ) (number : ℕ) → framed_by o now ts r ≡ went next text
    → (next.focus ≡ Some number) ↔ ((r.focus ≡ Some number) × Contains (order_in next.session.shown) number)
frame_focus (outcome.done s shown) now ts r next text number e =
    let P : RunState → Type 0 = λ x. (x.focus ≡ Some number) ↔ ((r.focus ≡ Some number) × Contains (order_in x.session.shown) number) in
    subst P (same_run _ next shown text e) (kept_where_in (order_in s.shown) r.focus number)
frame_focus (outcome.refused why) now ts r next text number e = cc
frame_focus (outcome.faulted fault) now ts r next text number e = cc
