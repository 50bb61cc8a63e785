-- The order of focus by what the last frame shows, and a node that is in it.
use Rattle.std.proofs.Common.{◌≡◌, ◌∙◌, ℕ, true, Option, Some, None, option_map, refl, ap, if◌then◌else◌}
use Rattle.screen_form.specs.FocusOrder.{focus_order_of}
use Rattle.plain_tree.specs.Laid.{Laid}
use Rattle.render_readers.specs.Shown.{read_off}
use Rattle.session_form.specs.State.{Shown}
use Rattle.live_session.specs.Focus.{order_in, is_in, focused, focus_on}
use Rattle.live_session.specs.RunState.{RunState, refused}
use Rattle.live_session.specs.declared.refusal.LineRefusal.TheVariants as refusal

-- the order of what the screen shows is that of the last frame
pub order_shown : (shown : Option Shown) (laid : Option Laid) → laid ≡ option_map (λ (s : Shown). s.laid) shown → read_off focus_order_of laid ≡ order_in shown
order_shown shown laid e = ap (read_off focus_order_of) e ∙ by_frame shown
  where
    by_frame : (x : Option Shown) → read_off focus_order_of (option_map (λ (s : Shown). s.laid) x) ≡ order_in x
    by_frame None = refl
    by_frame (Some s) = refl

-- ---- `focus #n`

pub focus_found : (number : ℕ) (r : RunState) → true ≡ is_in (order_in r.session.shown) number → focused (Some number) r ≡ focus_on number r
focus_found number r there = ap (λ b. if b then focused (Some number) r else refused refusal.NotFocusable) there
