-- Laws of plain widgets, for this crate and the proofs of those above it: widgets that follow one another in a widget are the list of
-- them, and as many.
use Rattle.std.specs.Prelude.{◌≡◌, ◌+◌, List, [], ◌∷◌}
use Rattle.std.proofs.Common.{refl, ap}
use Rattle.widget_model.specs.Plain.{PlainWidget, widgets_of, list_of}
use Rattle.widget_model.specs.Size.{count_of, counts_of, count_in}

-- the list of them
pub list_of-widgets_of : (ws : List PlainWidget) → list_of (widgets_of ws) ≡ ws
list_of-widgets_of [] = refl
list_of-widgets_of (w ∷ ws) = ap (λ vs. w ∷ vs) (list_of-widgets_of ws)

-- as many
pub counts_of-widgets_of : (ws : List PlainWidget) → counts_of (widgets_of ws) ≡ count_in ws
counts_of-widgets_of [] = refl
counts_of-widgets_of (w ∷ ws) = ap (λ n. count_of w + n) (counts_of-widgets_of ws)
