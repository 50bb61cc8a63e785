-- What the program computes for a node, beside the calls of its children.
use Rattle.std.specs.Prelude.{ℕ, Option, Some, None, List, [], ◌∷◌, map}
use Rattle.widget_model.specs.Look.{Look}
use Rattle.plain_tree.specs.Render.{Render, render}
use Rattle.plain_tree.specs.Laid.{Laid, laid, laids_of}
use Rattle.layout_form.specs.declared.asks.Ask.{Ask}
use Rattle.layout_form.specs.Fits.{CanBeLaidOut}
use Rattle.layout_form.specs.Object.{Setting, placed_at}
use Rattle.layout_form.specs.Layout.{object, is_plugged, delegate_of}
use Rattle.layout_form.specs.Protocol.{round, nothing}
use Rattle.kind_rules.specs.Ruling.{Ruling}
use Rattle.kind_rules.specs.Asked.{IsOffset}

-- the number of a render node, and how far it is scrolled
abbrev pub number_of : Render → ℕ
number_of (render number look told scroll count children) = number

abbrev pub scroll_of : Render → ℕ
scroll_of (render number look told scroll count children) = scroll

-- nobody has answered yet
abbrev pub blank : List Render → List (Option Laid)
blank rs = map (λ r. None) rs

-- the laid node: the laid children stand at the places that its rule makes
abbrev pub laid_by : Setting → ℕ → Look → Ruling → List Laid → Laid
laid_by s number look g ls =
    laid number look
    (record { frame = g.frame; notes = g.notes; plugged = is_plugged s.delegates (delegate_of look); scrolled = g.scrolled })
    (laids_of (placed_at g.places ls))

-- render nodes of a list that can all be laid out
abbrev pub AllFit : List Render → Type 0
AllFit [] = Unit {0}
AllFit (r ∷ rs) = CanBeLaidOut r × AllFit rs

-- children may be asked so: a sliver begins at a length
abbrev pub MayAsk : Option Ask → Type 0
MayAsk None = Unit {0}
MayAsk (Some ask) = IsOffset ask

abbrev pub MayAskAll : List (Option Ask) → Type 0
MayAskAll [] = Unit {0}
MayAskAll (ask ∷ asks) = MayAsk ask × MayAskAll asks

-- the answers of children that are asked so, and nothing of the others
abbrev pub answers_for : Setting → List (Option Ask) → List Render → List (Option Laid)
answers_for s asks rs = round asks (nothing (map (object s) rs)) (map (object s) rs)
