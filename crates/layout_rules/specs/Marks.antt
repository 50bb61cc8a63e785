-- What the stored state of a node tells of a duty.
use Rattle.std.specs.Prelude.{ℕ, Bool, ◌||◌, not, option_map}
use Rattle.fx_geom.specs.declared.shapes.Axis.{Axis}
use Rattle.layout_form.specs.declared.asks.Ask.{Ask}
use Rattle.render_tree.specs.declared.layout_state.LayoutState.{LayoutState}
use Rattle.layout_walk.specs.Node.{ask_in}
use Rattle.layout_walk.specs.Asking.{asked_so}
use Rattle.layout_walk.specs.Measure.{views}

-- the rule of a node that is asked so is run
abbrev pub due_in : LayoutState → Ask → Bool
due_in u ask = u.needs_layout || not (asked_so (option_map ask_in u.frame) ask)

-- the stored frame of a sliver doesn't tell how far it can be scrolled through
abbrev pub open_in : Axis → ℕ → LayoutState → Bool
open_in axis cross u = u.needs_layout || not (views axis cross (option_map ask_in u.frame))
