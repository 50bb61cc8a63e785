-- The lines that tell what the last frame shows.
use Rattle.std.specs.Prelude.{ℕ, ℤ, Option, Some, None, option_map, List, []}
use Rattle.fx_geom.specs.declared.shapes.Offset.{Offset}
use Rattle.fx_geom.specs.declared.shapes.Size.{Size}
use Rattle.screen_form.specs.Hits.{hits_of}
use Rattle.plain_tree.specs.Laid.{Laid, laid}
use Rattle.plain_tree.specs.declared.laid.Frame.{Frame}
use Rattle.plain_tree.specs.declared.laid.Frame.TheVariants.{Boxed, Sliver}
use Rattle.screen_form.specs.SemanticsText.{semantics_text}
use Rattle.screen_form.specs.Sem.{Sem}
use Rattle.screen_form.specs.Semantics.{semantics_of}
use Rattle.session_form.specs.FrameText.{hits_text}
use Rattle.session_form.specs.Outcome.{Outcome, done}
use Rattle.session_form.specs.State.{SessionState, Shown}
use Rattle.session_form.specs.StatesText.{states_text}

abbrev pub point : ℤ → ℤ → Offset
point x y = record { x = x; y = y }

-- the numbers of the nodes that are hit at a point of the view, the deepest first; before the first frame none is
abbrev pub hits_in : Option Shown → Offset → List ℕ
hits_in None at = []
hits_in (Some shown) at = hits_of shown.laid at

-- the semantics tree; before the first frame there is none
abbrev pub semantics_in : Option Shown → Option Sem
semantics_in shown = option_map (λ (s : Shown). semantics_of s.laid) shown

-- the size that the last frame had: that of its root, which is a box; before the first frame there is none
abbrev pub size_in : Frame → Option Size
size_in (Boxed bounds size) = Some size
size_in (Sliver bounds geometry) = None

abbrev pub laid_size : Laid → Option Size
laid_size (laid number look facts children) = size_in facts.frame

abbrev pub view_in : Option Shown → Option Size
view_in None = None
view_in (Some shown) = laid_size shown.laid

-- ---- `hit X Y`, `semantics` and `states`

abbrev pub hit_line : Offset → SessionState → Outcome
hit_line at s = done s (hits_text (hits_in s.shown at))

abbrev pub semantics_line : SessionState → Outcome
semantics_line s = done s (semantics_text (semantics_in s.shown))

abbrev pub states_line : SessionState → Outcome
states_line s = done s (states_text s.tree)
