-- The semantics tree of a laid tree.
use Rattle.std.specs.Prelude.{None}
use Rattle.fx_geom.specs.Offset.{origin}
use Rattle.plain_tree.specs.Laid.{Laid, laid}
use Rattle.plain_tree.specs.declared.laid.Frame.{Frame}
use Rattle.screen_form.specs.Fragment.{fragment_of, node_of, rect_at}
use Rattle.screen_form.specs.Sem.{Sem}

abbrev pub frame_of : Laid → Frame
frame_of (laid number look facts children) = facts.frame

-- the view is a semantics node with the number 0: it takes what the root gives, which fills it
abbrev pub semantics_of : Laid → Sem
semantics_of root = node_of 0 (rect_at origin (frame_of root)) None None (fragment_of root origin)
