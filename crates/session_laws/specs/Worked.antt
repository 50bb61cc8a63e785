-- Small values of these definitions, worked by hand.
use Rattle.std.specs.Prelude.{◌≡◌, ℕ, pos, true, Option, Some, None, List, [], ◌∷◌, codes}
use Rattle.fx_expr.specs.declared.handlers.Handler.{Handler}
use Rattle.fx_geom.specs.Offset.{origin}
use Rattle.gesture_arena.specs.declared.gesture.ArenaEvent.TheVariants as event
use Rattle.gesture_arena.specs.declared.gesture.Gesture.TheVariants as gesture
use Rattle.widget_keys.specs.declared.keys.Key.TheVariants as key
use Rattle.widget_model.specs.declared.words.Behavior.TheVariants as behavior
use Rattle.widget_model.specs.Look.{Look, detector, padding, offstage}
use Rattle.widget_model.specs.Plain.{plain, no_widgets}
use Rattle.plain_tree.specs.Laid.{Laid, Stood}
use Rattle.plain_tree.specs.PlainNode.{PlainNode, node, no_nodes, more_nodes}
use Rattle.screen_form.specs.WorkedHits.{box, at, pile}
use Rattle.script_lines.specs.declared.entry.Entry.TheVariants as entry
use Rattle.tickers.specs.declared.tween.Curve.TheVariants as curve
use Rattle.tickers.specs.declared.tween.Tween.{Tween}
use Rattle.live_session.specs.RunState.{RunState}
use Rattle.session_laws.specs.Focus.{end_of, place_of, laid_number, CanTakeFocus}
use Rattle.session_laws.specs.Marks.{marked_by, all_marked_by}
use Rattle.session_laws.specs.Numbers.{TellApart}
use Rattle.session_laws.specs.Tweens.{IsEnded}

-- a handler that sets nothing, of a node with this number
abbrev pub owned_by : ℕ → Option Handler
owned_by owner = Some (record { owner = owner; sets = [] })

-- a Detector with a tap of the node 1, and below it one with a long press outside components
abbrev pub two_detectors : PlainNode
two_detectors =
    node 2 (plain (detector behavior.Opaque (owned_by 1) None None None None) key.None no_widgets no_widgets) [] 0 0
    (more_nodes (node 3 (plain (detector behavior.Opaque None (owned_by 0) None None None) key.None no_widgets no_widgets) [] 0 0 no_nodes) no_nodes)

-- a Detector with a tap in a node of a kind that stands at 30, 10 in a pile
abbrev pub tappable : Look → Laid
tappable look = box 1 pile 100 50 (at (pos 30) (pos 10) (box 2 look 50 40 (at (pos 5) (pos 5) (box 3 (detector behavior.Opaque (owned_by 0) None None None None) 10 10 []) ∷ [])) ∷ [])

abbrev pub way : Look → List Stood
way look =
    at (pos 30) (pos 10) (box 2 look 50 40 (at (pos 5) (pos 5) (box 3 (detector behavior.Opaque (owned_by 0) None None None None) 10 10 []) ∷ []))
    ∷ at (pos 5) (pos 5) (box 3 (detector behavior.Opaque (owned_by 0) None None None None) 10 10 []) ∷ []

abbrev pub growing : Tween
growing = record { node = 1; field = codes "n"; from = pos 0; to = pos 9; start = 0; ms = 10; curve = curve.Linear }

pub record Works : Type 0 where
  pub apart : TellApart 4 (1 ∷ 3 ∷ [])
  pub free : TellApart 3 (1 ∷ 3 ∷ []) → ⊥
  pub from_one : TellApart 3 (0 ∷ []) → ⊥
  pub twice : TellApart 3 (1 ∷ 1 ∷ []) → ⊥
  -- a tap marks the owner of its handler, a long press outside components nothing, nor what has no handler
  pub tap : marked_by (Some two_detectors) (event.Tap 2) ≡ 1 ∷ []
  pub long : marked_by (Some two_detectors) (event.Long 3) ≡ []
  pub no_long : marked_by (Some two_detectors) (event.Long 2) ≡ []
  pub all : all_marked_by (Some two_detectors) (event.Won 7 2 gesture.Tap ∷ event.Tap 2 ∷ event.Tap 9 ∷ event.Tap 2 ∷ []) ≡ 1 ∷ 1 ∷ []
  -- a way, and who can have the focus
  pub end : laid_number (end_of (tappable (padding 0 0 0 0)) (way (padding 0 0 0 0))) ≡ 3
  pub place : place_of origin (way (padding 0 0 0 0)) ≡ record { x = pos 35; y = pos 15 }
  pub can : CanTakeFocus (tappable (padding 0 0 0 0)) 3
  pub other : CanTakeFocus (tappable (padding 0 0 0 0)) 2 → ⊥
  pub hidden : CanTakeFocus (tappable (offstage true)) 3 → ⊥
  -- a tween of its field ends a tween, one of another field doesn't, nor does a press
  pub replaced : (r : RunState) → IsEnded (entry.Tween 1 (codes "n") (pos 3) (pos 4) 5 curve.Linear) r growing
  pub beside : (r : RunState) → IsEnded (entry.Tween 2 (codes "n") (pos 3) (pos 4) 5 curve.Linear) r growing → ⊥
  pub pressed : (r : RunState) → IsEnded entry.Press r growing → ⊥
