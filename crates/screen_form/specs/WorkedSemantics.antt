-- What small laid trees say, and what is done in them, worked by hand.
use Rattle.std.specs.Prelude.{◌≡◌, ℕ, pos, Bool, true, false, Option, Some, None, List, [], ◌∷◌, codes, Ok, Err}
use Rattle.fx_geom.specs.declared.lengths.Len.TheVariants as len
use Rattle.fx_geom.specs.declared.shapes.Axis.TheVariants as axis
use Rattle.fx_geom.specs.declared.shapes.Rect.{Rect}
use Rattle.fx_geom.specs.declared.words.CrossAlign.TheVariants as cross
use Rattle.fx_geom.specs.declared.words.MainAlign.TheVariants as main
use Rattle.fx_geom.specs.Bounds.{bounds_of}
use Rattle.fx_expr.specs.declared.handlers.Handler.{Handler}
use Rattle.widget_model.specs.declared.words.Behavior.TheVariants as behavior
use Rattle.widget_model.specs.declared.words.MainSize.TheVariants as main_size
use Rattle.widget_model.specs.Look.{Look, text, column, opacity, merge_semantics, offstage, detector, semantics, exclude_semantics, viewport, sliver_to_box}
use Rattle.plain_tree.specs.declared.laid.Facts.{Facts}
use Rattle.plain_tree.specs.declared.laid.Frame.{Frame}
use Rattle.plain_tree.specs.declared.laid.Frame.TheVariants.{Boxed, Sliver}
use Rattle.plain_tree.specs.Laid.{Laid, laid, Stood, laids_of}
use Rattle.screen_form.specs.declared.act_fault.ActFault.TheVariants.{NoSemanticsNode, NoAction}
use Rattle.script_lines.specs.declared.command.Action.TheVariants.{Tap, Long}
use Rattle.screen_form.specs.Sem.{Sem, sem, sems_of}
use Rattle.screen_form.specs.Semantics.{semantics_of}
use Rattle.screen_form.specs.Acts.{acted}
use Rattle.screen_form.specs.SemanticsText.{semantics_text}

abbrev pub sized : ℕ → ℕ → Frame
sized w h = Boxed (bounds_of 0 len.Unbounded 0 len.Unbounded) (record { w = w; h = h })

abbrev pub sliver : ℕ → Frame
sliver seen = Sliver (record { axis = axis.Vertical; offset = 0; remaining = 100; cross = 90 }) (record { scroll = 40; paint = seen })

abbrev pub facts : Frame → Facts
facts frame = record { frame = frame; notes = record { overflow = 0; unbounded = false }; plugged = false; scrolled = 0 }

-- a child that stands so far below its parent's upper edge
abbrev pub below : ℕ → Laid → Stood
below y l = record { at = record { x = pos 0; y = pos y }; child = l }

abbrev pub shown : ℕ → Look → List Stood → Laid
shown number look children = laid number look (facts (sized 90 10)) (laids_of children)

abbrev pub words : ℕ → List ℕ → Laid
words number label = shown number (text label 0) []

abbrev pub down : Look
down = column main.Start cross.Center main_size.Max

abbrev pub rect : ℕ → Rect
rect y = record { at = record { x = pos 0; y = pos y }; size = record { w = 90; h = 10 } }

abbrev pub view : List ℕ → Bool → List Sem → Sem
view label button nodes = sem 0 (rect 0) label button None None (sems_of nodes)

abbrev pub handler : Option Handler
handler = Some (record { owner = 0; sets = [] })

abbrev pub tapped : Look
tapped = detector behavior.Defer handler None None None None

abbrev pub pressed : Look
pressed = detector behavior.Defer handler handler None None None

abbrev pub dragged : Look
dragged = detector behavior.Defer None None handler None None

-- a detector's label is its own, and the labels beside it are the view's
abbrev pub list : Laid
list = shown 1 down (below 0 (words 2 (codes "a")) ∷ below 10 (shown 3 tapped (below 0 (words 4 (codes "b")) ∷ [])) ∷ below 20 (words 5 (codes "c")) ∷ [])

-- in a merging node a detector's own label comes before that of the node in it, which is a button
abbrev pub card : Laid
card =
    shown 1 merge_semantics
    (below 0 (shown 2 down
    (below 0 (words 3 (codes "a"))
    ∷ below 10 (shown 4 tapped (below 0 (shown 5 down (below 0 (shown 6 (semantics (codes "c") true true) []) ∷ below 10 (words 7 (codes "b")) ∷ [])) ∷ []))
    ∷ below 20 (shown 8 pressed (below 0 (words 9 []) ∷ []))
    ∷ below 30 (words 10 (codes "d"))
    ∷ []))
    ∷ [])

-- a button below a group without a label, which is merged
abbrev pub labelled : Laid
labelled =
    shown 1 merge_semantics
    (below 0 (shown 2 (semantics [] false true) (below 0 (shown 3 (semantics (codes "b") true false) []) ∷ [])) ∷ [])

pub record Works : Type 0 where
  -- a label goes to the nearest node above it, which may be the view; an empty one adds nothing
  pub apart : semantics_of list ≡ view (codes "a\nc") false (sem 3 (rect 10) (codes "b") false (Some 3) None (sems_of []) ∷ [])
  pub no_action : semantics_of (shown 1 dragged (below 0 (words 2 (codes "y")) ∷ [])) ≡ view (codes "y") false []
  pub empty_labels : semantics_of (shown 1 down (below 0 (words 2 []) ∷ below 10 (words 3 (codes "a")) ∷ below 20 (shown 4 (semantics [] false false) []) ∷ [])) ≡ view (codes "a") false []
  -- a Semantics forms a node where it is a container, and else gives its label and its flag `button` to the nearest node above it
  pub no_group : semantics_of (shown 1 (semantics (codes "x") true false) (below 0 (words 2 (codes "y")) ∷ [])) ≡ view (codes "x\ny") true []
  pub group : semantics_of (shown 1 (semantics (codes "x") true true) (below 0 (words 2 (codes "y")) ∷ []))
      ≡ view [] false (sem 1 (rect 0) (codes "x\ny") true None None (sems_of []) ∷ [])
  pub empty_group : semantics_of (shown 1 (semantics [] false true) []) ≡ view [] false (sem 1 (rect 0) [] false None None (sems_of []) ∷ [])
  pub button_in_group : semantics_of (shown 1 (semantics (codes "a") false true) (below 0 (shown 2 (semantics (codes "b") true false) []) ∷ []))
      ≡ view [] false (sem 1 (rect 0) (codes "a\nb") true None None (sems_of []) ∷ [])
  pub group_in_group : semantics_of (shown 1 (semantics (codes "a") false true) (below 10 (shown 2 (semantics (codes "b") true true) []) ∷ []))
      ≡ view [] false (sem 1 (rect 0) (codes "a") false None None (sems_of (sem 2 (rect 10) (codes "b") true None None (sems_of []) ∷ [])) ∷ [])
  -- a MergeSemantics takes all labels, the first detector of each action, and the button of any node below it
  pub merged : semantics_of card ≡ view [] false (sem 1 (rect 0) (codes "a\nb\nc\nd") true (Some 4) (Some 8) (sems_of []) ∷ [])
  pub merged_twice : semantics_of (shown 11 merge_semantics (below 5 card ∷ below 40 (words 12 (codes "e")) ∷ []))
      ≡ view [] false (sem 11 (rect 0) (codes "a\nb\nc\nd\ne") true (Some 4) (Some 8) (sems_of []) ∷ [])
  pub merged_group : semantics_of (shown 1 merge_semantics (below 0 (shown 2 (semantics (codes "a") true true) []) ∷ []))
      ≡ view [] false (sem 1 (rect 0) (codes "a") true None None (sems_of []) ∷ [])
  pub merged_button : semantics_of labelled ≡ view [] false (sem 1 (rect 0) (codes "b") true None None (sems_of []) ∷ [])
  -- nothing comes from below what hides
  pub excluded : semantics_of (shown 1 (exclude_semantics true) (below 0 list ∷ [])) ≡ view [] false []
  pub included : semantics_of (shown 6 (exclude_semantics false) (below 0 (words 2 (codes "y")) ∷ [])) ≡ view (codes "y") false []
  pub excluded_amid : semantics_of (shown 1 (semantics [] false true)
      (below 0 (words 2 (codes "a")) ∷ below 10 (shown 3 (exclude_semantics true) (below 0 (shown 4 (semantics (codes "x") true false) []) ∷ below 0 card ∷ [])) ∷ below 20 (words 5 (codes "b")) ∷ []))
      ≡ view [] false (sem 1 (rect 0) (codes "a\nb") false None None (sems_of []) ∷ [])
  pub offstaged : semantics_of (shown 1 (offstage true) (below 0 list ∷ [])) ≡ view [] false []
  pub onstage : semantics_of (shown 1 (offstage false) (below 0 (words 2 (codes "y")) ∷ [])) ≡ view (codes "y") false []
  pub clear : semantics_of (shown 1 (opacity 0) (below 0 list ∷ [])) ≡ view [] false []
  pub faint : semantics_of (shown 1 (opacity 1) (below 0 (words 2 (codes "y")) ∷ [])) ≡ view (codes "y") false []
  pub scrolled_out : semantics_of (shown 1 (viewport axis.Vertical) (below 0 (laid 2 sliver_to_box (facts (sliver 0)) (laids_of (below 0 list ∷ []))) ∷ [])) ≡ view [] false []
  pub in_view : semantics_of (shown 1 (viewport axis.Vertical) (below 7 (laid 2 sliver_to_box (facts (sliver 10)) (laids_of (below 3 (shown 3 tapped []) ∷ []))) ∷ []))
      ≡ view [] false (sem 3 (rect 10) [] false (Some 3) None (sems_of []) ∷ [])
  -- an action is done by its node's detector
  pub tapped_itself : acted (semantics_of list) 3 Tap ≡ Ok 3
  pub not_pressed : acted (semantics_of list) 3 Long ≡ Err NoAction
  pub view_acts_not : acted (semantics_of list) 0 Tap ≡ Err NoAction
  pub no_node : acted (semantics_of list) 4 Tap ≡ Err NoSemanticsNode
  pub first_in_card : acted (semantics_of card) 1 Tap ≡ Ok 4
  pub other_in_card : acted (semantics_of card) 1 Long ≡ Ok 8
  pub merged_away : acted (semantics_of card) 4 Tap ≡ Err NoSemanticsNode
  -- the printed text
  pub no_tree : semantics_text None ≡ codes "semantics\nend\n"
  pub printed : semantics_text (Some (semantics_of labelled)) ≡ codes "semantics\n#0 0 0 90 10 \"\"\n  #1 0 0 90 10 \"b\" button\nend\n"
