-- What a course leaves of a node and its children, once what it does at the children is done.
use Rattle.std.specs.Prelude.{◌≡◌, ℕ, zero, ◌+◌, ◌≤◌, Bool, if◌then◌else◌, Option, Some, List, [], map}
use Rattle.fx_geom.specs.declared.shapes.Axis.{Axis}
use Rattle.fx_geom.specs.Size.{HasLengths}
use Rattle.fx_handles.specs.declared.Handle.{Handle}
use Rattle.node_tree.specs.Forest.{Forest, tops}
use Rattle.widget_model.specs.Look.{Look}
use Rattle.plain_tree.specs.declared.laid.Frame.{Frame}
use Rattle.plain_tree.specs.declared.laid.Frame.TheVariants.{Sliver}
use Rattle.plain_tree.specs.declared.render.ParentData.{ParentData}
use Rattle.layout_form.specs.declared.asks.Ask.{Ask}
use Rattle.layout_form.specs.declared.asks.Ask.TheVariants.{AsBox}
use Rattle.layout_form.specs.Fits.{Fits}
use Rattle.layout_form.specs.Framed.{answers_of, last_asks}
use Rattle.layout_form.specs.Frames.{frames_given}
use Rattle.layout_form.specs.Object.{Setting}
use Rattle.layout_form.specs.SliverRule.{unseen}
use Rattle.layout_form.specs.Protocol.{Found}
use Rattle.kind_rules.specs.Asked.{found_for, AreLong, IsOffset, IsWalk}
use Rattle.layout_walk.specs.Node.{LayoutNode, member, stored, renders_in, tellings}
use Rattle.layout_walk.specs.Rule.{RuleGift}
use Rattle.layout_walk.specs.Here.{back_in}
use Rattle.layout_walk.specs.Asking.{has_frame}
use Rattle.layout_walk.specs.Measure.{opened, extents_in}
use Rattle.layout_walk.specs.Rules.{parts_of, first_in, rest_in, makes_in, liked_in}
use Rattle.layout_walk.specs.Walk.{any_mark, kept_asks, stand_all, ruled, held_back, marked_below}
use Rattle.layout_rules.specs.declared.duties.Duty.{Duty}
use Rattle.layout_rules.specs.declared.duties.Course.{Course}
use Rattle.layout_rules.specs.declared.duties.Course.TheVariants.{Stay, Visit, Hold, Run, View, Open}
use Rattle.layout_rules.specs.Duties.{Does, AllServed, runs_left, duty_runs, lay_duties}
use Rattle.layout_rules.specs.Courses.{cross_of, first_duties}

-- a sliver that was measured, as its Viewport sees it
abbrev pub measured_frame : Axis → ℕ → ℕ → Frame
measured_frame axis cross extent = Sliver (unseen axis cross) (record { scroll = extent; paint = 0 })

abbrev pub measured_frames : Axis → ℕ → List ℕ → List (Option Frame)
measured_frames axis cross extents = map (λ n. Some (measured_frame axis cross n)) extents

-- whom a course asks first
abbrev pub asked_first : Setting → Course → LayoutNode → Forest LayoutNode → List (Option Ask)
asked_first s Stay v kids = []
asked_first s Visit v kids = kept_asks kids
asked_first s (Hold ask) v kids = []
asked_first s (Run ask) v kids = first_in s (member v) ask (liked_in s v.look ask (renders_in kids)) (tellings kids)
asked_first s (View axis b) v kids = first_in s (member v) (AsBox b) (liked_in s v.look (AsBox b) (renders_in kids)) (tellings kids)
asked_first s (Open duty) v kids = []

-- the frames by which it is told whom it asks then
abbrev pub known_in : Course → List (Option Ask) → Forest LayoutNode → List (Option Frame)
known_in (View axis b) first kids = measured_frames axis (cross_of axis b) (extents_in axis (cross_of axis b) kids)
known_in course first kids = answers_of first (stored kids)

abbrev pub asked_rest : Course → LayoutNode → List ParentData → List (Option Frame) → List (Option Ask)
asked_rest Stay v ds known = []
asked_rest Visit v ds known = []
asked_rest (Hold ask) v ds known = []
asked_rest (Run ask) v ds known = rest_in (member v) v.scroll ask ds known
asked_rest (View axis b) v ds known = rest_in (member v) v.scroll (AsBox b) ds known
asked_rest (Open duty) v ds known = []

-- what stands at the end
pub record NodeOver : Type 0 where
  pub value : LayoutNode
  pub kids : Forest LayoutNode

abbrev pub run_end : Setting → Ask → LayoutNode → Forest LayoutNode → List ParentData → List (Option Ask) → List (Option Ask) → NodeOver
run_end s ask v kids ds first asks =
    let made = makes_in s (member v) v.scroll ask ds (answers_of first (stored kids)) (answers_of asks (stored kids)) in
    let below = stand_all asks made.places kids in
    record { value = ruled v made (any_mark below); kids = below }

abbrev pub held_gift : Setting → Ask → LayoutNode → RuleGift
held_gift s ask v = makes_in s (member v) v.scroll ask [] [] []

abbrev pub has_gift : Setting → Ask → LayoutNode → Bool
has_gift s ask v = has_frame v.frame (Some (held_gift s ask v).facts.frame)

abbrev pub ended : Setting → Course → LayoutNode → Forest LayoutNode → List ParentData → List (Option Ask) → List (Option Ask) → NodeOver
ended s Stay v kids ds first rest = record { value = v; kids = kids }
ended s Visit v kids ds first rest = record { value = marked_below v (any_mark kids); kids = kids }
ended s (Hold ask) v kids ds first rest = record { value = if has_gift s ask v then v else held_back v (held_gift s ask v); kids = kids }
ended s (Run ask) v kids ds first rest = run_end s ask v kids ds first (last_asks first rest)
ended s (View axis b) v kids ds first rest = run_end s (AsBox b) v kids ds first rest
ended s (Open duty) v kids ds first rest = record { value = opened v; kids = kids }

-- how often its own rule is run, where that counts for n
abbrev pub course_runs : ℕ → Setting → Course → LayoutNode → ℕ
course_runs n s (Hold ask) v = if has_gift s ask v then 0 else n
course_runs n s (Run ask) v = n
course_runs n s (View axis b) v = n
course_runs n s course v = 0

abbrev pub course_ticks : Setting → Course → LayoutNode → ℕ
course_ticks s course v = course_runs 1 s course v

-- a rule can be run over these frames
pub record CanMake (look : Look) (ask : Ask) (ds : List ParentData) (found : Found) (frames : List (Option Frame)) : Type 0 where
  pub fits : Fits look ds
  pub sizes : AreLong ask (frames_given frames)
  pub stack : HasLengths found.size
  pub offset : IsOffset ask
  pub walk : IsWalk look ask found.start (frames_given frames)

abbrev pub CanRun : Ask → LayoutNode → Forest LayoutNode → List ParentData → List (Option Ask) → List (Option Ask) → Type 0
CanRun ask v kids ds first asks = CanMake v.look ask ds (found_for v.look v.scroll ask (answers_of first (stored kids))) (answers_of asks (stored kids))

abbrev pub CanEnd : Course → LayoutNode → Forest LayoutNode → List ParentData → List (Option Ask) → List (Option Ask) → Type 0
CanEnd (Hold ask) v kids ds first rest = Fits v.look [] × IsOffset ask
CanEnd (Run ask) v kids ds first rest = CanRun ask v kids ds first (last_asks first rest)
CanEnd (View axis b) v kids ds first rest = CanRun (AsBox b) v kids ds first rest
CanEnd course v kids ds first rest = Unit {0}

-- ---- what it comes to

-- what is left is what the duty is, its rule can be run, and no more rules are run than the duty may
pub record EndsWell (s : Setting) (outer : Bool) (duty : Duty) (v : LayoutNode) (kids mid1 mid : Forest LayoutNode) (course : Course) (first rest : List (Option Ask)) : Type 0 where
  pub does : let e = ended s course v mid (tellings kids) first rest in Does (parts_of s) (back_in (parts_of s) outer) duty v kids e.value e.kids
  pub can : CanEnd course v mid (tellings kids) first rest
  pub runs : (w : Handle → ℕ) (n : ℕ)
      → course_runs n s course v + (runs_left w (parts_of s) outer zero (first_duties course first (tops kids)) kids + runs_left w (parts_of s) outer zero (lay_duties rest) mid1)
      ≤ duty_runs w n (parts_of s) outer duty v kids

-- whatever is done at the children, in two rounds, as the course says
abbrev pub Ending : Setting → Bool → Duty → LayoutNode → Forest LayoutNode → Course → Type 0
Ending s outer duty v kids course =
    (mid1 mid : Forest LayoutNode) (first rest : List (Option Ask)) → first ≡ asked_first s course v kids
    → AllServed (parts_of s) (back_in (parts_of s) outer) (first_duties course first (tops kids)) kids mid1
    → rest ≡ asked_rest course v (tellings kids) (known_in course first mid1)
    → AllServed (parts_of s) (back_in (parts_of s) outer) (lay_duties rest) mid1 mid
    → EndsWell s outer duty v kids mid1 mid course first rest
