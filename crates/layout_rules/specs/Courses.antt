-- What a duty comes to at a node, by its marks and by what it was asked before.
use Rattle.std.specs.Prelude.{ℕ, Bool, true, false, ◌&&◌, Option, Some, List, [], ◌∷◌, map}
use Rattle.fx_geom.specs.declared.boxes.Bounds.{Bounds}
use Rattle.fx_geom.specs.declared.shapes.Axis.{Axis}
use Rattle.fx_geom.specs.Insets.{extent_of, other_of}
use Rattle.widget_model.specs.Look.{Look, viewport}
use Rattle.layout_form.specs.declared.asks.Ask.{Ask}
use Rattle.layout_form.specs.declared.asks.Ask.TheVariants.{AsBox}
use Rattle.layout_form.specs.SliverRule.{view_size}
use Rattle.layout_walk.specs.Node.{LayoutNode}
use Rattle.layout_walk.specs.Asking.{is_due}
use Rattle.layout_walk.specs.Measure.{Measured, boxed, padded, nothing, measured_in, box_in, cross_in}
use Rattle.layout_walk.specs.Rules.{holds_in}
use Rattle.layout_rules.specs.declared.duties.Duty.{Duty}
use Rattle.layout_rules.specs.declared.duties.Duty.TheVariants.{Lay, Measure}
use Rattle.layout_rules.specs.declared.duties.Course.{Course}
use Rattle.layout_rules.specs.declared.duties.Course.TheVariants.{Stay, Visit, Hold, Run, View, Open}
use Rattle.layout_rules.specs.Duties.{lay_duties}

-- the rule of a Viewport that is asked as a box needs its slivers measured
abbrev pub rule_course : Look → Ask → Course
rule_course (viewport axis) (AsBox b) = View axis b
rule_course look ask = Run ask

abbrev pub lay_course : Bool → Bool → Look → Bool → Ask → Course
lay_course true true look marked ask = Hold ask
lay_course true false look marked ask = rule_course look ask
lay_course false true look marked ask = Stay
lay_course false false look true ask = Visit
lay_course false false look false ask = Stay

abbrev pub open_course : Axis → ℕ → Measured → Course
open_course axis cross boxed = Open (Lay (box_in axis cross))
open_course axis cross (padded i) = Open (Measure axis (cross_in axis cross i))
open_course axis cross nothing = Stay

abbrev pub course_of : Bool → Duty → LayoutNode → Course
course_of outer (Lay ask) v = lay_course (is_due v ask) (outer && holds_in v.look ask) v.look v.layout_below ask
course_of outer (Measure axis cross) v = open_course axis cross (measured_in axis cross v)

-- the cross extent of the slivers of a Viewport
abbrev pub cross_of : Axis → Bounds → ℕ
cross_of axis b = extent_of (view_size b) (other_of axis)

-- what is done first at so many children, whom the rule asks so first
abbrev pub first_duties : {A : Type 0} → Course → List (Option Ask) → List A → List (Option Duty)
first_duties (View axis b) first kids = map (λ k. Some (Measure axis (cross_of axis b))) kids
first_duties (Open duty) first kids = Some duty ∷ []
first_duties course first kids = lay_duties first
