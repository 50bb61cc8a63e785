-- No definition of hits, but the steps of a program that asks: what a node answers without asking its children, if it does;
-- and whether it is added after them, and what it answers then. And whether there is nothing to ask at a place.
use Rattle.std.specs.Prelude.{Bool, true, false, ◌||◌, int_lt, Option, Some, None, if◌then◌else◌, List, [], ◌∷◌}
use Rattle.fx_geom.specs.declared.shapes.Offset.{Offset}
use Rattle.screen_form.specs.declared.hit_role.HitRole.{HitRole}
use Rattle.screen_form.specs.declared.hit_role.HitRole.TheVariants.{Ignores, Absorbs, Opaque, Translucent, Defers}

abbrev pub answer_alone : HitRole → Bool → Option Bool
answer_alone Ignores inside = Some false
answer_alone Absorbs inside = Some inside
answer_alone Opaque inside = if inside then None else Some false
answer_alone Translucent inside = if inside then None else Some false
answer_alone Defers inside = if inside then None else Some false

abbrev pub is_added : HitRole → Bool → Bool
is_added Ignores below = false
is_added Absorbs below = false
is_added Opaque below = true
is_added Translucent below = true
is_added Defers below = below

abbrev pub answer_of : HitRole → Bool → Bool
answer_of Ignores below = false
answer_of Absorbs below = true
answer_of Opaque below = true
answer_of Translucent below = below
answer_of Defers below = below

abbrev pub if_added : {A : Type 0} → Bool → A → List A
if_added true x = x ∷ []
if_added false x = []

-- whether a point lies before what stands at a place, to the left of it or above it, or nothing stands there
abbrev pub is_before : Offset → Option Offset → Bool
is_before point None = true
is_before point (Some at) = int_lt point.x at.x || int_lt point.y at.y
