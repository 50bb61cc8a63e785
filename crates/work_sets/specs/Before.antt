-- What a frame is compared with: what was there before it.
use Rattle.std.specs.Prelude.{ℕ, ◌==◌, Bool, false, ◌&&◌, ◌||◌, Option, Some, None, option_map, List}
use Rattle.std.specs.List.{list_any}
use Rattle.std.specs.Option.{option_or}
use Rattle.std.specs.Str.{bytes_eq}
use Rattle.fx_geom.specs.declared.boxes.Bounds.{Bounds}
use Rattle.layout_form.specs.Layout.{delegate_of}
use Rattle.layout_form.specs.Object.{facts_of}
use Rattle.plain_tree.specs.declared.laid.Frame.{Frame}
use Rattle.plain_tree.specs.declared.laid.Frame.TheVariants.{Boxed, Sliver}
use Rattle.plain_tree.specs.At.{laid_at}
use Rattle.plain_tree.specs.Laid.{Laid}
use Rattle.plain_tree.specs.Render.{Render}
use Rattle.session_form.specs.State.{Touched, delegate, viewport}
use Rattle.work_sets.specs.InTree.{number_of, look_of}
use Rattle.work_roles.specs.WorkRole.{is_viewport}

-- the frame of each node's last layout, by its number, in whatever frame of the session that was; none of a node that was
-- never laid out
abbrev pub Frames : Type 0
Frames = ℕ → Option Frame

-- the frame of the node of a laid tree that has a number
abbrev pub frame_in : Laid → ℕ → Option Frame
frame_in root number = option_map (λ l. (facts_of l).frame) (laid_at number root)

-- after a layout that gave a laid tree
abbrev pub frames_after : Laid → Frames → Frames
frames_after root frames number = option_or (frame_in root number) (frames number)

-- the bounds of a box that was laid out; a sliver has none
abbrev pub bounds_in : Option Frame → Option Bounds
bounds_in None = None
bounds_in (Some (Boxed bounds size)) = Some bounds
bounds_in (Some (Sliver bounds geometry)) = None

pub record Before : Type 0 where
  -- the render tree of the last frame; none before the first
  pub tree : Option Render
  pub frames : Frames
  -- whether the view has the size that it had in the last frame
  pub same_view : Bool
  -- what lines touched since the last frame
  pub touched : List Touched

-- a Viewport, and a delegate's name, that a line touched
abbrev pub is_number : ℕ → Touched → Bool
is_number number (delegate name) = false
is_number number (viewport scrolled) = scrolled == number

abbrev pub is_name : List ℕ → Touched → Bool
is_name name (delegate changed) = bytes_eq changed name
is_name name (viewport scrolled) = false

abbrev pub names_touched : Option (List ℕ) → List Touched → Bool
names_touched None touched = false
names_touched (Some name) touched = list_any (is_name name) touched

-- a node whose delegate's name was touched
abbrev pub has_touched_delegate : List Touched → Render → Bool
has_touched_delegate touched r = names_touched (delegate_of (look_of r)) touched

-- a touched Viewport, or a node whose delegate's name was touched
abbrev pub is_touched : List Touched → Render → Bool
is_touched touched r = (is_viewport (look_of r) && list_any (is_number (number_of r)) touched) || has_touched_delegate touched r
