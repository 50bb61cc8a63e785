-- What a frame leaves.
use Rattle.std.specs.Prelude.{◌≡◌, ℕ, Option, Some, List, []}
use Rattle.fx_geom.specs.declared.shapes.Size.{Size}
use Rattle.delegates.specs.Table.{Plug}
use Rattle.plain_tree.specs.Offsets.{corrected}
use Rattle.plain_tree.specs.PlainNode.{PlainNode}
use Rattle.program_check.specs.Checked.{PlainChecked}
use Rattle.screen_form.specs.Painted.{layer_of}
use Rattle.widget_model.specs.Plain.{PlainWidget}
use Rattle.build_form.specs.FullBuild.{Screen, Built, failed, built, full_build}
use Rattle.build_form.specs.Program.{blueprint_of}
use Rattle.build_form.specs.ScreenView.{screen_on}
use Rattle.session_form.specs.Framing.{laid_of}
use Rattle.screen_owner.specs.Screen.{shown_in, layer_in}
use Rattle.build_walk.specs.Standing.{all_builds}
use Rattle.frame_owner.specs.Frame.{KeptFrame, next_in}
use Rattle.frame_owner.specs.Standing.{FrameStandsFor}

-- in what a frame is laid out: lengths of the owner's scale, these delegates, a view of this size
abbrev pub screen_for : KeptFrame → List Plug → Size → Screen
screen_for x delegates view = screen_on x.screen.scale delegates view

-- a tree that was built is shown: full layout and full painting of it; and what stands then is the tree with the offsets of its layout
pub record ShowsBuild (c : PlainChecked) (screen : Screen) (built : PlainNode) (x : KeptFrame) : Type 0 where
  pub laid : shown_in x.screen ≡ Some (laid_of screen built)
  pub layer : layer_in x.screen ≡ Some (layer_of screen.scale.cell screen.delegates (laid_of screen built))
  pub stands : FrameStandsFor c screen.delegates [] (Some (corrected (laid_of screen built) built)) x

-- what the build of a root gives after a tree for which the owner stands, and how many components it builds of which so many numbers are
-- marked
abbrev pub built_after : PlainChecked → Screen → KeptFrame → Option PlainNode → PlainWidget → Built
built_after c screen x old root = full_build (blueprint_of c) screen old (next_in x) root

abbrev pub builds_after : PlainChecked → Screen → KeptFrame → Option PlainNode → List ℕ → PlainWidget → ℕ
builds_after c screen x old marks root = all_builds (blueprint_of c) screen old marks (next_in x) root

-- a frame shows the tree that its build gives, and the next number is the build's
abbrev pub ShowsFrame : PlainChecked → Screen → Built → KeptFrame → Type 0
ShowsFrame c screen (failed fault) x = ⊥
ShowsFrame c screen (built tree next) x = ShowsBuild c screen tree x × (next_in x ≡ next)
