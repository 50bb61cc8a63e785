-- How much a frame of a session may build, lay out and paint, by the state before it and the tree that its build makes.
use Rattle.std.specs.Prelude.{ℕ, ◌==◌, ◌*◌, nat_lt, if◌then◌else◌, Option, Some, None, option_map, List, [], filter, length}
use Rattle.std.specs.Coded.{coded_option}
use base.Stored.{Coded}
use Rattle.fx_geom.specs.contracts.shapes.Size as size
use Rattle.fx_geom.specs.declared.shapes.Size.{Size}
use Rattle.widget_model.specs.Size.{count_of}
use Rattle.plain_tree.specs.PlainNode.{PlainNode}
use Rattle.plain_tree.specs.Projection.{render_of}
use Rattle.plain_tree.specs.Render.{Render}
use Rattle.build_form.specs.Step.{Step, stops, gives}
use Rattle.build_form.specs.Entering.{Blueprint, output_limit}
use Rattle.build_form.specs.FullBuild.{Screen, live_ranges, second_phase, basis, first_tree}
use Rattle.build_form.specs.Program.{blueprint_of}
use Rattle.session_form.specs.Framing.{screen_of, top_of, laid_of}
use Rattle.session_form.specs.Seeing.{view_in}
use Rattle.session_form.specs.State.{SessionState, Shown}
use Rattle.work_sets.specs.Same.{is_same}
use Rattle.work_sets.specs.Before.{Before, Frames, frames_after}
use Rattle.work_sets.specs.Entered.{Entered, entered_widgets}
use Rattle.work_sets.specs.Due.{is_due}
use Rattle.work_sets.specs.Layout as layout
use Rattle.work_sets.specs.Paint as paint
use Rattle.work_sets.specs.Paint.{Shows}

-- ---- how far a build comes

pub data MadeTree : Type 0 where
  -- a fault before the first phase had its tree
  nothing_made : MadeTree
  -- a fault of the second phase: there is the first one's tree
  first_made : PlainNode → MadeTree
  -- no fault: there is the new tree
  all_made : PlainNode → MadeTree

abbrev pub made_second : PlainNode → Step PlainNode → MadeTree
made_second tree (stops fault) = first_made tree
made_second tree (gives new s) = all_made new

abbrev pub made_first : Blueprint → Screen → Option PlainNode → Step PlainNode → MadeTree
made_first program screen old (stops fault) = nothing_made
made_first program screen old (gives tree s) = made_second tree (second_phase (basis program old) (live_ranges screen) tree s.waiting s)

abbrev pub made : SessionState → MadeTree
made s =
    if nat_lt output_limit (count_of s.root)
    then nothing_made
    else made_first (blueprint_of s.program) (screen_of s) s.tree (first_tree (blueprint_of s.program) s.tree s.next s.root)

-- ---- what a frame is compared with

abbrev pub coded_view : Coded (Option Size)
coded_view = coded_option (size.the_row).coded

-- the one render node of a tree
abbrev pub render_root : PlainNode → Render
render_root tree = top_of (render_of tree)

abbrev pub before : Frames → SessionState → Before
before frames s = record {
  tree = option_map render_root s.tree;
  frames = frames;
  same_view = is_same coded_view (view_in s.shown) (Some s.view);
  touched = s.touched;
}

-- the frames after a line, by what is then shown: a frame's layout gives its own, and no other line changes any
abbrev pub frames_then : Option Shown → Frames → Frames
frames_then None frames = frames
frames_then (Some shown) frames = frames_after shown.laid frames

-- the laid trees of the last frame and of this one
abbrev pub shows : SessionState → PlainNode → Shows
shows s tree = record { before = option_map (λ (x : Shown). x.laid) s.shown; now = laid_of (screen_of s) tree }

-- ---- the work sets of a frame

-- the due components, of the widgets that the build enters
abbrev pub due_components : SessionState → List Entered
due_components s =
    filter (is_due (blueprint_of s.program).defaults s.tree s.marks)
    (entered_widgets (blueprint_of s.program) (screen_of s) s.tree s.next s.root)

-- the nodes that are laid out at most: of the new tree, or, after a fault of the second phase, of the first one's
abbrev pub layout_region_of : Before → MadeTree → List ℕ
layout_region_of b nothing_made = []
layout_region_of b (first_made tree) = layout.first_region b (render_root tree)
layout_region_of b (all_made tree) = layout.layout_region b (render_root tree)

abbrev pub layout_region : Frames → SessionState → List ℕ
layout_region frames s = layout_region_of (before frames s) (made s)

-- the nodes that are painted at most; after a fault nothing is
abbrev pub paint_region_of : Before → SessionState → MadeTree → List ℕ
paint_region_of b s nothing_made = []
paint_region_of b s (first_made tree) = []
paint_region_of b s (all_made tree) = paint.paint_region b (shows s tree) (render_root tree)

abbrev pub paint_region : Frames → SessionState → List ℕ
paint_region frames s = paint_region_of (before frames s) s (made s)

-- ---- how many builds, layouts and paints a frame may count

-- how often a frame may lay a node out: from version 2 on there are lazy lists, whose items come after a first layout
abbrev pub layout_rounds : ℕ → ℕ
layout_rounds version = if version == 1 then 1 else 2

pub record Work : Type 0 where
  pub builds : ℕ
  pub layouts : ℕ
  pub paints : ℕ

abbrev pub frame_work : Frames → SessionState → Work
frame_work frames s = record {
  builds = length (due_components s);
  layouts = layout_rounds s.program.version * length (layout_region frames s);
  paints = length (paint_region frames s);
}
