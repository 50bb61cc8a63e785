-- The work sets of the frame that comes after a script, worked by hand.
use Rattle.std.specs.Prelude.{◌≡◌, ℕ, pos, Option, Some, None, Result, Ok, Err, List, [], ◌∷◌, map, codes}
use Rattle.delegates.specs.Meaning.{bars}
use Rattle.delegates.specs.Table.{Plug, plugged}
use Rattle.program_form.specs.Program.{PlainProgram}
use Rattle.program_read.specs.ProgramWalk.{program_of}
use Rattle.program_read.specs.Reading.{Unread, read_as}
use Rattle.program_check.specs.Checked.{PlainChecked}
use Rattle.program_check.specs.ProgramCheck.{CheckedAt, checked_program}
use Rattle.script_lines.specs.declared.command.Command.{Command}
use Rattle.script_lines.specs.Table.{BadLine}
use Rattle.script_lines.specs.Reading.{command_of}
use Rattle.session_form.specs.Outcome.{Outcome, done, refused, faulted}
use Rattle.session_form.specs.State.{SessionState, first_state}
use Rattle.session_form.specs.Step.{step}
use Rattle.work_sets.specs.Before.{Frames}
use Rattle.work_sets.specs.Layout.{idle_region}
use Rattle.work_sets.specs.Paint.{idle_groups}
use Rattle.work_sets.specs.Work.{before, frames_then, due_components, layout_region, paint_region}

-- ---- what is read off

-- the delegates that are handed in
abbrev pub known_delegates : List Plug
known_delegates = plugged (codes "bars") (bars (pos 4) (pos 255)) ∷ []

-- the numbers of the due components, and those of the nodes of both regions
pub record Sets : Type 0 where
  pub due : List ℕ
  pub layout : List ℕ
  pub paint : List ℕ

abbrev pub sets : List ℕ → List ℕ → List ℕ → Sets
sets due layout paint = record { due = due; layout = layout; paint = paint }

abbrev pub sets_of : Frames → SessionState → Sets
sets_of frames s = sets (map (λ e. e.number) (due_components s)) (layout_region frames s) (paint_region frames s)

-- the numbers of the nodes that may have a layout flag, and a paint flag, between two frames
pub record Idle : Type 0 where
  pub layout : List ℕ
  pub paint : List ℕ

abbrev pub idle : List ℕ → List ℕ → Idle
idle layout paint = record { layout = layout; paint = paint }

abbrev pub idle_of : Frames → SessionState → Idle
idle_of frames s = idle (idle_region (before frames s)) (idle_groups (before frames s))

-- ---- what is read off after the lines of a script

module _ {A : Type 0} (none : A) (read : Frames → SessionState → A) where
  abbrev pub after_outcome : Outcome → Frames → SessionState → (Frames → SessionState → A) → A
  after_outcome (done s text) frames earlier next = next (frames_then s.shown frames) s
  after_outcome (refused why) frames earlier next = next frames earlier
  after_outcome (faulted fault) frames earlier next = next frames earlier

  abbrev pub after_line : Result (Option Command) BadLine → Frames → SessionState → (Frames → SessionState → A) → A
  after_line (Ok (Some command)) frames s next = after_outcome (step s command) frames s next
  after_line (Ok None) frames s next = next frames s
  after_line (Err bad) frames s next = next frames s

  abbrev pub after_lines : List (List ℕ) → Frames → SessionState → A
  after_lines [] frames s = read frames s
  after_lines (text ∷ texts) frames s = after_line (command_of text) frames s (λ f t. after_lines texts f t)

  abbrev pub no_frames : Frames
  no_frames number = None

  abbrev pub of_checked : CheckedAt PlainChecked → List (List ℕ) → A
  of_checked (Ok c) lines = after_lines lines no_frames (first_state c known_delegates)
  of_checked (Err bad) lines = none

  abbrev pub of_read : Result PlainProgram Unread → List (List ℕ) → A
  of_read (Ok p) lines = of_checked (checked_program p) lines
  of_read (Err why) lines = none

-- of the frame that comes after these lines, and of the flags before it
abbrev pub after : List ℕ → List (List ℕ) → Sets
after program lines = of_read (sets (0 ∷ []) [] []) sets_of (read_as program_of program) lines

abbrev pub idle_after : List ℕ → List (List ℕ) → Idle
idle_after program lines = of_read (idle (0 ∷ []) []) idle_of (read_as program_of program) lines

-- ---- programs, with the numbers that the first frame gives

-- Stack 1 of Positioned 2, RepaintBoundary 3, CustomPaint 4, and of Positioned 5, RepaintBoundary 6, use of C 7, whose body is
-- Padding 8 round ColoredBox 9; both Positioned give 8 by 8
abbrev pub two_boundaries : List ℕ
two_boundaries = codes "{\"version\":1,\"view\":[100,50],\"components\":[{\"name\":\"C\",\"fields\":[[\"n\",\"int\",0]],\"body\":{\"w\":\"Padding\",\"left\":[\"field\",\"n\"],\"child\":{\"w\":\"ColoredBox\",\"color\":1}}}],\"root\":{\"w\":\"Stack\",\"children\":[{\"w\":\"Positioned\",\"left\":0,\"top\":0,\"width\":8,\"height\":8,\"child\":{\"w\":\"RepaintBoundary\",\"child\":{\"w\":\"CustomPaint\",\"delegate\":\"bars\"}}},{\"w\":\"Positioned\",\"left\":50,\"top\":0,\"width\":8,\"height\":8,\"child\":{\"w\":\"RepaintBoundary\",\"child\":{\"w\":\"use\",\"name\":\"C\"}}}]}}"

-- Padding 1, Align 2, Padding 3, use of W 4, whose body is SizedBox 5
abbrev pub leaf : List ℕ
leaf = codes "{\"version\":1,\"view\":[100,50],\"components\":[{\"name\":\"W\",\"fields\":[[\"w\",\"int\",20]],\"body\":{\"w\":\"SizedBox\",\"width\":[\"field\",\"w\"],\"height\":10}}],\"root\":{\"w\":\"Padding\",\"left\":10,\"child\":{\"w\":\"Align\",\"child\":{\"w\":\"Padding\",\"child\":{\"w\":\"use\",\"name\":\"W\"}}}}}"

-- Padding 1, use of L 2, whose body is Row 3 of so many boxes, 4, 5 and on
abbrev pub a_list : List ℕ
a_list = codes "{\"version\":1,\"view\":[100,50],\"components\":[{\"name\":\"L\",\"fields\":[[\"k\",\"int\",2]],\"body\":{\"w\":\"Row\",\"children\":[{\"w\":\"each\",\"var\":\"v\",\"in\":[\"range\",[\"field\",\"k\"]],\"body\":{\"w\":\"SizedBox\",\"width\":10,\"height\":10,\"key\":[\"local\",[\"var\",\"v\"]]}}]}}],\"root\":{\"w\":\"Padding\",\"child\":{\"w\":\"use\",\"name\":\"L\"}}}"

-- Align 1, IntrinsicWidth 2, Column 3 of SizedBox 4 with use of W 5 and its SizedBox 6, and of ColoredBox 7 with SizedBox 8
abbrev pub intrinsic : List ℕ
intrinsic = codes "{\"version\":1,\"view\":[5120,5120],\"components\":[{\"name\":\"W\",\"fields\":[[\"w\",\"int\",100]],\"body\":{\"w\":\"SizedBox\",\"width\":[\"field\",\"w\"]}}],\"root\":{\"w\":\"Align\",\"child\":{\"w\":\"IntrinsicWidth\",\"child\":{\"w\":\"Column\",\"cross\":\"stretch\",\"children\":[{\"w\":\"SizedBox\",\"height\":10,\"child\":{\"w\":\"use\",\"name\":\"W\"}},{\"w\":\"ColoredBox\",\"color\":1,\"child\":{\"w\":\"SizedBox\",\"height\":64}}]}}}}"

-- the same without the IntrinsicWidth: Align 1, Column 2, SizedBox 3, W 4, SizedBox 5, ColoredBox 6, SizedBox 7
abbrev pub without_intrinsic : List ℕ
without_intrinsic = codes "{\"version\":1,\"view\":[5120,5120],\"components\":[{\"name\":\"W\",\"fields\":[[\"w\",\"int\",100]],\"body\":{\"w\":\"SizedBox\",\"width\":[\"field\",\"w\"]}}],\"root\":{\"w\":\"Align\",\"child\":{\"w\":\"Column\",\"cross\":\"stretch\",\"children\":[{\"w\":\"SizedBox\",\"height\":10,\"child\":{\"w\":\"use\",\"name\":\"W\"}},{\"w\":\"ColoredBox\",\"color\":1,\"child\":{\"w\":\"SizedBox\",\"height\":64}}]}}}"

-- Padding 1, Align 2, use of O 3, whose body is Offstage 4 round SizedBox 5
abbrev pub toggled : List ℕ
toggled = codes "{\"version\":1,\"view\":[100,50],\"components\":[{\"name\":\"O\",\"fields\":[[\"h\",\"bool\",true]],\"body\":{\"w\":\"Offstage\",\"offstage\":[\"field\",\"h\"],\"child\":{\"w\":\"SizedBox\",\"width\":10,\"height\":10}}}],\"root\":{\"w\":\"Padding\",\"left\":1,\"child\":{\"w\":\"Align\",\"child\":{\"w\":\"use\",\"name\":\"O\"}}}}"

-- Align 1, Offstage 2, Padding 3, use of W 4, whose body is SizedBox 5
abbrev pub in_offstage : List ℕ
in_offstage = codes "{\"version\":1,\"view\":[100,50],\"components\":[{\"name\":\"W\",\"fields\":[[\"w\",\"int\",20]],\"body\":{\"w\":\"SizedBox\",\"width\":[\"field\",\"w\"],\"height\":10}}],\"root\":{\"w\":\"Align\",\"child\":{\"w\":\"Offstage\",\"child\":{\"w\":\"Padding\",\"child\":{\"w\":\"use\",\"name\":\"W\"}}}}}"

-- Padding 1, ColoredBox 2, with a global key, SizedBox 3
abbrev pub small : List ℕ
small = codes "{\"version\":1,\"view\":[100,50],\"root\":{\"w\":\"Padding\",\"child\":{\"w\":\"ColoredBox\",\"key\":[\"global\",\"g\"],\"color\":1,\"child\":{\"w\":\"SizedBox\"}}}}"

-- Stack 1 of Positioned 2, RepaintBoundary 3, Padding 4, ColoredBox 5, with a global key, SizedBox 6, and of Positioned 7,
-- RepaintBoundary 8, Padding 9
abbrev pub moving : List ℕ
moving = codes "{\"version\":1,\"view\":[100,50],\"root\":{\"w\":\"Stack\",\"children\":[{\"w\":\"Positioned\",\"left\":0,\"top\":0,\"width\":8,\"height\":8,\"child\":{\"w\":\"RepaintBoundary\",\"child\":{\"w\":\"Padding\",\"child\":{\"w\":\"ColoredBox\",\"key\":[\"global\",\"g\"],\"color\":1,\"child\":{\"w\":\"SizedBox\"}}}}},{\"w\":\"Positioned\",\"left\":50,\"top\":0,\"width\":8,\"height\":8,\"child\":{\"w\":\"RepaintBoundary\",\"child\":{\"w\":\"Padding\"}}}]}}"

-- Row 1 of Padding 2, use of R 3, which reads a name, ColoredBox 4, and of Padding 5, use of N 6, which reads none, ColoredBox 7
abbrev pub readers : List ℕ
readers = codes "{\"version\":1,\"view\":[100,50],\"inherited\":[[\"c\",\"int\",4]],\"components\":[{\"name\":\"R\",\"body\":{\"w\":\"ColoredBox\",\"color\":[\"inherit\",\"c\"]}},{\"name\":\"N\",\"body\":{\"w\":\"ColoredBox\",\"color\":7}}],\"root\":{\"w\":\"Row\",\"children\":[{\"w\":\"Padding\",\"child\":{\"w\":\"use\",\"name\":\"R\",\"key\":[\"global\",\"r\"]}},{\"w\":\"Padding\",\"child\":{\"w\":\"use\",\"name\":\"N\",\"key\":[\"global\",\"n\"]}}]}}"

-- Row 1 of Padding 2, Padding 3, with a global key, use of R 4, ColoredBox 5, and of Padding 6
abbrev pub inner_reader : List ℕ
inner_reader = codes "{\"version\":1,\"view\":[100,50],\"inherited\":[[\"c\",\"int\",4]],\"components\":[{\"name\":\"R\",\"body\":{\"w\":\"ColoredBox\",\"color\":[\"inherit\",\"c\"]}}],\"root\":{\"w\":\"Row\",\"children\":[{\"w\":\"Padding\",\"child\":{\"w\":\"Padding\",\"key\":[\"global\",\"p\"],\"child\":{\"w\":\"use\",\"name\":\"R\"}}},{\"w\":\"Padding\"}]}}"

-- Inherit 1, Row 2 of use of R 3, ColoredBox 4, and of use of N 5, ColoredBox 6
abbrev pub provided : List ℕ
provided = codes "{\"version\":1,\"view\":[100,50],\"inherited\":[[\"c\",\"int\",4]],\"components\":[{\"name\":\"R\",\"body\":{\"w\":\"ColoredBox\",\"color\":[\"inherit\",\"c\"]}},{\"name\":\"N\",\"body\":{\"w\":\"ColoredBox\",\"color\":7}}],\"root\":{\"w\":\"Inherit\",\"name\":\"c\",\"value\":1,\"child\":{\"w\":\"Row\",\"children\":[{\"w\":\"use\",\"name\":\"R\"},{\"w\":\"use\",\"name\":\"N\"}]}}}"

-- use of P 1, ColoredBox 2
abbrev pub with_prop : List ℕ
with_prop = codes "{\"version\":1,\"view\":[100,50],\"components\":[{\"name\":\"P\",\"props\":[[\"p\",\"int\"]],\"body\":{\"w\":\"ColoredBox\",\"color\":[\"prop\",\"p\"]}}],\"root\":{\"w\":\"use\",\"name\":\"P\",\"props\":{\"p\":1}}}"

-- Viewport 1 of SliverLazy 2 of five uses of J, each with a ColoredBox: 3 and 4, 5 and 6, and on
abbrev pub lazily : List ℕ
lazily = codes "{\"version\":2,\"view\":[100,100],\"components\":[{\"name\":\"J\",\"props\":[[\"p\",\"int\"]],\"fields\":[[\"n\",\"int\",[\"prop\",\"p\"]]],\"body\":{\"w\":\"ColoredBox\",\"color\":[\"field\",\"n\"]}}],\"root\":{\"w\":\"Viewport\",\"children\":[{\"w\":\"SliverLazy\",\"extent\":16000,\"children\":[{\"w\":\"each\",\"var\":\"v\",\"in\":[\"range\",5],\"body\":{\"w\":\"use\",\"name\":\"J\",\"key\":[\"local\",[\"var\",\"v\"]],\"props\":{\"p\":[\"var\",\"v\"]}}}]}]}}"

-- Viewport 1 of SliverLazy 2 of two uses of K, each with Padding and SizedBox: 3, 4 and 5, and 6, 7 and 8
abbrev pub lazy_pair : List ℕ
lazy_pair = codes "{\"version\":2,\"view\":[100,100],\"components\":[{\"name\":\"K\",\"body\":{\"w\":\"Padding\",\"child\":{\"w\":\"SizedBox\"}}},{\"name\":\"G\",\"body\":{\"w\":\"SizedBox\",\"key\":[\"global\",\"g\"]}}],\"root\":{\"w\":\"Viewport\",\"children\":[{\"w\":\"SliverLazy\",\"extent\":16000,\"children\":[{\"w\":\"each\",\"var\":\"v\",\"in\":[\"range\",2],\"body\":{\"w\":\"use\",\"name\":\"K\"}}]}]}}"

-- Row 1 of use of H 2, use of S 3, with a global key, SizedBox 4, and of use of C 5, SizedBox 6
abbrev pub key_in_choice : List ℕ
key_in_choice = codes "{\"version\":1,\"view\":[100,50],\"components\":[{\"name\":\"S\",\"fields\":[[\"n\",\"int\",0]],\"body\":{\"w\":\"SizedBox\"}},{\"name\":\"H\",\"body\":{\"w\":\"use\",\"name\":\"S\",\"key\":[\"global\",\"g\"]}},{\"name\":\"C\",\"fields\":[[\"on\",\"bool\",false]],\"body\":{\"w\":\"if\",\"cond\":[\"field\",\"on\"],\"then\":{\"w\":\"use\",\"name\":\"S\",\"key\":[\"global\",\"g\"]},\"else\":{\"w\":\"SizedBox\"}}}],\"root\":{\"w\":\"Row\",\"children\":[{\"w\":\"use\",\"name\":\"H\"},{\"w\":\"use\",\"name\":\"C\"}]}}"

-- use of L 1, Row 2 of a SizedBox 3 with a local key
abbrev pub keyed_list : List ℕ
keyed_list = codes "{\"version\":1,\"view\":[100,50],\"components\":[{\"name\":\"L\",\"fields\":[[\"l\",\"ints\",[\"ints\",1]]],\"body\":{\"w\":\"Row\",\"children\":[{\"w\":\"each\",\"var\":\"v\",\"in\":[\"field\",\"l\"],\"body\":{\"w\":\"SizedBox\",\"key\":[\"local\",[\"var\",\"v\"]]}}]}}],\"root\":{\"w\":\"use\",\"name\":\"L\"}}"

-- Stack 1 of Positioned 2, RepaintBoundary 3, Viewport 4, SliverToBox 5, SizedBox 6, and of Positioned 7, SizedBox 8
abbrev pub inner_view : List ℕ
inner_view = codes "{\"version\":1,\"view\":[100,50],\"root\":{\"w\":\"Stack\",\"children\":[{\"w\":\"Positioned\",\"left\":0,\"top\":0,\"width\":50,\"height\":50,\"child\":{\"w\":\"RepaintBoundary\",\"child\":{\"w\":\"Viewport\",\"children\":[{\"w\":\"SliverToBox\",\"child\":{\"w\":\"SizedBox\",\"height\":100}}]}}},{\"w\":\"Positioned\",\"left\":60,\"top\":0,\"width\":8,\"height\":8,\"child\":{\"w\":\"SizedBox\"}}]}}"

-- Stack 1 of Positioned 2, RepaintBoundary 3, use of A 4, Opacity 5, RepaintBoundary 6, ColoredBox 7
abbrev pub faded : List ℕ
faded = codes "{\"version\":1,\"view\":[100,50],\"components\":[{\"name\":\"A\",\"fields\":[[\"a\",\"int\",0]],\"body\":{\"w\":\"Opacity\",\"alpha\":[\"field\",\"a\"],\"child\":{\"w\":\"RepaintBoundary\",\"child\":{\"w\":\"ColoredBox\",\"color\":1}}}}],\"root\":{\"w\":\"Stack\",\"children\":[{\"w\":\"Positioned\",\"left\":0,\"top\":0,\"width\":8,\"height\":8,\"child\":{\"w\":\"RepaintBoundary\",\"child\":{\"w\":\"use\",\"name\":\"A\"}}}]}}"

-- Padding 1, Row 2 of use of F 3, Flexible 4, ColoredBox 5, and of SizedBox 6
abbrev pub sharing : List ℕ
sharing = codes "{\"version\":1,\"view\":[100,50],\"components\":[{\"name\":\"F\",\"fields\":[[\"f\",\"int\",1]],\"body\":{\"w\":\"Flexible\",\"flex\":[\"field\",\"f\"],\"child\":{\"w\":\"ColoredBox\"}}}],\"root\":{\"w\":\"Padding\",\"left\":1,\"child\":{\"w\":\"Row\",\"children\":[{\"w\":\"use\",\"name\":\"F\"},{\"w\":\"SizedBox\",\"width\":5}]}}}"

-- Viewport 1 of SliverFixed 2 of four uses of I, each with a SizedBox: 3 and 4, 5 and 6, 7 and 8, 9 and 10; two are seen
abbrev pub four : List ℕ
four = codes "{\"version\":1,\"view\":[100,100],\"components\":[{\"name\":\"I\",\"fields\":[[\"n\",\"int\",0]],\"body\":{\"w\":\"SizedBox\",\"width\":[\"field\",\"n\"]}}],\"root\":{\"w\":\"Viewport\",\"children\":[{\"w\":\"SliverFixed\",\"extent\":60,\"children\":[{\"w\":\"each\",\"var\":\"v\",\"in\":[\"range\",4],\"body\":{\"w\":\"use\",\"name\":\"I\"}}]}]}}"

-- Align 1, IntrinsicWidth 2, CustomPaint 3
abbrev pub asked_bars : List ℕ
asked_bars = codes "{\"version\":1,\"view\":[100,50],\"root\":{\"w\":\"Align\",\"child\":{\"w\":\"IntrinsicWidth\",\"child\":{\"w\":\"CustomPaint\",\"delegate\":\"bars\"}}}}"

-- ---- the scripts

pub record Works : Type 0 where
  -- before the first frame all is new
  pub first_frame : after two_boundaries [] ≡ sets (7 ∷ []) (1 ∷ 3 ∷ 4 ∷ 6 ∷ 8 ∷ 9 ∷ []) (1 ∷ 3 ∷ 4 ∷ 6 ∷ 8 ∷ 9 ∷ [])
  -- nothing happened, and a line was refused
  pub quiet_frame : after two_boundaries (codes "frame" ∷ []) ≡ sets [] [] []
  pub refused_line : after two_boundaries (codes "frame" ∷ codes "set #99 n 1" ∷ []) ≡ sets [] [] []
  -- a marked component is due; its padding, which has one size that it may take, is laid out with what is below it, and is painted
  -- with all of its group
  pub field_set : after two_boundaries (codes "frame" ∷ codes "set #7 n 1" ∷ []) ≡ sets (7 ∷ []) (8 ∷ 9 ∷ []) (6 ∷ 8 ∷ 9 ∷ [])
  -- a component is marked also where its field has the value that it had
  pub same_field_set : after two_boundaries (codes "frame" ∷ codes "set #7 n 0" ∷ []) ≡ sets (7 ∷ []) [] []
  -- who uses a touched delegate is laid out, and painted with all of its group
  pub delegate_touched : after two_boundaries (codes "frame" ∷ codes "delegate bars count 2" ∷ []) ≡ sets [] (4 ∷ []) (3 ∷ 4 ∷ [])
  pub unplugged : after two_boundaries (codes "frame" ∷ codes "unplug bars" ∷ []) ≡ sets [] (4 ∷ []) (3 ∷ 4 ∷ [])
  -- another view: all is laid out, but the root alone has other bounds
  pub resized : after two_boundaries (codes "frame" ∷ codes "resize 200 50" ∷ []) ≡ sets [] (1 ∷ 3 ∷ 4 ∷ 6 ∷ 8 ∷ 9 ∷ []) (1 ∷ [])
  -- a leaf, up to the box above it that has one size that it may take
  pub leaf_changed : after leaf (codes "frame" ∷ codes "set #4 w 30" ∷ []) ≡ sets (4 ∷ []) (2 ∷ 3 ∷ 5 ∷ []) (1 ∷ 2 ∷ 3 ∷ 5 ∷ [])
  -- a child more, a child less, and as many as before
  pub longer_list : after a_list (codes "frame" ∷ codes "set #2 k 3" ∷ []) ≡ sets (2 ∷ []) (3 ∷ 4 ∷ 5 ∷ 6 ∷ []) (1 ∷ 3 ∷ 4 ∷ 5 ∷ 6 ∷ [])
  pub shorter_list : after a_list (codes "frame" ∷ codes "set #2 k 1" ∷ []) ≡ sets (2 ∷ []) (3 ∷ 4 ∷ []) (1 ∷ 3 ∷ 4 ∷ [])
  pub same_list : after a_list (codes "frame" ∷ codes "set #2 k 2" ∷ []) ≡ sets (2 ∷ []) [] []
  -- below an IntrinsicWidth no box is a boundary, also where it has one size that it may take
  pub below_intrinsic : after intrinsic (codes "frame" ∷ codes "set #5 w 300" ∷ []) ≡ sets (5 ∷ []) (1 ∷ 2 ∷ 3 ∷ 4 ∷ 6 ∷ 7 ∷ 8 ∷ []) (1 ∷ 2 ∷ 3 ∷ 4 ∷ 6 ∷ 7 ∷ 8 ∷ [])
  pub not_below_intrinsic : after without_intrinsic (codes "frame" ∷ codes "set #4 w 300" ∷ []) ≡ sets (4 ∷ []) (5 ∷ []) (1 ∷ 2 ∷ 3 ∷ 5 ∷ 6 ∷ 7 ∷ [])
  -- an Offstage that shows again, or is hidden again, is a boundary in one of the two trees alone
  pub shown_again : after toggled (codes "frame" ∷ codes "set #3 h false" ∷ []) ≡ sets (3 ∷ []) (2 ∷ 4 ∷ 5 ∷ []) (1 ∷ 2 ∷ 4 ∷ 5 ∷ [])
  pub hidden_again : after toggled (codes "frame" ∷ codes "set #3 h false" ∷ codes "frame" ∷ codes "set #3 h true" ∷ []) ≡ sets (3 ∷ []) (2 ∷ 4 ∷ 5 ∷ []) (1 ∷ 2 ∷ 4 ∷ 5 ∷ [])
  -- the child of an Offstage that stays offstage is a boundary
  pub below_offstage : after in_offstage (codes "frame" ∷ codes "set #4 w 30" ∷ []) ≡ sets (4 ∷ []) (3 ∷ 5 ∷ []) (1 ∷ 2 ∷ 3 ∷ 5 ∷ [])
  -- a root that is new, and one that stood below another node
  pub other_root : after small (codes "frame" ∷ codes "root {\"w\":\"SizedBox\"}" ∷ []) ≡ sets [] (4 ∷ []) (4 ∷ [])
  pub risen_root : after small (codes "frame" ∷ codes "root {\"w\":\"ColoredBox\",\"key\":[\"global\",\"g\"],\"color\":1,\"child\":{\"w\":\"SizedBox\"}}" ∷ []) ≡ sets [] (2 ∷ 3 ∷ []) (2 ∷ 3 ∷ [])
  -- a subtree that moves with its global key: the boundary that it leaves, the one that it comes below, and itself
  pub moved_subtree : after moving (codes "frame" ∷ codes "root {\"w\":\"Stack\",\"children\":[{\"w\":\"Positioned\",\"left\":0,\"top\":0,\"width\":8,\"height\":8,\"child\":{\"w\":\"RepaintBoundary\",\"child\":{\"w\":\"Padding\"}}},{\"w\":\"Positioned\",\"left\":50,\"top\":0,\"width\":8,\"height\":8,\"child\":{\"w\":\"RepaintBoundary\",\"child\":{\"w\":\"Padding\",\"child\":{\"w\":\"ColoredBox\",\"key\":[\"global\",\"g\"],\"color\":1,\"child\":{\"w\":\"SizedBox\"}}}}}]}" ∷ []) ≡ sets [] (4 ∷ 9 ∷ 5 ∷ 6 ∷ []) (3 ∷ 4 ∷ 8 ∷ 9 ∷ 5 ∷ 6 ∷ [])
  -- a component that moves is due where it reads an inherited name, also where a node above it moves
  pub moved_reader : after readers (codes "frame" ∷ codes "root {\"w\":\"Row\",\"children\":[{\"w\":\"Padding\",\"child\":{\"w\":\"use\",\"name\":\"N\",\"key\":[\"global\",\"n\"]}},{\"w\":\"Padding\",\"child\":{\"w\":\"use\",\"name\":\"R\",\"key\":[\"global\",\"r\"]}}]}" ∷ []) ≡ sets (3 ∷ []) (1 ∷ 2 ∷ 7 ∷ 5 ∷ 4 ∷ []) (1 ∷ 2 ∷ 7 ∷ 5 ∷ 4 ∷ [])
  pub moved_with_parent : after inner_reader (codes "frame" ∷ codes "root {\"w\":\"Row\",\"children\":[{\"w\":\"Padding\"},{\"w\":\"Padding\",\"child\":{\"w\":\"Padding\",\"key\":[\"global\",\"p\"],\"child\":{\"w\":\"use\",\"name\":\"R\"}}}]}" ∷ []) ≡ sets (4 ∷ []) (1 ∷ 2 ∷ 6 ∷ 3 ∷ 5 ∷ []) (1 ∷ 2 ∷ 6 ∷ 3 ∷ 5 ∷ [])
  -- a name has another value: who reads it is due
  pub other_value : after provided (codes "frame" ∷ codes "root {\"w\":\"Inherit\",\"name\":\"c\",\"value\":2,\"child\":{\"w\":\"Row\",\"children\":[{\"w\":\"use\",\"name\":\"R\"},{\"w\":\"use\",\"name\":\"N\"}]}}" ∷ []) ≡ sets (3 ∷ []) [] (2 ∷ 4 ∷ 6 ∷ [])
  -- another widget, and the same
  pub other_widget : after with_prop (codes "frame" ∷ codes "root {\"w\":\"use\",\"name\":\"P\",\"props\":{\"p\":2}}" ∷ []) ≡ sets (1 ∷ []) [] (2 ∷ [])
  pub same_widget : after with_prop (codes "frame" ∷ codes "root {\"w\":\"use\",\"name\":\"P\",\"props\":{\"p\":1}}" ∷ []) ≡ sets [] [] []
  -- the items of a lazy list near the view come in the second phase
  pub first_items : after lazily [] ≡ sets (3 ∷ 5 ∷ []) (1 ∷ 2 ∷ 4 ∷ 6 ∷ []) (1 ∷ 2 ∷ 4 ∷ 6 ∷ [])
  pub same_items : after lazily (codes "frame" ∷ []) ≡ sets [] [] []
  pub item_changed : after lazily (codes "frame" ∷ codes "set #3 n 9" ∷ []) ≡ sets (3 ∷ []) [] (1 ∷ 2 ∷ 4 ∷ 6 ∷ [])
  pub other_items : after lazily (codes "frame" ∷ codes "scroll #1 40000" ∷ []) ≡ sets (7 ∷ 9 ∷ []) (1 ∷ 2 ∷ 6 ∷ 8 ∷ 10 ∷ []) (1 ∷ 2 ∷ 6 ∷ 8 ∷ 10 ∷ [])
  -- a fault of the second phase: the first item's widgets were entered, and the second item; the lazy list is laid out without items
  pub fault_in_second : after lazy_pair (codes "frame" ∷ codes "root {\"w\":\"Viewport\",\"children\":[{\"w\":\"SliverLazy\",\"extent\":16000,\"children\":[{\"w\":\"each\",\"var\":\"v\",\"in\":[\"range\",2],\"body\":{\"w\":\"use\",\"name\":\"G\"}}]}]}" ∷ []) ≡ sets (9 ∷ 11 ∷ []) (1 ∷ 2 ∷ []) []
  -- faults of the first phase: a global key is met again, and two children have one key
  pub fault_in_first : after key_in_choice (codes "frame" ∷ codes "set #5 on true" ∷ []) ≡ sets (5 ∷ []) [] []
  -- what isn't let in isn't due, though it is marked: the component with the global key counts once
  pub fault_of_marked : after key_in_choice (codes "frame" ∷ codes "set #3 n 1" ∷ codes "set #5 on true" ∷ []) ≡ sets (3 ∷ 5 ∷ []) [] []
  pub fault_of_siblings : after keyed_list (codes "frame" ∷ codes "set #1 l [1,1]" ∷ []) ≡ sets (1 ∷ []) [] []
  -- a Viewport that is scrolled; and one that is touched, but stands where it stood
  pub scrolled : after inner_view (codes "frame" ∷ codes "scroll #4 10" ∷ []) ≡ sets [] (4 ∷ 5 ∷ 6 ∷ []) (3 ∷ 4 ∷ 5 ∷ 6 ∷ [])
  pub touched_alone : after inner_view (codes "frame" ∷ codes "scroll #4 0" ∷ []) ≡ sets [] (4 ∷ 5 ∷ 6 ∷ []) []
  -- an Opacity that shows, hides, or fades what is below it
  pub fades_in : after faded (codes "frame" ∷ codes "set #4 a 128" ∷ []) ≡ sets (4 ∷ []) [] (3 ∷ 5 ∷ 6 ∷ 7 ∷ [])
  pub fades_out : after faded (codes "frame" ∷ codes "set #4 a 128" ∷ codes "frame" ∷ codes "set #4 a 0" ∷ []) ≡ sets (4 ∷ []) [] (3 ∷ 5 ∷ 6 ∷ 7 ∷ [])
  pub fades : after faded (codes "frame" ∷ codes "set #4 a 128" ∷ codes "frame" ∷ codes "set #4 a 200" ∷ []) ≡ sets (4 ∷ []) [] (3 ∷ 5 ∷ [])
  -- what a parent takes from the widgets between changes its list, and here no box
  pub other_share : after sharing (codes "frame" ∷ codes "set #3 f 2" ∷ []) ≡ sets (3 ∷ []) (2 ∷ 5 ∷ 6 ∷ []) []
  -- an item that was seen two frames ago has the bounds that it had then, and one that was never seen has none
  pub unseen_changed : after four (codes "frame" ∷ codes "scroll #1 120" ∷ codes "frame" ∷ codes "set #3 n 5" ∷ []) ≡ sets (3 ∷ []) (4 ∷ []) (1 ∷ 2 ∷ 4 ∷ 6 ∷ 8 ∷ 10 ∷ [])
  pub never_seen_changed : after four (codes "frame" ∷ codes "set #7 n 5" ∷ []) ≡ sets (7 ∷ []) (1 ∷ 2 ∷ 4 ∷ 6 ∷ 8 ∷ 10 ∷ []) (1 ∷ 2 ∷ 4 ∷ 6 ∷ 8 ∷ 10 ∷ [])
  -- between two frames: what may have a flag
  pub no_cause : idle_after two_boundaries (codes "frame" ∷ []) ≡ idle [] []
  pub no_cause_in_view : idle_after two_boundaries (codes "frame" ∷ codes "resize 10 10" ∷ codes "set #7 n 1" ∷ []) ≡ idle [] []
  pub delegate_is_cause : idle_after two_boundaries (codes "frame" ∷ codes "delegate bars count 2" ∷ []) ≡ idle (4 ∷ []) (3 ∷ 4 ∷ [])
  pub before_any_frame : idle_after two_boundaries (codes "delegate bars count 2" ∷ []) ≡ idle [] []
  pub scroll_is_cause : idle_after inner_view (codes "frame" ∷ codes "scroll #4 10" ∷ []) ≡ idle (4 ∷ 5 ∷ 6 ∷ []) []
  pub cause_below_intrinsic : idle_after asked_bars (codes "frame" ∷ codes "delegate bars count 2" ∷ []) ≡ idle (1 ∷ 2 ∷ 3 ∷ []) (1 ∷ 2 ∷ 3 ∷ [])
