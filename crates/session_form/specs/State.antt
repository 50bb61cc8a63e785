-- The state of a session between two commands.
use Rattle.std.specs.Prelude.{ℕ, Option, None, List, []}
use Rattle.fx_geom.specs.declared.shapes.Size.{Size}
use Rattle.delegates.specs.Table.{Plug, first_of_each}
use Rattle.gesture_arena.specs.Moment.{Pointer}
use Rattle.widget_model.specs.Plain.{PlainWidget}
use Rattle.plain_tree.specs.Laid.{Laid}
use Rattle.plain_tree.specs.PlainNode.{PlainNode}
use Rattle.program_check.specs.Checked.{PlainChecked}
use Rattle.session_form.specs.Program.{root_widget}

-- What the last frame shows: its laid tree, and what the delegates meant in it.
pub record Shown : Type 0 where
  pub laid : Laid
  pub delegates : List Plug

-- Something that a line touched since the last frame: a delegate's name, or a Viewport's number.
pub data Touched : Type 0 where
  delegate : List ℕ → Touched
  viewport : ℕ → Touched

pub record SessionState : Type 0 where
  pub program : PlainChecked
  -- the widget of which the next frame makes the tree
  pub root : PlainWidget
  -- the tree that the last frame made, with fields and offsets as the lines since then left them; none before the first
  pub tree : Option PlainNode
  -- the number of the next node that is made
  pub next : ℕ
  -- the nodes that lines marked since the last frame, and what lines touched since then
  pub marks : List ℕ
  pub touched : List Touched
  -- none before the first frame
  pub shown : Option Shown
  -- the size that the next frame has, in u
  pub view : Size
  -- what each delegate that was handed in means now, or that it is unplugged
  pub delegates : List Plug
  -- the pointers that are down, in order of down, each with its members and moments
  pub pointers : List Pointer
  -- in milliseconds
  pub time : ℕ
  -- how many frames there were
  pub frames : ℕ

-- before the first command, where these delegates were handed in; of equal names the first counts
abbrev pub first_state : PlainChecked → List Plug → SessionState
first_state c delegates = record {
  program = c;
  root = root_widget c c.root;
  tree = None;
  next = 1;
  marks = [];
  touched = [];
  shown = None;
  view = c.view;
  delegates = first_of_each delegates;
  pointers = [];
  time = 0;
  frames = 0;
}
