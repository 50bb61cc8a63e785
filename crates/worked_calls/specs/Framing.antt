-- What frames leave, beside plain builds.
use Rattle.std.specs.Prelude.{ℕ, Option, IfSome, List}
use Rattle.std.specs.declared.alloc.Global.{Global}
use Rattle.std.specs.declared.rc.Rc.{Rc}
use Rattle.delegates.specs.Table.{Plug}
use Rattle.widget_model.specs.Sized.{IsSized}
use Rattle.widget_model.specs.Typed.{IsTypedWidget}
use Rattle.widget_model.specs.View.{shared}
use Rattle.widget_model.specs.declared.widgets.Widget.{Widget}
use Rattle.template_build.specs.Program.{declarations_of}
use Rattle.plain_tree.specs.PlainNode.{PlainNode}
use Rattle.program_check.specs.Checked.{PlainChecked}
use Rattle.build_form.specs.WellBuilt.{IsWellBuilt}
use Rattle.frame_owner.specs.Frame.{KeptFrame}
use Rattle.frame_owner.specs.Rooms.{HasRoomAfter}
use Rattle.frame_owner.specs.Standing.{FrameStandsFor}

-- an owner stands for some tree after so many frames, a plain build can go on from this tree, and both with this root
pub record CanGoOn (c : PlainChecked) (delegates : List Plug) (root : Rc Widget Global) (plain : Option PlainNode) (frames : ℕ) (x : KeptFrame) : Type 0 where
  pub marks : List ℕ
  pub tree : Option PlainNode
  pub stands : FrameStandsFor c delegates marks tree x
  pub room : HasRoomAfter frames x
  pub well : IfSome plain (IsWellBuilt (declarations_of c))
  -- the next root
  pub typed : IsTypedWidget (declarations_of c) (shared root)
  pub sized : IsSized root.value
