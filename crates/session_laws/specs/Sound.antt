-- What holds of each state of a session whose program is typed, as each is that the check gives.
use Rattle.std.specs.Prelude.{IfSome}
use Rattle.widget_model.specs.Typed.{IsTypedWidget}
use Rattle.program_check.specs.TypedChecked.{IsTypedChecked}
use Rattle.template_build.specs.HandlersIn.{HandlersMeet, SetsNothing}
use Rattle.template_build.specs.Program.{declarations_of}
use Rattle.build_form.specs.WellBuilt.{IsWellBuilt}
use Rattle.frame_session.specs.StandsFor.{HandlersFit}
use Rattle.session_form.specs.State.{SessionState}
use Rattle.session_laws.specs.Numbers.{HasNumbers}

pub record IsSoundState (s : SessionState) : Type 0 where
  pub program : IsTypedChecked s.program
  -- the root is typed, and handlers that it has itself set nothing
  pub root : IsTypedWidget (declarations_of s.program) s.root
  pub root_sets : HandlersMeet SetsNothing s.root
  -- the tree is well built, and its handlers fit the fields of the nodes that own them
  pub tree : IfSome s.tree (IsWellBuilt (declarations_of s.program))
  pub handlers : HandlersFit s.tree
  pub numbers : HasNumbers s
