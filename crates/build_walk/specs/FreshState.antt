-- When the state of a session is one after which a build may keep outputs.
use Rattle.std.specs.Prelude.{IfSome}
use Rattle.build_form.specs.Program.{blueprint_of}
use Rattle.session_form.specs.State.{SessionState}
use Rattle.build_walk.specs.Fresh.{HasFreshOutputs}

-- each component of its tree that no line marked since the last frame has below it what its body gives
abbrev pub IsFreshState : SessionState → Type 0
IsFreshState s = IfSome s.tree (HasFreshOutputs (blueprint_of s.program) s.marks (blueprint_of s.program).defaults)
