-- A scene of the program as plain data.
use Rattle.std.specs.Prelude.{List, map, length}
use Rattle.fx_expr.specs.declared.values.Value.{Value}
use Rattle.fx_expr.specs.Scope.{Env}
use Rattle.widget_model.specs.Sized.{AreSized}
use Rattle.widget_model.specs.View.{shared}
use Rattle.program_check.specs.CheckedView.{plain_checked}
use Rattle.program_check.specs.DeclView.{HaveDecls}
use Rattle.template_build.specs.declared.scenes.Scene as program
use Rattle.template_build.specs.Scene.{Scene}
use Rattle.template_build.specs.Program.{scene_in}

-- with these values of the loop variables, from the outermost loop on
abbrev pub env_with : program.Scene → List Value → Env
env_with s vs = record {
  fields = s.fields.now;
  props = s.props.now;
  vars = vs;
  inherited = s.inherited.now;
  dx = s.event.0;
  dy = s.event.1;
}

abbrev pub scene_of : program.Scene → List Value → Scene
scene_of s vs = scene_in (plain_checked s.program.now) (env_with s vs) (map shared s.given.now) s.owner

-- the contents given for slots say truly how large they are, and the components of the program hold what they declare
pub record IsSoundScene (s : program.Scene) : Type 0 where
  pub sizes : AreSized s.given.now
  pub decls : HaveDecls (length s.program.now.inherited.names) s.program.now.components.items
