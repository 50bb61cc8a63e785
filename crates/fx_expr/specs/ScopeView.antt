-- A scope of the program as plain data.
use Rattle.fx_expr.specs.declared.scopes.Scope.{Scope}
use Rattle.fx_expr.specs.Scope.{Env}

abbrev pub env_of : Scope → Env
env_of s = record {
  fields = s.fields.now;
  props = s.props.now;
  vars = s.vars.now;
  inherited = s.inherited.now;
  dx = s.event.0;
  dy = s.event.1;
}
