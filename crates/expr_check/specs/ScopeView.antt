-- What an expression of the program can name, as plain data.
use Rattle.expr_check.specs.declared.names.Names.{Names}
use Rattle.expr_check.specs.Names.{PlainNames}

abbrev pub plain_names : Names → PlainNames
plain_names names = record {
  fields = names.fields.now;
  props = names.props.now;
  vars = names.vars.now;
  inherited = names.inherited.now;
  event = names.event;
}
