-- A checked program, and the place of a template in it, as plain data.
use Rattle.std.specs.Prelude.{map, false}
use Rattle.fx_expr.specs.View.{exp_of}
use Rattle.program_check.specs.declared.checked.Variables.{Variables}
use Rattle.program_check.specs.declared.checked.CheckedComponent.{CheckedComponent}
use Rattle.program_check.specs.declared.checked.CheckedParts.{CheckedParts}
use Rattle.program_check.specs.declared.places.Place.{Place}
use Rattle.program_check.specs.Place.{Signature, PlainPlace}
use Rattle.program_check.specs.Checked.{PlainVariables, PlainCheckedComponent, PlainChecked, variables_with, checked_component_with, checked_with}
use Rattle.expr_check.specs.Names.{NamedTypes}
use Rattle.program_check.specs.BodyView.{plain_body}

abbrev pub plain_variables : Variables → PlainVariables
plain_variables v = variables_with v.names (map exp_of v.values.items)

abbrev pub plain_component : CheckedComponent → PlainCheckedComponent
plain_component c = checked_component_with c.name c.props (plain_variables c.fields) c.slots c.sort (plain_body c.body)

abbrev pub plain_checked : CheckedParts → PlainChecked
plain_checked c =
    checked_with c.version c.view (plain_variables c.inherited) (map plain_component c.components.items) (plain_body c.root)

-- what a template that uses a component has to know of it
abbrev pub signature : CheckedComponent → Signature
signature c = record { name = c.name; props = c.props; slots = c.slots; sort = c.sort }

-- where a template stands, inside loops with these variables
abbrev pub plain_place : Place → NamedTypes → PlainPlace
plain_place p vars = record {
  names = record {
    fields = p.fields.now;
    props = p.props.now;
    vars = vars;
    inherited = p.inherited.now;
    event = false;
  };
  provided = p.provided.now;
  slots = p.slots.now;
  earlier = map signature p.earlier.now;
  later = p.later.now;
}
