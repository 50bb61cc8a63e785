use Rattle.std.proofs.Common.{◌≡◌, ◌∙◌, true, None, List, map, sym, ap, rules}
use Rattle.fx_expr.specs.Value.{type_of}
use Rattle.fx_expr.specs.declared.values.Value.{Value}
use Rattle.plain_tree.specs.PlainNode.{fields_of}
use Rattle.worked_calls.proofs.BothBuilds.{none_gives}
use Rattle.worked_calls.proofs.Framing.{set_well}
use Rattle.worked_calls.proofs.frame_steps.set_plain.Goals as goal

pub returns : goal.returns
returns c =
    let is = rw c.in-Some.is at c.find.ensures.found in
    let one : c.is_one_number.result ≡ true = search rules in
    let read : c.get.result.now ≡ fields_of c.in-Some.node.now = search rules in
    let none : c.set_fields.result ≡ None = search rules in
    let fields : List Value = c.in_ok-fields.fields.items in
    let values : c.of-values.result ≡ fields = search rules in
    set_well _ _ c.args.number c.args.plain.now c.set_fields.new.self c.in-Some.node.now is (ap (map type_of) (sym read) ∙ c.is_one_number.ensures one) (ap (map type_of) (values ∙ c.in_ok-fields.ensures))
    (none_gives c.set_fields.result _ none c.set_fields.ensures.changed) c.requires
