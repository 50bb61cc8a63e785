use Rattle.std.proofs.Common.{◌≡◌, ◌∙◌, true, List, map, refl, sym, ap, rules}
use Rattle.fx_expr.specs.Value.{type_of}
use Rattle.fx_expr.specs.declared.values.Value.{Value}
use Rattle.plain_tree.specs.PlainNode.{fields_of}
use Rattle.worked_calls.proofs.Framing.{one_number}
use Rattle.worked_calls.proofs.frame_steps.Frames.set.Goals as goal

pub set_plain-requires : goal.set_plain-requires
set_plain-requires c = rw c.in-Some.is at c.requires

pub returns : goal.returns
returns c = λ delegates old.
    let one : c.is_one_number.result ≡ true = search rules in
    let n = one_number old.tree c.args.number c.fields.result.now (λ n is. c.fields.ensures.there _ _ old.marks old.tree n old.stands is) (c.fields.ensures.none _ _ old.marks old.tree old.stands)
    (c.is_one_number.ensures one) in
    let new : List Value = c.in_ok-fields.fields.items in
    let types : map type_of new ≡ map type_of (fields_of n.value) = ap (map type_of) c.in_ok-fields.ensures ∙ sym n.types in
    record {
      marks = _;
      tree = _;
      stands = c.set_fields.ensures.stands _ _ old.marks old.tree n.value (λ _. new) old.stands n.is refl types;
      room = c.set_fields.ensures.room _ _ old.marks old.tree n.value c.args.self.now.made old.stands n.is types old.room;
      well = c.in_ok-set_plain.ensures;
      typed = old.typed;
      sized = old.sized;
    }
