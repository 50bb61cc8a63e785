use Rattle.std.proofs.Common.{◌≡◌, ◌∙◌, true, None, List, map, sym, ap, rules}
use Rattle.fx_expr.specs.Value.{type_of}
use Rattle.fx_expr.specs.declared.values.Value.{Value}
use Rattle.program_check.specs.CheckedView.{plain_checked}
use Rattle.plain_tree.specs.At.{changed_at, having_fields}
use Rattle.element_tree.specs.Fields.{with_fields}
use Rattle.worked_calls.proofs.BothBuilds.{found, goes_on, set_stands, none_gives}
use Rattle.worked_calls.proofs.build_steps.Both.set.Goals as goal

pub returns : goal.returns
returns c =
    let s = c.args.self.now in
    let p = plain_checked c.args.checked.now in
    let t = s.t.tree in
    let u = c.set_fields.new.self.tree in
    let h = c.in-Some.h in
    let fields : List Value = c.in_ok-fields.fields.items in
    let e = found t h c.args.number ((c.find.ensures h).0 c.in-Some.is) in
    let one : c.is_one_number.result ≡ true = search rules in
    let had : map type_of e.value.fields ≡ map type_of c.fields.result.now = ap (map type_of) (sym (c.fields.ensures.live e.value e.is)) in
    let types : map type_of fields ≡ map type_of e.value.fields = ap (map type_of) c.in_ok-fields.ensures ∙ sym (had ∙ c.is_one_number.ensures one) in
    let writes = (c.set_fields.ensures.set e.value e.is types).1 in
    let stands = c.lines_leave_standing_trees.ensures.set p c.requires.marks s.plain c.requires.scrolled t u s.r.tree s.g h e.value (λ _. fields)
    c.requires.stands c.number_laws.ensures.once e.is types writes in
    let none : c.set_fields-2.result ≡ None = search rules in
    let values : c.of-values.result ≡ fields = search rules in
    let changed = none_gives c.set_fields-2.result _ none c.set_fields-2.ensures.changed ∙ ap (λ (vs : List Value). changed_at (having_fields vs) c.args.number c.in-Some-plain.plain) values in
    record {
      marks = _;
      scrolled = c.requires.scrolled;
      stands = set_stands p _ s.plain c.requires.scrolled u s.r.tree s.g e.value.number c.args.number fields c.in-Some-plain.plain c.set_fields-2.new.self
          stands e.number_is c.in-Some-plain.is changed;
      next_is = goes_on t u h (with_fields fields e.value) s.next writes c.requires.next_is;
      typed = c.requires.typed;
      sized = c.requires.sized;
    }
