use Rattle.std.proofs.Common.{refl, sym, ap, ◌∙◌, map}
use Rattle.fx_expr.specs.Value.{type_of}
use Rattle.element_tree.specs.Fields.{with_fields}
use Rattle.element_tree.proofs.Indexed.{indexed-changed, same_some}
use Rattle.element_tree.proofs.ElementTree.set_fields.Goals as goal

pub invariant_of-self : goal.invariant_of-self
invariant_of-self c =
    indexed-changed c.self.inside.numbers.items c.self.inside.tree c.write_values.new.tree c.self.inside.next c.args.h (with_fields c.args.fields.items) c.self.invariant c.write_values.ensures (λ e. refl)
    (λ e at declared.
    let one = same_some c.in-Some.element.now e (c.in-Some.ensures ∙ at) in
    ap (map type_of) (sym c.as_slice.ensures.value) ∙ c.fits.ensures.0 c.if-not-fits.false ∙ ap (λ x. map type_of x.fields) one ∙ declared)
