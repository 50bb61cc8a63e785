use Rattle.std.proofs.Common.{refl, ◌∙◌, subst}
use Rattle.element_tree.specs.Element.{Element}
use Rattle.element_tree.specs.Fields.{AreDeclared, with_value}
use Rattle.element_tree.proofs.Indexed.{indexed-changed, same_some}
use Rattle.element_tree.proofs.ElementTree.set_field.Goals as goal

pub invariant_of-self : goal.invariant_of-self
invariant_of-self c =
    indexed-changed c.self.inside.numbers.items c.self.inside.tree c.write_value.new.tree c.self.inside.next c.in-Some.h (with_value c.in_ok-place.place c.in_ok-place.value) c.self.invariant c.write_value.ensures (λ e. refl)
    (λ e at declared.
    let one = same_some c.in-Some-value.element.now e (c.in-Some-value.ensures ∙ at) in
    subst (λ (x : Element). AreDeclared x.widget (with_value c.in_ok-place.place c.in_ok-place.value x).fields) one c.in_ok-place.ensures.ok.2)
