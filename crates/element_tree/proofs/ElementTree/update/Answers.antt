use Rattle.std.proofs.Common.{ℕ, List, map, refl, sym, ap, ◌∙◌}
use Rattle.fx_expr.specs.declared.values.Ty.{Ty}
use Rattle.widget_model.specs.View.{shared}
use Rattle.element_tree.specs.Edits.{with_widget}
use Rattle.element_tree.proofs.Indexed.{indexed-changed}
use Rattle.element_tree.proofs.ElementTree.update.Goals as goal

pub invariant_of-self : goal.invariant_of-self
invariant_of-self c =
    let follows = rw (← c.self.view_is) at c.requires in
    indexed-changed c.self.inside.numbers.items c.self.inside.tree c.set_widget.new.tree c.self.inside.next c.args.h (with_widget (shared c.args.w)) c.self.invariant c.set_widget.ensures (λ e. refl)
    (λ e at declared. declared ∙ sym (ap (map (λ (f : List ℕ × Ty). f.1)) (follows e at).fields))
