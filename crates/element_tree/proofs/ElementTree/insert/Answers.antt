use Rattle.std.proofs.Common.{List, [], ◌∷◌, ◌++◌, option_map, sym, ap, ◌∙◌, subst}
use Rattle.node_tree.specs.Forest.{TreeNode}
use Rattle.node_tree.specs.Tree.{Tree}
use Rattle.element_tree.specs.Element.{Element}
use Rattle.element_tree.specs.Fields.{AreDeclared}
use Rattle.element_tree.specs.Index.{IsIndexed}
use Rattle.element_tree.specs.declared.numbers.Numbered.{Numbered}
use Rattle.element_tree.specs.declared.edits.TreeFault.TheVariants as fault
use Rattle.element_tree.proofs.Indexed.{indexed-added, not_made, was_made, if_ok}
use Rattle.element_tree.proofs.ElementTree.insert.Goals as goal

pub invariant_of-self-in_err-handle : goal.invariant_of-self-in_err-handle
invariant_of-self-in_err-handle c =
    let same_tree = not_made c.insert-made.result c.settle.result c.in_err-handle.field-0.0 c.settle.ensures.made c.in_err-handle.was c.insert-made.ensures.err in
    let same_numbers = not_made c.insert-made.result c.settle.result c.in_err-handle.field-0.0 c.settle.ensures.made c.in_err-handle.was c.settle.ensures.err in
    subst (λ (t : Tree Element). IsIndexed c.settle.new.numbers.items t c.self.inside.next) (sym same_tree)
    (subst (λ (xs : List Numbered). IsIndexed xs c.self.inside.tree c.self.inside.next) (sym (same_numbers ∙ c.make_room.ensures.items)) c.self.invariant)

pub invariant_of-self-2 : goal.invariant_of-self-2
invariant_of-self-2 c =
    let made = was_made fault.OutOfMemory c.insert-made.result c.settle.result c.in_ok-handle.handle c.settle.ensures.made c.settle.ensures.fault c.in_ok-handle.was in
    let adds = if_ok c.insert-made.result c.in_ok-handle.handle _ made c.insert-made.ensures.adds in
    let put = if_ok c.insert-made.result c.in_ok-handle.handle _ made c.settle.ensures.index in
    indexed-added c.self.inside.numbers.items c.settle.new.numbers.items c.self.inside.tree c.insert-made.new.self c.self.inside.next c.in_ok-next.next c.in_ok-handle.handle c.new_element-element.result c.self.invariant
    (ap (option_map (λ (n : TreeNode Element). n.value)) adds.found)
    (c.edit_laws.ensures.adds c.self.inside.tree c.insert-made.new.self c.args.parent c.args.at c.in_ok-handle.handle c.new_element-element.result adds)
    (ap (option_map (λ (n : TreeNode Element). n.value)) adds.was_absent)
    adds.inserted
    (ap (λ e. e.number) c.new_element-element.ensures)
    (subst (λ (e : Element). AreDeclared e.widget e.fields) (sym c.new_element-element.ensures) c.requires.fields)
    (put ∙ ap (λ xs. xs ++ (record { number = c.self.inside.next; at = c.in_ok-handle.handle }) ∷ []) c.make_room.ensures.items)
    c.in_ok-next.ensures.next
