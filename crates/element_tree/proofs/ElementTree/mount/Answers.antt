use Rattle.std.proofs.Common.{length, [], ◌∷◌, ◌++◌, option_map, sym, ap, ◌∙◌, subst}
use Rattle.node_tree.specs.Forest.{TreeNode}
use Rattle.node_tree.specs.Mounting.{children_below}
use Rattle.element_tree.specs.Element.{Element}
use Rattle.element_tree.specs.Fields.{AreDeclared}
use Rattle.element_tree.proofs.Indexed.{indexed-added}
use Rattle.element_tree.proofs.ElementTree.mount.Goals as goal

pub invariant_of-self-2 : goal.invariant_of-self-2
invariant_of-self-2 c =
    let adds = c.in_ok-handle.ensures.adds in
    indexed-added c.self.inside.numbers.items c.put_number.new.numbers.items c.self.inside.tree c.mount.new.self c.self.inside.next c.in_ok-next.next c.in_ok-handle.handle c.mounted-element.result c.self.invariant
    (ap (option_map (λ (n : TreeNode Element). n.value)) adds.found)
    (c.edit_laws.ensures.adds c.self.inside.tree c.mount.new.self c.args.parent (length (children_below c.self.inside.tree c.args.parent)) c.in_ok-handle.handle c.mounted-element.result adds)
    (ap (option_map (λ (n : TreeNode Element). n.value)) adds.was_absent)
    adds.inserted
    (ap (λ e. e.number) c.mounted-element.ensures)
    (subst (λ (e : Element). AreDeclared e.widget e.fields) (sym c.mounted-element.ensures) c.requires.fields)
    (c.put_number.ensures ∙ ap (λ xs. xs ++ (record { number = c.self.inside.next; at = c.in_ok-handle.handle }) ∷ []) c.room_for_next.ensures.items)
    c.in_ok-next.ensures.next
