use Rattle.std.proofs.Common.{◌∙◌, ◌++◌, ap, sym, subst}
use Rattle.std.specs.Option.{option_to_list}
use Rattle.node_tree.specs.Tree.{subtree_at}
use Rattle.frame_owner.specs.Nodes.{element_numbers}
use Rattle.frame_owner.specs.Standing.{FrameStandsFor}
use Rattle.frame_owner.proofs.Numbering.{none_there, root_subtree, numbers_are}
use Rattle.frame_owner.proofs.owner.FrameOwner.numbers.Goals as goal
use Rattle.frame_owner.proofs.owner.FrameOwner.numbers.Goals.{in-Some+in_ok-push_numbers, in_default}

pub returns : goal.returns
returns c = λ p ds marks tree now.
    let t = c.self.inside.elements.tree in
    let st = subst (FrameStandsFor p ds marks tree) (sym c.self.view_is) now in
    let s = st.trees.elements in
    elim c.match-root.branch [
      | in-Some+in_ok-push_numbers w ↦
          ap (λ v. v.items) w.numbers-is
          ∙ (w.in_ok-push_numbers.ensures
          ∙ (ap (λ xs. xs ++ element_numbers (subtree_at t w.in-Some.root)) c.new-numbers.ensures.items
          ∙ (ap element_numbers (root_subtree t s.forest w.in-Some.root s.is (sym (ap option_to_list (sym c.root.ensures.value ∙ w.in-Some.is)) ∙ s.root)) ∙ numbers_are tree st.scrolled s.forest s.nodes)))
      | in_default w ↦
          ap (λ v. v.items) w.numbers-is
          ∙ (c.new-numbers.ensures.items
          ∙ (sym (none_there s.forest (sym (ap option_to_list (sym c.root.ensures.value ∙ w.in_default.is)) ∙ s.root)) ∙ numbers_are tree st.scrolled s.forest s.nodes))
    ]
