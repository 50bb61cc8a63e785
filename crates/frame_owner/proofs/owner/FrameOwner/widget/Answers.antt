use Rattle.std.proofs.Common.{ap, sym, subst, ◌∙◌, Some, option_map}
use Rattle.element_tree.specs.Element.{Element}
use Rattle.plain_tree.specs.PlainNode.{widget_of}
use Rattle.session_form.specs.Handlers.{node_in}
use Rattle.frame_owner.specs.Standing.{FrameStandsFor}
use Rattle.frame_owner.proofs.Found.{element_with, none_found}
use Rattle.frame_owner.proofs.owner.FrameOwner.widget.Goals as goal

pub returns-in-Some : goal.returns-in-Some
returns-in-Some c = λ p ds marks tree now.
    let t = c.self.inside.elements.tree in
    let st = subst (FrameStandsFor p ds marks tree) (sym c.self.view_is) now in
    let w = element_with t c.in-Some.h c.args.number ((c.find.ensures c.in-Some.h).0 c.in-Some.is) in
    let n = c.elements_are_nodes.ensures.found p marks tree st.scrolled t c.self.inside.nodes.tree c.self.inside.keys c.in-Some.h w.element st.trees c.number_laws.ensures.once w.is in
    c.widget.ensures ∙ (ap (option_map (λ (e : Element). e.widget)) w.is
    ∙ (ap (λ x. Some x) (sym n.2) ∙ ap (option_map widget_of) (sym (ap (node_in tree) (sym w.number_is) ∙ n.1))))

pub returns-in-None : goal.returns-in-None
returns-in-None c = λ p ds marks tree now.
    let t = c.self.inside.elements.tree in
    let st = subst (FrameStandsFor p ds marks tree) (sym c.self.view_is) now in
    sym (ap (option_map widget_of) (c.elements_are_nodes.ensures.missing p marks tree st.scrolled t c.self.inside.nodes.tree c.self.inside.keys c.args.number st.trees
    (none_found t c.args.number c.find.result c.in-None.is (λ h e. (c.find.ensures h).1 e))))
