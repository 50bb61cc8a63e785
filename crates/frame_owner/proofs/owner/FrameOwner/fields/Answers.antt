use Rattle.std.proofs.Common.{ap, sym, subst, ◌∙◌}
use Rattle.plain_tree.specs.PlainNode.{fields_of}
use Rattle.session_form.specs.Handlers.{node_in}
use Rattle.frame_owner.specs.Standing.{FrameStandsFor}
use Rattle.frame_owner.proofs.Found.{element_with, none_found, same_node, some_none}
use Rattle.frame_owner.proofs.owner.FrameOwner.fields.Goals as goal

pub returns-in-Some-clause-there : goal.returns-in-Some-clause-there
returns-in-Some-clause-there c = λ p ds marks tree m now there.
    let t = c.self.inside.elements.tree in
    let st = subst (FrameStandsFor p ds marks tree) (sym c.self.view_is) now in
    let w = element_with t c.in-Some.h c.args.number ((c.find.ensures c.in-Some.h).0 c.in-Some.is) in
    let n = c.elements_are_nodes.ensures.found p marks tree st.scrolled t c.self.inside.nodes.tree c.self.inside.keys c.in-Some.h w.element st.trees c.number_laws.ensures.once w.is in
    c.fields.ensures.live w.element w.is ∙ (sym n.3 ∙ ap fields_of (same_node n.0 m (sym (ap (node_in tree) (sym w.number_is) ∙ n.1) ∙ there)))

pub returns-in-Some-clause-none : goal.returns-in-Some-clause-none
returns-in-Some-clause-none c = λ p ds marks tree now nothing.
    let t = c.self.inside.elements.tree in
    let st = subst (FrameStandsFor p ds marks tree) (sym c.self.view_is) now in
    let w = element_with t c.in-Some.h c.args.number ((c.find.ensures c.in-Some.h).0 c.in-Some.is) in
    let n = c.elements_are_nodes.ensures.found p marks tree st.scrolled t c.self.inside.nodes.tree c.self.inside.keys c.in-Some.h w.element st.trees c.number_laws.ensures.once w.is in
    absurd (some_none n.0 (sym (ap (node_in tree) (sym w.number_is) ∙ n.1) ∙ nothing))

pub returns-in-None-clause-there : goal.returns-in-None-clause-there
returns-in-None-clause-there c = λ p ds marks tree m now there.
    let t = c.self.inside.elements.tree in
    let st = subst (FrameStandsFor p ds marks tree) (sym c.self.view_is) now in
    absurd (some_none m (sym there ∙ c.elements_are_nodes.ensures.missing p marks tree st.scrolled t c.self.inside.nodes.tree c.self.inside.keys c.args.number st.trees
    (none_found t c.args.number c.find.result c.in-None.is (λ h e. (c.find.ensures h).1 e))))
