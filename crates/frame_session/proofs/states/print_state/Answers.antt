use Rattle.std.proofs.Common.{◌≡◌, ◌++◌, ℕ, List, OnOk, sym, ap, subst, ◌∙◌}
use Rattle.widget_model.specs.View.{plain_of}
use Rattle.plain_tree.specs.PlainNode.{scroll_of}
use Rattle.plain_tree.specs.States.{holding, scrolled}
use Rattle.session_form.specs.Handlers.{node_in}
use Rattle.frame_session.specs.NodeState.{states_as, state_found}
use Rattle.frame_session.specs.declared.node_state.NodeState.TheVariants.{Offset}
use Rattle.frame_session.proofs.OwnerLemmas.{node_there, node_missing}
use Rattle.frame_session.proofs.StatesLemmas.{nothing_there, state_there, window_there, none_added, one_added, offset_there, offset_missing}
use Rattle.frame_session.proofs.states.print_state.Goals as goal

pub returns-in_default : goal.returns-in_default
returns-in_default c = λ p ds marks tree stands.
    nothing_there (node_in tree c.args.number) c.args.out.now.items (node_missing (node_in tree c.args.number) c.widget.result c.in_default.is (c.widget.ensures p ds marks tree stands))

pub returns-in-Nothing : goal.returns-in-Nothing
returns-in-Nothing c = λ p ds marks tree stands.
    let m = node_there (node_in tree c.args.number) c.widget.result c.in-Some.widget c.in-Some.is (c.widget.ensures p ds marks tree stands) in
    let states = state_there tree c.args.number m.0 c.deref.result.now c.fields-fields.result.now c.node_state.result m.1 (m.2 ∙ sym (ap plain_of c.deref.ensures)) (c.fields-fields.ensures.there p ds marks tree m.0 stands m.1) c.node_state.ensures in
    none_added c.args.out.now.items (state_found (node_in tree c.args.number)) (states ∙ ap (λ s. states_as s c.args.number c.fields-fields.result.now (scroll_of m.0)) c.in-Nothing.is)

pub returns-in-Fields : goal.returns-in-Fields
returns-in-Fields c = λ p ds marks tree stands.
    let m = node_there (node_in tree c.args.number) c.widget.result c.in-Some.widget c.in-Some.is (c.widget.ensures p ds marks tree stands) in
    let states = state_there tree c.args.number m.0 c.deref.result.now c.fields-fields.result.now c.node_state.result m.1 (m.2 ∙ sym (ap plain_of c.deref.ensures)) (c.fields-fields.ensures.there p ds marks tree m.0 stands m.1) c.node_state.ensures in
    let P : List ℕ → Type 0 = λ t. OnOk c.print_fields.result (c.print_fields.new.out.items ≡ c.args.out.now.items ++ t) in
    subst P (one_added (state_found (node_in tree c.args.number)) (holding c.args.number c.in-Fields.declaration.now c.fields-fields.result.now) (states ∙ ap (λ s. states_as s c.args.number c.fields-fields.result.now (scroll_of m.0)) c.in-Fields.is))
    c.print_fields.ensures

pub returns-in-Some-scroll_at : goal.returns-in-Some-scroll_at
returns-in-Some-scroll_at c = λ p ds marks tree stands.
    let m = node_there (node_in tree c.args.number) c.widget.result c.in-Some.widget c.in-Some.is (c.widget.ensures p ds marks tree stands) in
    let widget = m.2 ∙ sym (ap plain_of c.deref.ensures) in
    let states = state_there tree c.args.number m.0 c.deref.result.now c.fields-fields.result.now c.node_state.result m.1 widget (c.fields-fields.ensures.there p ds marks tree m.0 stands m.1) c.node_state.ensures in
    let window = window_there tree c.args.number m.0 c.deref.result.now c.fields-fields.result.now m.1 widget (λ n scroll. sym (ap (λ s. states_as s n c.fields-fields.result.now scroll) c.in-Offset.is) ∙ c.node_state.ensures n scroll) in
    let scroll = offset_there _ c.scroll_at.result c.in-Some-scroll_at.scroll (scroll_of m.0) c.in-Some-scroll_at.is (c.scroll_at.ensures p ds marks tree stands) window in
    let P : List ℕ → Type 0 = λ t. OnOk c.print_offset.result (c.print_offset.new.out.items ≡ c.args.out.now.items ++ t) in
    subst P (one_added (state_found (node_in tree c.args.number)) (scrolled c.args.number c.in-Some-scroll_at.scroll)
    (states ∙ (ap (λ s. states_as s c.args.number c.fields-fields.result.now (scroll_of m.0)) c.in-Offset.is ∙ ap (λ n. states_as Offset c.args.number c.fields-fields.result.now n) (sym scroll))))
    c.print_offset.ensures

pub returns-in-None : goal.returns-in-None
returns-in-None c = λ p ds marks tree stands.
    let m = node_there (node_in tree c.args.number) c.widget.result c.in-Some.widget c.in-Some.is (c.widget.ensures p ds marks tree stands) in
    let window = window_there tree c.args.number m.0 c.deref.result.now c.fields-fields.result.now m.1 (m.2 ∙ sym (ap plain_of c.deref.ensures)) (λ n scroll. sym (ap (λ s. states_as s n c.fields-fields.result.now scroll) c.in-Offset.is) ∙ c.node_state.ensures n scroll) in
    offset_missing _ c.scroll_at.result (scroll_of m.0) c.in-None.is (c.scroll_at.ensures p ds marks tree stands) window
