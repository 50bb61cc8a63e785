use Rattle.std.proofs.Common.{◌≡◌, ◌∙◌, Some, option_map, option_and_then, option_copied, ap, sym, subst, refl}
use Rattle.fx_handles.specs.ArenaLaws.{same_Some}
use Rattle.element_tree.specs.Element.{Element}
use Rattle.build_walk.specs.Renewing.{role_of}
use Rattle.plain_tree.specs.RenderRole.{is_window}
use Rattle.render_tree.specs.Readings.{scroll_of}
use Rattle.render_tree.specs.Tree.{object_at}
use Rattle.widget_model.specs.View.{shared}
use Rattle.screen_owner.proofs.Owning.{none_is}
use Rattle.frame_owner.specs.Frame.{KeptFrame}
use Rattle.frame_owner.specs.Nodes.{window_at}
use Rattle.frame_owner.specs.Standing.{FrameStandsFor}
use Rattle.frame_owner.proofs.Found.{element_with}
use Rattle.frame_owner.proofs.Windows.{unfound, is_none, is_some, window_node, window_kind, viewport_scrolls, none_some}
use Rattle.frame_owner.proofs.owner.FrameOwner.viewport.Goals as goal

pub returns-in_default-clause-there : goal.returns-in_default-clause-there
returns-in_default-clause-there c = λ p ds marks tree offset now view.
    let st = subst (FrameStandsFor p ds marks tree) (sym c.self.view_is) now in
    absurd (none_some (sym (unfound c.projection_keeps_numbers_apart.ensures p marks tree st.scrolled c.self.inside.elements.tree c.self.inside.nodes.tree c.self.inside.keys st.trees c.args.number
    (λ h is. c.in_default.not-Some h ((c.find.ensures h).1 is))) ∙ view))

pub returns-then-not-scrolls-clause-there : goal.returns-then-not-scrolls-clause-there
returns-then-not-scrolls-clause-there c = λ p ds marks tree offset now view.
    let t = c.self.inside.elements.tree in
    let r = c.self.inside.nodes.tree in
    let g = c.self.inside.keys in
    let st = subst (FrameStandsFor p ds marks tree) (sym c.self.view_is) now in
    let w = element_with t c.in-Some.h c.args.number ((c.find.ensures c.in-Some.h).0 c.in-Some.is) in
    let e = w.element in
    let said = ap (λ x. option_map shared (option_copied x)) c.in-Some-widget.is in
    let kind : is_window (role_of e) ≡ c.scrolls.result = window_kind e c.in-Some-widget.widget.now.value c.deref.result.now _ c.scrolls.result said (c.widget.ensures ∙ ap (option_map (λ (x : Element). x.widget)) w.is) c.deref.ensures c.scrolls.ensures in
    absurd (none_some (sym (is_none c.projection_keeps_numbers_apart.ensures p marks tree st.scrolled t r g st.trees c.in-Some.h e w.is c.number_laws.ensures.once (kind ∙ c.if-not-scrolls.true))
    ∙ (ap (window_at tree) w.number_is ∙ view)))

pub returns-in_default-render-clause-there : goal.returns-in_default-render-clause-there
returns-in_default-render-clause-there c = λ p ds marks tree offset now view.
    let t = c.self.inside.elements.tree in
    let r = c.self.inside.nodes.tree in
    let g = c.self.inside.keys in
    let st = subst (FrameStandsFor p ds marks tree) (sym c.self.view_is) now in
    let w = element_with t c.in-Some.h c.args.number ((c.find.ensures c.in-Some.h).0 c.in-Some.is) in
    let e = w.element in
    let said = ap (λ x. option_map shared (option_copied x)) c.in-Some-widget.is in
    let kind : is_window (role_of e) ≡ c.scrolls.result = window_kind e c.in-Some-widget.widget.now.value c.deref.result.now _ c.scrolls.result said (c.widget.ensures ∙ ap (option_map (λ (x : Element). x.widget)) w.is) c.deref.ensures c.scrolls.ensures in
    let node = window_node c.projection_keeps_numbers_apart.ensures p marks tree st.scrolled t r g st.trees c.in-Some.h e w.is c.number_laws.ensures.once (kind ∙ c.if-not-scrolls.false) in
    let named : c.render.result ≡ Some node.handle = c.render.ensures ∙ (ap (option_and_then (λ (x : Element). x.render)) w.is ∙ node.named) in
    absurd (c.in_default-render.not-Some node.handle named)

pub returns-then-is_none-clause-there : goal.returns-then-is_none-clause-there
returns-then-is_none-clause-there c = λ p ds marks tree offset now view.
    let t = c.self.inside.elements.tree in
    let r = c.self.inside.nodes.tree in
    let g = c.self.inside.keys in
    let st = subst (FrameStandsFor p ds marks tree) (sym c.self.view_is) now in
    let w = element_with t c.in-Some.h c.args.number ((c.find.ensures c.in-Some.h).0 c.in-Some.is) in
    let e = w.element in
    let said = ap (λ x. option_map shared (option_copied x)) c.in-Some-widget.is in
    let kind : is_window (role_of e) ≡ c.scrolls.result = window_kind e c.in-Some-widget.widget.now.value c.deref.result.now _ c.scrolls.result said (c.widget.ensures ∙ ap (option_map (λ (x : Element). x.widget)) w.is) c.deref.ensures c.scrolls.ensures in
    let node = window_node c.projection_keeps_numbers_apart.ensures p marks tree st.scrolled t r g st.trees c.in-Some.h e w.is c.number_laws.ensures.once (kind ∙ c.if-not-scrolls.false) in
    let named : c.render.result ≡ Some node.handle = c.render.ensures ∙ (ap (option_and_then (λ (x : Element). x.render)) w.is ∙ node.named) in
    let same_k = same_Some (sym c.in-Some-render.is ∙ named) in
    let read : c.scroll.result ≡ Some node.object.scroll = c.scroll.ensures
    ∙ (ap (λ x. option_and_then scroll_of (object_at r x)) same_k ∙ (ap (option_and_then scroll_of) node.there ∙ viewport_scrolls node.object node.view)) in
    absurd (none_some (sym (none_is c.scroll.result c.if-is_none.ensures) ∙ read))

pub returns-clause-there : goal.returns-clause-there
returns-clause-there c = λ p ds marks tree offset now view.
    let t = c.self.inside.elements.tree in
    let r = c.self.inside.nodes.tree in
    let g = c.self.inside.keys in
    let st = subst (FrameStandsFor p ds marks tree) (sym c.self.view_is) now in
    let w = element_with t c.in-Some.h c.args.number ((c.find.ensures c.in-Some.h).0 c.in-Some.is) in
    let e = w.element in
    let said = ap (λ x. option_map shared (option_copied x)) c.in-Some-widget.is in
    let kind : is_window (role_of e) ≡ c.scrolls.result = window_kind e c.in-Some-widget.widget.now.value c.deref.result.now _ c.scrolls.result said (c.widget.ensures ∙ ap (option_map (λ (x : Element). x.widget)) w.is) c.deref.ensures c.scrolls.ensures in
    let node = window_node c.projection_keeps_numbers_apart.ensures p marks tree st.scrolled t r g st.trees c.in-Some.h e w.is c.number_laws.ensures.once (kind ∙ c.if-not-scrolls.false) in
    let named : c.render.result ≡ Some node.handle = c.render.ensures ∙ (ap (option_and_then (λ (x : Element). x.render)) w.is ∙ node.named) in
    let same_k = same_Some (sym c.in-Some-render.is ∙ named) in
    let told = is_some c.projection_keeps_numbers_apart.ensures p marks tree st.scrolled t r g st.trees c.in-Some.h e w.is c.number_laws.ensures.once (kind ∙ c.if-not-scrolls.false) in (
      c.in-Some-render.k,
      node.object,
      refl,
      subst (λ (x : KeptFrame). object_at x.screen.nodes c.in-Some-render.k ≡ Some node.object) c.self.view_is (ap (object_at r) same_k ∙ node.there),
      node.number_is ∙ w.number_is,
      node.scroll_is ∙ same_Some (sym told ∙ (ap (window_at tree) w.number_is ∙ view)),
    )

pub returns-clause-none : goal.returns-clause-none
returns-clause-none c = λ p ds marks tree now none.
    let t = c.self.inside.elements.tree in
    let r = c.self.inside.nodes.tree in
    let g = c.self.inside.keys in
    let st = subst (FrameStandsFor p ds marks tree) (sym c.self.view_is) now in
    let w = element_with t c.in-Some.h c.args.number ((c.find.ensures c.in-Some.h).0 c.in-Some.is) in
    let e = w.element in
    let said = ap (λ x. option_map shared (option_copied x)) c.in-Some-widget.is in
    let kind : is_window (role_of e) ≡ c.scrolls.result = window_kind e c.in-Some-widget.widget.now.value c.deref.result.now _ c.scrolls.result said (c.widget.ensures ∙ ap (option_map (λ (x : Element). x.widget)) w.is) c.deref.ensures c.scrolls.ensures in
    absurd (none_some (sym none ∙ (ap (window_at tree) (sym w.number_is)
    ∙ is_some c.projection_keeps_numbers_apart.ensures p marks tree st.scrolled t r g st.trees c.in-Some.h e w.is c.number_laws.ensures.once (kind ∙ c.if-not-scrolls.false))))
