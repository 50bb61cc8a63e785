use Rattle.std.proofs.Common.{◌≡◌, true, false, IfSome, map, sym, ap, ◌∙◌, subst}
use Rattle.std.proofs.lemmas.Result.{IfOk-weaker}
use Rattle.fx_handles.specs.Handle.{Among}
use Rattle.node_tree.specs.Forest.{below}
use Rattle.node_tree.specs.Tree.{IsNode, children_at, subtree_at}
use Rattle.element_tree.specs.Element.{element_at}
use Rattle.widget_model.specs.declared.widgets.Widget.{Widget}
use Rattle.widget_model.specs.View.{shared, look_in}
use Rattle.plain_tree.specs.PlainNode.{widget_of}
use Rattle.build_form.specs.BuildRole.{build_role_of, is_lazy}
use Rattle.build_form.specs.Partner.{widgets_had, nodes_had}
use Rattle.build_walk.specs.Kept.{node_over, plain_at, plain_at_any}
use Rattle.build_owner.specs.ArrivalView.{widget_at}
use Rattle.build_owner.proofs.Children.{stored_widget, widgets_same}
use Rattle.build_owner.proofs.Had.{lazy_had, others_had}
use Rattle.build_owner.proofs.arriving.widgets_had.Goals as goal

pub returns-then-is_lazy : goal.returns-then-is_lazy
returns-then-is_lazy c =
    IfOk-weaker c.copies.result _ _
    (λ ws same. λ scrolled.
    let t = c.args.t.now.tree in
    let h = c.in-Some.h in
    let w = c.in-Some-widget.widget.now in
    let live : IsNode t h = subst (λ o. IfSome o (IsNode t)) c.in-Some.is c.requires in
    let stored = stored_widget (element_at t h) (shared w) c.in-Some-widget.ensures in
    let n = node_over scrolled stored.0 (below (subtree_at t h)) in
    let node = c.kept_elements_are_known.ensures.node scrolled t h stored.0 (c.walk_laws.ensures.holds t h c.root.ensures.tree live) stored.1 in
    let role : is_lazy (build_role_of (look_in w.value.kind)) ≡ true =
    ap (λ (x : Widget). is_lazy (build_role_of (look_in x.kind))) (sym c.deref.ensures) ∙ sym (ap is_lazy c.build_role_of.ensures.part) ∙ sym c.is_lazy.ensures ∙ c.if-is_lazy.true in
    same ∙ c.get.ensures.widgets ∙ ap (λ (x : Widget). x.children) c.deref-then-is_lazy.ensures ∙ sym (lazy_had n w.value stored.2 role)
    ∙ sym (ap widgets_had (ap (plain_at_any scrolled t) c.in-Some.is ∙ node)))
    c.copies.ensures

pub returns : goal.returns
returns c =
    IfOk-weaker c.widgets_at.result _ _
    (λ ws same. λ scrolled.
    let t = c.args.t.now.tree in
    let h = c.in-Some.h in
    let w = c.in-Some-widget.widget.now in
    let live : IsNode t h = subst (λ o. IfSome o (IsNode t)) c.in-Some.is c.requires in
    let holds = c.walk_laws.ensures.holds t h c.root.ensures.tree live in
    let stored = stored_widget (element_at t h) (shared w) c.in-Some-widget.ensures in
    let n = node_over scrolled stored.0 (below (subtree_at t h)) in
    let node = c.kept_elements_are_known.ensures.node scrolled t h stored.0 holds stored.1 in
    let role : is_lazy (build_role_of (look_in w.value.kind)) ≡ false =
    ap (λ (x : Widget). is_lazy (build_role_of (look_in x.kind))) (sym c.deref.ensures) ∙ sym (ap is_lazy c.build_role_of.ensures.part) ∙ sym c.is_lazy.ensures ∙ c.if-is_lazy.false in
    widgets_same (plain_at scrolled t) (widget_at t) (children_at t h) (nodes_had (plain_at scrolled t h)) (map shared ws.items)
    (λ k among. c.kept_elements_are_known.ensures.widget scrolled t k (c.children.ensures.holds k (subst (Among k) (sym c.children.ensures.value) among)))
    (c.kept_elements_are_known.ensures.nodes scrolled t h stored.0 holds stored.1)
    (same ∙ ap (map (widget_at t)) c.children.ensures.value)
    ∙ ap (λ o. map widget_of (nodes_had o)) node ∙ sym (others_had n w.value stored.2 role)
    ∙ sym (ap widgets_had (ap (plain_at_any scrolled t) c.in-Some.is ∙ node)))
    c.widgets_at.ensures
