use Rattle.std.proofs.Common.{◌≡◌, ◌<◌, IfSome, map, sym, ap, ◌∙◌, subst, arith}
use Rattle.fx_expr.specs.Value.{type_of}
use Rattle.fx_handles.specs.Handle.{Among}
use Rattle.node_tree.specs.Forest.{size}
use Rattle.node_tree.specs.Tree.{children_at, subtree_at, Holds}
use Rattle.element_tree.specs.Element.{Element, element_at}
use Rattle.widget_model.specs.declared.widgets.Widget.{Widget}
use Rattle.widget_model.specs.Look.{Look}
use Rattle.widget_model.specs.Plain.{look_of}
use Rattle.widget_model.specs.View.{plain_of, shared, look_in}
use Rattle.build_form.specs.BuildRole.{build_role_of}
use Rattle.build_form.specs.Entering.{values_below}
use Rattle.build_form.specs.Filling.{FitsNames}
use Rattle.build_owner.proofs.Children.{stored_widget, some_is}
use Rattle.build_owner.proofs.Climbed.{top_old, below_old}
use Rattle.build_owner.proofs.Told.{top_tells, below_tells}
use Rattle.build_owner.proofs.climbing.+climbing.Goals as goal

pub returns-in_default-clause-old : goal.returns-in_default-clause-old
returns-in_default-clause-old t c = λ f there live.
    top_old f c.args.t.now.tree there.elements c.args.values.now c.args.values.now c.args.h c.args.h live (sym c.parent.ensures.value ∙ c.in_default.is)
    (c.walk_laws.ensures.tops f.elements c.args.h there.tree live).0 there.old

pub returns-in_default-clause-told : goal.returns-in_default-clause-told
returns-in_default-clause-told t c = λ pasts f is tells.
    let tree = c.args.t.now.tree in
    top_tells tree pasts (c.walk_laws.ensures.subtree tree) f c.args.values.now c.args.h is tells
    ((c.walk_laws.ensures.tops tree c.args.h (f, is) c.requires.live).0 (sym c.parent.ensures.value ∙ c.in_default.is))

pub provide_above-requires : goal.provide_above-requires
provide_above-requires t c =
    let tree = c.args.t.now.tree in
    let p = c.in-Some.p in
    let holds = subst (λ o. IfSome o (λ q. Holds tree q)) c.in-Some.is c.parent.ensures.holds in
    let larger = subst (λ o. IfSome o (λ q. size (subtree_at tree c.args.h) < size (subtree_at tree q))) c.in-Some.is c.parent.ensures.larger in
    let few = c.walk_laws.ensures.few tree p c.root.ensures.tree in
    (omega (arith, c.decreases, larger, few), (c.kept_elements_are_known.ensures.live tree p holds, c.requires.fits))

pub provide_below-requires : goal.provide_below-requires
provide_below-requires t c =
    let w = c.in-Some-widget.widget.now in
    let p = c.in-Some.p in
    let stored = stored_widget (element_at c.args.t.now.tree p) (shared w) c.in-Some-widget.ensures in
    let is : look_of stored.0.widget ≡ look_in c.deref.result.now.kind = ap look_of stored.2 ∙ sym (ap (λ (x : Widget). look_in x.kind) c.deref.ensures) in
    subst (λ ts. FitsNames ts (build_role_of (look_in c.deref.result.now.kind))) (sym c.in_ok-provide_above.ensures.typed)
    (subst (λ (l : Look). FitsNames (map type_of c.args.values.now) (build_role_of l)) is (c.requires.fits p stored.0 stored.1))

pub returns-clause-old : goal.returns-clause-old
returns-clause-old t c = λ f there live.
    let tree = c.args.t.now.tree in
    let p = c.in-Some.p in
    let w = c.in-Some-widget.widget.now in
    let mid = c.provide_above.new.values in
    let stored = stored_widget (element_at tree p) (shared w) c.in-Some-widget.ensures in
    let listed = subst (λ o. IfSome o (λ q. Among c.args.h (children_at tree q))) c.in-Some.is c.parent.ensures.listed in
    below_old f tree there.elements mid c.provide_below.new.values c.args.h p live (sym c.parent.ensures.value ∙ c.in-Some.is) (c.walk_laws.ensures.larger f.elements c.args.h p there.tree) listed
    (c.in_ok-provide_above.ensures.old f there)
    (λ e old is. c.kept_elements_are_known.ensures.below f.pasts f.scrolled mid f.elements f.renders p e old is)
    (λ e is. c.in_ok-provide_below.ensures.below ∙ ap (λ v. values_below v mid) (ap plain_of c.deref.ensures ∙ sym stored.2 ∙ ap (λ (x : Element). x.widget) (some_is (sym stored.1 ∙ is))))

pub returns-clause-told : goal.returns-clause-told
returns-clause-told t c = λ pasts f is tells.
    let tree = c.args.t.now.tree in
    let p = c.in-Some.p in
    let w = c.in-Some-widget.widget.now in
    let mid = c.provide_above.new.values in
    let stored = stored_widget (element_at tree p) (shared w) c.in-Some-widget.ensures in
    let holds = subst (λ o. IfSome o (λ q. Holds tree q)) c.in-Some.is c.parent.ensures.holds in
    let among = subst (λ o. IfSome o (λ q. Among c.args.h (children_at tree q))) c.in-Some.is c.parent.ensures.listed in
    below_tells tree pasts (c.walk_laws.ensures.subtree tree) mid c.provide_below.new.values c.args.h p stored.0 holds
    (c.child_laws.ensures.opened tree p stored.0 holds stored.1) (c.child_laws.ensures.stands tree p holds) (c.child_laws.ensures.listed tree p holds) among
    (c.in_ok-provide_above.ensures.told pasts f is tells)
    (c.in_ok-provide_below.ensures.below ∙ ap (λ v. values_below v mid) (ap plain_of c.deref.ensures ∙ sym stored.2))
