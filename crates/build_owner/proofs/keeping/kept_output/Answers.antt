use Rattle.std.proofs.Common.{◌≡◌, Some, IfSome, option_copied, sym, ap, ◌∙◌, subst}
use Rattle.node_tree.specs.Tree.{IsNode}
use Rattle.widget_model.specs.Plain.{look_of}
use Rattle.widget_model.specs.View.{plain_of}
use Rattle.build_form.specs.BuildRole.{build_role_of}
use Rattle.work_sets.specs.Members.{is_same_widget}
use Rattle.build_walk.specs.Kept.{plain_at_any}
use Rattle.build_walk.specs.Keeping.{past_for}
use Rattle.build_walk.specs.Telling.{element_past}
use Rattle.build_owner.specs.Given.{given_to}
use Rattle.build_owner.specs.LastFrame.{IsOld}
use Rattle.build_owner.proofs.Children.{live_element}
use Rattle.build_owner.proofs.KeptOutput.{kept_so, not_kept, clean_so, widget_so, reads_composes, typed_so}
use Rattle.build_owner.proofs.keeping.kept_output.Goals as goal

pub returns-then-not-is_unchanged-clause-kept : goal.returns-then-not-is_unchanged-clause-kept
returns-then-not-is_unchanged-clause-kept c = λ f keeps given.
    let h = c.in-Some-partner.h in
    let old = subst (λ o. IfSome o (IsOld f c.args.was.now)) c.in-Some-partner.is given in
    let e = live_element f.elements h (c.kept_elements_are_known.ensures.live f.elements h old.holds) in
    let plain = ap (plain_at_any f.scrolled f.elements) c.in-Some-partner.is ∙ c.kept_elements_are_known.ensures.node f.scrolled f.elements h e.0 old.holds e.1 in
    let known = ap (past_for f.pasts) plain ∙ c.kept_elements_are_known.ensures.past f.pasts f.scrolled c.args.was.now f.elements f.renders h e.0 old e.1 in
    let read = sym c.names_read.ensures ∙ ap option_copied c.in-Some.is in
    sym (not_kept f.pasts (plain_at_any f.scrolled f.elements c.args.partner) (plain_of c.args.widget.now) c.args.now.now c.in-Some.names.now (element_past c.args.was.now e.0) read known
    c.is_unchanged.result c.if-not-is_unchanged.true (c.is_unchanged.ensures e.0 (c.keep_laws.ensures.value f.elements c.args.t.now.tree h e.0 keeps e.1)))

pub returns-clause-kept : goal.returns-clause-kept
returns-clause-kept c = λ f keeps given.
    let h = c.in-Some-partner.h in
    let old = subst (λ o. IfSome o (IsOld f c.args.was.now)) c.in-Some-partner.is given in
    let e = live_element f.elements h (c.kept_elements_are_known.ensures.live f.elements h old.holds) in
    let there = c.keep_laws.ensures.value f.elements c.args.t.now.tree h e.0 keeps e.1 in
    let plain = ap (plain_at_any f.scrolled f.elements) c.in-Some-partner.is ∙ c.kept_elements_are_known.ensures.node f.scrolled f.elements h e.0 old.holds e.1 in
    let known = ap (past_for f.pasts) plain ∙ c.kept_elements_are_known.ensures.past f.pasts f.scrolled c.args.was.now f.elements f.renders h e.0 old e.1 in
    let read = sym c.names_read.ensures ∙ ap option_copied c.in-Some.is in
    ap Some (c.in_ok-stored_output.ensures.stored (plain_of c.args.widget.now) e.0 there)
    ∙ sym (kept_so f.pasts (plain_at_any f.scrolled f.elements c.args.partner) (plain_of c.args.widget.now) c.args.now.now c.in-Some.names.now (element_past c.args.was.now e.0) read known
    c.is_unchanged.result c.if-not-is_unchanged.false (c.is_unchanged.ensures e.0 there))

pub returns-clause-few : goal.returns-clause-few
returns-clause-few c = c.in_ok-stored_output.ensures.few (plain_of c.args.widget.now)

pub returns-clause-typed : goal.returns-clause-typed
returns-clause-typed c = λ d outputs.
    let h = c.in-Some-partner.h in
    let w = plain_of c.args.widget.now in
    let e = live_element c.args.t.now.tree h (subst (λ o. IfSome o (IsNode c.args.t.now.tree)) c.in-Some-partner.is c.requires.live) in
    let unchanged = sym (c.is_unchanged.ensures e.0 e.1) ∙ c.if-not-is_unchanged.false in
    let clean = clean_so e.0.dirty _ unchanged in
    let same : e.0.widget ≡ w = (c.same_means_equal.ensures.widgets e.0.widget w).0 (widget_so e.0.dirty (is_same_widget e.0.widget w) _ unchanged) in
    let role = reads_composes (look_of w) c.in-Some.names.now (sym c.names_read.ensures ∙ ap option_copied c.in-Some.is) in
    typed_so d e.0.output (given_to w c.in_ok-stored_output.field-0) (c.in_ok-stored_output.ensures.stored w e.0 e.1)
    (outputs h e.0 e.1 clean role.0 role.1 (ap (λ v. build_role_of (look_of v)) same ∙ role.2))
