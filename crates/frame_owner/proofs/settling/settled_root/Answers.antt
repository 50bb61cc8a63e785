use Rattle.std.proofs.Common.{true, false, Some, [], sym, ap, subst, ◌∙◌}
use Rattle.widget_model.specs.Plain.{PlainWidget}
use Rattle.widget_model.specs.View.{plain_of, shared}
use Rattle.build_form.specs.Program.{blueprint_of}
use Rattle.settled_builds.specs.Settled.{IsSettledFor}
use Rattle.frame_owner.proofs.Listed.{no_lists, to_keep, none_to_keep, none_kept}
use Rattle.frame_owner.proofs.settling.settled_root.Goals as goal

pub returns-then-listless-clause-settled : goal.returns-then-listless-clause-settled
returns-then-listless-clause-settled c = λ p screen old next after made scrolled r g stands is.
    let none = none_kept p [] made scrolled c.args.tree.now.tree r g (shared c.args.root.now) stands (c.requires c.if-listless.true) in
    subst (λ (w : PlainWidget). IsSettledFor (blueprint_of p) [] w made) (sym (ap plain_of c.in_ok-kept.ensures.cases))
    (c.builds_leave_settled_trees.ensures (blueprint_of p) screen old next after (plain_of c.args.root.now.value) made is none)

pub returns-then-listless-clause-kept : goal.returns-then-listless-clause-kept
returns-then-listless-clause-kept c = ap (λ (w : PlainWidget). Some w) (ap plain_of c.in_ok-kept.ensures.cases) ∙ sym (c.requires c.if-listless.true)

pub returns-clause-settled : goal.returns-clause-settled
returns-clause-settled c = λ p screen old next after made scrolled r g stands is.
    let t = c.args.tree.now.tree in
    let none = no_lists p [] made scrolled t r g c.in-Some.top stands (sym c.in-Some.is ∙ c.root.ensures.value) (sym c.if-has_lists.false ∙ c.has_lists.ensures) in
    subst (λ (w : PlainWidget). IsSettledFor (blueprint_of p) [] w made) (sym (ap plain_of c.in_ok-kept-2.ensures.cases))
    (c.builds_leave_settled_trees.ensures (blueprint_of p) screen old next after (plain_of c.args.root.now.value) made is none)

pub returns-clause-kept : goal.returns-clause-kept
returns-clause-kept c =
    ap (λ (w : PlainWidget). Some w) (ap plain_of c.in_ok-kept-2.ensures.cases)
    ∙ sym (to_keep (shared c.args.root.now) c.args.tree.now.tree c.in-Some.top (sym c.root.ensures.value ∙ c.in-Some.is) false (sym c.has_lists.ensures ∙ c.if-has_lists.false))

pub returns-then-has_lists-clause-kept : goal.returns-then-has_lists-clause-kept
returns-then-has_lists-clause-kept c =
    sym (to_keep (shared c.args.root.now) c.args.tree.now.tree c.in-Some.top (sym c.root.ensures.value ∙ c.in-Some.is) true (sym c.has_lists.ensures ∙ c.if-has_lists.true))

pub returns-in_default-clause-kept : goal.returns-in_default-clause-kept
returns-in_default-clause-kept c = sym (none_to_keep (shared c.args.root.now) c.args.tree.now.tree (sym c.root.ensures.value ∙ c.in_default.is))
