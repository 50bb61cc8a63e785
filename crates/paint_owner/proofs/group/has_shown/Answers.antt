use Rattle.std.proofs.Common.{refl, ap, sym, ◌∙◌}
use Rattle.screen_form.specs.Painted.{has_child}
use Rattle.render_tree.specs.Plain.{laids_of}
use Rattle.paint_owner.proofs.Children.{nth_of, none_left, found, passed}
use Rattle.paint_owner.proofs.group.has_shown.Goals as goal

pub loop-child-init : goal.loop-child-init
loop-child-init c = refl

pub returns-then-shown : goal.returns-then-shown
returns-then-shown c =
    let n = nth_of c.args.tree.now.tree c.args.h c.children-children.result.now c.loop-child.child-index (λ i z. c.child_laws.ensures.nth c.args.tree.now.tree c.args.h i z c.requires) c.children-children.ensures.value c.loop-child-test.true in
    found c.args.tree.now.tree _ c.loop-child.child-index _ n c.shown.result c.shown.ensures _ c.if-shown.true c.loop-child.invariant

pub loop-child-preserved : goal.loop-child-preserved
loop-child-preserved c =
    let n = nth_of c.args.tree.now.tree c.args.h c.children-children.result.now c.loop-child.child-index (λ i z. c.child_laws.ensures.nth c.args.tree.now.tree c.args.h i z c.requires) c.children-children.ensures.value c.loop-child-test.true in
    passed c.args.tree.now.tree _ c.loop-child.child-index _ n c.shown.result c.shown.ensures _ c.if-shown.false c.loop-child.invariant

pub returns : goal.returns
returns c =
    sym (ap (λ g. has_child (laids_of g)) (none_left c.args.tree.now.tree c.args.h c.children-children.result.now c.loop-child.child-index c.child_laws.ensures.all (c.child_laws.ensures.listed c.args.tree.now.tree c.args.h c.requires) c.children-children.ensures.value c.loop-child-test.false))
    ∙ c.loop-child.invariant
