use Rattle.std.proofs.Common.{ap, subst, ◌<◌, ◌≤◌, length, List, get_or}
use Rattle.fx_handles.specs.declared.Handle.{Handle}
use Rattle.node_tree.proofs.Children.{among_at}
use Rattle.layout_rules.proofs.Scrolling.{filled_start, filled_on, filled_end, held_live}
use Rattle.layout_rules.proofs.extents.measured_frames.Goals as goal

pub loop-child-init : goal.loop-child-init
loop-child-init c = filled_start c.args.r.now.tree c.args.h c.args.axis c.args.cross c.in_ok-frames.frames.items c.in_ok-frames.ensures.items

pub extent_of-scroll-requires : goal.extent_of-scroll-requires
extent_of-scroll-requires c =
    held_live c.args.r.now.tree _ (c.children-children.ensures.holds _ (among_at c.children-children.result.now c.loop-child.child-index _ c.loop-child-test.true))

pub loop-child-preserved : goal.loop-child-preserved
loop-child-preserved c =
    let hs = c.children-children.result.now in
    let i = c.loop-child.child-index in
    let z : Handle = record { index = 0; generation = 0 } in
    filled_on c.args.r.now.tree c.args.h (get_or hs i z) z c.args.axis c.args.cross i c.extent_of-scroll.result c.unseen.result c.loop-child.frames.items c.push.new.self.items
    (subst (λ (ks : List Handle). i < length ks) c.children-children.ensures.value c.loop-child-test.true)
    (ap (λ (ks : List Handle). get_or ks i z) c.children-children.ensures.value)
    c.extent_of-scroll.ensures c.unseen.ensures c.in_ok-push.ensures.items c.loop-child.invariant

pub returns : goal.returns
returns c =
    filled_end c.args.r.now.tree c.args.h c.args.axis c.args.cross c.loop-child.child-index c.loop-child.frames.items
    (subst (λ (ks : List Handle). length ks ≤ c.loop-child.child-index) c.children-children.ensures.value c.loop-child-test.false) c.loop-child.invariant
