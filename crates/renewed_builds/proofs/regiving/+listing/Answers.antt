use Rattle.std.proofs.Common.{◌≡◌, ◌<◌, get_or, arith}
use Rattle.fx_handles.specs.declared.Handle.{Handle}
use Rattle.node_tree.proofs.Children.{among_at}
use Rattle.node_tree.specs.Forest.{below, size}
use Rattle.node_tree.specs.Tree.{subtree_at}
use Rattle.renewed_builds.proofs.Changing.{held, nth_of, zero_handle}
use Rattle.renewed_builds.proofs.Keeping.{one_more, none_more, own_first}
use Rattle.renewed_builds.proofs.regiving.+listing.Goals as goal

pub add_flagged-requires : goal.add_flagged-requires
add_flagged-requires l c =
    let t = c.args.t.now.tree in
    let cs = c.children-children.result.now in
    let i = c.loop-child.child-index in
    let n = nth_of t c.args.h cs i c.requires c.children-children.ensures.value c.loop-child-test.true in
    let k : Handle = get_or cs i zero_handle in
    let smaller : size (subtree_at t k) < size (subtree_at t c.args.h) = c.children-children.ensures.smaller k (among_at cs i zero_handle c.loop-child-test.true) in
    let d = c.decreases in
    (omega (arith, smaller, d), n.holds)

pub loop-child-init : goal.loop-child-init
loop-child-init l c =
    let t = c.args.t.now.tree in
    let h = c.args.h in
    let e = held t h c.requires in
    own_first t h e.0 e.1 (c.child_laws.ensures.opened t h e.0 c.requires e.1) c.is_dirty.result c.is_dirty.ensures c.args.flagged.now.items c.add_if.new.hs.items c.in_ok-add_if.ensures

pub loop-child-preserved : goal.loop-child-preserved
loop-child-preserved l c =
    let t = c.args.t.now.tree in
    let cs = c.children-children.result.now in
    let i = c.loop-child.child-index in
    let n = nth_of t c.args.h cs i c.requires c.children-children.ensures.value c.loop-child-test.true in
    one_more t (below (subtree_at t c.args.h)) i (get_or cs i zero_handle) n c.loop-child.flagged.items c.add_flagged.new.flagged.items _ c.in_ok-add_flagged.ensures c.loop-child.invariant

pub returns : goal.returns
returns l c =
    let t = c.args.t.now.tree in
    none_more t c.args.h c.children-children.result.now c.loop-child.child-index c.requires c.children-children.ensures.value (omega (arith, c.loop-child-test.false)) c.loop-child.flagged.items _ c.loop-child.invariant
