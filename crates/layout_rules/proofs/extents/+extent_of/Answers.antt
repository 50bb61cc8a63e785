use Rattle.std.proofs.Common.{◌≡◌, refl, subst, sym, ap, ◌∙◌, ◌<◌, ◌≤◌, length, List, get_or, arith}
use Rattle.fx_handles.specs.declared.Handle.{Handle}
use Rattle.fx_handles.specs.Handle.{Among}
use Rattle.node_tree.specs.Tree.{Tree, IsTree}
use Rattle.node_tree.proofs.Children.{among_at}
use Rattle.widget_model.specs.View.{look_in}
use Rattle.render_tree.specs.Object.{RenderObject}
use Rattle.layout_walk.specs.Measure.{cross_in}
use Rattle.layout_rules.specs.Places.{render_at}
use Rattle.layout_rules.proofs.Scrolling.{look_read, count_read, place_read, children_told, closed_extent, open_extent, alone_read, padded_read, inner_none, inner_some, held_live}
use Rattle.layout_rules.proofs.extents.+extent_of.Goals as goal

pub returns-then-not-is_open : goal.returns-then-not-is_open
returns-then-not-is_open t c = λ v kids seen.
    closed_extent c.args.r.now.tree c.args.h c.args.axis c.args.cross v kids c.state_at-state.result c.is_open.result c.scroll_in.result seen c.state_at-state.ensures c.is_open.ensures c.if-not-is_open.true
    c.scroll_in.ensures

pub returns-in-None : goal.returns-in-None
returns-in-None t c = λ v kids seen.
    let tr = c.args.r.now.tree in
    let h = c.args.h in
    let is_tree : IsTree tr = subst (λ (x : Tree RenderObject). IsTree x) c.tree.ensures c.count_laws.ensures.tree in
    let at = place_read tr h c.new-cursor.result.at c.new-cursor.result.tree.now c.args.r.now c.new-cursor.ensures.tree refl c.new-cursor.ensures.at in
    let place = render_at c.new-cursor.result.tree.now.tree c.new-cursor.result.at in
    let look : look_in c.kind.result.now ≡ v.look = look_read tr h v kids place (look_in c.kind.result.now) is_tree seen at c.kind.ensures in
    let look1 : look_in c.kind-in-None.result.now ≡ v.look = look_read tr h v kids place (look_in c.kind-in-None.result.now) is_tree seen at c.kind-in-None.ensures in
    open_extent tr h c.args.axis c.args.cross v kids c.state_at-state.result c.is_open.result c.alone_extent.result seen c.state_at-state.ensures c.is_open.ensures c.if-not-is_open.false
    (alone_read (look_in c.kind.result.now) v kids c.args.axis c.args.cross c.box_extent-first.result (length c.children-children.result.now) c.count.result c.padding_in.result c.alone_extent.result
    (look_in c.kind-in-None.result.now) look look1 c.padding_in.ensures c.in-None.is (c.box_extent-first.ensures v kids seen)
    (ap (λ (hs : List Handle). length hs) c.children-children.ensures.value ∙ children_told tr h v kids seen) (count_read tr h v kids place c.count.result is_tree seen at c.count.ensures) c.alone_extent.ensures)

pub returns-in-None-get : goal.returns-in-None-get
returns-in-None-get t c = λ v kids seen.
    let tr = c.args.r.now.tree in
    let h = c.args.h in
    let is_tree : IsTree tr = subst (λ (x : Tree RenderObject). IsTree x) c.tree.ensures c.count_laws.ensures.tree in
    let at = place_read tr h c.new-cursor.result.at c.new-cursor.result.tree.now c.args.r.now c.new-cursor.ensures.tree refl c.new-cursor.ensures.at in
    let place = render_at c.new-cursor.result.tree.now.tree c.new-cursor.result.at in
    let look : look_in c.kind.result.now ≡ v.look = look_read tr h v kids place (look_in c.kind.result.now) is_tree seen at c.kind.ensures in
    open_extent tr h c.args.axis c.args.cross v kids c.state_at-state.result c.is_open.result c.padded_extent.result seen c.state_at-state.ensures c.is_open.ensures c.if-not-is_open.false
    (padded_read (look_in c.kind.result.now) v kids c.args.axis c.args.cross c.padding_in.result c.in-Some.insets 0 c.padded_extent.result look c.padding_in.ensures c.in-Some.is
    (inner_none tr h c.args.axis (cross_in c.args.axis c.args.cross c.in-Some.insets) v kids seen
    (subst (λ (hs : List Handle). length hs ≤ 0) c.children-children.ensures.value c.in-None-get.ensures.lookup.3)) c.padded_extent.ensures)

pub extent_of-scroll-requires : goal.extent_of-scroll-requires
extent_of-scroll-requires t c =
    let hs = c.children-children.result.now in
    let child = c.in-Some-get.child.now in
    let found = c.in-Some-get.ensures.lookup in
    let there = subst (λ (k : Handle). Among k hs) (sym found.1) (among_at hs 0 child found.3.0) in
    let less = c.children-children.ensures.smaller child there in
    let d = c.decreases in
    (omega (arith, less, d), held_live c.args.r.now.tree child (c.children-children.ensures.holds child there))

pub returns-in-Some-get : goal.returns-in-Some-get
returns-in-Some-get t c = λ v kids seen.
    let tr = c.args.r.now.tree in
    let h = c.args.h in
    let is_tree : IsTree tr = subst (λ (x : Tree RenderObject). IsTree x) c.tree.ensures c.count_laws.ensures.tree in
    let at = place_read tr h c.new-cursor.result.at c.new-cursor.result.tree.now c.args.r.now c.new-cursor.ensures.tree refl c.new-cursor.ensures.at in
    let place = render_at c.new-cursor.result.tree.now.tree c.new-cursor.result.at in
    let look : look_in c.kind.result.now ≡ v.look = look_read tr h v kids place (look_in c.kind.result.now) is_tree seen at c.kind.ensures in
    let child = c.in-Some-get.child.now in
    let found = c.in-Some-get.ensures.lookup in
    open_extent tr h c.args.axis c.args.cross v kids c.state_at-state.result c.is_open.result c.padded_extent-in-Some-get.result seen c.state_at-state.ensures c.is_open.ensures c.if-not-is_open.false
    (padded_read (look_in c.kind.result.now) v kids c.args.axis c.args.cross c.padding_in.result c.in-Some.insets c.extent_of-scroll.result c.padded_extent-in-Some-get.result look c.padding_in.ensures c.in-Some.is
    (inner_some tr h child c.args.axis (cross_in c.args.axis c.args.cross c.in-Some.insets) c.inner_cross-inner.result c.extent_of-scroll.result v kids seen
    (subst (λ (ks : List Handle). 0 < length ks) c.children-children.ensures.value found.3.0) (found.1 ∙ ap (λ (ks : List Handle). get_or ks 0 child) c.children-children.ensures.value)
    c.inner_cross-inner.ensures c.extent_of-scroll.ensures) c.padded_extent-in-Some-get.ensures)
