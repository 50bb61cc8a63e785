use Rattle.std.proofs.Common.{◌≡◌, ◌∙◌, ap, sym, arith, rules, ℕ, ◌<◌, List, map, length}
use Rattle.std.specs.Prelude.{min}
use Rattle.fx_geom.specs.declared.lengths.Len.TheVariants.{Unbounded}
use Rattle.fx_geom.specs.declared.shapes.Axis.TheVariants.{Horizontal}
use Rattle.fx_geom.specs.Len.{limit_of}
use Rattle.delegates.specs.Table.{Plug}
use Rattle.widget_model.specs.Look.{Look}
use Rattle.widget_model.specs.View.{look_in}
use Rattle.layout_form.specs.Fits.{data_of}
use Rattle.layout_form.specs.Object.{setting_of}
use Rattle.layout_form.specs.Layout.{object, intrinsic_rule}
use Rattle.layout_form.specs.Intrinsic.{child_extents, stack_liked, stack_extent, flex_liked, flex_extent}
use Rattle.kind_rules.specs.Cursor.{look_of, children_of}
use Rattle.kind_rules.proofs.Trees.{ok_weaker, node_extent, node_fits, child_fits, child_fewer, factors_fit}
use Rattle.kind_rules.proofs.Extents.{flex_of, stack_of, extents_more, heights_more, wrapped_more}
use Rattle.kind_rules.proofs.intrinsic.+greatest.Goals as goal

pub child_greatest-greatest-requires : goal.child_greatest-greatest-requires
child_greatest-greatest-requires g t c κs within =
    let r = g.C.Cursor.stands c.args.cursor in
    let k = g.C.Cursor.stands c.child.result in
    let low : 0 < length (children_of r) = omega (arith, c.if-len-eq0.false, c.len.ensures) in
    (omega (arith, child_fewer r 0 k low c.child.ensures, c.decreases), (within, child_fits r 0 k c.requires low c.child.ensures))

pub child_extents-greatest-requires : goal.child_extents-greatest-requires
child_extents-greatest-requires g t c κs within =
    let r = g.C.Cursor.stands c.args.cursor in
    let k = g.C.Cursor.stands c.child.result in
    let low : c.loop-i.i < length (children_of r) = omega (arith, c.loop-i-test.true, c.len-count.ensures) in
    (omega (arith, child_fewer r c.loop-i.i k low c.child.ensures, c.decreases), (within, child_fits r c.loop-i.i k c.requires low c.child.ensures))

pub wrapped_children-greatest-requires : goal.wrapped_children-greatest-requires
wrapped_children-greatest-requires g t c κs within =
    let r = g.C.Cursor.stands c.args.cursor in
    let k = g.C.Cursor.stands c.child-child.result in
    let low : c.loop-i.i < length (children_of r) = omega (arith, c.loop-i-test.true, c.len-count.ensures) in
    (omega (arith, child_fewer r c.loop-i.i k low c.child-child.ensures, c.decreases), (within, child_fits r c.loop-i.i k c.requires low c.child-child.ensures))

pub wrapped_children-greatest-requires-in-loop-i : goal.wrapped_children-greatest-requires-in-loop-i
wrapped_children-greatest-requires-in-loop-i g t c κs within =
    let r = g.C.Cursor.stands c.args.cursor in
    let k = g.C.Cursor.stands c.child-child.result in
    let low : c.loop-i.i < length (children_of r) = omega (arith, c.loop-i-test.true, c.len-count.ensures) in
    (omega (arith, child_fewer r c.loop-i.i k low c.child-child.ensures, c.decreases), (within, child_fits r c.loop-i.i k c.requires low c.child-child.ensures))

pub cell_heights-greatest-requires : goal.cell_heights-greatest-requires
cell_heights-greatest-requires g t c κs within =
    let r = g.C.Cursor.stands c.args.cursor in
    let k = g.C.Cursor.stands c.child.result in
    let low : c.loop-i.i < length (children_of r) = omega (arith, c.loop-i-test.true, c.len-count.ensures) in
    (omega (arith, child_fewer r c.loop-i.i k low c.child.ensures, c.decreases), (within, child_fits r c.loop-i.i k c.requires.below low c.child.ensures))

pub greatest-returns : goal.greatest-returns
greatest-returns g t c =
    let r = g.C.Cursor.stands c.args.cursor in
    ok_weaker
    (λ (x : ℕ). (ds : List Plug) → x ≡ intrinsic_rule (setting_of c.args.scale ds) (look_in c.kind.result.now) c.args.axis c.args.across (map (object (setting_of c.args.scale ds)) (children_of r)))
    (λ (x : ℕ). (ds : List Plug) → x ≡ (object (setting_of c.args.scale ds) r).greatest c.args.axis c.args.across)
    c.kind_greatest.result
    (λ x e ds. e ds
    ∙ ap (λ (l : Look). intrinsic_rule (setting_of c.args.scale ds) l c.args.axis c.args.across (map (object (setting_of c.args.scale ds)) (children_of r))) c.kind.ensures
    ∙ sym (node_extent (setting_of c.args.scale ds) r c.args.axis c.args.across))
    c.kind_greatest.ensures

pub flex_greatest-flex_liked-requires : goal.flex_greatest-flex_liked-requires
flex_greatest-flex_liked-requires g t c =
    let r = g.C.Cursor.stands c.args.cursor in
    factors_fit (look_of r) (map data_of (children_of r)) _ (c.as_slice.ensures.value ∙ c.in_ok-told.ensures) (node_fits r c.requires)

pub flex_greatest-returns : goal.flex_greatest-returns
flex_greatest-returns g t c =
    let rs = children_of (g.C.Cursor.stands c.args.cursor) in
    ok_weaker
    (λ (x : ℕ). x ≡ flex_liked c.args.line c.args.axis c.as_slice.result.now c.as_slice-2.result.now)
    (λ (x : ℕ). (ds : List Plug) → x ≡ flex_extent c.args.line c.args.axis c.args.across (map (object (setting_of c.args.scale ds)) rs))
    c.flex_liked.result
    (λ x e ds. flex_of c.args.line c.args.axis c.args.across (setting_of c.args.scale ds) rs c.as_slice.result.now c.as_slice-2.result.now x
    (c.as_slice.ensures.value ∙ c.in_ok-told.ensures)
    (c.as_slice-2.ensures.value ∙ c.in_ok-extents.ensures ds
    ∙ ap (λ a. child_extents c.args.axis a (map (object (setting_of c.args.scale ds)) rs)) c.flex_across-across.ensures) e)
    c.flex_liked.ensures

pub stack_greatest-returns : goal.stack_greatest-returns
stack_greatest-returns g t c =
    let rs = children_of (g.C.Cursor.stands c.args.cursor) in
    ok_weaker
    (λ (x : ℕ). x ≡ stack_liked c.as_slice.result.now c.as_slice-2.result.now)
    (λ (x : ℕ). (ds : List Plug) → x ≡ stack_extent c.args.axis c.args.across (map (object (setting_of c.args.scale ds)) rs))
    c.stack_liked.result
    (λ x e ds. stack_of c.args.axis c.args.across (setting_of c.args.scale ds) rs c.as_slice.result.now c.as_slice-2.result.now x
    (c.as_slice.ensures.value ∙ c.in_ok-told.ensures) (c.as_slice-2.ensures.value ∙ c.in_ok-extents.ensures ds) e)
    c.stack_liked.ensures

pub child_extents-loop-i-preserved : goal.child_extents-loop-i-preserved
child_extents-loop-i-preserved g t c = λ ds.
    let r = g.C.Cursor.stands c.args.cursor in
    let low : c.loop-i.i < length (children_of r) = omega (arith, c.loop-i-test.true, c.len-count.ensures) in
    extents_more (setting_of c.args.scale ds) c.args.axis c.args.across (children_of r) c.loop-i.i (g.C.Cursor.stands c.child.result) c.in_ok-extent.extent c.loop-i.extents.items c.push.new.self.items _
    low c.child.ensures (c.in_ok-extent.ensures ds) c.in_ok-push.ensures.items (c.loop-i.invariant ds)

pub cell_heights-loop-i-preserved : goal.cell_heights-loop-i-preserved
cell_heights-loop-i-preserved g t c = λ ds.
    let r = g.C.Cursor.stands c.args.cursor in
    let low : c.loop-i.i < length (children_of r) = omega (arith, c.loop-i-test.true, c.len-count.ensures) in
    heights_more (setting_of c.args.scale ds) c.args.columns.now (children_of r) c.loop-i.i (g.C.Cursor.stands c.child.result) c.in_ok-height.height c.column_at.result c.loop-i.heights.items c.push.new.self.items _
    low c.child.ensures c.column_at.ensures (c.in_ok-height.ensures ds) c.in_ok-push.ensures.items (c.loop-i.invariant ds)

pub wrapped_children-loop-i-preserved : goal.wrapped_children-loop-i-preserved
wrapped_children-loop-i-preserved g t c = λ ds.
    let r = g.C.Cursor.stands c.args.cursor in
    let k = g.C.Cursor.stands c.child-child.result in
    let s = setting_of c.args.scale ds in
    let low : c.loop-i.i < length (children_of r) = omega (arith, c.loop-i-test.true, c.len-count.ensures) in
    let first : c.in_ok-greatest.field-0 ≡ (object s k).greatest Horizontal Unbounded = c.in_ok-greatest.ensures ds in
    let least : c.min-w.result ≡ min c.in_ok-greatest.field-0 c.limit.result = search rules in
    let wide : c.min-w.result ≡ min ((object s k).greatest Horizontal Unbounded) (limit_of c.args.across) =
    least ∙ ap (λ (x : ℕ). min x c.limit.result) first ∙ ap (λ (x : ℕ). min ((object s k).greatest Horizontal Unbounded) x) c.limit.ensures in
    wrapped_more s c.args.across (children_of r) c.loop-i.i k c.min-w.result c.in_ok-h.h c.loop-i.sizes.items c.push.new.self.items _
    low c.child-child.ensures wide (c.in_ok-h.ensures ds) c.in_ok-push.ensures.items (c.loop-i.invariant ds)
