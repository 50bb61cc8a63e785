use Rattle.std.proofs.Common.{◌≡◌, ap, refl, sym, subst, ◌∙◌, ℕ, ◌+◌, ◌≤◌, arith, Option, List, length}
use Rattle.fx_geom.specs.declared.shapes.Offset.{Offset}
use Rattle.fx_handles.specs.declared.Handle.{Handle}
use Rattle.layout_form.specs.Framed.{last_asks}
use Rattle.kind_rules.specs.Few.{items_of}
use Rattle.layout_rules.specs.Painting.{place_in}
use Rattle.layout_rules.specs.Reads.{state_at, put_at, standing_as, past_in}
use Rattle.node_tree.specs.Tree.{Tree, IsTree}
use Rattle.render_tree.specs.Edits.{Changes}
use Rattle.render_tree.specs.LayoutState.{with_layout_state}
use Rattle.render_tree.specs.Object.{RenderObject}
use Rattle.render_tree.specs.declared.layout_state.LayoutState.{LayoutState}
use Rattle.layout_rules.proofs.Repainting.{own_same, moving_start, moving_step, moving_end}
use Rattle.layout_rules.proofs.Standings.{Standing, stood_start, stood_step, stood_end, over_ask, past_few, stands_as}
use Rattle.layout_rules.proofs.writing.stand_all.Goals as goal

pub loop-i-init : goal.loop-i-init
loop-i-init c = record {
  stands = stood_start c.args.r.now.tree c.args.h _ _ _ (ap (λ (hs : List Handle). length hs) c.children-i-end.ensures.value);
  scale = refl;
  spent = refl;
  few = omega arith;
  moving = moving_start c.args.r.now.tree c.args.h;
}

pub loop-i-preserved : goal.loop-i-preserved
loop-i-preserved c =
    let t = c.loop-i.r.tree in
    let t1 = c.stand-here.new.r.tree in
    let child = c.child_at-child.result in
    let ask = c.asked_at-ask.result in
    let at = c.place_at.result in
    let asks = last_asks (items_of c.args.first.now) (items_of c.args.rest.now) in
    let is : IsTree c.args.r.now.tree = subst (λ (x : Tree RenderObject). IsTree x) c.tree.ensures c.count_laws.ensures.tree in
    let u : put_at c.place_if.result (state_at t child) ≡ standing_as ask at (state_at t child) =
    ap (λ (o : Option Offset). put_at o (state_at t child)) c.place_if.ensures ∙ stands_as ask at (state_at t child) in
    record {
      stands = subst (λ (k : ℕ). Standing c.args.r.now.tree t1 c.args.h (c.loop-i.i + 1) k (length c.children-i-end.result.now) asks c.args.places.now) (sym c.past-j.ensures)
          (stood_step c.args.r.now.tree t t1 c.args.h child c.loop-i.i c.loop-i.j (past_in ask c.loop-i.j) (length c.children-i-end.result.now) asks c.args.places.now ask at
          c.stand-here.result c.child_at-child.ensures.value c.loop-i-test.true (sym c.asked_at-ask.ensures) c.place_at.ensures
          (λ e. subst (λ (x : LayoutState). Changes t t1 child (with_layout_state x)) u (c.stand-here.ensures.stands e)) c.stand-here.ensures.stays
          (λ e. subst (λ (x : LayoutState). place_in x ≡ place_in (state_at t child)) u (c.stand-here.ensures.still e)) (over_ask ask c.args.places.now c.loop-i.j) c.loop-i.invariant.stands);
      scale = c.stand-here.ensures.scale ∙ c.loop-i.invariant.scale;
      spent = c.stand-here.ensures.spent ∙ c.loop-i.invariant.spent;
      moving = moving_step c.args.r.now.tree t t1 c.args.h child c.loop-i.i c.loop-i.moved c.stand-here.result (put_at c.place_if.result (state_at t child)) is c.child_at-child.ensures.value
          (let short = c.loop-i-test.true in let same = ap (λ (hs : List Handle). length hs) c.children-i-end.ensures.value in omega (arith, short, same))
          c.stand-here.ensures.stands c.stand-here.ensures.stays (own_same c.place_if.result (state_at t child)) c.stand-here.ensures.moved c.loop-i.invariant.moving;
      few = subst (λ (k : ℕ). k ≤ c.loop-i.i + 1) (sym c.past-j.ensures) (past_few ask c.loop-i.j c.loop-i.i c.loop-i.invariant.few);
    }

pub returns-clause-stands : goal.returns-clause-stands
returns-clause-stands c =
    stood_end c.args.r.now.tree c.loop-i.r.tree c.args.h c.loop-i.i c.loop-i.j _ _ c.args.places.now (λ less. omega (arith, c.loop-i-test.false, less)) c.loop-i.invariant.stands

pub returns-clause-moves : goal.returns-clause-moves
returns-clause-moves c = moving_end c.args.r.now.tree c.loop-i.r.tree c.args.h c.loop-i.i c.loop-i.moved c.loop-i.invariant.moving
