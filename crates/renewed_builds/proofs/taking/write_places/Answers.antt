use Rattle.std.proofs.Common.{take, get_or, refl, sym, subst}
use Rattle.std.proofs.lemmas.List.{take_more, take_all}
use Rattle.element_tree.specs.Edits.{with_index}
use Rattle.renewed_builds.specs.declared.taking.Moved.{Moved}
use Rattle.renewed_builds.specs.Taking.{WritesAll, after_moves}
use Rattle.renewed_builds.proofs.Writing.{moves_none, moves_more}
use Rattle.renewed_builds.proofs.taking.write_places.Goals as goal

pub loop-moved-init : goal.loop-moved-init
loop-moved-init c = moves_none c.args.t.now.tree

pub loop-moved-preserved : goal.loop-moved-preserved
loop-moved-preserved c =
    let ms = c.args.moves.now in
    let i = c.loop-moved.moved-index in
    let none : Moved = record { element = record { index = 0; generation = 0 }; place = 0 } in
    let x = get_or ms i none in
    let old = c.loop-moved.t.tree in
    let new = c.set_place.new.self.tree in
    subst (λ l. WritesAll (after_moves l) c.args.t.now.tree new) (sym (take_more ms i none c.loop-moved-test.true))
    (moves_more (take i ms) x c.args.t.now.tree old new c.loop-moved.invariant c.set_place.ensures.place
    (λ r named. c.edits_keep_names.ensures.changed r old new x.element (with_index x.place) c.set_place.ensures.place (λ e at. refl) named))

pub returns : goal.returns
returns c = subst (λ ms. WritesAll (after_moves ms) c.args.t.now.tree c.loop-moved.t.tree) (take_all c.loop-moved.moved-index c.args.moves.now c.loop-moved-test.false) c.loop-moved.invariant
