use Rattle.std.proofs.Common.{cond, Some, IsSome, refl, sym, ap, subst, ◌∙◌, arith}
use Rattle.std.proofs.lemmas.Bool.{eq-eqb}
use Rattle.std.proofs.lemmas.Result.{on_ok_weaker}
use Rattle.std.specs.BTreeMap.{get}
use Rattle.std.specs.Ordering.{nat_cmp}
use Rattle.render_sync.proofs.PlaceLemmas.{grows_loose, numbering_loose, none_of}
use Rattle.render_sync.proofs.placing.place.Goals as goal

pub returns-clause-index : goal.returns-clause-index
returns-clause-index c =
    let keeps = c.keep_laws.ensures.loose c.args.tree.now.tree c.make.new.tree.tree c.in_ok-h.h _ c.in_ok-h.ensures.inserted.adds in
    on_ok_weaker c.put.result
    (λ index. numbering_loose c.args.numbers.now c.put.new.numbers c.args.tree.now.tree c.make.new.tree.tree c.in_ok-h.h c.args.number _ c.requires.index c.in_ok-h.ensures.inserted
    (sym c.find.ensures ∙ none_of c.find.result _ c.is_some.ensures c.if-is_some.false) index keeps)
    c.put.ensures

pub returns-clause-grows : goal.returns-clause-grows
returns-clause-grows c =
    let keeps = c.keep_laws.ensures.loose c.args.tree.now.tree c.make.new.tree.tree c.in_ok-h.h _ c.in_ok-h.ensures.inserted.adds in
    on_ok_weaker c.put.result (λ index. grows_loose c.args.tree.now.tree c.make.new.tree.tree c.in_ok-h.h c.args.number _ c.in_ok-h.ensures.inserted keeps) c.put.ensures

pub returns-clause-there : goal.returns-clause-there
returns-clause-there c =
    on_ok_weaker c.put.result (λ index. subst IsSome (sym (index c.args.number ∙ ap (λ b. cond b (Some c.in_ok-h.h) (get nat_cmp c.args.numbers.now c.args.number)) (eq-eqb c.args.number c.args.number refl))) refl) c.put.ensures

pub returns-clause-room : goal.returns-clause-room
returns-clause-room c =
    let adds = c.in_ok-h.ensures.inserted.adds in
    on_ok_weaker c.put.result (λ index. omega (arith, adds.used, adds.retired)) c.put.ensures

pub returns-clause-made : goal.returns-clause-made
returns-clause-made c =
    let adds = c.in_ok-h.ensures.inserted.adds in
    on_ok_weaker c.put.result (λ index. omega (arith, adds.inserted)) c.put.ensures
