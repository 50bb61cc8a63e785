use Rattle.std.proofs.Common.{true, subst}
use Rattle.node_tree.specs.Tree.{Tree, IsTree}
use Rattle.render_tree.specs.Object.{RenderObject}
use Rattle.delegates.specs.Table.{meant_in}
use Rattle.layout_form.specs.declared.asks.Ask.TheVariants.{AsBox}
use Rattle.layout_form.specs.Object.{setting_of}
use Rattle.layout_walk.specs.Rules.{parts_of}
use Rattle.layout_rules.specs.declared.duties.Duty.TheVariants.{Lay}
use Rattle.layout_rules.proofs.Flagged.{flags_run}
use Rattle.layout_rules.proofs.Listed.{listed_once}
use Rattle.layout_rules.proofs.Plugged.{plugs_seen}
use Rattle.layout_rules.proofs.Repainted.{seen_marked, serves_marked, marks_live, painted_anew, painted_few, laid_apart}
use Rattle.layout_rules.proofs.laying.lay.Goals as goal

pub mark_paints-requires : goal.mark_paints-requires
mark_paints-requires g c = marks_live c.args.r.now.tree c.serve.new.r.tree c.args.h _ _ c.as_slice.result.now c.in_ok-serve.ensures.paints c.new-changed.ensures.items c.as_slice.ensures.value

pub returns-clause-served : goal.returns-clause-served
returns-clause-served g c =
    let s = setting_of c.args.r.now.scale (meant_in c.args.table.now (λ v. (g.dyn-1.0.entry v).1)) in
    serves_marked true c.as_slice.result.now c.serve.new.r.tree c.mark_paints.new.self.tree c.mark_paints.ensures.sets (parts_of s) c.args.outer _ c.args.r.now.tree c.args.h _ _ c.in_ok-serve.ensures.served

pub returns-clause-paints : goal.returns-clause-paints
returns-clause-paints g c =
    let s = setting_of c.args.r.now.scale (meant_in c.args.table.now (λ v. (g.dyn-1.0.entry v).1)) in
    let serves = c.in_ok-serve.ensures.served in
    let once = listed_once (parts_of s) c.args.outer _ c.args.r.now.tree c.args.h serves.value serves.kids _ _ c.as_slice.result.now serves.good.stands c.new-changed.ensures.items c.as_slice.ensures.value c.in_ok-serve.ensures.lists in
    painted_anew c.args.r.now.tree c.serve.new.r.tree c.mark_paints.new.self.tree c.args.h _ _ c.as_slice.result.now c.in_ok-serve.ensures.paints c.new-changed.ensures.items c.as_slice.ensures.value c.mark_paints.ensures.sets once

pub returns-clause-apart : goal.returns-clause-apart
returns-clause-apart g c =
    let old = c.args.r.now.tree in
    let mid = c.serve.new.r.tree in
    let is0 : IsTree old = subst (λ (x : Tree RenderObject). IsTree x) c.tree.ensures c.count_laws.ensures.tree in
    let is1 : IsTree mid = subst (λ (x : Tree RenderObject). IsTree x) c.tree-2.ensures c.count_laws-2.ensures.tree in
    let serves = c.in_ok-serve.ensures.served in
    laid_apart old mid c.mark_paints.new.self.tree c.args.h _ _ c.as_slice.result.now is0 is1 serves.value serves.kids _ serves.good.stands serves.turns
    c.in_ok-serve.ensures.paints c.new-changed.ensures.items c.as_slice.ensures.value c.mark_paints.ensures.sets

pub returns-clause-few : goal.returns-clause-few
returns-clause-few g c =
    let s = setting_of c.args.r.now.scale (meant_in c.args.table.now (λ v. (g.dyn-1.0.entry v).1)) in
    let serves = c.in_ok-serve.ensures.served in
    let once = listed_once (parts_of s) c.args.outer _ c.args.r.now.tree c.args.h serves.value serves.kids _ _ c.as_slice.result.now serves.good.stands c.new-changed.ensures.items c.as_slice.ensures.value c.in_ok-serve.ensures.lists in
    painted_few c.args.r.now.tree c.serve.new.r.tree c.mark_paints.new.self.tree c.args.h _ _ c.as_slice.result.now _ _ c.in_ok-serve.ensures.paints c.new-changed.ensures.items c.as_slice.ensures.value c.mark_paints.ensures.sets
    once c.in_ok-serve.ensures.few

pub returns-clause-flags : goal.returns-clause-flags
returns-clause-flags g c =
    let s = setting_of c.args.r.now.scale (meant_in c.args.table.now (λ v. (g.dyn-1.0.entry v).1)) in
    let mid = c.serve.new.r.tree in
    let new = c.mark_paints.new.self.tree in
    flags_run (parts_of s) c.args.outer (Lay (AsBox c.args.bounds)) c.args.r.now.tree mid new c.args.h _ _ (seen_marked true c.as_slice.result.now mid new c.mark_paints.ensures.sets) c.in_ok-serve.ensures.paints
    c.in_ok-serve.ensures.flags c.in_ok-serve.ensures.lists

pub returns-clause-plugs : goal.returns-clause-plugs
returns-clause-plugs g c =
    let mid = c.serve.new.r.tree in
    let new = c.mark_paints.new.self.tree in
    plugs_seen (meant_in c.args.table.now (λ v. (g.dyn-1.0.entry v).1)) c.args.r.now.tree mid new (seen_marked true c.as_slice.result.now mid new c.mark_paints.ensures.sets) c.in_ok-serve.ensures.plugs
