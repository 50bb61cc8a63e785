use Rattle.std.proofs.Common.{ap, sym, ◌∙◌, subst, List}
use Rattle.delegates.specs.Table.{meant_in}
use Rattle.node_tree.specs.Tree.{children_at}
use Rattle.plain_tree.specs.declared.render.ParentData.{ParentData}
use Rattle.layout_form.specs.declared.asks.Ask.{Ask}
use Rattle.layout_form.specs.Framed.{last_asks}
use Rattle.layout_form.specs.Object.{setting_of}
use Rattle.kind_rules.specs.Asked.{found_of, ruling_for, IsOffset}
use Rattle.kind_rules.specs.Cursor.{look_of, count_in}
use Rattle.kind_rules.specs.Few.{items_of}
use Rattle.layout_rules.specs.Ending.{CanMake}
use Rattle.layout_rules.specs.Heard.{all_told}
use Rattle.layout_rules.specs.Places.{render_at}
use Rattle.layout_rules.specs.Reads.{frames_at}
use Rattle.layout_rules.proofs.Filling.{if_ok}
use Rattle.layout_rules.proofs.FixedLists.{box_ruled, sliver_ruled}
use Rattle.layout_rules.proofs.Heard.{is_list, other_all, list_all, can_none}
use Rattle.layout_rules.proofs.made.made_at.Goals as goal

pub made_of_lists-requires-clause-can : goal.made_of_lists-requires-clause-can
made_of_lists-requires-clause-can g c =
    let t = c.args.r.now.tree in
    let h = c.args.h in
    let frames = frames_at t (last_asks (items_of c.args.before.now) (items_of c.args.rest.now)) (children_at t h) in
    subst (λ (ds : List ParentData). CanMake (look_of (render_at t h)) c.args.ask ds (found_of c.args.found) frames)
    (other_all t h c.args.told.now (sym c.list_at.ensures.stored ∙ c.in-None.is)) c.requires.can

pub made_of_lists-requires-in-AsBox-clause-can : goal.made_of_lists-requires-in-AsBox-clause-can
made_of_lists-requires-in-AsBox-clause-can g c =
    let t = c.args.r.now.tree in
    let h = c.args.h in
    let frames = frames_at t (last_asks (items_of c.args.before.now) (items_of c.args.rest.now)) (children_at t h) in
    can_none (look_of (render_at t h)) c.args.ask (all_told t h c.args.told.now) (found_of c.args.found) frames c.requires.can

pub list_made-requires : goal.list_made-requires
list_made-requires g c = subst (λ (a : Ask). IsOffset a) c.in-AsSliver.is c.requires.can.offset

pub returns-in-None : goal.returns-in-None
returns-in-None g c =
    let t = c.args.r.now.tree in
    let h = c.args.h in
    let s = setting_of c.args.r.now.scale (meant_in c.args.table.now (λ v. (g.dyn-1.0.entry v).1)) in
    let r = render_at t h in
    let frames = frames_at t (last_asks (items_of c.args.before.now) (items_of c.args.rest.now)) (children_at t h) in
    let all = other_all t h c.args.told.now (sym c.list_at.ensures.stored ∙ c.in-None.is) in
    if_ok c.made_of_lists.result _ _ (λ made is.
    is ∙ ap (λ (ds : List ParentData). ruling_for s (look_of r) (count_in r) c.args.ask (found_of c.args.found) ds frames) (sym all)) c.made_of_lists.ensures

pub returns-in-AsBox : goal.returns-in-AsBox
returns-in-AsBox g c =
    let t = c.args.r.now.tree in
    let h = c.args.h in
    let s = setting_of c.args.r.now.scale (meant_in c.args.table.now (λ v. (g.dyn-1.0.entry v).1)) in
    let r = render_at t h in
    let frames = frames_at t (last_asks (items_of c.args.before.now) (items_of c.args.rest.now)) (children_at t h) in
    let looks = is_list (look_of r) c.in-Some.extent (sym c.list_at.ensures.look ∙ c.in-Some.is) in
    if_ok c.made_of_lists-in-AsBox.result _ _ (λ made is.
    is ∙ box_ruled s (look_of r) c.in-Some.extent (count_in r) c.args.ask _ (found_of c.args.found) (all_told t h c.args.told.now) frames looks c.in-AsBox.is) c.made_of_lists-in-AsBox.ensures

pub returns-in-AsSliver : goal.returns-in-AsSliver
returns-in-AsSliver g c =
    let t = c.args.r.now.tree in
    let h = c.args.h in
    let s = setting_of c.args.r.now.scale (meant_in c.args.table.now (λ v. (g.dyn-1.0.entry v).1)) in
    let r = render_at t h in
    let frames = frames_at t (last_asks (items_of c.args.before.now) (items_of c.args.rest.now)) (children_at t h) in
    let extent = c.in-Some.extent in
    let looks = is_list (look_of r) extent (sym c.list_at.ensures.look ∙ c.in-Some.is) in
    let all = list_all t h c.args.told.now extent (sym c.list_at.ensures.stored ∙ c.in-Some.is) in
    if_ok c.list_made.result _ _ (λ made is.
    is ∙ sliver_ruled s t h (look_of r) extent (count_in r) c.args.ask c.in-AsSliver.b (found_of c.args.found) frames looks c.in-AsSliver.is
    ∙ ap (λ (ds : List ParentData). ruling_for s (look_of r) (count_in r) c.args.ask (found_of c.args.found) ds frames) (sym all)) c.list_made.ensures
