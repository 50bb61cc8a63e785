use Rattle.std.proofs.Common.{ap, sym, subst, ◌∙◌, List, map, length}
use Rattle.delegates.specs.Table.{meant_in}
use Rattle.fx_handles.specs.declared.Handle.{Handle}
use Rattle.widget_model.specs.Look.{Look}
use Rattle.plain_tree.specs.declared.render.ParentData.{ParentData}
use Rattle.layout_form.specs.Fits.{FitsLayout}
use Rattle.layout_form.specs.Layout.{object}
use Rattle.layout_form.specs.Object.{setting_of, only_of}
use Rattle.kind_rules.specs.Asked.{liked_for}
use Rattle.kind_rules.specs.Cursor.{look_of, count_in, children_of}
use Rattle.layout_rules.specs.Heard.{told_below}
use Rattle.layout_rules.specs.Places.{render_at}
use Rattle.layout_rules.specs.Reads.{first_by}
use Rattle.layout_rules.proofs.Filling.{if_ok}
use Rattle.layout_rules.proofs.FixedLists.{fits_look, list_asks, told_length}
use Rattle.layout_rules.proofs.Heard.{is_list, other_all, list_all}
use Rattle.layout_rules.proofs.asking.rule_first.Goals as goal

pub list_first-requires : goal.list_first-requires
list_first-requires g c =
    let r = render_at c.args.r.now.tree c.args.h in
    let looks = is_list (look_of r) c.in-Some.extent (sym c.list_at.ensures.look ∙ c.in-Some.is) in
    subst (λ (l : Look). FitsLayout l) looks (fits_look r c.requires.fits)

pub returns-in-None : goal.returns-in-None
returns-in-None g c =
    let t = c.args.r.now.tree in
    let s = setting_of c.args.r.now.scale (meant_in c.args.table.now (λ v. (g.dyn-1.0.entry v).1)) in
    let all = other_all t c.args.h c.args.told.now (sym c.list_at.ensures.stored ∙ c.in-None.is) in
    if_ok c.first_told.result _ _ (λ asks is. is ∙ ap (λ (ds : List ParentData). first_by s (render_at t c.args.h) c.args.ask ds) (sym all)) c.first_told.ensures

pub returns-in-Some : goal.returns-in-Some
returns-in-Some g c =
    let t = c.args.r.now.tree in
    let h = c.args.h in
    let r = render_at t h in
    let s = setting_of c.args.r.now.scale (meant_in c.args.table.now (λ v. (g.dyn-1.0.entry v).1)) in
    let extent = c.in-Some.extent in
    let looks = is_list (look_of r) extent (sym c.list_at.ensures.look ∙ c.in-Some.is) in
    let all = list_all t h c.args.told.now extent (sym c.list_at.ensures.stored ∙ c.in-Some.is) in
    let count = told_length t h ∙ sym (ap (λ (hs : List Handle). length hs) c.children.ensures.value) in
    if_ok c.list_first.result _ _ (λ asks is.
    is s (told_below t h) (count_in r) (liked_for (look_of r) c.args.ask (only_of (map (object s) (children_of r)))) count
    ∙ list_asks s r c.args.ask extent (told_below t h) looks
    ∙ ap (λ (ds : List ParentData). first_by s r c.args.ask ds) (sym all)) c.list_first.ensures
