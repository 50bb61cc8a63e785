use Rattle.std.proofs.Common.{ap, sym, subst, ◌∙◌, List}
use Rattle.delegates.specs.Table.{meant_in}
use Rattle.node_tree.specs.Tree.{Tree, IsTree}
use Rattle.plain_tree.specs.declared.render.ParentData.{ParentData}
use Rattle.layout_form.specs.declared.asks.Ask.TheVariants.{AsBox}
use Rattle.layout_form.specs.Object.{setting_of}
use Rattle.layout_walk.specs.Node.{member, renders_in}
use Rattle.layout_walk.specs.Rules.{first_in, liked_in}
use Rattle.render_tree.specs.Object.{RenderObject}
use Rattle.layout_rules.specs.declared.duties.Course.{Course}
use Rattle.layout_rules.specs.Ending.{asked_first}
use Rattle.layout_rules.specs.Heard.{all_told}
use Rattle.layout_rules.proofs.Filling.{if_ok}
use Rattle.layout_rules.proofs.Readings.{first_seen, kept_are}
use Rattle.layout_rules.proofs.asking.first_of.Goals as goal

pub returns-in-Run : goal.returns-in-Run
returns-in-Run g c =
    let t = c.args.r.now.tree in
    let s = setting_of c.args.r.now.scale (meant_in c.args.table.now (λ v. (g.dyn-1.0.entry v).1)) in
    let is_tree : IsTree t = subst (λ (x : Tree RenderObject). IsTree x) c.tree.ensures c.count_laws.ensures.tree in
    let ask = c.in-Run.ask in
    if_ok c.rule_first.result _ _ (λ asks is v kids seen told.
    is ∙ first_seen s t c.args.h v kids is_tree seen ask (all_told t c.args.h c.args.told.now)
    ∙ ap (λ (ds : List ParentData). first_in s (member v) ask (liked_in s v.look ask (renders_in kids)) ds) told
    ∙ ap (λ (x : Course). asked_first s x v kids) (sym c.in-Run.is)) c.rule_first.ensures

pub returns-in-View : goal.returns-in-View
returns-in-View g c =
    let t = c.args.r.now.tree in
    let s = setting_of c.args.r.now.scale (meant_in c.args.table.now (λ v. (g.dyn-1.0.entry v).1)) in
    let is_tree : IsTree t = subst (λ (x : Tree RenderObject). IsTree x) c.tree.ensures c.count_laws.ensures.tree in
    let ask = AsBox c.in-View.b in
    if_ok c.rule_first-in-View.result _ _ (λ asks is v kids seen told.
    is ∙ first_seen s t c.args.h v kids is_tree seen ask (all_told t c.args.h c.args.told.now)
    ∙ ap (λ (ds : List ParentData). first_in s (member v) ask (liked_in s v.look ask (renders_in kids)) ds) told
    ∙ ap (λ (x : Course). asked_first s x v kids) (sym c.in-View.is)) c.rule_first-in-View.ensures

pub returns-in-Visit : goal.returns-in-Visit
returns-in-Visit g c =
    let s = setting_of c.args.r.now.scale (meant_in c.args.table.now (λ v. (g.dyn-1.0.entry v).1)) in
    if_ok c.kept_asks.result _ _ (λ asks is v kids seen told.
    is ∙ kept_are c.args.r.now.tree c.args.h v kids seen ∙ ap (λ (x : Course). asked_first s x v kids) (sym c.in-Visit.is)) c.kept_asks.ensures
