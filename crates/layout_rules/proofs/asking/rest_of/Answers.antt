use Rattle.std.proofs.Common.{ap, sym, subst, ◌∙◌, List, Option}
use Rattle.node_tree.specs.Tree.{Tree, IsTree}
use Rattle.plain_tree.specs.declared.laid.Frame.{Frame}
use Rattle.layout_form.specs.declared.asks.Ask.TheVariants.{AsBox}
use Rattle.layout_form.specs.Framed.{answers_of}
use Rattle.kind_rules.specs.Few.{items_of}
use Rattle.layout_walk.specs.Measure.{extents_in}
use Rattle.layout_walk.specs.Node.{stored}
use Rattle.render_tree.specs.Object.{RenderObject}
use Rattle.layout_rules.specs.declared.duties.Course.{Course}
use Rattle.layout_rules.specs.Courses.{cross_of}
use Rattle.layout_rules.specs.Ending.{asked_rest, known_in, measured_frames}
use Rattle.layout_rules.specs.Places.{render_at}
use Rattle.layout_rules.specs.Reads.{state_at, rest_by}
use Rattle.layout_rules.proofs.Filling.{if_ok}
use Rattle.layout_rules.proofs.Readings.{rest_seen, frames_are}
use Rattle.layout_rules.proofs.asking.rest_of.Goals as goal

pub returns-in-Run : goal.returns-in-Run
returns-in-Run c =
    let t = c.args.r.now.tree in
    let h = c.args.h in
    let first = items_of c.args.first.now in
    let is_tree : IsTree t = subst (λ (x : Tree RenderObject). IsTree x) c.tree.ensures c.count_laws.ensures.tree in
    if_ok c.run_rest.result _ _ (λ asks is v kids seen.
    is ∙ ap (λ (fs : List (Option Frame)). rest_by (render_at t h) (state_at t h) c.in-Run.ask c.args.told.now fs) (frames_are t first h v kids seen)
    ∙ rest_seen t h v kids is_tree seen c.in-Run.ask c.args.told.now (answers_of first (stored kids))
    ∙ ap (λ (x : Course). asked_rest x v c.args.told.now (known_in x first kids)) (sym c.in-Run.is)) c.run_rest.ensures

pub returns-in-View : goal.returns-in-View
returns-in-View c =
    let t = c.args.r.now.tree in
    let h = c.args.h in
    let first = items_of c.args.first.now in
    let axis = c.in-View.axis in
    let b = c.in-View.b in
    let is_tree : IsTree t = subst (λ (x : Tree RenderObject). IsTree x) c.tree.ensures c.count_laws.ensures.tree in
    if_ok c.view_rest.result _ _ (λ asks is v kids seen.
    is v kids seen ∙ rest_seen t h v kids is_tree seen (AsBox b) c.args.told.now (measured_frames axis (cross_of axis b) (extents_in axis (cross_of axis b) kids))
    ∙ ap (λ (x : Course). asked_rest x v c.args.told.now (known_in x first kids)) (sym c.in-View.is)) c.view_rest.ensures
