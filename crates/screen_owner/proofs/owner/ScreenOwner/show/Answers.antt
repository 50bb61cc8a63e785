use Rattle.std.proofs.Common.{◌≡◌, ap, sym, subst, ◌∙◌, false}
use Rattle.fx_geom.specs.declared.scales.Scale.{Scale}
use Rattle.delegates.specs.Table.{meant_in}
use Rattle.layout_form.specs.Layout.{lay_view}
use Rattle.layout_form.specs.Object.{setting_of}
use Rattle.layout_rules.specs.Nodes.{layout_nodes}
use Rattle.node_tree.specs.Tree.{Tree}
use Rattle.render_tree.specs.Object.{RenderObject}
use Rattle.render_tree.specs.Plain.{renders_of, root_tree}
use Rattle.render_readers.specs.Shown.{shown_laid}
use Rattle.kept_layouts.specs.Here.{KeepsLayouts}
use Rattle.paint_owner.specs.PaintOwner.{IsKept}
use Rattle.screen_owner.specs.Screen.{KeptScreen, IsRight}
use Rattle.plain_tree.specs.Render.{no_renders, more_renders}
use Rattle.screen_owner.specs.Last.{GoOn}
use Rattle.screen_owner.specs.Steps.{StepsInPlace, IsLaidIn}
use Rattle.screen_owner.proofs.Indexing.{numbering_same}
use Rattle.screen_owner.proofs.Naming.{are_scrolled, are_kinds}
use Rattle.screen_owner.proofs.Owning.{ready_from}
use Rattle.screen_owner.proofs.Framing.{good_brought, shown_of, one_differs, corrected_top}
use Rattle.screen_owner.proofs.owner.ScreenOwner.show.Goals as goal

pub draw-requires-clause-good : goal.draw-requires-clause-good
draw-requires-clause-good g c =
    let ds = meant_in c.args.table.now (λ v. (g.dyn-1.0.entry v).1) in
    let ready : c.args.self.now.spent ≡ false = ap (λ (x : KeptScreen). x.spent) (sym c.self.view_is) ∙ c.if-self.false in
    let right = subst (IsRight ds) (sym c.self.view_is) (c.requires.right ready) in
    let scale = c.self.inside.tree.scale in
    let done = c.in_ok-bring.ensures in
    good_brought ds scale c.bring.new.tree.scale c.bring.ensures.scale c.bring.new.tree.tree c.args.top.now done.stands.alone done.tree done.renders c.requires.fits
    (done.layouts (setting_of scale ds) right.layouts)

pub draw-requires-clause-kept : goal.draw-requires-clause-kept
draw-requires-clause-kept g c =
    let ds = meant_in c.args.table.now (λ v. (g.dyn-1.0.entry v).1) in
    let ready : c.args.self.now.spent ≡ false = ap (λ (x : KeptScreen). x.spent) (sym c.self.view_is) ∙ c.if-self.false in
    let right = subst (IsRight ds) (sym c.self.view_is) (c.requires.right ready) in
    let layers = c.self.inside.layers in
    subst (λ (x : Scale). IsKept x.cell ds layers (root_tree c.bring.new.tree.tree)) (sym c.bring.ensures.scale)
    (c.in_ok-bring.ensures.layers c.self.inside.tree.scale.cell ds layers right.layers)

pub returns-clause-nodes : goal.returns-clause-nodes
returns-clause-nodes g c =
    let ds = meant_in c.args.table.now (λ v. (g.dyn-1.0.entry v).1) in
    let brought = renders_of (root_tree c.bring.new.tree.tree) in
    let renders = c.in_ok-bring.ensures.renders in
    let l = lay_view (setting_of c.args.self.now.scale ds) c.args.top.now c.args.view in
    let shown = shown_of ds c.args.self.now.scale c.bring.new.tree.scale (c.bring.ensures.scale ∙ ap (λ (x : KeptScreen). x.scale) c.self.view_is) c.args.view c.args.top.now
    brought renders (shown_laid c.draw.new.tree.tree) c.in_ok-draw.ensures.shown in
    corrected_top c.args.top.now brought (renders_of (root_tree c.draw.new.tree.tree)) l renders
    (c.in_ok-draw.ensures.renders l (one_differs c.args.top.now brought renders c.requires.differ) shown)

pub bring-requires-clause-scrolled : goal.bring-requires-clause-scrolled
bring-requires-clause-scrolled g c =
    let t = c.self.inside.tree.tree in
    let spent : c.args.self.now.spent ≡ false = ap (λ (x : KeptScreen). x.spent) (sym c.self.view_is) ∙ c.if-self.false in
    let ready = ready_from c.self.inside.spent c.self.inside.numbers t c.self.invariant c.if-self.false in
    are_scrolled c.self.inside.numbers t ready c.root.ensures.tree c.args.top.now
    (subst (λ (x : KeptScreen). GoOn (renders_of (root_tree x.nodes)) c.args.top.now) (sym c.self.view_is) (c.requires.goes_on spent))

pub bring-requires-clause-kinds : goal.bring-requires-clause-kinds
bring-requires-clause-kinds g c =
    let t = c.self.inside.tree.tree in
    let spent : c.args.self.now.spent ≡ false = ap (λ (x : KeptScreen). x.spent) (sym c.self.view_is) ∙ c.if-self.false in
    let ready = ready_from c.self.inside.spent c.self.inside.numbers t c.self.invariant c.if-self.false in
    are_kinds c.self.inside.numbers t ready c.root.ensures.tree c.args.top.now
    (subst (λ (x : KeptScreen). GoOn (renders_of (root_tree x.nodes)) c.args.top.now) (sym c.self.view_is) (c.requires.goes_on spent))

pub returns-clause-still : goal.returns-clause-still
returns-clause-still g c = λ spent laid_in there.
    c.in_ok-draw.ensures.still
    (c.in_ok-bring.ensures.still c.args.view
    (subst (λ (x : KeptScreen). renders_of (root_tree x.nodes) ≡ more_renders c.args.top.now no_renders) (sym c.self.view_is) there)
    (subst (λ (x : KeptScreen). IsLaidIn c.args.view x.nodes) (sym c.self.view_is) laid_in))

pub invariant_of-self-2 : goal.invariant_of-self-2
invariant_of-self-2 g c = record {
  numbering = numbering_same c.bring.new.numbers c.bring.new.tree.tree c.draw.new.tree.tree c.in_ok-draw.ensures.numbers c.in_ok-bring.ensures.stands.numbering;
  alone = c.in_ok-draw.ensures.alone;
}

pub returns-clause-right : goal.returns-clause-right
returns-clause-right g c =
    let ds = meant_in c.args.table.now (λ v. (g.dyn-1.0.entry v).1) in
    let t = c.draw.new.tree.tree in
    record {
      layouts = subst (λ (x : Scale). KeepsLayouts (setting_of x ds) t) (sym c.draw.ensures.scale) c.in_ok-draw.ensures.layouts;
      layers = subst (λ (x : Scale). IsKept x.cell ds c.draw.new.layers (root_tree t)) (sym c.draw.ensures.scale) c.in_ok-draw.ensures.layers;
    }

pub returns-clause-in_place : goal.returns-clause-in_place
returns-clause-in_place g c = λ spent there.
    let ds = meant_in c.args.table.now (λ v. (g.dyn-1.0.entry v).1) in
    let t = c.self.inside.tree.tree in
    let now = c.draw.new.tree.tree in
    let top = c.args.top.now in
    let over = c.in_ok-draw.ensures.over t top c.in_ok-bring.ensures.brings in
    let here : renders_of (root_tree t) ≡ more_renders top no_renders = subst (λ (x : KeptScreen). renders_of (root_tree x.nodes) ≡ more_renders top no_renders) (sym c.self.view_is) there in
    let steps : StepsInPlace (setting_of c.bring.new.tree.scale ds) c.args.view t top now c.args.layouts.now c.draw.new.layouts c.args.paints.now c.draw.new.paints =
    record { steps = over.steps; same = ap (λ (x : Tree RenderObject). layout_nodes (root_tree x)) over.same ∙ c.in_ok-bring.ensures.same here } in
    subst (λ (x : KeptScreen). StepsInPlace (setting_of x.scale ds) c.args.view x.nodes top now c.args.layouts.now c.draw.new.layouts c.args.paints.now c.draw.new.paints) c.self.view_is
    (subst (λ (x : Scale). StepsInPlace (setting_of x ds) c.args.view t top now c.args.layouts.now c.draw.new.layouts c.args.paints.now c.draw.new.paints) c.bring.ensures.scale steps)
