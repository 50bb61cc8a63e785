use Rattle.std.proofs.Common.{arith, refl, ◌≡◌, ap, sym, subst, ◌∙◌, Some, option_map}
use Rattle.fx_geom.specs.declared.scales.Scale.{Scale}
use Rattle.delegates.specs.Table.{meant_in}
use Rattle.layout_form.specs.Layout.{lay_view}
use Rattle.layout_form.specs.Object.{setting_of}
use Rattle.layout_owner.specs.Roots.{top_render}
use Rattle.plain_tree.specs.Render.{Render, Renders}
use Rattle.render_tree.specs.Plain.{laid_of, renders_of, root_tree}
use Rattle.render_readers.specs.Shown.{shown_laid}
use Rattle.screen_form.specs.Painted.{layer_of}
use Rattle.paint_owner.specs.PaintOwner.{IsKept}
use Rattle.screen_owner.proofs.Calm.{flushed_in, laid_in_same, settled_nodes}
use Rattle.screen_owner.proofs.Drawing.{once_laid, laid_layouts, laid_renders}
use Rattle.screen_owner.proofs.Indexing.{differ_same}
use Rattle.screen_owner.proofs.Laying.{settled_layouts}
use Rattle.screen_owner.proofs.Repainting.{laid_alone, laid_kept, laid_numbers}
use Rattle.screen_owner.proofs.Settling.{settled_shown, settled_renders, same_numbers_settled}
use Rattle.screen_owner.proofs.frames.draw.Goals as goal

pub flush-requires-2-clause-kept : goal.flush-requires-2-clause-kept
flush-requires-2-clause-kept g c = λ ready.
    let ds = meant_in c.args.table.now (λ v. (g.dyn-1.0.entry v).1) in
    let t0 = c.args.tree.now.tree in
    let t1 = c.flush.new.r.tree in
    let cell = c.args.tree.now.scale.cell in
    let layers = c.args.layers.now in
    subst (λ (x : Scale). IsKept x.cell ds layers (root_tree t1)) (sym c.flush.ensures.scale)
    (laid_kept cell ds t0 t1 c.root.ensures.tree c.requires.alone c.in_ok-flush.ensures.paints layers
    (λ also hs mid is lists sets kept. c.listed_changes_keep_layers.ensures cell ds ds layers also hs t0 mid t1 c.root.ensures.tree is lists sets kept) c.requires.kept)

pub returns-clause-shown : goal.returns-clause-shown
returns-clause-shown g c =
    let ds = meant_in c.args.table.now (λ v. (g.dyn-1.0.entry v).1) in
    let t0 = c.args.tree.now.tree in
    let t1 = c.flush.new.r.tree in
    let t2 = c.flush-2.new.tree.tree in
    let s = setting_of c.args.tree.now.scale ds in
    let done = c.in_ok-flush.ensures in
    settled_shown t1 t2 (laid_alone t0 t1 done.paints c.requires.alone) c.root-2.ensures.tree c.in_ok-flush-2.ensures.settles
    ∙ (once_laid s (root_tree t1) done.placed done.calm done.good.here ∙ done.laid)

pub returns-clause-layer : goal.returns-clause-layer
returns-clause-layer g c =
    let ds = meant_in c.args.table.now (λ v. (g.dyn-1.0.entry v).1) in
    let t0 = c.args.tree.now.tree in
    let t1 = c.flush.new.r.tree in
    let t2 = c.flush-2.new.tree.tree in
    let s = setting_of c.args.tree.now.scale ds in
    let done = c.in_ok-flush.ensures in
    let shown : shown_laid t2 ≡ laid_of (root_tree t1) =
    settled_shown t1 t2 (laid_alone t0 t1 done.paints c.requires.alone) c.root-2.ensures.tree c.in_ok-flush-2.ensures.settles
    ∙ once_laid s (root_tree t1) done.placed done.calm done.good.here in
    c.drop_dead.ensures.root
    ∙ (c.in_ok-flush-2.ensures.layer
    ∙ (ap (λ (x : Scale). option_map (layer_of x.cell ds) (laid_of (root_tree t1))) c.flush.ensures.scale
    ∙ ap (option_map (layer_of c.args.tree.now.scale.cell ds)) (sym shown)))

pub returns-clause-renders : goal.returns-clause-renders
returns-clause-renders g c = λ l differ shown.
    let ds = meant_in c.args.table.now (λ v. (g.dyn-1.0.entry v).1) in
    let t0 = c.args.tree.now.tree in
    let t1 = c.flush.new.r.tree in
    let t2 = c.flush-2.new.tree.tree in
    let s = setting_of c.args.tree.now.scale ds in
    let done = c.in_ok-flush.ensures in
    let alone = laid_alone t0 t1 done.paints c.requires.alone in
    let is = c.root-2.ensures.tree in
    let settles = c.in_ok-flush-2.ensures.settles in
    let laid : laid_of (root_tree t1) ≡ Some l =
    sym (settled_shown t1 t2 alone is settles ∙ once_laid s (root_tree t1) done.placed done.calm done.good.here) ∙ shown in
    settled_renders t1 t2 alone is settles
    ∙ laid_renders c.layouts_see_render_nodes.ensures.renders c.layouts_see_render_nodes.ensures.laids t0 t1 alone is done.placed done.scrolled differ l laid

pub returns-clause-layouts : goal.returns-clause-layouts
returns-clause-layouts g c =
    let ds = meant_in c.args.table.now (λ v. (g.dyn-1.0.entry v).1) in
    let t0 = c.args.tree.now.tree in
    let t1 = c.flush.new.r.tree in
    let t2 = c.flush-2.new.tree.tree in
    let s = setting_of c.args.tree.now.scale ds in
    let done = c.in_ok-flush.ensures in
    settled_layouts s t1 t2 c.root-2.ensures.tree c.in_ok-flush-2.ensures.settles
    (laid_layouts s t1 (laid_alone t0 t1 done.paints c.requires.alone) c.root-2.ensures.tree done.good.here)

pub returns-clause-numbers : goal.returns-clause-numbers
returns-clause-numbers g c = λ k.
    let t0 = c.args.tree.now.tree in
    let t1 = c.flush.new.r.tree in
    let t2 = c.flush-2.new.tree.tree in
    same_numbers_settled t1 t2 c.root-2.ensures.tree c.in_ok-flush-2.ensures.settles k ∙ laid_numbers t0 t1 c.in_ok-flush.ensures.paints k

pub returns-clause-steps : goal.returns-clause-steps
returns-clause-steps g c = λ old top brings.
    let ds = meant_in c.args.table.now (λ v. (g.dyn-1.0.entry v).1) in
    let s = setting_of c.args.tree.now.scale ds in
    let t0 = c.args.tree.now.tree in
    let t1 = c.flush.new.r.tree in
    let done = c.in_ok-flush.ensures in
    record {
      brought = t0;
      brings = brings;
      ticks = done.ticks;
      due = done.due;
      laid = t1;
      lays = done.paints;
      stands = record {
        tree = c.root-2.ensures.tree;
        alone = laid_alone t0 t1 done.paints c.requires.alone;
        differ = differ_same t0 t1 (laid_numbers t0 t1 done.paints) brings.after.differ;
      };
      placed = done.placed;
      calm = done.calm;
      left = done.left;
      here = done.good.here;
      shown = done.laid ∙ ap (λ (rs : Renders). option_map (λ (x : Render). lay_view s x c.args.view) (top_render rs)) brings.renders;
      paints = c.in_ok-flush-2.ensures.paints;
      settles = c.in_ok-flush-2.ensures.settles;
      painted = c.in_ok-flush-2.ensures.calm;
    }

pub returns-clause-over : goal.returns-clause-over
returns-clause-over g c = λ old top brings.
    let ds = meant_in c.args.table.now (λ v. (g.dyn-1.0.entry v).1) in
    let s = setting_of c.args.tree.now.scale ds in
    let t0 = c.args.tree.now.tree in
    let t1 = c.flush.new.r.tree in
    let done = c.in_ok-flush.ensures in
    record {
      steps = record {
        brought = t0;
        brings = brings;
        ticks = done.ticks;
        due = done.due;
        laid = t1;
        lays = done.paints;
        stands = record {
          tree = c.root-2.ensures.tree;
          alone = laid_alone t0 t1 done.paints c.requires.alone;
          differ = differ_same t0 t1 (laid_numbers t0 t1 done.paints) brings.after.differ;
        };
        placed = done.placed;
        calm = done.calm;
        left = done.left;
        here = done.good.here;
        shown = done.laid ∙ ap (λ (rs : Renders). option_map (λ (x : Render). lay_view s x c.args.view) (top_render rs)) brings.renders;
        paints = c.in_ok-flush-2.ensures.paints;
        settles = c.in_ok-flush-2.ensures.settles;
        painted = c.in_ok-flush-2.ensures.calm;
      };
      same = refl;
    }

pub returns-clause-layers : goal.returns-clause-layers
returns-clause-layers g c =
    let ds = meant_in c.args.table.now (λ v. (g.dyn-1.0.entry v).1) in
    let t2 = c.flush-2.new.tree.tree in
    let kept = c.in_ok-flush-2.ensures.kept in
    let scale = c.flush-2.ensures.scale ∙ c.flush.ensures.scale in
    c.drop_dead.ensures.kept c.args.tree.now.scale.cell ds
    (subst (λ (x : Scale). IsKept x.cell ds c.flush-2.new.self (root_tree t2)) scale kept)

pub returns-clause-still : goal.returns-clause-still
returns-clause-still g c = λ laid_in. let due = c.in_ok-flush.ensures.due laid_in.asked in omega (arith, due, laid_in.none_due)

pub returns-clause-calm : goal.returns-clause-calm
returns-clause-calm g c =
    let ds = meant_in c.args.table.now (λ v. (g.dyn-1.0.entry v).1) in
    let t0 = c.args.tree.now.tree in
    let t1 = c.flush.new.r.tree in
    let t2 = c.flush-2.new.tree.tree in
    let s = setting_of c.args.tree.now.scale ds in
    let done = c.in_ok-flush.ensures in
    laid_in_same c.args.view t1 t2 (settled_nodes t1 t2 (laid_alone t0 t1 done.paints c.requires.alone) c.root-2.ensures.tree c.in_ok-flush-2.ensures.settles)
    (flushed_in s c.args.view t1 (renders_of (root_tree t0)) done.placed done.calm done.good.here done.none_due done.laid (c.proxies_pass_their_bounds_on.ensures.holds s))
