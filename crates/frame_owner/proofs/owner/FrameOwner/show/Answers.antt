use Rattle.std.proofs.Common.{◌≡◌, ℕ, ◌≤◌, ap, sym, subst, ◌∙◌, arith, Option, Some, [], option_map, false}
use Rattle.fx_geom.specs.declared.scales.Scale.{Scale}
use Rattle.fx_handles.specs.Arena.{used_count}
use Rattle.delegates.specs.Table.{meant_in}
use Rattle.node_tree.specs.Tree.{Tree}
use Rattle.element_tree.specs.Element.{Element}
use Rattle.plain_tree.specs.Offsets.{offset_at, scrolled_by}
use Rattle.plain_tree.specs.PlainNode.{PlainNode}
use Rattle.program_check.specs.Checked.{PlainChecked}
use Rattle.template_build.specs.Program.{declarations_of}
use Rattle.plain_tree.specs.Render.{Render}
use Rattle.layout_form.specs.Layout.{lay_view}
use Rattle.layout_form.specs.Object.{setting_of}
use Rattle.layout_owner.specs.Roots.{top_render}
use Rattle.render_tree.specs.Plain.{renders_of, root_tree}
use Rattle.render_readers.specs.Shown.{shown_laid}
use Rattle.screen_owner.specs.Screen.{KeptScreen, shown_in, layer_in}
use Rattle.screen_owner.specs.Steps.{Brings, StepsOver}
use Rattle.kept_layouts.specs.Here.{KeepsLayouts}
use Rattle.kept_layouts.specs.Items.{AllListsUnasked}
use Rattle.paint_owner.specs.PaintOwner.{IsKept}
use Rattle.screen_form.specs.Painted.{layer_of}
use Rattle.session_form.specs.Framing.{laid_of}
use Rattle.widget_model.specs.View.{shared}
use Rattle.build_form.specs.Program.{blueprint_of}
use Rattle.kept_builds.specs.Offsets.{offsets_in}
use Rattle.frame_owner.specs.Frame.{KeptFrame}
use Rattle.frame_owner.specs.Framed.{screen_for, ShowsBuild}
use Rattle.frame_owner.specs.Standing.{ShowsStill, FrameStandsFor}
use Rattle.frame_owner.proofs.Going.{held_by}
use Rattle.frame_owner.proofs.Itself.{brings_itself}
use Rattle.frame_owner.proofs.Keyless.{offsets_keyless}
use Rattle.frame_owner.proofs.Shown as shown
use Rattle.frame_owner.proofs.Known.{settled_still}
use Rattle.frame_owner.proofs.Still.{shown_still}
use Rattle.frame_owner.proofs.Unasked.{scrolled_unasked}
use Rattle.frame_owner.proofs.Windows.{stands_alone}
use Rattle.frame_owner.proofs.owner.FrameOwner.show.Goals as goal

pub draw-requires-clause-root : goal.draw-requires-clause-root
draw-requires-clause-root g c =
    let ds = meant_in c.args.table.now (λ v. (g.dyn-1.0.entry v).1) in
    let ready : c.args.self.now.screen.spent ≡ false = ap (λ (x : KeptFrame). x.screen.spent) (sym c.self.view_is) ∙ c.if-self.false in
    let st = subst (λ (x : KeptFrame). (p : PlainChecked) × (n : PlainNode) × FrameStandsFor p ds [] (Some n) x) (sym c.self.view_is) (c.requires.stands ready) in
    let h = st.2.trees in
    shown.has_root st.0 [] st.1 st.2.scrolled c.self.inside.elements.tree c.self.inside.nodes.tree c.self.inside.keys h
    (c.one_root_is_laid_out.ensures st.1 (c.built_trees_vanish_alone.ensures (declarations_of st.0) st.1 h.elements.well))

pub draw-requires-clause-alone : goal.draw-requires-clause-alone
draw-requires-clause-alone g c =
    let ds = meant_in c.args.table.now (λ v. (g.dyn-1.0.entry v).1) in
    let ready : c.args.self.now.screen.spent ≡ false = ap (λ (x : KeptFrame). x.screen.spent) (sym c.self.view_is) ∙ c.if-self.false in
    let st = subst (λ (x : KeptFrame). (p : PlainChecked) × (n : PlainNode) × FrameStandsFor p ds [] (Some n) x) (sym c.self.view_is) (c.requires.stands ready) in
    let h = st.2.trees in
    shown.alone st.0 [] st.1 st.2.scrolled c.self.inside.elements.tree c.self.inside.nodes.tree c.self.inside.keys h
    (c.one_root_is_laid_out.ensures st.1 (c.built_trees_vanish_alone.ensures (declarations_of st.0) st.1 h.elements.well))

pub draw-requires-clause-good : goal.draw-requires-clause-good
draw-requires-clause-good g c =
    let ds = meant_in c.args.table.now (λ v. (g.dyn-1.0.entry v).1) in
    let ready : c.args.self.now.screen.spent ≡ false = ap (λ (x : KeptFrame). x.screen.spent) (sym c.self.view_is) ∙ c.if-self.false in
    let st = subst (λ (x : KeptFrame). (p : PlainChecked) × (n : PlainNode) × FrameStandsFor p ds [] (Some n) x) (sym c.self.view_is) (c.requires.stands ready) in
    let h = st.2.trees in
    let t = c.self.inside.elements.tree in
    let one = c.one_root_is_laid_out.ensures st.1 (c.built_trees_vanish_alone.ensures (declarations_of st.0) st.1 h.elements.well) in
    let room = subst (λ (x : Tree Element). used_count x.nodes ≤ 4194304) c.tree.ensures (let few = c.count_laws.ensures.few in omega (arith, few)) in
    shown.good st.0 [] st.1 st.2.scrolled t c.self.inside.nodes.tree c.self.inside.keys h one (setting_of c.self.inside.nodes.scale ds) st.2.right.layouts
    (c.built_trees_can_be_laid_out.ensures (declarations_of st.0) st.1 h.elements.well (shown.small st.0 [] st.1 st.2.scrolled t c.self.inside.nodes.tree c.self.inside.keys h one room))

pub draw-requires-clause-kept : goal.draw-requires-clause-kept
draw-requires-clause-kept g c =
    let ds = meant_in c.args.table.now (λ v. (g.dyn-1.0.entry v).1) in
    let ready : c.args.self.now.screen.spent ≡ false = ap (λ (x : KeptFrame). x.screen.spent) (sym c.self.view_is) ∙ c.if-self.false in
    let st = subst (λ (x : KeptFrame). (p : PlainChecked) × (n : PlainNode) × FrameStandsFor p ds [] (Some n) x) (sym c.self.view_is) (c.requires.stands ready) in
    st.2.right.layers

pub returns-clause-shows : goal.returns-clause-shows
returns-clause-shows g c = λ p built stands_now.
    let ds = meant_in c.args.table.now (λ v. (g.dyn-1.0.entry v).1) in
    let inside = c.self.inside in
    let t = inside.elements.tree in
    let r = inside.nodes.tree in
    let r2 = c.draw.new.tree.tree in
    let st = subst (FrameStandsFor p ds [] (Some built)) (sym c.self.view_is) stands_now in
    let h = st.trees in
    let one = c.one_root_is_laid_out.ensures built (c.built_trees_vanish_alone.ensures (declarations_of p) built h.elements.well) in
    let before : KeptFrame = record { elements = t; keys = inside.keys; screen = record { nodes = r; scale = inside.nodes.scale; layers = inside.layers; spent = inside.spent }; settled = option_map shared inside.settled; keyless = inside.keyless; marked = inside.marked; still = inside.still } in
    let screen = screen_for before ds c.args.view in
    let done = c.in_ok-draw.ensures in
    let is_laid : shown_laid r2 ≡ Some (laid_of screen built) = shown.laid_is p [] built st.scrolled t r inside.keys h one screen (shown_laid r2) done.shown in
    let off : ℕ → Option ℕ = λ n. offset_at n (laid_of screen built) in
    let differ = shown.differ p [] built st.scrolled t r inside.keys h one (c.projection_keeps_numbers_apart.ensures built h.elements.numbered.differ) in
    let has = shown.projection p [] built st.scrolled t r inside.keys h one off r2 done.alone c.root-2.ensures.tree (c.projections_take_offsets.ensures off built)
    (done.renders (laid_of screen built) differ is_laid) in
    let after : KeptFrame = record { elements = t; keys = inside.keys; screen = record { nodes = r2; scale = c.draw.new.tree.scale; layers = c.draw.new.layers; spent = false }; settled = option_map shared inside.settled; keyless = inside.keyless; marked = inside.marked; still = Some c.args.view } in
    let made = scrolled_by off built in
    let offsets = offsets_in (Some made) in
    let trees = c.lines_leave_standing_trees.ensures.offsets p [] (Some built) st.scrolled t r r2 inside.keys off h done.numbers has in
    let s = setting_of inside.nodes.scale ds in
    let one2 = c.one_root_is_laid_out.ensures made (c.built_trees_vanish_alone.ensures (declarations_of p) made trees.elements.well) in
    let room = subst (λ (x : Tree Element). used_count x.nodes ≤ 4194304) c.tree.ensures (let few = c.count_laws.ensures.few in omega (arith, few)) in
    let good = shown.good p [] made offsets t r2 inside.keys trees one2 s done.layouts
    (c.built_trees_can_be_laid_out.ensures (declarations_of p) made trees.elements.well (shown.small p [] made offsets t r2 inside.keys trees one2 room)) in
    let top = shown.top p [] built st.scrolled t r inside.keys h one in
    let steps = done.steps r top (brings_itself c.render_marks_are_marks.ensures.layout c.render_marks_are_marks.ensures.paint r
    (stands_alone c.projection_keeps_numbers_apart.ensures p [] (Some built) st.scrolled t r inside.keys h) top (shown.root_renders p [] built st.scrolled t r inside.keys h one)) in
    let laid_still = shown_still c.calm_trees_show_full_layout.ensures s c.args.view steps.laid r2 steps.stands.alone steps.stands.tree steps.settles steps.placed
    (shown.top p [] made offsets t r2 inside.keys trees one2) (shown.root_renders p [] made offsets t r2 inside.keys trees one2) good done.calm (laid_of screen built) is_laid in
    let shows : ShowsBuild p screen built after = record {
      laid = is_laid;
      layer = done.layer ∙ ap (option_map (layer_of inside.nodes.scale.cell ds)) is_laid;
      stands = record {
        scrolled = offsets;
        trees = trees;
        right = record {
          layouts = subst (λ (x : Scale). KeepsLayouts (setting_of x ds) r2) (sym c.draw.ensures.scale) done.layouts;
          layers = subst (λ (x : Scale). IsKept x.cell ds c.draw.new.layers (root_tree r2)) (sym c.draw.ensures.scale) done.layers;
        };
        unasked = subst (AllListsUnasked false) (sym (done.renders (laid_of screen built) differ is_laid)) (scrolled_unasked off false (renders_of (root_tree r)) st.unasked);
        settled = settled_still p [] [] (Some built) t inside.keyless inside.marked (scrolled_by off) (option_map shared inside.settled) (λ w n. c.lines_leave_settled_trees.ensures.offsets (blueprint_of p) [] w n off)
            (λ k w n. c.lines_leave_marked_trees.ensures.offsets (blueprint_of p) [] w n k off) (offsets_keyless off) st.settled;
        still = (
          subst (λ (x : Scale). shown_laid r2 ≡ option_map (λ (y : Render). lay_view (setting_of x ds) y c.args.view) (top_render (renders_of (root_tree r2)))) (sym c.draw.ensures.scale) laid_still,
          subst (λ (x : Scale). c.draw.new.layers.root ≡ option_map (layer_of x.cell ds) (shown_laid r2)) (sym c.draw.ensures.scale) done.layer,
        );
      };
    } in
    subst (λ (x : KeptFrame). ShowsBuild p (screen_for x ds c.args.view) built after) c.self.view_is shows

pub returns-clause-again : goal.returns-clause-again
returns-clause-again g c = λ p built stands_now on.
    let ds = meant_in c.args.table.now (λ v. (g.dyn-1.0.entry v).1) in
    let inside = c.self.inside in
    let st = subst (FrameStandsFor p ds [] (Some built)) (sym c.self.view_is) stands_now in
    let screen : KeptScreen = record { nodes = inside.nodes.tree; scale = inside.nodes.scale; layers = inside.layers; spent = inside.spent } in
    let before : ShowsStill ds screen c.args.view = held_by inside.still c.args.view (ShowsStill ds screen) (ap (λ (x : KeptFrame). x.still) c.self.view_is ∙ on) st.still in
    let done = c.in_ok-draw.ensures in
    let laid : shown_laid c.draw.new.tree.tree ≡ shown_in screen = done.shown ∙ sym before.0 in
    let layer : c.draw.new.layers.root ≡ layer_in screen = done.layer ∙ (ap (option_map (layer_of inside.nodes.scale.cell ds)) laid ∙ sym before.1) in
    (laid ∙ ap (λ (x : KeptFrame). shown_in x.screen) c.self.view_is, layer ∙ ap (λ (x : KeptFrame). layer_in x.screen) c.self.view_is)

pub returns-clause-laid : goal.returns-clause-laid
returns-clause-laid g c = c.in_ok-draw.ensures.calm

pub returns-clause-over : goal.returns-clause-over
returns-clause-over g c = λ nodes top brings.
    let ds = meant_in c.args.table.now (λ v. (g.dyn-1.0.entry v).1) in
    let over = c.in_ok-draw.ensures.over nodes top (subst (λ (x : KeptFrame). Brings nodes x.screen.nodes top) (sym c.self.view_is) brings) in
    subst (λ (x : KeptFrame). StepsOver (setting_of x.screen.scale ds) c.args.view nodes x.screen.nodes top c.draw.new.tree.tree c.args.layouts.now c.draw.new.layouts c.args.paints.now c.draw.new.paints)
    c.self.view_is over
