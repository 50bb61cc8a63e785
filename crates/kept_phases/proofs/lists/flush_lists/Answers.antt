use Rattle.std.proofs.Common.{◌≡◌, sym, ap, subst, ◌∙◌, None, option_map, ◌++◌}
use Rattle.delegates.specs.Table.{meant_in}
use Rattle.node_tree.specs.Tree.{subtree_at}
use Rattle.layout_form.specs.Object.{setting_of}
use Rattle.layout_walk.specs.Here.{outer_back}
use Rattle.layout_walk.specs.Rules.{parts_of}
use Rattle.layout_walk.proofs.Correcting.{corrected_same}
use Rattle.layout_owner.specs.Roots.{view_asks}
use Rattle.layout_rules.specs.Nodes.{layout_nodes}
use Rattle.render_tree.specs.Object.{RenderObject, object_look}
use Rattle.render_tree.specs.Plain.{root_below, root_tree, laids_of, lazy_children}
use Rattle.plain_tree.specs.Render.{Render, Renders}
use Rattle.layout_form.specs.Layout.{lay_view}
use Rattle.layout_form.specs.Live.{lazy_view_at, live_in}
use Rattle.layout_walk.specs.Items.{lists_in, lists_of}
use Rattle.layout_walk.specs.Rules.{is_list, lazy_extent}
use Rattle.kept_layouts.specs.Items.{without_items}
use Rattle.layout_owner.specs.Outer.{lists_laid}
use Rattle.layout_owner.specs.Roots.{top_render}
use Rattle.layout_owner.specs.Views.{live_or_nothing}
use Rattle.render_tree.specs.Tree.{object_at}
use Rattle.kept_layers.proofs.RootTrees.{root_stands}
use Rattle.kept_phases.specs.Lists.{viewports, Pending, AreWanted}
use Rattle.kept_phases.proofs.AfterLists.{scroll_or, firsts, all_wanted, pending_viewports, stays_built, numbers_laid, same_but}
use Rattle.kept_phases.proofs.Puts.{puts_all}
use Rattle.kept_phases.proofs.Still.{now_otherwise}
use Rattle.kept_phases.proofs.lists.flush_lists.Goals as goal

pub returns-clause-built : goal.returns-clause-built
returns-clause-built g c =
    let ds = meant_in c.args.table.now (λ v. (g.dyn-1.0.entry v).1) in
    let s = setting_of c.args.r.now.scale ds in
    let t0 = c.args.r.now.tree in
    let t1 = c.flush_outer.new.r.tree in
    let done = c.in_ok-flush_outer.ensures in
    let found : c.offsets_at.new.offsets.items ≡ viewports (root_tree t0) =
    c.in-Ok.ensures ∙ (ap (λ xs. xs ++ viewports (subtree_at t0 c.in-Some.root)) c.new-offsets.ensures.items
    ∙ ap (λ o. viewports (root_below t0 o)) (sym (sym c.root.ensures.value ∙ c.in-Some.is))) in
    let pending : Pending (λ k. scroll_or (object_at t0 k)) (firsts c.as_slice.result.now) t1 =
    subst (λ xs. Pending (λ k. scroll_or (object_at t0 k)) (firsts xs) t1) (sym (c.as_slice.ensures.value ∙ found))
    (pending_viewports t0 t1 c.root.ensures.tree c.root-2.ensures.tree
    (corrected_same (parts_of s) (outer_back (parts_of s)) (view_asks c.args.view) (layout_nodes (root_tree t0)) (layout_nodes (root_tree t1)) done.corrected) done.others) in
    let wanted : AreWanted (λ k. scroll_or (object_at t0 k)) c.as_slice.result.now =
    subst (AreWanted (λ k. scroll_or (object_at t0 k))) (sym (c.as_slice.ensures.value ∙ found)) (all_wanted t0 _ (root_tree t0) (root_stands t0 c.root.ensures.tree)) in
    stays_built t0 t1 done.paints c.put_all_back.new.r.tree c.put_all_back.ensures.others (c.put_all_back.ensures.done (λ k. scroll_or (object_at t0 k)) wanted pending)

pub returns-clause-layouts : goal.returns-clause-layouts
returns-clause-layouts g c = λ keeps.
    let ds = meant_in c.args.table.now (λ v. (g.dyn-1.0.entry v).1) in
    let s = setting_of c.args.r.now.scale ds in
    let done = c.in_ok-flush_outer.ensures in
    c.put_all_back.ensures.layouts s
    (c.outer_layouts_keep_all.ensures.layouts s c.args.r.now.tree c.flush_outer.new.r.tree c.in-Some.root (sym c.root.ensures.value ∙ c.in-Some.is) done.paints c.root.ensures.tree c.root-2.ensures.tree
    done.good.here done.others keeps)

pub returns-clause-layers : goal.returns-clause-layers
returns-clause-layers g c = λ cell delegates o keeps.
    let done = c.in_ok-flush_outer.ensures in
    c.put_all_back.ensures.layers cell delegates o
    (c.outer_layouts_keep_all.ensures.layers cell delegates o c.args.r.now.tree c.flush_outer.new.r.tree done.paints c.root.ensures.tree c.root-2.ensures.tree keeps)

pub returns-clause-ranges : goal.returns-clause-ranges
returns-clause-ranges g c = λ top renders tell unasked k o extent at look small.
    let ds = meant_in c.args.table.now (λ v. (g.dyn-1.0.entry v).1) in
    let s = setting_of c.args.r.now.scale ds in
    let t0 = c.args.r.now.tree in
    let t1 = c.flush_outer.new.r.tree in
    let done = c.in_ok-flush_outer.ensures in
    let v = same_but t1 c.put_all_back.new.r.tree c.put_all_back.ensures.others k o at in
    let lists : lists_in is_list (laids_of (root_tree t1)) ≡ lists_of is_list (lay_view s top c.args.view) =
    done.lists ∙ ap (λ (rs : Renders). lists_laid (option_map (λ (x : Render). lay_view s x c.args.view) (top_render rs))) renders in
    subst (λ (x : RenderObject). live_or_nothing x.live ≡ live_in (lazy_view_at x.number (lay_view s (without_items top) c.args.view)) extent (lazy_children x) c.args.r.now.scale.widen) v.2
    (c.items_have_no_part_in_live_ranges.ensures.ranges s c.args.view c.args.r.now.scale.widen t1 None top k v.0 extent (root_stands t1 c.root-2.ensures.tree) (numbers_laid t0 t1 done.paints tell) lists
    done.ranges unasked v.1 (ap (λ (x : RenderObject). lazy_extent (object_look x)) v.2 ∙ look) small)

pub returns-clause-flushes : goal.returns-clause-flushes
returns-clause-flushes g c =
    let ds = meant_in c.args.table.now (λ v. (g.dyn-1.0.entry v).1) in
    let s = setting_of c.args.r.now.scale ds in
    let t0 = c.args.r.now.tree in
    let t1 = c.flush_outer.new.r.tree in
    let done = c.in_ok-flush_outer.ensures in
    let found : c.offsets_at.new.offsets.items ≡ viewports (root_tree t0) =
    c.in-Ok.ensures ∙ (ap (λ xs. xs ++ viewports (subtree_at t0 c.in-Some.root)) c.new-offsets.ensures.items
    ∙ ap (λ o. viewports (root_below t0 o)) (sym (sym c.root.ensures.value ∙ c.in-Some.is))) in
    let pending : Pending (λ k. scroll_or (object_at t0 k)) (firsts c.as_slice.result.now) t1 =
    subst (λ xs. Pending (λ k. scroll_or (object_at t0 k)) (firsts xs) t1) (sym (c.as_slice.ensures.value ∙ found))
    (pending_viewports t0 t1 c.root.ensures.tree c.root-2.ensures.tree
    (corrected_same (parts_of s) (outer_back (parts_of s)) (view_asks c.args.view) (layout_nodes (root_tree t0)) (layout_nodes (root_tree t1)) done.corrected) done.others) in
    let wanted : AreWanted (λ k. scroll_or (object_at t0 k)) c.as_slice.result.now =
    subst (AreWanted (λ k. scroll_or (object_at t0 k))) (sym (c.as_slice.ensures.value ∙ found)) (all_wanted t0 _ (root_tree t0) (root_stands t0 c.root.ensures.tree)) in
    let puts = c.put_all_back.ensures.puts (λ k. scroll_or (object_at t0 k)) wanted in
    record {
      flushed = t1;
      tree = c.root-2.ensures.tree;
      paints = done.paints;
      plugs = done.plugs;
      undue = done.undue;
      asked = done.root_asked;
      placed = done.placed;
      good = done.good;
      held = done.held;
      stays = done.corrected;
      others = done.others;
      scrolls = λ k. scroll_or (object_at t0 k);
      were = λ k o at. ap scroll_or at;
      corrected = puts.corrected;
      otherwise = λ k w is at same. puts.otherwise k w is at same;
      outer = now_otherwise t0 t1 (λ k. scroll_or (object_at t0 k)) puts.corrected (λ k o at. ap scroll_or at) (λ k w is at same. puts.otherwise k w is at same) s (view_asks c.args.view)
          (root_tree t0) (root_tree t1) (root_stands t0 c.root.ensures.tree) (root_stands t1 c.root-2.ensures.tree) done.corrected;
      plain = puts_all (λ k. scroll_or (object_at t0 k)) t1 c.put_all_back.new.r.tree puts (c.put_all_back.ensures.done (λ k. scroll_or (object_at t0 k)) wanted pending);
    }
