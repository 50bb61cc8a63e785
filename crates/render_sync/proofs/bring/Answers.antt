use Rattle.std.proofs.Common.{None, Some, [], ◌∷◌, sym, subst, ◌∙◌, arith}
use Rattle.std.specs.List.{All}
use Rattle.std.specs.BTreeMap.{get}
use Rattle.std.specs.Ordering.{nat_cmp}
use Rattle.fx_handles.specs.declared.Handle.{Handle}
use Rattle.node_tree.specs.Forest.{Forest, In}
use Rattle.node_tree.specs.Plan.{IsUpdated}
use Rattle.node_tree.specs.Tree.{IsNode, Is}
use Rattle.render_tree.specs.Changes.{LaidAnew, PaintedAnew}
use Rattle.render_tree.specs.Object.{RenderObject}
use Rattle.render_tree.specs.Redraw.{redrawn}
use Rattle.render_tree.specs.Tree.{object_at}
use Rattle.render_tree.specs.Marks.{layout_marks, paint_marks}
use Rattle.render_sync.specs.Synced.{Plans}
use Rattle.render_sync.proofs.PlaceLemmas.{numbers_differ}
use Rattle.render_sync.proofs.SyncLemmas.{forest_once, forest_live, forest_values, laid_live, painted_live, marked_live, marked_was, marked_number, number_kept, layout_number, paint_number, index_after, drawn_one}
use Rattle.render_sync.proofs.bring.Goals as goal

pub commit-requires : goal.commit-requires
commit-requires c =
    let index = c.place_node.new.numbers in
    let old = c.args.tree.now.tree in
    let mid = c.place_node.new.tree.tree in
    let made = c.in_ok-place_node.ensures in
    let top = c.args.top.now in
    let es = c.plan_node.new.plan.items in
    let root = c.in_ok-root.root in
    let plans = subst (λ l. Plans (get nat_cmp index) None (top ∷ []) l es [] (root ∷ [])) c.new-plan.ensures.items c.in_ok-root.ensures in
    let is_plan = c.plan_laws.ensures.entries mid es (Some root) [] plans.forest plans.entries_are plans.tops_are
    (forest_once index old mid made.index made.grows top es root plans c.requires.differ)
    (forest_live index old mid made.index made.grows top es root plans c.requires.differ) in
    (plans.forest, is_plan)

pub mark_layouts-requires : goal.mark_layouts-requires
mark_layouts-requires c =
    let index = c.place_node.new.numbers in
    let old = c.args.tree.now.tree in
    let mid = c.place_node.new.tree.tree in
    let made = c.in_ok-place_node.ensures in
    let top = c.args.top.now in
    let es = c.plan_node.new.plan.items in
    let root = c.in_ok-root.root in
    let committed = c.commit.new.self.tree in
    let plans = subst (λ l. Plans (get nat_cmp index) None (top ∷ []) l es [] (root ∷ [])) c.new-plan.ensures.items c.in_ok-root.ensures in
    let is_plan = c.plan_laws.ensures.entries mid es (Some root) [] plans.forest plans.entries_are plans.tops_are
    (forest_once index old mid made.index made.grows top es root plans c.requires.differ)
    (forest_live index old mid made.index made.grows top es root plans c.requires.differ) in
    let is_live : (f : Forest RenderObject) → Is committed f → (k : Handle) → In k f → IsNode committed k = λ f is k here. c.keep_laws.ensures.live committed None f k is.stands here in
    let becomes : (f : Forest RenderObject) → IsUpdated redrawn (object_at mid) plans.forest f → Is committed f = λ f values. c.in_ok-commit.ensures.plain plans.forest f is_plan values in
    let anew = subst (λ l. LaidAnew mid (Some root) l c.in_ok-laid.laid.items) c.as_slice.ensures.value c.in_ok-laid.ensures in
    subst (λ hs. All (IsNode committed) hs) (sym c.as_slice-3.ensures.value)
    (laid_live index old mid made.index made.grows top es root plans c.requires.differ c.requires.scrolled committed is_live becomes c.in_ok-laid.laid.items anew)

pub mark_paints-requires : goal.mark_paints-requires
mark_paints-requires c =
    let index = c.place_node.new.numbers in
    let old = c.args.tree.now.tree in
    let mid = c.place_node.new.tree.tree in
    let made = c.in_ok-place_node.ensures in
    let top = c.args.top.now in
    let es = c.plan_node.new.plan.items in
    let root = c.in_ok-root.root in
    let committed = c.commit.new.self.tree in
    let plans = subst (λ l. Plans (get nat_cmp index) None (top ∷ []) l es [] (root ∷ [])) c.new-plan.ensures.items c.in_ok-root.ensures in
    let is_plan = c.plan_laws.ensures.entries mid es (Some root) [] plans.forest plans.entries_are plans.tops_are
    (forest_once index old mid made.index made.grows top es root plans c.requires.differ)
    (forest_live index old mid made.index made.grows top es root plans c.requires.differ) in
    let is_live : (f : Forest RenderObject) → Is committed f → (k : Handle) → In k f → IsNode committed k = λ f is k here. c.keep_laws.ensures.live committed None f k is.stands here in
    let becomes : (f : Forest RenderObject) → IsUpdated redrawn (object_at mid) plans.forest f → Is committed f = λ f values. c.in_ok-commit.ensures.plain plans.forest f is_plan values in
    let anew = subst (λ l. PaintedAnew mid (Some root) l c.in_ok-painted.painted.items) c.as_slice-2.ensures.value c.in_ok-painted.ensures in
    let there : All (IsNode committed) c.as_slice-4.result.now =
    subst (λ hs. All (IsNode committed) hs) (sym c.as_slice-4.ensures.value)
    (painted_live index old mid made.index made.grows top es root plans c.requires.differ c.requires.scrolled committed is_live becomes c.in_ok-painted.painted.items anew) in
    λ k d low. marked_live layout_marks layout_number _ _ committed c.mark_layouts.new.self.tree c.mark_layouts.ensures.sets _ (there k d low)

pub returns-clause-synced : goal.returns-clause-synced
returns-clause-synced c =
    let index = c.place_node.new.numbers in
    let old = c.args.tree.now.tree in
    let mid = c.place_node.new.tree.tree in
    let made = c.in_ok-place_node.ensures in
    let top = c.args.top.now in
    let es = c.plan_node.new.plan.items in
    let root = c.in_ok-root.root in
    let committed = c.commit.new.self.tree in
    let plans = subst (λ l. Plans (get nat_cmp index) None (top ∷ []) l es [] (root ∷ [])) c.new-plan.ensures.items c.in_ok-root.ensures in
    let is_plan = c.plan_laws.ensures.entries mid es (Some root) [] plans.forest plans.entries_are plans.tops_are
    (forest_once index old mid made.index made.grows top es root plans c.requires.differ)
    (forest_live index old mid made.index made.grows top es root plans c.requires.differ) in
    let values = forest_values index old mid made.index made.grows top es root plans c.requires.differ c.requires.scrolled in
    record {
      made = mid;
      grows = made.grows;
      differ = numbers_differ index mid made.index;
      plan = es;
      root = root;
      updates = plans.forest;
      nodes = values.0;
      is_plan = is_plan;
      updated = values.1;
      renders = values.2;
      committed = committed;
      commits = c.in_ok-commit.ensures.commits;
      is = c.in_ok-commit.ensures.plain plans.forest values.0 is_plan values.1;
      at_root = c.in_ok-commit.ensures.root;
      laid = c.as_slice-3.result.now;
      laid_anew = subst (λ l. LaidAnew mid (Some root) l c.as_slice-3.result.now) c.as_slice.ensures.value (subst (λ hs. LaidAnew mid (Some root) c.as_slice.result.now hs) (sym c.as_slice-3.ensures.value) c.in_ok-laid.ensures);
      painted = c.as_slice-4.result.now;
      painted_anew = subst (λ l. PaintedAnew mid (Some root) l c.as_slice-4.result.now) c.as_slice-2.ensures.value (subst (λ hs. PaintedAnew mid (Some root) c.as_slice-2.result.now hs) (sym c.as_slice-4.ensures.value) c.in_ok-painted.ensures);
      laid_marked = c.mark_layouts.new.self.tree;
      layouts = c.mark_layouts.ensures.sets;
      paints = c.mark_paints.ensures.sets;
    }

pub returns-clause-index : goal.returns-clause-index
returns-clause-index c =
    let mid = c.place_node.new.tree.tree in
    let committed = c.commit.new.self.tree in
    let laid = c.mark_layouts.new.self.tree in
    let now = c.mark_paints.new.self.tree in
    index_after c.place_node.new.numbers c.forget_dead.new.numbers mid now c.in_ok-place_node.ensures.index
    (λ k there.
    let before_paint = marked_was paint_marks paint_number _ _ laid now c.mark_paints.ensures.sets k there in
    let before = marked_was layout_marks layout_number _ _ committed laid c.mark_layouts.ensures.sets k before_paint in
    marked_number paint_marks paint_number _ _ laid now c.mark_paints.ensures.sets k
    ∙ marked_number layout_marks layout_number _ _ committed laid c.mark_layouts.ensures.sets k
    ∙ number_kept mid committed c.plan_node.new.plan.items c.in_ok-commit.ensures.commits k before)
    c.forget_dead.ensures

pub returns-clause-used : goal.returns-clause-used
returns-clause-used c =
    let index = c.place_node.new.numbers in
    let old = c.args.tree.now.tree in
    let mid = c.place_node.new.tree.tree in
    let made = c.in_ok-place_node.ensures in
    let top = c.args.top.now in
    let es = c.plan_node.new.plan.items in
    let root = c.in_ok-root.root in
    let plans = subst (λ l. Plans (get nat_cmp index) None (top ∷ []) l es [] (root ∷ [])) c.new-plan.ensures.items c.in_ok-root.ensures in
    let is_plan = c.plan_laws.ensures.entries mid es (Some root) [] plans.forest plans.entries_are plans.tops_are
    (forest_once index old mid made.index made.grows top es root plans c.requires.differ)
    (forest_live index old mid made.index made.grows top es root plans c.requires.differ) in
    c.mark_paints.ensures.sets.handles.used ∙ c.mark_layouts.ensures.sets.handles.used ∙ c.in_ok-commit.ensures.used plans.forest is_plan
    ∙ drawn_one (get nat_cmp index) plans.forest top plans.drawn

pub returns-clause-made : goal.returns-clause-made
returns-clause-made c =
    let painted = c.mark_paints.ensures.sets.handles.inserted in
    let laid = c.mark_layouts.ensures.sets.handles.inserted in
    let committed = c.in_ok-commit.ensures.commits.inserted in
    let made = c.in_ok-place_node.ensures.made in
    omega (arith, painted, laid, committed, made)
