use Rattle.std.proofs.Common.{true, None, Some, sym, ap, subst, ◌∙◌}
use Rattle.std.specs.List.{All}
use Rattle.std.specs.Option.{option_to_list}
use Rattle.node_tree.specs.Plan.{Commits, entries}
use Rattle.node_tree.specs.Tree.{IsNode}
use Rattle.render_tree.specs.Changes.{LaidAnew, PaintedAnew}
use Rattle.render_tree.specs.Marks.{layout_marks}
use Rattle.render_tree.specs.Redraw.{redrawn}
use Rattle.build_owner.proofs.committing.redraw.Goals as goal

pub commit-requires : goal.commit-requires
commit-requires c = (c.requires.0, c.requires.1.plan)

pub mark_layouts-requires : goal.mark_layouts-requires
mark_layouts-requires c =
    let old = c.args.r.now.tree in
    let committed = c.commit.new.self.tree in
    let top = c.args.top in
    let d = c.requires.0 in
    let left = c.changed_nodes_are_live.ensures.left old d c.requires.1.plan.live in
    let anew = subst (λ l. LaidAnew old (Some top) l c.in_ok-laid.laid.items) (c.as_slice.ensures.value ∙ c.requires.1.is) c.in_ok-laid.ensures in
    subst (λ hs. All (IsNode committed) hs) (sym c.as_slice-3.ensures.value)
    (c.changed_nodes_are_live.ensures.layout old committed (Some top) c.in_ok-laid.laid.items d left.0 left.1 c.requires.1.plan.tops (λ k i. c.keep_laws.ensures.live committed None left.0 k (c.in_ok-commit.ensures.plain d left.0 c.requires.1.plan left.1).stands i) anew)

pub mark_paints-requires : goal.mark_paints-requires
mark_paints-requires c =
    let old = c.args.r.now.tree in
    let committed = c.commit.new.self.tree in
    let top = c.args.top in
    let d = c.requires.0 in
    let left = c.changed_nodes_are_live.ensures.left old d c.requires.1.plan.live in
    let anew = subst (λ l. PaintedAnew old (Some top) l c.in_ok-painted.painted.items) (c.as_slice-2.ensures.value ∙ c.requires.1.is) c.in_ok-painted.ensures in
    c.changed_nodes_are_live.ensures.marked layout_marks true _ _ committed c.mark_layouts.new.self.tree c.mark_layouts.ensures.sets
    (subst (λ hs. All (IsNode committed) hs) (sym c.as_slice-4.ensures.value)
    (c.changed_nodes_are_live.ensures.paint old committed (Some top) c.in_ok-painted.painted.items d left.0 left.1 c.requires.1.plan.tops (λ k i. c.keep_laws.ensures.live committed None left.0 k (c.in_ok-commit.ensures.plain d left.0 c.requires.1.plan left.1).stands i) anew))

pub returns-clause-redrawn : goal.returns-clause-redrawn
returns-clause-redrawn c = λ d planned.
    let old = c.args.r.now.tree in
    let committed = c.commit.new.self.tree in
    let top = c.args.top in
    let left = c.changed_nodes_are_live.ensures.left old d planned.plan.live in
    record {
      nodes = left.0;
      updated = left.1;
      committed = committed;
      commits = subst (λ l. Commits redrawn l old.nodes committed.nodes) planned.is c.in_ok-commit.ensures.commits;
      is = c.in_ok-commit.ensures.plain d left.0 planned.plan left.1;
      root = ap option_to_list c.in_ok-commit.ensures.root ∙ planned.plan.tops ∙ sym (c.changed_nodes_are_live.ensures.tops old d left.0 left.1);
      laid = c.as_slice-3.result.now;
      laid_anew =
          subst (λ k. LaidAnew old k (entries None d) c.as_slice-3.result.now) (sym c.in_ok-commit.ensures.root)
          (subst (λ l. LaidAnew old (Some top) l c.as_slice-3.result.now) (c.as_slice.ensures.value ∙ planned.is)
          (subst (λ hs. LaidAnew old (Some top) c.as_slice.result.now hs) (sym c.as_slice-3.ensures.value) c.in_ok-laid.ensures));
      painted = c.as_slice-4.result.now;
      painted_anew =
          subst (λ k. PaintedAnew old k (entries None d) c.as_slice-4.result.now) (sym c.in_ok-commit.ensures.root)
          (subst (λ l. PaintedAnew old (Some top) l c.as_slice-4.result.now) (c.as_slice-2.ensures.value ∙ planned.is)
          (subst (λ hs. PaintedAnew old (Some top) c.as_slice-2.result.now hs) (sym c.as_slice-4.ensures.value) c.in_ok-painted.ensures));
      laid_marked = c.mark_layouts.new.self.tree;
      layouts = c.mark_layouts.ensures.sets;
      paints = c.mark_paints.ensures.sets;
    }

pub returns-clause-used : goal.returns-clause-used
returns-clause-used c = λ d planned. c.mark_paints.ensures.sets.handles.used ∙ c.mark_layouts.ensures.sets.handles.used ∙ c.in_ok-commit.ensures.used d planned.plan

pub returns-clause-inserted : goal.returns-clause-inserted
returns-clause-inserted c = c.mark_paints.ensures.sets.handles.inserted ∙ c.mark_layouts.ensures.sets.handles.inserted ∙ c.in_ok-commit.ensures.commits.inserted
