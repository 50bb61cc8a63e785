use Rattle.std.proofs.Common.{true, None, Some, ◌++◌, sym, ap, subst, ◌∙◌}
use Rattle.std.specs.Option.{option_to_list}
use Rattle.node_tree.specs.Part.{CommitsPart, left_forest, left_tops}
use Rattle.node_tree.specs.Plan.{entries, IsPlan}
use Rattle.node_tree.specs.Tree.{node_at}
use Rattle.render_tree.specs.Changes.{LaidAnew, PaintedAnew}
use Rattle.render_tree.specs.Marked.{SetsMarks}
use Rattle.render_tree.specs.Marks.{layout_marks, paint_marks}
use Rattle.render_tree.specs.Redraw.{redrawn}
use Rattle.build_walk.proofs.Settled.{stands_front}
use Rattle.build_owner.specs.Losing.{ParentsLeft}
use Rattle.build_owner.proofs.Lost.{all_live, both_live, shortened}
use Rattle.build_owner.proofs.committing.redraw_beside.Goals as goal

pub commit_part-requires : goal.commit_part-requires
commit_part-requires c =
    let old = c.args.r.now.tree in
    let d = c.requires.0 in
    let q = c.requires.1 in
    let k = c.args.top in
    let es = c.args.plan.items in
    let left = c.changed_nodes_are_live.ensures.left old d q.plan.live in
    let plan = subst (λ xs. IsPlan old es (Some k) xs d) (sym c.new-inactive.ensures.items) q.plan in
    (left.0, c.plan_laws.ensures.part old es (Some k) c.new-inactive.result.items d left.0 plan left.1)

pub mark_layouts-requires : goal.mark_layouts-requires
mark_layouts-requires c =
    let old = c.args.r.now.tree in
    let committed = c.commit_part.new.self.tree in
    let d = c.requires.0 in
    let q = c.requires.1 in
    let k = c.args.top in
    let es = c.args.plan.items in
    let left = c.changed_nodes_are_live.ensures.left old d q.plan.live in
    let plan = subst (λ xs. IsPlan old es (Some k) xs d) (sym c.new-inactive.ensures.items) q.plan in
    let part = c.plan_laws.ensures.part old es (Some k) c.new-inactive.result.items d left.0 plan left.1 in
    let is = c.in_ok-commit_part.ensures.plain c.root.ensures.tree.0 left.0 c.root.ensures.tree.1 part in
    let anew = subst (λ l. LaidAnew old (Some k) l c.in_ok-laid.laid.items) (c.as_slice.ensures.value ∙ q.is) c.in_ok-laid.ensures in
    let laid_live = c.changed_nodes_are_live.ensures.layout old committed (Some k) c.in_ok-laid.laid.items d left.0 left.1 q.plan.tops
    (λ j i. c.keep_laws.ensures.live committed None left.0 j (stands_front (node_at committed) None left.0 (left_forest es c.root.ensures.tree.0 (left_tops old es)) is.stands) i) anew in
    both_live committed c.in_ok-laid.laid.items c.in_ok-lost.lost.items c.as_slice-8.result.now
    (c.as_slice-8.ensures.value ∙ c.in_ok-to_lay.ensures ∙ (λ i. c.as_slice-4.ensures.value i ++ c.as_slice-5.ensures.value i)) laid_live
    (all_live old committed es c.in_ok-lost.lost.items c.in_ok-commit_part.ensures.commits c.in_ok-lost.ensures.live)

pub mark_paints-requires : goal.mark_paints-requires
mark_paints-requires c =
    let old = c.args.r.now.tree in
    let committed = c.commit_part.new.self.tree in
    let d = c.requires.0 in
    let q = c.requires.1 in
    let k = c.args.top in
    let es = c.args.plan.items in
    let left = c.changed_nodes_are_live.ensures.left old d q.plan.live in
    let plan = subst (λ xs. IsPlan old es (Some k) xs d) (sym c.new-inactive.ensures.items) q.plan in
    let part = c.plan_laws.ensures.part old es (Some k) c.new-inactive.result.items d left.0 plan left.1 in
    let is = c.in_ok-commit_part.ensures.plain c.root.ensures.tree.0 left.0 c.root.ensures.tree.1 part in
    let anew = subst (λ l. PaintedAnew old (Some k) l c.in_ok-painted.painted.items) (c.as_slice-2.ensures.value ∙ q.is) c.in_ok-painted.ensures in
    let painted_live = c.changed_nodes_are_live.ensures.paint old committed (Some k) c.in_ok-painted.painted.items d left.0 left.1 q.plan.tops
    (λ j i. c.keep_laws.ensures.live committed None left.0 j (stands_front (node_at committed) None left.0 (left_forest es c.root.ensures.tree.0 (left_tops old es)) is.stands) i) anew in
    c.changed_nodes_are_live.ensures.marked layout_marks true _ _ committed c.mark_layouts.new.self.tree c.mark_layouts.ensures.sets
    (both_live committed c.in_ok-painted.painted.items c.in_ok-lost.lost.items c.as_slice-9.result.now
    (c.as_slice-9.ensures.value ∙ c.in_ok-to_paint.ensures ∙ (λ i. c.as_slice-6.ensures.value i ++ c.as_slice-7.ensures.value i)) painted_live
    (all_live old committed es c.in_ok-lost.lost.items c.in_ok-commit_part.ensures.commits c.in_ok-lost.ensures.live))

pub returns-clause-inserted : goal.returns-clause-inserted
returns-clause-inserted c = c.mark_paints.ensures.sets.handles.inserted ∙ c.mark_layouts.ensures.sets.handles.inserted ∙ c.in_ok-commit_part.ensures.commits.handles.inserted

pub returns-clause-redrawn : goal.returns-clause-redrawn
returns-clause-redrawn c = λ d q.
    let old = c.args.r.now.tree in
    let committed = c.commit_part.new.self.tree in
    let k = c.args.top in
    let es = c.args.plan.items in
    let left = c.changed_nodes_are_live.ensures.left old d q.plan.live in
    let plan = subst (λ xs. IsPlan old es (Some k) xs d) (sym c.new-inactive.ensures.items) q.plan in
    let part = c.plan_laws.ensures.part old es (Some k) c.new-inactive.result.items d left.0 plan left.1 in
    let lost = subst (λ l. ParentsLeft old l c.in_ok-lost.lost.items) (c.as_slice-3.ensures.value ∙ q.is) c.in_ok-lost.ensures.left in
    record {
      nodes = left.0;
      others = left_forest es c.root.ensures.tree.0 (left_tops old es);
      updated = left.1;
      committed = committed;
      commits = subst (λ l. CommitsPart redrawn l old.nodes committed.nodes) q.is c.in_ok-commit_part.ensures.commits;
      is = c.in_ok-commit_part.ensures.plain c.root.ensures.tree.0 left.0 c.root.ensures.tree.1 part;
      root = ap option_to_list c.in_ok-commit_part.ensures.root ∙ q.plan.tops ∙ sym (c.changed_nodes_are_live.ensures.tops old d left.0 left.1);
      laid = c.in_ok-laid.laid.items;
      laid_anew =
          subst (λ x. LaidAnew old x (entries None d) c.in_ok-laid.laid.items) (sym c.in_ok-commit_part.ensures.root)
          (subst (λ l. LaidAnew old (Some k) l c.in_ok-laid.laid.items) (c.as_slice.ensures.value ∙ q.is) c.in_ok-laid.ensures);
      painted = c.in_ok-painted.painted.items;
      painted_anew =
          subst (λ x. PaintedAnew old x (entries None d) c.in_ok-painted.painted.items) (sym c.in_ok-commit_part.ensures.root)
          (subst (λ l. PaintedAnew old (Some k) l c.in_ok-painted.painted.items) (c.as_slice-2.ensures.value ∙ q.is) c.in_ok-painted.ensures);
      lost = c.in_ok-lost.lost.items;
      shortened = shortened old d c.in_ok-lost.lost.items lost;
      left = lost.left;
      laid_marked = c.mark_layouts.new.self.tree;
      layouts =
          subst (λ hs. SetsMarks layout_marks true hs committed c.mark_layouts.new.self.tree)
          (c.as_slice-8.ensures.value ∙ c.in_ok-to_lay.ensures ∙ (λ i. c.as_slice-4.ensures.value i ++ c.as_slice-5.ensures.value i)) c.mark_layouts.ensures.sets;
      paints =
          subst (λ hs. SetsMarks paint_marks true hs c.mark_layouts.new.self.tree c.mark_paints.new.self.tree)
          (c.as_slice-9.ensures.value ∙ c.in_ok-to_paint.ensures ∙ (λ i. c.as_slice-6.ensures.value i ++ c.as_slice-7.ensures.value i)) c.mark_paints.ensures.sets;
    }
