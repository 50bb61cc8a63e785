use Rattle.std.proofs.Common.{◌≤◌, ◌+◌, true, None, [], refl, sym, ap, ◌∙◌, subst}
use Rattle.std.specs.Option.{option_to_list}
use Rattle.node_tree.specs.Forest.{append}
use Rattle.node_tree.specs.Forest.Forest.{none, tree}
use Rattle.node_tree.specs.Tree.{node_at, Is}
use Rattle.plain_tree.specs.declared.role.RenderRole.TheVariants.{Plain}
use Rattle.plain_tree.specs.PlainNode.{nodes_of as listed}
use Rattle.plain_tree.specs.Projection.{projected_all}
use Rattle.plain_tree.specs.Render.{renders_of as renders_listed}
use Rattle.tree_marks.specs.Marking.{at_top}
use Rattle.tree_marks.specs.Marks.{sweep}
use Rattle.build_form.specs.Numbered.{IsNumbered}
use Rattle.build_form.specs.Program.{blueprint_of}
use Rattle.element_tree.specs.Element.{element_at, made_count}
use Rattle.render_tree.specs.Marks.{layout_marks, paint_marks}
use Rattle.render_tree.specs.Tree.{object_at}
use Rattle.build_walk.specs.Kept.{node_over}
use Rattle.build_walk.specs.Renewing.{drawn}
use Rattle.build_walk.proofs.Settled.{still_drawn, committed_keeps, marks_keep, swept_renders, swept_tops, swept_parts, stands_front, not_flagged, none_flagged}
use Rattle.build_walk.proofs.Telling.{stored_held}
use Rattle.build_walk.proofs.frames.builds_leave_standing_trees.Goals as goal

pub returns-clause-elements : goal.returns-clause-elements
returns-clause-elements c = λ p screen old next w scrolled t u h e kids checked numbered well typed is go stored fresh stands root made.
    let b = blueprint_of p in
    let n = node_over scrolled e kids in
    let f = tree h e kids none in (
      record {
        forest = f;
        is = stands;
        root = ap option_to_list root;
        nodes = refl;
        well = c.builds_are_well_built.ensures.whole p screen old next (made_count t + 1) w n checked well typed is;
        numbered = subst (λ k. IsNumbered (k + 1) n) (sym made) (c.numbers_differ.ensures b screen old next (made_count t + 1) w n numbered is);
        fresh = λ k high. fresh k (subst (λ m. m + 1 ≤ k) made high);
        outputs = stored_held b scrolled [] b.defaults f stored (not_flagged f) (c.builds_leave_fresh_trees.ensures.whole b screen old next (made_count t + 1) w n is, tt);
        flags = none_flagged (element_at t) f go;
      },
      refl,
    )

pub returns-clause-renders : goal.returns-clause-renders
returns-clause-renders c = λ scrolled old f t u v x g laid painted nodes are up is root lays paints.
    let g1 = sweep layout_marks true laid at_top g in
    let g2 = sweep paint_marks true painted at_top g1 in
    record {
      drawn =
          still_drawn (object_at v) (object_at x) scrolled Plain None f (λ k i. marks_keep paint_marks (λ a b o. refl) (λ a b o. refl) v x paints.only k)
          (still_drawn (object_at u) (object_at v) scrolled Plain None f (λ k i. marks_keep layout_marks (λ a b o. refl) (λ a b o. refl) u v lays.only k)
          (still_drawn (object_at t) (object_at u) scrolled Plain None f (λ k i. committed_keeps t u None (drawn Plain None f) g up is.stands k i) are));
      objects = g2;
      is = paints.plain g1 (lays.plain g is);
      root = ap option_to_list (paints.root ∙ lays.root) ∙ root ∙ sym (swept_tops paint_marks true painted at_top g1 ∙ swept_tops layout_marks true laid at_top g);
      projected =
          swept_renders paint_marks (λ a b o rs. refl) true painted at_top g1
          ∙ swept_renders layout_marks (λ a b o rs. refl) true laid at_top g
          ∙ c.one_forest_plans_both_trees.ensures.renders t scrolled f g are up
          ∙ ap (λ ns. renders_listed (projected_all Plain None (listed ns))) (sym nodes);
    }

pub returns-clause-beside : goal.returns-clause-beside
returns-clause-beside c = λ scrolled old f t u v x g others laid painted nodes are up is root lays paints.
    let g1 = sweep layout_marks true laid at_top g in
    let g2 = sweep paint_marks true painted at_top g1 in
    let o1 = sweep layout_marks true laid at_top others in
    let o2 = sweep paint_marks true painted at_top o1 in
    let once : Is v (append g1 o1) = subst (Is v) (swept_parts layout_marks true laid at_top g others) (lays.plain (append g others) is) in
    record {
      drawn =
          still_drawn (object_at v) (object_at x) scrolled Plain None f (λ k i. marks_keep paint_marks (λ a b o. refl) (λ a b o. refl) v x paints.only k)
          (still_drawn (object_at u) (object_at v) scrolled Plain None f (λ k i. marks_keep layout_marks (λ a b o. refl) (λ a b o. refl) u v lays.only k)
          (still_drawn (object_at t) (object_at u) scrolled Plain None f (λ k i. committed_keeps t u None (drawn Plain None f) g up (stands_front (node_at u) None g others is.stands) k i) are));
      objects = g2;
      others = o2;
      is = subst (Is x) (swept_parts paint_marks true painted at_top g1 o1) (paints.plain (append g1 o1) once);
      root = ap option_to_list (paints.root ∙ lays.root) ∙ root ∙ sym (swept_tops paint_marks true painted at_top g1 ∙ swept_tops layout_marks true laid at_top g);
      projected =
          swept_renders paint_marks (λ a b o rs. refl) true painted at_top g1
          ∙ swept_renders layout_marks (λ a b o rs. refl) true laid at_top g
          ∙ c.one_forest_plans_both_trees.ensures.renders t scrolled f g are up
          ∙ ap (λ ns. renders_listed (projected_all Plain None (listed ns))) (sym nodes);
    }
