-- What a whole frame leaves: its layout, and then its painting.
use Rattle.std.proofs.Common.{◌≡◌, Bool, true, false, not, cond, ◌&&◌, ◌||◌, Option, Some, None, option_map, [], refl, sym, ap, ◌∙◌, subst}
use Rattle.fx_handles.specs.ArenaLaws.{same_Some}
use Rattle.node_tree.specs.Forest.{TreeNode, Forest}
use Rattle.node_tree.specs.Forest.Forest.{none, tree}
use Rattle.node_tree.specs.Tree.{Tree, Is, IsTree, node_at}
use Rattle.node_tree.proofs.TreeLemmas.{is_node}
use Rattle.plain_tree.specs.Laid.{Laid}
use Rattle.plain_tree.specs.Laws.{render_numbers_in, AllDiffer}
use Rattle.tree_marks.specs.Closed.{any_mark}
use Rattle.tree_marks.proofs.MarkSteps.{node_stands}
use Rattle.work_sets.specs.Before.{Before, Frames, frames_after}
use Rattle.work_sets.specs.Layout.{idle_judge}
use Rattle.layout_owner.specs.Calm.{IsLaidCalm}
use Rattle.layout_owner.specs.Roots.{IsPlaced, top_render}
use Rattle.layout_rules.specs.Nodes.{layout_nodes}
use Rattle.kept_layers.specs.Group.{opens}
use Rattle.paint_owner.specs.Settled.{Settles, is_entered, settled_node, settled, first_settled}
use Rattle.render_tree.specs.Marks.{paint_marks}
use Rattle.render_tree.specs.Object.{RenderObject}
use Rattle.render_tree.specs.Plain.{laid_of, renders_of, root_tree}
use Rattle.screen_owner.proofs.Showing.{root_forest}
use Rattle.counted_work.specs.Caused.{FramesAgree, LayoutsAreCaused}
use Rattle.counted_work.specs.Inside.{RootFlagsInside}
use Rattle.layout_owner.specs.Left.{AreLeft}
use Rattle.counted_work.proofs.Flushed.{laid_inside}
use Rattle.counted_work.proofs.Framed.{frames_left}
use Rattle.counted_work.proofs.Painted.{with_paint, PaintsDiffer, root_paints_inside}
use Rattle.counted_work.proofs.Changed.{AreFramed}
use Rattle.counted_work.proofs.Synced.{node_framed}
use Rattle.counted_work.proofs.Touching.{stands_framed}

-- a settled node differs in marks for painting alone
settled_if : (b : Bool) (flag mark : Bool) (o : RenderObject) → (f : Bool) × (m : Bool) × (cond b (with_paint flag mark o) o ≡ with_paint f m o)
settled_if true flag mark o = (flag, mark, refl)
settled_if false flag mark o = (o.needs_paint, o.paint_below, refl)

settled_paint : (inside : Forest RenderObject) (o : RenderObject) → (f : Bool) × (m : Bool) × (settled_node inside o ≡ with_paint f m o)
settled_paint inside o = settled_if o.shown false (o.paint_below && (not (opens o) || any_mark paint_marks inside)) o

no_paints : (f : Forest RenderObject) → PaintsDiffer f f
no_paints none = tt
no_paints (tree h o kids rest) = (refl, (o.needs_paint, o.paint_below, refl), no_paints kids, no_paints rest)

if_entered : (b : Bool) (kids inner : Forest RenderObject) → PaintsDiffer kids inner → PaintsDiffer kids (cond b inner kids)
if_entered true kids inner d = d
if_entered false kids inner d = no_paints kids

settled_paints : (f : Forest RenderObject) → PaintsDiffer f (settled f)
settled_paints none = tt
settled_paints (tree h o kids rest) = (refl, settled_paint (settled kids) o, if_entered (is_entered o) kids (settled kids) (settled_paints kids), settled_paints rest)

first_paints : (f : Forest RenderObject) → PaintsDiffer f (first_settled f)
first_paints none = tt
first_paints (tree h o kids rest) = (refl, settled_paint (settled kids) o, if_entered (is_entered o) kids (settled kids) (settled_paints kids), no_paints rest)

pub paints_framed : (frames : Frames) (f g : Forest RenderObject) → PaintsDiffer f g → AreFramed frames f → AreFramed frames g
paints_framed frames none none d framed = tt
paints_framed frames none (tree k w below rest) d framed = absurd d
paints_framed frames (tree h v kids more) none d framed = tt
paints_framed frames (tree h v kids more) (tree k w below rest) d framed = (
  subst (λ (o : RenderObject). o.frame ≡ frames o.number) (sym d.1.2) framed.0,
  paints_framed frames kids below d.2 framed.1,
  paints_framed frames more rest d.3 framed.2,
)

-- the frames of a tree that is a forest
pub forest_frames : (frames : Frames) (t : Tree RenderObject) (f : Forest RenderObject) → Is t f → AreFramed frames f → FramesAgree frames t
forest_frames frames t f is framed k o at = by_node (node_at t k) refl
  where
    none_some : {B : Type 0} → None ≡ Some o → B
    none_some e = absurd (cc)

    by_node : (x : Option (TreeNode RenderObject)) → node_at t k ≡ x → o.frame ≡ frames o.number
    by_node None e = none_some (sym (ap (option_map (λ (n : TreeNode RenderObject). n.value)) e) ∙ at)
    by_node (Some n) e =
        let value : n.value ≡ o = same_Some (sym (ap (option_map (λ (m : TreeNode RenderObject). m.value)) e) ∙ at) in
        subst (λ (x : RenderObject). x.frame ≡ frames x.number) value
        (node_framed frames (node_at t) None f k n is.stands framed e (node_stands t f k is (is_node (node_at t k) n e)))

pub settled_frames : (frames : Frames) (old new : Tree RenderObject) → IsTree old → Settles old new → FramesAgree frames old → FramesAgree frames new
settled_frames frames old new is settles agree =
    forest_frames frames new (first_settled is.0) (settles.plain is.0 is.1) (paints_framed frames is.0 (first_settled is.0) (first_paints is.0) (stands_framed frames old None is.0 is.1.stands agree))

-- between two frames again
pub frame_caused : (frames : Frames) (l : Laid) (after : Before) (brought laid new : Tree RenderObject) → after.tree ≡ top_render (renders_of (root_tree new)) → after.frames ≡ frames_after l frames
    → IsTree brought → IsTree laid → brought.inactive ≡ [] → laid.inactive ≡ [] → AllDiffer (render_numbers_in (renders_of (root_tree laid)))
    → IsPlaced (root_tree laid) → IsLaidCalm (root_tree laid) → laid_of (root_tree laid) ≡ Some l → AreLeft (layout_nodes (root_tree brought)) (layout_nodes (root_tree laid))
    → FramesAgree frames brought → Settles laid new → LayoutsAreCaused after new
frame_caused frames l after brought laid new whole framed is_brought is_laid alone_brought alone_laid differ placed calm is left agree settles = record {
  tree = whole;
  frames = subst (λ fs. FramesAgree fs new) (sym framed)
      (settled_frames (frames_after l frames) laid new is_laid settles (frames_left frames l brought laid is_brought is_laid alone_brought alone_laid differ placed is left agree));
  flags =
      let f : Forest RenderObject = is_laid.0 in
      let root_laid : root_tree laid ≡ f = root_forest laid f alone_laid is_laid.1 in
      subst (RootFlagsInside (idle_judge after)) (sym (root_forest new (first_settled f) (settles.inactive ∙ alone_laid) (settles.plain f is_laid.1)))
      (root_paints_inside (idle_judge after) f (first_settled f) (first_paints f) (laid_inside (idle_judge after) f (subst IsPlaced root_laid placed) (subst IsLaidCalm root_laid calm)));
}
