-- Live ranges, and Viewports that are put back, are no matter of painting.
use Rattle.std.proofs.Common.{◌≡◌, ap, refl, sym, subst, ◌∙◌, inl, inr, ℕ, true, ◌||◌, Option, Some, None, option_map, List, ◌∷◌}
use Rattle.std.proofs.lemmas.Bool.{false≢true}
use Rattle.fx_handles.specs.declared.Handle.{Handle}
use Rattle.fx_handles.specs.Handle.{same}
use Rattle.fx_handles.specs.HandleLaws.{same-true}
use Rattle.node_tree.specs.Forest.{TreeNode, Forest, tops, Stands, map_values}
use Rattle.node_tree.specs.Forest.Forest.{none, tree}
use Rattle.node_tree.specs.Tree.{Tree, Is, IsTree, node_at}
use Rattle.node_tree.proofs.TreeLemmas.{is_node}
use Rattle.tree_marks.specs.Marking.{Above, at_top, within}
use Rattle.tree_marks.specs.Marks.{has_node, sweep}
use Rattle.tree_marks.proofs.Closing.{either}
use Rattle.tree_marks.proofs.MarkSteps.{node_stands}
use Rattle.layout_owner.specs.Ranges.{KeepsButRanges, without_live}
use Rattle.layout_rules.specs.Reads.{state_or}
use Rattle.render_tree.specs.Marked.{SetsMarks}
use Rattle.render_tree.specs.Marks.{layout_marks, paint_marks}
use Rattle.render_tree.specs.Object.{RenderObject, object_look}
use Rattle.counted_phases.specs.Seen.{paint_seen, SeenSame}
use Rattle.counted_phases.proofs.AsOne.{stored_in, stored_at, stored_seen}
use Rattle.counted_phases.proofs.Stages.{none_some}

pub seen_trans : (t u v : Tree RenderObject) → SeenSame t u → SeenSame u v → SeenSame t v
seen_trans t u v a b k = b k ∙ a k

pub seen_ranges : (t u : Tree RenderObject) → KeepsButRanges t u → SeenSame t u
seen_ranges t u keeps k = sym (through (node_at u k)) ∙ (ap (option_map paint_seen) (keeps.nodes k) ∙ through (node_at t k))
  where
    through : (x : Option (TreeNode RenderObject)) → option_map paint_seen (option_map without_live x) ≡ option_map paint_seen x
    through None = refl
    through (Some n) = refl

module _ (flushed ranged : Tree RenderObject) (corrected : List Handle) (scrolls : Handle → ℕ) where
  abbrev scrolled : Forest RenderObject → Forest RenderObject
  scrolled f = map_values (λ k (o : RenderObject). record o { scroll = scrolls k }) f

  abbrev put : Above → Forest RenderObject → Forest RenderObject
  put a f = scrolled (sweep layout_marks true corrected a f)

  put_tops : (a : Above) (f : Forest RenderObject) → tops (put a f) ≡ tops f
  put_tops a none = refl
  put_tops a (tree h o kids rest) = ap (λ hs. h ∷ hs) (put_tops a rest)

  put_has : (k : Handle) (a : Above) (f : Forest RenderObject) → has_node k (put a f) ≡ has_node k f
  put_has k a none = refl
  put_has k a (tree h o kids rest) = λ i. same h k || (put_has k (within layout_marks a o) kids i || put_has k a rest i)

  put_seen : (a : Above) (q : Option Handle) (f : Forest RenderObject) → Stands (node_at flushed) q f → Stands (node_at ranged) q (put a f) → (k : Handle) → has_node k f ≡ true
      → option_map paint_seen (node_at ranged k) ≡ option_map paint_seen (node_at flushed k)
  put_seen a q none s t k there = absurd (false≢true there)
  put_seen a q (tree h o kids rest) s t k there = elim (either (same h k) (has_node k kids || has_node k rest) there) [
    | inl e ↦
        let handle : h ≡ k = same-true h k e in
        subst (λ y. option_map paint_seen (node_at ranged y) ≡ option_map paint_seen (node_at flushed y)) handle
        (ap (option_map paint_seen) t.0
        ∙ ((λ i. Some (record {
          number = o.number;
          look = object_look o;
          children = put_tops (within layout_marks a o) kids i;
          flag = o.needs_paint;
          frame = o.frame;
          plugged = o.plugged;
          offset = o.offset;
          shown = o.shown;
        }))
        ∙ sym (ap (option_map paint_seen) s.0)))
    | inr later ↦ elim (either (has_node k kids) (has_node k rest) later) [
      | inl x ↦ put_seen (within layout_marks a o) (Some h) kids s.1 t.1 k x
      | inr x ↦ put_seen a q rest s.2 t.2 k x
    ]
  ]

  stands_live : (q : Option Handle) (f : Forest RenderObject) → Stands (node_at flushed) q f → (k : Handle) → has_node k f ≡ true → (n : TreeNode RenderObject) × (node_at flushed k ≡ Some n)
  stands_live q none s k there = absurd (false≢true there)
  stands_live q (tree h o kids rest) s k there = elim (either (same h k) (has_node k kids || has_node k rest) there) [
    | inl e ↦ (record { parent = q; children = tops kids; value = o }, ap (node_at flushed) (sym (same-true h k e)) ∙ s.0)
    | inr later ↦ elim (either (has_node k kids) (has_node k rest) later) [
      | inl x ↦ stands_live (Some h) kids s.1 k x
      | inr x ↦ stands_live q rest s.2 k x
    ]
  ]

  pub seen_put : IsTree flushed → ((f : Forest RenderObject) → Is flushed f → Is ranged (put at_top f)) → SeenSame flushed ranged
  seen_put is plain k = by_node (node_at flushed k) (node_at ranged k) refl refl
    where
      after : Is ranged (put at_top is.0)
      after = plain is.0 is.1

      by_node : (x y : Option (TreeNode RenderObject)) → node_at flushed k ≡ x → node_at ranged k ≡ y → option_map paint_seen (node_at ranged k) ≡ option_map paint_seen (node_at flushed k)
      by_node (Some n) y e f = put_seen at_top None is.0 is.1.stands after.stands k (node_stands flushed is.0 k is.1 (is_node (node_at flushed k) n e))
      by_node None None e f = ap (option_map paint_seen) f ∙ sym (ap (option_map paint_seen) e)
      by_node None (Some r) e f =
          let there = sym (put_has k at_top is.0) ∙ node_stands ranged (put at_top is.0) k after (is_node (node_at ranged k) r f) in
          let live = stands_live None is.0 is.1.stands k there in
          none_some live.0 (sym e ∙ live.1)

  pub put_tree : IsTree flushed → ((f : Forest RenderObject) → Is flushed f → Is ranged (put at_top f)) → IsTree ranged
  put_tree is plain = (put at_top is.0, plain is.0 is.1)

-- ---- what painting reads of what a layout left

through_stored : (x : Option (TreeNode RenderObject)) → stored_seen (option_map paint_seen x) ≡ stored_in (state_or (option_map (λ (n : TreeNode RenderObject). n.value) x))
through_stored None = refl
through_stored (Some n) = refl

pub seen_stored : (t u : Tree RenderObject) → SeenSame t u → (k : Handle) → stored_at u k ≡ stored_at t k
seen_stored t u same_seen k = sym (through_stored (node_at u k)) ∙ (ap stored_seen (same_seen k) ∙ through_stored (node_at t k))

pub marks_stored : (t u : Tree RenderObject) (hs : List Handle) → SetsMarks paint_marks true hs t u → (k : Handle) → stored_at u k ≡ stored_at t k
marks_stored t u hs marks k = by_node (node_at t k) refl
  where
    by_node : (x : Option (TreeNode RenderObject)) → node_at t k ≡ x → stored_at u k ≡ stored_at t k
    by_node None e = ap (λ x. stored_in (state_or (option_map (λ (n : TreeNode RenderObject). n.value) x))) (marks.absent k e ∙ sym e)
    by_node (Some n) e =
        ap (λ x. stored_in (state_or (option_map (λ (n : TreeNode RenderObject). n.value) x))) (marks.only k n e).2
        ∙ sym (ap (λ x. stored_in (state_or (option_map (λ (n : TreeNode RenderObject). n.value) x))) e)
