-- Flags for painting at the end of a frame in two phases.
use Rattle.std.proofs.Common.{◌≡◌, true, Option, Some, None, option_map, List, ◌++◌, refl, sym, ap, ◌∙◌}
use Rattle.fx_handles.specs.declared.Handle.{Handle}
use Rattle.node_tree.specs.Forest.{TreeNode}
use Rattle.node_tree.specs.Tree.{Tree, IsTree, node_at}
use Rattle.layout_rules.specs.Painting.{KeepsRest}
use Rattle.layout_rules.specs.Reads.{state_at}
use Rattle.render_tree.specs.LayoutState.{with_layout_state}
use Rattle.render_tree.specs.Marked.{SetsMarks}
use Rattle.render_tree.specs.Marks.{paint_marks}
use Rattle.render_tree.specs.Object.{RenderObject}
use Rattle.counted_phases.specs.Climbing.{AreMarkedBy}
use Rattle.counted_phases.specs.Paints.{BuiltInPhases}
use Rattle.counted_phases.specs.Seen.{paint_seen}
use Rattle.counted_phases.proofs.Climbing.{marked_more}
use Rattle.counted_phases.proofs.Stages.{first_marks, flags_mid, flags_relaid, flags_seen, flags_brought, kept_there, none_some, relaid_tree, tree_mid, tree_brought}

module _ (old brought laid new : Tree RenderObject) (changed : List Handle) (b : BuiltInPhases old brought laid) (keeps : KeepsRest brought laid) (marks : SetsMarks paint_marks true changed laid new) where
  is_mid : IsTree b.mid
  is_mid = tree_mid old b.mid b.first

  is_run : IsTree b.run
  is_run = relaid_tree b.mid b.run b.keeps is_mid

  -- between the phases
  abbrev pub between_marks : List Handle
  between_marks = first_marks old b.mid b.first ++ b.changed

  flags_ranged : AreMarkedBy old b.ranged between_marks
  flags_ranged =
      flags_seen b.marked b.ranged b.same old between_marks b.is_tree
      (marked_more old b.run b.marked (first_marks old b.mid b.first) b.changed b.marks is_run (flags_relaid b.mid b.run b.keeps old (first_marks old b.mid b.first) is_mid (flags_mid old b.mid b.first)))

  -- what was in the last frame's tree is there
  ranged_there : (k : Handle) → node_at b.ranged k ≡ None → node_at old k ≡ None
  ranged_there k e = kept_there old b.mid b.first k (mid_gone (node_at b.mid k) refl)
    where
      marked_gone : (x : Option (TreeNode RenderObject)) → node_at b.marked k ≡ x → x ≡ None
      marked_gone None f = refl
      marked_gone (Some n) f = none_some (paint_seen n) (sym (ap (option_map paint_seen) e) ∙ (b.same k ∙ ap (option_map paint_seen) f))

      run_gone : (n : TreeNode RenderObject) → node_at b.run k ≡ Some n → ⊥
      run_gone n f =
          let only = b.marks.only k n f in
          none_some (record n { value = paint_marks.marked only.0 only.1 n.value }) (sym (marked_gone (node_at b.marked k) refl) ∙ only.2)

      mid_gone : (x : Option (TreeNode RenderObject)) → node_at b.mid k ≡ x → node_at b.mid k ≡ None
      mid_gone None f = f
      mid_gone (Some n) f = absurd (run_gone (record n { value = with_layout_state (state_at b.run k) n.value })
          (b.keeps.nodes k ∙ ap (option_map (λ (m : TreeNode RenderObject). record m { value = with_layout_state (state_at b.run k) m.value })) f))

  abbrev pub all_marks : List Handle
  all_marks = ((between_marks ++ b.second.painted) ++ b.second.painted) ++ changed

  pub flags_new : AreMarkedBy old new all_marks
  flags_new =
      marked_more old laid new ((between_marks ++ b.second.painted) ++ b.second.painted) changed marks (relaid_tree brought laid keeps (tree_brought b.ranged brought b.second))
      (flags_relaid brought laid keeps old ((between_marks ++ b.second.painted) ++ b.second.painted) (tree_brought b.ranged brought b.second)
      (flags_brought b.ranged brought b.second old between_marks b.kinds ranged_there flags_ranged))
