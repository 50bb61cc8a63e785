-- The frames that layouts left, once a tree was laid out.
use Rattle.std.proofs.Common.{◌≡◌, ℕ, Bool, true, false, cond, ◌&&◌, Option, Some, None, IsSome, option_map, [], ◌∷◌, ◌++◌, refl, sym, ap, ◌∙◌, subst}
use Rattle.std.specs.Option.{option_or, option_to_list}
use Rattle.fx_handles.specs.declared.Handle.{Handle}
use Rattle.fx_handles.specs.ArenaLaws.{same_Some}
use Rattle.node_tree.specs.Forest.{TreeNode, Forest, tops}
use Rattle.node_tree.specs.Forest.Forest.{none, tree}
use Rattle.node_tree.specs.Tree.{Tree, Is, IsTree, node_at}
use Rattle.node_tree.proofs.TreeLemmas.{is_node}
use Rattle.plain_tree.specs.At.{laid_at, laid_in}
use Rattle.plain_tree.specs.declared.laid.Frame.{Frame}
use Rattle.plain_tree.specs.Laid.{Laid, laid, no_laids, more_laids}
use Rattle.plain_tree.specs.Laws.{render_numbers_in, AllDiffer}
use Rattle.layout_form.specs.Object.{facts_of as laid_facts}
use Rattle.layout_owner.specs.Roots.{IsPlaced}
use Rattle.layout_rules.specs.Nodes.{layout_node, layout_nodes}
use Rattle.layout_walk.specs.Node.{LayoutNode}
use Rattle.tree_marks.proofs.MarkSteps.{node_stands}
use Rattle.render_tree.specs.Object.{RenderObject, object_look}
use Rattle.render_tree.specs.Plain.{facts_of, frame_or, offset_or, laids_of, laid_of, renders_of, root_tree}
use Rattle.screen_owner.proofs.Showing.{root_forest}
use Rattle.work_sets.specs.Before.{Frames, frames_after}
use Rattle.counted_work.specs.Caused.{FramesAgree}
use Rattle.layout_owner.specs.Left.{LeftIf, AreLeft}
use Rattle.counted_work.proofs.Searching.{Told, laid_search, none_or, told}
use Rattle.counted_work.proofs.Changed.{AreFramed}
use Rattle.counted_work.proofs.Synced.{lone_root, node_framed}
use Rattle.counted_work.proofs.Touching.{stands_framed}

abbrev pub frame_of : Laid → Frame
frame_of l = (laid_facts l).frame

module _ (frames after : Frames) (S : ℕ → Option Laid) (after_is : (n : ℕ) → after n ≡ option_or (option_map frame_of (S n)) (frames n)) where
  some_frame : (o : Option Frame) → IsSome o → o ≡ Some (frame_or o)
  some_frame None e = absurd (cc)
  some_frame (Some f) e = refl

  found_frame : (n : ℕ) (l : Laid) → S n ≡ Some l → after n ≡ Some (frame_of l)
  found_frame n l e = after_is n ∙ ap (λ x. option_or (option_map frame_of x) (frames n)) e

  missed_frame : (n : ℕ) → S n ≡ None → after n ≡ frames n
  missed_frame n e = after_is n ∙ ap (λ x. option_or (option_map frame_of x) (frames n)) e

  -- what is as it was, and isn't seen
  same_frames : (f g : Forest RenderObject) → layout_nodes g ≡ layout_nodes f → AreFramed frames f → Told laid_search S false g → AreFramed after g
  same_frames f none e framed unseen = tt
  same_frames none (tree k w below rest) e framed unseen = absurd (none_tree e)
    where
      none_tree : tree k (layout_node w) (layout_nodes below) (layout_nodes rest) ≡ none → ⊥
      none_tree e = cc
  same_frames (tree h v kids more) (tree k w below rest) e framed unseen =
      let parts = tree_parts e in (
        ap (λ (x : LayoutNode). x.frame) parts.0 ∙ (framed.0 ∙ (ap (λ (x : LayoutNode). frames x.number) (sym parts.0) ∙ sym (missed_frame w.number unseen.0))),
        same_frames kids below parts.1 framed.1 unseen.1,
        same_frames more rest parts.2 framed.2 unseen.2,
      )
    where
      tree_parts : tree k (layout_node w) (layout_nodes below) (layout_nodes rest) ≡ tree h (layout_node v) (layout_nodes kids) (layout_nodes more)
          → (layout_node w ≡ layout_node v) × (layout_nodes below ≡ layout_nodes kids) × (layout_nodes rest ≡ layout_nodes more)
      tree_parts e = (cc, cc, cc)

  by_shown : (b : Bool) (v w : RenderObject) (kids below : Forest RenderObject) → w.shown ≡ b → LeftIf b (layout_node v) (layout_nodes kids) (layout_node w) (layout_nodes below) (AreLeft (layout_nodes kids) (layout_nodes below))
      → v.frame ≡ frames v.number → AreFramed frames kids → S w.number ≡ cond b (Some (laid w.number (object_look w) (facts_of w) (laids_of below))) None → Told laid_search S (b && true) below
      → (AreLeft (layout_nodes kids) (layout_nodes below) → Told laid_search S true below → AreFramed after below)
      → (w.frame ≡ after w.number) × AreFramed after below
  by_shown true v w kids below shown left here framed seen under go =
      (some_frame w.frame left.0.framed ∙ sym (found_frame w.number (laid w.number (object_look w) (facts_of w) (laids_of below)) seen), go left.1 under)
  by_shown false v w kids below shown left here framed seen under go = (
    ap (λ (x : LayoutNode). x.frame) left.value ∙ (here ∙ (ap (λ (x : LayoutNode). frames x.number) (sym left.value) ∙ sym (missed_frame w.number seen))),
    same_frames kids below left.inside framed under,
  )

  pub left_framed : (f g : Forest RenderObject) → AreLeft (layout_nodes f) (layout_nodes g) → AreFramed frames f → Told laid_search S true g → AreFramed after g
  left_framed none none left framed seen = tt
  left_framed none (tree k w below rest) left framed seen = absurd left
  left_framed (tree h v kids more) none left framed seen = tt
  left_framed (tree h v kids more) (tree k w below rest) left framed seen =
      let both = by_shown w.shown v w kids below refl left.1 framed.0 framed.1 seen.0 seen.1 (λ inner told_in. left_framed kids below inner framed.1 told_in) in
      (both.0, both.1, left_framed more rest left.2 framed.2 seen.2)

-- ---- whole trees

abbrev IsAlone : Forest RenderObject → Type 0
IsAlone none = Unit {0}
IsAlone (tree h o kids none) = Unit {0}
IsAlone (tree h o kids (tree k v below rest)) = ⊥

pub same_laid : (l m : Laid) → Some l ≡ Some m → l ≡ m
same_laid l m e = cc

pub root_found : (h : Handle) (o : RenderObject) (kids : Forest RenderObject) (l : Laid) → o.shown ≡ true → laid_of (tree h o kids none) ≡ Some l → (n : ℕ) → laid_in n (laids_of (tree h o kids none)) ≡ laid_at n l
root_found h o kids l shown is n =
    ap (λ b. laid_in n (cond b (more_laids (offset_or o.offset) (laid o.number (object_look o) (facts_of o) (laids_of kids)) no_laids) no_laids)) shown
    ∙ (none_or (laid_at n (laid o.number (object_look o) (facts_of o) (laids_of kids)))
    ∙ ap (laid_at n) (same_laid (laid o.number (object_look o) (facts_of o) (laids_of kids)) l is))

one_forest : (frames : Frames) (l : Laid) (f g : Forest RenderObject) → IsAlone g → AllDiffer (render_numbers_in (renders_of g)) → IsPlaced g → laid_of g ≡ Some l → AreLeft (layout_nodes f) (layout_nodes g) → AreFramed frames f → AreFramed (frames_after l frames) g
one_forest frames l f none alone differ placed is left framed = tt
one_forest frames l f (tree h o kids (tree k v below rest)) alone differ placed is left framed = absurd alone
one_forest frames l f (tree h o kids none) alone differ placed is left framed =
    left_framed frames (frames_after l frames) (λ n. laid_in n (laids_of (tree h o kids none)))
    (λ n. ap (λ x. option_or (option_map frame_of x) (frames n)) (sym (root_found h o kids l placed.0 is n)))
    f (tree h o kids none) left framed (told laid_search (tree h o kids none) differ)

-- a tree without inactive nodes is one tree
alone_tree : (t : Tree RenderObject) (g : Forest RenderObject) → Is t g → t.inactive ≡ [] → IsAlone g
alone_tree t none is alone = tt
alone_tree t (tree h o kids none) is alone = tt
alone_tree t (tree h o kids (tree k v below rest)) is alone = some_none (lone_root t.root h (k ∷ tops rest) (ap (λ hs. option_to_list t.root ++ hs) (sym alone) ∙ is.tops)).1
  where
    some_none : k ∷ tops rest ≡ [] → ⊥
    some_none e = cc

pub frames_left : (frames : Frames) (l : Laid) (old new : Tree RenderObject) → IsTree old → IsTree new → old.inactive ≡ [] → new.inactive ≡ [] → AllDiffer (render_numbers_in (renders_of (root_tree new)))
    → IsPlaced (root_tree new) → laid_of (root_tree new) ≡ Some l → AreLeft (layout_nodes (root_tree old)) (layout_nodes (root_tree new)) → FramesAgree frames old → FramesAgree (frames_after l frames) new
frames_left frames l old new is_old is_new alone_old alone_new differ placed is left agree k o at = by_node (node_at new k) refl
  where
    root_old : root_tree old ≡ is_old.0
    root_old = root_forest old is_old.0 alone_old is_old.1

    root_new : root_tree new ≡ is_new.0
    root_new = root_forest new is_new.0 alone_new is_new.1

    framed : AreFramed (frames_after l frames) is_new.0
    framed =
        one_forest frames l is_old.0 is_new.0 (alone_tree new is_new.0 is_new.1 alone_new) (subst (λ g. AllDiffer (render_numbers_in (renders_of g))) root_new differ) (subst IsPlaced root_new placed)
        (subst (λ g. laid_of g ≡ Some l) root_new is) (subst (λ g. AreLeft (layout_nodes is_old.0) (layout_nodes g)) root_new (subst (λ f. AreLeft (layout_nodes f) (layout_nodes (root_tree new))) root_old left))
        (stands_framed frames old None is_old.0 is_old.1.stands agree)

    none_some : {B : Type 0} → None ≡ Some o → B
    none_some e = absurd (cc)

    by_node : (x : Option (TreeNode RenderObject)) → node_at new k ≡ x → o.frame ≡ frames_after l frames o.number
    by_node None e = none_some (sym (ap (option_map (λ (n : TreeNode RenderObject). n.value)) e) ∙ at)
    by_node (Some n) e =
        let value : n.value ≡ o = same_Some (sym (ap (option_map (λ (m : TreeNode RenderObject). m.value)) e) ∙ at) in
        subst (λ (x : RenderObject). x.frame ≡ frames_after l frames x.number) value
        (node_framed (frames_after l frames) (node_at new) None is_new.0 k n is_new.1.stands framed e (node_stands new is_new.0 k is_new.1 (is_node (node_at new k) n e)))
