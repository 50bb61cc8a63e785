-- A plan's nodes have what they had of the last frame, but for widgets and what parents take of them.
use Rattle.std.proofs.Common.{◌≡◌, Bool, true, false, Option, Some, None, option_map, refl, sym, ap, ◌∙◌}
use Rattle.fx_handles.specs.declared.Handle.{Handle}
use Rattle.fx_handles.specs.ArenaLaws.{same_Some}
use Rattle.node_tree.specs.Forest.{TreeNode, Forest}
use Rattle.node_tree.specs.Forest.Forest.{none, tree}
use Rattle.node_tree.specs.Plan.{IsUpdated}
use Rattle.node_tree.specs.Tree.{Tree, node_at}
use Rattle.node_tree.proofs.TreeLemmas.{is_node}
use Rattle.work_sets.specs.Before.{Frames}
use Rattle.layout_walk.specs.Rules.{is_list}
use Rattle.render_tree.specs.Object.{RenderObject, object_look}
use Rattle.render_tree.specs.Plain.{renders_of}
use Rattle.render_tree.specs.Redraw.{Redraw, redrawn}
use Rattle.render_tree.specs.Tree.{object_at}
use Rattle.render_sync.specs.Numbering.{NumbersDiffer, number_at}
use Rattle.render_sync.specs.Renders.{AllNumbers}
use Rattle.render_sync.specs.Synced.{Grows}
use Rattle.counted_work.specs.Caused.{FramesAgree, IsNewUnlaid}
use Rattle.counted_work.proofs.Synced.{no_some}
use Rattle.counted_phases.specs.Framed.{HaveFrames, OuterHaveFrames, IsAsBefore, OuterAsBefore, AllAsBefore}
use Rattle.counted_phases.specs.Outer.{UnlessList}

module _ (old made : Tree RenderObject) (grows : Grows old made) (differ : NumbersDiffer made) where
  made_node : (k : Handle) (n : TreeNode RenderObject) → node_at old k ≡ Some n → node_at made k ≡ Some n
  made_node k n e = grows.keeps k (is_node (node_at old k) n e) ∙ e

  -- what was there is there
  made_object : (h : Handle) (o : RenderObject) → object_at old h ≡ Some o → object_at made h ≡ Some o
  made_object h o at = by (node_at old h) refl
    where
      by : (x : Option (TreeNode RenderObject)) → node_at old h ≡ x → object_at made h ≡ Some o
      by None e = no_some o (sym (ap (option_map (λ (n : TreeNode RenderObject). n.value)) e) ∙ at)
      by (Some n) e = ap (option_map (λ (m : TreeNode RenderObject). m.value)) (made_node h n e) ∙ (sym (ap (option_map (λ (m : TreeNode RenderObject). m.value)) e) ∙ at)

  -- one number, one handle
  one_handle : (x h : Handle) (v o : RenderObject) → object_at made x ≡ Some v → object_at made h ≡ Some o → o.number ≡ v.number → h ≡ x
  one_handle x h v o at_x at_h number =
      differ v.number h x (ap (option_map (λ (y : RenderObject). y.number)) at_h ∙ ap (λ n. Some n) number) (ap (option_map (λ (y : RenderObject). y.number)) at_x)

  one_before : (x : Handle) (u : Redraw) (w : RenderObject) → option_map (redrawn u) (object_at made x) ≡ Some w → IsAsBefore old w
  one_before x u w is h o at number = by (object_at made x) refl
    where
      by : (y : Option RenderObject) → object_at made x ≡ y → (w.shown ≡ o.shown) × (w.needs_layout ≡ o.needs_layout)
      by None e = no_some w (sym (ap (option_map (redrawn u)) e) ∙ is)
      by (Some v) e =
          let drawn : redrawn u v ≡ w = same_Some (sym (ap (option_map (redrawn u)) e) ∙ is) in
          let there : object_at made h ≡ Some o = made_object h o at in
          let handle : h ≡ x = one_handle x h v o e there (number ∙ ap (λ (y : RenderObject). y.number) (sym drawn)) in
          let value : v ≡ o = same_Some (sym e ∙ (ap (object_at made) (sym handle) ∙ there)) in
          (ap (λ (y : RenderObject). y.shown) (sym drawn) ∙ ap (λ (y : RenderObject). y.shown) value, ap (λ (y : RenderObject). y.needs_layout) (sym drawn) ∙ ap (λ (y : RenderObject). y.needs_layout) value)

  pub all_before : (d : Forest Redraw) (g : Forest RenderObject) → IsUpdated redrawn (object_at made) d g → AllAsBefore old g
  all_before none none u = tt
  all_before none (tree k w under rest) u = absurd u
  all_before (tree x y kids more) none u = tt
  all_before (tree x y kids more) (tree k w under rest) u = (one_before x y w u.1, all_before kids under u.2, all_before more rest u.3)

  -- ---- frames

  module _ (frames : Frames) (agree : FramesAgree frames old) where
    pub one_framed : (x : Handle) (u : Redraw) (w : RenderObject) → option_map (redrawn u) (object_at made x) ≡ Some w → IsNewUnlaid frames old w.number → w.frame ≡ frames w.number
    one_framed x u w is unlaid = by_made (node_at made x) refl (node_at old x) refl
      where
        made_is : (n : TreeNode RenderObject) → node_at made x ≡ Some n → redrawn u n.value ≡ w
        made_is n f = same_Some (sym (ap (λ (y : Option (TreeNode RenderObject)). option_map (redrawn u) (option_map (λ (m : TreeNode RenderObject). m.value) y)) f) ∙ is)

        nobody : (n : TreeNode RenderObject) → node_at made x ≡ Some n → node_at old x ≡ None → (j : Handle) → number_at old j ≡ Some w.number → ⊥
        nobody n f gone j number = by_old (node_at old j) refl
          where
            by_old : (y : Option (TreeNode RenderObject)) → node_at old j ≡ y → ⊥
            by_old None e = no_some w.number (sym (ap (λ y. option_map (λ (o : RenderObject). o.number) (option_map (λ (m : TreeNode RenderObject). m.value) y)) e) ∙ number)
            by_old (Some m) e =
                let numbered : m.value.number ≡ w.number = same_Some (sym (ap (λ y. option_map (λ (o : RenderObject). o.number) (option_map (λ (k : TreeNode RenderObject). k.value) y)) e) ∙ number) in
                let handle : j ≡ x = one_handle x j n.value m.value (ap (option_map (λ (k : TreeNode RenderObject). k.value)) f)
                (ap (option_map (λ (k : TreeNode RenderObject). k.value)) (made_node j m e)) (numbered ∙ ap (λ (o : RenderObject). o.number) (sym (made_is n f))) in
                no_some m (sym gone ∙ (ap (node_at old) (sym handle) ∙ e))

        by_made : (y : Option (TreeNode RenderObject)) → node_at made x ≡ y → (z : Option (TreeNode RenderObject)) → node_at old x ≡ z → w.frame ≡ frames w.number
        by_made None f z e = no_some w (sym (ap (λ (y : Option (TreeNode RenderObject)). option_map (redrawn u) (option_map (λ (m : TreeNode RenderObject). m.value) y)) f) ∙ is)
        by_made (Some n) f (Some m) e =
            let value : n ≡ m = same_Some (sym f ∙ made_node x m e) in
            ap (λ (o : RenderObject). o.frame) (sym (made_is n f)) ∙ (ap (λ (k : TreeNode RenderObject). k.value.frame) value
            ∙ (agree x m.value (ap (option_map (λ (k : TreeNode RenderObject). k.value)) e)
            ∙ ap frames (ap (λ (k : TreeNode RenderObject). k.value.number) (sym value) ∙ ap (λ (o : RenderObject). o.number) (made_is n f))))
        by_made (Some n) f None e =
            let fresh = grows.fresh x n e f in
            ap (λ (o : RenderObject). o.frame) (sym (made_is n f)) ∙ (ap (λ (k : TreeNode RenderObject). k.value.frame) fresh.2 ∙ sym (unlaid (nobody n f e)))

    pub all_framed : (d : Forest Redraw) (g : Forest RenderObject) → IsUpdated redrawn (object_at made) d g → AllNumbers (IsNewUnlaid frames old) (renders_of g) → HaveFrames frames g
    all_framed none none u unlaid = tt
    all_framed none (tree k w under rest) u unlaid = absurd u
    all_framed (tree x y kids more) none u unlaid = tt
    all_framed (tree x y kids more) (tree k w under rest) u unlaid = (one_framed x y w u.1 unlaid.0.0, all_framed kids under u.2 unlaid.0.1, all_framed more rest u.3 unlaid.1)

-- ---- outer nodes

keep_unless : (list : Bool) (X : Type 0) → X → UnlessList list X
keep_unless true X x = tt
keep_unless false X x = x

pub outer_before : (old : Tree RenderObject) (g : Forest RenderObject) → AllAsBefore old g → OuterAsBefore old g
outer_before old none alike = tt
outer_before old (tree k w under rest) alike = (alike.0, keep_unless (is_list (object_look w)) (OuterAsBefore old under) (outer_before old under alike.1), outer_before old rest alike.2)

pub outer_framed : (frames : Frames) (g : Forest RenderObject) → HaveFrames frames g → OuterHaveFrames frames g
outer_framed frames none framed = tt
outer_framed frames (tree k w under rest) framed =
    (framed.0, keep_unless (is_list (object_look w)) (OuterHaveFrames frames under) (outer_framed frames under framed.1), outer_framed frames rest framed.2)
