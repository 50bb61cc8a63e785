-- What a plan marks for painting, in the forest that a layout leaves.
use Rattle.std.proofs.Common.{◌≡◌, eqb, Bool, true, false, not, ◌&&◌, ◌||◌, Option, Some, None, option_map, List, refl, sym, ap, ◌∙◌, subst, inl, inr, Decides}
use Rattle.std.proofs.lemmas.Bool.{and_parts, or_left}
use lib.Pointwise.{pointwise}
use Rattle.delegates.specs.Table.{Plug}
use Rattle.fx_handles.specs.declared.Handle.{Handle}
use Rattle.fx_handles.specs.ArenaLaws.{same_Some}
use Rattle.node_tree.specs.Forest.{TreeNode, Forest, tops, Stands}
use Rattle.node_tree.specs.Forest.Forest.{none, tree}
use Rattle.node_tree.specs.Plan.{entries}
use Rattle.node_tree.specs.Tree.{Tree, node_at}
use Rattle.widget_model.specs.Look.{Look}
use Rattle.plain_tree.specs.declared.render.ParentData.{ParentData}
use Rattle.plain_tree.specs.Laid.{Laid}
use Rattle.plain_tree.specs.Render.{Render}
use Rattle.tree_marks.specs.Marking.{Above, within}
use Rattle.tree_marks.specs.Marks.{listed, some_climbs, sweep}
use Rattle.tree_marks.proofs.Closing.{either}
use Rattle.work_roles.specs.Place.{RegionPlace, at_root, below}
use Rattle.work_sets.specs.Before.{Before}
use Rattle.work_sets.specs.InTree.{Standing, standing, look_of, children_of as children_in}
use Rattle.work_sets.specs.Layout.{is_told_same}
use Rattle.work_sets.specs.Members.{is_same_look}
use Rattle.work_sets.specs.Paint.{Asks, asks_paint, differs_since, is_same_for_paint, numbers_below}
use Rattle.render_tree.specs.Changes.{ChangesPaint, BecomesRoot}
use Rattle.render_tree.specs.Marks.{layout_marks, paint_marks}
use Rattle.render_tree.specs.Object.{RenderObject, object_look}
use Rattle.render_tree.specs.Tree.{object_at}
use Rattle.render_sync.specs.Synced.{Synced}
use Rattle.build_walk.specs.Changing.{render_over, ChangesForPaint, SomeLooks}
use Rattle.build_walk.proofs.Finding.{changed_for_paint}
use Rattle.build_walk.proofs.Reporting.{reported_looks}
use Rattle.counted_work.specs.Painted.{paint_above, AreAsking}
use Rattle.counted_work.specs.Shows.{PluggedAsBefore}
use Rattle.counted_work.proofs.Changed.{StoodWith, root_stood, numbered_in}
use Rattle.counted_work.proofs.Regroup.{IsFlagged, AreFlagged}
use Rattle.counted_work.proofs.Relaid.{SameNodes, IsRelaid, numbers_same, climbs_same, relaid_nodes}
use Rattle.counted_work.proofs.Synced.{RootAlone, some_entry, entry_some, one_under, no_some, apart, made_node, made_stands, tell}
use Rattle.counted_work.proofs.Twins.{IsCarried, AreCarried, root_number}

pub swept_paint : (hs : List Handle) (b : Above) (f : Forest RenderObject) → SameNodes f (sweep paint_marks true hs b f)
swept_paint hs b none = tt
swept_paint hs b (tree h v kids rest) = (refl, refl, refl, swept_paint hs (within paint_marks b v) kids, swept_paint hs b rest)

pub differs_same : (x : Option Standing) (p : RegionPlace) (r s : Render) → look_of r ≡ look_of s → numbers_below (children_in r) ≡ numbers_below (children_in s) → differs_since x p r ≡ differs_since x p s
differs_same None p r s look numbers = refl
differs_same (Some was) p r s look numbers = λ i.
    not (is_same_look (look_of was.node) (look i) && pointwise eqb (numbers_below (children_in was.node)) (numbers i)) || (p.top && not was.place.top)

module _ (told_same : (a b : ParentData) → Decides (is_told_same a b) (a ≡ b)) (look_same : (a b : Look) → Decides (is_same_look a b) (a ≡ b)) (before : Before) (last now_laid : Laid)
    (then now : List Plug) (plugs : PluggedAsBefore before.touched then now)
    (old brought laid : Tree RenderObject) (top : Render) (synced : Synced old brought top) (changed : List Handle)
    (h0 : Handle) (o0 : RenderObject) (kids0 : Forest RenderObject) (stands0 : Stands (node_at old) None (tree h0 o0 kids0 none)) (root0 : old.root ≡ Some h0) (was : before.tree ≡ Some (render_over o0 kids0)) where
  abbrev asks : Asks
  asks = asks_paint before (record { before = Some last; now = now_laid })

  abbrev made : Tree RenderObject
  made = synced.made

  abbrev Flagged : RegionPlace → Forest RenderObject → Type 0
  Flagged p g = AreFlagged before last now_laid look_same then now plugs old brought laid changed synced.painted p g

  -- ---- what the plan changes

  looks_at : (q : Option Handle) (g : Forest RenderObject) (k : Handle) (w : RenderObject) (under : Forest RenderObject) (r : Option Handle) → Stands (node_at synced.committed) q g
      → node_at synced.committed k ≡ Some (record { parent = r; children = tops under; value = w }) → Stands (node_at synced.committed) (Some k) under → SomeLooks made k g → ChangesForPaint made k w under
  looks_at q none k w under r stands at beneath s = absurd s
  looks_at q (tree j v kids rest) k w under r stands at beneath (inl here) =
      let node : Option Handle → List Handle → RenderObject → TreeNode RenderObject = λ a l x. record { parent = a; children = l; value = x } in
      let same_node : node q (tops kids) v ≡ node r (tops under) w = same_Some (sym stands.0 ∙ (ap (node_at synced.committed) here.0 ∙ at)) in
      let same_kids : kids ≡ under = one_under (node_at synced.committed) (Some k) kids under (subst (λ x. Stands (node_at synced.committed) (Some x) kids) here.0 stands.1) beneath
      (ap (λ (n : TreeNode RenderObject). n.children) same_node) in
      subst (λ f. ChangesForPaint made k w f) same_kids (subst (λ x. ChangesForPaint made k x kids) (ap (λ (n : TreeNode RenderObject). n.value) same_node)
      (subst (λ x. ChangesForPaint made x v kids) here.0 here.1))
  looks_at q (tree j v kids rest) k w under r stands at beneath (inr (inl below_j)) = looks_at (Some j) kids k w under r stands.1 at beneath below_j
  looks_at q (tree j v kids rest) k w under r stands at beneath (inr (inr later)) = looks_at q rest k w under r stands.2 at beneath later

  abbrev Differs : RegionPlace → Handle → RenderObject → Forest RenderObject → Type 0
  Differs p k w under = listed k synced.painted ≡ true → differs_since (standing before.tree w.number) p (render_over w under) ≡ true

  abbrev AreDiffering : RegionPlace → Forest RenderObject → Type 0
  AreDiffering p none = Unit {0}
  AreDiffering p (tree k w under rest) = Differs p k w under × AreDiffering (below p (object_look w)) under × AreDiffering p rest

  differs_at : (p : RegionPlace) (k : Handle) (w : RenderObject) (under : Forest RenderObject) (r : Option Handle) → node_at synced.committed k ≡ Some (record { parent = r; children = tops under; value = w })
      → Stands (node_at synced.committed) (Some k) under → IsCarried (object_at made) k w → AreCarried (object_at made) under
      → (BecomesRoot made (Some synced.root) k → differs_since (standing before.tree w.number) p (render_over w under) ≡ true) → Differs p k w under
  differs_at p k w under r at beneath carried carried_below root is = elim (synced.painted_anew.caused k is) [
    | inl s ↦
        let one = some_entry (ChangesPaint made k) synced.plan synced.is_plan.once s in
        let there = entry_some (ChangesPaint made k) (entries None synced.updates) one.0.at one.0 (sym (synced.is_plan.entry one.0.at) ∙ one.1) one.2 in
        let changes = looks_at None synced.nodes k w under r synced.is.stands at beneath (reported_looks made k None synced.updates synced.nodes synced.updated there) in
        changed_for_paint made told_same look_same (apart old brought top synced) before h0 o0 kids0 (made_stands old brought top synced None (tree h0 o0 kids0 none) stands0) was k carried.stored w under carried.is carried.number
        (numbered_in told_same look_same made (apart old brought top synced) before under carried_below) p changes
    | inr b ↦ root b
  ]

  differs_below : RootAlone old brought top synced → (p : RegionPlace) (j : Handle) (f : Forest RenderObject) → Stands (node_at synced.committed) (Some j) f → AreCarried (object_at made) f → AreDiffering p f
  differs_below alone p j none s c = tt
  differs_below alone p j (tree k w under rest) s c = (
    differs_at p k w under (Some j) s.0 s.1 c.0 c.1
        (λ root. no_some j (sym (alone (record { parent = Some j; children = tops under; value = w }) (ap (node_at synced.committed) (same_Some root.0) ∙ s.0)))),
    differs_below alone (below p (object_look w)) k under s.1 c.1,
    differs_below alone p j rest s.2 c.2,
  )

  -- what stood with a number stood at the handle that has it now
  object_node : (t : Tree RenderObject) (k : Handle) (o : RenderObject) (x : Option (TreeNode RenderObject)) → node_at t k ≡ x → object_at t k ≡ Some o → (n : TreeNode RenderObject) × (node_at t k ≡ Some n) × (n.value ≡ o)
  object_node t k o None e at = no_some o (sym (ap (option_map (λ (n : TreeNode RenderObject). n.value)) e) ∙ at)
  object_node t k o (Some n) e at = (n, e, same_Some (sym (ap (option_map (λ (m : TreeNode RenderObject). m.value)) e) ∙ at))

  stood_here : (k : Handle) (w : RenderObject) (st : Standing) → IsCarried (object_at made) k w → (found : StoodWith old w.number st) → found.handle ≡ k
  stood_here k w st carried found =
      let node = object_node old found.handle found.object (node_at old found.handle) refl found.stored in
      synced.differ w.number found.handle k
      (ap (λ (x : Option (TreeNode RenderObject)). option_map (λ (o : RenderObject). o.number) (option_map (λ (n : TreeNode RenderObject). n.value) x)) (made_node old brought top synced found.handle node.0 node.1)
      ∙ ap (λ n. Some n) (ap (λ (o : RenderObject). o.number) node.2 ∙ found.number))
      (ap (option_map (λ (o : RenderObject). o.number)) carried.is ∙ ap (λ n. Some n) (sym carried.number))

  found_old : (w : RenderObject) (st : Standing) → standing before.tree w.number ≡ Some st → StoodWith old w.number st
  found_old w st e = root_stood old w.number h0 o0 kids0 st stands0 (sym (ap (λ t. standing t w.number) was) ∙ e)

  new_stands_nowhere : (k : Handle) (w : RenderObject) → IsCarried (object_at made) k w → node_at old k ≡ None → (x : Option Standing) → standing before.tree w.number ≡ x → x ≡ None
  new_stands_nowhere k w carried gone None e = refl
  new_stands_nowhere k w carried gone (Some st) e =
      let found = found_old w st e in
      let node = object_node old found.handle found.object (node_at old found.handle) refl found.stored in
      no_some node.0 (sym gone ∙ (ap (node_at old) (sym (stood_here k w st carried found)) ∙ node.1))

  -- a root that was none
  not_top : (top_was : Bool) → (top_was ≡ true → ⊥) → (b : Bool) → (b || (true && not top_was)) ≡ true
  not_top true other b = absurd (other refl)
  not_top false other true = refl
  not_top false other false = refl

  root_differs : (k : Handle) (w : RenderObject) (under : Forest RenderObject) → IsCarried (object_at made) k w → BecomesRoot made (Some synced.root) k → (x : Option Standing) → standing before.tree w.number ≡ x
      → differs_since x at_root (render_over w under) ≡ true
  root_differs k w under carried root None e = refl
  root_differs k w under carried root (Some st) e =
      not_top st.place.top (λ high.
      let found = found_old w st e in
      let number : o0.number ≡ w.number = root_number before look_same (object_at made) (tell old brought top synced) w.number o0 kids0 st (sym (ap (λ t. standing t w.number) was) ∙ e) high in
      let at_h0 = made_node old brought top synced h0 (record { parent = None; children = tops kids0; value = o0 }) stands0.0 in
      let handle : h0 ≡ k = synced.differ w.number h0 k
      (ap (λ (x : Option (TreeNode RenderObject)). option_map (λ (o : RenderObject). o.number) (option_map (λ (n : TreeNode RenderObject). n.value) x)) at_h0 ∙ ap (λ n. Some n) number)
      (ap (option_map (λ (o : RenderObject). o.number)) carried.is ∙ ap (λ n. Some n) (sym carried.number)) in
      root.1 (synced.grows.root ∙ (root0 ∙ ap (λ h. Some h) handle))) (not (is_same_for_paint st.node (render_over w under)))

  pub differs_root : (k : Handle) (w : RenderObject) (under : Forest RenderObject) → RootAlone old brought top synced → Stands (node_at synced.committed) None (tree k w under none) → AreCarried (object_at made) (tree k w under none) → AreDiffering at_root (tree k w under none)
  differs_root k w under alone s c = (
    differs_at at_root k w under None s.0 s.1 c.0 c.1 (λ root. root_differs k w under c.0 root (standing before.tree w.number) refl),
    differs_below alone (below at_root (object_look w)) k under s.1 c.1,
    tt,
  )

  -- ---- in the forest that the layout leaves

  asks_if : (p : RegionPlace) (v w : RenderObject) (kids under : Forest RenderObject) → object_look v ≡ object_look w → v.number ≡ w.number → SameNodes kids under
      → differs_since (standing before.tree v.number) p (render_over v kids) ≡ true → asks p (render_over w under) ≡ true
  asks_if p v w kids under look number same e =
      or_left (differs_since (standing before.tree w.number) p (render_over w under)) _
      (ap (λ n. differs_since (standing before.tree n) p (render_over w under)) (sym number)
      ∙ (sym (differs_same (standing before.tree v.number) p (render_over v kids) (render_over w under) look (numbers_same kids under same)) ∙ e))

  pub asking_from : (p : RegionPlace) (f g : Forest RenderObject) → SameNodes f g → AreDiffering p f → AreAsking asks synced.painted p g
  asking_from p none none s d = tt
  asking_from p none (tree k w under rest) s d = absurd s
  asking_from p (tree h v kids more) none s d = tt
  asking_from p (tree h v kids more) (tree k w under rest) s d = (
    (λ is. asks_if p v w kids under s.1 s.2 s.3 (d.0 (ap (λ x. listed x synced.painted) s.0 ∙ is))),
    subst (λ l. AreAsking asks synced.painted (below p l) under) s.1 (asking_from (below p (object_look v)) kids under s.3 d.1),
    asking_from p more rest s.4 d.2,
  )

  abbrev Marked : Bool → Above → Forest RenderObject → Forest RenderObject
  Marked high a f = sweep paint_marks true synced.painted (paint_above high) (sweep layout_marks true synced.laid a f)

  flag_cause : (p : RegionPlace) (k : Handle) (v w : RenderObject) (under : Forest RenderObject) → IsCarried (object_at made) k v → v.number ≡ w.number → v.needs_paint ≡ true
      → IsFlagged before last now_laid look_same then now plugs old brought laid changed synced.painted p k w under
  flag_cause p k v w under carried number flag = by_old (node_at old k) refl
    where
      by_old : (x : Option (TreeNode RenderObject)) → node_at old k ≡ x → IsFlagged before last now_laid look_same then now plugs old brought laid changed synced.painted p k w under
      by_old None e =
          inl (or_left (differs_since (standing before.tree w.number) p (render_over w under)) _
          (ap (λ n. differs_since (standing before.tree n) p (render_over w under)) (sym number)
          ∙ ap (λ x. differs_since x p (render_over w under)) (new_stands_nowhere k v carried e (standing before.tree v.number) refl)))
      by_old (Some n) e =
          let value : carried.stored ≡ n.value = same_Some (sym carried.is ∙ ap (option_map (λ (m : TreeNode RenderObject). m.value)) (made_node old brought top synced k n e)) in
          inr (inl (n.value, ap (option_map (λ (m : TreeNode RenderObject). m.value)) e, ap (λ (o : RenderObject). o.needs_paint) (sym value) ∙ (sym carried.paint ∙ flag)))

  pub flagged_from : (p : RegionPlace) (high : Bool) (a : Above) (f g : Forest RenderObject) → AreCarried (object_at made) f → SameNodes f g → IsRelaid (Marked high a f) g → Flagged p g
  flagged_from p high a none none c s r = tt
  flagged_from p high a none (tree k w under rest) c s r = absurd s
  flagged_from p high a (tree h v kids more) none c s r = tt
  flagged_from p high a (tree h v kids more) (tree k w under rest) c s r = (
    (λ flag.
        let inner : Forest RenderObject = sweep layout_marks true synced.laid (within layout_marks a v) kids in
        let start : Bool = listed h synced.painted || some_climbs paint_marks synced.painted (paint_above false) inner in
        let carried : IsCarried (object_at made) k v = subst (λ x. IsCarried (object_at made) x v) s.0 c.0 in
        let set : (v.needs_paint || (start && paint_marks.takes high v)) ≡ true = ap (λ (o : RenderObject). o.needs_paint) (sym r.1.1) ∙ flag in
        elim (either v.needs_paint (start && paint_marks.takes high v) set) [
          | inl old_flag ↦ flag_cause p k v w under carried s.2 old_flag
          | inr mark ↦
              let begun : start ≡ true = (and_parts start (paint_marks.takes high v) mark).0 in
              let inner_same : SameNodes inner under = relaid_nodes inner (sweep paint_marks true synced.painted (paint_above false) inner) under (swept_paint synced.painted (paint_above false) inner) r.2 in
              inr (inr ((λ i. listed (sym s.0 i) synced.painted || sym (climbs_same synced.painted inner under inner_same) i) ∙ begun))
        ]),
    subst (λ l. Flagged (below p l) under) s.1 (flagged_from (below p (object_look v)) false (within layout_marks a v) kids under c.1 s.3 r.2),
    flagged_from p high a more rest c.2 s.4 r.3,
  )
