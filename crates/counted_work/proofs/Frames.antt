-- A frame that was brought and laid out: the groups of the boundaries that are flagged ask.
use Rattle.std.proofs.Common.{◌≡◌, ◌≤◌, length, Bool, true, ◌||◌, Option, Some, None, option_map, List, [], ◌∷◌, ◌++◌, refl, sym, ap, ◌∙◌, subst, inl, inr, Decides, append-nil}
use Rattle.std.proofs.lemmas.Bool.{false≢true}
use Rattle.std.specs.Option.{option_to_list}
use Rattle.delegates.specs.Table.{Plug}
use Rattle.fx_handles.specs.declared.Handle.{Handle}
use Rattle.fx_handles.specs.Handle.{same}
use Rattle.fx_handles.specs.HandleLaws.{same-true}
use Rattle.fx_handles.specs.ArenaLaws.{same_Some}
use Rattle.node_tree.specs.Forest.{TreeNode, Forest, tops, Stands}
use Rattle.node_tree.specs.Forest.Forest.{none, tree}
use Rattle.node_tree.specs.Plan.{IsUpdated}
use Rattle.node_tree.specs.Tree.{Tree, Is, IsTree, node_at}
use Rattle.node_tree.proofs.TreeLemmas.{is_node}
use Rattle.widget_model.specs.Look.{Look}
use Rattle.plain_tree.specs.declared.render.ParentData.{ParentData}
use Rattle.plain_tree.specs.Laid.{Laid}
use Rattle.plain_tree.specs.Laws.{render_numbers_of, render_numbers_in, AllDiffer}
use Rattle.plain_tree.specs.Render.{Render, Renders, no_renders, more_renders}
use Rattle.tree_marks.specs.Marking.{at_top}
use Rattle.tree_marks.specs.Marks.{has_node, sweep}
use Rattle.tree_marks.proofs.Closing.{either}
use Rattle.tree_marks.proofs.MarkSteps.{node_stands}
use Rattle.work_roles.specs.Place.{at_root}
use Rattle.work_roles.specs.WorkRole.{is_repaint_boundary}
use Rattle.work_sets.specs.Before.{Before}
use Rattle.work_sets.specs.InTree.{standing}
use Rattle.work_sets.specs.Layout.{is_told_same}
use Rattle.work_sets.specs.Members.{is_same_look}
use Rattle.work_sets.specs.Paint.{Shows, asks_paint, asks_idly, paint_region}
use Rattle.work_sets.proofs.Found.{Finds, found}
use Rattle.kept_layers.specs.Steps.{painted_count}
use Rattle.paint_owner.specs.Finding.{root_flag}
use Rattle.layout_owner.specs.Roots.{IsPlaced, top_render}
use Rattle.layout_rules.specs.Nodes.{layout_nodes}
use Rattle.layout_rules.specs.Painting.{KeepsRest}
use Rattle.layout_rules.specs.Reads.{state_at}
use Rattle.render_tree.specs.LayoutState.{with_layout_state}
use Rattle.render_tree.specs.Marked.{SetsMarks}
use Rattle.render_tree.specs.Marks.{layout_marks, paint_marks}
use Rattle.render_tree.specs.Object.{RenderObject, object_look}
use Rattle.render_tree.specs.Plain.{laid_of, renders_of, root_tree}
use Rattle.render_tree.specs.Redraw.{redrawn}
use Rattle.render_tree.specs.Tree.{object_at}
use Rattle.render_sync.specs.Synced.{Synced}
use Rattle.screen_owner.specs.Changes.{AreKindsSo}
use Rattle.screen_owner.proofs.Bringing.{synced_is, synced_rooted, synced_root, commits_listed}
use Rattle.screen_owner.proofs.Showing.{root_forest}
use Rattle.build_walk.specs.Changing.{render_over}
use Rattle.counted_work.specs.Caused.{FramesAgree}
use Rattle.layout_owner.specs.Left.{AreLeft}
use Rattle.counted_work.specs.Painted.{RootFlagsAsked}
use Rattle.counted_work.specs.Shows.{ArePutSo, PluggedAsBefore, LookOtherwise}
use Rattle.counted_work.specs.Drawn.{PaintsAreCaused, LayoutLeaves}
use Rattle.counted_work.proofs.Drawn.{quiet_from}
use Rattle.counted_work.proofs.Flagging.{asking_from, differs_root, flagged_from, swept_paint}
use Rattle.counted_work.proofs.Region.{painted_in_region, same_trans}
use Rattle.counted_work.proofs.PaintSearch.{root_known}
use Rattle.counted_work.proofs.Regroup.{OldRoot, root_asked}
use Rattle.counted_work.proofs.Relaid.{SameNodes, IsRelaid, brought_node, same_lists, relaid_forest, relaid_nodes, swept_nodes}
use Rattle.counted_work.proofs.Repaint.{ByHandles, SameStored}
use Rattle.counted_work.proofs.Synced.{carried_all, lone_root, made_node, no_some, root_alone, root_handle}
use Rattle.counted_work.proofs.Twins.{IsCarried, AreCarried}

-- ---- a node that was brought, and what it goes on from

module _ (old brought : Tree RenderObject) (top : Render) (synced : Synced old brought top) where
  carried_in : (at : Handle → Option (TreeNode RenderObject)) (q : Option Handle) (f : Forest RenderObject) (k : Handle) (n : TreeNode RenderObject) → Stands at q f → AreCarried (object_at synced.made) f → at k ≡ Some n → has_node k f ≡ true
      → IsCarried (object_at synced.made) k n.value
  carried_in at q none k n s c e there = absurd (false≢true there)
  carried_in at q (tree h v kids rest) k n s c e there = elim (either (same h k) (has_node k kids || has_node k rest) there) [
    | inl x ↦
        let handle : h ≡ k = same-true h k x in
        let value : v ≡ n.value = ap (λ (m : TreeNode RenderObject). m.value) (same_Some (sym s.0 ∙ (ap at handle ∙ e))) in
        subst (λ y. IsCarried (object_at synced.made) y n.value) handle (subst (λ y. IsCarried (object_at synced.made) h y) value c.0)
    | inr later ↦ elim (either (has_node k kids) (has_node k rest) later) [
      | inl b ↦ carried_in at (Some h) kids k n s.1 c.1 e b
      | inr b ↦ carried_in at q rest k n s.2 c.2 e b
    ]
  ]

  pub record Brought (k : Handle) (v : RenderObject) : Type 0 where
    pub planned : RenderObject
    pub carried : IsCarried (object_at synced.made) k planned
    pub marked : RenderObject
    pub marked_is : object_at synced.laid_marked k ≡ Some marked
    pub look : object_look marked ≡ object_look v
    pub number : planned.number ≡ v.number
    pub stored : SameStored planned v

  brought_from : (k : Handle) (n : TreeNode RenderObject) → node_at brought k ≡ Some n → Brought k n.value
  brought_from k n e = by_marked (node_at synced.laid_marked k) refl
    where
      by_committed : (m : TreeNode RenderObject) → node_at synced.laid_marked k ≡ Some m → (f b : Bool) → n.value ≡ paint_marks.marked f b m.value → (x : Option (TreeNode RenderObject)) → node_at synced.committed k ≡ x → Brought k n.value
      by_committed m at f b painted None y = no_some m (sym (synced.layouts.absent k y) ∙ at)
      by_committed m at f b painted (Some c) y =
          let set = synced.layouts.only k c y in
          let value : m.value ≡ layout_marks.marked set.0 set.1 c.value = ap (λ (z : TreeNode RenderObject). z.value) (same_Some (sym at ∙ set.2)) in
          let whole : n.value ≡ paint_marks.marked f b (layout_marks.marked set.0 set.1 c.value) = painted ∙ ap (paint_marks.marked f b) value in
          record {
            planned = c.value;
            carried = carried_in (node_at synced.committed) None synced.nodes k c synced.is.stands (carried_all old brought top synced synced.updates synced.nodes synced.updated) y
                (node_stands synced.committed synced.nodes k synced.is (is_node (node_at synced.committed k) c y));
            marked = m.value;
            marked_is = ap (option_map (λ (z : TreeNode RenderObject). z.value)) at;
            look = ap object_look (sym painted);
            number = ap (λ (o : RenderObject). o.number) (sym whole);
            stored = record {
              frame = ap (λ (o : RenderObject). o.frame) (sym whole);
              plugged = ap (λ (o : RenderObject). o.plugged) (sym whole);
              offset = ap (λ (o : RenderObject). o.offset) (sym whole);
              shown = ap (λ (o : RenderObject). o.shown) (sym whole);
            };
          }

      by_marked : (x : Option (TreeNode RenderObject)) → node_at synced.laid_marked k ≡ x → Brought k n.value
      by_marked None y = no_some n (sym (synced.paints.absent k y) ∙ e)
      by_marked (Some m) y =
          let set = synced.paints.only k m y in
          by_committed m y set.0 set.1 (ap (λ (z : TreeNode RenderObject). z.value) (same_Some (sym e ∙ set.2))) (node_at synced.committed k) refl

  node_of : (t : Tree RenderObject) (k : Handle) (o : RenderObject) (x : Option (TreeNode RenderObject)) → node_at t k ≡ x → object_at t k ≡ Some o → (n : TreeNode RenderObject) × (node_at t k ≡ Some n) × (n.value ≡ o)
  node_of t k o None e at = no_some o (sym (ap (option_map (λ (n : TreeNode RenderObject). n.value)) e) ∙ at)
  node_of t k o (Some n) e at = (n, e, same_Some (sym (ap (option_map (λ (m : TreeNode RenderObject). m.value)) e) ∙ at))

  pub brought_at : (k : Handle) (v : RenderObject) → object_at brought k ≡ Some v → Brought k v
  brought_at k v e = let n = node_of brought k v (node_at brought k) refl e in subst (λ x. Brought k x) n.2 (brought_from k n.0 n.1)

  made_object : (k : Handle) (o : RenderObject) → object_at old k ≡ Some o → object_at synced.made k ≡ Some o
  made_object k o e =
      let n = node_of old k o (node_at old k) refl e in
      ap (option_map (λ (m : TreeNode RenderObject). m.value)) (made_node old brought top synced k n.0 n.1) ∙ ap (λ x. Some x) n.2

  module _ (laid : Tree RenderObject) (keeps : KeepsRest brought laid) where
    laid_from : (k : Handle) (w : RenderObject) → object_at laid k ≡ Some w → (v : RenderObject) × (object_at brought k ≡ Some v) × (w ≡ with_layout_state (state_at laid k) v)
    laid_from k w e =
        let n = node_of laid k w (node_at laid k) refl e in
        let m = brought_node brought laid keeps k n.0 n.1 in
        (m.0.value, ap (option_map (λ (x : TreeNode RenderObject). x.value)) m.1, sym n.2 ∙ ap (λ (x : TreeNode RenderObject). x.value) m.2)

    pub by_handles : (before : Before) (last now_laid : Laid) (look_same : (a b : Look) → Decides (is_same_look a b) (a ≡ b)) (then now : List Plug) (plugs : PluggedAsBefore before.touched then now) (changed : List Handle)
        → old.inactive ≡ [] → AreKindsSo old top → FramesAgree before.frames old → LookOtherwise brought laid changed → ByHandles before last now_laid look_same then now plugs old brought laid changed
    by_handles before last now_laid look_same then now plugs changed alone kinds agree otherwise = record {
      same_handle = λ h k o w at_h at_k number.
          let v = laid_from k w at_k in
          let b = brought_at k v.0 v.1 in
          synced.differ o.number h k (ap (option_map (λ (x : RenderObject). x.number)) (made_object h o at_h))
          (ap (option_map (λ (x : RenderObject). x.number)) b.carried.is
          ∙ ap (λ n. Some n) (sym b.carried.number ∙ (b.number ∙ (ap (λ (x : RenderObject). x.number) (sym v.2) ∙ sym number))));
      brought_there = λ k w at_k. let v = laid_from k w at_k in (v.0, v.1);
      stored = λ k o v at_o at_v.
          let b = brought_at k v at_v in
          let is_o : b.carried.stored ≡ o = same_Some (sym b.carried.is ∙ made_object k o at_o) in
          record {
            frame = ap (λ (x : RenderObject). x.frame) (sym is_o) ∙ (sym b.carried.frame ∙ b.stored.frame);
            plugged = ap (λ (x : RenderObject). x.plugged) (sym is_o) ∙ (sym b.carried.plugged ∙ b.stored.plugged);
            offset = ap (λ (x : RenderObject). x.offset) (sym is_o) ∙ (sym b.carried.offset ∙ b.stored.offset);
            shown = ap (λ (x : RenderObject). x.shown) (sym is_o) ∙ (sym b.carried.shown ∙ b.stored.shown);
          };
      frames = agree;
      lists = same_lists brought laid keeps;
      kinds = λ k o w at_o at_w.
          let v = laid_from k w at_w in
          let b = brought_at k v.0 v.1 in
          ap is_repaint_boundary (ap object_look v.2 ∙ sym b.look) ∙ (commits_listed old brought top synced alone kinds).kinds k o b.marked at_o b.marked_is;
      otherwise = otherwise;
    }

    -- the nodes of the build, as the layout left them
    pub same_laid_nodes : (f g : Forest RenderObject) → synced.nodes ≡ f → Is laid g → SameNodes f g
    same_laid_nodes f g nodes_are is1 =
        let marked : Forest RenderObject = sweep paint_marks true synced.painted at_top (sweep layout_marks true synced.laid at_top f) in
        let brought_is : Is brought marked = subst (λ x. Is brought (sweep paint_marks true synced.painted at_top (sweep layout_marks true synced.laid at_top x))) nodes_are (synced_is old brought top synced) in
        relaid_nodes f marked g (swept_nodes synced.laid synced.painted at_top at_top f)
        (relaid_forest brought laid keeps None marked g brought_is.stands is1.stands
        (sym brought_is.tops ∙ (ap (λ r. option_to_list r ++ brought.inactive) (sym keeps.root) ∙ (ap (λ hs. option_to_list laid.root ++ hs) (sym keeps.inactive) ∙ is1.tops))))

    -- and with the marks of the layout
    pub painted_nodes : (new : Tree RenderObject) (changed : List Handle) (before : Before) (shows : Shows) → (is_laid : IsTree laid) → laid.inactive ≡ [] → SetsMarks paint_marks true changed laid new → RootFlagsAsked (asks_paint before shows) (root_tree new)
        → painted_count (root_flag (root_tree new)) (root_tree new) ≤ length (paint_region before shows top)
    painted_nodes new changed before shows is_laid alone_laid marks asked =
        painted_in_region before shows synced.nodes (root_tree new) top synced.renders
        (subst (SameNodes synced.nodes) (sym (root_forest new (sweep paint_marks true changed at_top is_laid.0) (marks.inactive ∙ alone_laid) (marks.plain is_laid.0 is_laid.1)))
        (same_trans synced.nodes is_laid.0 (sweep paint_marks true changed at_top is_laid.0) (same_laid_nodes synced.nodes is_laid.0 refl is_laid.1) (swept_paint changed at_top is_laid.0)))
        asked

-- ---- the whole

module _ (told_same : (a b : ParentData) → Decides (is_told_same a b) (a ≡ b)) (look_same : (a b : Look) → Decides (is_same_look a b) (a ≡ b))
    (before : Before) (last now_laid : Laid) (then now : List Plug) (changed : List Handle) (old brought laid new : Tree RenderObject) (top : Render) (synced : Synced old brought top)
    (plugs : PluggedAsBefore before.touched then now) (is_old : IsTree old) (is_laid : IsTree laid) (alone : old.inactive ≡ []) (alone_laid : laid.inactive ≡ []) (kinds : AreKindsSo old top)
    (differ_old : AllDiffer (render_numbers_in (renders_of (root_tree old)))) (differ_laid : AllDiffer (render_numbers_in (renders_of (root_tree laid))))
    (caused : PaintsAreCaused before last then old) (out : LayoutLeaves now_laid now changed brought laid) (marks : SetsMarks paint_marks true changed laid new) where
  root_brought : root_tree brought ≡ sweep paint_marks true synced.painted at_top (sweep layout_marks true synced.laid at_top synced.nodes)
  root_brought = root_forest brought (sweep paint_marks true synced.painted at_top (sweep layout_marks true synced.laid at_top synced.nodes)) (synced_rooted old brought top synced).alone (synced_is old brought top synced)

  -- with the roots of both trees
  with_roots : (h0 : Handle) (o0 : RenderObject) (kids0 : Forest RenderObject) → Is old (tree h0 o0 kids0 none) → root_tree old ≡ tree h0 o0 kids0 none
      → (k : Handle) (v : RenderObject) (kids : Forest RenderObject) → synced.nodes ≡ tree k v kids none → (w : RenderObject) (under : Forest RenderObject) → Is laid (tree k w under none) → root_tree laid ≡ tree k w under none
      → RootFlagsAsked (asks_paint before (record { before = Some last; now = now_laid })) (sweep paint_marks true changed at_top (tree k w under none))
  with_roots h0 o0 kids0 is0 root_is k v kids nodes_are w under is1 laid_root =
      let f0 : Forest RenderObject = tree h0 o0 kids0 none in
      let g : Forest RenderObject = tree k w under none in
      let was : before.tree ≡ Some (render_over o0 kids0) = caused.tree ∙ ap (λ f. top_render (renders_of f)) root_is in
      let differ0 : AllDiffer (render_numbers_in (renders_of f0)) = subst (λ f. AllDiffer (render_numbers_in (renders_of f))) root_is differ_old in
      let differ1 : AllDiffer (render_numbers_in (renders_of g)) = subst (λ f. AllDiffer (render_numbers_in (renders_of f))) laid_root differ_laid in
      let placed0 = subst IsPlaced root_is caused.placed in
      let placed1 = subst IsPlaced laid_root out.placed in
      let put0 = (subst (ArePutSo then) root_is caused.put).0 placed0.0 in
      let put1 = (subst (ArePutSo now) laid_root out.put).0 placed1.0 in
      let old_root : OldRoot before last now_laid look_same then now plugs old brought laid changed synced.painted h0 o0 kids0 = record {
        stands = is0.stands;
        was = was;
        finds = subst (λ t. Finds (standing t) at_root (render_over o0 kids0)) (sym was) (found at_root (render_over o0 kids0) (subst AllDiffer (append-nil (render_numbers_of (render_over o0 kids0))) differ0));
        known = root_known h0 o0 kids0 last placed0.0 (subst (λ f. laid_of f ≡ Some last) root_is caused.shown) differ0;
        put = put0;
        flags = subst (RootFlagsAsked (asks_idly before)) root_is caused.flags;
        whole = λ j n at. node_stands old f0 j is0 (is_node (node_at old j) n at);
      } in
      let root0 : old.root ≡ Some h0 = (lone_root old.root h0 [] (ap (λ hs. option_to_list old.root ++ hs) (sym alone) ∙ is0.tops)).0 in
      let marked : Forest RenderObject = sweep paint_marks true synced.painted at_top (sweep layout_marks true synced.laid at_top (tree k v kids none)) in
      let marked_is : root_tree brought ≡ marked = root_brought ∙ ap (λ f. sweep paint_marks true synced.painted at_top (sweep layout_marks true synced.laid at_top f)) nodes_are in
      let marked_stands : Stands (node_at brought) None marked =
      subst (λ f. Stands (node_at brought) None (sweep paint_marks true synced.painted at_top (sweep layout_marks true synced.laid at_top f))) nodes_are (synced_is old brought top synced).stands in
      let relaid : IsRelaid marked g = relaid_forest brought laid out.rest None marked g marked_stands is1.stands refl in
      let same_nodes : SameNodes (tree k v kids none) g = relaid_nodes (tree k v kids none) marked g (swept_nodes synced.laid synced.painted at_top at_top (tree k v kids none)) relaid in
      let carried : AreCarried (object_at synced.made) (tree k v kids none) =
      carried_all old brought top synced synced.updates (tree k v kids none) (subst (IsUpdated redrawn (object_at synced.made) synced.updates) nodes_are synced.updated) in
      let differing = differs_root told_same look_same before last now_laid then now plugs old brought laid top synced changed h0 o0 kids0 is0.stands root0 was k v kids
      (root_alone old brought top synced k v kids nodes_are) (subst (Stands (node_at synced.committed) None) nodes_are synced.is.stands) carried in
      let left = subst (λ f. AreLeft (layout_nodes f) (layout_nodes g)) marked_is (subst (λ f. AreLeft (layout_nodes (root_tree brought)) (layout_nodes f)) laid_root out.left) in
      let quiet = quiet_from brought laid out.rest changed out.otherwise before last now_laid look_same then now plugs old None None marked g marked_stands is1.stands left in
      root_asked before last now_laid look_same then now plugs old brought laid changed synced.painted
      (by_handles old brought top synced laid out.rest before last now_laid look_same then now plugs changed alone kinds caused.frames out.otherwise) h0 o0 kids0 old_root k w under is1.stands
      (root_known k w under now_laid placed1.0 (subst (λ f. laid_of f ≡ Some now_laid) laid_root out.shown) differ1) put1.0 put1.1 (quiet.0 placed1.0)
      (flagged_from told_same look_same before last now_laid then now plugs old brought laid top synced changed h0 o0 kids0 is0.stands root0 was at_root true at_top (tree k v kids none) g carried same_nodes relaid)
      (asking_from told_same look_same before last now_laid then now plugs old brought laid top synced changed h0 o0 kids0 is0.stands root0 was at_root (tree k v kids none) g same_nodes differing)

  abbrev Asked : Forest RenderObject → Type 0
  Asked f = RootFlagsAsked (asks_paint before (record { before = Some last; now = now_laid })) f

  laid_handle : (k j : Handle) (v w : RenderObject) (kids under : Forest RenderObject) → synced.nodes ≡ tree k v kids none → Is laid (tree j w under none) → j ≡ k
  laid_handle k j v w kids under nodes_are is1 =
      let root_laid : laid.root ≡ Some j = (lone_root laid.root j [] (ap (λ hs. option_to_list laid.root ++ hs) (sym alone_laid) ∙ is1.tops)).0 in
      let root_old : brought.root ≡ Some synced.root = synced_root old brought top synced in
      same_Some (sym root_laid ∙ (out.rest.root ∙ root_old)) ∙ root_handle old brought top synced k v kids nodes_are

  more_than_one : (t : Tree RenderObject) (h k : Handle) (o v : RenderObject) (kids below_v rest : Forest RenderObject) → t.inactive ≡ [] → Is t (tree h o kids (tree k v below_v rest)) → ⊥
  more_than_one t h k o v kids below_v rest lone is = some_none (lone_root t.root h (k ∷ tops rest) (ap (λ hs. option_to_list t.root ++ hs) (sym lone) ∙ is.tops)).1
    where
      some_none : k ∷ tops rest ≡ [] → ⊥
      some_none e = cc

  by_laid : (h0 : Handle) (o0 : RenderObject) (kids0 : Forest RenderObject) → Is old (tree h0 o0 kids0 none) → root_tree old ≡ tree h0 o0 kids0 none → (k : Handle) (v : RenderObject) (kids : Forest RenderObject) → synced.nodes ≡ tree k v kids none
      → (g : Forest RenderObject) → Is laid g → root_tree laid ≡ g → Asked (sweep paint_marks true changed at_top g)
  by_laid h0 o0 kids0 is0 root_is k v kids nodes_are none is1 laid_root = tt
  by_laid h0 o0 kids0 is0 root_is k v kids nodes_are (tree j w under none) is1 laid_root =
      let handle : j ≡ k = laid_handle k j v w kids under nodes_are is1 in
      subst (λ x. Asked (sweep paint_marks true changed at_top (tree x w under none))) (sym handle)
      (with_roots h0 o0 kids0 is0 root_is k v kids nodes_are w under (subst (λ x. Is laid (tree x w under none)) handle is1) (laid_root ∙ ap (λ x. tree x w under none) handle))
  by_laid h0 o0 kids0 is0 root_is k v kids nodes_are (tree j w under (tree i x below_x rest)) is1 laid_root = absurd (more_than_one laid j i w x under below_x rest alone_laid is1)

  by_nodes : (h0 : Handle) (o0 : RenderObject) (kids0 : Forest RenderObject) → Is old (tree h0 o0 kids0 none) → root_tree old ≡ tree h0 o0 kids0 none → (f : Forest RenderObject) → synced.nodes ≡ f → renders_of f ≡ more_renders top no_renders
      → (g : Forest RenderObject) → Is laid g → root_tree laid ≡ g → Asked (sweep paint_marks true changed at_top g)
  by_nodes h0 o0 kids0 is0 root_is none nodes_are renders g is1 laid_root = absurd (cc)
  by_nodes h0 o0 kids0 is0 root_is (tree k v kids none) nodes_are renders g is1 laid_root = by_laid h0 o0 kids0 is0 root_is k v kids nodes_are g is1 laid_root
  by_nodes h0 o0 kids0 is0 root_is (tree k v kids (tree j x below_x rest)) nodes_are renders g is1 laid_root = absurd (two (render_over v kids) (render_over x below_x) (renders_of rest) renders)
    where
      two : (r s : Render) (rs : Renders) → more_renders r (more_renders s rs) ≡ more_renders top no_renders → ⊥
      two r s rs e = cc

  by_old : (f : Forest RenderObject) → Is old f → root_tree old ≡ f → Asked (sweep paint_marks true changed at_top is_laid.0)
  by_old none is0 root_is = absurd (subst IsPlaced root_is caused.placed)
  by_old (tree h0 o0 kids0 none) is0 root_is = by_nodes h0 o0 kids0 is0 root_is synced.nodes refl synced.renders is_laid.0 is_laid.1 (root_forest laid is_laid.0 alone_laid is_laid.1)
  by_old (tree h0 o0 kids0 (tree j x below_x rest)) is0 root_is = absurd (more_than_one old h0 j o0 x kids0 below_x rest alone is0)

  pub frame_asked : Asked (root_tree new)
  frame_asked =
      subst Asked (sym (root_forest new (sweep paint_marks true changed at_top is_laid.0) (marks.inactive ∙ alone_laid) (marks.plain is_laid.0 is_laid.1)))
      (by_old is_old.0 is_old.1 (root_forest old is_old.0 alone is_old.1))

  pub frame_painted : painted_count (root_flag (root_tree new)) (root_tree new) ≤ length (paint_region before (record { before = Some last; now = now_laid }) top)
  frame_painted = painted_nodes old brought top synced laid out.rest new changed before (record { before = Some last; now = now_laid }) is_laid alone_laid marks frame_asked
