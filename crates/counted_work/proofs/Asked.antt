-- A root that needn't be laid out was asked in the view.
use Rattle.std.proofs.Common.{◌≡◌, Bool, true, false, ◌&&◌, ◌||◌, Option, Some, None, option_map, [], ◌++◌, refl, sym, ap, ◌∙◌, subst}
use Rattle.std.proofs.lemmas.Bool.{or_parts, true≢false}
use Rattle.std.specs.Option.{option_to_list}
use Rattle.fx_geom.specs.declared.shapes.Size.{Size}
use Rattle.fx_handles.specs.declared.Handle.{Handle}
use Rattle.fx_handles.specs.ArenaLaws.{same_Some}
use Rattle.node_tree.specs.Forest.{TreeNode, Forest, tops}
use Rattle.node_tree.specs.Forest.Forest.{none, tree}
use Rattle.node_tree.specs.Plan.{IsUpdated}
use Rattle.node_tree.specs.Tree.{Tree, Is, IsTree}
use Rattle.plain_tree.specs.Render.{Render, no_renders, more_renders}
use Rattle.tree_marks.specs.Marking.{at_top, within}
use Rattle.tree_marks.specs.Marks.{listed, some_climbs, sweep}
use Rattle.layout_owner.specs.Roots.{IsAskedAs}
use Rattle.layout_walk.specs.Node.{ask_in}
use Rattle.render_tree.specs.Marks.{layout_marks, paint_marks}
use Rattle.render_tree.specs.Object.{RenderObject}
use Rattle.render_tree.specs.Plain.{renders_of, root_tree}
use Rattle.render_tree.specs.Redraw.{redrawn}
use Rattle.render_tree.specs.Tree.{object_at}
use Rattle.render_sync.specs.Synced.{Synced}
use Rattle.screen_owner.proofs.Bringing.{synced_is, synced_rooted}
use Rattle.screen_owner.proofs.Showing.{root_forest}
use Rattle.counted_work.proofs.Synced.{carried_all, lone_root, made_node, root_handle}
use Rattle.counted_work.proofs.Twins.{IsCarried, AreCarried}

module _ (view : Size) (old new : Tree RenderObject) (top : Render) (synced : Synced old new top) where
  -- the root is where it was, unless it is listed
  same_root : (k : Handle) (w : RenderObject) (under : Forest RenderObject) → synced.nodes ≡ tree k w under none → listed k synced.laid ≡ false → old.root ≡ Some k
  same_root k w under e free =
      let here : synced.root ≡ k = root_handle old new top synced k w under e in
      sym synced.grows.root ∙ (synced.laid_anew.top (ap (λ h. listed h synced.laid) here ∙ free) ∙ ap (λ h. Some h) here)

  unflagged : (flag start : Bool) → (flag || (start && true)) ≡ false → (flag ≡ false) × (start ≡ false)
  unflagged true start e = absurd (true≢false e)
  unflagged false true e = absurd (true≢false e)
  unflagged false false e = (refl, refl)

  asked_root : (f : Forest RenderObject) → Is old f → old.inactive ≡ [] → IsAskedAs view f → (k : Handle) (w : RenderObject) (under : Forest RenderObject) → synced.nodes ≡ tree k w under none
      → IsCarried (object_at synced.made) k w → IsAskedAs view (sweep layout_marks true synced.laid at_top (tree k w under none))
  asked_root none is alone asks k w under e carried flag =
      let parts = unflagged w.needs_layout (listed k synced.laid || some_climbs layout_marks synced.laid (within layout_marks at_top w) under) flag in
      let root = same_root k w under e (or_parts (listed k synced.laid) (some_climbs layout_marks synced.laid (within layout_marks at_top w) under) parts.1).0 in
      absurd (no_root (old.root) root (ap (λ hs. option_to_list old.root ++ hs) (sym alone) ∙ is.tops))
    where
      no_root : (r : Option Handle) → r ≡ Some k → option_to_list r ++ [] ≡ [] → ⊥
      no_root None a b = cc
      no_root (Some r) a b = cc
  asked_root (tree h o kids rest) is alone asks k w under e carried flag =
      let parts = unflagged w.needs_layout (listed k synced.laid || some_climbs layout_marks synced.laid (within layout_marks at_top w) under) flag in
      let root = same_root k w under e (or_parts (listed k synced.laid) (some_climbs layout_marks synced.laid (within layout_marks at_top w) under) parts.1).0 in
      let handle : h ≡ k = same_Some (sym (lone_root old.root h (tops rest) (ap (λ hs. option_to_list old.root ++ hs) (sym alone) ∙ is.tops)).0 ∙ root) in
      let there = made_node old new top synced h (record { parent = None; children = tops kids; value = o }) is.stands.0 in
      let same : carried.stored ≡ o = same_Some (sym carried.is ∙ (ap (object_at synced.made) (sym handle) ∙ ap (option_map (λ (n : TreeNode RenderObject). n.value)) there)) in
      ap (λ fr. option_map ask_in fr) (carried.frame ∙ ap (λ (x : RenderObject). x.frame) same)
      ∙ asks (ap (λ (x : RenderObject). x.needs_layout) (sym same) ∙ (sym carried.flag ∙ parts.0))

  asked_painted : (g : Forest RenderObject) → IsAskedAs view g → IsAskedAs view (sweep paint_marks true synced.painted at_top g)
  asked_painted none asks = tt
  asked_painted (tree k w under rest) asks = asks

  asked_nodes : (f : Forest RenderObject) → Is old f → old.inactive ≡ [] → IsAskedAs view f → (g : Forest RenderObject) → synced.nodes ≡ g → renders_of g ≡ more_renders top no_renders → IsAskedAs view (sweep layout_marks true synced.laid at_top g)
  asked_nodes f is alone asks none e renders = tt
  asked_nodes f is alone asks (tree k w under none) e renders =
      let carried : AreCarried (object_at synced.made) (tree k w under none) =
      carried_all old new top synced synced.updates (tree k w under none) (subst (IsUpdated redrawn (object_at synced.made) synced.updates) e synced.updated) in
      asked_root f is alone asks k w under e carried.0
  asked_nodes f is alone asks (tree k w under (tree j v others rest)) e renders = absurd (cc)

  pub synced_asked : IsTree old → old.inactive ≡ [] → IsAskedAs view (root_tree old) → IsAskedAs view (root_tree new)
  synced_asked is alone asks =
      let swept : Forest RenderObject = sweep layout_marks true synced.laid at_top synced.nodes in
      subst (IsAskedAs view) (sym (root_forest new (sweep paint_marks true synced.painted at_top swept) (synced_rooted old new top synced).alone (synced_is old new top synced)))
      (asked_painted swept (asked_nodes is.0 is.1 alone (subst (IsAskedAs view) (root_forest old is.0 alone is.1) asks) synced.nodes refl synced.renders))
