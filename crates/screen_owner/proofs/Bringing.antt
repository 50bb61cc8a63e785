-- What a tree is that was brought to the render nodes of a build.
use Rattle.std.proofs.Common.{◌≡◌, ap, refl, sym, subst, ◌∙◌, Bool, true, ◌||◌, IsSome, Option, Some, None, option_map, List, [], ◌++◌, inl, inr}
use Rattle.std.proofs.lemmas.Bool.{false≢true}
use Rattle.std.specs.Option.{option_to_list}
use Rattle.fx_handles.specs.declared.Handle.{Handle}
use Rattle.fx_handles.specs.Handle.{same}
use Rattle.fx_handles.specs.HandleLaws.{same-true}
use Rattle.fx_handles.specs.ArenaLaws.{same_Some}
use Rattle.node_tree.specs.Forest.{TreeNode, Forest, Stands}
use Rattle.node_tree.specs.Forest.Forest.{none, tree}
use Rattle.node_tree.specs.Plan.{IsUpdated}
use Rattle.node_tree.specs.Tree.{Tree, Is, node_at}
use Rattle.node_tree.proofs.TreeLemmas.{is_node}
use Rattle.plain_tree.specs.Render.{Render, render, Renders, no_renders, more_renders}
use Rattle.tree_marks.specs.Marking.{Above, at_top, within}
use Rattle.tree_marks.specs.Marks.{has_node, sweep}
use Rattle.tree_marks.proofs.Closing.{either}
use Rattle.tree_marks.proofs.MarkSteps.{node_stands}
use Rattle.render_tree.specs.Marks.{layout_marks, paint_marks}
use Rattle.render_tree.specs.Object.{RenderObject, object_look}
use Rattle.render_tree.specs.Plain.{lazy_children, renders_of, root_tree}
use Rattle.render_tree.specs.Redraw.{Redraw, redrawn}
use Rattle.render_tree.specs.Tree.{object_at}
use Rattle.render_sync.specs.Synced.{Synced}
use Rattle.kept_layers.specs.Committed.{CommitsListed}
use Rattle.kept_layers.specs.Group.{is_boundary}
use Rattle.screen_owner.specs.Changes.{AreKindsSo, AllKindsSo}
use Rattle.screen_owner.proofs.Showing.{one_handle, root_forest}

-- ---- marks are no part of a render node

pub renders_layout : (also : Bool) (hs : List Handle) (p : Above) (f : Forest RenderObject) → renders_of (sweep layout_marks also hs p f) ≡ renders_of f
renders_layout also hs p none = refl
renders_layout also hs p (tree k o kids rest) =
    ap (λ (rs : Renders). more_renders (render o.number (object_look o) o.parent_data o.scroll (lazy_children o) rs) (renders_of (sweep layout_marks also hs p rest))) (renders_layout also hs (within layout_marks p o) kids)
    ∙ ap (λ (rs : Renders). more_renders (render o.number (object_look o) o.parent_data o.scroll (lazy_children o) (renders_of kids)) rs) (renders_layout also hs p rest)

pub renders_paint : (also : Bool) (hs : List Handle) (p : Above) (f : Forest RenderObject) → renders_of (sweep paint_marks also hs p f) ≡ renders_of f
renders_paint also hs p none = refl
renders_paint also hs p (tree k o kids rest) =
    ap (λ (rs : Renders). more_renders (render o.number (object_look o) o.parent_data o.scroll (lazy_children o) rs) (renders_of (sweep paint_marks also hs p rest))) (renders_paint also hs (within paint_marks p o) kids)
    ∙ ap (λ (rs : Renders). more_renders (render o.number (object_look o) o.parent_data o.scroll (lazy_children o) (renders_of kids)) rs) (renders_paint also hs p rest)

-- ---- a tree with a root and no node beside its tree

pub record Rooted (t : Tree RenderObject) : Type 0 where
  pub handle : Handle
  pub value : RenderObject
  pub kids : Forest RenderObject
  pub is : Is t (tree handle value kids none)
  pub at_root : t.root ≡ Some handle
  pub alone : t.inactive ≡ []

-- a forest of one render node is one tree
one_tree : (f : Forest RenderObject) (top : Render) → renders_of f ≡ more_renders top no_renders → (h : Handle) × (o : RenderObject) × (kids : Forest RenderObject) × (f ≡ tree h o kids none)
one_tree none top e = absurd (cc)
one_tree (tree h o kids none) top e = (h, o, kids, refl)
one_tree (tree h o kids (tree k v below rest)) top e = absurd (cc)

rooted_by : (t : Tree RenderObject) (root : Handle) → t.root ≡ Some root → (f : Forest RenderObject) (top : Render) → Is t f → renders_of f ≡ more_renders top no_renders → Rooted t
rooted_by t root at f top is renders =
    let one = one_tree f top renders in
    let whole : Is t (tree one.0 one.1 one.2 none) = subst (Is t) one.3 is in
    let heads = one_handle one.0 root t.inactive (sym whole.tops ∙ ap (λ (o : Option Handle). option_to_list o ++ t.inactive) at) in
    record { handle = one.0; value = one.1; kids = one.2; is = whole; at_root = at ∙ ap (λ (x : Handle). Some x) (sym heads.0); alone = heads.1 }

module _ (old new : Tree RenderObject) (top : Render) (synced : Synced old new top) where
  -- the forest that was brought, with its marks
  abbrev laid_forest : Forest RenderObject
  laid_forest = sweep layout_marks true synced.laid at_top synced.nodes

  pub laid_is : Is synced.laid_marked (sweep layout_marks true synced.laid at_top synced.nodes)
  laid_is = synced.layouts.plain synced.nodes synced.is

  abbrev new_forest : Forest RenderObject
  new_forest = sweep paint_marks true synced.painted at_top laid_forest

  new_is : Is new new_forest
  new_is = synced.paints.plain laid_forest laid_is

  pub synced_renders : renders_of (sweep paint_marks true synced.painted at_top (sweep layout_marks true synced.laid at_top synced.nodes)) ≡ more_renders top no_renders
  synced_renders = renders_paint true synced.painted at_top laid_forest ∙ (renders_layout true synced.laid at_top synced.nodes ∙ synced.renders)

  pub synced_is : Is new (sweep paint_marks true synced.painted at_top (sweep layout_marks true synced.laid at_top synced.nodes))
  synced_is = new_is

  pub synced_root : new.root ≡ Some synced.root
  synced_root = synced.paints.root ∙ (synced.layouts.root ∙ synced.at_root)

  pub synced_rooted : Rooted new
  synced_rooted = rooted_by new synced.root synced_root new_forest top new_is synced_renders

  pub brought_renders : renders_of (root_tree new) ≡ more_renders top no_renders
  brought_renders = ap renders_of (root_forest new new_forest synced_rooted.alone new_is) ∙ synced_renders

  -- ---- kinds

  value_in : (f : Forest RenderObject) (g : Forest Redraw) → IsUpdated redrawn (object_at synced.made) g f → AllKindsSo old (renders_of f) → (at : Handle → Option (TreeNode RenderObject)) (q : Option Handle) → Stands at q f
      → (k : Handle) (o : RenderObject) (n : TreeNode RenderObject) → object_at old k ≡ Some o → object_at synced.made k ≡ Some o → at k ≡ Some n → has_node k f ≡ true → is_boundary n.value ≡ is_boundary o
  value_in none g updated kinds at q stands k o n was made is there = absurd (false≢true there)
  value_in (tree h v kids rest) none updated kinds at q stands k o n was made is there = absurd updated
  value_in (tree h v kids rest) (tree j u below more) updated kinds at q stands k o n was made is there = elim (either (same h k) (has_node k kids || has_node k rest) there) [
    | inl s ↦
        let here : h ≡ k = same-true h k s in
        let value : n.value ≡ v = ap (λ (x : TreeNode RenderObject). x.value) (same_Some (sym is ∙ (ap at (sym here) ∙ stands.0))) in
        let drawn : redrawn u o ≡ v = same_Some (sym (ap (option_map (redrawn u)) (ap (object_at synced.made) (updated.0 ∙ here) ∙ made)) ∙ updated.1) in
        ap is_boundary value ∙ kinds.0.0 k o was (ap (λ (x : RenderObject). x.number) drawn)
    | inr more_there ↦ elim (either (has_node k kids) (has_node k rest) more_there) [
      | inl b ↦ value_in kids below updated.2 kinds.0.1 at (Some h) stands.1 k o n was made is b
      | inr b ↦ value_in rest more updated.3 kinds.1 at q stands.2 k o n was made is b
    ]
  ]

  pub made_at : (k : Handle) (o : RenderObject) → object_at old k ≡ Some o → object_at synced.made k ≡ Some o
  made_at k o was = ap (option_map (λ (n : TreeNode RenderObject). n.value)) (synced.grows.keeps k (live (node_at old k) was)) ∙ was
    where
      live : (x : Option (TreeNode RenderObject)) → option_map (λ (n : TreeNode RenderObject). n.value) x ≡ Some o → IsSome x
      live None e = absurd (cc)
      live (Some n) e = refl

  kind_at : AreKindsSo old top → (k : Handle) (o v : RenderObject) → object_at old k ≡ Some o → object_at synced.laid_marked k ≡ Some v → is_boundary v ≡ is_boundary o
  kind_at kinds k o v was is = by_node (node_at synced.committed k) refl
    where
      all : AllKindsSo old (renders_of synced.nodes)
      all = subst (AllKindsSo old) (sym synced.renders) (kinds, tt)

      by_node : (x : Option (TreeNode RenderObject)) → node_at synced.committed k ≡ x → is_boundary v ≡ is_boundary o
      by_node None e = absurd (let gone = sym is ∙ ap (option_map (λ (n : TreeNode RenderObject). n.value)) (synced.layouts.absent k e) in some_none v gone)
        where
          some_none : (v : RenderObject) → Some v ≡ None → ⊥
          some_none v e = cc
      by_node (Some n) e =
          let marked = synced.layouts.only k n e in
          let value : v ≡ layout_marks.marked marked.0 marked.1 n.value = same_Some (sym is ∙ ap (option_map (λ (x : TreeNode RenderObject). x.value)) marked.2) in
          ap is_boundary value
          ∙ value_in synced.nodes synced.updates synced.updated all (node_at synced.committed) None synced.is.stands k o n was (made_at k o was) e
          (node_stands synced.committed synced.nodes k synced.is (is_node (node_at synced.committed k) n e))

  pub commits_listed : old.inactive ≡ [] → AreKindsSo old top → CommitsListed synced.painted old synced.laid_marked
  commits_listed whole kinds = record {
    whole = whole;
    made = synced.made;
    keeps = synced.grows.keeps;
    fresh = λ k n was is. let x = synced.grows.fresh k n was is in (ap (λ (y : TreeNode RenderObject). y.value.needs_paint) x.2, ap (λ (y : TreeNode RenderObject). y.value.paint_below) x.2);
    same_root = synced.grows.root;
    plan = synced.plan;
    root = synced.root;
    committed = synced.committed;
    commits = synced.commits;
    at_root = synced.at_root;
    is = (synced.nodes, synced.is);
    painted_anew = synced.painted_anew;
    laid = synced.laid;
    layouts = synced.layouts;
    kinds = kind_at kinds;
  }
