-- How the lazy lists of the first phase are laid out: Viewports stay scrolled as they are.
use Rattle.std.specs.Prelude.{◌≡◌, ◌⊎◌, ◌≤◌, ℕ, true, false, if◌then◌else◌, Some, option_map, List, [], ◌∷◌, ◌++◌}
use Rattle.fx_handles.specs.declared.Handle.{Handle}
use Rattle.fx_handles.specs.Handle.{Among}
use Rattle.fx_geom.specs.declared.shapes.Size.{Size}
use Rattle.node_tree.specs.Edits.{KeepsHandles}
use Rattle.node_tree.specs.Forest.{TreeNode, Forest, In, map_values}
use Rattle.node_tree.specs.Forest.Forest.{none, tree}
use Rattle.node_tree.specs.Tree.{Tree, Is, IsTree, node_at}
use Rattle.plain_tree.specs.Render.{Render}
use Rattle.tree_marks.specs.Marking.{at_top}
use Rattle.tree_marks.specs.Marks.{listed, has_listed, sweep}
use Rattle.layout_form.specs.Layout.{lay_view}
use Rattle.layout_form.specs.Live.{lazy_view_at, live_in}
use Rattle.layout_form.specs.Object.{Setting}
use Rattle.layout_walk.specs.Node.{LayoutNode}
use Rattle.layout_walk.specs.Here.{AreQuiet, outer_back}
use Rattle.layout_walk.specs.Rules.{parts_of, is_list, lazy_extent}
use Rattle.layout_walk.specs.Walk.{HeldOr, AreCorrected}
use Rattle.layout_rules.specs.Nodes.{layout_nodes, seen_at}
use Rattle.layout_rules.specs.Plugs.{KeepsPlugs}
use Rattle.kept_layouts.specs.Items.{without_items}
use Rattle.layout_owner.specs.Outer.{PaintsThenRanges}
use Rattle.layout_owner.specs.Roots.{Good, view_asks, IsPlaced}
use Rattle.layout_owner.specs.Undue.{RootUndue, RootAsked}
use Rattle.layout_owner.specs.Views.{live_or_nothing}
use Rattle.render_tree.specs.Marks.{layout_marks}
use Rattle.render_tree.specs.Object.{RenderObject, object_look, is_viewport}
use Rattle.render_tree.specs.Plain.{lazy_children, root_tree}
use Rattle.render_tree.specs.Tree.{object_at}

-- the Viewports of a tree, and how far each is scrolled
abbrev pub viewports : Forest RenderObject → List (Handle × ℕ)
viewports none = []
viewports (tree h o below rest) = (if is_viewport o then (h, o.scroll) ∷ [] else []) ++ (viewports below ++ viewports rest)

-- a node without its offset and its marks for layout
abbrev pub unscrolled : TreeNode RenderObject → TreeNode RenderObject
unscrolled n = record n { value = record n.value { scroll = 0; needs_layout = false; layout_below = false } }

-- nothing but offsets and marks for layout is changed
pub record ButOffsets (old new : Tree RenderObject) : Type 0 where
  pub nodes : (k : Handle) → option_map unscrolled (node_at new k) ≡ option_map unscrolled (node_at old k)
  pub root : new.root ≡ old.root
  pub inactive : new.inactive ≡ old.inactive
  pub handles : KeepsHandles old.nodes new.nodes

-- each of these is scrolled as wanted
abbrev pub AreWanted : (Handle → ℕ) → List (Handle × ℕ) → Type 0
AreWanted wanted [] = Unit {0}
AreWanted wanted (p ∷ ps) = (wanted p.0 ≡ p.1) × AreWanted wanted ps

-- each node is scrolled as wanted, but for Viewports of a list
abbrev pub Pending : (Handle → ℕ) → List Handle → Tree RenderObject → Type 0
Pending wanted hs t = (k : Handle) (o : RenderObject) → object_at t k ≡ Some o → (o.scroll ≡ wanted k) ⊎ (is_viewport o ≡ true) × Among k hs

-- every node is there, with its number, its widget, and scrolled as it was; no other comes or goes
pub record StaysBuilt (old new : Tree RenderObject) : Type 0 where
  pub drawn : (k : Handle) (o : RenderObject) → object_at old k ≡ Some o → (w : RenderObject) × (object_at new k ≡ Some w) × (w.number ≡ o.number) × (w.scroll ≡ o.scroll)
  pub widgets : (k : Handle) → option_map (λ (o : RenderObject). o.widget) (object_at new k) ≡ option_map (λ (o : RenderObject). o.widget) (object_at old k)
  pub root : new.root ≡ old.root
  pub inactive : new.inactive ≡ old.inactive
  pub handles : KeepsHandles old.nodes new.nodes

-- each lazy list whose items have an extent has the live range that full layout of these render nodes without items gives to its number
abbrev pub HasRanges : Setting → ℕ → Size → Render → Tree RenderObject → Type 0
HasRanges s widen view top t = (k : Handle) (o : RenderObject) (extent : ℕ) → object_at t k ≡ Some o → lazy_extent (object_look o) ≡ Some extent → 1 ≤ extent
    → live_or_nothing o.live ≡ live_in (lazy_view_at o.number (lay_view s (without_items top) view)) extent (lazy_children o) widen

-- nodes that are scrolled so, and as they were else
abbrev pub scrolled_as : (Handle → ℕ) → Forest RenderObject → Forest RenderObject
scrolled_as scrolls f = map_values (λ k (o : RenderObject). record o { scroll = scrolls k }) f

-- some nodes that weren't scrolled as wanted are, and are marked for layout; all others are scrolled as they were or as wanted, and but
-- for how they are scrolled nothing else is changed
pub record PutsBack (wanted : Handle → ℕ) (old new : Tree RenderObject) : Type 0 where
  pub corrected : List Handle
  pub otherwise : (k : Handle) (o : RenderObject) → listed k corrected ≡ true → object_at old k ≡ Some o → o.scroll ≡ wanted k → ⊥
  pub kept : (k : Handle) (o : RenderObject) → object_at old k ≡ Some o → (w : RenderObject) × (object_at new k ≡ Some w) × ((w.scroll ≡ o.scroll) ⊎ (w.scroll ≡ wanted k))
  pub plain : (f : Forest RenderObject) → Is old f → (g : Forest RenderObject) × Is new g × (scrolled_as wanted g ≡ scrolled_as wanted (sweep layout_marks true corrected at_top f))

-- the listed nodes are no items of lazy lists, and each of them is scrolled otherwise
abbrev pub AreScrolledOtherwise : List Handle → Forest LayoutNode → Forest LayoutNode → Type 0
AreScrolledOtherwise hs none none = Unit {0}
AreScrolledOtherwise hs none (tree k w below rest) = ⊥
AreScrolledOtherwise hs (tree h v kids more) none = ⊥
AreScrolledOtherwise hs (tree h v kids more) (tree k w below rest) =
    (listed k hs ≡ true → w.scroll ≡ v.scroll → ⊥) × HeldOr (is_list w.look) (has_listed hs below ≡ false) (AreScrolledOtherwise hs kids below) × AreScrolledOtherwise hs more rest

-- An outer flush does nothing to what isn't due, full layout sees nothing else of it but offsets that it corrects, and in the window only
-- lists may have to be laid out afterwards, with what is below them. Of the Viewports each one that it scrolled otherwise, none of which is
-- below a list, is put back and marked, and nothing else is changed then.
pub record FlushesLists (s : Setting) (view : Size) (old new : Tree RenderObject) : Type 0 where
  pub flushed : Tree RenderObject
  pub tree : IsTree flushed
  pub paints : PaintsThenRanges old flushed
  pub plugs : KeepsPlugs s.delegates old flushed
  pub undue : RootUndue view (layout_nodes (root_tree old)) (layout_nodes (root_tree flushed))
  pub asked : RootAsked view (layout_nodes (root_tree flushed))
  pub placed : IsPlaced (root_tree flushed)
  pub good : Good s (root_tree flushed)
  pub held : AreQuiet (parts_of s) (outer_back (parts_of s)) (layout_nodes (root_tree flushed))
  pub stays : AreCorrected (parts_of s) (outer_back (parts_of s)) (view_asks view) (layout_nodes (root_tree old)) (layout_nodes (root_tree flushed))
  pub others : (k : Handle) → (In k (root_tree old) → ⊥) → seen_at flushed k ≡ seen_at old k
  pub scrolls : Handle → ℕ
  pub were : (k : Handle) (o : RenderObject) → object_at old k ≡ Some o → scrolls k ≡ o.scroll
  pub corrected : List Handle
  pub otherwise : (k : Handle) (w : RenderObject) → listed k corrected ≡ true → object_at flushed k ≡ Some w → w.scroll ≡ scrolls k → ⊥
  pub outer : AreScrolledOtherwise corrected (layout_nodes (root_tree old)) (layout_nodes (root_tree flushed))
  pub plain : (f : Forest RenderObject) → Is flushed f → Is new (scrolled_as scrolls (sweep layout_marks true corrected at_top f))
