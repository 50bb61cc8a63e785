-- Forests of render nodes, as a layout sees them.
use Rattle.std.proofs.Common.{◌≡◌, ap, refl, sym, subst, ◌∙◌, ℕ, ◌+◌, ◌≤◌, Option, Some, option_map, List, ◌∷◌, cond}
use Rattle.fx_handles.specs.declared.Handle.{Handle}
use Rattle.node_tree.specs.Forest.{TreeNode, Forest, tops, Stands, weigh}
use Rattle.node_tree.specs.Forest.Forest.{none, tree}
use Rattle.node_tree.specs.Tree.{Tree, StandsAt, node_at, parent_at}
use Rattle.plain_tree.specs.Render.{render, Renders, more_renders}
use Rattle.plain_tree.specs.Laid.{laid, Laids, more_laids}
use Rattle.render_tree.specs.Object.{RenderObject, object_look}
use Rattle.render_tree.specs.Plain.{lazy_children, renders_of, laids_of, facts_of, offset_or}
use Rattle.layout_walk.specs.Node.{renders_in}
use Rattle.layout_walk.specs.Full.{shown_trees}
use Rattle.layout_rules.specs.Nodes.{layout_node, layout_nodes, seen_node, SeenAt}

pub renders_seen : (f : Forest RenderObject) → renders_in (layout_nodes f) ≡ renders_of f
renders_seen none = refl
renders_seen (tree h o below rest) =
    ap (λ (rs : Renders). more_renders (render o.number (object_look o) o.parent_data o.scroll (lazy_children o) rs) (renders_in (layout_nodes rest))) (renders_seen below)
    ∙ ap (λ (rs : Renders). more_renders (render o.number (object_look o) o.parent_data o.scroll (lazy_children o) (renders_of below)) rs) (renders_seen rest)

abbrev shown_head : RenderObject → Laids → Laids → Laids
shown_head o below rest = cond {A = Laids} o.shown (more_laids (offset_or o.offset) (laid o.number (object_look o) (facts_of o) below) rest) rest

pub laids_seen : (f : Forest RenderObject) → shown_trees (layout_nodes f) ≡ laids_of f
unfolding shown_trees
laids_seen none = refl
laids_seen (tree h o below rest) =
    ap (λ (ls : Laids). shown_head o ls (shown_trees (layout_nodes rest))) (laids_seen below) ∙ ap (λ (ls : Laids). shown_head o (laids_of below) ls) (laids_seen rest)

pub tops_seen : (f : Forest RenderObject) → tops (layout_nodes f) ≡ tops f
tops_seen none = refl
tops_seen (tree h o below rest) = ap (λ (hs : List Handle). h ∷ hs) (tops_seen rest)

weigh_seen : (w : Handle → ℕ) (f : Forest RenderObject) → weigh w (layout_nodes f) ≡ weigh w f
weigh_seen w none = refl
weigh_seen w (tree h o below rest) = ap (λ (n : ℕ). w h + n + weigh w (layout_nodes rest)) (weigh_seen w below) ∙ ap (λ (n : ℕ). w h + weigh w below + n) (weigh_seen w rest)

stands_seen : (at : Handle → Option (TreeNode RenderObject)) (p : Option Handle) (f : Forest RenderObject) → Stands at p f → Stands (λ h. option_map seen_node (at h)) p (layout_nodes f)
stands_seen at p none stands = tt
stands_seen at p (tree h o below rest) stands = (
  ap (λ (n : Option (TreeNode RenderObject)). option_map seen_node n) stands.0
      ∙ ap (λ (hs : List Handle). Some (record { parent = p; children = hs; value = layout_node o })) (sym (tops_seen below)),
  stands_seen at (Some h) below stands.1,
  stands_seen at p rest stands.2,
)

pub stands_at : (t : Tree RenderObject) (h : Handle) (f : Forest RenderObject) → StandsAt t h f → SeenAt t h (layout_nodes f)
stands_at t h f stands = record {
  top = tops_seen f ∙ stands.top;
  stands = stands_seen (node_at t) (parent_at t h) f stands.stands;
  distinct = λ k. subst (λ (n : ℕ). n ≤ 1) (sym (weigh_seen _ f)) (stands.distinct k);
}
