-- The render nodes are those of the tree.
use Rattle.std.proofs.Common.{◌≡◌, ℕ, ap, sym, ◌∙◌, Option, Some, None, option_map, List, length, refl}
use Rattle.std.specs.Option.{option_to_list}
use Rattle.node_tree.specs.Tree.{Tree}
use Rattle.program_check.specs.Checked.{PlainChecked}
use Rattle.template_build.specs.Program.{declarations_of}
use Rattle.element_tree.specs.Element.{Element}
use Rattle.global_keys.specs.Holders.{Registry}
use Rattle.plain_tree.specs.declared.role.RenderRole.TheVariants.{Plain}
use Rattle.plain_tree.specs.PlainNode.{PlainNode, no_nodes, nodes_of as listed}
use Rattle.plain_tree.specs.Projection.{projected_all, render_of}
use Rattle.plain_tree.specs.Render.{no_renders, renders_of as renders_listed}
use Rattle.build_form.specs.WellBuilt.{IsWellBuilt}
use Rattle.layout_owner.specs.Roots.{top_render}
use Rattle.render_tree.specs.Object.{RenderObject}
use Rattle.render_tree.specs.Plain.{renders_of, root_tree}
use Rattle.screen_owner.proofs.Showing.{root_forest}
use Rattle.work_sets.specs.Work.{render_root}
use Rattle.build_owner.specs.Standing.{StandsFor}
use Rattle.frame_owner.specs.Nodes.{drawn_of}
use Rattle.frame_owner.proofs.Named.{none_beside}
use Rattle.frame_owner.proofs.Shown.{projects_one, root_renders}

nothing_drawn : renders_listed (projected_all Plain None no_nodes) ≡ no_renders
unfolding projected_all
nothing_drawn = refl

module _ (c : PlainChecked) (marks : List ℕ) (scrolled : ℕ → ℕ) (t : Tree Element) (r : Tree RenderObject) (g : Registry) where
  pub drawn_is : (old : Option PlainNode) → StandsFor c marks old scrolled t r g → renders_of (root_tree r) ≡ drawn_of old
  drawn_is old h = ap renders_of (root_forest r h.renders.objects (none_beside c marks old scrolled t r g h) h.renders.is) ∙ (h.renders.projected ∙ by_tree old)
    where
      by_tree : (o : Option PlainNode) → renders_listed (projected_all Plain None (listed (option_to_list o))) ≡ drawn_of o
      by_tree None = nothing_drawn
      by_tree (Some n) = projects_one n

  pub root_is : ((n : PlainNode) → IsWellBuilt (declarations_of c) n → length (render_of n) ≡ 1) → (old : Option PlainNode) → StandsFor c marks old scrolled t r g
      → option_map render_root old ≡ top_render (renders_of (root_tree r))
  root_is one None h = sym (ap top_render (drawn_is None h))
  root_is one (Some n) h = sym (ap top_render (root_renders c marks n scrolled t r g h (one n h.elements.well)))
