-- Render nodes that are the projection of a tree.
use Rattle.std.specs.Prelude.{◌≡◌, Option, None, option_map}
use Rattle.std.specs.Option.{option_to_list}
use Rattle.fx_handles.specs.declared.Handle.{Handle}
use Rattle.node_tree.specs.Forest.{Forest, tops}
use Rattle.node_tree.specs.Tree.{Tree, Is}
use Rattle.plain_tree.specs.declared.role.RenderRole.TheVariants.{Plain}
use Rattle.plain_tree.specs.PlainNode.{PlainNode, nodes_of as listed}
use Rattle.plain_tree.specs.Projection.{projected_all}
use Rattle.plain_tree.specs.Render.{renders_of as renders_listed}
use Rattle.render_tree.specs.Object.{RenderObject}
use Rattle.render_tree.specs.Plain.{renders_of}
use Rattle.render_tree.specs.Tree.{object_at}

-- they are those of the tree, or of none, and nothing else is there
pub record HasProjection (old : Option PlainNode) (r : Tree RenderObject) : Type 0 where
  pub objects : Forest RenderObject
  pub is : Is r objects
  pub root : option_to_list r.root ≡ tops objects
  pub projected : renders_of objects ≡ renders_listed (projected_all Plain None (listed (option_to_list old)))

-- the same handles are live, each with its number
abbrev pub KeepsNumbers : Tree RenderObject → Tree RenderObject → Type 0
KeepsNumbers r s = (k : Handle) → option_map (λ (o : RenderObject). o.number) (object_at s k) ≡ option_map (λ (o : RenderObject). o.number) (object_at r k)
