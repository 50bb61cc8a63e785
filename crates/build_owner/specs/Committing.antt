-- When the plans of a walk can become the trees.
use Rattle.std.specs.Prelude.{◌≡◌, ℕ, None, [], ◌∷◌}
use Rattle.fx_handles.specs.declared.Handle.{Handle}
use Rattle.node_tree.specs.Forest.{Forest, tops}
use Rattle.node_tree.specs.Forest.Forest.{none, tree}
use Rattle.node_tree.specs.Plan.{planned, entries}
use Rattle.node_tree.specs.Tree.{Tree}
use Rattle.plain_tree.specs.At.{numbers_in}
use Rattle.plain_tree.specs.Laws.{AllDiffer}
use Rattle.plain_tree.specs.PlainNode.{nodes_of as listed}
use Rattle.plain_tree.specs.declared.role.RenderRole.TheVariants.{Plain}
use Rattle.element_tree.specs.Element.{Element, element_at}
use Rattle.element_tree.specs.Nodes.{nodes_of}
use Rattle.global_keys.specs.Holders.{Registry}
use Rattle.global_keys.specs.Named.{NamesAmong}
use Rattle.render_tree.specs.Object.{RenderObject}
use Rattle.render_tree.specs.Redraw.{Redraw}
use Rattle.render_tree.specs.Tree.{object_at}
use Rattle.build_walk.specs.Merging.{lists_redraw, AreBare}
use Rattle.build_walk.specs.Renewing.{renewals, AllGoOn, drawn, AreDrawn}
use Rattle.build_owner.specs.declared.walk.BuildWalk.{BuildWalk}
use Rattle.build_owner.specs.Redrawn.{IsPlanOf}

-- they are those of one tree of elements with this root, each of which goes on from what is there, and has its render node; no number
-- stands twice in it; it has one render node at its top; and the registry names those of its elements with global keys
pub record CanCommit (t : Tree Element) (r : Tree RenderObject) (g : Registry) (walk : BuildWalk) (root : Handle) : Type 0 where
  pub scrolled : ℕ → ℕ
  pub value : Element
  pub kids : Forest Element
  pub elements : walk.elements.items ≡ entries None (renewals (tree root value kids none))
  pub renders : walk.renders.items ≡ entries None (drawn Plain None (tree root value kids none))
  pub go : AllGoOn (element_at t) (tree root value kids none)
  pub drawn_is : AreDrawn (object_at r) scrolled (tree root value kids none)
  pub differ : AllDiffer (numbers_in (listed (nodes_of scrolled (tree root value kids none))))
  pub top : Handle
  pub tops_are : walk.tops.items ≡ top ∷ []
  pub one_top : tops (drawn Plain None (tree root value kids none)) ≡ top ∷ []
  pub names : NamesAmong g t (planned walk.elements.items)

-- the part that is for render nodes, in which nothing is below lazy lists yet
pub record CanDraw (r : Tree RenderObject) (walk : BuildWalk) (d : Forest Redraw) : Type 0 where
  pub top : Handle
  pub tops_are : walk.tops.items ≡ top ∷ []
  pub planned_as : IsPlanOf r top walk.renders.items d
  pub bare : AreBare lists_redraw d

-- the tree, and its render nodes
abbrev pub whole_tree : {t : Tree Element} {r : Tree RenderObject} {g : Registry} {walk : BuildWalk} {root : Handle} → CanCommit t r g walk root → Forest Element
whole_tree {t} {r} {g} {walk} {root} p = tree root p.value p.kids none

abbrev pub whole_drawn : {t : Tree Element} {r : Tree RenderObject} {g : Registry} {walk : BuildWalk} {root : Handle} → CanCommit t r g walk root → Forest Redraw
whole_drawn p = drawn Plain None (whole_tree p)
