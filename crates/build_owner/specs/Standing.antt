-- When elements, render nodes and a registry stand for the tree of the last frame.
use Rattle.std.specs.Prelude.{ℕ, ◌+◌, Option, List}
use Rattle.plain_tree.specs.PlainNode.{PlainNode}
use Rattle.program_check.specs.Checked.{PlainChecked}
use Rattle.element_tree.specs.Element.{Element, made_count}
use Rattle.global_keys.specs.Holders.{Registry, holder_of}
use Rattle.global_keys.specs.Named.{NamesExactly}
use Rattle.node_tree.specs.Tree.{Tree}
use Rattle.render_tree.specs.Object.{RenderObject}
use Rattle.build_walk.specs.Standing.{ElementsStandFor, RendersStandFor, pasts_from}
use Rattle.build_owner.specs.LastFrame.{LastFrame}

-- they stand for a plain tree, or for none, of which some numbers are marked
pub record StandsFor (c : PlainChecked) (marks : List ℕ) (old : Option PlainNode) (scrolled : ℕ → ℕ) (t : Tree Element) (r : Tree RenderObject) (g : Registry) : Type 0 where
  pub elements : ElementsStandFor c marks old scrolled t
  pub renders : RendersStandFor old scrolled elements.forest r
  -- the registry names exactly those with global keys
  pub names : NamesExactly g t

-- they stand for some tree
pub record Beginning (c : PlainChecked) (t : Tree Element) (r : Tree RenderObject) (g : Registry) : Type 0 where
  pub marks : List ℕ
  pub old : Option PlainNode
  pub scrolled : ℕ → ℕ
  pub stands : StandsFor c marks old scrolled t r g

-- the number that the next new node gets
abbrev pub next_at : Tree Element → ℕ
next_at t = made_count t + 1

-- the last frame, as the walk takes it
abbrev pub frame_of : (c : PlainChecked) (t : Tree Element) (r : Tree RenderObject) (g : Registry) → Beginning c t r g → LastFrame
frame_of c t r g b = record {
  elements = t;
  renders = r;
  scrolled = b.scrolled;
  pasts = pasts_from c b.stands.elements.forest;
  holders = λ k. holder_of g k;
}
