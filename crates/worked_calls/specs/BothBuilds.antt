-- What two builds leave, one of them over elements and render nodes: they are of one tree.
use Rattle.std.specs.Prelude.{◌≡◌, ℕ, Option, List}
use Rattle.std.specs.declared.alloc.Global.{Global}
use Rattle.std.specs.declared.rc.Rc.{Rc}
use Rattle.widget_model.specs.Sized.{IsSized}
use Rattle.widget_model.specs.Typed.{IsTypedWidget}
use Rattle.widget_model.specs.View.{shared}
use Rattle.widget_model.specs.declared.widgets.Widget.{Widget}
use Rattle.template_build.specs.Program.{declarations_of}
use Rattle.node_tree.specs.Tree.{Tree}
use Rattle.plain_tree.specs.PlainNode.{PlainNode}
use Rattle.program_check.specs.Checked.{PlainChecked}
use Rattle.element_tree.specs.Element.{Element}
use Rattle.global_keys.specs.Holders.{Registry}
use Rattle.render_tree.specs.Object.{RenderObject}
use Rattle.build_owner.specs.Standing.{StandsFor, next_at}

-- elements, render nodes and a registry stand for this tree, or for none, and both go on with this number and this root
pub record AreOfOneTree (c : PlainChecked) (root : Rc Widget Global) (plain : Option PlainNode) (next : ℕ) (t : Tree Element) (r : Tree RenderObject) (g : Registry) : Type 0 where
  pub marks : List ℕ
  pub scrolled : ℕ → ℕ
  pub stands : StandsFor c marks plain scrolled t r g
  pub next_is : next ≡ next_at t
  -- the next root
  pub typed : IsTypedWidget (declarations_of c) (shared root)
  pub sized : IsSized root.value
