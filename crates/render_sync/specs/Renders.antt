-- The render nodes of a build, beside those of a tree.
use Rattle.std.specs.Prelude.{◌≡◌, ℕ, Some, List, [], ◌∷◌, Option}
use Rattle.fx_handles.specs.declared.Handle.{Handle}
use Rattle.node_tree.specs.Forest.{Forest}
use Rattle.node_tree.specs.Forest.Forest.{none, tree}
use Rattle.node_tree.specs.Tree.{Tree}
use Rattle.widget_model.specs.Look.{Look}
use Rattle.widget_model.specs.Plain.{look_of, children_of}
use Rattle.plain_tree.specs.declared.render.ParentData.{ParentData}
use Rattle.plain_tree.specs.Render.{Render, render, Renders, no_renders, more_renders, list_of, lazy_count}
use Rattle.plain_tree.specs.RenderRole.{render_role_of}
use Rattle.render_tree.specs.Object.{RenderObject}
use Rattle.render_tree.specs.Redraw.{Redraw}
use Rattle.render_tree.specs.Tree.{object_at}
use Rattle.render_sync.specs.Numbering.{number_at}

-- a render node is scrolled as the node of the tree with its number is, and not at all where there is none
pub record IsScrolledSo (t : Tree RenderObject) (number scroll : ℕ) : Type 0 where
  pub was : (h : Handle) (o : RenderObject) → object_at t h ≡ Some o → o.number ≡ number → o.scroll ≡ scroll
  pub new : ((h : Handle) → number_at t h ≡ Some number → ⊥) → scroll ≡ 0

abbrev mutual
  pub AreScrolledSo : Tree RenderObject → Render → Type 0
  AreScrolledSo t (render number look told scroll count children) = IsScrolledSo t number scroll × AllScrolledSo t children

  pub AllScrolledSo : Tree RenderObject → Renders → Type 0
  AllScrolledSo t no_renders = Unit {0}
  AllScrolledSo t (more_renders r rs) = AreScrolledSo t r × AllScrolledSo t rs

-- this holds of the number of each render node
abbrev mutual
  pub EachNumber : (ℕ → Type 0) → Render → Type 0
  EachNumber P (render number look told scroll count children) = P number × AllNumbers P children

  pub AllNumbers : (ℕ → Type 0) → Renders → Type 0
  AllNumbers P no_renders = Unit {0}
  AllNumbers P (more_renders r rs) = EachNumber P r × AllNumbers P rs

-- what a plan says of a node at a handle is a render node with a number, its kind, what it was told, and how many child widgets a
-- SliverLazy has
pub record Draws (find : ℕ → Option Handle) (h : Handle) (u : Redraw) (number : ℕ) (look : Look) (told : ParentData) (count : ℕ) : Type 0 where
  pub found : find number ≡ Some h
  pub look_is : look_of u.widget ≡ look
  pub told_is : u.parent_data ≡ told
  pub count_is : lazy_count (render_role_of look) (children_of u.widget) ≡ count

-- a plan's forest is these render nodes, each at the handle that its number has
abbrev pub AreDrawn : (ℕ → Option Handle) → Forest Redraw → List Render → Type 0
AreDrawn find none [] = Unit {0}
AreDrawn find none (r ∷ rs) = ⊥
AreDrawn find (tree h u kids rest) [] = ⊥
AreDrawn find (tree h u kids rest) (render number look told scroll count children ∷ rs) =
    Draws find h u number look told count × AreDrawn find kids (list_of children) × AreDrawn find rest rs
