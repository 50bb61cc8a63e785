-- What the laws of this crate say.
use Rattle.std.specs.Prelude.{◌≡◌, ◌≢◌, ℕ, Bool, true, false, List, [], ◌∷◌, ◌++◌, ◌⊎◌}
use Rattle.widget_model.specs.Plain.{look_of}
use Rattle.plain_tree.specs.PlainNode.{PlainNode, node, PlainNodes, no_nodes, more_nodes}
use Rattle.plain_tree.specs.RenderRole.{render_role_of, vanishes}
use Rattle.plain_tree.specs.Render.{Render, render, Renders, no_renders, more_renders}
use Rattle.plain_tree.specs.Laid.{Laid, laid, Laids, no_laids, more_laids}

-- the numbers of render nodes in preorder
abbrev mutual
  pub render_numbers_of : Render → List ℕ
  render_numbers_of (render number look parent_data scroll count children) = number ∷ render_numbers_in children

  pub render_numbers_in : Renders → List ℕ
  render_numbers_in no_renders = []
  render_numbers_in (more_renders r rs) = render_numbers_of r ++ render_numbers_in rs

-- the numbers of laid nodes in preorder
abbrev mutual
  pub laid_numbers_of : Laid → List ℕ
  laid_numbers_of (laid number look facts children) = number ∷ laid_numbers_in children

  pub laid_numbers_in : Laids → List ℕ
  laid_numbers_in no_laids = []
  laid_numbers_in (more_laids at l ls) = laid_numbers_of l ++ laid_numbers_in ls

-- a list is another one with some of its items left out
abbrev pub IsLeftOf : List ℕ → List ℕ → Type 0
IsLeftOf xs [] = xs ≡ []
IsLeftOf xs (y ∷ ys) = IsLeftOf xs ys ⊎ ((rest : List ℕ) × (xs ≡ y ∷ rest) × IsLeftOf rest ys)

-- a number differs from all of a list, and all of a list differ
abbrev pub DiffersFrom : ℕ → List ℕ → Type 0
DiffersFrom x [] = Unit {0}
DiffersFrom x (y ∷ ys) = (x ≢ y) × DiffersFrom x ys

abbrev pub AllDiffer : List ℕ → Type 0
AllDiffer [] = Unit {0}
AllDiffer (x ∷ xs) = DiffersFrom x xs × AllDiffer xs

-- one child, and no other number of them
abbrev pub IsOne : PlainNodes → Type 0
IsOne no_nodes = ⊥
IsOne (more_nodes n no_nodes) = Unit {0}
IsOne (more_nodes n (more_nodes m ns)) = ⊥

-- one child, where a node has no render node
abbrev pub OneWhere : Bool → PlainNodes → Type 0
OneWhere true children = IsOne children
OneWhere false children = Unit {0}

-- each node that has no render node has one child
abbrev mutual
  pub VanishAlone : PlainNode → Type 0
  VanishAlone (node number widget fields scroll index children) =
      OneWhere (vanishes (render_role_of (look_of widget))) children × AllVanishAlone children

  pub AllVanishAlone : PlainNodes → Type 0
  AllVanishAlone no_nodes = Unit {0}
  AllVanishAlone (more_nodes n ns) = VanishAlone n × AllVanishAlone ns
