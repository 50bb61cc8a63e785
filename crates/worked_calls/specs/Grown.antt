-- Builds whose numbers tell which nodes are repaint boundaries, and which one is the Viewport.
use Rattle.std.specs.Prelude.{◌≡◌, ℕ, ◌==◌, ◌||◌, Bool, true, false, List}
use Rattle.std.specs.List.{All}
use Rattle.widget_model.specs.Look.{Look}
use Rattle.work_roles.specs.WorkRole.{is_repaint_boundary}
use Rattle.plain_tree.specs.Laws.{render_numbers_of, render_numbers_in, AllDiffer}
use Rattle.plain_tree.specs.Render.{Render, render, Renders, no_renders, more_renders, count_of, renders_of}
use Rattle.plain_tree.specs.RenderRole.{render_role_of, is_window}
use Rattle.layout_form.specs.Fits.{FitsLayout, IsTold, CanBeLaidOut, data_of}

-- the numbers of the repaint boundaries, and that of the Viewport
abbrev pub is_edge : ℕ → Bool
is_edge n = n == 5 || n == 6

abbrev pub scrolls : ℕ → Bool
scrolls n = n == 9

-- a node is what its number says, and nothing but the Viewport is scrolled
pub record IsTame (number : ℕ) (look : Look) (scroll : ℕ) : Type 0 where
  pub edge : is_repaint_boundary look ≡ is_edge number
  pub window : is_window (render_role_of look) ≡ scrolls number
  pub still : scrolls number ≡ false → scroll ≡ 0

-- and the Viewport so far
pub record IsTameAt (s number : ℕ) (look : Look) (scroll : ℕ) : Type 0 where
  pub tame : IsTame number look scroll
  pub at : scrolls number ≡ true → scroll ≡ s

-- this holds of each node's number, kind and offset
abbrev mutual
  pub EachNode : (ℕ → Look → ℕ → Type 0) → Render → Type 0
  EachNode P (render number look told scroll count children) = P number look scroll × EachOf P children

  pub EachOf : (ℕ → Look → ℕ → Type 0) → Renders → Type 0
  EachOf P no_renders = Unit {0}
  EachOf P (more_renders r rs) = EachNode P r × EachOf P rs

-- a kind that is neither a repaint boundary nor a Viewport, and whose members fit
pub record IsModest (look : Look) : Type 0 where
  pub fits : FitsLayout look
  pub edge : is_repaint_boundary look ≡ false
  pub window : is_window (render_role_of look) ≡ false

-- a build that can be shown, in which the Viewport is scrolled so far
pub record IsFine (s : ℕ) (r : Render) : Type 0 where
  pub told : IsTold (data_of r)
  pub fits : CanBeLaidOut r
  pub tame : EachNode (IsTameAt s) r

abbrev pub AreFine : ℕ → List Render → Type 0
AreFine s rs = All (IsFine s) rs

-- builds that were grown from rows: their numbers are these, and none stands twice
pub record AreGrown (s : ℕ) (rs : List Render) (numbers : List ℕ) : Type 0 where
  pub fine : All (IsFine s) rs
  pub same : render_numbers_in (renders_of rs) ≡ numbers
  pub differ : AllDiffer numbers

-- one of them, and how many nodes it has
pub record IsGrown (s : ℕ) (r : Render) (count : ℕ) : Type 0 where
  pub fine : IsFine s r
  pub differ : AllDiffer (render_numbers_of r)
  pub size : count_of r ≡ count
