-- Render nodes opened: their kind, and the nodes below them.
use Rattle.std.specs.Prelude.{ℕ, List}
use Rattle.widget_model.specs.Look.{Look}
use Rattle.plain_tree.specs.Render.{Render, render, list_of}

abbrev pub look_of : Render → Look
look_of (render number look told scroll count children) = look

abbrev pub children_of : Render → List Render
children_of (render number look told scroll count children) = list_of children

-- the number of child widgets of a SliverLazy
abbrev pub count_in : Render → ℕ
count_in (render number look told scroll count children) = count
