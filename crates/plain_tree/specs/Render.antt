-- What of a tree is laid out, as nested plain values.
use Rattle.std.specs.Prelude.{ℕ, suc, ◌+◌, List, [], ◌∷◌, length}
use Rattle.widget_model.specs.Look.{Look}
use Rattle.widget_model.specs.Plain.{PlainWidget}
use Rattle.plain_tree.specs.declared.render.ParentData.{ParentData}
use Rattle.plain_tree.specs.declared.role.RenderRole.{RenderRole}
use Rattle.plain_tree.specs.declared.role.RenderRole.TheVariants.{Composes, Shares, Places, Line, Pile, Lazy, Window, Plain}

mutual
  -- a render node: its number, its kind with its members, what its parent takes from the widgets between them, how far it
  -- is scrolled, the number of its child widgets where it is a SliverLazy and 0 elsewhere, and the nodes below it
  pub data Render : Type 0 where
    render : ℕ → Look → ParentData → ℕ → ℕ → Renders → Render

  pub data Renders : Type 0 where
    no_renders : Renders
    more_renders : Render → Renders → Renders

-- the render nodes of a list, one after another
abbrev pub renders_of : List Render → Renders
renders_of [] = no_renders
renders_of (r ∷ rs) = more_renders r (renders_of rs)

abbrev pub list_of : Renders → List Render
list_of no_renders = []
list_of (more_renders r rs) = r ∷ list_of rs

-- how many render nodes a render node is, with those below it
abbrev mutual
  pub count_of : Render → ℕ
  count_of (render number look parent_data scroll count children) = suc (counts_of children)

  pub counts_of : Renders → ℕ
  counts_of no_renders = 0
  counts_of (more_renders r rs) = count_of r + counts_of rs

-- the number of child widgets, where a SliverLazy has them
abbrev pub lazy_count : RenderRole → List PlainWidget → ℕ
lazy_count Lazy children = length children
lazy_count Composes children = 0
lazy_count (Shares flex tight) children = 0
lazy_count (Places placed) children = 0
lazy_count Line children = 0
lazy_count Pile children = 0
lazy_count Window children = 0
lazy_count Plain children = 0
