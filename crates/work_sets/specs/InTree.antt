-- The render node of a tree that has a number, and where it stands.
use Rattle.std.specs.Prelude.{ℕ, ◌==◌, Option, Some, None, if◌then◌else◌}
use Rattle.std.specs.Option.{option_or}
use Rattle.widget_model.specs.Look.{Look}
use Rattle.plain_tree.specs.declared.render.ParentData.{ParentData}
use Rattle.plain_tree.specs.Render.{Render, render, Renders, no_renders, more_renders}
use Rattle.work_roles.specs.Place.{RegionPlace, at_root, below}

-- the parts of a render node
abbrev pub number_of : Render → ℕ
number_of (render number look told scroll count children) = number

abbrev pub look_of : Render → Look
look_of (render number look told scroll count children) = look

abbrev pub told_of : Render → ParentData
told_of (render number look told scroll count children) = told

-- the number of child widgets of a SliverLazy, 0 of any other node
abbrev pub widget_count_of : Render → ℕ
widget_count_of (render number look told scroll count children) = count

abbrev pub children_of : Render → Renders
children_of (render number look told scroll count children) = children

-- a render node, where it stands in a tree
pub record Standing : Type 0 where
  pub place : RegionPlace
  pub node : Render

-- the first node in preorder that has a number, in a tree that stands at a place
abbrev mutual
  pub standing_at : ℕ → RegionPlace → Render → Option Standing
  standing_at wanted p (render number look told scroll count children) =
      if number == wanted
      then Some (record { place = p; node = render number look told scroll count children })
      else standing_in wanted (below p look) children

  pub standing_in : ℕ → RegionPlace → Renders → Option Standing
  standing_in wanted p no_renders = None
  standing_in wanted p (more_renders r rs) = option_or (standing_at wanted p r) (standing_in wanted p rs)

-- in a tree or none
abbrev pub standing : Option Render → ℕ → Option Standing
standing None wanted = None
standing (Some root) wanted = standing_at wanted at_root root
