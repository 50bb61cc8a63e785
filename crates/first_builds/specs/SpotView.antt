-- A place where a widget is inflated, as the program says it.
use Rattle.std.specs.Prelude.{Option, Some, None, option_copied}
use Rattle.widget_model.specs.declared.widgets.Kind.{Kind}
use Rattle.widget_model.specs.View.{look_in}
use Rattle.plain_tree.specs.declared.role.RenderRole.{RenderRole}
use Rattle.plain_tree.specs.declared.role.RenderRole.TheVariants.{Plain}
use Rattle.plain_tree.specs.RenderRole.{render_role_of}
use Rattle.build_walk.specs.Walked.{WalkPlace}
use Rattle.first_builds.specs.declared.mounting.MountSpot.{MountSpot}

-- the role of the render node above, if there is one
abbrev pub role_above : Option Kind → RenderRole
role_above None = Plain
role_above (Some kind) = render_role_of (look_in kind)

abbrev pub place_of : MountSpot → WalkPlace
place_of s = record { parent = s.parent; above = s.above; role = role_above (option_copied s.kind); told = option_copied s.told }
