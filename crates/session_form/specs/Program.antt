-- What a session takes of a checked program: the numbers of its version, and the widget that a root gives.
use Rattle.std.specs.Prelude.{None, List, [], ◌∷◌}
use Rattle.fx_geom.specs.declared.scales.Scale.{Scale}
use Rattle.widget_keys.specs.declared.keys.Key.TheVariants as key
use Rattle.widget_model.specs.Look.{sized_box}
use Rattle.widget_model.specs.Plain.{PlainWidget, plain, no_widgets}
use Rattle.program_check.specs.Body.{PlainBody}
use Rattle.program_check.specs.Checked.{PlainChecked}
use Rattle.program_check.specs.WellChecked as well
use Rattle.template_build.specs.Program.{root_output}

-- the numbers of the program's version
abbrev pub scale_of : PlainChecked → Scale
scale_of c = well.scale_of c.version

-- the one widget of a list; a checked root gives one, and an empty box stands in for none
abbrev pub the_one : List PlainWidget → PlainWidget
the_one [] = plain (sized_box None None) key.None no_widgets no_widgets
the_one (w ∷ ws) = w

-- the widget that a checked root gives
abbrev pub root_widget : PlainChecked → PlainBody → PlainWidget
root_widget c b = the_one (root_output c b)
