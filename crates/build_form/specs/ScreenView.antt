-- What a tree is laid out in, by a table of delegates.
use Rattle.std.specs.Prelude.{List}
use Rattle.fx_geom.specs.declared.scales.Scale.{Scale}
use Rattle.fx_geom.specs.declared.shapes.Size.{Size}
use Rattle.delegates.specs.Table.{Plug}
use Rattle.build_form.specs.FullBuild.{Screen}

-- a scale, delegates that mean this, and the view
abbrev pub screen_on : Scale → List Plug → Size → Screen
screen_on scale delegates view = record { scale = scale; delegates = delegates; view = view }
