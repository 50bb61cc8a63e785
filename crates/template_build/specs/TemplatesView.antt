-- The templates that a member holds, as plain data.
use Rattle.std.specs.Prelude.{ℕ, [], map}
use Rattle.program_check.specs.Body.{body_depth, bodies_depth, bodies_in}
use Rattle.program_check.specs.BodyView.{plain_body}
use Rattle.template_build.specs.declared.parts.Templates.{Templates}
use Rattle.template_build.specs.declared.parts.Templates.TheVariants.{Nothing, One, Many}
use Rattle.template_build.specs.Scene.{Scene}
use Rattle.template_build.specs.Output.{Gives, output_of, outputs_of}
use Rattle.template_build.specs.Suits.{IsBuiltIn}
use Rattle.template_build.specs.Building.{AreAllBuiltIn}

abbrev pub templates_output : Templates → Gives
templates_output Nothing s = []
templates_output (One b) s = output_of (plain_body b.now) s
templates_output (Many bs) s = outputs_of (bodies_in (map plain_body bs.now)) s

abbrev pub templates_depth : Templates → ℕ
templates_depth Nothing = 0
templates_depth (One b) = body_depth (plain_body b.now)
templates_depth (Many bs) = bodies_depth (bodies_in (map plain_body bs.now))

abbrev pub AreTemplatesBuiltIn : Scene → Templates → Type 0
AreTemplatesBuiltIn s Nothing = Unit {0}
AreTemplatesBuiltIn s (One b) = IsBuiltIn s (plain_body b.now)
AreTemplatesBuiltIn s (Many bs) = AreAllBuiltIn s (bodies_in (map plain_body bs.now))
