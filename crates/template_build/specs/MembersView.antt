-- The members of a template where it is built, as plain data.
use Rattle.program_check.specs.Body.{BodyMembers, members_in_body}
use Rattle.program_check.specs.BodyView.{plain_body}
use Rattle.template_build.specs.declared.members.Members.{Members}
use Rattle.template_build.specs.Scene.{Scene}
use Rattle.template_build.specs.SceneView.{scene_of}
use Rattle.template_build.specs.Suits.{IsBuiltIn}

abbrev pub scene_at : Members → Scene
scene_at m = scene_of m.scene.now m.vars.now

abbrev pub members_at : Members → BodyMembers
members_at m = members_in_body (plain_body m.body.now)

-- the template is typed where it stands, and the scene suits that place
abbrev pub IsBuilt : Members → Type 0
IsBuilt m = IsBuiltIn (scene_at m) (plain_body m.body.now)
