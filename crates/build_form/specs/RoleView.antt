-- What a kind is to a build, as the program says it.
use Rattle.std.specs.Prelude.{List, []}
use Rattle.widget_model.specs.Plain.{PlainWidget}
use Rattle.build_form.specs.declared.roles.BuildRole.TheVariants as role
use Rattle.build_form.specs.declared.roles.BuildRole.{BuildRole as RoleOfKind}
use Rattle.build_form.specs.BuildRole.{BuildRole, composes, provides, keeps, lists, holds}

abbrev pub plain_role : RoleOfKind → BuildRole
plain_role (role.Composes component props slots) = composes component props.now
plain_role (role.Provides name value) = provides name value.now
plain_role (role.Keeps kept) = keeps kept
plain_role (role.Lists extent) = lists extent
plain_role role.Holds = holds

-- the contents of a component's slots
abbrev pub slots_in_role : RoleOfKind → List PlainWidget
slots_in_role (role.Composes component props slots) = slots.now
slots_in_role (role.Provides name value) = []
slots_in_role (role.Keeps kept) = []
slots_in_role (role.Lists extent) = []
slots_in_role role.Holds = []
