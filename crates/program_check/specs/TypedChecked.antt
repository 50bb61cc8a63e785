-- A checked program is typed: its inherited names, its components and its root.
use Rattle.std.specs.Prelude.{◌≡◌, ℕ, List, map, length, take, slice_get, Some}
use Rattle.program_form.specs.declared.kinds.ChildSort.TheVariants as stands
use Rattle.program_check.specs.declared.places.Amount.TheVariants.{One}
use Rattle.expr_check.specs.Names.{NamedTypes, PlainNames, types_in}
use Rattle.expr_check.specs.Sight.{sight_of}
use Rattle.program_check.specs.Body.{PlainBody}
use Rattle.program_check.specs.Place.{Signature}
use Rattle.program_check.specs.Judged.{position}
use Rattle.program_check.specs.Checked.{PlainVariables, PlainCheckedComponent, PlainChecked, signature_of}
use Rattle.program_check.specs.ProgramCheck.{props_alone, nothing_seen, seen_in_body}
use Rattle.program_check.specs.TypedBody.{Surroundings, surroundings, FitsIn, AreTypedInOrder, sort_of_body, IsBoxOrSliver, IsTypedBody}

-- each variable's first value has its type, over these names
abbrev pub AreTypedVariables : PlainNames → PlainVariables → Type 0
AreTypedVariables names variables = AreTypedInOrder (sight_of names) (types_in variables.names) variables.values

-- where a component's body stands: it sees the fields, the props and the inherited names, and can use the components before it
abbrev pub body_surroundings : NamedTypes → List Signature → PlainCheckedComponent → Surroundings
body_surroundings inherited earlier c =
    surroundings (sight_of (seen_in_body c.fields.names c.props inherited)) (types_in inherited) (length c.slots) earlier

-- a component after some others
pub record IsTypedComponent (inherited : NamedTypes) (earlier : List Signature) (c : PlainCheckedComponent) : Type 0 where
  -- fields see the props
  pub fields : AreTypedVariables (props_alone c.props) c.fields
  -- one box, or one sliver
  pub fits : FitsIn earlier (position One stands.Any) c.body
  pub sort : c.sort ≡ sort_of_body earlier c.body
  pub known : IsBoxOrSliver c.sort
  pub typed : IsTypedBody (body_surroundings inherited earlier c) c.body

-- each component of a list after those before it
abbrev pub AreTypedComponents : NamedTypes → List PlainCheckedComponent → Type 0
AreTypedComponents inherited cs =
    (i : ℕ) (c : PlainCheckedComponent) → slice_get cs i ≡ Some c → IsTypedComponent inherited (map signature_of (take i cs)) c

-- a root: one box, which sees no name of its own, and can use all components
abbrev pub root_surroundings : PlainChecked → Surroundings
root_surroundings c = surroundings (sight_of nothing_seen) (types_in c.inherited.names) 0 (map signature_of c.components)

pub record IsTypedRoot (c : PlainChecked) (b : PlainBody) : Type 0 where
  pub fits : FitsIn (map signature_of c.components) (position One stands.Box) b
  pub typed : IsTypedBody (root_surroundings c) b

pub record IsTypedChecked (c : PlainChecked) : Type 0 where
  pub inherited : AreTypedVariables nothing_seen c.inherited
  pub components : AreTypedComponents c.inherited.names c.components
  pub root : IsTypedRoot c c.root
