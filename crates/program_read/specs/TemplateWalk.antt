-- The template that a value of a program's text is, in a program of a version, or its first fault.
use Rattle.std.specs.Prelude.{ℕ, List, [], ◌∷◌, ◌++◌, map, filter, codes, if◌then◌else◌, Option, Some, None, Ok, ⊤}
use Rattle.std.specs.Ordering.{nat_cmp}
use Rattle.std.specs.declared.cmp.Ordering.{Ordering}
use Rattle.std.specs.declared.cmp.Ordering.TheVariants.{Less, Equal, Greater}
use Rattle.std.specs.Cmp.Lexicographic.{slice_cmp}
use Rattle.serde_json.specs.Data.{Data, null, boolean, number, string, array, object, Items, no_items, item, Members, no_members, member}
use Rattle.program_read.specs.declared.fault.ShapeCode.TheVariants.{WrongKind, UnknownKind}
use Rattle.program_form.specs.declared.kinds.KindName.{KindName}
use Rattle.program_form.specs.declared.kinds.KindMember.{KindMember}
use Rattle.program_form.specs.declared.kinds.MemberForm.{MemberForm}
use Rattle.program_form.specs.declared.kinds.MemberForm.TheVariants.{Expression, Word, Name, Handler, Child, Children, Props, Slots}
use Rattle.program_read.specs.ShapeFault.{ShapeWalk, stops, within, and_then, given, each}
use Rattle.program_read.specs.Leaves.{or_stop, string_of, within_limit}
use Rattle.program_read.specs.Names.{name_of}
use Rattle.program_read.specs.FormWalk.{form_of}
use Rattle.program_read.specs.HandlerWalk.{handler_of}
use Rattle.program_form.specs.Key.{PlainKey}
use Rattle.program_read.specs.KeyWalk.{key_of}
use Rattle.program_read.specs.WordWalk.{word_of}
use Rattle.program_form.specs.Kinds.{kind_named, has_key, member_text, members_of}
use Rattle.program_read.specs.Objects.{shaped, required_at, optional_at, in_order, named, keyed_of, list_of}
use Rattle.program_form.specs.Template.{PlainTemplate, PlainPart, expression, word, name, handler, child, children, props, slots, templates_in, slots_in, template_from}

-- the kind that the member `w` names, of those that the version has
abbrev pub kind_of : ℕ → Data → ShapeWalk KindName
kind_of version d = and_then (required_at string_of (codes "w") d) (λ text. or_stop UnknownKind (kind_named version text))

-- the members that a template of the kind has to have, beside `w`, and those that it may have
abbrev pub required_names : KindName → List (List ℕ)
required_names kind = map (λ m. member_text m.name) (filter (λ m. m.required) (members_of kind))

abbrev pub known_names : KindName → List (List ℕ)
known_names kind =
    codes "w" ∷ (if has_key kind then codes "key" ∷ [] else []) ++ map (λ m. member_text m.name) (members_of kind)

-- the kind of a template whose members are those that it has to have and may have
abbrev pub kind_in : ℕ → Data → ShapeWalk KindName
kind_in version d = and_then (kind_of version d) (λ kind. given (λ _. kind) (shaped (required_names kind) (known_names kind) d))

-- the template of a kind that an object is, given the walk of each of its members: the key, then the members in the
-- table's order
abbrev pub members_walk : KindName → (KindMember → ShapeWalk (Option PlainPart)) → Option PlainKey → ShapeWalk PlainTemplate
members_walk kind walk key = given (template_from kind key) (in_order (map walk (members_of kind)))

abbrev pub kind_walk : Data → (KindMember → ShapeWalk (Option PlainPart)) → KindName → ShapeWalk PlainTemplate
kind_walk d walk kind = and_then (optional_at key_of (codes "key") d) (members_walk kind walk)

-- the template that an object is: its kind, and then its key and its members
abbrev pub template_with : ℕ → Data → (KindMember → ShapeWalk (Option PlainPart)) → ShapeWalk PlainTemplate
template_with version d walk = and_then (kind_in version d) (kind_walk d walk)

-- what a value is as a member of a form, given what it is as a template, as a list of them and as an object of them
abbrev pub part_with : MemberForm → Data → (⊤ → ShapeWalk PlainTemplate) → (⊤ → ShapeWalk (List PlainTemplate)) → (⊤ → ShapeWalk (List (List ℕ × PlainTemplate))) → ShapeWalk PlainPart
part_with (Expression meaning) d one many keyed = given expression (form_of d)
part_with (Word list) d one many keyed = given word (word_of list d)
part_with Name d one many keyed = given name (name_of d)
part_with Handler d one many keyed = given handler (handler_of d)
part_with (Child wanted) d one many keyed = given child (one tt)
part_with (Children wanted) d one many keyed = given (λ ts. children (templates_in ts)) (many tt)
part_with Props d one many keyed = given props (keyed_of form_of d)
part_with Slots d one many keyed = given (λ ss. slots (slots_in ss)) (keyed tt)

-- what is at the member, or further on where the names differ
abbrev pub here_or_later : {A : Type 0} → Ordering → (⊤ → A) → (⊤ → A) → A
here_or_later Less here later = later tt
here_or_later Equal here later = here tt
here_or_later Greater here later = later tt

unfoldable mutual
  -- the template that a value is
  pub template_of : ℕ → Data → ShapeWalk PlainTemplate
  template_of version null = stops WrongKind
  template_of version (boolean b) = stops WrongKind
  template_of version (number n) = stops WrongKind
  template_of version (string s) = stops WrongKind
  template_of version (array ds) = stops WrongKind
  template_of version (object ms) = template_with version (object ms) (member_of version ms)

  -- the member that an object has of those in the table, where it is given
  pub member_of : ℕ → Members → KindMember → ShapeWalk (Option PlainPart)
  member_of version no_members m = Ok None
  member_of version (member n d ms) m =
      here_or_later (slice_cmp nat_cmp (member_text m.name) n)
      (λ _. given Some (within (member_text m.name) (part_with m.form d (λ _. template_of version d) (λ _. templates_of version d) (λ _. slots_of version d))))
      (λ _. member_of version ms m)

  -- the list of templates that a value is
  pub templates_of : ℕ → Data → ShapeWalk (List PlainTemplate)
  templates_of version null = stops WrongKind
  templates_of version (boolean b) = stops WrongKind
  templates_of version (number n) = stops WrongKind
  templates_of version (string s) = stops WrongKind
  templates_of version (array ds) = and_then (within_limit ds) (λ _. each 0 (templates_walk version ds))
  templates_of version (object ms) = stops WrongKind

  pub templates_walk : ℕ → Items → List (ShapeWalk PlainTemplate)
  templates_walk version no_items = []
  templates_walk version (item d ds) = template_of version d ∷ templates_walk version ds

  -- the object of templates that a value is, in byte order of their names
  pub slots_of : ℕ → Data → ShapeWalk (List (List ℕ × PlainTemplate))
  slots_of version null = stops WrongKind
  slots_of version (boolean b) = stops WrongKind
  slots_of version (number n) = stops WrongKind
  slots_of version (string s) = stops WrongKind
  slots_of version (array ds) = stops WrongKind
  slots_of version (object ms) = in_order (slots_walk version ms)

  pub slots_walk : ℕ → Members → List (ShapeWalk (List ℕ × PlainTemplate))
  slots_walk version no_members = []
  slots_walk version (member n d ms) = named n (template_of version d) ∷ slots_walk version ms

-- what a value is as a member of a form
abbrev pub part_of : ℕ → MemberForm → Data → ShapeWalk PlainPart
part_of version form d =
    part_with form d (λ _. template_of version d) (λ _. list_of (template_of version) d) (λ _. keyed_of (template_of version) d)

-- the member of a template that an object has, where it is given
abbrev pub part_at : ℕ → Data → KindMember → ShapeWalk (Option PlainPart)
part_at version d m = optional_at (part_of version m.form) (member_text m.name) d

-- the template of a kind that an object is
abbrev pub template_parts : ℕ → KindName → Data → ShapeWalk PlainTemplate
template_parts version kind d = kind_walk d (part_at version d) kind
