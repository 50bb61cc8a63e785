-- Which kinds stand in a template, as it is written and as it is checked.
use Rattle.program_form.specs.declared.kinds.KindName.{KindName}
use Rattle.program_form.specs.Template as written
use Rattle.program_form.specs.Template.{PlainTemplate, PlainMembers, PlainPart, PlainTemplates, PlainSlots}
use Rattle.program_check.specs.Body as checked
use Rattle.program_check.specs.Body.{PlainBody, BodyMembers, PlainBodyPart, PlainBodies}

-- each kind of a template meets this: its own, and those of the templates in it, also of what it gives for slots
abbrev mutual
  pub KindsMeet : (KindName → Type 0) → PlainTemplate → Type 0
  KindsMeet P (written.template kind key ms) = P kind × MembersMeet P ms

  pub MembersMeet : (KindName → Type 0) → PlainMembers → Type 0
  MembersMeet P written.no_members = Unit {0}
  MembersMeet P (written.left_out ms) = MembersMeet P ms
  MembersMeet P (written.member p ms) = PartMeets P p × MembersMeet P ms

  pub PartMeets : (KindName → Type 0) → PlainPart → Type 0
  PartMeets P (written.expression f) = Unit {0}
  PartMeets P (written.word w) = Unit {0}
  PartMeets P (written.name n) = Unit {0}
  PartMeets P (written.handler sets) = Unit {0}
  PartMeets P (written.child t) = KindsMeet P t
  PartMeets P (written.children ts) = TemplatesMeet P ts
  PartMeets P (written.props ps) = Unit {0}
  PartMeets P (written.slots ss) = SlotsMeet P ss

  pub TemplatesMeet : (KindName → Type 0) → PlainTemplates → Type 0
  TemplatesMeet P written.no_templates = Unit {0}
  TemplatesMeet P (written.one_template t ts) = KindsMeet P t × TemplatesMeet P ts

  pub SlotsMeet : (KindName → Type 0) → PlainSlots → Type 0
  SlotsMeet P written.no_slots = Unit {0}
  SlotsMeet P (written.slot n t ss) = KindsMeet P t × SlotsMeet P ss

-- the same of a checked one
abbrev mutual
  pub BodyKindsMeet : (KindName → Type 0) → PlainBody → Type 0
  BodyKindsMeet P (checked.body kind key ms) = P kind × BodyMembersMeet P ms

  pub BodyMembersMeet : (KindName → Type 0) → BodyMembers → Type 0
  BodyMembersMeet P checked.no_members = Unit {0}
  BodyMembersMeet P (checked.left_out ms) = BodyMembersMeet P ms
  BodyMembersMeet P (checked.member p ms) = BodyPartMeets P p × BodyMembersMeet P ms

  pub BodyPartMeets : (KindName → Type 0) → PlainBodyPart → Type 0
  BodyPartMeets P (checked.expression e) = Unit {0}
  BodyPartMeets P (checked.word w) = Unit {0}
  BodyPartMeets P (checked.name i) = Unit {0}
  BodyPartMeets P (checked.handler sets) = Unit {0}
  BodyPartMeets P (checked.child b) = BodyKindsMeet P b
  BodyPartMeets P (checked.children bs) = BodiesMeet P bs
  BodyPartMeets P (checked.props es) = Unit {0}
  BodyPartMeets P (checked.slots bs) = BodiesMeet P bs

  pub BodiesMeet : (KindName → Type 0) → PlainBodies → Type 0
  BodiesMeet P checked.no_bodies = Unit {0}
  BodiesMeet P (checked.one_body b bs) = BodyKindsMeet P b × BodiesMeet P bs
