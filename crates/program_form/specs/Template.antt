-- A template as plain data: its kind, its key, and the kind's members in order, each where it is given.
use Rattle.std.specs.Prelude.{ℕ, List, [], ◌∷◌, Option, Some, None}
use Rattle.program_form.specs.declared.kinds.KindName.{KindName}
use Rattle.program_form.specs.declared.words.Word.{Word}
use Rattle.program_form.specs.Form.{PlainForm}
use Rattle.program_form.specs.Handler.{PlainSet}
use Rattle.program_form.specs.Key.{PlainKey}

mutual
  pub data PlainTemplate : Type 0 where
    template : KindName → Option PlainKey → PlainMembers → PlainTemplate

  -- the members of a kind, in order: each is left out or given
  pub data PlainMembers : Type 0 where
    no_members : PlainMembers
    left_out : PlainMembers → PlainMembers
    member : PlainPart → PlainMembers → PlainMembers

  -- what a member is
  pub data PlainPart : Type 0 where
    expression : PlainForm → PlainPart
    word : Word → PlainPart
    name : List ℕ → PlainPart
    handler : List PlainSet → PlainPart
    child : PlainTemplate → PlainPart
    children : PlainTemplates → PlainPart
    -- the props that are given, each with its name
    props : List (List ℕ × PlainForm) → PlainPart
    slots : PlainSlots → PlainPart

  -- a list of templates
  pub data PlainTemplates : Type 0 where
    no_templates : PlainTemplates
    one_template : PlainTemplate → PlainTemplates → PlainTemplates

  -- the contents of slots, each with the slot's name
  pub data PlainSlots : Type 0 where
    no_slots : PlainSlots
    slot : List ℕ → PlainTemplate → PlainSlots → PlainSlots

abbrev pub members_in : List (Option PlainPart) → PlainMembers
members_in [] = no_members
members_in (None ∷ ps) = left_out (members_in ps)
members_in (Some p ∷ ps) = member p (members_in ps)

abbrev pub templates_in : List PlainTemplate → PlainTemplates
templates_in [] = no_templates
templates_in (t ∷ ts) = one_template t (templates_in ts)

abbrev pub slots_in : List (List ℕ × PlainTemplate) → PlainSlots
slots_in [] = no_slots
slots_in (s ∷ ss) = slot s.0 s.1 (slots_in ss)

abbrev pub template_from : KindName → Option PlainKey → List (Option PlainPart) → PlainTemplate
template_from kind key parts = template kind key (members_in parts)
