-- A checked template as plain data: its kind, its key, and the kind's members in order, each where it is given.
use Rattle.std.specs.Prelude.{ℕ, zero, suc, max, List, [], ◌∷◌, Option, Some, None}
use Rattle.fx_expr.specs.Exp.{Exp}
use Rattle.program_form.specs.declared.kinds.KindName.{KindName}
use Rattle.program_form.specs.declared.words.Word.{Word}

pub data KeyExp : Type 0 where
  local : Exp → KeyExp
  global : Exp → KeyExp

mutual
  pub data PlainBody : Type 0 where
    body : KindName → Option KeyExp → BodyMembers → PlainBody

  -- the members of a kind, in order: each is left out or given
  pub data BodyMembers : Type 0 where
    no_members : BodyMembers
    left_out : BodyMembers → BodyMembers
    member : PlainBodyPart → BodyMembers → BodyMembers

  -- what a member is
  pub data PlainBodyPart : Type 0 where
    expression : Exp → PlainBodyPart
    word : Word → PlainBodyPart
    -- a place in a list
    name : ℕ → PlainBodyPart
    -- sets, each a field's place and what it is set to
    handler : List (ℕ × Exp) → PlainBodyPart
    child : PlainBody → PlainBodyPart
    children : PlainBodies → PlainBodyPart
    -- what a component is given for its props and its slots, in its order
    props : List Exp → PlainBodyPart
    slots : PlainBodies → PlainBodyPart

  pub data PlainBodies : Type 0 where
    no_bodies : PlainBodies
    one_body : PlainBody → PlainBodies → PlainBodies

abbrev pub members_in : List (Option PlainBodyPart) → BodyMembers
members_in [] = no_members
members_in (None ∷ ps) = left_out (members_in ps)
members_in (Some p ∷ ps) = member p (members_in ps)

abbrev pub bodies_in : List PlainBody → PlainBodies
bodies_in [] = no_bodies
bodies_in (b ∷ bs) = one_body b (bodies_in bs)

abbrev pub body_from : KindName → Option KeyExp → List (Option PlainBodyPart) → PlainBody
body_from kind key parts = body kind key (members_in parts)

-- the members of a template, and the one at a place of them, where it is given
abbrev pub members_in_body : PlainBody → BodyMembers
members_in_body (body kind key ms) = ms

abbrev pub part_at : BodyMembers → ℕ → Option PlainBodyPart
part_at no_members i = None
part_at (left_out ms) zero = None
part_at (left_out ms) (suc i) = part_at ms i
part_at (member p ms) zero = Some p
part_at (member p ms) (suc i) = part_at ms i

-- how deep templates stand in one another
abbrev mutual
  pub body_depth : PlainBody → ℕ
  body_depth (body kind key ms) = suc (members_depth ms)

  pub members_depth : BodyMembers → ℕ
  members_depth no_members = 0
  members_depth (left_out ms) = members_depth ms
  members_depth (member p ms) = max (part_depth p) (members_depth ms)

  pub part_depth : PlainBodyPart → ℕ
  part_depth (expression e) = 0
  part_depth (word w) = 0
  part_depth (name i) = 0
  part_depth (handler sets) = 0
  part_depth (child b) = body_depth b
  part_depth (children bs) = bodies_depth bs
  part_depth (props es) = 0
  part_depth (slots bs) = bodies_depth bs

  pub bodies_depth : PlainBodies → ℕ
  bodies_depth no_bodies = 0
  bodies_depth (one_body b bs) = max (body_depth b) (bodies_depth bs)
