-- The types of operands, and of the whole.
use Rattle.std.specs.Prelude.{Bool, true, false, Option, Some, None, unwrap_or}
use Rattle.fx_expr.specs.declared.values.Ty.{Ty}
use Rattle.fx_expr.specs.declared.values.Ty.TheVariants as ty
use Rattle.fx_expr.specs.Typed.{item_type}
use Rattle.program_form.specs.declared.operators.Operator.{Operator}
use Rattle.program_form.specs.declared.operators.Operator.TheVariants as op
use Rattle.expr_check.specs.declared.wants.Want.{Want}
use Rattle.expr_check.specs.declared.wants.Want.TheVariants as want
use Rattle.expr_check.specs.declared.wants.Seen.{Seen}

-- two types are the same
abbrev pub same_ty : Ty → Ty → Bool
same_ty ty.Int ty.Int = true
same_ty ty.Bool ty.Bool = true
same_ty ty.Text ty.Text = true
same_ty ty.Ints ty.Ints = true
same_ty ty.Texts ty.Texts = true
same_ty _ _ = false

abbrev pub is_list : Ty → Bool
is_list ty.Ints = true
is_list ty.Texts = true
is_list _ = false

abbrev pub is_joinable : Ty → Bool
is_joinable ty.Text = true
is_joinable ty.Ints = true
is_joinable ty.Texts = true
is_joinable _ = false

-- a type is one of those that are asked for
abbrev pub meets : Want → Ty → Bool
meets want.Any t = true
meets (want.Exactly u) t = same_ty u t
meets want.List t = is_list t
meets want.Joinable t = is_joinable t

-- the type of a list's items
abbrev pub item_of : Ty → Ty
item_of t = unwrap_or (item_type t) t

-- the types of the first two operands, as far as they were tested
abbrev pub none_seen : Seen
none_seen = record { first = None; second = None }

abbrev pub with_types : Option Ty → Option Ty → Ty → Seen
with_types None second t = record { first = Some t; second = None }
with_types (Some u) None t = record { first = Some u; second = Some t }
with_types (Some u) (Some v) t = record { first = Some u; second = Some v }

abbrev pub with_type : Seen → Ty → Seen
with_type seen t = with_types seen.first seen.second t

-- ---- what is asked of the next operand

-- the type of an earlier one, where there is one
abbrev pub like : Option Ty → Want → Want
like (Some t) other = want.Exactly t
like None other = other

-- of `if`: the condition, a value, and another of its type
abbrev pub if_wanted : Option Ty → Option Ty → Want
if_wanted None second = want.Exactly ty.Bool
if_wanted (Some c) second = like second want.Any

-- of `at`: the list, a place, and an item
abbrev pub at_wanted : Option Ty → Option Ty → Want
at_wanted None second = want.List
at_wanted (Some l) None = want.Exactly ty.Int
at_wanted (Some l) (Some i) = want.Exactly (item_of l)

-- of `push`: the list and an item; of `drop`: the list and a place
abbrev pub push_wanted : Option Ty → Want
push_wanted None = want.List
push_wanted (Some l) = want.Exactly (item_of l)

abbrev pub drop_wanted : Option Ty → Want
drop_wanted None = want.List
drop_wanted (Some l) = want.Exactly ty.Int

abbrev pub wanted : Operator → Seen → Want
wanted op.Ints seen = want.Exactly ty.Int
wanted op.Texts seen = want.Exactly ty.Text
wanted op.Add seen = want.Exactly ty.Int
wanted op.Sub seen = want.Exactly ty.Int
wanted op.Mul seen = want.Exactly ty.Int
wanted op.Div seen = want.Exactly ty.Int
wanted op.Mod seen = want.Exactly ty.Int
wanted op.Equal seen = like seen.first want.Any
wanted op.Less seen = want.Exactly ty.Int
wanted op.And seen = want.Exactly ty.Bool
wanted op.Or seen = want.Exactly ty.Bool
wanted op.Not seen = want.Exactly ty.Bool
wanted op.If seen = if_wanted seen.first seen.second
wanted op.Cat seen = like seen.first want.Joinable
wanted op.Len seen = want.List
wanted op.At seen = at_wanted seen.first seen.second
wanted op.Push seen = push_wanted seen.first
wanted op.Drop seen = drop_wanted seen.first
wanted op.Reverse seen = want.List
wanted op.Range seen = want.Exactly ty.Int
wanted op.Show seen = want.Exactly ty.Int

-- ---- the type of the whole

abbrev pub given_type : Operator → Seen → Ty
given_type op.Ints seen = ty.Ints
given_type op.Texts seen = ty.Texts
given_type op.Add seen = ty.Int
given_type op.Sub seen = ty.Int
given_type op.Mul seen = ty.Int
given_type op.Div seen = ty.Int
given_type op.Mod seen = ty.Int
given_type op.Equal seen = ty.Bool
given_type op.Less seen = ty.Bool
given_type op.And seen = ty.Bool
given_type op.Or seen = ty.Bool
given_type op.Not seen = ty.Bool
given_type op.If seen = unwrap_or seen.second ty.Int
given_type op.Cat seen = unwrap_or seen.first ty.Ints
given_type op.Len seen = ty.Int
given_type op.At seen = item_of (unwrap_or seen.first ty.Ints)
given_type op.Push seen = unwrap_or seen.first ty.Ints
given_type op.Drop seen = unwrap_or seen.first ty.Ints
given_type op.Reverse seen = unwrap_or seen.first ty.Ints
given_type op.Range seen = ty.Ints
given_type op.Show seen = ty.Text
