-- Which type the table of a kind wants of a member.
use Rattle.std.specs.Prelude.{ℕ, Bool, true, false, List, [], ◌∷◌, Option, Some, None, slice_get}
use Rattle.fx_expr.specs.declared.values.Ty.{Ty}
use Rattle.fx_expr.specs.declared.values.Ty.TheVariants as ty
use Rattle.fx_expr.specs.Exp.{Exp}
use Rattle.fx_expr.specs.Scope.{Types}
use Rattle.fx_expr.specs.Typed.{HasType}
use Rattle.program_form.specs.declared.kinds.KindName.{KindName}
use Rattle.program_form.specs.declared.kinds.KindMember.{KindMember}
use Rattle.program_form.specs.declared.kinds.MemberForm.{MemberForm}
use Rattle.program_form.specs.declared.kinds.MemberForm.TheVariants as member_is
use Rattle.program_form.specs.Kinds.{members_of}
use Rattle.expr_check.specs.declared.wants.Want.{Want}
use Rattle.expr_check.specs.declared.wants.Want.TheVariants as want
use Rattle.program_check.specs.Judged.{want_of}

abbrev pub is_type : Ty → Ty → Bool
is_type ty.Int ty.Int = true
is_type ty.Bool ty.Bool = true
is_type ty.Text ty.Text = true
is_type ty.Ints ty.Ints = true
is_type ty.Texts ty.Texts = true
is_type t u = false

abbrev pub wants_type : Ty → Want → Bool
wants_type t (want.Exactly u) = is_type t u
wants_type t w = false

abbrev pub form_wants : Ty → MemberForm → Bool
form_wants t (member_is.Expression meaning) = wants_type t (want_of meaning)
form_wants t f = false

abbrev pub member_wants : Ty → Option KindMember → Bool
member_wants t (Some m) = form_wants t m.form
member_wants t None = false

-- the member at a place of a kind is an expression of just this type
abbrev pub is_wanted : KindName → ℕ → Ty → Bool
is_wanted k i t = member_wants t (slice_get (members_of k) i)

-- each expression has a type
abbrev pub HaveTypes : Types → List Exp → Type 0
HaveTypes T [] = Unit {0}
HaveTypes T (e ∷ es) = HasType T e × HaveTypes T es
