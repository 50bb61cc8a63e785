-- A checked template of the program as plain data, by its kind, its key and its members; and one of a list.
use Rattle.std.proofs.Common.{◌≡◌, ℕ, zero, suc, ◌<◌, arith, length, get_or, List, [], ◌∷◌, map, Option, Some, None, option_map, ap, sym, subst, refl, ◌∙◌, rules}
use Rattle.std.specs.Global.{Box}
use Rattle.fx_expr.specs.declared.exprs.Expr.{Expr}
use Rattle.fx_expr.specs.Scope.{Types}
use Rattle.fx_expr.specs.Typed.{HasType}
use Rattle.fx_expr.specs.View.{exp_of, set_of}
use Rattle.expr_check.specs.Handlers.{AreTypedSets}
use Rattle.program_check.specs.declared.checked.Body.{Body}
use Rattle.program_check.specs.declared.checked.BodyPart.{BodyPart, the_lemmas}
use Rattle.program_check.specs.Body.{PlainBodyPart, members_in, members_in_body, body_from}
use Rattle.program_check.specs.BodyView.{plain_body, plain_body_part, plain_members, plain_body_key_member}
use Rattle.template_build.specs.Wanted.{HaveTypes}
use Rattle.template_build.proofs.TypedMembers.{kind_in, key_of_body}

abbrev seen : Option (Box BodyPart) → Option (Box PlainBodyPart)
seen p = option_map (λ b. record { ptr = b.ptr; value = plain_body_part b.value; alloc = b.alloc }) p

members-seen : (ms : List (Option (Box BodyPart))) → map (option_map (λ b. b.value)) (map seen ms) ≡ plain_members ms
members-seen [] = refl
members-seen (None ∷ ms) = ap (λ ps. None ∷ ps) (members-seen ms)
members-seen (Some b ∷ ms) = ap (λ ps. Some (plain_body_part b.value) ∷ ps) (members-seen ms)

body-seen : (b : Body) → plain_body b ≡ body_from b.w (plain_body_key_member b.key) (map (option_map (λ p. p.value)) (map seen b.members.items))
body-seen b = search (rules, the_lemmas)

pub plain_body-out : (b : Body) → plain_body b ≡ body_from b.w (plain_body_key_member b.key) (plain_members b.members.items)
plain_body-out b = body-seen b ∙ ap (body_from b.w (plain_body_key_member b.key)) (members-seen b.members.items)

pub kind-out : (b : Body) → kind_in (plain_body b) ≡ b.w
kind-out b = ap kind_in (plain_body-out b)

pub key-out : (b : Body) → key_of_body (plain_body b) ≡ plain_body_key_member b.key
key-out b = ap key_of_body (plain_body-out b)

pub members-out : (b : Body) → members_in_body (plain_body b) ≡ members_in (plain_members b.members.items)
members-out b = ap members_in_body (plain_body-out b)

-- ---- one of a list

pub set_has_type : (T : Types) (sets : List (ℕ × Expr)) (i : ℕ) (x : ℕ × Expr) → AreTypedSets T (map set_of sets) → i < length sets
    → x ≡ get_or sets i x → HasType T (exp_of x.1)
set_has_type T [] i x h below e = absurd (omega arith)
set_has_type T (s ∷ sets) zero x h below e = subst (λ (s : ℕ × Expr). HasType T (exp_of s.1)) (sym e) (h.0.0, h.0.2)
set_has_type T (s ∷ sets) (suc i) x h below e = set_has_type T sets i x h.1 (omega arith) e

pub expr_has_type : (T : Types) (es : List Expr) (i : ℕ) (x : Expr) → HaveTypes T (map exp_of es) → i < length es
    → x ≡ get_or es i x → HasType T (exp_of x)
expr_has_type T [] i x h below e = absurd (omega arith)
expr_has_type T (e ∷ es) zero x h below same = subst (λ e. HasType T (exp_of e)) (sym same) h.0
expr_has_type T (e ∷ es) (suc i) x h below same = expr_has_type T es i x h.1 (omega arith) same
