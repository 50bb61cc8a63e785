-- A checked template of the program as plain data.
use Rattle.std.specs.Prelude.{ℕ, List, map, Option, option_map}
use Rattle.std.specs.Global.{Box}
use Rattle.fx_expr.specs.declared.exprs.Expr.{Expr}
use Rattle.fx_expr.specs.Exp.{Exp}
use Rattle.fx_expr.specs.View.{exp_of}
use Rattle.program_check.specs.declared.checked.KeyExpr.{KeyExpr}
use Rattle.program_check.specs.declared.checked.KeyExpr.TheVariants.{Local, Global}
use Rattle.program_check.specs.declared.checked.Body.{Body, Body-F, fold-Body}
use Rattle.program_check.specs.declared.checked.BodyPart.{BodyPart, BodyPart-F, fold-BodyPart}
use Rattle.program_check.specs.declared.checked.BodyPart.TheOpen as one
use Rattle.program_check.specs.Body.{KeyExp, local, global, PlainBody, PlainBodyPart, expression, word, name, handler, child, children, props, slots, bodies_in, body_from}

abbrev pub plain_body_key : KeyExpr → KeyExp
plain_body_key (Local e) = local (exp_of e)
plain_body_key (Global e) = global (exp_of e)

abbrev pub plain_body_key_member : Option (Box KeyExpr) → Option KeyExp
plain_body_key_member key = option_map (λ k. plain_body_key k.value) key

-- one level, whose templates and members are plain data already
abbrev pub body_step : Body-F PlainBodyPart PlainBody → PlainBody
body_step b = body_from b.w (plain_body_key_member b.key) (map (option_map (λ p. p.value)) b.members.items)

abbrev pub part_step : BodyPart-F PlainBodyPart PlainBody → PlainBodyPart
part_step (one.Expression e) = expression (exp_of e)
part_step (one.Word w) = word w
part_step (one.Name i) = name i
part_step (one.Handler sets) = handler sets
part_step (one.Child b) = child b.value
part_step (one.Children bs) = children (bodies_in bs.items)
part_step (one.Props es) = props (map exp_of es.items)
part_step (one.Slots bs) = slots (bodies_in bs.items)

-- a checked template, and a member, as plain data
abbrev pub plain_body : Body → PlainBody
plain_body = fold-Body PlainBodyPart PlainBody part_step body_step

abbrev pub plain_body_part : BodyPart → PlainBodyPart
plain_body_part = fold-BodyPart PlainBodyPart PlainBody part_step body_step

-- a member of a checked template, where it is given; and the members
abbrev pub plain_body_member : Option (Box BodyPart) → Option PlainBodyPart
plain_body_member p = option_map (λ p. plain_body_part p.value) p

abbrev pub plain_members : List (Option (Box BodyPart)) → List (Option PlainBodyPart)
plain_members ps = map plain_body_member ps

-- a prop or a slot's content with its place
abbrev pub plain_prop_given : ℕ × Expr → ℕ × Exp
plain_prop_given g = (g.0, exp_of g.1)

abbrev pub plain_content_given : ℕ × Body → ℕ × PlainBody
plain_content_given g = (g.0, plain_body g.1)
