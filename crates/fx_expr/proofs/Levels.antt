-- An expression follows from its level: so two with equal levels are the same.
use Rattle.std.specs.Prelude.{◌≡◌, ◌↔◌, ℕ, Bool, false, IsTrue, Option, unwrap_or}
use Rattle.std.proofs.Common.{refl, sym, ap, ◌∙◌}
use Rattle.fx_expr.specs.declared.values.Value.{Value}
use Rattle.fx_expr.specs.declared.values.Value.TheVariants as value
use Rattle.fx_expr.specs.declared.sameness.ExprForm.{ExprForm}
use Rattle.fx_expr.specs.declared.sameness.ExprForm.TheVariants as form
use Rattle.fx_expr.specs.declared.opened.One.TheVariants as one
use Rattle.fx_expr.specs.declared.opened.Two.TheVariants as two
use Rattle.fx_expr.specs.declared.opened.Three.TheVariants as three
use Rattle.fx_expr.specs.Exp.{Exp, literal, field, prop, variable, inherited, event_dx, event_dy, ints, texts, add, subtract, multiply, divide, rest, equal, less, both, either, negated, choose, cat, len, item, push, without, reversed, range, show, Exps, no_exps}
use Rattle.fx_expr.specs.Level.{Level, level_of}

abbrev operand : Option Exp → Exp
operand o = unwrap_or o event_dx

-- the form around its parts
abbrev form_around : ExprForm → ℕ → Option Value → Option Exps → Option Exp → Option Exp → Option Exp → Exp
form_around form.Literal i v l a b d = literal (unwrap_or v (value.Bool false))
form_around form.Field i v l a b d = field i
form_around form.Prop i v l a b d = prop i
form_around form.Var i v l a b d = variable i
form_around form.Inherit i v l a b d = inherited i
form_around form.EventDx i v l a b d = event_dx
form_around form.EventDy i v l a b d = event_dy
form_around form.Ints i v l a b d = ints (unwrap_or l no_exps)
form_around form.Texts i v l a b d = texts (unwrap_or l no_exps)
form_around (form.One one.Not) i v l a b d = negated (operand a)
form_around (form.One one.Len) i v l a b d = len (operand a)
form_around (form.One one.Reverse) i v l a b d = reversed (operand a)
form_around (form.One one.Range) i v l a b d = range (operand a)
form_around (form.One one.Show) i v l a b d = show (operand a)
form_around (form.Two two.Add) i v l a b d = add (operand a) (operand b)
form_around (form.Two two.Sub) i v l a b d = subtract (operand a) (operand b)
form_around (form.Two two.Mul) i v l a b d = multiply (operand a) (operand b)
form_around (form.Two two.Div) i v l a b d = divide (operand a) (operand b)
form_around (form.Two two.Mod) i v l a b d = rest (operand a) (operand b)
form_around (form.Two two.Equal) i v l a b d = equal (operand a) (operand b)
form_around (form.Two two.Less) i v l a b d = less (operand a) (operand b)
form_around (form.Two two.And) i v l a b d = both (operand a) (operand b)
form_around (form.Two two.Or) i v l a b d = either (operand a) (operand b)
form_around (form.Two two.Cat) i v l a b d = cat (operand a) (operand b)
form_around (form.Two two.Push) i v l a b d = push (operand a) (operand b)
form_around (form.Two two.Drop) i v l a b d = without (operand a) (operand b)
form_around (form.Three three.If) i v l a b d = choose (operand a) (operand b) (operand d)
form_around (form.Three three.At) i v l a b d = item (operand a) (operand b) (operand d)

abbrev exp_from : Level → Exp
exp_from l = form_around l.form l.place l.value l.items l.first l.second l.third

exp_from-level_of : (e : Exp) → exp_from (level_of e) ≡ e
exp_from-level_of (literal v) = refl
exp_from-level_of (field i) = refl
exp_from-level_of (prop i) = refl
exp_from-level_of (variable i) = refl
exp_from-level_of (inherited i) = refl
exp_from-level_of event_dx = refl
exp_from-level_of event_dy = refl
exp_from-level_of (ints es) = refl
exp_from-level_of (texts es) = refl
exp_from-level_of (negated a) = refl
exp_from-level_of (len a) = refl
exp_from-level_of (reversed a) = refl
exp_from-level_of (range a) = refl
exp_from-level_of (show a) = refl
exp_from-level_of (add a b) = refl
exp_from-level_of (subtract a b) = refl
exp_from-level_of (multiply a b) = refl
exp_from-level_of (divide a b) = refl
exp_from-level_of (rest a b) = refl
exp_from-level_of (equal a b) = refl
exp_from-level_of (less a b) = refl
exp_from-level_of (both a b) = refl
exp_from-level_of (either a b) = refl
exp_from-level_of (cat a b) = refl
exp_from-level_of (push a b) = refl
exp_from-level_of (without a b) = refl
exp_from-level_of (choose a b d) = refl
exp_from-level_of (item a b d) = refl

level_of_inj : (e f : Exp) → level_of e ≡ level_of f → e ≡ f
level_of_inj e f same = sym (exp_from-level_of e) ∙ ap exp_from same ∙ exp_from-level_of f

-- where all else is equal, two expressions are the same exactly where their last operands are
pub last_tells : (e f : Exp) (l m : Level) (b : Bool) → l ≡ level_of e → m ≡ level_of f
    → l.form ≡ m.form → l.place ≡ m.place → l.value ≡ m.value → l.items ≡ m.items → l.first ≡ m.first → l.second ≡ m.second
    → IsTrue b ↔ (l.third ≡ m.third) → IsTrue b ↔ (e ≡ f)
last_tells e f l m b is_l is_m p_form p_place p_value p_items p_first p_second tells = (
  λ t. let third = tells.0 t in
      let levels : l ≡ m = λ i. record { form = p_form i; place = p_place i; value = p_value i; items = p_items i; first = p_first i; second = p_second i; third = third i } in
      level_of_inj e f (sym is_l ∙ levels ∙ is_m),
  λ same. tells.1 (ap (λ (k : Level). k.third) (is_l ∙ ap level_of same ∙ sym is_m)),
)

-- where one part differs, so do the expressions
pub part_tells : {A : Type 0} (part : Level → A) (e f : Exp) (l m : Level) (b : Bool) → l ≡ level_of e → m ≡ level_of f
    → (part l ≡ part m → IsTrue b) → e ≡ f → IsTrue b
part_tells part e f l m b is_l is_m tells same = tells (ap part (is_l ∙ ap level_of same ∙ sym is_m))
