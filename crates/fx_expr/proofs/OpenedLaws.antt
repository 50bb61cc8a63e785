-- What holds of the forms with operands, whichever form it is.
use Rattle.std.proofs.Common.{◌≡◌, refl, sym, ◌∙◌, ap, subst, ℕ, Some, Result, Ok, Err, IfOk}
use Rattle.fx_expr.specs.declared.values.Value.{Value}
use Rattle.fx_expr.specs.declared.values.Ty.{Ty}
use Rattle.fx_expr.specs.declared.values.Ty.TheVariants as ty
use Rattle.fx_expr.specs.declared.opened.One.{One}
use Rattle.fx_expr.specs.declared.opened.One.TheVariants as one
use Rattle.fx_expr.specs.declared.opened.Two.{Two}
use Rattle.fx_expr.specs.declared.opened.Two.TheVariants as two
use Rattle.fx_expr.specs.declared.opened.Three.{Three}
use Rattle.fx_expr.specs.declared.opened.Three.TheVariants as three
use Rattle.fx_expr.specs.Value.{type_of}
use Rattle.fx_expr.specs.Exp.{Exp, Exps, ints, texts}
use Rattle.fx_expr.specs.Closed.{closed}
use Rattle.fx_expr.specs.Level.{level_of, named}
use Rattle.fx_expr.specs.declared.sameness.ExprForm.TheVariants as form
use Rattle.fx_expr.specs.Scope.{Env, Types, types_in}
use Rattle.fx_expr.specs.ValueOf.{value_of}
use Rattle.fx_expr.specs.Typed.{item_type, IsTyped, AreTyped, HasType, IsList, IsJoinable}
use Rattle.fx_expr.specs.SomeForm.{reads_inherited}
use Rattle.fx_expr.specs.Forms.{one_of, two_of, three_of, one_value, two_value, TakesOne, TakesTwo}
use Rattle.fx_expr.specs.TypeLaws.{value_of-typed}

-- ---- an expression with a type: so have its operands

one_typed : (T : Types) (f : One) (a : Exp) (t : Ty) → IsTyped T (one_of f a) t → HasType T a
one_typed T one.Not a t h = (ty.Bool, h.1)
one_typed T one.Len a t h = (h.1.0, h.1.2)
one_typed T one.Reverse a t h = (t, h.1)
one_typed T one.Range a t h = (ty.Int, h.1)
one_typed T one.Show a t h = (ty.Int, h.1)

two_typed : (T : Types) (f : Two) (a b : Exp) (t : Ty) → IsTyped T (two_of f a b) t → HasType T a × HasType T b
two_typed T two.Add a b t h = ((ty.Int, h.1), (ty.Int, h.2))
two_typed T two.Sub a b t h = ((ty.Int, h.1), (ty.Int, h.2))
two_typed T two.Mul a b t h = ((ty.Int, h.1), (ty.Int, h.2))
two_typed T two.Div a b t h = ((ty.Int, h.1), (ty.Int, h.2))
two_typed T two.Mod a b t h = ((ty.Int, h.1), (ty.Int, h.2))
two_typed T two.Equal a b t h = ((h.1.0, h.1.1), (h.1.0, h.1.2))
two_typed T two.Less a b t h = ((ty.Int, h.1), (ty.Int, h.2))
two_typed T two.And a b t h = ((ty.Bool, h.1), (ty.Bool, h.2))
two_typed T two.Or a b t h = ((ty.Bool, h.1), (ty.Bool, h.2))
two_typed T two.Cat a b t h = ((t, h.1), (t, h.2))
two_typed T two.Push a b t h = ((t, h.2), (h.0, h.3))
two_typed T two.Drop a b t h = ((t, h.1), (ty.Int, h.2))

three_typed : (T : Types) (f : Three) (a b c : Exp) (t : Ty) → IsTyped T (three_of f a b c) t → HasType T a × HasType T b × HasType T c
three_typed T three.If a b c t h = ((ty.Bool, h.0), (t, h.1), (t, h.2))
three_typed T three.At a b c t h = ((h.0.0, h.0.2), (ty.Int, h.1), (t, h.2))

pub operand : (T : Types) (e : Exp) (f : One) (a : Exp) → one_of f a ≡ e → HasType T e → HasType T a
operand T e f a is h = one_typed T f a h.0 (subst (λ x. IsTyped T x h.0) (sym is) h.1)

pub operands : (T : Types) (e : Exp) (f : Two) (a b : Exp) → two_of f a b ≡ e → HasType T e → HasType T a × HasType T b
operands T e f a b is h = two_typed T f a b h.0 (subst (λ x. IsTyped T x h.0) (sym is) h.1)

pub three_operands : (T : Types) (e : Exp) (f : Three) (a b c : Exp) → three_of f a b c ≡ e → HasType T e → HasType T a × HasType T b × HasType T c
three_operands T e f a b c is h = three_typed T f a b c h.0 (subst (λ x. IsTyped T x h.0) (sym is) h.1)

-- ---- closing a form closes its operands

closing_one : (f : One) (a : Exp) (s : Env) → one_of f (closed a s) ≡ closed (one_of f a) s
closing_one one.Not a s = refl
closing_one one.Len a s = refl
closing_one one.Reverse a s = refl
closing_one one.Range a s = refl
closing_one one.Show a s = refl

closing_two : (f : Two) (a b : Exp) (s : Env) → two_of f (closed a s) (closed b s) ≡ closed (two_of f a b) s
closing_two two.Add a b s = refl
closing_two two.Sub a b s = refl
closing_two two.Mul a b s = refl
closing_two two.Div a b s = refl
closing_two two.Mod a b s = refl
closing_two two.Equal a b s = refl
closing_two two.Less a b s = refl
closing_two two.And a b s = refl
closing_two two.Or a b s = refl
closing_two two.Cat a b s = refl
closing_two two.Push a b s = refl
closing_two two.Drop a b s = refl

closing_three : (f : Three) (a b c : Exp) (s : Env) → three_of f (closed a s) (closed b s) (closed c s) ≡ closed (three_of f a b c) s
closing_three three.If a b c s = refl
closing_three three.At a b c s = refl

pub closed_one : (made e : Exp) (f : One) (a x : Exp) (s : Env) → one_of f a ≡ e → x ≡ closed a s → made ≡ one_of f x → made ≡ closed e s
closed_one made e f a x s is p m = m ∙ ap (one_of f) p ∙ closing_one f a s ∙ ap (λ y. closed y s) is

pub closed_two : (made e : Exp) (f : Two) (a b x y : Exp) (s : Env) → two_of f a b ≡ e → x ≡ closed a s → y ≡ closed b s
    → made ≡ two_of f x y → made ≡ closed e s
closed_two made e f a b x y s is p q m =
    m ∙ ap (λ z. two_of f z y) p ∙ ap (two_of f (closed a s)) q ∙ closing_two f a b s ∙ ap (λ z. closed z s) is

pub closed_three : (made e : Exp) (f : Three) (a b c x y z : Exp) (s : Env) → three_of f a b c ≡ e
    → x ≡ closed a s → y ≡ closed b s → z ≡ closed c s → made ≡ three_of f x y z → made ≡ closed e s
closed_three made e f a b c x y z s is p q r m =
    m ∙ ap (λ w. three_of f w y z) p ∙ ap (λ w. three_of f (closed a s) w z) q ∙ ap (three_of f (closed a s) (closed b s)) r
    ∙ closing_three f a b c s ∙ ap (λ w. closed w s) is

-- ---- the level of a form over operands

pub one_level : (f : One) (a : Exp) → record (named (form.One f) 0) { first = Some a } ≡ level_of (one_of f a)
one_level one.Not a = refl
one_level one.Len a = refl
one_level one.Reverse a = refl
one_level one.Range a = refl
one_level one.Show a = refl

pub two_level : (f : Two) (a b : Exp) → record (named (form.Two f) 0) { first = Some a; second = Some b } ≡ level_of (two_of f a b)
two_level two.Add a b = refl
two_level two.Sub a b = refl
two_level two.Mul a b = refl
two_level two.Div a b = refl
two_level two.Mod a b = refl
two_level two.Equal a b = refl
two_level two.Less a b = refl
two_level two.And a b = refl
two_level two.Or a b = refl
two_level two.Cat a b = refl
two_level two.Push a b = refl
two_level two.Drop a b = refl

pub three_level : (f : Three) (a b c : Exp) → record (named (form.Three f) 0) { first = Some a; second = Some b; third = Some c } ≡ level_of (three_of f a b c)
three_level three.If a b c = refl
three_level three.At a b c = refl

-- ---- the value of a form is that by its operands' values, which have types that it takes

one_value_of : (f : One) (a : Exp) (s : Env) → one_value f (value_of a s) ≡ value_of (one_of f a) s
one_value_of one.Not a s = refl
one_value_of one.Len a s = refl
one_value_of one.Reverse a s = refl
one_value_of one.Range a s = refl
one_value_of one.Show a s = refl

two_value_of : (f : Two) (a b : Exp) (s : Env) → two_value f (value_of a s) (value_of b s) ≡ value_of (two_of f a b) s
two_value_of two.Add a b s = refl
two_value_of two.Sub a b s = refl
two_value_of two.Mul a b s = refl
two_value_of two.Div a b s = refl
two_value_of two.Mod a b s = refl
two_value_of two.Equal a b s = refl
two_value_of two.Less a b s = refl
two_value_of two.And a b s = refl
two_value_of two.Or a b s = refl
two_value_of two.Cat a b s = refl
two_value_of two.Push a b s = refl
two_value_of two.Drop a b s = refl

list_type : (a : Exp) (s : Env) (t : Ty) → IsList t → IsTyped (types_in s) a t → IsList (type_of (value_of a s))
list_type a s t l h = subst IsList (sym (value_of-typed a s t h)) l

one_taken : (f : One) (a : Exp) (s : Env) (t : Ty) → IsTyped (types_in s) (one_of f a) t → TakesOne f (type_of (value_of a s))
one_taken one.Not a s t h = value_of-typed a s ty.Bool h.1
one_taken one.Len a s t h = list_type a s h.1.0 h.1.1 h.1.2
one_taken one.Reverse a s t h = list_type a s t h.0 h.1
one_taken one.Range a s t h = value_of-typed a s ty.Int h.1
one_taken one.Show a s t h = value_of-typed a s ty.Int h.1

two_taken : (f : Two) (a b : Exp) (s : Env) (t : Ty) → IsTyped (types_in s) (two_of f a b) t → TakesTwo f (type_of (value_of a s)) (type_of (value_of b s))
two_taken two.Add a b s t h = (value_of-typed a s ty.Int h.1, value_of-typed b s ty.Int h.2)
two_taken two.Sub a b s t h = (value_of-typed a s ty.Int h.1, value_of-typed b s ty.Int h.2)
two_taken two.Mul a b s t h = (value_of-typed a s ty.Int h.1, value_of-typed b s ty.Int h.2)
two_taken two.Div a b s t h = (value_of-typed a s ty.Int h.1, value_of-typed b s ty.Int h.2)
two_taken two.Mod a b s t h = (value_of-typed a s ty.Int h.1, value_of-typed b s ty.Int h.2)
two_taken two.Equal a b s t h = value_of-typed b s h.1.0 h.1.2 ∙ sym (value_of-typed a s h.1.0 h.1.1)
two_taken two.Less a b s t h = (value_of-typed a s ty.Int h.1, value_of-typed b s ty.Int h.2)
two_taken two.And a b s t h = (value_of-typed a s ty.Bool h.1, value_of-typed b s ty.Bool h.2)
two_taken two.Or a b s t h = (value_of-typed a s ty.Bool h.1, value_of-typed b s ty.Bool h.2)
two_taken two.Cat a b s t h =
    (subst IsJoinable (sym (value_of-typed a s t h.1)) h.0, value_of-typed b s t h.2 ∙ sym (value_of-typed a s t h.1))
two_taken two.Push a b s t h = ap item_type (value_of-typed a s t h.2) ∙ h.1 ∙ ap Some (sym (value_of-typed b s h.0 h.3))
two_taken two.Drop a b s t h = (list_type a s t h.0 h.1, value_of-typed b s ty.Int h.2)

pub takes_operand : (e : Exp) (f : One) (a : Exp) (s : Env) (v : Value) → one_of f a ≡ e → HasType (types_in s) e → v ≡ value_of a s → TakesOne f (type_of v)
takes_operand e f a s v is h p =
    subst (λ w. TakesOne f (type_of w)) (sym p) (one_taken f a s h.0 (subst (λ x. IsTyped (types_in s) x h.0) (sym is) h.1))

pub takes_operands : (e : Exp) (f : Two) (a b : Exp) (s : Env) (v w : Value) → two_of f a b ≡ e → HasType (types_in s) e
    → v ≡ value_of a s → w ≡ value_of b s → TakesTwo f (type_of v) (type_of w)
takes_operands e f a b s v w is h p q =
    subst (λ x. TakesTwo f (type_of x) (type_of w)) (sym p) (subst (λ x. TakesTwo f (type_of (value_of a s)) (type_of x)) (sym q)
    (two_taken f a b s h.0 (subst (λ x. IsTyped (types_in s) x h.0) (sym is) h.1)))

pub one_result : {E : Type 0} (r : Result Value E) (e : Exp) (f : One) (a : Exp) (s : Env) (v : Value) → one_of f a ≡ e → v ≡ value_of a s
    → IfOk r (λ x. x ≡ one_value f v) → IfOk r (λ x. x ≡ value_of e s)
one_result (Ok x) e f a s v is p made = made ∙ ap (one_value f) p ∙ one_value_of f a s ∙ ap (λ y. value_of y s) is
one_result (Err x) e f a s v is p made = tt

pub two_result : {E : Type 0} (r : Result Value E) (e : Exp) (f : Two) (a b : Exp) (s : Env) (v w : Value) → two_of f a b ≡ e → v ≡ value_of a s → w ≡ value_of b s
    → IfOk r (λ x. x ≡ two_value f v w) → IfOk r (λ x. x ≡ value_of e s)
two_result (Ok x) e f a b s v w is p q made =
    made ∙ ap (λ y. two_value f y w) p ∙ ap (two_value f (value_of a s)) q ∙ two_value_of f a b s ∙ ap (λ y. value_of y s) is
two_result (Err x) e f a b s v w is p q made = tt

pub settled : (e : Exp) (f : Two) (a b : Exp) (s : Env) (v : Value) → two_of f a b ≡ e → v ≡ value_of a s
    → ((w : Value) → two_value f v w ≡ v) → v ≡ value_of e s
settled e f a b s v is p same =
    sym (same (value_of b s)) ∙ ap (λ y. two_value f y (value_of b s)) p ∙ two_value_of f a b s ∙ ap (λ y. value_of y s) is

-- ---- an inherited name stands in a form where it stands in an operand

pub reads_one : (i : ℕ) (f : One) (a : Exp) → reads_inherited i (one_of f a) ≡ reads_inherited i a
reads_one i one.Not a = refl
reads_one i one.Len a = refl
reads_one i one.Reverse a = refl
reads_one i one.Range a = refl
reads_one i one.Show a = refl

-- ---- the items of a list that is typed

pub ints_typed : (T : Types) (e : Exp) (es : Exps) → ints es ≡ e → HasType T e → AreTyped T es ty.Int
ints_typed T e es is h = let k : IsTyped T (ints es) h.0 = subst (λ x. IsTyped T x h.0) (sym is) h.1 in k.1

pub texts_typed : (T : Types) (e : Exp) (es : Exps) → texts es ≡ e → HasType T e → AreTyped T es ty.Text
texts_typed T e es is h = let k : IsTyped T (texts es) h.0 = subst (λ x. IsTyped T x h.0) (sym is) h.1 in k.1

-- ---- what the forms over three operands take

pub condition_typed : (T : Types) (c a b : Exp) → HasType T (three_of three.If c a b) → IsTyped T c ty.Bool
condition_typed T c a b h = let k : IsTyped T c ty.Bool × IsTyped T a h.0 × IsTyped T b h.0 = h.1 in k.0

pub list_typed_in : (T : Types) (l i d : Exp) → HasType T (three_of three.At l i d) → (u : Ty) × IsList u × IsTyped T l u
list_typed_in T l i d h =
    let k : ((u : Ty) × (item_type u ≡ Some h.0) × IsTyped T l u) × IsTyped T i ty.Int × IsTyped T d h.0 = h.1 in
    (k.0.0, (h.0, k.0.1), k.0.2)

pub index_typed : (T : Types) (l i d : Exp) → HasType T (three_of three.At l i d) → IsTyped T i ty.Int
index_typed T l i d h =
    let k : ((u : Ty) × (item_type u ≡ Some h.0) × IsTyped T l u) × IsTyped T i ty.Int × IsTyped T d h.0 = h.1 in k.1
