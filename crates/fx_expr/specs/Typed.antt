-- When an expression has a type, where the names in scope have theirs.
use Rattle.std.specs.Prelude.{◌≡◌, Option, Some, None, slice_get}
use Rattle.fx_expr.specs.declared.values.Ty.{Ty}
use Rattle.fx_expr.specs.declared.values.Ty.TheVariants as ty
use Rattle.fx_expr.specs.Value.{type_of}
use Rattle.fx_expr.specs.Exp.{Exp, literal, field, prop, variable, inherited, event_dx, event_dy, ints, texts, add, subtract, multiply, divide, rest, equal, less, both, either, negated, choose, cat, len, item, push, without, reversed, range, show, Exps, no_exps, exp}
use Rattle.fx_expr.specs.Scope.{Types}

-- the type of a list's items, where it is the type of a list
abbrev pub item_type : Ty → Option Ty
item_type ty.Ints = Some ty.Int
item_type ty.Texts = Some ty.Text
item_type _ = None

-- a list's type
abbrev pub IsList : Ty → Type 0
IsList t = (u : Ty) × (item_type t ≡ Some u)

-- the types that can be joined: a text's, and a list's
abbrev pub IsJoinable : Ty → Type 0
IsJoinable ty.Text = Unit {0}
IsJoinable ty.Ints = Unit {0}
IsJoinable ty.Texts = Unit {0}
IsJoinable _ = ⊥

abbrev mutual
  pub IsTyped : Types → Exp → Ty → Type 0
  IsTyped T (literal v) t = t ≡ type_of v
  IsTyped T (field i) t = slice_get T.fields i ≡ Some t
  IsTyped T (prop i) t = slice_get T.props i ≡ Some t
  IsTyped T (variable i) t = slice_get T.vars i ≡ Some t
  IsTyped T (inherited i) t = slice_get T.inherited i ≡ Some t
  IsTyped T event_dx t = t ≡ ty.Int
  IsTyped T event_dy t = t ≡ ty.Int
  IsTyped T (ints es) t = (t ≡ ty.Ints) × AreTyped T es ty.Int
  IsTyped T (texts es) t = (t ≡ ty.Texts) × AreTyped T es ty.Text
  IsTyped T (add a b) t = (t ≡ ty.Int) × IsTyped T a ty.Int × IsTyped T b ty.Int
  IsTyped T (subtract a b) t = (t ≡ ty.Int) × IsTyped T a ty.Int × IsTyped T b ty.Int
  IsTyped T (multiply a b) t = (t ≡ ty.Int) × IsTyped T a ty.Int × IsTyped T b ty.Int
  IsTyped T (divide a b) t = (t ≡ ty.Int) × IsTyped T a ty.Int × IsTyped T b ty.Int
  IsTyped T (rest a b) t = (t ≡ ty.Int) × IsTyped T a ty.Int × IsTyped T b ty.Int
  IsTyped T (equal a b) t = (t ≡ ty.Bool) × ((u : Ty) × IsTyped T a u × IsTyped T b u)
  IsTyped T (less a b) t = (t ≡ ty.Bool) × IsTyped T a ty.Int × IsTyped T b ty.Int
  IsTyped T (both a b) t = (t ≡ ty.Bool) × IsTyped T a ty.Bool × IsTyped T b ty.Bool
  IsTyped T (either a b) t = (t ≡ ty.Bool) × IsTyped T a ty.Bool × IsTyped T b ty.Bool
  IsTyped T (negated a) t = (t ≡ ty.Bool) × IsTyped T a ty.Bool
  IsTyped T (choose c a b) t = IsTyped T c ty.Bool × IsTyped T a t × IsTyped T b t
  IsTyped T (cat a b) t = IsJoinable t × IsTyped T a t × IsTyped T b t
  IsTyped T (len l) t = (t ≡ ty.Int) × ((u : Ty) × IsList u × IsTyped T l u)
  IsTyped T (item l i d) t = ((u : Ty) × (item_type u ≡ Some t) × IsTyped T l u) × IsTyped T i ty.Int × IsTyped T d t
  IsTyped T (push l x) t = (u : Ty) × (item_type t ≡ Some u) × IsTyped T l t × IsTyped T x u
  IsTyped T (without l i) t = IsList t × IsTyped T l t × IsTyped T i ty.Int
  IsTyped T (reversed l) t = IsList t × IsTyped T l t
  IsTyped T (range n) t = (t ≡ ty.Ints) × IsTyped T n ty.Int
  IsTyped T (show n) t = (t ≡ ty.Text) × IsTyped T n ty.Int

  -- each item of a list has the type
  pub AreTyped : Types → Exps → Ty → Type 0
  AreTyped T no_exps t = Unit {0}
  AreTyped T (exp e es) t = IsTyped T e t × AreTyped T es t

-- an expression has some type
abbrev pub HasType : Types → Exp → Type 0
HasType T e = (t : Ty) × IsTyped T e t
