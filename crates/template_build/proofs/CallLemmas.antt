-- A component of a checked program can be built where its names have values, and so can a root.
use Rattle.std.proofs.Common.{◌≡◌, ℕ, zero, suc, List, [], ◌∷◌, map, length, take, get_or, Some, Result, Ok, Err, IfOk, slice_get, ap, sym, subst, refl, ◌∙◌}
use Rattle.fx_expr.specs.declared.exprs.Expr.{Expr}
use Rattle.fx_expr.specs.declared.values.Value.{Value}
use Rattle.fx_expr.specs.declared.values.Ty.{Ty}
use Rattle.fx_expr.specs.Exp.{Exp}
use Rattle.fx_expr.specs.Scope.{Env, Types, types_in}
use Rattle.fx_expr.specs.Typed.{IsTyped}
use Rattle.fx_expr.specs.Value.{type_of}
use Rattle.fx_expr.specs.ValueOf.{value_of}
use Rattle.fx_expr.specs.View.{exp_of}
use Rattle.fx_expr.specs.TypeLaws.{value_of-typed}
use Rattle.expr_check.specs.Names as names
use Rattle.expr_check.specs.Sight.{Sight}
use Rattle.program_form.specs.declared.kinds.ChildSort.TheVariants as stands
use Rattle.program_check.specs.declared.checked.CheckedComponent.{CheckedComponent}
use Rattle.program_check.specs.declared.checked.CheckedParts.{CheckedParts}
use Rattle.program_check.specs.declared.places.Amount.TheVariants.{One}
use Rattle.program_check.specs.Body.{PlainBody}
use Rattle.program_check.specs.Checked.{PlainCheckedComponent, PlainChecked, signature_of}
use Rattle.program_check.specs.BodyView.{plain_body}
use Rattle.program_check.specs.CheckedView.{plain_component, plain_checked}
use Rattle.program_check.specs.Judged.{position}
use Rattle.program_check.specs.Place.{Signature}
use Rattle.program_check.specs.TypedBody.{AreTypedInOrder}
use Rattle.program_check.specs.TypedChecked.{IsTypedComponent, IsTypedChecked, IsTypedRoot, body_surroundings, root_surroundings}
use Rattle.widget_model.specs.Plain.{PlainWidget, widgets_of}
use Rattle.widget_model.specs.Typed.{Sort, box, body_of, sort_of, AllAre, IsTypedWidget, AreTypedWidgets, AreTypedFields}
use Rattle.template_build.specs.Scene.{Scene, declaration_in, declaration_at, body_sort_at}
use Rattle.template_build.specs.Output.{output_of}
use Rattle.template_build.specs.Program.{widget_sort, declared_component, declarations_of, scene_in, props_alone, output_in_body, component_output, root_output, first_fields, initial_fields_of}
use Rattle.template_build.specs.Suits.{IsDeclared, Suits, IsBuiltIn, MayBuild, MayBegin}
use Rattle.template_build.specs.Wanted.{HaveTypes}
use Rattle.template_build.proofs.FineLists.{some_is}
use Rattle.template_build.proofs.FineTable.{AreGood, sorts_as}
use Rattle.template_build.proofs.FineChoices.{fine_body}

-- ---- lists

at_map : {A B : Type 0} (f : A → B) (xs : List A) (i : ℕ) (x : A) → slice_get xs i ≡ Some x → slice_get (map f xs) i ≡ Some (f x)
at_map f [] i x h = cc h
at_map f (y ∷ ys) zero x h = ap (λ y. Some (f y)) (some_is y x h)
at_map f (y ∷ ys) (suc i) x h = at_map f ys i x h

of_map : {A B : Type 0} (f : A → B) (xs : List A) (i : ℕ) (y : B) → slice_get (map f xs) i ≡ Some y → (x : A) × (slice_get xs i ≡ Some x) × (y ≡ f x)
of_map f [] i y h = cc h
of_map f (x ∷ xs) zero y h = (x, refl, sym (some_is (f x) y h))
of_map f (x ∷ xs) (suc i) y h = of_map f xs i y h

of_take : {A : Type 0} (xs : List A) (n i : ℕ) (x : A) → slice_get (take n xs) i ≡ Some x → slice_get xs i ≡ Some x
of_take [] zero i x h = cc h
of_take [] (suc n) i x h = cc h
of_take (y ∷ ys) zero i x h = cc h
of_take (y ∷ ys) (suc n) zero x h = h
of_take (y ∷ ys) (suc n) (suc i) x h = of_take ys n i x h

-- the component at a place, as plain data
pub component_is : (cs : List CheckedComponent) (i : ℕ) (x : CheckedComponent) (k : PlainCheckedComponent) → slice_get (map plain_component cs) i ≡ Some k
    → x ≡ get_or cs i x → plain_component x ≡ k
component_is [] i x k h e = cc h
component_is (c ∷ cs) zero x k h e = ap plain_component e ∙ some_is (plain_component c) k h
component_is (c ∷ cs) (suc i) x k h e = component_is cs i x k h e

pub no_values : (vs : List Value) → map type_of vs ≡ [] → vs ≡ []
no_values [] h = refl
no_values (v ∷ vs) h = cc h

-- ---- the scene of a component, and of a root

declared_at : (c : PlainChecked) (i : ℕ) (k : PlainCheckedComponent) → IsTypedChecked c → slice_get c.components i ≡ Some k
    → IsDeclared (declarations_of c).components i (signature_of k)
declared_at c i k typed found = record {
  component = declared_component (length c.inherited.names) k;
  found = at_map (declared_component (length c.inherited.names)) c.components i k found;
  same = record { props = refl; slots = refl; either = (typed.components i k found).known; sort = refl };
}

earlier_declared : (c : PlainChecked) (n i : ℕ) (known : Signature) → IsTypedChecked c → slice_get (map signature_of (take n c.components)) i ≡ Some known
    → IsDeclared (declarations_of c).components i known
earlier_declared c n i known typed found =
    let x = of_map signature_of (take n c.components) i known found in
    subst (IsDeclared (declarations_of c).components i) (sym x.2) (declared_at c i x.0 typed (of_take c.components n i x.0 x.1))

all_declared : (c : PlainChecked) (i : ℕ) (known : Signature) → IsTypedChecked c → slice_get (map signature_of c.components) i ≡ Some known
    → IsDeclared (declarations_of c).components i known
all_declared c i known typed found =
    let x = of_map signature_of c.components i known found in
    subst (IsDeclared (declarations_of c).components i) (sym x.2) (declared_at c i x.0 typed x.1)

component_suits : (c : PlainChecked) (i n : ℕ) (s : Env) (given : List PlainWidget) → IsTypedChecked c → (m : MayBuild c i s given)
    → Suits (body_surroundings c.inherited.names (map signature_of (take i c.components)) m.component) (scene_in c s given n)
component_suits c i n s given typed m = record {
  names = m.names;
  filled = m.filled;
  provided = refl;
  components = λ place known e. earlier_declared c i place known typed e;
}

pub component_built : (c : PlainChecked) (i n : ℕ) (s : Env) (given : List PlainWidget) → IsTypedChecked c → (m : MayBuild c i s given)
    → IsBuiltIn (scene_in c s given n) m.component.body
component_built c i n s given typed m = record {
  there = body_surroundings c.inherited.names (map signature_of (take i c.components)) m.component;
  suits = component_suits c i n s given typed m;
  typed = (typed.components i m.component m.found).typed;
}

-- one widget, of a sort, which is typed where what is given is
pub record IsOneFine (sort : Sort) (s : Scene) (ws : List PlainWidget) : Type 0 where
  pub one : length ws ≡ 1
  pub sorts : AllAre sort (map (sort_of s.declared) ws)
  pub good : AreGood s ws

pub component_fine : (c : PlainChecked) (i n : ℕ) (s : Env) (given : List PlainWidget) → IsTypedChecked c → (m : MayBuild c i s given)
    → IsOneFine (widget_sort m.component.sort) (scene_in c s given n) (output_of m.component.body (scene_in c s given n))
component_fine c i n s given typed m =
    let t : IsTypedComponent c.inherited.names (map signature_of (take i c.components)) m.component = typed.components i m.component m.found in
    let S = body_surroundings c.inherited.names (map signature_of (take i c.components)) m.component in
    let f = fine_body m.component.body S (scene_in c s given n) (component_suits c i n s given typed m) m.boxes t.typed in
    record {
      one = f.one t.fits.amount;
      sorts = subst (λ sort. AllAre (widget_sort sort) (map (sort_of (declarations_of c)) (output_of m.component.body (scene_in c s given n)))) (sym t.sort) f.sorts;
      good = f.good;
    }

root_suits : (c : PlainChecked) → IsTypedChecked c → Suits (root_surroundings c) (scene_in c (props_alone []) [] 0)
root_suits c typed = record { names = refl; filled = refl; provided = refl; components = λ place known e. all_declared c place known typed e }

pub root_built : (c : PlainChecked) (b : PlainBody) → IsTypedChecked c → IsTypedRoot c b → IsBuiltIn (scene_in c (props_alone []) [] 0) b
root_built c b typed root = record { there = root_surroundings c; suits = root_suits c typed; typed = root.typed }

pub root_fine : (c : PlainChecked) (b : PlainBody) → IsTypedChecked c → IsTypedRoot c b → IsOneFine box (scene_in c (props_alone []) [] 0) (root_output c b)
root_fine c b typed root =
    let S = root_surroundings c in
    let s = scene_in c (props_alone []) [] 0 in
    let f = fine_body b S s (root_suits c typed) tt root.typed in
    record {
      one = f.one root.fits.amount;
      sorts = subst (λ sort. AllAre sort (map (sort_of (declarations_of c)) (output_of b s))) (sorts_as S s b (position One stands.Box) (root_suits c typed) tt root.fits root.typed) f.sorts;
      good = f.good;
    }

-- ---- the one widget of a list

pub one_sort : (sort : Sort) (s : Scene) (ws : List PlainWidget) (w : PlainWidget) → IsOneFine sort s ws → ws ≡ w ∷ [] → sort_of s.declared w ≡ sort
one_sort sort s ws w h e = (subst (λ ws. AllAre sort (map (sort_of s.declared) ws)) e h.sorts).0

pub one_typed : (sort : Sort) (s : Scene) (ws : List PlainWidget) (w : PlainWidget) → IsOneFine sort s ws → ws ≡ w ∷ []
    → AreTypedWidgets s.declared (widgets_of s.given) → IsTypedWidget s.declared w
one_typed sort s ws w h e g = (subst (λ ws. AreTypedWidgets s.declared (widgets_of ws)) e (h.good g)).0

one_alone : {A : Type 0} (xs : List A) → length xs ≡ 1 → (x : A) × (xs ≡ x ∷ [])
one_alone [] h = cc h
one_alone (x ∷ []) h = (x, refl)
one_alone (x ∷ (y ∷ ys)) h = cc h

pub root_alone : (c : PlainChecked) (b : PlainBody) → IsTypedChecked c → IsTypedRoot c b → (w : PlainWidget) × (root_output c b ≡ w ∷ [])
root_alone c b typed root = one_alone (root_output c b) (root_fine c b typed root).one

-- ---- first fields

fields_have : (S : Sight) (T : Types) (ts : List Ty) (es : List Exp) → T ≡ S.types → AreTypedInOrder S ts es → HaveTypes T es
fields_have S T [] [] same h = tt
fields_have S T [] (e ∷ es) same h = absurd h
fields_have S T (t ∷ ts) [] same h = absurd h
fields_have S T (t ∷ ts) (e ∷ es) same h = ((t, subst (λ T. IsTyped T e t) (sym same) h.0.0), fields_have S T ts es same h.1)

values_have : (S : Sight) (s : Env) (ts : List Ty) (es : List Exp) → types_in s ≡ S.types → AreTypedInOrder S ts es → map type_of (map (λ e. value_of e s) es) ≡ ts
values_have S s [] [] same h = refl
values_have S s [] (e ∷ es) same h = absurd h
values_have S s (t ∷ ts) [] same h = absurd h
values_have S s (t ∷ ts) (e ∷ es) same h =
    ap (λ u. u ∷ map type_of (map (λ e. value_of e s) es)) (value_of-typed e s t (subst (λ T. IsTyped T e t) (sym same) h.0.0))
    ∙ ap (λ us. t ∷ us) (values_have S s ts es same h.1)

abbrev types_alone : List Ty → Types
types_alone ts = record { fields = []; props = ts; vars = []; inherited = [] }

pub begin_types : (c : PlainChecked) (i : ℕ) (vs : List Value) → IsTypedChecked c → (m : MayBegin c i (map type_of vs))
    → HaveTypes (types_in (props_alone vs)) m.component.fields.values
begin_types c i vs typed m =
    let t : IsTypedComponent c.inherited.names (map signature_of (take i c.components)) m.component = typed.components i m.component m.found in
    fields_have _ (types_in (props_alone vs)) (names.types_in m.component.fields.names) m.component.fields.values (ap types_alone m.props) t.fields

pub begin_typed : (c : PlainChecked) (i : ℕ) (vs : List Value) → IsTypedChecked c → (m : MayBegin c i (map type_of vs))
    → AreTypedFields (declaration_at (declarations_of c) i) (map (λ e. value_of e (props_alone vs)) m.component.fields.values)
unfolding declared_at
begin_typed c i vs typed m =
    let t : IsTypedComponent c.inherited.names (map signature_of (take i c.components)) m.component = typed.components i m.component m.found in
    let d = declared_at c i m.component typed m.found in
    values_have _ (props_alone vs) (names.types_in m.component.fields.names) m.component.fields.values (ap types_alone m.props) t.fields
    ∙ ap (λ o. map (λ (f : List ℕ × Ty). f.1) (declaration_in o).fields) (sym d.found)

-- ---- the code's scene, body and fields

abbrev without_vars : Env → Env
without_vars e = record { fields = e.fields; props = e.props; vars = []; inherited = e.inherited; dx = e.dx; dy = e.dy }

abbrev with_vars : Env → List Value → Env
with_vars e vs = record { fields = e.fields; props = e.props; vars = vs; inherited = e.inherited; dx = e.dx; dy = e.dy }

code_scene : (parts c : CheckedParts) (e : Env) (given : List PlainWidget) (n : ℕ) → parts ≡ c → map type_of e.vars ≡ []
    → scene_in (plain_checked parts) (without_vars e) given n ≡ scene_in (plain_checked c) e given n
code_scene parts c e given n same none =
    ap (λ p. scene_in (plain_checked p) (without_vars e) given n) same
    ∙ ap (λ vs. scene_in (plain_checked c) (with_vars e vs) given n) (sym (no_values e.vars none))

code_component : (xs cs : List CheckedComponent) (i : ℕ) (x : CheckedComponent) (k : PlainCheckedComponent) → xs ≡ cs
    → slice_get (map plain_component cs) i ≡ Some k → x ≡ get_or xs i x → plain_component (get_or xs i x) ≡ k
code_component xs cs i x k same found e =
    ap plain_component (sym e) ∙ component_is cs i x k found (subst (λ ys. x ≡ get_or ys i x) same e)

-- a component's build: the code's template in the code's scene is the definition's
pub record IsComponentCode (c : PlainChecked) (i n : ℕ) (s : Env) (given : List PlainWidget) (b : PlainBody) (here : Scene) : Type 0 where
  pub built : IsBuiltIn here b
  pub certain : length (output_of b here) ≡ 1
  pub output : output_of b here ≡ component_output c i s given n
  pub fine : IsOneFine (body_sort_at (declarations_of c) i) (scene_in c s given n) (component_output c i s given n)

is_component : (c : PlainChecked) (i n : ℕ) (s : Env) (given : List PlainWidget) (b : PlainBody) (here : Scene) → IsTypedChecked c → (m : MayBuild c i s given)
    → b ≡ m.component.body → here ≡ scene_in c s given n → IsComponentCode c i n s given b here
unfolding declared_at
is_component c i n s given b here typed m same_body same_scene =
    let there = scene_in c s given n in
    let k = m.component in
    let fine = component_fine c i n s given typed m in
    let output : output_of b here ≡ output_of k.body there = ap (λ b. output_of b here) same_body ∙ ap (output_of k.body) same_scene in
    let whole : output_of k.body there ≡ component_output c i s given n = sym (ap (λ o. output_in_body o there) m.found) in
    let sort : widget_sort k.sort ≡ body_sort_at (declarations_of c) i = sym (ap body_of (declared_at c i k typed m.found).found) in
    record {
      built = subst (λ b. IsBuiltIn here b) (sym same_body) (subst (λ s. IsBuiltIn s k.body) (sym same_scene) (component_built c i n s given typed m));
      certain = ap length output ∙ fine.one;
      output = output ∙ whole;
      fine = record {
        one = ap length (sym whole) ∙ fine.one;
        sorts = subst (λ sort. AllAre sort (map (sort_of (declarations_of c)) (component_output c i s given n))) sort (subst (λ ws. AllAre (widget_sort k.sort) (map (sort_of (declarations_of c)) ws)) whole fine.sorts);
        good = subst (AreGood there) whole fine.good;
      };
    }

pub component_code : (parts c : CheckedParts) (xs : List CheckedComponent) (i n : ℕ) (x : CheckedComponent) (s : Env) (given : List PlainWidget)
    → IsTypedChecked (plain_checked c) → (m : MayBuild (plain_checked c) i s given) → parts ≡ c → xs ≡ parts.components.items → x ≡ get_or xs i x
    → IsComponentCode (plain_checked c) i n s given (plain_body (get_or xs i x).body) (scene_in (plain_checked parts) (without_vars s) given n)
component_code parts c xs i n x s given typed m same same_list e =
    is_component (plain_checked c) i n s given (plain_body (get_or xs i x).body) (scene_in (plain_checked parts) (without_vars s) given n) typed m
    (ap (λ k. k.body) (code_component xs c.components.items i x m.component (same_list ∙ ap (λ (p : CheckedParts). p.components.items) same) m.found e))
    (code_scene parts c s given n same (ap (λ (T : Types). T.vars) m.names))

-- a root's build
pub root_scene : (parts c : CheckedParts) → parts ≡ c → scene_in (plain_checked parts) (props_alone []) [] 0 ≡ scene_in (plain_checked c) (props_alone []) [] 0
root_scene parts c same = ap (λ p. scene_in (plain_checked p) (props_alone []) [] 0) same

-- first fields
pub code_fields : (parts c : CheckedParts) (xs : List CheckedComponent) (i : ℕ) (x : CheckedComponent) (k : PlainCheckedComponent) (es : List Expr) → parts ≡ c
    → xs ≡ parts.components.items → slice_get (plain_checked c).components i ≡ Some k → x ≡ get_or xs i x → es ≡ (get_or xs i x).fields.values.items
    → map exp_of es ≡ k.fields.values
code_fields parts c xs i x k es same same_list found e values =
    ap (map exp_of) values
    ∙ ap (λ k. k.fields.values) (code_component xs c.components.items i x k (same_list ∙ ap (λ (p : CheckedParts). p.components.items) same) found e)

pub initial_is : (c : PlainChecked) (i : ℕ) (vs : List Value) (m : MayBegin c i (map type_of vs))
    → initial_fields_of c i vs ≡ map (λ e. value_of e (props_alone vs)) m.component.fields.values
initial_is c i vs m = ap (λ o. first_fields o vs) m.found

-- what holds of an answer
pub on_ok : {A E : Type 0} (r : Result A E) (P Q : A → Type 0) → ((x : A) → P x → Q x) → IfOk r P → IfOk r Q
on_ok (Ok x) P Q f h = f x h
on_ok (Err e) P Q f h = h
