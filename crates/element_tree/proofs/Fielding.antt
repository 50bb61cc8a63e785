-- Fields by their names and types.
use Rattle.std.proofs.Common.{◌≡◌, ℕ, suc, ◌<◌, Bool, true, false, List, [], ◌∷◌, length, map, get_or, set, Option, Some, None, slice_get, refl, sym, ap, ◌∙◌, arith}
use Rattle.std.specs.List.{find, position_or_len}
use Rattle.std.specs.Str.{bytes_eq}
use Rattle.std.proofs.lemmas.List.{length-map, get_or-map, set-get_or, map-set, get_or_default}
use Rattle.std.proofs.lemmas.List.Folds.{find_at}
use Rattle.std.proofs.lemmas.List.Sums.{position_or_len_is}
use Rattle.std.proofs.lemmas.Option.{slice_get_read, slice_get_past}
use Rattle.fx_expr.specs.declared.values.Ty.{Ty}
use Rattle.fx_expr.specs.declared.values.Ty.TheVariants as ty
use Rattle.fx_expr.specs.declared.values.Value.{Value}
use Rattle.fx_expr.specs.declared.values.Value.TheVariants as value
use Rattle.fx_expr.specs.Value.{type_of}
use Rattle.element_tree.specs.Element.{Element}
use Rattle.element_tree.specs.Fields.{fitted, is_named, with_fitted, with_found, with_declared}

-- the first field of a name
pub first_named : (fields : List (List ℕ × Ty)) (name : List ℕ) (i : ℕ) (x : List ℕ × Ty) → i < length fields → x ≡ get_or fields i x → bytes_eq name x.0 ≡ true
    → ((k : ℕ) → k < i → is_named name (get_or fields k ([], ty.Int)) ≡ false) → position_or_len (is_named name) fields ≡ i
first_named fields name i x within at named before =
    position_or_len_is (is_named name) fields i ([], ty.Int) (omega arith) before
    (λ lt. ap (is_named name) (get_or_default fields i ([], ty.Int) x lt ∙ sym at) ∙ named)

-- none of them
pub none_named : (fields : List (List ℕ × Ty)) (name : List ℕ) (n : ℕ) → n ≡ length fields → ((k : ℕ) → k < n → is_named name (get_or fields k ([], ty.Int)) ≡ false)
    → find (is_named name) fields ≡ None
none_named fields name n all before =
    let place = position_or_len_is (is_named name) fields n ([], ty.Int) (omega arith) before (λ lt. absurd (omega arith)) in
    find_at (is_named name) fields ∙ ap (slice_get fields) place ∙ slice_get_past fields n (omega arith)

-- what a value becomes in a field that was found
pub with_declared-found : (e : Element) (ds : List (List ℕ × Ty)) (name : List ℕ) (v : Value) (i : ℕ) (d : List ℕ × Ty) → i < length ds → d ≡ get_or ds i d → position_or_len (is_named name) ds ≡ i
    → with_declared e ds name v ≡ with_fitted e i (fitted d.1 v)
with_declared-found e [] name v i d within at place = absurd (omega arith)
with_declared-found e (x ∷ xs) name v i d within at place =
    let found : find (is_named name) (x ∷ xs) ≡ Some d = find_at (is_named name) (x ∷ xs) ∙ ap (slice_get (x ∷ xs)) place ∙ slice_get_read (x ∷ xs) (length (x ∷ xs)) i d refl within at in
    ap (λ o. with_found e o (position_or_len (is_named name) (x ∷ xs)) v) found ∙ ap (λ n. with_fitted e n (fitted d.1 v)) place

-- what fits has the type
pub fitted_type : (t : Ty) (v w : Value) → fitted t v ≡ Some w → type_of w ≡ t
fitted_type ty.Int (value.Int n) w e = let is : value.Int n ≡ w = (cc) in sym (ap type_of is)
fitted_type ty.Bool (value.Bool n) w e = let is : value.Bool n ≡ w = (cc) in sym (ap type_of is)
fitted_type ty.Text (value.Text n) w e = let is : value.Text n ≡ w = (cc) in sym (ap type_of is)
fitted_type ty.Ints (value.Ints n) w e = let is : value.Ints n ≡ w = (cc) in sym (ap type_of is)
fitted_type ty.Ints (value.Texts []) w e = let is : value.Ints [] ≡ w = (cc) in sym (ap type_of is)
fitted_type ty.Texts (value.Texts n) w e = let is : value.Texts n ≡ w = (cc) in sym (ap type_of is)
fitted_type ty.Texts (value.Ints []) w e = let is : value.Texts [] ≡ w = (cc) in sym (ap type_of is)
fitted_type _ _ w e = absurd (cc)

pub none_from : {X : Type 0} (o : Option X) → ((x : X) → o ≡ Some x → ⊥) → o ≡ None
none_from None not_some = refl
none_from (Some x) not_some = absurd (not_some x refl)

-- fields that are declared, with another value of one field's type
pub still_declared : (ds : List (List ℕ × Ty)) (fields : List Value) (i : ℕ) (d : List ℕ × Ty) (v : Value) → map type_of fields ≡ map (λ (x : List ℕ × Ty). x.1) ds → i < length ds → d ≡ get_or ds i d
    → type_of v ≡ d.1 → (i < length fields) × (map type_of (set fields i v) ≡ map (λ (x : List ℕ × Ty). x.1) ds)
still_declared ds fields i d v declared within at typed =
    let as_many : length fields ≡ length ds = sym (length-map fields type_of) ∙ ap length declared ∙ length-map ds (λ (x : List ℕ × Ty). x.1) in
    let here : get_or (map (λ (x : List ℕ × Ty). x.1) ds) i d.1 ≡ d.1 = get_or-map (λ (x : List ℕ × Ty). x.1) ds i d d.1 within ∙ ap (λ (x : List ℕ × Ty). x.1) (sym at) in (
      omega arith,
      map-set type_of fields i v ∙ ap (λ ts. set ts i (type_of v)) declared ∙ ap (set (map (λ (x : List ℕ × Ty). x.1) ds) i) (typed ∙ sym here) ∙ set-get_or (map (λ (x : List ℕ × Ty). x.1) ds) i d.1,
    )

-- values of the same types, one by one
pub same_types : (xs ys : List Value) → length xs ≡ length ys → ((k : ℕ) → k < length xs → type_of (get_or xs k (value.Bool false)) ≡ type_of (get_or ys k (value.Bool false))) → map type_of xs ≡ map type_of ys
same_types [] [] many each = refl
same_types [] (y ∷ ys) many each = absurd (omega arith)
same_types (x ∷ xs) [] many each = absurd (omega arith)
same_types (x ∷ xs) (y ∷ ys) many each =
    let first : type_of x ≡ type_of y = each 0 (omega arith) in
    let rest = same_types xs ys (omega arith) (λ k lt. each (suc k) (omega arith)) in
    cc

pub type_there : (xs ys : List Value) (i : ℕ) (x y : Value) → i < length xs → length xs ≡ length ys → x ≡ get_or xs i x → y ≡ get_or ys i y → map type_of xs ≡ map type_of ys → type_of x ≡ type_of y
type_there xs ys i x y within many here there same =
    let lt : i < length ys = omega arith in
    ap type_of here
    ∙ sym (get_or-map type_of xs i x (type_of x) within)
    ∙ ap (λ ts. get_or ts i (type_of x)) same
    ∙ get_or-map type_of ys i y (type_of x) lt
    ∙ ap type_of (sym there)
