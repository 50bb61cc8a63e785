-- Values of inherited names, one of them changed for a while.
use Rattle.std.proofs.Common.{◌≡◌, ℕ, zero, suc, Some, List, [], ◌∷◌, map, slice_get, get_or, set, refl, sym, ap, ◌∙◌}
use Rattle.std.proofs.lemmas.List.{set-get_or}
use Rattle.fx_expr.specs.declared.values.Value.{Value}
use Rattle.fx_expr.specs.Value.{type_of}

set_twice : (vs : List Value) (i : ℕ) (v w : Value) → set (set vs i v) i w ≡ set vs i w
set_twice [] i v w = refl
set_twice (x ∷ vs) zero v w = refl
set_twice (x ∷ vs) (suc i) v w = ap (λ l. x ∷ l) (set_twice vs i v w)

pub set_back : (vs : List Value) (i : ℕ) (v old out : Value) → out ≡ old → old ≡ get_or vs i old → set (set vs i v) i out ≡ vs
set_back vs i v old out same at = set_twice vs i v out ∙ ap (set vs i) (same ∙ at) ∙ set-get_or vs i old

kept : (vs : List Value) (i : ℕ) (v : Value) → slice_get (map type_of vs) i ≡ Some (type_of v) → map type_of (set vs i v) ≡ map type_of vs
kept [] i v e = refl
kept (x ∷ vs) zero v e = let same : type_of v ≡ type_of x = cc in ap (λ t. t ∷ map type_of vs) same
kept (x ∷ vs) (suc i) v e = ap (λ l. type_of x ∷ l) (kept vs i v e)

pub types_kept : (vs : List Value) (i : ℕ) (v w : Value) → v ≡ w → slice_get (map type_of vs) i ≡ Some (type_of w) → map type_of (set vs i v) ≡ map type_of vs
types_kept vs i v w same e = kept vs i v (e ∙ ap (λ x. Some (type_of x)) (sym same))
