-- The definitions at small values, worked by hand.
use Rattle.std.proofs.Common.{◌≡◌, pos, negsuc, [], ◌∷◌, refl}
use Rattle.fx_expr.specs.declared.values.Value.TheVariants as value
use Rattle.fx_expr.specs.Limit.{last_boundary}
use Rattle.fx_expr.specs.Number.{saturated, floor_div, floor_mod}
use Rattle.fx_expr.specs.Exp.{field, prop, add}
use Rattle.fx_expr.specs.Scope.{Env, with_names}
use Rattle.fx_expr.specs.ValueOf.{value_of}
use Rattle.fx_expr.specs.Closed.{closed}
use Rattle.fx_expr.specs.Sets.{fields_after}

-- quotients and rests of 7, -7, 6 by 2 and -2, and at 0
pub record Quotients : Type 0 where
  pub q : floor_div (pos 7) (pos 2) ≡ pos 3
  pub q' : floor_div (negsuc 6) (pos 2) ≡ negsuc 3
  pub q'' : floor_div (pos 7) (negsuc 1) ≡ negsuc 3
  pub q''' : floor_div (negsuc 6) (negsuc 1) ≡ pos 3
  pub exact : floor_div (negsuc 5) (pos 2) ≡ negsuc 2
  pub by_zero : floor_div (pos 5) (pos 0) ≡ pos 0
  pub r : floor_mod (pos 7) (pos 2) ≡ pos 1
  pub r' : floor_mod (negsuc 6) (pos 2) ≡ pos 1
  pub r'' : floor_mod (pos 7) (negsuc 1) ≡ negsuc 0
  pub r''' : floor_mod (negsuc 6) (negsuc 1) ≡ negsuc 0
  pub r_by_zero : floor_mod (pos 5) (pos 0) ≡ pos 0
  pub stops : saturated (floor_div (negsuc 0x7fff_ffff_ffff_ffff) (negsuc 0)) ≡ pos 0x7fff_ffff_ffff_ffff
  pub rest_stops : floor_mod (negsuc 0x7fff_ffff_ffff_ffff) (negsuc 0) ≡ pos 0

quotients : Quotients
quotients = record { q = refl; q' = refl; q'' = refl; q''' = refl; exact = refl; by_zero = refl; r = refl; r' = refl; r'' = refl; r''' = refl; r_by_zero = refl; stops = refl; rest_stops = refl }

-- "aé" cut at 3, 2 and 1 bytes
cuts : (last_boundary (97 ∷ 195 ∷ 169 ∷ []) 3 ≡ 3) × (last_boundary (97 ∷ 195 ∷ 169 ∷ []) 2 ≡ 1) × (last_boundary (97 ∷ 195 ∷ 169 ∷ []) 1 ≡ 1) × (last_boundary (97 ∷ []) 9 ≡ 1)
unfolding last_boundary
cuts = (refl, refl, refl, refl)

scope : Env
scope = record { fields = value.Int (pos 5) ∷ []; props = value.Int (pos 7) ∷ []; vars = []; inherited = []; dx = pos 3; dy = pos 0 }

later : Env
later = record { fields = value.Int (pos 1) ∷ []; props = []; vars = []; inherited = []; dx = pos 0; dy = pos 0 }

-- a prop stays what it was where it was closed, and a field is the later one
closing : (value_of (closed (add (prop 0) (field 0)) scope) later ≡ value.Int (pos 8)) × (value_of (add (prop 0) (field 0)) (with_names scope later) ≡ value.Int (pos 8))
unfolding scope later
closing = (refl, refl)

-- the second set sees what the first one wrote
sets : fields_after ((0, add (field 0) (field 0)) ∷ (1, field 0) ∷ []) (value.Int (pos 2) ∷ value.Int (pos 9) ∷ []) (pos 0) (pos 0) ≡ value.Int (pos 4) ∷ value.Int (pos 4) ∷ []
sets = refl
