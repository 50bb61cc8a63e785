-- Enforced bounds lie in the outer ones, and tightened bounds in those that were tightened.
use Rattle.std.proofs.Common.{◌≡◌, refl, ap, ℕ, ◌≤◌, ◌^◌, Option, Some, None, arith}
use Rattle.fx_geom.specs.declared.boxes.Bounds.{Bounds}
use Rattle.fx_geom.specs.declared.lengths.Len.{Len}
use Rattle.fx_geom.specs.declared.lengths.Len.TheVariants.{Finite, Unbounded}
use Rattle.fx_geom.specs.Bounds.{LiesIn, enforce, tighten}
use Rattle.fx_geom.specs.Len.{limit_of, stopped, raised, clamped, clamped_max, tightened_min, tightened_max}

enforce_least : (low n : ℕ) (high : Len) → low ≤ limit_of high → limit_of high ≤ 2 ^ 40
    → low ≤ stopped (clamped low high n)
enforce_least low n (Finite h) order range = omega arith
enforce_least low n Unbounded order range = omega arith

enforce_most : (low n : ℕ) (high m : Len) → low ≤ limit_of high → limit_of high ≤ 2 ^ 40
    → limit_of (raised (clamped low high n) (clamped_max low high m)) ≤ limit_of high
enforce_most low n (Finite h) (Finite k) order range = omega arith
enforce_most low n (Finite h) Unbounded order range = omega arith
enforce_most low n Unbounded (Finite k) order range = omega arith
enforce_most low n Unbounded Unbounded order range = omega arith

-- enforced bounds are in order, so that nothing is raised
pub enforce_kept : (low n : ℕ) (high m : Len) → low ≤ limit_of high → limit_of high ≤ 2 ^ 40 → n ≤ limit_of m
    → raised (clamped low high n) (clamped_max low high m) ≡ clamped_max low high m
enforce_kept low n (Finite h) (Finite k) order range inner = ap Finite (omega arith)
enforce_kept low n (Finite h) Unbounded order range inner = ap Finite (omega arith)
enforce_kept low n Unbounded (Finite k) order range inner = ap Finite (omega arith)
enforce_kept low n Unbounded Unbounded order range inner = refl

pub enforce-LiesIn : (b o : Bounds) → LiesIn (enforce b o) o
enforce-LiesIn b o = record {
  least_w = enforce_least o.min_w b.min_w o.max_w o.width_in_order o.width_in_range;
  most_w = enforce_most o.min_w b.min_w o.max_w b.max_w o.width_in_order o.width_in_range;
  least_h = enforce_least o.min_h b.min_h o.max_h o.height_in_order o.height_in_range;
  most_h = enforce_most o.min_h b.min_h o.max_h b.max_h o.height_in_order o.height_in_range;
}

tighten_least : (low : ℕ) (high : Len) (given : Option ℕ) → low ≤ limit_of high → limit_of high ≤ 2 ^ 40
    → low ≤ stopped (tightened_min low high given)
tighten_least low high None order range = omega arith
tighten_least low high (Some n) order range = enforce_least low n high order range

tighten_most : (low : ℕ) (high : Len) (given : Option ℕ) → low ≤ limit_of high → limit_of high ≤ 2 ^ 40
    → limit_of (raised (tightened_min low high given) (tightened_max low high given)) ≤ limit_of high
tighten_most low (Finite h) None order range = omega arith
tighten_most low (Finite h) (Some n) order range = omega arith
tighten_most low Unbounded None order range = omega arith
tighten_most low Unbounded (Some n) order range = omega arith

pub tighten-LiesIn : (b : Bounds) (w h : Option ℕ) → LiesIn (tighten b w h) b
tighten-LiesIn b w h = record {
  least_w = tighten_least b.min_w b.max_w w b.width_in_order b.width_in_range;
  most_w = tighten_most b.min_w b.max_w w b.width_in_order b.width_in_range;
  least_h = tighten_least b.min_h b.max_h h b.height_in_order b.height_in_range;
  most_h = tighten_most b.min_h b.max_h h b.height_in_order b.height_in_range;
}
