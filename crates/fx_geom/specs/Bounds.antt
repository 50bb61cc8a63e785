-- Box constraints (BoxConstraints of Flutter): the least and the greatest width and height that a box may take.
use Rattle.std.specs.Prelude.{◌≡◌, ℕ, ◌-◌, ◌≤◌, Bool, ◌&&◌, Option}
use Rattle.fx_geom.specs.declared.boxes.Bounds.{Bounds}
use Rattle.fx_geom.specs.declared.lengths.Len.{Len}
use Rattle.fx_geom.specs.declared.lengths.Len.TheVariants.{Finite}
use Rattle.fx_geom.specs.declared.shapes.Axis.TheVariants.{Horizontal, Vertical}
use Rattle.fx_geom.specs.declared.shapes.Insets.{Insets}
use Rattle.fx_geom.specs.declared.shapes.Size.{Size}
use Rattle.fx_geom.specs.Insets.{along}
use Rattle.fx_geom.specs.Len.{limit_of, stopped, clamped, raised, is_tight_side, tightened_min, tightened_max, clamped_max, less, raised_order, raised_range}

-- the bounds with these minima and maxima, each stopped at 2^40 and each maximum raised to its minimum
-- (BoxConstraints.normalize)
abbrev pub bounds_of : ℕ → Len → ℕ → Len → Bounds
bounds_of min_w max_w min_h max_h = record {
  min_w = stopped min_w;
  max_w = raised min_w max_w;
  min_h = stopped min_h;
  max_h = raised min_h max_h;
  width_in_order = raised_order min_w max_w;
  width_in_range = raised_range min_w max_w;
  height_in_order = raised_order min_h max_h;
  height_in_range = raised_range min_h max_h;
}

-- the bounds have these minima and maxima
pub record HasSides (b : Bounds) (min_w : ℕ) (max_w : Len) (min_h : ℕ) (max_h : Len) : Type 0 where
  pub least_w : b.min_w ≡ min_w
  pub most_w : b.max_w ≡ max_w
  pub least_h : b.min_h ≡ min_h
  pub most_h : b.max_h ≡ max_h

-- the size lies in the bounds (BoxConstraints.isSatisfiedBy)
pub record IsWithin (b : Bounds) (s : Size) : Type 0 where
  pub least_w : b.min_w ≤ s.w
  pub most_w : s.w ≤ limit_of b.max_w
  pub least_h : b.min_h ≤ s.h
  pub most_h : s.h ≤ limit_of b.max_h

-- the inner bounds allow no size that the outer ones refuse
pub record LiesIn (inner outer : Bounds) : Type 0 where
  pub least_w : outer.min_w ≤ inner.min_w
  pub most_w : limit_of inner.max_w ≤ limit_of outer.max_w
  pub least_h : outer.min_h ≤ inner.min_h
  pub most_h : limit_of inner.max_h ≤ limit_of outer.max_h

-- each minimum is its maximum
abbrev pub IsTight : Bounds → Type 0
IsTight b = (b.max_w ≡ Finite b.min_w) × (b.max_h ≡ Finite b.min_h)

-- the same as a test
abbrev pub is_tight : Bounds → Bool
is_tight b = is_tight_side b.min_w b.max_w && is_tight_side b.min_h b.max_h

-- exactly this size
abbrev pub tight : Size → Bounds
tight s = bounds_of s.w (Finite s.w) s.h (Finite s.h)

-- from nothing up to these lengths
abbrev pub loose : Len → Len → Bounds
loose w h = bounds_of 0 w 0 h

-- the size that is nearest to s in the bounds
abbrev pub constrain : Bounds → Size → Size
constrain b s = record { w = clamped b.min_w b.max_w s.w; h = clamped b.min_h b.max_h s.h }

-- the least size in the bounds
abbrev pub smallest : Bounds → Size
smallest b = record { w = b.min_w; h = b.min_h }

-- the minima become 0
abbrev pub loosen : Bounds → Bounds
loosen b = bounds_of 0 b.max_w 0 b.max_h

-- a side that is given becomes tight at its value, clamped into the bounds
abbrev pub tighten : Bounds → Option ℕ → Option ℕ → Bounds
tighten b w h = bounds_of
    (tightened_min b.min_w b.max_w w) (tightened_max b.min_w b.max_w w)
    (tightened_min b.min_h b.max_h h) (tightened_max b.min_h b.max_h h)

-- each of the four is clamped into the outer bounds' range of its side
abbrev pub enforce : Bounds → Bounds → Bounds
enforce b o = bounds_of
    (clamped o.min_w o.max_w b.min_w) (clamped_max o.min_w o.max_w b.max_w)
    (clamped o.min_h o.max_h b.min_h) (clamped_max o.min_h o.max_h b.max_h)

-- the insets are taken from both widths and both heights, not below 0
abbrev pub deflate : Bounds → Insets → Bounds
deflate b i = bounds_of
    (b.min_w - along i Horizontal) (less b.max_w (along i Horizontal))
    (b.min_h - along i Vertical) (less b.max_h (along i Vertical))
