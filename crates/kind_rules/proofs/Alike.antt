-- Children that are asked alike.
use Rattle.std.proofs.Common.{◌≡◌, ap, refl, ◌∙◌, ℕ, zero, suc, ◌+◌, ◌<◌, ◌≤◌, true, Option, Some, None, List, [], ◌∷◌, map, length, get_or, arith}
use Rattle.fx_geom.specs.declared.boxes.Bounds.{Bounds}
use Rattle.fx_geom.specs.declared.lengths.Len.{Len}
use Rattle.fx_geom.specs.declared.lengths.Len.TheVariants.{Finite, Unbounded}
use Rattle.fx_geom.specs.declared.shapes.Axis.{Axis}
use Rattle.fx_geom.specs.declared.words.CrossAlign.{CrossAlign}
use Rattle.flex_layout.specs.Flex.{shares_after}
use Rattle.plain_tree.specs.declared.laid.Frame.{Frame}
use Rattle.plain_tree.specs.declared.render.ParentData.{ParentData}
use Rattle.layout_form.specs.declared.asks.Ask.{Ask}
use Rattle.layout_form.specs.FlexRule.{factors_of, bounds_by, flex_bounds}
use Rattle.layout_form.specs.Protocol.{asks_where, goes_first}
use Rattle.layout_form.specs.Frames.{others_by}
use Rattle.kind_rules.specs.Asks.{alike}
use Rattle.kind_rules.specs.Reading.{are_there}

pub alike_at : (n : ℕ) (ask : Option Ask) (i : ℕ) → i < n → ask ≡ get_or (alike n ask) i None
alike_at zero ask i h = absurd (omega arith)
alike_at (suc n) ask zero h = refl
alike_at (suc n) ask (suc i) h = alike_at n ask i (omega arith)

pub alike_past : (n : ℕ) (ask : Option Ask) (i : ℕ) → n ≤ i → None ≡ get_or (alike n ask) i None
alike_past zero ask zero h = refl
alike_past zero ask (suc i) h = refl
alike_past (suc n) ask zero h = absurd (omega arith)
alike_past (suc n) ask (suc i) h = alike_past n ask i (omega arith)

-- where the main axis is unbounded, all are asked first
pub first_alike : (ask : Ask) (ds : List ParentData) → alike (length ds) (Some ask) ≡ asks_where (goes_first Unbounded) ask ds
first_alike ask [] = refl
first_alike ask (d ∷ ds) = ap (λ (xs : List (Option Ask)). Some ask ∷ xs) (first_alike ask ds)

by_length : (axis : Axis) (cross : CrossAlign) (b : Bounds) (free total before : ℕ) (ds : List ParentData)
    → length (bounds_by axis cross b ds (shares_after free total before (factors_of ds))) ≡ length ds
by_length axis cross b free total before [] = refl
by_length axis cross b free total before (d ∷ ds) = ap suc (by_length axis cross b free total (before + d.flex) ds)

map_length : {X Y : Type 0} (f : X → Y) (xs : List X) → length (map f xs) ≡ length xs
map_length f [] = refl
map_length f (x ∷ xs) = ap suc (map_length f xs)

pub bounds_length : (axis : Axis) (cross : CrossAlign) (b : Bounds) (most : Len) (fixed : ℕ) (ds : List ParentData)
    → length (flex_bounds axis cross b most fixed ds) ≡ length ds
bounds_length axis cross b (Finite most) fixed ds = by_length axis cross b _ _ 0 ds
bounds_length axis cross b Unbounded fixed ds = map_length _ ds

-- where all have answered, nobody is asked then
pub rest_alike : (bs : List Bounds) (fs : List (Option Frame)) → length bs ≡ length fs → are_there fs ≡ true → alike (length fs) None ≡ others_by bs fs
rest_alike [] [] e t = refl
rest_alike [] (f ∷ fs) e t = absurd (omega (arith, e))
rest_alike (b ∷ bs) [] e t = absurd (omega (arith, e))
rest_alike (b ∷ bs) (None ∷ fs) e t = cc
rest_alike (b ∷ bs) (Some f ∷ fs) e t = ap (λ (xs : List (Option Ask)). None ∷ xs) (rest_alike bs fs (omega (arith, e)) t)
