-- The bounds of the children of a Row or a Column, as a loop fills them.
use Rattle.std.proofs.Common.{◌≡◌, ap, sym, ℕ, ◌+◌, ◌<◌, List, [], ◌∷◌, ◌++◌, length, drop, get_or, arith}
use Rattle.std.specs.Prelude.{sum}
use Rattle.std.proofs.lemmas.List.{at_drop_more}
use Rattle.std.proofs.lemmas.List.Sums.{sum_by-cons}
use Rattle.fx_geom.specs.declared.boxes.Bounds.{Bounds}
use Rattle.fx_geom.specs.declared.shapes.Axis.{Axis}
use Rattle.fx_geom.specs.declared.words.CrossAlign.{CrossAlign}
use Rattle.flex_layout.specs.Flex.{shares_after}
use Rattle.plain_tree.specs.declared.render.ParentData.{ParentData}
use Rattle.layout_form.specs.FlexRule.{factors_of, bounds_by}
use Rattle.kind_rules.proofs.Loops.{fills_on}

-- where the factors before these have this sum
abbrev pub bounds_from : Axis → CrossAlign → Bounds → ℕ → ℕ → ℕ → List ParentData → List Bounds
bounds_from axis cross b free total before ds = bounds_by axis cross b ds (shares_after free total before (factors_of ds))

pub shares_on : (axis : Axis) (cross : CrossAlign) (b : Bounds) (free total before : ℕ) (ds : List ParentData) (i : ℕ) (d : ParentData) (inner : Bounds)
    (so_far after whole : List Bounds) → i < length ds → after ≡ so_far ++ inner ∷ [] → inner ∷ [] ≡ bounds_from axis cross b free total before (get_or ds i d ∷ [])
    → so_far ++ bounds_from axis cross b free total before (drop i ds) ≡ whole
    → after ++ bounds_from axis cross b free total (before + (get_or ds i d).flex) (drop (i + 1) ds) ≡ whole
shares_on axis cross b free total before ds i d inner so_far after whole h pushed is same =
    let next = bounds_from axis cross b free total (before + (get_or ds i d).flex) in
    fills_on (bounds_from axis cross b free total before) next ds i d (inner ∷ []) so_far after whole h
    (ap (λ (bs : List Bounds). bs ++ next (drop (i + 1) ds)) (sym is)) pushed same

pub room_on : (ds : List ParentData) (i : ℕ) (d : ParentData) (before total : ℕ) → i < length ds → before + sum (factors_of (drop i ds)) ≡ total
    → before + (get_or ds i d).flex + sum (factors_of (drop (i + 1) ds)) ≡ total
room_on ds i d before total h room =
    let here = get_or ds i d in
    let rest = drop (i + 1) ds in
    let more : sum (factors_of (drop i ds)) ≡ sum (here.flex ∷ factors_of rest) = at_drop_more (λ (es : List ParentData). sum (factors_of es)) ds i d h in
    let both : sum (here.flex ∷ factors_of rest) ≡ here.flex + sum (factors_of rest) = sum_by-cons (λ n. n) here.flex (factors_of rest) in
    omega arith
