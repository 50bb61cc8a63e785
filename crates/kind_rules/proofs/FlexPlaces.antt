-- The places of children along an axis, one after another.
use Rattle.std.proofs.Common.{◌≡◌, ap, sym, ◌∙◌, ℕ, ◌+◌, ◌^◌, ◌≤◌, List, [], ◌∷◌, ◌++◌, arith, append_assoc}
use Rattle.std.specs.Prelude.{pos}
use Rattle.fx_geom.specs.declared.shapes.Axis.{Axis}
use Rattle.fx_geom.specs.declared.shapes.Offset.{Offset}
use Rattle.fx_geom.specs.declared.shapes.Size.{Size}
use Rattle.fx_geom.specs.declared.words.CrossAlign.{CrossAlign}
use Rattle.fx_geom.specs.Along.{offset_along}
use Rattle.fx_geom.specs.Insets.{other_of, extent_of}
use Rattle.fx_geom.specs.Len.{stopped, length_sum}
use Rattle.flex_layout.specs.Flex.{cross_of}
use Rattle.wrap_table.specs.Stretches.{starts_from}
use Rattle.layout_form.specs.Object.{extents_of}
use Rattle.layout_form.specs.FlexRule.{flex_offsets}
use Rattle.layout_form.proofs.Starts.{starts_stop}

abbrev pub left_from : Axis → CrossAlign → ℕ → ℕ → ℕ → List Size → List Offset
left_from axis cross across gap at sizes = flex_offsets axis cross across (starts_from gap at (extents_of axis sizes)) sizes

pub places_on : (axis : Axis) (cross : CrossAlign) (across gap at next : ℕ) (s : Size) (left rest : List Size) (o : Offset) (before after whole : List Offset)
    → left ≡ s ∷ rest → at ≤ 2 ^ 40 → next ≡ length_sum (length_sum at (extent_of s axis)) gap
    → o ≡ offset_along axis (pos at) (cross_of cross across (extent_of s (other_of axis)))
    → after ≡ before ++ o ∷ [] → before ++ left_from axis cross across gap at left ≡ whole
    → after ++ left_from axis cross across gap next rest ≡ whole
places_on axis cross across gap at next s left rest o before after whole here small nexts places p q =
    let start : stopped at ≡ at = omega arith in
    let on : next ≡ stopped (at + extent_of s axis + gap) = nexts ∙ omega arith in
    let step : o ∷ left_from axis cross across gap next rest ≡ left_from axis cross across gap at left =
    ap (λ (x : Offset). x ∷ left_from axis cross across gap next rest) (places ∙ ap (λ (n : ℕ). offset_along axis (pos n) (cross_of cross across (extent_of s (other_of axis)))) (sym start))
    ∙ ap (λ (n : ℕ). offset_along axis (pos (stopped at)) (cross_of cross across (extent_of s (other_of axis))) ∷ left_from axis cross across gap n rest) on
    ∙ ap (λ (ns : List ℕ). offset_along axis (pos (stopped at)) (cross_of cross across (extent_of s (other_of axis))) ∷ flex_offsets axis cross across ns rest)
    (starts_stop gap (at + extent_of s axis + gap) (extents_of axis rest))
    ∙ ap (λ (ss : List Size). left_from axis cross across gap at ss) (sym here) in
    rw (p, append_assoc) (ap (λ (xs : List Offset). before ++ xs) step ∙ q)
