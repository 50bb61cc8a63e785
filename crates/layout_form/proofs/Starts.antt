-- Places along an axis stop once, wherever the running sum stops.
use Rattle.std.proofs.Common.{◌≡◌, ap, refl, sym, ◌∙◌, ℕ, ◌+◌, List, [], ◌∷◌, arith}
use Rattle.fx_geom.specs.Len.{stopped}
use Rattle.wrap_table.specs.Stretches.{starts_from}

pub starts_stop : (gap at : ℕ) (extents : List ℕ) → starts_from gap (stopped at) extents ≡ starts_from gap at extents
starts_stop gap at [] = refl
starts_stop gap at (e ∷ es) =
    let here : stopped (stopped at) ≡ stopped at = omega arith in
    let next : stopped (stopped at + e + gap) ≡ stopped (at + e + gap) = omega arith in
    ap (λ (n : ℕ). n ∷ starts_from gap (stopped at + e + gap) es) here
    ∙ ap (λ (ns : List ℕ). stopped at ∷ ns)
    (sym (starts_stop gap (stopped at + e + gap) es)
    ∙ ap (λ (n : ℕ). starts_from gap n es) next
    ∙ starts_stop gap (at + e + gap) es)
