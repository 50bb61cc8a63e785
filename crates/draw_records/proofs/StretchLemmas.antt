-- A text whose bytes are added stretch by stretch: those that stand as they are go in as one.
use Rattle.std.proofs.Common.{◌≡◌, ℕ, ◌+◌, ◌<◌, ◌≤◌, List, [], ◌∷◌, ◌++◌, length, drop, get_or, slice_range, ap, sym, ◌∙◌, append_assoc}
use Rattle.std.proofs.lemmas.List.{at_drop_more}
use Rattle.std.proofs.lemmas.List.Edits.{between_more}
use Rattle.draw_records.specs.Quoted.{escaped, all_escaped}

-- a byte that stands as it is joins the stretch
pub stretch_more : (done bytes whole : List ℕ) (from at : ℕ) → from ≤ at → at < length bytes → escaped (get_or bytes at 0) ≡ get_or bytes at 0 ∷ []
    → (done ++ slice_range bytes from at) ++ all_escaped (drop at bytes) ≡ whole
    → (done ++ slice_range bytes from (at + 1)) ++ all_escaped (drop (at + 1) bytes) ≡ whole
stretch_more done bytes whole from at le less plain so_far =
    let b = get_or bytes at 0 in
    let rest = all_escaped (drop (at + 1) bytes) in
    ap (λ t. (done ++ t) ++ rest) (between_more bytes from at 0 le less)
    ∙ ap (λ t. t ++ rest) (sym (append_assoc done (slice_range bytes from at) (b ∷ [])))
    ∙ append_assoc (done ++ slice_range bytes from at) (b ∷ []) rest
    ∙ ap (λ t. (done ++ slice_range bytes from at) ++ t) (sym (at_drop_more all_escaped bytes at 0 less ∙ ap (λ t. t ++ rest) plain))
    ∙ so_far
