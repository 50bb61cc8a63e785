-- The delegates that a run is handed.
use Rattle.std.proofs.Common.{◌≡◌, List, [], ◌∷◌, pos, codes, subst, ◌∙◌}
use Rattle.delegates.specs.Meaning.{Meaning, bars, grid, corner}
use Rattle.delegates.specs.Table.{Plug, plugged}
use Rattle.frame_run.specs.HandedIn.{handed_in}

pub by_way : (a b c : Meaning) → a ≡ b → b ≡ c → a ≡ c
by_way a b c p q = p ∙ q

-- what holds of delegates that mean what the program's three mean holds of those that are handed in
pub for_handed : (P : List Plug → Type 0) (ds : List Plug) (first second third : Meaning)
    → ds ≡ plugged (codes "bars") first ∷ plugged (codes "grid") second ∷ plugged (codes "corner") third ∷ []
    → first ≡ bars (pos 4) (pos 4278190335) → second ≡ grid (pos 640) (pos 4286611584) → third ≡ corner (pos 0) (pos 0) → P ds → P handed_in
for_handed P ds first second third listed a b c h =
    let same : plugged (codes "bars") first ∷ plugged (codes "grid") second ∷ plugged (codes "corner") third ∷ [] ≡ handed_in =
    λ i. plugged (codes "bars") (a i) ∷ plugged (codes "grid") (b i) ∷ plugged (codes "corner") (c i) ∷ [] in
    subst P (listed ∙ same) h
