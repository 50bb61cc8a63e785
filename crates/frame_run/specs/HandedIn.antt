-- What the program hands in to its run.
use Rattle.std.specs.Prelude.{pos, List, [], ◌∷◌, codes, String}
use Rattle.delegates.specs.Meaning.{bars, grid, corner}
use Rattle.delegates.specs.Table.{Plug, plugged}
use Rattle.frame_run.specs.Words.{RunSetup, given}
use Rattle.frame_run.specs.declared.top.TheConstants.{INPUT_MAX}

-- the delegates, each under its name, as they are at first
abbrev pub handed_in : List Plug
handed_in =
    plugged (codes "bars") (bars (pos 4) (pos 4278190335)) ∷ plugged (codes "grid") (grid (pos 640) (pos 4286611584))
    ∷ plugged (codes "corner") (corner (pos 0) (pos 0)) ∷ []

-- what a run of these words is given besides its input
abbrev pub given_with : {Z : Type 0} → List (String Z) → RunSetup
given_with words = given INPUT_MAX words handed_in
