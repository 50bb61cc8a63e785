use Rattle.std.proofs.Common.{List, [], ◌∷◌, ◌^◌, ◌<◌, ℕ, arith, map, subst}
use Rattle.fx_geom.specs.declared.shapes.Size.{Size}
use Rattle.wrap_table.specs.Runs.{width_of, exceeds, runs_of}
use Rattle.wrap_table.specs.Stretches.{greatest_of}
use Rattle.wrap_table.specs.Places.{boxes_of, wrap_places_of}
use Rattle.wrap_table.proofs.CutLemmas.{flat_map-cut_of}
use Rattle.wrap_table.proofs.WrapLemmas.{widths}
use Rattle.wrap_table.proofs.ApartLemmas.{FitIn, AllFit, AreInOrder, all_in_order, all_pairs}
use Rattle.wrap_table.proofs.laws.wrap_is_apart.Goals as goal

own_room : (run : List Size) → FitIn (widths run) run
own_room [] = tt
own_room (child ∷ run) = (omega arith, own_room run)

all_fit : (gap : ℕ) (runs : List (List Size)) → greatest_of (map (width_of gap) runs) < 2 ^ 40 → AllFit gap widths runs
all_fit gap [] h = tt
all_fit gap (run ∷ runs) h = (own_room run, omega arith, all_fit gap runs (omega arith))

pub returns : goal.returns
returns c children limit gap run_gap wide high =
    let runs = runs_of limit gap children in
    let P : List Size → Type 0 = λ cs. AreInOrder (boxes_of (wrap_places_of children limit gap run_gap) cs) in
    all_pairs _ (subst P (flat_map-cut_of (exceeds limit gap) children) (all_in_order gap run_gap widths 0 runs (all_fit gap runs wide) (omega arith)))
