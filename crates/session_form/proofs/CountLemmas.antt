-- How many frames a command adds, and the size of a text cell.
use Rattle.std.proofs.Common.{◌≡◌, ◌∙◌, ℕ, ◌+◌, ◌≤◌, Bool, true, false, nat_lt, Result, Ok, Err, OnOk, if◌then◌else◌, sym, ap, subst, arith}
use Rattle.fx_geom.specs.Scale.{standard_scale, fine_scale}
use Rattle.fx_geom.specs.Size.{HasLengths}
use Rattle.fx_geom.specs.declared.scales.Scale.{Scale}
use Rattle.program_check.specs.WellChecked as well
use Rattle.script_lines.specs.declared.command.Command.{Command}
use Rattle.session_form.specs.Step.{frames_of}

-- the count is kept by a command that adds no frame
pub same_count : (new old : ℕ) (command known : Command) → command ≡ known → frames_of known ≡ 0 → new ≡ old → new ≤ old + frames_of command
same_count new old command known is none same = let n : frames_of command ≡ 0 = ap frames_of is ∙ none in omega arith

-- the same where a result is there
pub ok_count : {A E : Type 0} (r : Result A E) (new old : ℕ) (command known : Command) → command ≡ known → frames_of known ≡ 0 → OnOk r (new ≡ old)
    → OnOk r (new ≤ old + frames_of command)
ok_count (Ok x) new old command known is none same = same_count new old command known is none same
ok_count (Err e) new old command known is none same = tt

-- `frame` adds one at most
pub frame_count : {A E : Type 0} (r : Result A E) (new old : ℕ) (command known : Command) → command ≡ known → frames_of known ≡ 1 → OnOk r (new ≤ old + 1)
    → OnOk r (new ≤ old + frames_of command)
frame_count (Ok x) new old command known is one most = let n : frames_of command ≡ 1 = ap frames_of is ∙ one in omega arith
frame_count (Err e) new old command known is one most = tt

-- the cells of both scales are lengths
cell_fits : (coarse : Bool) → HasLengths (if coarse then standard_scale else fine_scale).cell
cell_fits true = record { w = omega arith; h = omega arith }
cell_fits false = record { w = omega arith; h = omega arith }

pub cell_lengths : (scale : Scale) (version : ℕ) → scale ≡ well.scale_of version → HasLengths scale.cell
cell_lengths scale version is = let P : Scale → Type 0 = λ s. HasLengths s.cell in subst P (sym is) (cell_fits (nat_lt version 3))
