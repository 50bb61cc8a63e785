-- What the bytes of a program part are, by the steps of their reading.
use Rattle.std.proofs.Common.{◌≡◌, ap, refl, ◌∙◌, sym, ℕ, List, Option, Result, Ok, Err, IfOk, map, [], ◌∷◌}
use Rattle.program_read.specs.Reading.{not_json, bad_form, read_as}
use Rattle.program_read.specs.ProgramWalk as walk
use Rattle.frame_run.specs.declared.program.ProgramFault.{ProgramFault}
use Rattle.frame_run.specs.declared.program.ProgramFault.TheVariants as fault
use Rattle.frame_run.specs.declared.program.BeginFault.TheVariants.{Refused}
use Rattle.frame_run.specs.declared.program.BeginFault.{BeginFault}
use Rattle.program_form.specs.Program.{PlainComponent, PlainProgram}
use Rattle.program_form.specs.ProgramView.{plain_component}
use Rattle.program_form.specs.declared.programs.Component.{Component}
use Rattle.program_check.specs.Checked.{PlainChecked}
use Rattle.program_check.specs.ProgramCheck.{CheckedAt, checked_program}
use Rattle.versioned_kinds.specs.Versions.{KeepsToVersion}
use Rattle.frame_run.specs.Program.{name_at, after_check, after_reading, checked_of}

-- which fault it is that an answer holds
fault_in : {P : Type 0} (a b : ProgramFault) (r : Result P BeginFault) → r ≡ Err (Refused a) → r ≡ Err (Refused b) → a ≡ b
fault_in a b r e f = cc

pub refused_json : {P : Type 0} (bytes : List ℕ) (f : ProgramFault) → read_as walk.program_of bytes ≡ Err not_json → ◌≡◌ {A = Result P BeginFault} (Err (Refused fault.Json)) (Err (Refused f)) → checked_of bytes ≡ Err f
unfolding checked_of
refused_json bytes f read e = ap after_reading read ∙ ap Err (fault_in fault.Json f (Err (Refused fault.Json)) refl e)

pub refused_shape : {P : Type 0} (bytes : List ℕ) (code : ℕ) (place : List ℕ) (f : ProgramFault) → read_as walk.program_of bytes ≡ Err (bad_form code place)
    → ◌≡◌ {A = Result P BeginFault} (Err (Refused (fault.Shape code place))) (Err (Refused f)) → checked_of bytes ≡ Err f
unfolding checked_of
refused_shape bytes code place f read e = ap after_reading read ∙ ap Err (fault_in (fault.Shape code place) f (Err (Refused (fault.Shape code place))) refl e)

-- the names of components, which are the names of what they are as plain data
pub names_shown : (cs : List Component) → map (λ (c : Component). c.name) cs ≡ map (λ (c : PlainComponent). c.name) (map plain_component cs)
names_shown [] = refl
names_shown (c ∷ cs) = ap (λ ns. c.name ∷ ns) (names_shown cs)

pub refused_check : {P : Type 0} (cs : List PlainComponent) (placed : CheckedAt PlainChecked) (code : ℕ) (component : Option ℕ) (name : Option (List ℕ)) (f : ProgramFault)
    → placed ≡ Err (record { code = code; component = component }) → name ≡ name_at cs component
    → ◌≡◌ {A = Result P BeginFault} (Err (Refused (fault.Check code name))) (Err (Refused f)) → after_check cs placed ≡ Err f
refused_check cs placed code component name f bad named e =
    ap (after_check cs) bad ∙ ap (λ n. Err (fault.Check code n)) (sym named) ∙ ap Err (fault_in (fault.Check code name) f (Err (Refused (fault.Check code name))) refl e)

-- what a check gives keeps to the version of the program, where what is written does
pub version_kept : {X E : Type 0} (plain : X → PlainChecked) (r : Result X E) (p : PlainProgram) → ((c : PlainChecked) → checked_program p ≡ Ok c → KeepsToVersion c)
    → IfOk r (λ x. checked_program p ≡ Ok (plain x)) → IfOk r (λ x. KeepsToVersion (plain x))
version_kept plain (Ok x) p keeps h = keeps (plain x) h
version_kept plain (Err e) p keeps h = tt
