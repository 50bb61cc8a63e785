-- The words after the program's name: one command of `clap`, with a mode and two options.
use Rattle.std.specs.Prelude.{◌≡◌, ℕ, true, List, [], ◌∷◌, map, String, string_bytes, codes, Option, Some, None, option_and_then, if◌then◌else◌}
use Rattle.std.specs.Str.{bytes_eq}
use Rattle.std.specs.Str.Parse.{digits_value, without_leading_plus}
use Rattle.delegates.specs.Table.{Plug, each_of, plugged, Means}
use Rattle.delegates.specs.declared.table.Named.{Named}
use Rattle.clap.specs.Walk.{Row, Rule, first_of, one_of}
use Rattle.clap.specs.Simple.{App, new_app, new_rule, with_rule, on_top, matches_of}
use Rattle.clap.specs.Kinds.{Kinds}
use Rattle.clap.specs.Faults.{fault_of}
use Rattle.clap.specs.ValueTests.{is_unsigned_in}
use Rattle.clap.specs.declared.builder.action.ArgAction.TheVariants.{Set}
use Rattle.clap.specs.declared.builder.value_parser.ValueParser.TheVariants.{Unsigned}
use Rattle.frame_run.specs.Demo.{demo_input}
use Rattle.frame_run.specs.declared.words.Mode.{Mode}
use Rattle.frame_run.specs.declared.words.Mode.TheVariants as modes
use Rattle.frame_run.specs.declared.words.Request.{Request}
use Rattle.frame_run.specs.declared.words.Request.TheVariants.{Input, Demo}

-- `MODE`, which is `run` where it is left out
abbrev pub mode_rule : Rule
mode_rule = record (new_rule (codes "MODE")) { action = Some Set; defaults = codes "run" ∷ [] }

-- `--seed N`, of 0 to 4294967295, and 1 where it is left out
abbrev pub seed_rule : Rule
seed_rule = record (new_rule (codes "seed")) { long = Some (codes "seed"); action = Some Set; parser = Some (Unsigned 0 4294967295); defaults = codes "1" ∷ [] }

-- `--size N`, of 1 to 4096, and 100 where it is left out
abbrev pub size_rule : Rule
size_rule = record (new_rule (codes "size")) { long = Some (codes "size"); action = Some Set; parser = Some (Unsigned 1 4096); defaults = codes "100" ∷ [] }

-- the command, whose words begin after the program's name
abbrev pub bare_command : App
bare_command = on_top (λ s. record s { no_binary_name = true }) (new_app (codes "frame_cli"))

unfoldable pub command_line : App
command_line = with_rule (with_rule (with_rule bare_command mode_rule) seed_rule) size_rule

-- the number that a text is, where it is one from low to high
abbrev pub number_in : ℕ → ℕ → Option (List ℕ) → Option ℕ
number_in low high None = None
number_in low high (Some text) = if is_unsigned_in low high text then Some (digits_value 10 (without_leading_plus text)) else None

-- mode `demo` with a seed and a size
abbrev pub demo_with : Option ℕ → Option ℕ → Option Request
demo_with None size = None
demo_with (Some seed) None = None
demo_with (Some seed) (Some size) = Some (Demo seed size)

abbrev pub demo_by : List Row → Option Request
demo_by rows = demo_with (number_in 0 4294967295 (one_of (codes "seed") rows)) (number_in 1 4096 (one_of (codes "size") rows))

-- what is asked for by a word, with the options that matched
abbrev pub request_named : List ℕ → List Row → Option Request
request_named word rows =
    if bytes_eq word (codes "run") then Some (Input modes.Run)
    else if bytes_eq word (codes "check") then Some (Input modes.Check)
    else if bytes_eq word (codes "demo") then demo_by rows
    else None

-- what is asked for by words that have these faults, or else match so
abbrev pub request_by : Kinds → List Row → Option Request
request_by [] rows = option_and_then (λ word. request_named word rows) (first_of (codes "MODE") rows)
request_by (kind ∷ kinds) rows = None

-- what the words ask for, as `clap` reads them; none where they are refused
unfoldable pub request_of : List (List ℕ) → Option Request
request_of words = request_by (fault_of command_line words) (matches_of command_line words)

-- what delegates mean that are handed in, each under its name; the meaning is given as a function, since they may be of any type
abbrev pub meant : {V : Type 0} {D : V → Type 0} → List (Named V D) → (Means D) → List Plug
meant list means = each_of list (λ n. plugged (string_bytes n.name) ((means n.delegate.vtable).meaning n.delegate.value))

-- what a run is given besides its input: how many bytes it takes at most, the words, and what the delegates mean that are
-- handed in, each under its name
pub record RunSetup : Type 0 where
  pub limit : ℕ
  pub words : List (List ℕ)
  pub delegates : List Plug

abbrev pub given : {Z : Type 0} → ℕ → List (String Z) → List Plug → RunSetup
given limit words delegates = record { limit = limit; words = map string_bytes words; delegates = delegates }

abbrev pub request_given : RunSetup → Option Request
request_given g = request_of g.words

-- the mode of the job that is done: mode `demo` does that of `run`
abbrev pub mode_by : Option Request → Option Mode
mode_by None = None
mode_by (Some (Input mode)) = Some mode
mode_by (Some (Demo seed size)) = Some modes.Run

abbrev pub mode_given : RunSetup → Option Mode
mode_given g = mode_by (request_given g)

-- the input that it is done on: the source's bytes, or what mode `demo` makes
abbrev pub input_by : Option Request → List ℕ → List ℕ
input_by None bytes = bytes
input_by (Some (Input mode)) bytes = bytes
input_by (Some (Demo seed size)) bytes = demo_input seed size

abbrev pub input_given : RunSetup → List ℕ → List ℕ
input_given g bytes = input_by (request_given g) bytes

-- the words ask for a mode that takes the source's bytes
abbrev pub TakesInput : RunSetup → Type 0
TakesInput g = (mode : Mode) × (request_given g ≡ Some (Input mode))

-- what is to be done with an input: a mode, with the delegates that programs may call
pub record Task : Type 0 where
  pub mode : Mode
  pub delegates : List Plug

abbrev pub task_with : Mode → List Plug → Task
task_with mode delegates = record { mode = mode; delegates = delegates }
