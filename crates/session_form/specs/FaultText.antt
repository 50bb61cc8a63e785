-- The line of a frame's fault, which stands in place of the frame.
use Rattle.std.specs.Prelude.{ℕ, List, ◌++◌, codes}
use Rattle.build_form.specs.Step.{Fault, repeated_sibling_key, repeated_global_key, tree_too_large, output_too_large}
use Rattle.session_form.specs.Values.{value_text, key_text}

abbrev pub fault_text : Fault → List ℕ
fault_text (repeated_sibling_key k) = codes "fault repeated-sibling-key " ++ (key_text k ++ codes "\n")
fault_text (repeated_global_key v) = codes "fault repeated-global-key " ++ (value_text v ++ codes "\n")
fault_text tree_too_large = codes "fault tree-too-large\n"
fault_text output_too_large = codes "fault output-too-large\n"
