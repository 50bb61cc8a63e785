-- What stops a build, as the program says it: want of memory is no fault of the build.
use Rattle.std.specs.Prelude.{Option, Some, None}
use Rattle.build_form.specs.declared.faults.FrameFault.{FrameFault}
use Rattle.build_form.specs.declared.faults.FrameFault.TheVariants as fault
use Rattle.build_form.specs.Step.{Fault, repeated_sibling_key, repeated_global_key, tree_too_large, output_too_large}

abbrev pub fault_of : FrameFault → Option Fault
fault_of (fault.RepeatedSiblingKey k) = Some (repeated_sibling_key k)
fault_of (fault.RepeatedGlobalKey k) = Some (repeated_global_key k)
fault_of fault.TreeTooLarge = Some tree_too_large
fault_of fault.OutputTooLarge = Some output_too_large
fault_of fault.OutOfMemory = None
