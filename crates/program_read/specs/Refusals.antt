-- How a call names what stops a walk: a fault of the form by its code's number and its place, or want of memory.
use Rattle.program_read.specs.declared.calls.ReadFault.{ReadFault}
use Rattle.program_read.specs.declared.calls.ReadFault.TheVariants as refusal
use Rattle.program_read.specs.declared.fault.ReadStop.{ReadStop}
use Rattle.program_read.specs.declared.fault.ReadStop.TheVariants as stop
use Rattle.program_read.specs.ShapeFault.{code_number}

abbrev pub refusal_of : ReadStop → ReadFault
refusal_of (stop.Shape fault) = refusal.Shape (code_number fault.code) fault.place
refusal_of stop.OutOfMemory = refusal.OutOfMemory
