-- The statuses that a run ends with.
use Rattle.std.specs.Prelude.{ℕ}
use Rattle.frame_run.specs.declared.status.Status.{Status}
use Rattle.frame_run.specs.declared.status.Status.TheVariants.{AllAccepted, SomeRefused, BadWords, BadProgram, FrameFault, ReadFault, WriteFault, NoMemory, TooLong}

-- the number with which the program ends
abbrev pub code_of : Status → ℕ
code_of AllAccepted = 0
code_of SomeRefused = 1
code_of BadWords = 2
code_of BadProgram = 3
code_of FrameFault = 4
code_of ReadFault = 5
code_of WriteFault = 6
code_of NoMemory = 7
code_of TooLong = 8

-- P, where the status is none of the three that cut a run off
abbrev pub OnEnd : Status → Type 0 → Type 0
OnEnd AllAccepted P = P
OnEnd SomeRefused P = P
OnEnd BadWords P = P
OnEnd BadProgram P = P
OnEnd FrameFault P = P
OnEnd ReadFault P = Unit {0}
OnEnd WriteFault P = Unit {0}
OnEnd NoMemory P = Unit {0}
OnEnd TooLong P = P

-- P, unless memory was wanting
abbrev pub OnMemory : Status → Type 0 → Type 0
OnMemory AllAccepted P = P
OnMemory SomeRefused P = P
OnMemory BadWords P = P
OnMemory BadProgram P = P
OnMemory FrameFault P = P
OnMemory ReadFault P = P
OnMemory WriteFault P = P
OnMemory NoMemory P = Unit {0}
OnMemory TooLong P = P
