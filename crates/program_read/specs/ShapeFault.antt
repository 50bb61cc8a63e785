-- The first fault of a value of a program's text: what is wrong, and at which place below the value.
use Rattle.std.specs.Prelude.{ℕ, ◌+◌, List, [], ◌∷◌, ◌++◌, Result, Ok, Err, decimal}
use Rattle.program_read.specs.declared.fault.ShapeCode.{ShapeCode}
use Rattle.program_read.specs.declared.fault.ShapeCode.TheVariants.{MissingMember, UnknownMember, WrongKind, UnknownKind, UnknownOperator, WrongCount, BadName, NotInteger, OverLimit, OutOfRange}
use Rattle.program_read.specs.declared.fault.ShapeFault.{ShapeFault}

-- the number that stands for what is wrong
abbrev pub code_number : ShapeCode → ℕ
code_number MissingMember = 1
code_number UnknownMember = 2
code_number WrongKind = 3
code_number UnknownKind = 4
code_number UnknownOperator = 5
code_number WrongCount = 6
code_number BadName = 7
code_number NotInteger = 8
code_number OverLimit = 9
code_number OutOfRange = 10

-- a fault at the value at hand: its place is empty
abbrev pub here : ShapeCode → ShapeFault
here code = record { code = code; place = [] }

-- the fault as it is seen from the value around: the step to the value at hand stands before its place, after `/`
abbrev pub below : List ℕ → ShapeFault → ShapeFault
below step fault = record { code = fault.code; place = 47 ∷ step ++ fault.place }

-- ---- what a walk gives: a value, or the first fault

abbrev pub ShapeWalk : Type 0 → Type 0
ShapeWalk A = Result A ShapeFault

abbrev pub stops : {A : Type 0} → ShapeCode → ShapeWalk A
stops code = Err (here code)

-- the walk of a part, seen from the value around
abbrev pub within : {A : Type 0} → List ℕ → ShapeWalk A → ShapeWalk A
within step (Ok x) = Ok x
within step (Err fault) = Err (below step fault)

-- the walk of an entry of a list, by its index
abbrev pub at_entry : {A : Type 0} → ℕ → ShapeWalk A → ShapeWalk A
at_entry index walk = within (decimal index) walk

-- one walk, and then another that takes what the first gave
abbrev pub and_then : {A B : Type 0} → ShapeWalk A → (A → ShapeWalk B) → ShapeWalk B
and_then (Ok x) next = next x
and_then (Err fault) next = Err fault

abbrev pub given : {A B : Type 0} → (A → B) → ShapeWalk A → ShapeWalk B
given f (Ok x) = Ok (f x)
given f (Err fault) = Err fault

-- the walks of a list's entries, in order, the first of them at this index
abbrev pub each : {A : Type 0} → ℕ → List (ShapeWalk A) → ShapeWalk (List A)
each index [] = Ok []
each index (walk ∷ walks) = and_then (at_entry index walk) (λ x. given (λ xs. x ∷ xs) (each (index + 1) walks))
