-- How a function of the program answers a walk: with what the walk gives, or for want of memory.
use Rattle.std.specs.Prelude.{◌≡◌, ℕ, List, Result, Ok, Err, is_ok, false}
use Rattle.program_read.specs.declared.fault.ShapeFault.{ShapeFault}
use Rattle.program_read.specs.declared.fault.ReadStop.{ReadStop}
use Rattle.program_read.specs.declared.fault.ReadStop.TheVariants.{Shape, OutOfMemory}
use Rattle.program_read.specs.ShapeFault.{ShapeWalk, below}

-- a reading stops at the walk's fault, or for want of memory
abbrev pub StopsAs : {A : Type 0} → ReadStop → ShapeWalk A → Type 0
StopsAs (Shape fault) walk = walk ≡ Err fault
StopsAs OutOfMemory walk = Unit {0}

-- a reading gives what the walk gives, seen as plain data, or stops as it does
abbrev pub Answers : {X A : Type 0} → (X → A) → Result X ReadStop → ShapeWalk A → Type 0
Answers plain (Ok x) walk = walk ≡ Ok (plain x)
Answers plain (Err stop) walk = StopsAs stop walk

-- the same where what is read is plain already
abbrev pub Gives : {A : Type 0} → Result A ReadStop → ShapeWalk A → Type 0
Gives result walk = Answers (λ x. x) result walk

-- what was read, as it is seen from the value around, where the step leads to the one at hand
abbrev pub SeenWithin : {X : Type 0} → List ℕ → Result X ReadStop → Result X ReadStop → Type 0
SeenWithin step read (Ok x) = read ≡ Ok x
SeenWithin step read (Err (Shape fault)) = (inner : ShapeFault) × (read ≡ Err (Shape inner)) × (fault ≡ below step inner)
SeenWithin step read (Err OutOfMemory) = is_ok read ≡ false

-- the second stop is the first as it is seen from the value around, or want of memory
abbrev pub GoesBelow : List ℕ → ReadStop → ReadStop → Type 0
GoesBelow step stop OutOfMemory = Unit {0}
GoesBelow step (Shape fault) (Shape seen) = seen ≡ below step fault
GoesBelow step OutOfMemory (Shape seen) = ⊥
