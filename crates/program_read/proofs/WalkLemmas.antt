-- Stops at the value at hand, and loops over a list's entries.
use Rattle.std.proofs.Common.{◌≡◌, ℕ, List, [], ◌∷◌, ◌++◌, Result, Ok, Err, is_ok, append_assoc, ap, subst, sym, refl, ◌∙◌}
use Rattle.program_read.specs.declared.fault.ShapeCode.{ShapeCode}
use Rattle.program_read.specs.declared.fault.ReadStop.{ReadStop}
use Rattle.program_read.specs.declared.fault.ReadStop.TheVariants.{Shape, OutOfMemory}
use Rattle.program_read.specs.ShapeFault.{ShapeWalk, here, stops, within, given}
use Rattle.program_read.specs.Answers.{StopsAs, Answers, Gives, GoesBelow, SeenWithin}

-- a stop at the value at hand
pub StopsAs-here : {A : Type 0} (stop : ReadStop) (walk : ShapeWalk A) (code : ShapeCode) → stop ≡ Shape (here code) → walk ≡ stops code → StopsAs stop walk
StopsAs-here stop walk code e h = subst (λ s. StopsAs s walk) (sym e) h

-- a loop over a list's entries: what was given so far, and the walk of the entries that are left
abbrev pub resumed : {A : Type 0} → List A → ShapeWalk (List A) → ShapeWalk (List A)
resumed before walk = given (λ later. before ++ later) walk

pub resumed-none : {A : Type 0} (walk : ShapeWalk (List A)) → walk ≡ resumed [] walk
resumed-none (Ok xs) = refl
resumed-none (Err fault) = refl

-- one more value was given
pub resumed-last : {A : Type 0} (before : List A) (x : A) (walk : ShapeWalk (List A)) → resumed before (given (λ xs. x ∷ xs) walk) ≡ resumed (before ++ x ∷ []) walk
resumed-last before x (Ok xs) = ap Ok (sym (append_assoc before (x ∷ []) xs))
resumed-last before x (Err fault) = refl

-- ---- what was read, seen from the value around

pub seen-below : {X : Type 0} (step : List ℕ) (read : Result X ReadStop) (stop seen : ReadStop) → read ≡ Err stop → GoesBelow step stop seen → SeenWithin step read (Err seen)
seen-below step read stop OutOfMemory e h = ap is_ok e
seen-below step read (Shape fault) (Shape seen) e h = (fault, e, h)
seen-below step read OutOfMemory (Shape seen) e h = absurd h

pub stops-within : {X A : Type 0} (plain : X → A) (step : List ℕ) (walk : ShapeWalk A) (read : Result X ReadStop) (seen : ReadStop)
    → Answers plain read walk → SeenWithin step read (Err seen) → StopsAs seen (within step walk)
stops-within plain step walk read OutOfMemory h s = tt
stops-within plain step walk read (Shape fault) h s =
    let known : walk ≡ Err s.0 = subst (λ r. Answers plain r walk) s.1 h in
    ap (within step) known ∙ ap Err (sym s.2)

pub reads-within : {X A : Type 0} (plain : X → A) (step : List ℕ) (walk : ShapeWalk A) (read : Result X ReadStop) (x : X)
    → Answers plain read walk → SeenWithin step read (Ok x) → within step walk ≡ Ok (plain x)
reads-within plain step walk read x h s =
    let known : walk ≡ Ok (plain x) = subst (λ r. Answers plain r walk) s h in
    ap (within step) known

pub answers-within : {X A : Type 0} (plain : X → A) (step : List ℕ) (walk : ShapeWalk A) (read seen : Result X ReadStop)
    → Answers plain read walk → SeenWithin step read seen → Answers plain seen (within step walk)
answers-within plain step walk read (Ok x) h s = reads-within plain step walk read x h s
answers-within plain step walk read (Err stop) h s = stops-within plain step walk read stop h s

pub gives-within : {A : Type 0} (step : List ℕ) (walk : ShapeWalk A) (read seen : Result A ReadStop)
    → Gives read walk → SeenWithin step read seen → Gives seen (within step walk)
gives-within step walk read seen h s = answers-within (λ x. x) step walk read seen h s

-- two walks that stop alike
pub stops-apart : (A B : Type 0) (code : ShapeCode) (stop : ReadStop) → StopsAs {A = A} stop (stops code) → StopsAs {A = B} stop (stops code)
stops-apart A B code OutOfMemory h = tt
stops-apart A B code (Shape fault) h = let same : here code ≡ fault = cc in ap Err same
