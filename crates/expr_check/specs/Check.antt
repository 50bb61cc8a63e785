-- What a check gives: a value, or what is wrong first.
use Rattle.std.specs.Prelude.{◌≡◌, ℕ, List, [], ◌∷◌, Result, Ok, Err}
use Rattle.expr_check.specs.declared.fault.CheckCode.{CheckCode}
use Rattle.expr_check.specs.declared.fault.CheckCode.TheVariants.{RepeatedName, MissingName, WrongType, WrongSort, Uncertain, EarlyUse, OtherDeclared}
use Rattle.expr_check.specs.declared.fault.CheckStop.{CheckStop}
use Rattle.expr_check.specs.declared.fault.CheckStop.TheVariants.{Bad, OutOfMemory}

-- the number that stands for what is wrong
abbrev pub code_number : CheckCode → ℕ
code_number RepeatedName = 1
code_number MissingName = 2
code_number WrongType = 3
code_number WrongSort = 4
code_number Uncertain = 5
code_number EarlyUse = 6
code_number OtherDeclared = 7

abbrev pub Check : Type 0 → Type 0
Check A = Result A CheckCode

-- one check, and then another that takes what the first gave
abbrev pub and_then : {A B : Type 0} → Check A → (A → Check B) → Check B
and_then (Ok x) next = next x
and_then (Err code) next = Err code

abbrev pub given : {A B : Type 0} → (A → B) → Check A → Check B
given f (Ok x) = Ok (f x)
given f (Err code) = Err code

-- ---- how a function of the program answers a check: with what the check gives, or for want of memory

abbrev pub StopsAs : {A : Type 0} → CheckStop → Check A → Type 0
StopsAs (Bad code) check = check ≡ Err code
StopsAs OutOfMemory check = Unit {0}

abbrev pub Answers : {X A : Type 0} → (X → A) → Result X CheckStop → Check A → Type 0
Answers plain (Ok x) check = check ≡ Ok (plain x)
Answers plain (Err stop) check = StopsAs stop check

abbrev pub Gives : {A : Type 0} → Result A CheckStop → Check A → Type 0
Gives result check = Answers (λ x. x) result check

-- checks in order: what each gives, or what is wrong first
abbrev pub in_order : {A : Type 0} → List (Check A) → Check (List A)
in_order [] = Ok []
in_order (check ∷ checks) = and_then check (λ x. given (λ xs. x ∷ xs) (in_order checks))
