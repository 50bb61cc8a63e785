-- The operators of expressions.
use Rattle.std.specs.Prelude.{ℕ, ◌==◌, Bool, true, option_map, List, [], ◌∷◌, codes, if◌then◌else◌, Option, Some, None}
use Rattle.std.specs.List.{find}
use Rattle.std.specs.Str.{bytes_eq}
use Rattle.program_form.specs.declared.operators.Operator.{Operator}
use Rattle.program_form.specs.declared.operators.Operator.TheVariants.{Ints, Texts, Add, Sub, Mul, Div, Mod, Equal, Less, And, Or, Not, If, Cat, Len, At, Push, Drop, Reverse, Range, Show}
use Rattle.program_form.specs.declared.operators.Naming.{Naming}
use Rattle.program_form.specs.declared.operators.Naming.TheVariants.{Field, Prop, Var, Inherit}
use Rattle.program_form.specs.declared.operators.Head.{Head}
use Rattle.program_form.specs.declared.operators.Head.TheVariants.{Name, Event, Operation}

-- every operator
abbrev pub operators : List Operator
operators =
    Ints ∷ Texts ∷ Add ∷ Sub ∷ Mul ∷ Div ∷ Mod ∷ Equal ∷ Less ∷ And ∷ Or ∷ Not ∷ If ∷ Cat ∷ Len ∷ At ∷ Push ∷ Drop
    ∷ Reverse ∷ Range ∷ Show ∷ []

-- the word that is written for an operator
abbrev pub word_of : Operator → List ℕ
word_of Ints = codes "ints"
word_of Texts = codes "texts"
word_of Add = codes "+"
word_of Sub = codes "-"
word_of Mul = codes "*"
word_of Div = codes "div"
word_of Mod = codes "mod"
word_of Equal = codes "="
word_of Less = codes "<"
word_of And = codes "and"
word_of Or = codes "or"
word_of Not = codes "not"
word_of If = codes "if"
word_of Cat = codes "cat"
word_of Len = codes "len"
word_of At = codes "at"
word_of Push = codes "push"
word_of Drop = codes "drop"
word_of Reverse = codes "reverse"
word_of Range = codes "range"
word_of Show = codes "show"

-- how many operands it has; a list of items may have any number
abbrev pub operands_of : Operator → Option ℕ
operands_of Ints = None
operands_of Texts = None
operands_of Add = Some 2
operands_of Sub = Some 2
operands_of Mul = Some 2
operands_of Div = Some 2
operands_of Mod = Some 2
operands_of Equal = Some 2
operands_of Less = Some 2
operands_of And = Some 2
operands_of Or = Some 2
operands_of Not = Some 1
operands_of If = Some 3
operands_of Cat = Some 2
operands_of Len = Some 1
operands_of At = Some 3
operands_of Push = Some 2
operands_of Drop = Some 2
operands_of Reverse = Some 1
operands_of Range = Some 1
operands_of Show = Some 1

-- an operator may have this many operands
abbrev pub count_fits : Option ℕ → ℕ → Bool
count_fits None count = true
count_fits (Some operands) count = count == operands

abbrev pub takes : Operator → ℕ → Bool
takes operator count = count_fits (operands_of operator) count

-- the operator that a word stands for
unfoldable pub operator_named : List ℕ → Option Operator
operator_named word = find (λ operator. bytes_eq (word_of operator) word) operators

-- what a word names
abbrev pub naming_named : List ℕ → Option Naming
naming_named word =
    if bytes_eq word (codes "field") then Some Field
    else (if bytes_eq word (codes "prop") then Some Prop
    else (if bytes_eq word (codes "var") then Some Var
    else (if bytes_eq word (codes "inherit") then Some Inherit
    else None)))

-- what the first word of a list says that the list is
abbrev pub head_from : Option Naming → List ℕ → Option Head
head_from (Some naming) word = Some (Name naming)
head_from None word = if bytes_eq word (codes "event") then Some Event else option_map Operation (operator_named word)

abbrev pub head_named : List ℕ → Option Head
head_named word = head_from (naming_named word) word
