-- The word of a list that a value of a program's text is, or its first fault.
use Rattle.serde_json.specs.Data.{Data}
use Rattle.program_form.specs.declared.words.Word.{Word}
use Rattle.program_form.specs.declared.words.WordList.{WordList}
use Rattle.program_form.specs.Words.{word_named}
use Rattle.program_read.specs.declared.fault.ShapeCode.TheVariants.{WrongKind}
use Rattle.program_read.specs.ShapeFault.{ShapeWalk, and_then}
use Rattle.program_read.specs.Leaves.{or_stop, string_of}

abbrev pub word_of : WordList → Data → ShapeWalk Word
word_of list d = and_then (string_of d) (λ text. or_stop WrongKind (word_named list text))
