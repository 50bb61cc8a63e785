-- The components of the program hold what they declare.
use Rattle.std.specs.Prelude.{◌≡◌, ℕ, List, All}
use Rattle.program_check.specs.declared.checked.CheckedComponent.{CheckedComponent}
use Rattle.program_check.specs.CheckedView.{plain_component}
use Rattle.program_check.specs.Decl.{decl_of}

abbrev pub HasDecl : ℕ → CheckedComponent → Type 0
HasDecl count c = c.decl.value ≡ decl_of count (plain_component c)

abbrev pub HaveDecls : ℕ → List CheckedComponent → Type 0
HaveDecls count cs = All (HasDecl count) cs
