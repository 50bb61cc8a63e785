-- Why a command is refused: the numbers and names of the causes. They are tested in the order of the numbers.
use Rattle.std.specs.Prelude.{ℕ, List, codes}
use Rattle.session_form.specs.declared.refusal.Refusal.{Refusal}
use Rattle.session_form.specs.declared.refusal.Refusal.TheVariants.{TimeGoesBack, NoNode, NotStateful, NoField, WrongType, NotAViewport, PointerIsDown, PointerIsUp, TooManyPointers, NoDelegate, NoDelegateField, BadWidget, WidgetCheck, ViewOutOfRange, NoSemanticsNode, NoAction}

abbrev pub code_of : Refusal → ℕ
code_of TimeGoesBack = 5
code_of NoNode = 6
code_of NotStateful = 7
code_of NoField = 8
code_of WrongType = 9
code_of NotAViewport = 10
code_of PointerIsDown = 11
code_of PointerIsUp = 12
code_of TooManyPointers = 13
code_of NoDelegate = 14
code_of NoDelegateField = 15
code_of BadWidget = 16
code_of WidgetCheck = 17
code_of ViewOutOfRange = 18
code_of NoSemanticsNode = 19
code_of NoAction = 20

abbrev pub name_of : Refusal → List ℕ
name_of TimeGoesBack = codes "TimeGoesBack"
name_of NoNode = codes "NoNode"
name_of NotStateful = codes "NotStateful"
name_of NoField = codes "NoField"
name_of WrongType = codes "WrongType"
name_of NotAViewport = codes "NotAViewport"
name_of PointerIsDown = codes "PointerIsDown"
name_of PointerIsUp = codes "PointerIsUp"
name_of TooManyPointers = codes "TooManyPointers"
name_of NoDelegate = codes "NoDelegate"
name_of NoDelegateField = codes "NoDelegateField"
name_of BadWidget = codes "BadWidget"
name_of WidgetCheck = codes "WidgetCheck"
name_of ViewOutOfRange = codes "ViewOutOfRange"
name_of NoSemanticsNode = codes "NoSemanticsNode"
name_of NoAction = codes "NoAction"
