-- Where want of memory may be answered.
use Rattle.std.specs.Prelude.{◌≡◌, Bool, true, false}
use Rattle.session_form.specs.Outcome.{Outcome, done, refused, faulted}
use Rattle.session_form.specs.declared.refusal.Refusal.{Refusal}
use Rattle.session_form.specs.declared.refusal.Refusal.TheVariants.{TimeGoesBack, NoNode, NotStateful, NoField, WrongType, NotAViewport, PointerIsDown, PointerIsUp, TooManyPointers, NoDelegate, NoDelegateField, BadWidget, WidgetCheck, ViewOutOfRange, NoSemanticsNode, NoAction}

-- whether a refusal is found before anything takes memory: the codes 5 to 8, 10 to 15, and 18
abbrev pub takes_no_memory : Refusal → Bool
takes_no_memory TimeGoesBack = true
takes_no_memory NoNode = true
takes_no_memory NotStateful = true
takes_no_memory NoField = true
takes_no_memory WrongType = false
takes_no_memory NotAViewport = true
takes_no_memory PointerIsDown = true
takes_no_memory PointerIsUp = true
takes_no_memory TooManyPointers = true
takes_no_memory NoDelegate = true
takes_no_memory NoDelegateField = true
takes_no_memory BadWidget = false
takes_no_memory WidgetCheck = false
takes_no_memory ViewOutOfRange = true
takes_no_memory NoSemanticsNode = false
takes_no_memory NoAction = false

-- what a command comes to in whose place want of memory may be answered
abbrev pub MayLackMemory : Outcome → Type 0
MayLackMemory (done s text) = Unit {0}
MayLackMemory (refused why) = takes_no_memory why ≡ false
MayLackMemory (faulted fault) = Unit {0}
