-- Where want of memory may be answered.
use Rattle.std.specs.Prelude.{◌≡◌, Bool, true, false}
use Rattle.frame_session.specs.Memory as session
use Rattle.script_lines.specs.declared.entry.Entry.{Entry}
use Rattle.script_lines.specs.declared.entry.Entry.TheVariants as entry
use Rattle.live_session.specs.RunState.{Came, went, refused, faulted}
use Rattle.live_session.specs.declared.refusal.LineRefusal.{LineRefusal}
use Rattle.live_session.specs.declared.refusal.LineRefusal.TheVariants as refusal

-- whether a refusal is found before anything takes memory, where the line isn't that of a tween, whose field's name is copied first
abbrev pub takes_no_memory : LineRefusal → Bool
takes_no_memory refusal.LineTooLong = false
takes_no_memory refusal.NotUtf8 = false
takes_no_memory refusal.UnknownLine = false
takes_no_memory refusal.BadNumber = false
takes_no_memory (refusal.Command why) = session.takes_no_memory why
takes_no_memory refusal.TooManyTweens = false
takes_no_memory refusal.NoFocus = true
takes_no_memory refusal.NotFocusable = false
takes_no_memory refusal.TooManyCells = true
takes_no_memory refusal.NoFrame = true

-- what a line comes to in whose place want of memory may be answered
abbrev pub MayLackMemory : Came → Type 0
MayLackMemory (went r text) = Unit {0}
MayLackMemory (refused why) = takes_no_memory why ≡ false
MayLackMemory (faulted fault) = Unit {0}

abbrev pub is_tween : Entry → Bool
is_tween (entry.Line command) = false
is_tween (entry.Tween node field from to ms curve) = true
is_tween entry.FocusNext = false
is_tween entry.FocusPrev = false
is_tween (entry.FocusOn node) = false
is_tween entry.FocusNone = false
is_tween entry.Press = false
is_tween entry.Cells = false
