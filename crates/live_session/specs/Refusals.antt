-- Why script lines are refused: the number and the name of each cause.
use Rattle.std.specs.Prelude.{ℕ, List, codes}
use Rattle.session_form.specs.Refusals as session
use Rattle.live_session.specs.declared.refusal.LineRefusal.{LineRefusal}
use Rattle.live_session.specs.declared.refusal.LineRefusal.TheVariants as refusal

-- the number of a refusal: 1 to 4 where the line can't be read, 5 to 20 where the session refuses its command, 22 to 26 by what
-- stands beside the session
abbrev pub code_of : LineRefusal → ℕ
code_of refusal.LineTooLong = 1
code_of refusal.NotUtf8 = 2
code_of refusal.UnknownLine = 3
code_of refusal.BadNumber = 4
code_of (refusal.Command why) = session.code_of why
code_of refusal.TooManyTweens = 22
code_of refusal.NoFocus = 23
code_of refusal.NotFocusable = 24
code_of refusal.TooManyCells = 25
code_of refusal.NoFrame = 26

-- the name of a refusal
abbrev pub name_of : LineRefusal → List ℕ
name_of refusal.LineTooLong = codes "LineTooLong"
name_of refusal.NotUtf8 = codes "NotUtf8"
name_of refusal.UnknownLine = codes "UnknownLine"
name_of refusal.BadNumber = codes "BadNumber"
name_of (refusal.Command why) = session.name_of why
name_of refusal.TooManyTweens = codes "TooManyTweens"
name_of refusal.NoFocus = codes "NoFocus"
name_of refusal.NotFocusable = codes "NotFocusable"
name_of refusal.TooManyCells = codes "TooManyCells"
name_of refusal.NoFrame = codes "NoFrame"
