-- A widget of the program says truly how many widgets it is.
use Rattle.std.specs.Prelude.{◌≡◌, List, All}
use Rattle.std.specs.declared.rc.Rc.{Rc}
use Rattle.std.specs.declared.alloc.Global.{Global}
use Rattle.widget_model.specs.declared.widgets.Widget.{Widget}
use Rattle.widget_model.specs.Size.{size_of}
use Rattle.widget_model.specs.View.{plain_of}

abbrev pub IsSized : Widget → Type 0
IsSized w = w.size ≡ size_of (plain_of w)

-- so does each widget of a list
abbrev pub AreSized : List (Rc Widget Global) → Type 0
AreSized ws = All (λ r. IsSized r.value) ws
