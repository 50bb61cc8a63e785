-- How many widgets a widget is.
use Rattle.std.specs.Prelude.{ℕ, suc, ◌+◌, ◌-◌, ◌^◌, min, List, [], ◌∷◌}
use Rattle.widget_model.specs.Plain.{PlainWidget, plain, Widgets, no_widgets, more}

-- a widget is one, with those in its slots and its children
abbrev mutual
  pub count_of : PlainWidget → ℕ
  count_of (plain l k slots children) = suc (counts_of slots + counts_of children)

  pub counts_of : Widgets → ℕ
  counts_of no_widgets = 0
  counts_of (more w ws) = count_of w + counts_of ws

-- how many the widgets of a list are
abbrev pub count_in : List PlainWidget → ℕ
count_in [] = 0
count_in (w ∷ ws) = count_of w + count_in ws

-- the size of a widget: how many it is, or 2^32 - 1 where it is more
abbrev pub size_of : PlainWidget → ℕ
size_of w = min (count_of w) (2 ^ 32 - 1)
