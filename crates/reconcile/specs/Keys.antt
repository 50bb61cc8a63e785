-- When no key repeats in a list of widgets.
use Rattle.std.specs.Prelude.{◌≡◌, IsTrue, List, AllPairs}
use Rattle.std.specs.Borrow.{Bor}
use Rattle.widget_keys.specs.declared.keys.Key.{Key}
use Rattle.widget_keys.specs.declared.keys.Key.TheVariants as key
use Rattle.widget_keys.specs.Key.{is_given}
use Rattle.widget_model.specs.Plain.{PlainWidget, key_of}

-- the first has no key, or the second has another
abbrev pub DifferInKey : PlainWidget → PlainWidget → Type 0
DifferInKey a b = IsTrue (is_given (key_of a)) → ¬ key_of a ≡ key_of b

-- no key stands twice in the list; absent keys don't count. It says of any two widgets what `IsRepeat` of widget_keys says of one
-- place (`laws::no_repeat_is_found`: the two are equivalent), as matching asks it of pairs.
abbrev pub NoKeyRepeats : List PlainWidget → Type 0
NoKeyRepeats ws = AllPairs DifferInKey ws

-- a key whose value is lent, with that value
abbrev pub of_lent : {V : Type 0} → Key (Bor V) → Key V
of_lent key.None = key.None
of_lent (key.Local v) = key.Local v.now
of_lent (key.Global v) = key.Global v.now
