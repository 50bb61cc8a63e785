-- What these proofs need to know of widgets that can update.
use Rattle.std.proofs.Common.{◌≡◌, true, refl}
use Rattle.widget_model.specs.Plain.{PlainWidget, key_of}
use Rattle.widget_model.specs.Update.{updates}
use Rattle.widget_model.specs.UpdateLaws.{updates_mean}

-- they have the same key
pub updates_key : (a b : PlainWidget) → updates a b ≡ true → key_of a ≡ key_of b
updates_key a b e = ((updates_mean a b).0 e).key

-- a widget can update to itself
pub updates_itself : (a : PlainWidget) → updates a a ≡ true
updates_itself a = (updates_mean a a).1 (record { type = refl; key = refl })
