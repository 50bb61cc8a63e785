use Rattle.std.proofs.Common.{◌≡◌, map, take}
use Rattle.widget_model.specs.Plain.{key_of}
use Rattle.widget_model.specs.View.{shared}
use Rattle.plain_build.proofs.steps.keys_of.Given as goal

abbrev pub invariant-loop-widget : goal.invariant-loop-widget
invariant-loop-widget l = l.keys.items ≡ map key_of (map shared (take l.widget-index l.widgets))
