use Rattle.std.proofs.Common.{◌≡◌, drop}
use Rattle.std.specs.List.{list_any}
use Rattle.std.specs.declared.alloc.Global.{Global}
use Rattle.std.specs.declared.rc.Rc.{Rc}
use Rattle.widget_keys.specs.Key.{is_given}
use Rattle.widget_model.specs.Plain.{key_of}
use Rattle.widget_model.specs.View.{shared}
use Rattle.widget_model.specs.declared.widgets.Widget.{Widget}
use Rattle.build_owner.proofs.giving.is_any_keyed.Given as goal

-- one of the widgets that are left has a key, if any has
abbrev pub invariant-loop-widget : goal.invariant-loop-widget
invariant-loop-widget l =
    list_any (λ (w : Rc Widget Global). is_given (key_of (shared w))) (drop l.widget-index l.widgets) ≡ list_any (λ (w : Rc Widget Global). is_given (key_of (shared w))) l.widgets
