-- The arrivals so far.
use Rattle.std.proofs.Common.{◌≡◌, Option, List, map}
use Rattle.std.specs.List.{All}
use Rattle.fx_expr.specs.declared.values.Value.{Value}
use Rattle.widget_model.specs.Plain.{PlainWidget}
use Rattle.widget_model.specs.Typed.{Declarations}
use Rattle.plain_tree.specs.PlainNode.{PlainNode, widget_of}
use Rattle.build_form.specs.Step.{Step}
use Rattle.build_form.specs.WellBuilt.{IsWellBuilt, AreWaiting}

-- what was entered so far, with what is left, is the whole
pub record SoFar (d : Declarations) (values start : List Value) (widgets : List PlainWidget) (nodes : List PlainNode) (waits : List (Option PlainNode)) (whole rest : Step (List PlainNode)) : Type 0 where
  pub steps : whole ≡ rest
  pub values_same : values ≡ start
  pub waiting : AreWaiting d waits
  pub built : All (IsWellBuilt d) nodes
  pub widgets_same : map widget_of nodes ≡ widgets
