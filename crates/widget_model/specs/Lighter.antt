-- The lists in a widget are fewer widgets than a list that holds it.
use Rattle.std.specs.Prelude.{◌≤◌, suc, List, [], ◌∷◌, map}
use Rattle.std.proofs.Common.{arith, max}
use Rattle.std.specs.declared.rc.Rc.{Rc}
use Rattle.std.specs.declared.alloc.Global.{Global}
use denote.Param.Weighed.{most}
use Rattle.widget_model.specs.declared.widgets.Kind.{Kind}
use Rattle.widget_model.specs.declared.widgets.Kind.TheVariants as kind
use Rattle.widget_model.specs.declared.widgets.Widget.{Widget}
use Rattle.widget_model.specs.declared.widgets.WidgetList.TheShapes.{weighed-WidgetList-items-at-1}
use Rattle.widget_model.specs.declared.widgets.WidgetList.TheDeep.{deep-Widget, deep-Kind}
use Rattle.widget_model.specs.Size.{count_of, count_in}
use Rattle.widget_model.specs.PlainLaws.{counts_of-widgets_of}
use Rattle.widget_model.specs.View.{slots_in, shared}

lighter_kind : (k : Kind) → deep-Kind k ≤ suc (count_in (slots_in k))
lighter_kind (kind.Use c props slots d) = omega arith
lighter_kind _ = omega arith

pub lighter_one : (r : Rc Widget Global) → (weighed-WidgetList-items-at-1).weight Widget deep-Widget r ≤ count_of (shared r)
lighter_one r = omega (arith, lighter_kind r.value.kind, counts_of-widgets_of (slots_in r.value.kind), counts_of-widgets_of r.value.children)

pub lighter : (items : List (Rc Widget Global))
    → max (most (λ x. (weighed-WidgetList-items-at-1).weight Widget deep-Widget x) items) 0 ≤ count_in (map shared items)
lighter [] = omega arith
lighter (r ∷ rs) = omega (arith, lighter rs, lighter_one r)
