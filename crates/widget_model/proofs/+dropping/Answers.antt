use Rattle.std.proofs.Common.{arith, rules, sym, ap, subst, ◌<◌, List, length}
use Rattle.std.specs.declared.rc.Rc.{Rc}
use Rattle.std.specs.declared.alloc.Global.{Global}
use Rattle.widget_model.specs.declared.widgets.Widget.{Widget}
use Rattle.widget_model.specs.View.{slots_in}
use Rattle.widget_model.specs.Size.{count_in}
use Rattle.widget_model.proofs.Counting.{slots_fewer, children_fewer}
use Rattle.widget_model.proofs.Dropping.{rest_below, taken_below}
use Rattle.widget_model.proofs.+dropping.Goals as goal

pub widgets::Widget::into_heavier-returns-then-total_size : goal.widgets::Widget::into_heavier-returns-then-total_size
widgets::Widget::into_heavier-returns-then-total_size t c = slots_fewer c.args.self c.in-Use.slots (sym (ap slots_in c.in-Use.is))

pub widgets::Widget::into_heavier-returns-in-Use : goal.widgets::Widget::into_heavier-returns-in-Use
widgets::Widget::into_heavier-returns-in-Use t c = children_fewer c.args.self

pub widgets::Widget::into_heavier-returns : goal.widgets::Widget::into_heavier-returns
widgets::Widget::into_heavier-returns t c = children_fewer c.args.self

pub widgets::WidgetList::drop-drop-requires : goal.widgets::WidgetList::drop-drop-requires
widgets::WidgetList::drop-drop-requires t c κs =
    let lighter =
    rest_below c.self.inside.items.items c.heaviest_of-place.result c.swap_remove-heaviest.result c.loop-items.self (subst (λ (rs : List (Rc Widget Global)). c.heaviest_of-place.result < length rs) c.as_slice.ensures.value c.heaviest_of-place.ensures)
    c.swap_remove-heaviest.ensures.value c.self.view_is c.swap_remove-heaviest.new.self.items (count_in c.args.self) t
    c.swap_remove-heaviest.ensures.items c.loop-items.invariant c.decreases in
    (((lighter, tt), tt), search rules)

pub widgets::WidgetList::drop-loop-items-smaller : goal.widgets::WidgetList::drop-loop-items-smaller
widgets::WidgetList::drop-loop-items-smaller t c =
    taken_below c.self.inside.items.items c.heaviest_of-place.result c.swap_remove-heaviest.result c.loop-items.self (subst (λ (rs : List (Rc Widget Global)). c.heaviest_of-place.result < length rs) c.as_slice.ensures.value c.heaviest_of-place.ensures)
    c.swap_remove-heaviest.ensures.value c.self.view_is c.in-Some.widget c.into_heavier-self.result (search rules) c.into_heavier-self.ensures

pub widgets::WidgetList::drop-loop-items-preserved : goal.widgets::WidgetList::drop-loop-items-preserved
widgets::WidgetList::drop-loop-items-preserved t c =
    let less : count_in c.into_heavier-self.result < count_in c.loop-items.self =
    taken_below c.self.inside.items.items c.heaviest_of-place.result c.swap_remove-heaviest.result c.loop-items.self (subst (λ (rs : List (Rc Widget Global)). c.heaviest_of-place.result < length rs) c.as_slice.ensures.value c.heaviest_of-place.ensures)
    c.swap_remove-heaviest.ensures.value c.self.view_is c.in-Some.widget c.into_heavier-self.result (search rules) c.into_heavier-self.ensures in
    omega (arith, c.loop-items.invariant)
