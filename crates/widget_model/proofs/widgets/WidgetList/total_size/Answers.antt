use Rattle.std.proofs.Common.{List, sym, subst, ◌∙◌}
use Rattle.std.specs.declared.rc.Rc.{Rc}
use Rattle.std.specs.declared.alloc.Global.{Global}
use Rattle.widget_model.specs.declared.widgets.Widget.{Widget}
use Rattle.widget_model.specs.Sized.{AreSized}
use Rattle.widget_model.proofs.Counting.{sum_more}
use Rattle.widget_model.proofs.widgets.WidgetList.total_size.Goals as goal

pub loop-widget-preserved : goal.loop-widget-preserved
loop-widget-preserved c =
    let all = subst (λ (ws : List (Rc Widget Global)). AreSized ws) (sym c.deref-widget-items.ensures.value) c.self.invariant in
    c.saturating_add-total.ensures
    ∙ sum_more c.deref-widget-items.result.now c.loop-widget.widget-index c.loop-widget.total c.widget-item.result c.deref.result.now
    all c.loop-widget-test.true c.widget-item.is c.deref.ensures c.loop-widget.invariant
