use Rattle.std.proofs.Common.{◌≡◌, ◌↔◌, IsTrue, arith, true, false, sym, ap, ◌∙◌, subst, List}
use Rattle.widget_model.specs.declared.widgets.Kind.{Kind}
use Rattle.widget_model.specs.declared.widgets.Widget.{Widget}
use Rattle.widget_model.specs.Plain.{PlainWidget, widgets_of}
use Rattle.widget_model.specs.Size.{count_of}
use Rattle.widget_model.specs.View.{look_in, slots_in, plain_of}
use Rattle.build_form.specs.BuildRole.{build_role_of, is_lazy}
use Rattle.versioned_kinds.specs.Lists.{IsNoList}
use Rattle.versioned_kinds.specs.Widgets.{LooksMeet, AllLooksMeet}
use Rattle.first_builds.proofs.Listless.{told, told_not, untrue, WidgetIsListless, WidgetsAreListless, widgets_opened, slots_fewer, children_fewer, counted_at, each_more, each_not, each_all}
use Rattle.first_builds.proofs.listing.+widgets.Goals as goal

pub is_listless-is_listless_kind-requires : goal.is_listless-is_listless_kind-requires
is_listless-is_listless_kind-requires t c = (omega (arith, c.decreases, slots_fewer c.args.widget.now), tt)

pub is_listless-are_listless-requires : goal.is_listless-are_listless-requires
is_listless-are_listless-requires t c = (omega (arith, c.decreases, children_fewer c.args.widget.now _ c.get.ensures.widgets), tt)

pub are_listless-is_listless-requires : goal.are_listless-is_listless-requires
are_listless-is_listless-requires t c = (
  omega (
    arith,
    c.decreases,
    counted_at c.args.widgets.now c.loop-widget.widget-index c.widget-item.result c.loop-widget-test.true c.widget-item.is,
    ap (λ (w : Widget). count_of (plain_of w)) c.deref.ensures,
  ),
  tt,
)

pub is_listless-returns-then-not-is_listless_kind : goal.is_listless-returns-then-not-is_listless_kind
is_listless-returns-then-not-is_listless_kind t c = told_not (λ h. untrue c.is_listless_kind.result c.if-not-is_listless_kind.true c.is_listless_kind.ensures (h.0, h.1))

pub is_listless-returns : goal.is_listless-returns
is_listless-returns t c =
    let kind = c.is_listless_kind.ensures.0 c.if-not-is_listless_kind.false in
    let below = subst (λ (ws : List PlainWidget). IsTrue c.are_listless.result ↔ AllLooksMeet IsNoList (widgets_of ws)) c.get.ensures.widgets c.are_listless.ensures in
    (λ on. (kind.0, kind.1, below.0 on), λ h. below.1 h.2)

pub is_listless_kind-returns-in-SliverLazy : goal.is_listless_kind-returns-in-SliverLazy
is_listless_kind-returns-in-SliverLazy t c =
    told_not (λ h. let f : true ≡ false = sym (ap (λ (k : Kind). is_lazy (build_role_of (look_in k))) c.in-SliverLazy.is) ∙ h.0 in cc)

pub is_listless_kind-returns-in-Use : goal.is_listless_kind-returns-in-Use
is_listless_kind-returns-in-Use t c =
    let kind = ap (λ (k : Kind). is_lazy (build_role_of (look_in k))) c.in-Use.is in
    let within = subst (λ (ws : List PlainWidget). IsTrue c.are_listless.result ↔ AllLooksMeet IsNoList (widgets_of ws)) (c.get.ensures.widgets ∙ sym (ap slots_in c.in-Use.is)) c.are_listless.ensures in
    (λ on. (kind, within.0 on), λ h. within.1 h.1)

pub are_listless-returns-then-not-is_listless : goal.are_listless-returns-then-not-is_listless
are_listless-returns-then-not-is_listless t c =
    told_not (each_not WidgetIsListless WidgetsAreListless widgets_opened (WidgetsAreListless c.args.widgets.now) c.args.widgets.now c.loop-widget.widget-index c.widget-item.result c.loop-widget-test.true c.widget-item.is
    c.loop-widget.invariant
    (λ h. untrue c.is_listless.result c.if-not-is_listless.true c.is_listless.ensures (subst (λ (w : Widget). LooksMeet IsNoList (plain_of w)) (sym c.deref.ensures) h)))

pub are_listless-loop-widget-preserved : goal.are_listless-loop-widget-preserved
are_listless-loop-widget-preserved t c =
    each_more WidgetIsListless WidgetsAreListless widgets_opened (WidgetsAreListless c.args.widgets.now) c.args.widgets.now c.loop-widget.widget-index c.widget-item.result c.loop-widget-test.true c.widget-item.is
    c.loop-widget.invariant
    (subst (λ (w : Widget). LooksMeet IsNoList (plain_of w)) c.deref.ensures (c.is_listless.ensures.0 c.if-not-is_listless.false))

pub are_listless-returns : goal.are_listless-returns
are_listless-returns t c =
    told (each_all WidgetIsListless WidgetsAreListless widgets_opened (WidgetsAreListless c.args.widgets.now) c.args.widgets.now c.loop-widget.widget-index tt c.loop-widget-test.false c.loop-widget.invariant)
