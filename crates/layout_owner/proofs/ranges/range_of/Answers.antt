use Rattle.std.proofs.lemmas.List.{length-map}
use Rattle.std.proofs.Common.{◌≡◌, Some, sym, ap, ◌∙◌, option_copied, option_map, length}
use Rattle.fx_geom.specs.declared.scales.Scale.{Scale}
use Rattle.widget_model.specs.declared.widgets.Widget.{Widget}
use Rattle.widget_model.specs.Plain.{look_of, children_of}
use Rattle.widget_model.specs.PlainLaws.{list_of-widgets_of}
use Rattle.widget_model.specs.View.{plain_of, shared}
use Rattle.render_tree.specs.Tree.{object_at}
use Rattle.layout_walk.specs.Rules.{lazy_extent}
use Rattle.layout_owner.specs.Ranges.{range_in}
use Rattle.layout_owner.proofs.Listing.{widget_is, range_is}
use Rattle.layout_owner.proofs.ranges.range_of.Goals as goal

pub returns : goal.returns
returns c = λ o is.
    let w = shared c.in_ok-widget.widget.now in
    let same = widget_is (option_map shared (option_copied c.widget.result)) (object_at c.args.r.now.tree c.args.h) w o c.widget.ensures
    (ap (λ x. option_map shared (option_copied x)) c.in_ok-widget.was) is in
    let look : lazy_extent (look_of w) ≡ Some c.in_ok-extent.extent =
    sym (c.list_extent.ensures ∙ ap (λ (v : Widget). lazy_extent (look_of (plain_of v))) c.deref.ensures) ∙ c.in_ok-extent.was in
    ap (λ x. Some x) (c.range_in.ensures ∙ ap (λ (x : Scale). range_in c.sliver.result c.in_ok-extent.extent (length c.get.result.now) x.widen) c.scale.ensures)
    ∙ range_is c.args.r.now.tree c.args.h o w c.in_ok-extent.extent (length c.get.result.now) c.args.r.now.scale.widen c.sliver.result is same look
    (sym (length-map c.get.result.now shared) ∙ ap (λ ws. length ws) c.get.ensures.widgets
    ∙ ap (λ ws. length ws) (sym (list_of-widgets_of c.deref-2.result.now.children)) ∙ ap (λ (v : Widget). length (children_of (plain_of v))) c.deref-2.ensures) c.sliver.ensures
