use Rattle.std.proofs.Common.{◌≡◌, ◌∙◌, ap, refl, sym, Some, [], rules}
use Rattle.delegates.specs.Table.{meant_in}
use Rattle.plain_tree.specs.Laid.{Laid}
use Rattle.widget_model.specs.Look.{Look}
use Rattle.layout_form.specs.declared.asks.Ask.{Ask}
use Rattle.layout_form.specs.declared.asks.Ask.TheVariants.{AsBox}
use Rattle.layout_form.specs.Layout.{object}
use Rattle.layout_form.specs.Object.{setting_of}
use Rattle.layout_form.specs.Protocol.{answer}
use Rattle.kind_rules.specs.Asked.{found_of, found_for}
use Rattle.kind_rules.specs.Cursor.{look_of}
use Rattle.kind_rules.specs.Lone.{lone_size}
use Rattle.plain_layout.specs.Computed.{scroll_of}
use Rattle.plain_layout.proofs.Lists.{lone_view}
use Rattle.plain_layout.proofs.Asking.{was_answered, offset_of}
use Rattle.plain_layout.proofs.Runs.{sizes_alone, found_alone, walks_alone, bare_is}
use Rattle.plain_layout.proofs.bare.bare.Goals as goal

pub returns-then-is_answered : goal.returns-then-is_answered
returns-then-is_answered g c =
    was_answered (setting_of c.args.scale (meant_in c.args.table.now (λ v. (g.dyn-1.0.entry v).1))) c.args.ask.now c.args.slot.now c.args.node.now c.requires.ready (sym c.is_answered.ensures ∙ c.if-is_answered.true)

pub bare_made-requires : goal.bare_made-requires
bare_made-requires g c =
    let s = setting_of c.args.scale (meant_in c.args.table.now (λ v. (g.dyn-1.0.entry v).1)) in
    let node = c.args.node.now in
    let by = c.slivers_are_measured_by_their_boxes.ensures in
    let follow = c.slivers_follow_their_scroll_extents.ensures in
    let found = found_of c.found_for-found.result in
    let is = c.found_for-found.ensures in
    record {
      nobody = c.requires.nobody;
      fits = c.requires.fits;
      sizes = sizes_alone s node c.args.ask.now found is by follow;
      stack = found_alone s node c.args.ask.now found is by follow;
      offset = offset_of s c.args.ask.now c.args.slot.now node c.requires.ready;
      walk = walks_alone s node c.args.ask.now found is by follow;
    }

pub returns : goal.returns
returns g c =
    let s = setting_of c.args.scale (meant_in c.args.table.now (λ v. (g.dyn-1.0.entry v).1)) in
    let node = c.args.node.now in
    let found = found_of c.found_for-found.result in
    c.in_ok-bare_made.ensures
    ∙ ap (λ (x : Laid). Some x)
    (bare_is s node c.args.ask.now found c.found_for-found.ensures c.slivers_are_measured_by_their_boxes.ensures c.slivers_follow_their_scroll_extents.ensures
    c.rules_see_frames.ensures.boxes c.rules_see_frames.ensures.slivers c.viewports_need_scroll_extents.ensures _ c.requires.nobody refl)

pub returns-in-Some : goal.returns-in-Some
returns-in-Some g c =
    let s = setting_of c.args.scale (meant_in c.args.table.now (λ v. (g.dyn-1.0.entry v).1)) in
    let node = c.args.node.now in
    let b = c.in-AsBox.bounds in
    let size = c.in-Some.size in
    let found = found_for (look_of node) (scroll_of node) (AsBox b) [] in
    let is : AsBox b ≡ c.args.ask.now = search rules in
    let lone : Some size ≡ lone_size s (look_of node) b = c.in-Some.ensures ∙ ap (λ (l : Look). lone_size s l b) c.kind_of.ensures in
    c.in_ok-stand-in-Some.ensures
    ∙ ap (λ (x : Laid). Some x)
    (lone_view s node b size found lone
    ∙ bare_is s node (AsBox b) found refl c.slivers_are_measured_by_their_boxes.ensures c.slivers_follow_their_scroll_extents.ensures
    c.rules_see_frames.ensures.boxes c.rules_see_frames.ensures.slivers c.viewports_need_scroll_extents.ensures _ c.requires.nobody refl
    ∙ ap (λ (a : Ask). answer (object s node) a) is)
