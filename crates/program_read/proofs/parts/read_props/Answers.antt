use Rattle.std.proofs.Common.{◌+◌, List, ◌∷◌, [], map, drop, ap, ◌∙◌}
use Rattle.std.proofs.lemmas.List.{map-append}
use Rattle.json_tree.specs.View.{view, members_view}
use Rattle.program_read.proofs.ItemsLemmas.{entries-at}
use Rattle.program_read.proofs.ObjectLemmas.{Entry}
use Rattle.program_read.specs.FormWalk.{form_of}
use Rattle.program_read.specs.Objects.{in_order, named, named_walks}
use Rattle.program_form.specs.TemplateView.{plain_prop}
use Rattle.program_read.proofs.TemplateLemmas.{in_order-step}
use Rattle.program_read.proofs.WalkLemmas.{resumed}
use Rattle.program_read.proofs.parts.read_props.Goals as goal

pub loop-member-preserved : goal.loop-member-preserved
loop-member-preserved c =
    let l = c.loop-member in
    let es : List Entry = c.args.members.now in
    let e : Entry = c.member-item.result in
    let given = c.in_ok-read_prop.field-0 in
    let before = map plain_prop l.props.items in
    in_order-step (in_order (named_walks form_of (members_view es))) before (map plain_prop c.push.new.self.items)
    (named e.0.now (form_of (view e.1))) (named_walks form_of (members_view (drop (l.member-index + 1) es))) (plain_prop given)
    (l.invariant ∙ ap (λ xs. resumed before (in_order (named_walks form_of (members_view xs)))) (entries-at es l.member-index e c.loop-member-test.true c.member-item.is)) c.in_ok-read_prop.ensures
    (ap (map plain_prop) c.in_ok-push.ensures.items ∙ map-append plain_prop l.props.items (given ∷ []))
