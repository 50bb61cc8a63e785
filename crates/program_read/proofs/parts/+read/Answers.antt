use Rattle.std.proofs.Common.{◌≡◌, ◌∷◌, [], Ok, map, option_map, arith, rules, subst, sym, ap, ◌∙◌}
use Rattle.std.proofs.lemmas.List.{map-append}
use Rattle.std.specs.Vec.Iter.{into_iter_items}
use Rattle.serde_json.specs.Data.{object, depth}
use Rattle.json_tree.specs.View.{view, items_view, members_view}
use Rattle.program_read.proofs.ObjectLemmas.{Entry, members_depth-first, object_of-members}
use Rattle.program_read.specs.Answers.{Answers}
use Rattle.program_read.specs.ShapeFault.{given, each}
use Rattle.program_read.specs.Leaves.{walks}
use Rattle.program_read.specs.Objects.{in_order, named, named_walks}
use Rattle.program_form.specs.Kinds.{members_of}
use Rattle.program_form.specs.TemplateView.{plain_template, plain_member, plain_key_member, plain_slot}
use Rattle.program_read.specs.TemplateWalk.{template_of}
use Rattle.program_read.proofs.ItemsLemmas.{each-step, items_depth-first}
use Rattle.program_read.proofs.TakeLemmas.{given-all, given-next, given-later, distinct_names}
use Rattle.program_read.proofs.TemplateLemmas.{in_order-step, member_room, member_room-get, part-taken, members-step, template-keyed, opened-template, unopened, members-unread}
use Rattle.program_read.proofs.WalkLemmas.{resumed, resumed-none}
use Rattle.program_form.specs.Template.{template_from}
use Rattle.program_form.proofs.TemplateLemmas.{plain_template-out}
use Rattle.program_read.proofs.parts.+read.Goals as goal

pub read_templates-read_template-requires : goal.read_templates-read_template-requires
read_templates-read_template-requires t c =
    let less = items_depth-first _ c.in-Some.entry _ c.in-Some.ensures.steps.0 in
    (omega (arith, less, c.loop-entry.invariant.1, c.decreases), tt)

pub read_templates-loop-entry-preserved : goal.read_templates-loop-entry-preserved
read_templates-loop-entry-preserved t c =
    let l = c.loop-entry in
    let given = c.in_ok-template.template in
    let v = c.in-Some.entry in
    let less = items_depth-first _ v _ c.in-Some.ensures.steps.0 in
    let read : template_of c.args.version (view v) ≡ Ok (plain_template given) = search rules in (
      each-step (template_of c.args.version) _ v _ _ _ (each 0 (walks (template_of c.args.version) (items_view c.args.entries.items))) (map plain_template l.templates.items) (map plain_template c.push.new.self.items) (plain_template given)
          c.in-Some.ensures.steps.0 l.invariant.0 read (ap (map plain_template) c.in_ok-push.ensures.items ∙ map-append plain_template l.templates.items (given ∷ [])) (grind arith),
      omega (arith, l.invariant.1, less),
    )

pub read_member-read_part-requires : goal.read_member-read_part-requires
read_member-read_part-requires t c =
    let room = ap (λ f. member_room (option_map view f)) c.in-Some.is in
    (omega (arith, room, c.decreases), tt)

pub read_members-loop-member-init : goal.read_members-loop-member-init
read_members-loop-member-init t c = rw c.members-member-items.ensures (rw c.in_ok-members.ensures.items (resumed-none _, given-all (object (members_view c.args.given.now.items)) (members_of c.args.kind), distinct_names c.args.kind))

pub read_members-read_member-requires : goal.read_members-read_member-requires
read_members-read_member-requires t c =
    let l = c.loop-member in
    let d = object (members_view c.args.given.now.items) in
    let e = object (members_view l.given.items) in
    let name = c.text.result.now in
    let same = given-next d e c.members-member-items.result.now l.member-index _ name c.text.ensures c.loop-member-test.true l.invariant.1 in
    let room = member_room-get name d (option_map view c.take-found.result) (sym (c.take-found.ensures.taken ∙ same)) in
    (omega (arith, room, c.decreases), tt)

pub read_members-loop-member-preserved : goal.read_members-loop-member-preserved
read_members-loop-member-preserved t c =
    let l = c.loop-member in
    let d = object (members_view c.args.given.now.items) in
    let e = object (members_view l.given.items) in
    let ms = c.members-member-items.result.now in
    let name = c.text.result.now in
    let part = c.in_ok-read_member.field-0 in
    let same = given-next d e ms l.member-index _ name c.text.ensures c.loop-member-test.true l.invariant.1 in
    let read = part-taken c.args.version d e ms l.member-index _ name (option_map view c.take-found.result) c.text.ensures same c.take-found.ensures.taken ∙ c.in_ok-read_member.ensures in
    let kept = given-later d e (object (members_view c.take-found.new.members.items)) ms l.member-index _ name c.text.ensures c.loop-member-test.true l.invariant.1 l.invariant.2 c.take-found.ensures.others in (
      members-step c.args.version d ms l.member-index _ _ (map plain_member l.members.items) (map plain_member c.push.new.self.items) (plain_member part) c.loop-member-test.true l.invariant.0 read
          (ap (map plain_member) c.in_ok-push.ensures.items ∙ map-append plain_member l.members.items (part ∷ [])),
      kept.0,
      kept.1,
    )

pub read_slots-loop-member-preserved : goal.read_slots-loop-member-preserved
read_slots-loop-member-preserved t c =
    let l = c.loop-member in
    let e : Entry = c.in-Some.member in
    let given = c.in_ok-read_slot.field-0 in
    let before = map plain_slot l.slots.items in
    let step = c.in-Some.ensures.steps.0 in
    let less = members_depth-first _ e _ step in (
      in_order-step (in_order (named_walks (template_of c.args.version) (members_view c.args.members.items))) before (map plain_slot c.push.new.self.items)
          (named e.0.now (template_of c.args.version (view e.1))) (named_walks (template_of c.args.version) (members_view (into_iter_items c.next.new.self))) (plain_slot given)
          (l.invariant.0 ∙ ap (λ es. resumed before (in_order (named_walks (template_of c.args.version) (members_view es)))) step) c.in_ok-read_slot.ensures
          (ap (map plain_slot) c.in_ok-push.ensures.items ∙ map-append plain_slot l.slots.items (given ∷ [])),
      omega (arith, l.invariant.1, less),
    )

pub read_slots-read_slot-requires : goal.read_slots-read_slot-requires
read_slots-read_slot-requires t c =
    let less = members_depth-first _ c.in-Some.member _ c.in-Some.ensures.steps.0 in
    (omega (arith, less, c.loop-member.invariant.1, c.decreases), tt)

pub read_template-template_in-requires : goal.read_template-template_in-requires
read_template-template_in-requires t c =
    let same = ap depth (object_of-members (view c.args.value) (members_view c.in_ok-given.given.items) c.in_ok-given.ensures) in
    (omega (arith, same, c.decreases), tt)

pub read_template-returns-in_err-w : goal.read_template-returns-in_err-w
read_template-returns-in_err-w t c = search (rules, unopened)

pub read_template-returns-in_err-given : goal.read_template-returns-in_err-given
read_template-returns-in_err-given t c = search (rules, members-unread)

pub read_template-returns : goal.read_template-returns
read_template-returns t c =
    subst (λ w. Answers plain_template c.template_in.result w)
    (sym (opened-template c.args.version (view c.args.value) _ c.in_ok-w.w c.in_ok-w.ensures c.in_ok-given.ensures)) c.template_in.ensures

pub template_in-returns-in_err-members : goal.template_in-returns-in_err-members
template_in-returns-in_err-members t c =
    let whole = object (members_view c.args.given.now.items) in
    let left = object (members_view c.key_at.new.members.items) in
    let walk = template-keyed c.args.version whole left c.args.w (plain_key_member c.in_ok-key.key) c.in_ok-key.ensures.read c.key_at.ensures.others in
    subst (λ w. Answers plain_template c.from_residual-in_err-members.result w) (sym walk) (search rules)

pub template_in-returns : goal.template_in-returns
template_in-returns t c =
    let whole = object (members_view c.args.given.now.items) in
    let left = object (members_view c.key_at.new.members.items) in
    let walk = template-keyed c.args.version whole left c.args.w (plain_key_member c.in_ok-key.key) c.in_ok-key.ensures.read c.key_at.ensures.others in
    walk ∙ ap (given (template_from c.args.w (plain_key_member c.in_ok-key.key))) c.in_ok-members.ensures ∙ ap Ok (sym (plain_template-out _))
