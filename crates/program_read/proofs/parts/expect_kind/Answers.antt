use Rattle.std.proofs.Common.{sym, ◌∙◌, filter}
use Rattle.std.proofs.lemmas.List.Folds.{list_all-map}
use Rattle.json_tree.specs.View.{view, members_view}
use Rattle.program_form.specs.Kinds.{member_text, members_of}
use Rattle.program_read.specs.Objects.{has, is_among}
use Rattle.program_read.specs.TemplateWalk.{required_names, known_names}
use Rattle.program_read.proofs.ObjectLemmas.{all_known, shaped-missing, shaped-unknown, shaped-whole}
use Rattle.program_read.proofs.WalkLemmas.{StopsAs-here}
use Rattle.program_read.proofs.parts.expect_kind.Goals as goal

pub returns-then-not-has_required : goal.returns-then-not-has_required
returns-then-not-has_required c =
    let kind = c.args.kind in
    let d = view c.args.value.now in
    StopsAs-here _ _ _ c.here.ensures
    (shaped-missing (required_names kind) (known_names kind) d (members_view c.in_ok-members.members.now.items) c.in_ok-members.ensures
    (list_all-map (has d) (λ m. member_text m.name) (filter (λ m. m.required) (members_of kind)) ∙ sym c.has_required.ensures ∙ c.if-not-has_required.true))

pub returns-then-not-knows_all : goal.returns-then-not-knows_all
returns-then-not-knows_all c =
    let kind = c.args.kind in
    let d = view c.args.value.now in
    let es = c.in_ok-members.members.now.items in
    StopsAs-here _ _ _ c.here-then-not-knows_all.ensures
    (shaped-unknown (required_names kind) (known_names kind) d (members_view es) c.in_ok-members.ensures
    (list_all-map (has d) (λ m. member_text m.name) (filter (λ m. m.required) (members_of kind)) ∙ sym c.has_required.ensures ∙ c.if-not-has_required.false)
    (sym (all_known (is_among (known_names kind)) es) ∙ sym c.knows_all.ensures ∙ c.if-not-knows_all.true))

pub returns : goal.returns
returns c =
    let kind = c.args.kind in
    let d = view c.args.value.now in
    let es = c.in_ok-members.members.now.items in
    shaped-whole (required_names kind) (known_names kind) d (members_view es) c.in_ok-members.ensures
    (list_all-map (has d) (λ m. member_text m.name) (filter (λ m. m.required) (members_of kind)) ∙ sym c.has_required.ensures ∙ c.if-not-has_required.false)
    (sym (all_known (is_among (known_names kind)) es) ∙ sym c.knows_all.ensures ∙ c.if-not-knows_all.false)
