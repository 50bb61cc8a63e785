use Rattle.std.proofs.Common.{sym, ◌∙◌, map}
use Rattle.std.proofs.lemmas.List.Folds.{list_all-map}
use Rattle.json_tree.specs.View.{view, members_view}
use Rattle.program_read.specs.Objects.{has}
use Rattle.program_read.proofs.ObjectLemmas.{all_among, shaped-missing, shaped-unknown, shaped-whole}
use Rattle.program_read.proofs.WalkLemmas.{StopsAs-here}
use Rattle.program_read.proofs.objects.expect_members.Goals as goal

pub returns-then-not-has_all : goal.returns-then-not-has_all
returns-then-not-has_all c =
    let required = c.args.required.now in
    let d = view c.args.value.now in
    StopsAs-here _ _ _ c.here.ensures
    (shaped-missing (map (λ n. n.now) required) (map (λ n. n.now) c.args.known.now) d (members_view c.in_ok-members.members.now.items) c.in_ok-members.ensures
    (list_all-map (has d) (λ n. n.now) required ∙ sym c.has_all.ensures ∙ c.if-not-has_all.true))

pub returns-then-not-are_among : goal.returns-then-not-are_among
returns-then-not-are_among c =
    let required = c.args.required.now in
    let known = c.args.known.now in
    let d = view c.args.value.now in
    let es = c.in_ok-members.members.now.items in
    StopsAs-here _ _ _ c.here-then-not-are_among.ensures
    (shaped-unknown (map (λ n. n.now) required) (map (λ n. n.now) known) d (members_view es) c.in_ok-members.ensures
    (list_all-map (has d) (λ n. n.now) required ∙ sym c.has_all.ensures ∙ c.if-not-has_all.false)
    (sym (all_among known es) ∙ sym c.are_among.ensures ∙ c.if-not-are_among.true))

pub returns : goal.returns
returns c =
    let required = c.args.required.now in
    let known = c.args.known.now in
    let d = view c.args.value.now in
    let es = c.in_ok-members.members.now.items in
    shaped-whole (map (λ n. n.now) required) (map (λ n. n.now) known) d (members_view es) c.in_ok-members.ensures
    (list_all-map (has d) (λ n. n.now) required ∙ sym c.has_all.ensures ∙ c.if-not-has_all.false)
    (sym (all_among known es) ∙ sym c.are_among.ensures ∙ c.if-not-are_among.false)
