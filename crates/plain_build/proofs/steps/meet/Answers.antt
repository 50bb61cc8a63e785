use Rattle.std.proofs.Common.{◌≡◌, rules, sym, map, ◌∙◌}
use Rattle.build_form.specs.Lent.{lent}
use Rattle.plain_build.proofs.Meeting.{met_answers, met_again, met_now}
use Rattle.plain_build.proofs.steps.meet.Goals as goal

pub returns-then-contains-clause-fault : goal.returns-then-contains-clause-fault
returns-then-contains-clause-fault c =
    let w = c.args.walk.now in
    let same : c.in_ok-clone-in-Global.field-0 ≡ c.in-Global.global = search rules in
    met_again w.entered w.next (map lent w.waiting.items) c.args.key.now c.in-Global.global c.in_ok-clone-in-Global.field-0 w.met c.in-Global.is
    (sym (met_answers c.in-Global.global w.met) ∙ sym c.contains.ensures ∙ c.if-contains.true) same

pub returns-in_ok-insert-in-Global-clause-ok : goal.returns-in_ok-insert-in-Global-clause-ok
returns-in_ok-insert-in-Global-clause-ok c =
    let w = c.args.walk.now in
    let same : c.in_ok-clone-in-Global-2.field-0 ≡ c.in-Global.global = search rules in
    met_now w.entered w.next (map lent w.waiting.items) c.args.key.now c.in-Global.global c.in_ok-clone-in-Global-2.field-0 w.met c.insert.new.self c.in-Global.is
    (sym (met_answers c.in-Global.global w.met) ∙ sym c.contains.ensures ∙ c.if-contains.false) same c.in_ok-insert-in-Global.ensures.updates
