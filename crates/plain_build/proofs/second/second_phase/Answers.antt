use Rattle.std.proofs.Common.{◌≡◌, true, not, map, sym, ap, ◌∙◌}
use Rattle.std.proofs.lemmas.Result.{on_ok_weaker}
use Rattle.build_form.specs.FullBuild.{live_ranges}
use Rattle.build_form.specs.Lent.{lent}
use Rattle.plain_build.specs.WalkView.{progress_of}
use Rattle.plain_build.specs.BasisView.{basis_of, declared_by}
use Rattle.plain_build.specs.RangesView.{ranges_of}
use Rattle.build_form.proofs.Outcomes.{fault_map}
use Rattle.build_form.proofs.Started.{are_waiting, nothing_waits, second_as_filled, waits_when}
use Rattle.plain_build.proofs.second.second_phase.Goals as goal

pub returns-then-is_empty-clause-ok : goal.returns-then-is_empty-clause-ok
returns-then-is_empty-clause-ok g c =
    let waiting = c.args.walk.now.waiting in
    nothing_waits (basis_of c.args.from.now) (live_ranges _) c.args.tree.now (map lent waiting.items) (progress_of c.args.walk.now)
    (waits_when waiting.items waiting.len waiting.ok.0 ∙ ap not (sym c.is_empty.ensures ∙ c.if-is_empty.true))

pub ranges_in-requires-clause-built : goal.ranges_in-requires-clause-built
ranges_in-requires-clause-built g c = (declared_by c.args.from.now, c.requires.tree)

pub returns-clause-ok : goal.returns-clause-ok
returns-clause-ok g c =
    let waiting = c.args.walk.now.waiting in
    let some : are_waiting (map lent waiting.items) ≡ true = waits_when waiting.items waiting.len waiting.ok.0 ∙ ap not (sym c.is_empty.ensures ∙ c.if-is_empty.false) in
    on_ok_weaker c.fill.result
    (λ h. second_as_filled (basis_of c.args.from.now) (live_ranges _) c.args.tree.now (map lent waiting.items) (progress_of c.args.walk.now) (ranges_of c.in_ok-ranges.ranges) c.args.values.now some
    (rw c.scale-scale.ensures at c.in_ok-ranges.ensures) c.requires.values ∙ h)
    c.fill.ensures.ok

pub returns-clause-fault : goal.returns-clause-fault
returns-clause-fault g c =
    let waiting = c.args.walk.now.waiting in
    let some : are_waiting (map lent waiting.items) ≡ true = waits_when waiting.items waiting.len waiting.ok.0 ∙ ap not (sym c.is_empty.ensures ∙ c.if-is_empty.false) in
    fault_map _ _ c.fill.result
    (λ f h. second_as_filled (basis_of c.args.from.now) (live_ranges _) c.args.tree.now (map lent waiting.items) (progress_of c.args.walk.now) (ranges_of c.in_ok-ranges.ranges) c.args.values.now some
    (rw c.scale-scale.ensures at c.in_ok-ranges.ensures) c.requires.values ∙ h)
    c.fill.ensures.fault
