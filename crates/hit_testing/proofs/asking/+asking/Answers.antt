use Rattle.std.proofs.Common.{◌≡◌, ◌∙◌, ◌+◌, ◌-◌, ◌<◌, ◌++◌, true, None, ap, refl, sym, arith, map, length, drop, option_map}
use Rattle.std.specs.Prelude.{slice_index_or}
use Rattle.std.proofs.lemmas.List.{append-nil}
use Rattle.plain_tree.specs.Laid.{Laids, Stood}
use Rattle.laid_cursor.specs.Opened.{opened, laids_at, offset_of}
use Rattle.laid_cursor.proofs.Walking.{child_fewer}
use Rattle.screen_form.specs.HitRole.{hit_role}
use Rattle.screen_form.specs.Hits.{Hit, asked_last}
use Rattle.hit_testing.proofs.Steps.{alone_answers, alone_adds, outside_answers, outside_adds, answers, adds, begins, passed, still_missed, still_added, hit_here, added_here}
use Rattle.hit_testing.specs.Taking.{is_before}
use Rattle.hit_testing.proofs.asking.+asking.Goals as goal

pub ask-returns-then-not-inside-clause-answer : goal.ask-returns-then-not-inside-clause-answer
ask-returns-then-not-inside-clause-answer g t c =
    outside_answers (g.C.LaidCursor.stands c.args.node) c.args.point c.is_inside-inside.result c.is_inside-inside.ensures c.if-not-inside.true

pub ask-returns-then-not-inside-clause-added : goal.ask-returns-then-not-inside-clause-added
ask-returns-then-not-inside-clause-added g t c =
    outside_adds (g.C.LaidCursor.stands c.args.node) c.args.point c.is_inside-inside.result c.is_inside-inside.ensures c.if-not-inside.true
    (map g.C.LaidCursor.stands c.args.path.now.items)

pub ask-returns-clause-answer : goal.ask-returns-clause-answer
ask-returns-clause-answer g t c = c.ask_inside.ensures.answer (sym c.is_inside-inside.ensures ∙ c.if-not-inside.false)

pub ask-returns-clause-added : goal.ask-returns-clause-added
ask-returns-clause-added g t c = c.ask_inside.ensures.added (sym c.is_inside-inside.ensures ∙ c.if-not-inside.false)

pub ask_inside-returns-in-Some-clause-answer : goal.ask_inside-returns-in-Some-clause-answer
ask_inside-returns-in-Some-clause-answer g t c within =
    let l = g.C.LaidCursor.stands c.args.node in
    let role : c.hit_role-role.result ≡ hit_role (opened l).look (opened l).facts.plugged =
    c.hit_role-role.ensures ∙ (λ i. hit_role (c.kind.ensures i) (c.plugged.ensures i)) in
    alone_answers l c.args.point c.hit_role-role.result true role (sym within) c.in-Some.answer (sym c.in-Some.ensures)

pub ask_inside-returns-in-Some-clause-added : goal.ask_inside-returns-in-Some-clause-added
ask_inside-returns-in-Some-clause-added g t c within =
    let l = g.C.LaidCursor.stands c.args.node in
    let role : c.hit_role-role.result ≡ hit_role (opened l).look (opened l).facts.plugged =
    c.hit_role-role.ensures ∙ (λ i. hit_role (c.kind.ensures i) (c.plugged.ensures i)) in
    alone_adds l c.args.point c.hit_role-role.result true role (sym within) c.in-Some.answer (map g.C.LaidCursor.stands c.args.path.now.items) (sym c.in-Some.ensures)

pub ask_inside-returns-in_ok-add_if-in-None-clause-answer : goal.ask_inside-returns-in_ok-add_if-in-None-clause-answer
ask_inside-returns-in_ok-add_if-in-None-clause-answer g t c within =
    let l = g.C.LaidCursor.stands c.args.node in
    let role : c.hit_role-role.result ≡ hit_role (opened l).look (opened l).facts.plugged =
    c.hit_role-role.ensures ∙ (λ i. hit_role (c.kind.ensures i) (c.plugged.ensures i)) in
    answers l c.args.point c.hit_role-role.result true role (sym within)
    (sym c.in-None.ensures) c.in_ok-below-in-None.below c.in_ok-below-in-None.ensures.answer c.answer_of.result c.answer_of.ensures

pub ask_inside-returns-in_ok-add_if-in-None-clause-added : goal.ask_inside-returns-in_ok-add_if-in-None-clause-added
ask_inside-returns-in_ok-add_if-in-None-clause-added g t c within =
    let l = g.C.LaidCursor.stands c.args.node in
    let role : c.hit_role-role.result ≡ hit_role (opened l).look (opened l).facts.plugged =
    c.hit_role-role.ensures ∙ (λ i. hit_role (c.kind.ensures i) (c.plugged.ensures i)) in
    adds l c.args.point c.hit_role-role.result true role (sym within)
    (sym c.in-None.ensures) c.in_ok-below-in-None.below c.in_ok-below-in-None.ensures.answer
    c.is_added.result (map g.C.LaidCursor.stands c.args.path.now.items) (map g.C.LaidCursor.stands c.ask_below.new.path.items)
    (map g.C.LaidCursor.stands c.add_if.new.path.items)
    c.is_added.ensures c.in_ok-below-in-None.ensures.added c.in_ok-add_if-in-None.ensures

pub ask_below-ask-requires : goal.ask_below-ask-requires
ask_below-ask-requires g t c κs within =
    let l = g.C.LaidCursor.stands c.args.node in
    let ps = g.C.LaidCursor.places c.args.node in
    let child : Stood = record { at = c.in-Some.child.0; child = g.C.LaidCursor.stands c.in-Some.child.1 } in
    let fewer = child_fewer ps (c.loop-i.i - 1) child l (g.met.C.LaidCursor.below c.args.node) c.in-Some.ensures in
    (omega (arith, fewer, c.decreases), within)

pub ask_below-loop-i-init : goal.ask_below-loop-i-init
ask_below-loop-i-init g t c =
    let ps = g.C.LaidCursor.places c.args.node in
    let old = map g.C.LaidCursor.stands c.args.path.now.items in
    let none = ap (λ n. asked_last (laids_at (drop n ps)) c.args.point) c.len-i.ensures ∙ begins c.args.point ps in
    record {
      missed = ap (λ (h : Hit). h.answer) none;
      added = sym (append-nil old) ∙ ap (λ (h : Hit). old ++ h.added) (sym none);
    }

pub ask_below-returns-then-branch-clause-answer : goal.ask_below-returns-then-branch-clause-answer
ask_below-returns-then-branch-clause-answer g t c =
    let l = g.C.LaidCursor.stands c.args.node in
    let ps = g.C.LaidCursor.places c.args.node in
    let child : Stood = record { at = c.in-Some.child.0; child = g.C.LaidCursor.stands c.in-Some.child.1 } in
    let i = c.loop-i.i - 1 in
    let next : c.loop-i.i ≡ i + 1 = omega arith in
    let within : i < length ps = omega (arith, c.loop-i.auto.i, c.len-i.ensures) in
    hit_here c.args.point ps i child within c.in-Some.ensures c.relative_to.result c.relative_to.ensures
    (ap (λ k. (asked_last (laids_at (drop k ps)) c.args.point).answer) (sym next) ∙ c.loop-i.invariant.missed)
    c.in_ok-ask.field-0 c.in_ok-ask.ensures.answer (opened l).below (g.met.C.LaidCursor.below c.args.node) c.if-branch.true

pub ask_below-returns-then-branch-clause-added : goal.ask_below-returns-then-branch-clause-added
ask_below-returns-then-branch-clause-added g t c =
    let l = g.C.LaidCursor.stands c.args.node in
    let ps = g.C.LaidCursor.places c.args.node in
    let child : Stood = record { at = c.in-Some.child.0; child = g.C.LaidCursor.stands c.in-Some.child.1 } in
    let i = c.loop-i.i - 1 in
    let next : c.loop-i.i ≡ i + 1 = omega arith in
    let within : i < length ps = omega (arith, c.loop-i.auto.i, c.len-i.ensures) in
    added_here c.args.point ps i child within c.in-Some.ensures c.relative_to.result c.relative_to.ensures
    (ap (λ k. (asked_last (laids_at (drop k ps)) c.args.point).answer) (sym next) ∙ c.loop-i.invariant.missed)
    c.in_ok-ask.field-0 c.in_ok-ask.ensures.answer (opened l).below (g.met.C.LaidCursor.below c.args.node) c.if-branch.true
    (map g.C.LaidCursor.stands c.args.path.now.items) (map g.C.LaidCursor.stands c.loop-i.path.items) (map g.C.LaidCursor.stands c.ask.new.path.items)
    (c.loop-i.invariant.added ∙ ap (λ k. map g.C.LaidCursor.stands c.args.path.now.items ++ (asked_last (laids_at (drop k ps)) c.args.point).added) next)
    c.in_ok-ask.ensures.added

pub ask_below-loop-i-preserved-then-is_before : goal.ask_below-loop-i-preserved-then-is_before
ask_below-loop-i-preserved-then-is_before g t c =
    let ps = g.C.LaidCursor.places c.args.node in
    let i = c.loop-i.i - 1 in
    let old = map g.C.LaidCursor.stands c.args.path.now.items in
    let next : c.loop-i.i ≡ i + 1 = omega arith in
    let within : i < length ps = omega (arith, c.loop-i.auto.i, c.len-i.ensures) in
    let missed = ap (λ k. (asked_last (laids_at (drop k ps)) c.args.point).answer) (sym next) ∙ c.loop-i.invariant.missed in
    let before : is_before c.args.point (option_map offset_of (slice_index_or ps i None)) ≡ true =
    ap (is_before c.args.point) (sym c.child_offset.ensures) ∙ sym c.is_before.ensures ∙ c.if-is_before.true in
    let same = passed c.args.point ps i within missed (slice_index_or ps i None) refl before in
    record {
      missed = ap (λ (h : Hit). h.answer) same ∙ missed;
      added = c.loop-i.invariant.added
          ∙ ap (λ k. old ++ (asked_last (laids_at (drop k ps)) c.args.point).added) next
          ∙ ap (λ (h : Hit). old ++ h.added) (sym same);
    }

pub ask_below-loop-i-preserved : goal.ask_below-loop-i-preserved
ask_below-loop-i-preserved g t c =
    let ps = g.C.LaidCursor.places c.args.node in
    let child : Stood = record { at = c.in-Some.child.0; child = g.C.LaidCursor.stands c.in-Some.child.1 } in
    let i = c.loop-i.i - 1 in
    let next : c.loop-i.i ≡ i + 1 = omega arith in
    let within : i < length ps = omega (arith, c.loop-i.auto.i, c.len-i.ensures) in
    let missed = ap (λ k. (asked_last (laids_at (drop k ps)) c.args.point).answer) (sym next) ∙ c.loop-i.invariant.missed in
    record {
      missed = still_missed c.args.point ps i child within c.in-Some.ensures c.relative_to.result c.relative_to.ensures missed
          c.in_ok-ask.field-0 c.in_ok-ask.ensures.answer c.if-branch.false;
      added = still_added c.args.point ps i child within c.in-Some.ensures c.relative_to.result c.relative_to.ensures missed
          c.in_ok-ask.field-0 c.in_ok-ask.ensures.answer
          (map g.C.LaidCursor.stands c.args.path.now.items) (map g.C.LaidCursor.stands c.loop-i.path.items) (map g.C.LaidCursor.stands c.ask.new.path.items)
          (c.loop-i.invariant.added ∙ ap (λ k. map g.C.LaidCursor.stands c.args.path.now.items ++ (asked_last (laids_at (drop k ps)) c.args.point).added) next)
          c.in_ok-ask.ensures.added;
    }

pub ask_below-returns-clause-answer : goal.ask_below-returns-clause-answer
ask_below-returns-clause-answer g t c =
    let ps = g.C.LaidCursor.places c.args.node in
    let done : c.loop-i.i ≡ 0 = omega arith in
    sym (ap (λ (ls : Laids). (asked_last ls c.args.point).answer) (g.met.C.LaidCursor.below c.args.node)
    ∙ ap (λ k. (asked_last (laids_at (drop k ps)) c.args.point).answer) (sym done)
    ∙ c.loop-i.invariant.missed)

pub ask_below-returns-clause-added : goal.ask_below-returns-clause-added
ask_below-returns-clause-added g t c =
    let ps = g.C.LaidCursor.places c.args.node in
    let old = map g.C.LaidCursor.stands c.args.path.now.items in
    let done : c.loop-i.i ≡ 0 = omega arith in
    c.loop-i.invariant.added
    ∙ ap (λ k. old ++ (asked_last (laids_at (drop k ps)) c.args.point).added) done
    ∙ ap (λ (ls : Laids). old ++ (asked_last ls c.args.point).added) (sym (g.met.C.LaidCursor.below c.args.node))
