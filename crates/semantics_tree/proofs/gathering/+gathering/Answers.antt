use Rattle.std.proofs.Common.{◌≡◌, ◌∙◌, ap, rules, sym, arith, ◌<◌, ◌≤◌, length}
use Rattle.std.proofs.lemmas.Result.{on_ok_weaker}
use Rattle.plain_tree.specs.Laid.{Stood}
use Rattle.laid_cursor.specs.Opened.{opened}
use Rattle.laid_cursor.proofs.Walking.{child_fewer}
use Rattle.screen_form.specs.SemanticsRole.{hides, says, forms, merges, semantics_role}
use Rattle.screen_form.specs.Fragment.{fragment_of, fragment_in, number_where, rect_at}
use Rattle.semantics_tree.specs.Forming.{heard, after, made}
use Rattle.semantics_tree.proofs.Giving.{hears_hidden, hears_said, hears_formed, hears_merged}
use Rattle.semantics_tree.proofs.Hearing.{heard_more, heard_all}
use Rattle.semantics_tree.proofs.gathering.+gathering.Goals as goal

pub gather-returns-in-Hides : goal.gather-returns-in-Hides
gather-returns-in-Hides g t c =
    let l = g.C.LaidCursor.stands c.args.node in
    let role : hides ≡ semantics_role (opened l).look (opened l).facts.frame = search rules in
    hears_hidden l c.args.at (heard c.args.above.now) role

pub gather-returns-in_ok-say-in-Says : goal.gather-returns-in_ok-say-in-Says
gather-returns-in_ok-say-in-Says g t c =
    let l = g.C.LaidCursor.stands c.args.node in
    let role : says c.in-Says.label.now c.in-Says.button ≡ semantics_role (opened l).look (opened l).facts.frame = search rules in
    on_ok_weaker c.gather_below.result
    (λ is_new.
    hears_said l c.args.at (heard c.args.above.now) (heard c.gather_below.new.above)
    c.in-Says.label.now c.in-Says.button role (heard c.say.new.self) c.in_ok-say-in-Says.ensures is_new)
    c.gather_below.ensures

pub gather-returns-in_ok-gather_below-in-Forms : goal.gather-returns-in_ok-gather_below-in-Forms
gather-returns-in_ok-gather_below-in-Forms g t c =
    let l = g.C.LaidCursor.stands c.args.node in
    let p = c.in-Forms in
    let role : forms p.label.now p.button p.tap p.long ≡ semantics_role (opened l).look (opened l).facts.frame = search rules in
    on_ok_weaker c.add.result
    (λ is_new.
    hears_formed l c.args.at (heard c.args.above.now) (heard c.add.new.self)
    p.label.now p.button p.tap p.long role
    (heard c.new-own.result) (heard c.say-in-Forms.new.self) (heard c.gather_below-in-Forms.new.above) c.number_where-tap.result c.number_where-long.result
    c.rect_at.result c.finish.result c.new-own.ensures
    (c.number_where-tap.ensures ∙ ap (number_where p.tap) c.number-number.ensures) (c.number_where-long.ensures ∙ ap (number_where p.long) c.number-number.ensures)
    c.in_ok-say-in-Forms.ensures c.in_ok-gather_below-in-Forms.ensures
    (c.rect_at.ensures ∙ ap (rect_at c.args.at) c.frame-frame.ensures)
    (c.finish.ensures ∙ ap (λ n. made (heard c.gather_below-in-Forms.new.above) n c.rect_at.result) c.number-number.ensures)
    is_new)
    c.add.ensures

pub gather-returns-in_ok-gather_below-in-Merges : goal.gather-returns-in_ok-gather_below-in-Merges
gather-returns-in_ok-gather_below-in-Merges g t c =
    let l = g.C.LaidCursor.stands c.args.node in
    let role : merges ≡ semantics_role (opened l).look (opened l).facts.frame = search rules in
    on_ok_weaker c.add-in-Merges.result
    (λ is_new.
    hears_merged l c.args.at (heard c.args.above.now) (heard c.add-in-Merges.new.self) role
    (heard c.merging-own.result) (heard c.gather_below-in-Merges.new.above) c.rect_at-in-Merges.result c.finish-in-Merges.result c.merging-own.ensures
    c.in_ok-gather_below-in-Merges.ensures
    (c.rect_at-in-Merges.ensures ∙ ap (rect_at c.args.at) c.frame-frame.ensures)
    (c.finish-in-Merges.ensures ∙ ap (λ n. made (heard c.gather_below-in-Merges.new.above) n c.rect_at-in-Merges.result) c.number-number.ensures)
    is_new)
    c.add-in-Merges.ensures

pub gather_below-gather-requires : goal.gather_below-gather-requires
gather_below-gather-requires g t c κs within =
    let l = g.C.LaidCursor.stands c.args.node in
    let ps = g.C.LaidCursor.places c.args.node in
    let child : Stood = record { at = c.in-Some.child.0; child = g.C.LaidCursor.stands c.in-Some.child.1 } in
    let fewer = child_fewer ps c.loop-i.i child l (g.met.C.LaidCursor.below c.args.node) c.in-Some.ensures in
    (omega (arith, fewer, c.decreases), within)

pub gather_below-loop-i-init : goal.gather_below-loop-i-init
gather_below-loop-i-init g t c =
    ap (λ ls. after (heard c.args.above.now) (fragment_in ls c.args.at)) (sym (g.met.C.LaidCursor.below c.args.node))

pub gather_below-loop-i-preserved : goal.gather_below-loop-i-preserved
gather_below-loop-i-preserved g t c =
    let ps = g.C.LaidCursor.places c.args.node in
    let child : Stood = record { at = c.in-Some.child.0; child = g.C.LaidCursor.stands c.in-Some.child.1 } in
    let within : c.loop-i.i < length ps = omega (arith, c.loop-i-test.true, c.len-i-end.ensures) in
    let new = c.in_ok-gather.ensures ∙ ap (λ p. after (heard c.loop-i.above) (fragment_of child.child p)) c.plus.ensures in
    heard_more c.args.at ps c.loop-i.i child (heard c.loop-i.above) (heard c.gather.new.above) _ within c.in-Some.ensures new c.loop-i.invariant

pub gather_below-returns : goal.gather_below-returns
gather_below-returns g t c =
    let ps = g.C.LaidCursor.places c.args.node in
    let past : length ps ≤ c.loop-i.i = omega (arith, c.loop-i-test.false, c.len-i-end.ensures) in
    heard_all c.args.at ps c.loop-i.i (heard c.loop-i.above) _ past c.loop-i.invariant
