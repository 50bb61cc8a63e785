use Rattle.std.proofs.Common.{◌≡◌, ◌∙◌, ap, rules, sym, arith, ◌<◌, ◌≤◌, length}
use Rattle.std.proofs.lemmas.Result.{on_ok_weaker}
use Rattle.std.specs.BTreeSet.{keys, insert_key}
use Rattle.plain_tree.specs.Laid.{Stood}
use Rattle.laid_cursor.specs.Opened.{opened}
use Rattle.laid_cursor.proofs.Walking.{child_fewer}
use Rattle.screen_form.specs.Spot.{spot_cmp}
use Rattle.screen_form.specs.FocusRole.{focus_role}
use Rattle.screen_form.specs.FocusOrder.{spot_at, spots_of, spots_in, put_in}
use Rattle.focus_order.proofs.Putting.{put_more, put_all, puts_hidden, puts_passed, puts_own}
use Rattle.focus_order.proofs.ordering.+gathering.Goals as goal

pub gather-returns-in-Hides : goal.gather-returns-in-Hides
gather-returns-in-Hides g t c =
    let l = g.C.LaidCursor.stands c.args.node in
    let role : c.focus_role.result ≡ focus_role (opened l).look (opened l).facts.frame = search rules in
    puts_hidden l c.args.at (keys c.args.spots.now) c.focus_role.result role c.in-Hides.is

pub gather-returns-in_ok-insert-in-TakesFocus : goal.gather-returns-in_ok-insert-in-TakesFocus
gather-returns-in_ok-insert-in-TakesFocus g t c =
    let l = g.C.LaidCursor.stands c.args.node in
    let role : c.focus_role.result ≡ focus_role (opened l).look (opened l).facts.frame = search rules in
    let own : keys c.insert.new.self ≡ insert_key spot_cmp (keys c.args.spots.now) (spot_at (opened l).number c.args.at) =
    c.in_ok-insert-in-TakesFocus.ensures.keys
    ∙ ap (insert_key spot_cmp (keys c.args.spots.now)) (c.spot_at.ensures ∙ ap (λ n. spot_at n c.args.at) c.number.ensures) in
    on_ok_weaker c.gather_below.result
    (λ is_new. puts_own l c.args.at (keys c.args.spots.now) c.focus_role.result role c.in-TakesFocus.is (keys c.insert.new.self) (keys c.gather_below.new.spots) own is_new)
    c.gather_below.ensures

pub gather-returns-in-Passes : goal.gather-returns-in-Passes
gather-returns-in-Passes g t c =
    let l = g.C.LaidCursor.stands c.args.node in
    let role : c.focus_role.result ≡ focus_role (opened l).look (opened l).facts.frame = search rules in
    on_ok_weaker c.gather_below-in-Passes.result
    (λ is_new. puts_passed l c.args.at (keys c.args.spots.now) c.focus_role.result role c.in-Passes.is (keys c.gather_below-in-Passes.new.spots) is_new)
    c.gather_below-in-Passes.ensures

pub gather_below-gather-requires : goal.gather_below-gather-requires
gather_below-gather-requires g t c κs within =
    let l = g.C.LaidCursor.stands c.args.node in
    let ps = g.C.LaidCursor.places c.args.node in
    let child : Stood = record { at = c.in-Some.child.0; child = g.C.LaidCursor.stands c.in-Some.child.1 } in
    let fewer = child_fewer ps c.loop-i.i child l (g.met.C.LaidCursor.below c.args.node) c.in-Some.ensures in
    (omega (arith, fewer, c.decreases), within)

pub gather_below-loop-i-init : goal.gather_below-loop-i-init
gather_below-loop-i-init g t c =
    ap (λ ls. put_in (keys c.args.spots.now) (spots_in ls c.args.at)) (sym (g.met.C.LaidCursor.below c.args.node))

pub gather_below-loop-i-preserved : goal.gather_below-loop-i-preserved
gather_below-loop-i-preserved g t c =
    let ps = g.C.LaidCursor.places c.args.node in
    let child : Stood = record { at = c.in-Some.child.0; child = g.C.LaidCursor.stands c.in-Some.child.1 } in
    let within : c.loop-i.i < length ps = omega (arith, c.loop-i-test.true, c.len-i-end.ensures) in
    let new = c.in_ok-gather.ensures ∙ ap (λ p. put_in (keys c.loop-i.spots) (spots_of child.child p)) c.plus.ensures in
    put_more c.args.at ps c.loop-i.i child (keys c.loop-i.spots) (keys c.gather.new.spots) _ within c.in-Some.ensures new c.loop-i.invariant

pub gather_below-returns : goal.gather_below-returns
gather_below-returns g t c =
    let ps = g.C.LaidCursor.places c.args.node in
    let past : length ps ≤ c.loop-i.i = omega (arith, c.loop-i-test.false, c.len-i-end.ensures) in
    put_all c.args.at ps c.loop-i.i (keys c.loop-i.spots) _ past c.loop-i.invariant
