use Rattle.std.proofs.Common.{◌≡◌, ◌≤◌, ◌<◌, length, Some, None, sym, ◌∙◌, rules, arith, map}
use Rattle.std.proofs.lemmas.List.{length-map}
use Rattle.widget_model.specs.Plain.{key_of}
use Rattle.widget_model.specs.View.{plain_of}
use Rattle.widget_model.specs.View.{shared}
use Rattle.reconcile.proofs.MatchLemmas.{shared_gives, not_shared, in_middle, keyless, given_or, no_place, a_place, end_within, keyed_none, keyed_other, keyed_found}
use Rattle.reconcile.proofs.PlaceLemmas.{seen_through}
use Rattle.reconcile.proofs.children.match_at.Goals as goal

pub returns-in-Some : goal.returns-in-Some
returns-in-Some c =
    let n : length (map shared c.args.new.now) ≡ length c.args.new.now = length-map c.args.new.now shared in
    shared_gives (map shared c.args.old.now) (map shared c.args.new.now) c.args.middle.now c.requires.middle c.args.i (omega arith) c.shared_place.result c.in-Some.place c.shared_place.ensures c.in-Some.is

pub returns-in-None : goal.returns-in-None
returns-in-None c =
    let olds = map shared c.args.old.now in
    let news = map shared c.args.new.now in
    let w = plain_of c.deref-widget.result.now in
    let between = not_shared olds news c.args.middle.now c.requires.middle c.args.i c.shared_place.result c.shared_place.ensures c.in_default.is in
    let at = seen_through c.args.new.now c.args.i c.index-new-i.result c.deref-widget.result.now c.requires.within c.index-new-i.is c.deref-widget.ensures in
    in_middle olds news c.args.middle.now c.requires.middle c.args.i between.0 between.1 w at None
    (keyless olds news c.args.middle.now c.requires.middle w c.in-None.is)

pub returns-in_err-place : goal.returns-in_err-place
returns-in_err-place c =
    let olds = map shared c.args.old.now in
    let news = map shared c.args.new.now in
    let m = c.args.middle.now in
    let w = plain_of c.deref-widget.result.now in
    let between = not_shared olds news c.args.middle.now c.requires.middle c.args.i c.shared_place.result c.shared_place.ensures c.in_default.is in
    let at = seen_through c.args.new.now c.args.i c.index-new-i.result c.deref-widget.result.now c.requires.within c.index-new-i.is c.deref-widget.ensures in
    let kept = c.requires.places (key_of w) (given_or (key_of w) c.in_default-key.not-None) in
    let none = no_place olds m.start m.old_end (key_of w) _ kept (sym c.place_of.ensures ∙ c.in_err-place.was) in
    c.from_residual.ensures
    ∙ in_middle olds news m c.requires.middle c.args.i between.0 between.1 w at None
    (keyed_none olds news m c.requires.middle w c.in_default-key.not-None none)

-- the place that the map has stands in the middle
pub bounds-old-place : goal.bounds-old-place
bounds-old-place c =
    let olds = map shared c.args.old.now in
    let m = c.args.middle.now in
    let w = plain_of c.deref-widget.result.now in
    let kept = c.requires.places (key_of w) (given_or (key_of w) c.in_default-key.not-None) in
    let p = a_place olds m.start m.old_end (key_of w) _ c.in_ok-place.place kept (sym c.place_of.ensures ∙ c.in_ok-place.was) in
    let below : c.in_ok-place.place < m.old_end = p.1 in
    let n : length olds ≡ length c.args.old.now = length-map c.args.old.now shared in
    let e = end_within olds (map shared c.args.new.now) m c.requires.middle in
    omega arith

pub offset_bounds-old-place : goal.offset_bounds-old-place
offset_bounds-old-place c =
    let olds = map shared c.args.old.now in
    let m = c.args.middle.now in
    let w = plain_of c.deref-widget.result.now in
    let kept = c.requires.places (key_of w) (given_or (key_of w) c.in_default-key.not-None) in
    let p = a_place olds m.start m.old_end (key_of w) _ c.in_ok-place.place kept (sym c.place_of.ensures ∙ c.in_ok-place.was) in
    let below : c.in_ok-place.place < m.old_end = p.1 in
    let n : length olds ≡ length c.args.old.now = length-map c.args.old.now shared in
    let e = end_within olds (map shared c.args.new.now) m c.requires.middle in
    let within : c.in_ok-place.place < length c.args.old.now = omega arith in
    search rules

pub returns-then-not-can_update : goal.returns-then-not-can_update
returns-then-not-can_update c =
    let olds = map shared c.args.old.now in
    let news = map shared c.args.new.now in
    let m = c.args.middle.now in
    let w = plain_of c.deref-widget.result.now in
    let between = not_shared olds news c.args.middle.now c.requires.middle c.args.i c.shared_place.result c.shared_place.ensures c.in_default.is in
    let at = seen_through c.args.new.now c.args.i c.index-new-i.result c.deref-widget.result.now c.requires.within c.index-new-i.is c.deref-widget.ensures in
    let kept = c.requires.places (key_of w) (given_or (key_of w) c.in_default-key.not-None) in
    let p = a_place olds m.start m.old_end (key_of w) _ c.in_ok-place.place kept (sym c.place_of.ensures ∙ c.in_ok-place.was) in
    let n : length olds ≡ length c.args.old.now = length-map c.args.old.now shared in
    let e = end_within olds news m c.requires.middle in
    let low : m.start ≤ c.in_ok-place.place = p.0 in
    let high : c.in_ok-place.place < m.old_end = p.1 in
    let there = seen_through c.args.old.now c.in_ok-place.place c.index-old-place.result c.deref.result.now (omega arith) c.index-old-place.is c.deref.ensures in
    in_middle olds news m c.requires.middle c.args.i between.0 between.1 w at None
    (keyed_other olds news m c.requires.middle w c.in_default-key.not-None c.requires.no_repeats c.in_ok-place.place low high p.2 (plain_of c.deref.result.now) there (sym c.can_update.ensures.test ∙ c.if-not-can_update.true))

pub returns : goal.returns
returns c =
    let olds = map shared c.args.old.now in
    let news = map shared c.args.new.now in
    let m = c.args.middle.now in
    let w = plain_of c.deref-widget.result.now in
    let between = not_shared olds news c.args.middle.now c.requires.middle c.args.i c.shared_place.result c.shared_place.ensures c.in_default.is in
    let at = seen_through c.args.new.now c.args.i c.index-new-i.result c.deref-widget.result.now c.requires.within c.index-new-i.is c.deref-widget.ensures in
    let kept = c.requires.places (key_of w) (given_or (key_of w) c.in_default-key.not-None) in
    let p = a_place olds m.start m.old_end (key_of w) _ c.in_ok-place.place kept (sym c.place_of.ensures ∙ c.in_ok-place.was) in
    let n : length olds ≡ length c.args.old.now = length-map c.args.old.now shared in
    let e = end_within olds news m c.requires.middle in
    let low : m.start ≤ c.in_ok-place.place = p.0 in
    let high : c.in_ok-place.place < m.old_end = p.1 in
    let there = seen_through c.args.old.now c.in_ok-place.place c.index-old-place.result c.deref.result.now (omega arith) c.index-old-place.is c.deref.ensures in
    in_middle olds news m c.requires.middle c.args.i between.0 between.1 w at (Some c.in_ok-place.place)
    (keyed_found olds news m c.requires.middle w c.in_default-key.not-None c.requires.no_repeats c.in_ok-place.place low high p.2 (plain_of c.deref.result.now) there (sym c.can_update.ensures.test ∙ c.if-not-can_update.false))
