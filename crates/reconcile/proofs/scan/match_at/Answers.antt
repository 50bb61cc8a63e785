use Rattle.std.proofs.Common.{◌≡◌, length, None, sym, arith, map}
use Rattle.std.proofs.lemmas.List.{length-map}
use Rattle.widget_model.specs.View.{plain_of, shared}
use Rattle.reconcile.proofs.MatchLemmas.{shared_gives, not_shared, in_middle, keyless, given_or, keyed_at, end_within}
use Rattle.reconcile.proofs.PlaceLemmas.{seen_through}
use Rattle.reconcile.proofs.scan.match_at.Goals as goal

pub returns-in-Some : goal.returns-in-Some
returns-in-Some c =
    let n : length (map shared c.args.new.now) ≡ length c.args.new.now = length-map c.args.new.now shared in
    shared_gives (map shared c.args.old.now) (map shared c.args.new.now) c.args.middle.now c.requires.middle c.args.i (omega arith) c.shared_place.result c.in-Some.place c.shared_place.ensures c.in-Some.is

pub returns-in-None : goal.returns-in-None
returns-in-None c =
    let olds = map shared c.args.old.now in
    let news = map shared c.args.new.now in
    let w = plain_of c.deref-widget.result.now in
    let between = not_shared olds news c.args.middle.now c.requires.middle c.args.i c.shared_place.result c.shared_place.ensures c.in_default.is in
    let at = seen_through c.args.new.now c.args.i c.index-new-i.result c.deref-widget.result.now c.requires.within c.index-new-i.is c.deref-widget.ensures in
    in_middle olds news c.args.middle.now c.requires.middle c.args.i between.0 between.1 w at None
    (keyless olds news c.args.middle.now c.requires.middle w c.in-None.is)

pub first_place-requires : goal.first_place-requires
first_place-requires c =
    let olds = map shared c.args.old.now in
    let n : length olds ≡ length c.args.old.now = length-map c.args.old.now shared in
    let e = end_within olds (map shared c.args.new.now) c.args.middle.now c.requires.middle in
    record { ordered = omega arith; within = omega arith }

pub returns : goal.returns
returns c =
    let olds = map shared c.args.old.now in
    let news = map shared c.args.new.now in
    let w = plain_of c.deref-widget.result.now in
    let between = not_shared olds news c.args.middle.now c.requires.middle c.args.i c.shared_place.result c.shared_place.ensures c.in_default.is in
    let at = seen_through c.args.new.now c.args.i c.index-new-i.result c.deref-widget.result.now c.requires.within c.index-new-i.is c.deref-widget.ensures in
    in_middle olds news c.args.middle.now c.requires.middle c.args.i between.0 between.1 w at c.first_place.result
    (keyed_at olds news c.args.middle.now c.requires.middle w (given_or _ c.in_default-key.not-None) c.first_place.result (sym c.first_place.ensures))
