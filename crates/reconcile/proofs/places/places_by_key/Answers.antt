use Rattle.std.proofs.Common.{sym, ◌∙◌, ap, arith, map}
use Rattle.widget_model.specs.Plain.{key_of}
use Rattle.widget_model.specs.View.{plain_of, shared}
use Rattle.reconcile.specs.Places.{HasKeyAt}
use Rattle.reconcile.proofs.PlaceLemmas.{seen_widget, key_there, past_absent, stored}
use Rattle.reconcile.proofs.places.places_by_key.Goals as goal

pub loop-place-preserved-in-None : goal.loop-place-preserved-in-None
loop-place-preserved-in-None c =
    let olds = map shared c.args.old.now in
    let at = key_there olds c.loop-place.place (plain_of c.index-old-place.result.value) (seen_widget c.args.old.now c.loop-place.place c.index-old-place.result (omega arith) c.index-old-place.is) in
    let absent = ap (λ w. key_of (plain_of w)) (sym c.deref.ensures) ∙ c.in-None.is in
    past_absent olds c.args.from c.loop-place.place c.loop-place.places (key_of (plain_of c.index-old-place.result.value)) at absent c.loop-place.invariant

pub loop-place-preserved : goal.loop-place-preserved
loop-place-preserved c =
    let olds = map shared c.args.old.now in
    let at = key_there olds c.loop-place.place (plain_of c.index-old-place.result.value) (seen_widget c.args.old.now c.loop-place.place c.index-old-place.result (omega arith) c.index-old-place.is) in
    let there : HasKeyAt olds c.loop-place.place (key_of (plain_of c.deref.result.now)) = rw c.deref.ensures at in
    stored olds c.args.from c.loop-place.place c.loop-place.places c.insert.new.self (record { ref_ptr = (0, 0); now = c.deref.result.now.key }) c.in_ok-insert.ensures.updates
    (omega arith) there c.loop-place.invariant
