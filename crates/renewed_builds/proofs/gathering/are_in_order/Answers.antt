use Rattle.std.proofs.Common.{refl}
use Rattle.renewed_builds.specs.Renewing.{are_in_order}
use Rattle.renewed_builds.proofs.Followed.{other_place, own_place, no_place}
use Rattle.renewed_builds.proofs.gathering.are_in_order.Goals as goal

pub loop-i-init : goal.loop-i-init
loop-i-init c = refl

pub returns-then-places-i : goal.returns-then-places-i
returns-then-places-i c = other_place c.args.places.now c.loop-i.i 0 (are_in_order 0 c.args.places.now) c.loop-i-test.true c.loop-i.invariant c.if-places-i.true

pub loop-i-preserved : goal.loop-i-preserved
loop-i-preserved c = own_place c.args.places.now c.loop-i.i 0 (are_in_order 0 c.args.places.now) c.loop-i-test.true c.loop-i.invariant c.if-places-i.false

pub returns : goal.returns
returns c = no_place c.args.places.now c.loop-i.i (are_in_order 0 c.args.places.now) c.loop-i-test.false c.loop-i.invariant
