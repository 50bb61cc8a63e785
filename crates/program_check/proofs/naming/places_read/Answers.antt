use Rattle.std.proofs.Common.{arith, length, ap}
use Rattle.program_check.specs.BodyView.{plain_body}
use Rattle.program_check.proofs.NamingLemmas.{marks-length, places_done}
use Rattle.program_check.proofs.naming.places_read.Goals as goal

pub chosen-requires : goal.chosen-requires
chosen-requires c =
    let same = ap length c.as_slice-2.ensures.value in
    let count = marks-length c.args.count c.as_slice.result.now c.in_ok-marks.marks.items c.in_ok-marks.ensures in
    omega (arith, same, count, c.requires)

pub returns : goal.returns
returns c =
    places_done c.chosen.result c.args.count (plain_body c.args.body.now) c.new-places.result.items c.add_in_body.new.places.items c.as_slice.result.now
    c.in_ok-marks.marks.items c.as_slice-2.result.now c.new-places.ensures.items c.as_slice.ensures.value c.as_slice-2.ensures.value c.in_ok-marks.ensures
    c.in_ok-add_in_body.ensures c.chosen.ensures
