use Rattle.std.proofs.Common.{◌≡◌, ◌+◌, ◌<◌, ◌∙◌, ap, subst, ℕ, List, length, drop, arith, rules}
use Rattle.std.specs.List.{All}
use Rattle.std.proofs.lemmas.List.Elements.{All-head, All-tail}
use Rattle.fx_geom.specs.declared.shapes.Size.{Size}
use Rattle.fx_geom.specs.Insets.{extent_of, other_of}
use Rattle.fx_geom.specs.Len.{length_sum}
use Rattle.fx_geom.specs.Size.{HasLengths}
use Rattle.kind_rules.proofs.FlexPlaces.{places_on}
use Rattle.kind_rules.proofs.Lists.{sizes_there, there_here}
use Rattle.kind_rules.proofs.spread.flex_places.Goals as goal

pub flex_place-requires-clause-child : goal.flex_place-requires-clause-child
flex_place-requires-clause-child g c =
    let fs = g.F.Family.frames c.args.family in
    let i = c.loop-i.i in
    let size = c.in-Some.size in
    let low : i < length fs = omega (arith, c.loop-i-test.true, c.answers-i-end.ensures) in
    let here = there_here fs i size low c.in-Some.ensures in
    All-head HasLengths size (sizes_there (drop (i + 1) fs)) (subst (λ (ss : List Size). All HasLengths ss) here c.loop-i.invariant.long)

pub loop-i-preserved : goal.loop-i-preserved
loop-i-preserved g c =
    let line = c.args.line in
    let fs = g.F.Family.frames c.args.family in
    let i = c.loop-i.i in
    let size = c.in-Some.size in
    let rest = sizes_there (drop (i + 1) fs) in
    let low : i < length fs = omega (arith, c.loop-i-test.true, c.answers-i-end.ensures) in
    let here = there_here fs i size low c.in-Some.ensures in
    record {
      same = places_on line.axis line.cross (extent_of c.args.whole (other_of line.axis)) c.args.room.between c.loop-i.at c.add_lengths-at.result
          size (sizes_there (drop i fs)) rest c.flex_place.result c.loop-i.offsets.items c.push_reserved.new.self.items _
          here c.loop-i.invariant.small
          (c.add_lengths-at.ensures.value ∙ ap (λ (n : ℕ). length_sum n c.args.room.between)
          (c.add_lengths.ensures.value ∙ ap (λ (e : ℕ). length_sum c.loop-i.at e) c.extent.ensures))
          c.flex_place.ensures
          c.push_reserved.ensures.items c.loop-i.invariant.same;
      small = c.add_lengths-at.ensures.within;
      long = All-tail HasLengths size rest (subst (λ (ss : List Size). All HasLengths ss) here c.loop-i.invariant.long);
      count = search rules;
      room = search rules;
    }
