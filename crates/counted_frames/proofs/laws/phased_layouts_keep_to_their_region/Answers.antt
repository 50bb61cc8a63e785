use Rattle.counted_frames.proofs.Faulty.{FirstLaws, lists_counted}
use Rattle.counted_frames.proofs.Twice.{twice_at_most}
use Rattle.counted_frames.proofs.laws.phased_layouts_keep_to_their_region.Goals as goal

pub returns-clause-twice : goal.returns-clause-twice
returns-clause-twice c = λ s view before old new top lo ln po pn.
    twice_at_most c.phased_frames_lay_out_twice.ensures c.same_means_equal.ensures.told s (c.rules_are_lawful.ensures s) view before old new lo ln po pn top

pub returns-clause-once : goal.returns-clause-once
returns-clause-once c = λ s view before old top lo ln lists whole_is caused unlaid asks windows apart.
    let laws : FirstLaws = record {
      flags = c.outer_flags_have_their_region.ensures.flags;
      first = c.outer_flags_have_their_region.ensures.first;
      reached = c.differing_nodes_are_reached.ensures.first;
      marks = c.first_phases_lay_out_their_region.ensures.flags;
      layouts = c.first_phases_lay_out_their_region.ensures.layouts;
    } in
    lists_counted laws c.same_means_equal.ensures.told s view old top lo ln lists whole_is before caused unlaid asks windows apart
