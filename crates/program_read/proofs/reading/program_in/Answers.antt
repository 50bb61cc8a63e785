use Rattle.serde_json.specs.Data.{object}
use Rattle.json_tree.specs.View.{members_view}
use Rattle.program_read.proofs.ProgramLemmas.{version-in-range, view-in-range}
use Rattle.program_read.proofs.reading.program_in.Goals as goal

pub invariant_of-result : goal.invariant_of-result
invariant_of-result c =
    let version = version-in-range (object (members_view c.args.members.now.items)) c.in_ok-version.version c.in_ok-version.ensures.read in
    let sides = view-in-range (object (members_view c.version_at.new.members.items)) c.in_ok-view.view c.in_ok-view.ensures.read in
    record {
      first_version = version.first;
      last_version = version.last;
      view_has_width = sides.0.least;
      view_has_height = sides.1.least;
      width_in_range = sides.0.greatest;
      height_in_range = sides.1.greatest;
    }
