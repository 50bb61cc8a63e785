use Rattle.std.proofs.Common.{◌≡◌, map, drop}
use Rattle.json_tree.specs.View.{members_view}
use Rattle.program_read.specs.FormWalk.{form_of}
use Rattle.program_read.specs.Objects.{in_order, named_walks}
use Rattle.program_form.specs.TemplateView.{plain_prop}
use Rattle.program_read.proofs.WalkLemmas.{resumed}
use Rattle.program_read.proofs.parts.read_props.Given as goal

abbrev pub invariant-loop-member : goal.invariant-loop-member
invariant-loop-member l =
    in_order (named_walks form_of (members_view l.members))
    ≡ resumed (map plain_prop l.props.items) (in_order (named_walks form_of (members_view (drop l.member-index l.members))))
