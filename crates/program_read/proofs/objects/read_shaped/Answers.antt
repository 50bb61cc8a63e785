use Rattle.std.proofs.Common.{map}
use Rattle.json_tree.specs.View.{view, members_view}
use Rattle.program_read.proofs.ObjectLemmas.{shaped-read, shaped-members}
use Rattle.program_read.proofs.objects.read_shaped.Goals as goal

pub returns-clause-shape : goal.returns-clause-shape
returns-clause-shape c =
    shaped-read (λ m. members_view m.items) (map (λ n. n.now) c.args.required.now) (map (λ n. n.now) c.args.known.now) (view c.args.value) c.read_object.result
    c.in_ok-expect_members.ensures c.read_object.ensures

pub returns-clause-members : goal.returns-clause-members
returns-clause-members c = shaped-members (λ m. members_view m.items) (view c.args.value) c.read_object.result c.read_object.ensures
