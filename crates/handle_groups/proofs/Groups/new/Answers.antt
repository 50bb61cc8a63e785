use Rattle.std.proofs.Common.{ap}
use Rattle.std.specs.List.{list_any}
use Rattle.fx_handles.specs.Handle.{same}
use Rattle.handle_groups.specs.Groups.{stands_in, groups_of, handles_in}
use Rattle.handle_groups.proofs.Groups.new.Goals as goal

pub returns : goal.returns
unfolding stands_in
returns c = λ n k. ap (λ es. list_any (same k) (handles_in (groups_of es) n)) c.new.ensures.empty
