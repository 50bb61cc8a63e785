use Rattle.std.proofs.Common.{option_map, ap}
use Rattle.element_tree.specs.Element.{Element}
use Rattle.element_tree.proofs.Lawful.{changed_number, added_number, removed_number, removed_kept, dropped_number, committed_number}
use Rattle.element_tree.proofs.laws.edits_keep_numbers.Goals as goal

pub returns : goal.returns
returns c = record {
  kept = λ old new k keeps. ap (option_map (λ (e : Element). e.number)) (keeps k);
  changed = changed_number;
  added = added_number;
  removed = λ old new h k n m removes. removed_number old new h k n m removes (removed_kept old new h k n removes);
  dropped = dropped_number;
  committed = committed_number;
}
