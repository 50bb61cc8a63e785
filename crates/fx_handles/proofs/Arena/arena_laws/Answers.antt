use Rattle.fx_handles.specs.ArenaLaws.{live-same_slot, length-le-used_count, used_count-le-length, written, written_back}
use Rattle.fx_handles.proofs.Arena.arena_laws.Goals as goal

pub returns : goal.returns
returns g c = record {
  slot = live-same_slot;
  at_least = length-le-used_count;
  at_most = used_count-le-length;
  writes = written;
  back = written_back;
}
