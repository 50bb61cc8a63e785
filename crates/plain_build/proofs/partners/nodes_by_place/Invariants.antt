use Rattle.std.proofs.Common.{◌≡◌, ◌<◌, ℕ, None, length, slice_index_or, drop}
use Rattle.build_form.specs.Partner.{node_at}
use Rattle.plain_build.specs.PartnerView.{node_of}
use Rattle.plain_build.proofs.partners.nodes_by_place.Given as goal

abbrev pub invariant-loop-k : goal.invariant-loop-k
invariant-loop-k l = (length l.by_place.items ≡ l.count) × ((j : ℕ) → j < l.count → node_of l.nodes (slice_index_or l.by_place.items j None) ≡ node_at (drop l.k l.nodes) j)
