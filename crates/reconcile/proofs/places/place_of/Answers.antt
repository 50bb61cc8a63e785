use Rattle.std.proofs.Common.{◌∙◌}
use Rattle.reconcile.proofs.PlaceLemmas.{looked_up}
use Rattle.reconcile.proofs.places.place_of.Goals as goal

pub returns : goal.returns
returns c = c.copied.ensures ∙ c.get.ensures.value ∙ looked_up c.args.places.now (record { ref_ptr = (0, 0); now = c.args.key.now })
