use Rattle.paint_owner.proofs.Changes.{marked_kept}
use Rattle.paint_owner.proofs.Relaying.{relaid_tree, relaid_lists}
use Rattle.paint_owner.proofs.laws.layouts_keep_layers.Goals as goal

pub returns : goal.returns
returns c = λ cell delegates o also changed old laid new is relaid sets kept.
    marked_kept cell delegates delegates o also changed old laid new is (relaid_tree old laid changed relaid is) (relaid_lists old laid changed relaid cell delegates also is.0 is.1) sets kept
