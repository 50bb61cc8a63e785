use Rattle.build_walk.proofs.Rebuilding.{rebuild_same}
use Rattle.build_walk.proofs.laws.keeping_comes_to_the_full_build.Goals as goal

pub returns : goal.returns
returns c = λ p screen old marks next root checked numbered well fresh.
    rebuild_same c.same_means_equal.ensures.widgets p screen old marks next root checked numbered well fresh
