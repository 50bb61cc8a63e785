use Rattle.std.proofs.Common.{refl, ap}
use Rattle.std.specs.Option.{option_to_list}
use Rattle.node_tree.specs.Forest.Forest.{none}
use Rattle.build_walk.proofs.Settled.{nothing_projected}
use Rattle.build_walk.proofs.frames.new_trees_stand_for_none.Goals as goal

pub returns-clause-elements : goal.returns-clause-elements
returns-clause-elements c = λ p t is root. (
  record {
    forest = none;
    is = is;
    root = ap option_to_list root;
    nodes = refl;
    well = tt;
    numbered = tt;
    fresh = λ n high. refl;
    outputs = tt;
    flags = tt;
  },
  refl,
)

pub returns-clause-renders : goal.returns-clause-renders
returns-clause-renders c = λ r is root. record { drawn = tt; objects = none; is = is; root = ap option_to_list root; projected = nothing_projected }
