use Rattle.std.proofs.Common.{◌≡◌, ◌++◌, map, drop}
use Rattle.plain_tree.specs.declared.render.ParentData.{ParentData}
use Rattle.kind_rules.proofs.slivers.indices_of.Given as goal

abbrev pub invariant-loop-d : goal.invariant-loop-d
invariant-loop-d l = l.indices.items ++ map (λ (d : ParentData). d.index) (drop l.d-index l.told) ≡ map (λ (d : ParentData). d.index) l.told
