use Rattle.std.proofs.Common.{sym, ap, ◌∙◌}
use Rattle.std.specs.Option.{option_copied_mut}
use Rattle.node_tree.proofs.PartLemmas.{trimmed_here}
use Rattle.node_tree.proofs.part.trim_slot.Goals as goal

pub returns-clause-here : goal.returns-clause-here
returns-clause-here g c = λ k here.
    let was = sym c.get_mut.ensures.value ∙ ap option_copied_mut c.in-Some-get_mut.is in
    trimmed_here c.args.nodes.now c.in-Some.h k _ _ _ _ was c.trim.ensures (here ∙ sym c.in-Some.ensures.live.0)
