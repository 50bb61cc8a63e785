use Rattle.std.proofs.Common.{◌≡◌, ◌++◌, ◌∙◌, codes}
use Rattle.std.proofs.lemmas.Result.{on_ok_weaker}
use Rattle.frame_session.proofs.StatesLemmas.{ok_items, states_printed}
use Rattle.frame_session.proofs.states.print_states.Goals as goal

pub returns : goal.returns
returns c = λ p ds marks tree stands.
    on_ok_weaker c.extend_from_slice-2.result
    (λ (last : c.extend_from_slice-2.new.self.items ≡ c.print_all.new.out.items ++ codes "end\n").
    states_printed tree _ c.as_slice.result.now c.args.out.now.items c.extend_from_slice.new.self.items c.print_all.new.out.items c.extend_from_slice-2.new.self.items stands.trees.elements.numbered
    (c.as_slice.ensures.value ∙ c.in_ok-numbers.ensures p ds marks tree stands) c.in_ok-extend_from_slice.ensures.items (c.in_ok-print_all.ensures p ds marks tree stands) last)
    (ok_items c.extend_from_slice-2.result c.extend_from_slice-2.new.self.items (c.print_all.new.out.items ++ codes "end\n") c.print_all.new.out.items c.extend_from_slice-2.ensures.items)
