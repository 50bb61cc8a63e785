use Rattle.std.proofs.Common.{◌++◌, refl, ◌∙◌, ap, drop, arith}
use Rattle.std.proofs.lemmas.List.{drop_more, drop_all}
use Rattle.session_form.specs.Handlers.{node_in}
use Rattle.frame_session.specs.NodeState.{states_found}
use Rattle.frame_session.proofs.StatesLemmas.{more_found, none_added}
use Rattle.frame_session.proofs.states.print_all.Goals as goal

pub loop-number-init : goal.loop-number-init
loop-number-init c = λ p ds marks tree stands. refl

pub loop-number-preserved : goal.loop-number-preserved
loop-number-preserved c = λ p ds marks tree stands.
    more_found (node_in tree) c.args.numbers.now c.loop-number.number-index _ _ _ _ (drop_more c.args.numbers.now c.loop-number.number-index 0 c.loop-number-test.true) (c.loop-number.invariant p ds marks tree stands)
    (c.in_ok-print_state.ensures p ds marks tree stands)

pub returns : goal.returns
returns c = λ p ds marks tree stands.
    none_added _ (states_found (node_in tree) (drop c.loop-number.number-index c.args.numbers.now)) (ap (states_found (node_in tree)) (drop_all c.loop-number.number-index c.args.numbers.now (omega arith)))
    ∙ c.loop-number.invariant p ds marks tree stands
