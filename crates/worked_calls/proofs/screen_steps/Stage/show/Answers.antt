use Rattle.std.proofs.Common.{sym, subst}
use Rattle.worked_calls.specs.Grown.{IsTame, IsTameAt, EachNode, EachOf}
use Rattle.worked_calls.specs.Histories.{nodes_in}
use Rattle.worked_calls.proofs.Histories.{goes_on, tame_of, scrolled_tame}
use Rattle.worked_calls.proofs.screen_steps.Stage.show.Goals as goal

pub show-requires-clause-goes_on : goal.show-requires-clause-goes_on
show-requires-clause-goes_on g c =
    λ awake. goes_on (nodes_in c.args.self.now.screen) c.requires.ready.tame c.in_ok-top.top
    (subst (λ s. EachNode (IsTameAt s) c.in_ok-top.top) c.scroll_of.ensures c.in_ok-top.ensures.fine.tame)

pub returns-clause-ready : goal.returns-clause-ready
returns-clause-ready g c = record {
  awake = c.in_ok-show.ensures.ready;
  right = c.in_ok-show.ensures.right;
  tame = subst (EachOf IsTame) (sym c.in_ok-show.ensures.nodes) (scrolled_tame _ c.in_ok-top.top (tame_of c.scroll_of.result c.in_ok-top.top c.in_ok-top.ensures.fine.tame), tt);
}
