use Rattle.std.proofs.Common.{◌≡◌, ◌∷◌, [], ◌++◌, List, length, sym, subst, rules, tests}
use Rattle.plain_tree.specs.Render.{Render}
use Rattle.worked_calls.specs.Grown.{AreGrown}
use Rattle.worked_calls.proofs.Growing.{grown_none, grown_top}
use Rattle.worked_calls.proofs.builds.build.Goals as goal

pub loop-rows-init : goal.loop-rows-init
loop-rows-init c =
    let s = c.args.scroll in
    subst (λ (xs : List Render). AreGrown s xs c.new-numbers.result.items) (sym c.new-nodes.ensures.items) (subst (AreGrown s []) (sym c.new-numbers.ensures.items) (grown_none s))

pub returns-in-Some-true : goal.returns-in-Some-true
returns-in-Some-true c =
    let rest : List Render = c.pop.new.self.items in
    let last : c.loop-rows.nodes.items ≡ rest ++ c.in-Some-true.top ∷ [] = search rules in
    let none : length rest ≡ 0 = search (rules, tests) in
    grown_top c.args.scroll c.loop-rows.nodes.items rest c.in-Some-true.top c.loop-rows.numbers.items c.len-count.result c.loop-rows.invariant last none (search rules)
