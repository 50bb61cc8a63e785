use Rattle.std.proofs.Common.{sym, ap, ◌∙◌}
use Rattle.render_tree.specs.Tree.{object_at}
use Rattle.render_sync.specs.Numbering.{number_at}
use Rattle.screen_owner.specs.Screen.{KeptScreen}
use Rattle.render_tree.specs.Plain.{renders_of, root_tree}
use Rattle.screen_owner.specs.Last.{window_in}
use Rattle.screen_owner.proofs.Naming.{window_found, window_missing}
use Rattle.screen_owner.proofs.Owning.{ready_from, scroll_found, none_found, number_missing}
use Rattle.screen_owner.proofs.owner.ScreenOwner.scroll_at.Goals as goal

pub returns-in-Some-clause-node : goal.returns-in-Some-clause-node
returns-in-Some-clause-node c = λ spent k o at is.
    let t = c.self.inside.tree.tree in
    let ready = ready_from c.self.inside.spent c.self.inside.numbers t c.self.invariant (ap (λ (x : KeptScreen). x.spent) c.self.view_is ∙ spent) in
    c.scroll.ensures
    ∙ scroll_found c.self.inside.numbers t ready.numbering c.args.number c.in-Some.h (sym c.find.ensures ∙ c.in-Some.is) k o (ap (λ (x : KeptScreen). object_at x.nodes k) c.self.view_is ∙ at) is

pub returns-in-Some-clause-none : goal.returns-in-Some-clause-none
returns-in-Some-clause-none c = λ spent gone.
    let t = c.self.inside.tree.tree in
    let ready = ready_from c.self.inside.spent c.self.inside.numbers t c.self.invariant (ap (λ (x : KeptScreen). x.spent) c.self.view_is ∙ spent) in
    absurd (none_found c.self.inside.numbers t ready.numbering c.args.number c.in-Some.h (sym c.find.ensures ∙ c.in-Some.is)
    (λ k there. gone k (ap (λ (x : KeptScreen). number_at x.nodes k) (sym c.self.view_is) ∙ there)))

pub returns-in-None-clause-node : goal.returns-in-None-clause-node
returns-in-None-clause-node c = λ spent k o at is.
    let t = c.self.inside.tree.tree in
    let ready = ready_from c.self.inside.spent c.self.inside.numbers t c.self.invariant (ap (λ (x : KeptScreen). x.spent) c.self.view_is ∙ spent) in
    number_missing c.self.inside.numbers t ready.numbering c.args.number (sym c.find.ensures ∙ c.in-None.is) k o (ap (λ (x : KeptScreen). object_at x.nodes k) c.self.view_is ∙ at) is

pub returns-in-Some-clause-window : goal.returns-in-Some-clause-window
returns-in-Some-clause-window c = λ spent.
    let t = c.self.inside.tree.tree in
    let ready = ready_from c.self.inside.spent c.self.inside.numbers t c.self.invariant (ap (λ (x : KeptScreen). x.spent) c.self.view_is ∙ spent) in
    c.scroll.ensures
    ∙ (window_found c.self.inside.numbers t ready c.root.ensures.tree c.args.number c.in-Some.h (sym c.find.ensures ∙ c.in-Some.is)
    ∙ ap (λ (x : KeptScreen). window_in c.args.number (renders_of (root_tree x.nodes))) c.self.view_is)

pub returns-in-None-clause-window : goal.returns-in-None-clause-window
returns-in-None-clause-window c = λ spent.
    let t = c.self.inside.tree.tree in
    let ready = ready_from c.self.inside.spent c.self.inside.numbers t c.self.invariant (ap (λ (x : KeptScreen). x.spent) c.self.view_is ∙ spent) in
    window_missing c.self.inside.numbers t ready c.root.ensures.tree c.args.number (sym c.find.ensures ∙ c.in-None.is)
    ∙ ap (λ (x : KeptScreen). window_in c.args.number (renders_of (root_tree x.nodes))) c.self.view_is
