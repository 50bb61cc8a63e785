use Rattle.std.proofs.Common.{◌≡◌, ◌++◌, ℕ, IfSome, map, drop}
use Rattle.std.specs.List.{All}
use Rattle.fx_handles.specs.Handle.{Among}
use Rattle.node_tree.specs.Tree.{IsNode}
use Rattle.widget_model.specs.Update.{CanUpdate}
use Rattle.widget_model.specs.View.{shared}
use Rattle.build_form.specs.Partner.{nodes_had, arrivals_from}
use Rattle.build_walk.specs.Kept.{plain_at_any}
use Rattle.build_owner.specs.declared.arriving.Arrival.{Arrival}
use Rattle.build_owner.specs.ArrivalView.{widget_at, children_had, arrives_in}
use Rattle.build_owner.proofs.arriving.matched_arrivals.Given as goal

abbrev pub invariant-loop-i : goal.invariant-loop-i
invariant-loop-i l =
    ((scrolled : ℕ → ℕ) → map (arrives_in scrolled l.t.tree) l.arrivals.items
    ++ arrivals_from (nodes_had (plain_at_any scrolled l.t.tree l.fn.partner)) l.i (drop l.i (map shared l.widgets)) (drop l.i l.matched.items)
    ≡ arrivals_from (nodes_had (plain_at_any scrolled l.t.tree l.fn.partner)) 0 (map shared l.widgets) l.matched.items)
    × All (λ (a : Arrival). IfSome a.beside (λ k. Among k (children_had l.t.tree l.fn.partner) × IsNode l.t.tree k)) l.arrivals.items
    × All (λ (a : Arrival). IfSome a.beside (λ k. IfSome (widget_at l.t.tree k) (λ old. CanUpdate old (shared a.widget)))) l.arrivals.items
