use Rattle.std.proofs.Common.{◌≡◌, ◌==◌, ℕ, ◌∷◌, List, take, drop, false, sym, ap, ◌∙◌, subst, rules}
use Rattle.std.specs.List.{list_any}
use Rattle.plain_tree.specs.Laws.{render_numbers_of, render_numbers_in}
use Rattle.plain_tree.specs.Render.{Render, renders_of}
use Rattle.worked_calls.specs.Grown.{AreGrown}
use Rattle.worked_calls.proofs.Growing.{grown_more}
use Rattle.worked_calls.proofs.builds.add.Goals as goal

pub returns : goal.returns
returns c =
    let s = c.args.scroll in
    let rs : List Render = c.args.nodes.now.items in
    let ns : List ℕ = c.args.numbers.now.items in
    let n = c.args.row.0 in
    let k = c.args.row.2 in
    let r : Render = c.in_ok-node.field-0 in
    let first : c.replace-below.result.items ≡ take k rs = search rules in
    let are : c.insert.new.self.items ≡ r ∷ drop k rs = search rules in
    let told : c.insert-2.new.self.items ≡ n ∷ ns = search rules in
    let new : list_any (λ y. y == n) ns ≡ false = search rules in
    let numbers : render_numbers_of r ≡ n ∷ render_numbers_in (renders_of (take k rs)) =
    c.in_ok-node.ensures.numbers ∙ ap (λ (xs : List Render). n ∷ render_numbers_in (renders_of xs)) first in
    let grown : AreGrown s (r ∷ drop k rs) (n ∷ ns) = grown_more s rs ns k n r c.requires c.in_ok-node.ensures.fine numbers new in
    subst (λ (xs : List Render). AreGrown s xs c.insert-2.new.self.items) (sym are) (subst (AreGrown s (r ∷ drop k rs)) (sym told) grown)
