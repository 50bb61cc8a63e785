use Rattle.std.proofs.Common.{◌≡◌, ◌∷◌, ◌++◌, [], take, sym, ap, ◌∙◌, subst, arith}
use Rattle.std.proofs.lemmas.List.{take_more, take_all}
use Rattle.render_tree.specs.Changes.{PaintedAnew, NotesSome}
use Rattle.render_tree.proofs.Noting.{painted-start, painted-more}
use Rattle.render_tree.proofs.changes.painted_anew.Goals as goal

pub loop-entry-init : goal.loop-entry-init
loop-entry-init c =
    painted-start c.args.tree.now c.args.root c.note_root.new.out.items
    (subst (λ y. NotesSome (c.args.tree.now.root ≡ c.args.root) c.args.root y c.note_root.new.out.items) c.new-out.ensures.items c.in_ok-note_root.ensures)

pub loop-entry-preserved : goal.loop-entry-preserved
loop-entry-preserved c =
    subst (λ es. PaintedAnew c.args.tree.now c.args.root es c.note_look.new.out.items)
    (ap (λ x. take c.loop-entry.entry-index c.args.plan.now ++ x ∷ []) c.entry-item.is ∙ sym (take_more c.args.plan.now c.loop-entry.entry-index c.entry-item.result c.loop-entry-test.true))
    (painted-more c.args.tree.now c.args.root (take c.loop-entry.entry-index c.args.plan.now) c.entry-item.result c.loop-entry.out.items c.note_look.new.out.items c.loop-entry.invariant c.in_ok-note_look.ensures)

pub returns : goal.returns
returns c =
    subst (λ es. PaintedAnew c.args.tree.now c.args.root es c.loop-entry.out.items) (take_all c.loop-entry.entry-index c.args.plan.now (omega (arith, c.loop-entry-test.false))) c.loop-entry.invariant
