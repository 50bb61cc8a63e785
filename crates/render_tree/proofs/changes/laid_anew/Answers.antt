use Rattle.std.proofs.Common.{◌≡◌, ◌∷◌, ◌++◌, [], take, sym, ap, ◌∙◌, subst, arith}
use Rattle.std.proofs.lemmas.List.{take_more, take_all}
use Rattle.render_tree.specs.Changes.{LaidAnew, NotesSome}
use Rattle.render_tree.proofs.Noting.{laid-start, laid-more}
use Rattle.render_tree.proofs.changes.laid_anew.Goals as goal

pub loop-entry-init : goal.loop-entry-init
loop-entry-init c =
    laid-start c.args.tree.now c.args.root c.note_root.new.out.items
    (subst (λ y. NotesSome (c.args.tree.now.root ≡ c.args.root) c.args.root y c.note_root.new.out.items) c.new-out.ensures.items c.in_ok-note_root.ensures)

pub loop-entry-preserved : goal.loop-entry-preserved
loop-entry-preserved c =
    subst (λ es. LaidAnew c.args.tree.now c.args.root es c.note_parent.new.out.items)
    (ap (λ x. take c.loop-entry.entry-index c.args.plan.now ++ x ∷ []) c.entry-item.is ∙ sym (take_more c.args.plan.now c.loop-entry.entry-index c.entry-item.result c.loop-entry-test.true))
    (laid-more c.args.tree.now c.args.root (take c.loop-entry.entry-index c.args.plan.now) c.entry-item.result c.loop-entry.out.items c.note_own.new.out.items c.note_parent.new.out.items c.loop-entry.invariant c.in_ok-note_own.ensures c.in_ok-note_parent.ensures)

pub returns : goal.returns
returns c =
    subst (λ es. LaidAnew c.args.tree.now c.args.root es c.loop-entry.out.items) (take_all c.loop-entry.entry-index c.args.plan.now (omega (arith, c.loop-entry-test.false))) c.loop-entry.invariant
