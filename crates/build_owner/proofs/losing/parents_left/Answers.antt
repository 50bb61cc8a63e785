use Rattle.std.proofs.Common.{◌∷◌, ◌++◌, [], take, sym, ap, ◌∙◌, subst, arith}
use Rattle.std.specs.List.{All}
use Rattle.std.proofs.lemmas.List.{take_more, take_all}
use Rattle.std.proofs.lemmas.List.Elements.{All-nil}
use Rattle.node_tree.specs.Tree.{IsNode}
use Rattle.build_owner.specs.Losing.{ParentsLeft}
use Rattle.build_owner.proofs.Lost.{left_start, left_more}
use Rattle.build_owner.proofs.losing.parents_left.Goals as goal

pub loop-entry-init : goal.loop-entry-init
loop-entry-init c = (
  subst (λ hs. ParentsLeft c.args.r.now.tree [] hs) (sym c.new-out.ensures.items) (left_start c.args.r.now.tree),
  subst (λ hs. All (IsNode c.args.r.now.tree) hs) (sym c.new-out.ensures.items) (All-nil (IsNode c.args.r.now.tree)),
)

pub loop-entry-preserved : goal.loop-entry-preserved
loop-entry-preserved c = (
  subst (λ es. ParentsLeft c.args.r.now.tree es c.note_left.new.out.items)
      (ap (λ x. take c.loop-entry.entry-index c.args.plan.now ++ x ∷ []) c.entry-item.is ∙ sym (take_more c.args.plan.now c.loop-entry.entry-index c.entry-item.result c.loop-entry-test.true))
      (left_more c.args.r.now.tree (take c.loop-entry.entry-index c.args.plan.now) c.entry-item.result c.loop-entry.out.items c.note_left.new.out.items c.loop-entry.invariant.0 c.in_ok-note_left.ensures.notes),
  c.in_ok-note_left.ensures.live c.loop-entry.invariant.1,
)

pub returns-clause-left : goal.returns-clause-left
returns-clause-left c =
    subst (λ es. ParentsLeft c.args.r.now.tree es c.loop-entry.out.items) (take_all c.loop-entry.entry-index c.args.plan.now (omega (arith, c.loop-entry-test.false))) c.loop-entry.invariant.0

pub returns-clause-live : goal.returns-clause-live
returns-clause-live c = c.loop-entry.invariant.1
