use Rattle.std.proofs.Common.{◌≡◌, length, sym, ◌∙◌, ap, arith, map}
use Rattle.std.proofs.lemmas.List.{length-map}
use Rattle.widget_model.specs.Update.{updates}
use Rattle.widget_model.specs.View.{plain_of, shared}
use Rattle.reconcile.proofs.Positions.{first_between, none_between, none_more}
use Rattle.reconcile.proofs.PlaceLemmas.{read_at}
use Rattle.reconcile.proofs.scan.first_place.Goals as goal

pub returns-then-can_update : goal.returns-then-can_update
returns-then-can_update c =
    let olds = map shared c.args.old.now in
    let w = plain_of c.args.widget.now in
    let n : length olds ≡ length c.args.old.now = length-map c.args.old.now shared in
    let at = read_at c.args.old.now c.loop-place.place c.index-old-place.result c.deref.result.now w (omega arith) c.index-old-place.is c.deref.ensures in
    sym (first_between (λ o. updates o w) olds c.args.middle.now.start c.args.middle.now.old_end w (omega arith) c.loop-place.place (omega arith) (omega arith)
    (ap (λ o. updates o w) at ∙ sym c.can_update.ensures.test ∙ c.if-can_update.true) c.loop-place.invariant)

pub loop-place-preserved : goal.loop-place-preserved
loop-place-preserved c =
    let olds = map shared c.args.old.now in
    let w = plain_of c.args.widget.now in
    let at = read_at c.args.old.now c.loop-place.place c.index-old-place.result c.deref.result.now w (omega arith) c.index-old-place.is c.deref.ensures in
    none_more (λ o. updates o w) olds c.args.middle.now.start c.loop-place.place w c.loop-place.invariant
    (ap (λ o. updates o w) at ∙ sym c.can_update.ensures.test ∙ c.if-can_update.false)

pub returns : goal.returns
returns c =
    let olds = map shared c.args.old.now in
    let w = plain_of c.args.widget.now in
    let n : length olds ≡ length c.args.old.now = length-map c.args.old.now shared in
    sym (none_between (λ o. updates o w) olds c.args.middle.now.start c.args.middle.now.old_end w (omega arith) c.requires.ordered
    (λ k low high. c.loop-place.invariant k low (omega arith)))
