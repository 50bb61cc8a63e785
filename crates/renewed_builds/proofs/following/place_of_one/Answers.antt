use Rattle.std.proofs.Common.{◌≡◌, ◌≤◌, ◌++◌, ◌∷◌, [], List, map, length, sym, ap, ◌∙◌, subst, arith}
use Rattle.std.proofs.lemmas.Bool.{eqb-true}
use Rattle.std.proofs.lemmas.List.{length-map}
use Rattle.widget_model.specs.Plain.{PlainWidget}
use Rattle.widget_model.specs.View.{plain_of, shared}
use Rattle.reconcile.proofs.PlaceLemmas.{seen_through}
use Rattle.renewed_builds.specs.Taking.{FollowAt}
use Rattle.renewed_builds.proofs.Alone.{none_follow, not_zero, one_cannot, one_follows}
use Rattle.renewed_builds.proofs.following.place_of_one.Goals as goal

pub returns-then-is_empty-clause-some : goal.returns-then-is_empty-clause-some
returns-then-is_empty-clause-some c =
    let olds : List PlainWidget = map shared c.args.was.now in
    let ws : List PlainWidget = map shared c.args.now.now in
    let many : length olds ≡ length ws = length-map c.args.was.now shared ∙ c.requires.many ∙ sym (length-map c.args.now.now shared) in
    subst (λ l. FollowAt olds ws l) (sym c.new.ensures.items) (none_follow olds ws many (length-map c.args.was.now shared ∙ eqb-true (length c.args.was.now) 0 (sym c.is_empty.ensures ∙ c.if-is_empty.true)))

pub returns-then-not-can_update-clause-none : goal.returns-then-not-can_update-clause-none
returns-then-not-can_update-clause-none c = λ is.
    let olds : List PlainWidget = map shared c.args.was.now in
    let ws : List PlainWidget = map shared c.args.now.now in
    let many : length olds ≡ length ws = length-map c.args.was.now shared ∙ c.requires.many ∙ sym (length-map c.args.now.now shared) in
    let few : length ws ≤ 1 = omega (arith, c.requires.few, length-map c.args.now.now shared) in
    let low = not_zero (length c.args.was.now) (sym c.is_empty.ensures ∙ c.if-is_empty.false) in
    let at_old = seen_through c.args.was.now 0 c.index-was-0.result c.deref-old.result.now low c.index-was-0.is c.deref-old.ensures in
    let at_new = seen_through c.args.now.now 0 c.index-now-0.result c.deref-new.result.now (omega (arith, low, c.requires.many)) c.index-now-0.is c.deref-new.ensures in
    one_cannot olds ws (plain_of c.deref-old.result.now) (plain_of c.deref-new.result.now) many few at_old at_new (sym c.can_update.ensures.test ∙ c.if-not-can_update.true)

pub returns-clause-some : goal.returns-clause-some
returns-clause-some c =
    let olds : List PlainWidget = map shared c.args.was.now in
    let ws : List PlainWidget = map shared c.args.now.now in
    let many : length olds ≡ length ws = length-map c.args.was.now shared ∙ c.requires.many ∙ sym (length-map c.args.now.now shared) in
    let few : length ws ≤ 1 = omega (arith, c.requires.few, length-map c.args.now.now shared) in
    let low = not_zero (length c.args.was.now) (sym c.is_empty.ensures ∙ c.if-is_empty.false) in
    let at_old = seen_through c.args.was.now 0 c.index-was-0.result c.deref-old.result.now low c.index-was-0.is c.deref-old.ensures in
    let at_new = seen_through c.args.now.now 0 c.index-now-0.result c.deref-new.result.now (omega (arith, low, c.requires.many)) c.index-now-0.is c.deref-new.ensures in
    subst (λ l. FollowAt olds ws l) (sym (c.in_ok-push.ensures.items ∙ ap (λ l. l ++ 0 ∷ []) c.in_ok-places.ensures.items))
    (one_follows olds ws (plain_of c.deref-old.result.now) (plain_of c.deref-new.result.now) many few at_old at_new (sym c.can_update.ensures.test ∙ c.if-not-can_update.false))
