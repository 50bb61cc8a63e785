use Rattle.std.proofs.Common.{sym, ap, ◌∙◌}
use Rattle.widget_model.specs.View.{plain_of}
use Rattle.global_keys.specs.Holders.{recorded}
use Rattle.global_keys.proofs.Recorded.{looked_up}
use Rattle.global_keys.proofs.Naming.{claim_absent, claim_met, claim_other, claim_taken}
use Rattle.global_keys.proofs.registry.Registry.claim.Goals as goal

pub returns-in_default-clause-claim : goal.returns-in_default-clause-claim
returns-in_default-clause-claim c =
    let there = ap (λ r. recorded r c.args.key.now) (sym c.self.view_is) ∙ sym (looked_up c.args.key.now c.self.inside.holders.entries) ∙ sym c.get.ensures.value ∙ sym c.copied.ensures in
    claim_absent c.args.t.now.tree (recorded c.args.self.now c.args.key.now) (plain_of c.args.w.now) (there ∙ c.in_default.is)

pub returns-then-holder-clause-claim : goal.returns-then-holder-clause-claim
returns-then-holder-clause-claim c =
    let there = ap (λ r. recorded r c.args.key.now) (sym c.self.view_is) ∙ sym (looked_up c.args.key.now c.self.inside.holders.entries) ∙ sym c.get.ensures.value ∙ sym c.copied.ensures in
    claim_met c.args.t.now.tree (recorded c.args.self.now c.args.key.now) c.in-Some.holder (plain_of c.args.w.now) (there ∙ c.in-Some.is) c.if-holder.true

pub returns-then-not-is_of_type-clause-claim : goal.returns-then-not-is_of_type-clause-claim
returns-then-not-is_of_type-clause-claim c =
    let there = ap (λ r. recorded r c.args.key.now) (sym c.self.view_is) ∙ sym (looked_up c.args.key.now c.self.inside.holders.entries) ∙ sym c.get.ensures.value ∙ sym c.copied.ensures in
    claim_other c.args.t.now.tree (recorded c.args.self.now c.args.key.now) c.in-Some.holder (plain_of c.args.w.now) (there ∙ c.in-Some.is) c.if-holder.false (sym c.is_of_type.ensures ∙ c.if-not-is_of_type.true)

pub returns-clause-claim : goal.returns-clause-claim
returns-clause-claim c =
    let there = ap (λ r. recorded r c.args.key.now) (sym c.self.view_is) ∙ sym (looked_up c.args.key.now c.self.inside.holders.entries) ∙ sym c.get.ensures.value ∙ sym c.copied.ensures in
    claim_taken c.args.t.now.tree (recorded c.args.self.now c.args.key.now) c.in-Some.holder (plain_of c.args.w.now) (there ∙ c.in-Some.is) c.if-holder.false (sym c.is_of_type.ensures ∙ c.if-not-is_of_type.false)
