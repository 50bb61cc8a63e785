use Rattle.std.proofs.Common.{◌≡◌, Some, option_map, sym, ap, ◌∙◌, true≢false}
use Rattle.fx_handles.specs.ArenaLaws.{same_Some}
use Rattle.widget_model.specs.Plain.{PlainWidget}
use Rattle.widget_model.specs.View.{shared}
use Rattle.frame_owner.specs.Frame.{KeptFrame}
use Rattle.frame_owner.proofs.Known.{of_kept, marked_by}
use Rattle.frame_owner.proofs.Windows.{none_some}
use Rattle.frame_owner.proofs.owner.FrameOwner.stale_for.Goals as goal

pub is_root-requires : goal.is_root-requires
is_root-requires c = λ on.
    of_kept c.args.self.now.settled (shared c.in-Some.kept) (λ w. w ≡ shared c.args.root.now)
    (sym (ap (λ (x : KeptFrame). x.settled) c.self.view_is) ∙ ap (option_map shared) c.in-Some.is) (c.requires on)

pub returns-in_default-clause-unknown : goal.returns-in_default-clause-unknown
returns-in_default-clause-unknown c = λ e is on. absurd (none_some (sym (ap (option_map shared) c.in_default.is) ∙ (ap (λ (x : KeptFrame). x.settled) c.self.view_is ∙ is)))

pub returns-then-not-self-clause-unknown : goal.returns-then-not-self-clause-unknown
returns-then-not-self-clause-unknown c = λ e is on. absurd (true≢false (sym (ap (λ (x : KeptFrame). x.keyless) c.self.view_is ∙ on) ∙ c.if-not-self.true))

pub returns-then-not-is_root-clause-unknown : goal.returns-then-not-is_root-clause-unknown
returns-then-not-is_root-clause-unknown c = λ e is on.
    let one = c.is_root.ensures.1 (same_Some (sym (ap (option_map shared) c.in-Some.is) ∙ (ap (λ (x : KeptFrame). x.settled) c.self.view_is ∙ is))) in
    absurd (true≢false (sym one ∙ c.if-not-is_root.true))

pub returns-clause-unknown : goal.returns-clause-unknown
returns-clause-unknown c = λ e is on. sym (ap (λ (x : KeptFrame). x.marked) c.self.view_is) ∙ e

pub returns-clause-known : goal.returns-clause-known
returns-clause-known c =
    marked_by c.self.inside.marked c.args.self.now (shared c.args.root.now) (sym (ap (λ (x : KeptFrame). x.marked) c.self.view_is))
    (sym (ap (λ (x : KeptFrame). x.settled) c.self.view_is)
    ∙ (ap (option_map shared) c.in-Some.is ∙ ap (λ (w : PlainWidget). Some w) (c.is_root.ensures.0 c.if-not-is_root.false)))
    (sym (ap (λ (x : KeptFrame). x.keyless) c.self.view_is) ∙ c.if-not-self.false)
