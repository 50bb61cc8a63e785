use Rattle.std.proofs.Common.{◌≡◌, Some, None, option_map, sym, ap, ◌∙◌, true≢false}
use Rattle.fx_handles.specs.ArenaLaws.{same_Some}
use Rattle.widget_model.specs.Plain.{PlainWidget}
use Rattle.widget_model.specs.View.{shared}
use Rattle.template_build.specs.Program.{declarations_of}
use Rattle.frame_owner.specs.Frame.{KeptFrame}
use Rattle.frame_owner.proofs.Known.{of_kept, known_small, none_by, some_marked}
use Rattle.frame_owner.proofs.Settled.{stays, nothing_built}
use Rattle.frame_owner.proofs.Windows.{none_some}
use Rattle.frame_owner.proofs.owner.FrameOwner.is_settled.Goals as goal

pub is_root-requires : goal.is_root-requires
is_root-requires c = λ on.
    of_kept c.args.self.now.settled (shared c.in-Some.kept) (λ w. w ≡ shared c.args.root.now)
    (sym (ap (λ (x : KeptFrame). x.settled) c.self.view_is) ∙ ap (option_map shared) c.in-Some.is) (c.requires.again on)

pub returns-in-Some-clause-stays : goal.returns-in-Some-clause-stays
returns-in-Some-clause-stays c = λ on p screen marks tree layouts now.
    let one : shared c.in-Some.kept ≡ shared c.args.root.now = c.is_root.ensures.0 on in
    let is : c.args.self.now.settled ≡ Some (shared c.args.root.now) =
    sym (ap (λ (x : KeptFrame). x.settled) c.self.view_is) ∙ (ap (option_map shared) c.in-Some.is ∙ ap (λ (w : PlainWidget). Some w) one) in
    let free : c.args.self.now.marked ≡ None = sym (ap (λ (x : KeptFrame). x.marked) c.self.view_is) ∙ none_by c.self.inside.marked (sym c.is_some.ensures ∙ c.if-is_some.false) in
    stays c.settled_trees_stay.ensures.tree c.projection_keeps_numbers_apart.ensures (λ q n well. c.one_root_is_laid_out.ensures n (c.built_trees_vanish_alone.ensures (declarations_of q) n well))
    c.render_marks_are_marks.ensures.layout c.render_marks_are_marks.ensures.paint p screen marks tree c.args.self.now (shared c.args.root.now) layouts is free now

pub returns-in-Some-clause-small : goal.returns-in-Some-clause-small
returns-in-Some-clause-small c = λ on p screen marks tree now.
    let one : shared c.in-Some.kept ≡ shared c.args.root.now = c.is_root.ensures.0 on in
    let is : c.args.self.now.settled ≡ Some (shared c.args.root.now) =
    sym (ap (λ (x : KeptFrame). x.settled) c.self.view_is) ∙ (ap (option_map shared) c.in-Some.is ∙ ap (λ (w : PlainWidget). Some w) one) in
    (known_small p screen.delegates marks tree c.args.self.now (shared c.args.root.now) is now)

pub returns-in-Some-clause-known : goal.returns-in-Some-clause-known
returns-in-Some-clause-known c = (
  (λ on. (
    sym (ap (λ (x : KeptFrame). x.settled) c.self.view_is)
        ∙ (ap (option_map shared) c.in-Some.is ∙ ap (λ (w : PlainWidget). Some w) (c.is_root.ensures.0 on)),
    sym (ap (λ (x : KeptFrame). x.marked) c.self.view_is) ∙ none_by c.self.inside.marked (sym c.is_some.ensures ∙ c.if-is_some.false),
  )),
  (λ is.
      c.is_root.ensures.1 (same_Some (sym (ap (option_map shared) c.in-Some.is) ∙ (ap (λ (x : KeptFrame). x.settled) c.self.view_is ∙ is.0)))),
)

pub returns-in-None-clause-known : goal.returns-in-None-clause-known
returns-in-None-clause-known c = (
  (λ on. absurd (true≢false (sym on))),
  (λ is. absurd (none_some (sym (ap (option_map shared) c.in-None.is) ∙ (ap (λ (x : KeptFrame). x.settled) c.self.view_is ∙ is.0)))),
)

pub returns-then-is_some-clause-known : goal.returns-then-is_some-clause-known
returns-then-is_some-clause-known c = (
  (λ on. absurd (true≢false (sym on))),
  (λ is. absurd (some_marked c.self.inside.marked (sym c.is_some.ensures ∙ c.if-is_some.true) (ap (λ (x : KeptFrame). x.marked) c.self.view_is ∙ is.1))),
)

pub returns-in-Some-clause-builds : goal.returns-in-Some-clause-builds
returns-in-Some-clause-builds c = λ on p screen marks tree now.
    let one : shared c.in-Some.kept ≡ shared c.args.root.now = c.is_root.ensures.0 on in
    let is : c.args.self.now.settled ≡ Some (shared c.args.root.now) =
    sym (ap (λ (x : KeptFrame). x.settled) c.self.view_is) ∙ (ap (option_map shared) c.in-Some.is ∙ ap (λ (w : PlainWidget). Some w) one) in
    let free : c.args.self.now.marked ≡ None = sym (ap (λ (x : KeptFrame). x.marked) c.self.view_is) ∙ none_by c.self.inside.marked (sym c.is_some.ensures ∙ c.if-is_some.false) in
    nothing_built c.settled_trees_stay.ensures.builds p screen marks tree c.args.self.now (shared c.args.root.now) is free now
