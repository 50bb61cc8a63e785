use Rattle.std.proofs.Common.{ap, ◌∙◌}
use Rattle.widget_model.specs.declared.widgets.Widget.{Widget}
use Rattle.widget_model.specs.View.{look_in, shared}
use Rattle.build_form.proofs.Typing.{not_composes}
use Rattle.build_form.specs.BuildRole.{build_role_of}
use Rattle.build_walk.specs.Kept.{plain_at_any}
use Rattle.build_owner.specs.WalkView.{declared_by, program_of}
use Rattle.build_owner.proofs.Gives.{own_given, own_counted, own_few, own_typed}
use Rattle.build_owner.proofs.giving.given.Goals as goal

-- ---- those that it has

pub returns-in_default-clause-ok : goal.returns-in_default-clause-ok
returns-in_default-clause-ok g c = λ f e s stored keeps olds.
    own_given (shared c.args.arrival.now.widget) (λ place props e. not_composes c.build_role_of.result c.in_default.not-Composes place props (c.build_role_of.ensures.part ∙ ap (λ (v : Widget). build_role_of (look_in v.kind)) c.deref.ensures ∙ e))
    (program_of c.args.from.now) f.pasts (plain_at_any f.scrolled f.elements c.args.owned.now.partner) c.args.names.now.now.items e.number e.fields s

pub returns-in_default-clause-builds : goal.returns-in_default-clause-builds
returns-in_default-clause-builds g c = λ f keeps olds.
    own_counted (shared c.args.arrival.now.widget) (λ place props e. not_composes c.build_role_of.result c.in_default.not-Composes place props (c.build_role_of.ensures.part ∙ ap (λ (v : Widget). build_role_of (look_in v.kind)) c.deref.ensures ∙ e))
    f.pasts (plain_at_any f.scrolled f.elements c.args.owned.now.partner) c.args.names.now.now.items c.args.builds.now

pub returns-in_default-clause-typed : goal.returns-in_default-clause-typed
returns-in_default-clause-typed g c = own_typed (declared_by c.args.from.now) c.args.arrival.now.widget.value.children c.requires.widget.below

pub returns-in_default-clause-few : goal.returns-in_default-clause-few
returns-in_default-clause-few g c = own_few (shared c.args.arrival.now.widget) (λ place props e. not_composes c.build_role_of.result c.in_default.not-Composes place props (c.build_role_of.ensures.part ∙ ap (λ (v : Widget). build_role_of (look_in v.kind)) c.deref.ensures ∙ e)) _

-- ---- that of a component

pub returns-clause-ok : goal.returns-clause-ok
returns-clause-ok g c = c.given_anew_or_kept.ensures.ok

pub returns-clause-fault : goal.returns-clause-fault
returns-clause-fault g c = c.given_anew_or_kept.ensures.fault

pub returns-clause-builds : goal.returns-clause-builds
returns-clause-builds g c = c.given_anew_or_kept.ensures.builds

pub returns-clause-builds_at_fault : goal.returns-clause-builds_at_fault
returns-clause-builds_at_fault g c = c.given_anew_or_kept.ensures.builds_at_fault

pub returns-clause-typed : goal.returns-clause-typed
returns-clause-typed g c = c.given_anew_or_kept.ensures.typed

pub returns-clause-few : goal.returns-clause-few
returns-clause-few g c = c.given_anew_or_kept.ensures.few
