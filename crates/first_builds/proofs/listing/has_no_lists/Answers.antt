use Rattle.std.proofs.Common.{◌↔◌, IsTrue, ap, ◌∙◌, subst, List}
use Rattle.program_check.specs.declared.checked.CheckedComponent.{CheckedComponent}
use Rattle.program_check.specs.declared.checked.CheckedParts.{CheckedParts}
use Rattle.first_builds.proofs.Listless.{told_not, untrue, ComponentsAreListless}
use Rattle.first_builds.proofs.listing.has_no_lists.Goals as goal

pub returns-then-not-are_listless_components : goal.returns-then-not-are_listless_components
returns-then-not-are_listless_components c =
    let same = c.as_slice.ensures.value ∙ ap (λ (p : CheckedParts). p.components.items) c.parts.ensures.parts in
    told_not (λ h. untrue c.are_listless_components.result c.if-not-are_listless_components.true
    (subst (λ (cs : List CheckedComponent). IsTrue c.are_listless_components.result ↔ ComponentsAreListless cs) same c.are_listless_components.ensures) h.0)

pub returns : goal.returns
returns c =
    let same = c.as_slice.ensures.value ∙ ap (λ (p : CheckedParts). p.components.items) c.parts.ensures.parts in
    let bodies = subst (λ (cs : List CheckedComponent). IsTrue c.are_listless_components.result ↔ ComponentsAreListless cs) same c.are_listless_components.ensures in
    (λ on. (bodies.0 c.if-not-are_listless_components.false, c.is_listless.ensures.0 on), λ h. c.is_listless.ensures.1 h.1)
