use Rattle.std.proofs.Common.{sym, ◌∙◌}
use Rattle.program_check.proofs.PlaceLemmas.{component_of-none, component_of-past, component_of-some}
use Rattle.program_check.proofs.places.component_of.Goals as goal

pub returns-in_default : goal.returns-in_default
returns-in_default c = sym (component_of-none c.args.components.now c.args.name.now (sym c.component_index.ensures ∙ c.in_default.is))

pub returns-then-place-components : goal.returns-then-place-components
returns-then-place-components c =
    sym (component_of-past c.args.components.now c.args.name.now c.in-Some.place (sym c.component_index.ensures ∙ c.in-Some.is) c.if-place-components.true)

pub returns : goal.returns
returns c =
    sym (component_of-some c.args.components.now c.args.name.now c.in-Some.place c.index-components-place.result
    (sym c.component_index.ensures ∙ c.in-Some.is) c.if-place-components.false c.index-components-place.is)
