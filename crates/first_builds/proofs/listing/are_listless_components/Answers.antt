use Rattle.first_builds.proofs.Listless.{told, told_not, untrue, ComponentIsListless, ComponentsAreListless, components_opened, no_components, each_more, each_not, each_all}
use Rattle.first_builds.proofs.listing.are_listless_components.Goals as goal

pub returns-then-not-is_listless_body : goal.returns-then-not-is_listless_body
returns-then-not-is_listless_body c =
    told_not (each_not ComponentIsListless ComponentsAreListless components_opened (ComponentsAreListless c.args.components.now) c.args.components.now c.loop-component.component-index c.component-item.result
    c.loop-component-test.true c.component-item.is c.loop-component.invariant (untrue c.is_listless_body.result c.if-not-is_listless_body.true c.is_listless_body.ensures))

pub loop-component-preserved : goal.loop-component-preserved
loop-component-preserved c =
    each_more ComponentIsListless ComponentsAreListless components_opened (ComponentsAreListless c.args.components.now) c.args.components.now c.loop-component.component-index c.component-item.result
    c.loop-component-test.true c.component-item.is c.loop-component.invariant (c.is_listless_body.ensures.0 c.if-not-is_listless_body.false)

pub returns : goal.returns
returns c =
    told (each_all ComponentIsListless ComponentsAreListless components_opened (ComponentsAreListless c.args.components.now) c.args.components.now c.loop-component.component-index no_components
    c.loop-component-test.false c.loop-component.invariant)
