-- What is left has no lazy list exactly where the whole has none.
use Rattle.std.proofs.Common.{◌↔◌, drop}
use Rattle.first_builds.proofs.Listless.{ComponentsAreListless}
use Rattle.first_builds.proofs.listing.are_listless_components.Given as goal

abbrev pub invariant-loop-component : goal.invariant-loop-component
invariant-loop-component l = ComponentsAreListless (drop l.component-index l.components) ↔ ComponentsAreListless l.components
