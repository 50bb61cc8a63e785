use Rattle.std.proofs.Common.{Some, None, [], refl}
use Rattle.std.proofs.Common.{arith}
use Rattle.plain_tree.specs.declared.role.RenderRole.TheVariants.{Plain}
use Rattle.build_form.specs.Program.{blueprint_of}
use Rattle.build_walk.specs.Renewing.{drawn}
use Rattle.build_owner.specs.Standing.{next_at}
use Rattle.first_builds.specs.Inflated.{progress_at}
use Rattle.first_builds.proofs.InPlace.{updated_already, due_as, lays, paints}
use Rattle.first_builds.proofs.Whole.{new_forest, new_node, new_renders, are_elements, are_renders, as_planned, root_so, first_so, whole_in_place}
use Rattle.first_builds.proofs.laws.inflated_roots_stand.Goals as goal

pub returns : goal.returns
returns c = λ p t0 r0 g0 b screen w t r g h entered checked typed small no_elements no_renders root i top alone names makes.
    let node = new_node p t0 r0 g0 b screen w t r g h entered no_elements no_renders i in
    let f = new_forest p t0 r0 g0 b screen w t r g h entered no_elements no_renders i in
    let d = drawn Plain None f in
    let all = new_renders p t0 r0 g0 b screen w t r g h entered no_elements no_renders i in
    let is = are_renders p t0 r0 g0 b screen w t r g h entered no_elements no_renders i in
    let made = as_planned p t0 r0 g0 b screen w t r g h entered no_elements no_renders i in
    let old = b.stands.elements in
    let same = c.first_phases_go_on_from_elements.ensures.same p b.marks b.old b.scrolled t0 w checked old in
    let full = (c.first_phases_go_on_from_elements.ensures.whole (blueprint_of p) screen b.old (next_at t0) w node (progress_at entered g t) small
    (first_so p t0 r0 g0 b screen w t r g h entered no_elements no_renders i same) refl).0 in
    let grows = makes.grows in
    let due = due_as r d all made in
    whole_in_place p t0 r0 g0 b screen w t r g h entered no_elements no_renders i full names root alone makes
    (c.builds_leave_standing_trees.ensures.elements p screen b.old (next_at t0) w b.scrolled t t h i.value i.kids checked old.numbered old.well typed full i.go_on i.stored
    (λ n later. old.fresh n (omega (arith, later, grows))) (are_elements p t0 r0 g0 b screen w t r g h entered no_elements no_renders i) top refl)
    (c.builds_leave_standing_trees.ensures.renders b.scrolled (Some node) f r r r r all [] [] refl i.drawn (updated_already r None d all made is.stands) is
    (root_so p t0 r0 g0 b screen w t r g h entered no_elements no_renders i alone) (lays r all is due []) (paints r all is due []))
