use Rattle.std.proofs.Common.{refl, true, sym, ◌+◌, ap, ◌∙◌, option_map}
use Rattle.plain_tree.specs.At.{changed_at, having_scroll}
use Rattle.plain_tree.specs.Offsets.{scrolled_by}
use Rattle.element_tree.specs.Edits.{with_flag}
use Rattle.element_tree.specs.Element.{made_count, Element}
use Rattle.element_tree.specs.Fields.{with_fields}
use Rattle.node_tree.specs.Forest.{set_value}
use Rattle.build_walk.specs.Kept.{node_over}
use Rattle.kept_builds.proofs.Leaving.{redrawn_so, scrolled_on, rewritten, found, fields_listed, fields_projected, fields_numbered}
use Rattle.kept_builds.proofs.Rescrolling.{line_rescrolls, layout_rescrolls}
use Rattle.kept_builds.proofs.laws.lines_leave_standing_trees.Goals as goal

pub returns-clause-set : goal.returns-clause-set
returns-clause-set c = λ p marks old scrolled t u r g h e change stands once stored types writes.
    let f = stands.elements.forest in
    let w = with_fields (change e.fields) e in
    let at = found p marks scrolled t h e stored once old stands.elements in
    let listed = c.fields_change_nodes.ensures t f h e (change e.fields) scrolled stands.elements.is stored
    (λ k same. once e.number k h same (ap (option_map (λ (x : Element). x.number)) stored)) in
    rewritten p marks scrolled t u r g h e w stored (record { number = refl; widget = refl; index = refl; render = refl; types = types; dirty = refl }) once writes old _ stands
    (fields_listed change scrolled f (set_value h w f) old e.number (node_over scrolled e at.0) e.fields stands.elements.nodes at.1 refl listed)
    (fields_numbered change c.changes_keep_numbering.ensures.fields old e.number (made_count t + 1) stands.elements.numbered)
    (fields_projected change c.fields_leave_the_projection.ensures old e.number (node_over scrolled e at.0) e.fields at.1 refl)

pub returns-clause-marked : goal.returns-clause-marked
returns-clause-marked c = λ p marks old scrolled t u r g h e stands once stored changes.
    let f = stands.elements.forest in
    let same = c.unseen_changes_keep_nodes.ensures t f h e (with_flag true e) scrolled stands.elements.is stored (record { number = refl; widget = refl; fields = refl; index = refl }) in
    rewritten p marks scrolled t u r g h e (with_flag true e) stored (record { number = refl; widget = refl; index = refl; render = refl; types = refl; dirty = refl }) once (changes.live e stored) old old stands
    (stands.elements.nodes ∙ sym same) stands.elements.numbered refl

pub returns-clause-redrawn : goal.returns-clause-redrawn
returns-clause-redrawn c = λ p marks old scrolled t r s g stands keeps has. record {
  elements = stands.elements;
  renders = redrawn_so c.projection_keeps_numbers_apart.ensures (made_count t + 1) old old scrolled scrolled stands.elements.forest r s stands.renders stands.elements.numbered stands.elements.nodes keeps has;
  names = stands.names;
}

pub returns-clause-scroll : goal.returns-clause-scroll
returns-clause-scroll c = λ p marks old scrolled t r s g number offset stands keeps has.
    scrolled_on c.projection_keeps_numbers_apart.ensures p marks scrolled t r s g (changed_at (having_scroll offset) number) (line_rescrolls offset number)
    (λ next n. c.changes_keep_numbering.ensures.scroll offset number next n) old stands keeps has

pub returns-clause-offsets : goal.returns-clause-offsets
returns-clause-offsets c = λ p marks old scrolled t r s g offset stands keeps has.
    scrolled_on c.projection_keeps_numbers_apart.ensures p marks scrolled t r s g (scrolled_by offset) (layout_rescrolls offset)
    (λ next n. c.changes_keep_numbering.ensures.offsets offset next n) old stands keeps has
