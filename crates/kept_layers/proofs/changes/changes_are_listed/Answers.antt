use Rattle.kept_layers.proofs.RootTrees.{no_marks, inside_shape, shape_swept}
use Rattle.kept_layers.proofs.Committing.{commit_lists}
use Rattle.kept_layers.proofs.Changing.{written_lists, layouts_list, laid_after, both_list}
use Rattle.node_tree.proofs.Walks.{shape-set_value}
use Rattle.tree_marks.specs.Marking.{at_top}
use Rattle.render_tree.specs.Marks.{layout_marks}
use Rattle.kept_layers.proofs.changes.changes_are_listed.Goals as goal

pub returns-clause-committed : goal.returns-clause-committed
returns-clause-committed c = commit_lists

pub returns-clause-written : goal.returns-clause-written
returns-clause-written c = λ cell delegates also hs old new h o v is at_h writes flag mark drawn placed.
    written_lists cell delegates also hs old new h o v at_h writes flag mark drawn placed
    (λ k inside live. inside_shape old new is.0 _ is.1 (writes.plain is.0 is.1) writes.root (shape-set_value h v is.0) k inside)

pub returns-clause-layouts : goal.returns-clause-layouts
returns-clause-layouts c = λ cell delegates also laid_also hs laid old new is sets.
    layouts_list cell delegates also laid_also hs laid old new sets
    (λ k inside live. inside_shape old new is.0 _ is.1 (sets.plain is.0 is.1) sets.root (shape_swept layout_marks laid_also laid at_top is.0) k inside)

pub returns-clause-after_layouts : goal.returns-clause-after_layouts
returns-clause-after_layouts c = λ cell before after also laid_also hs laid old mid new is lists sets.
    laid_after cell before after also laid_also hs laid old mid new lists sets
    (inside_shape mid new is.0 _ is.1 (sets.plain is.0 is.1) sets.root (shape_swept layout_marks laid_also laid at_top is.0))

pub returns-clause-both : goal.returns-clause-both
returns-clause-both c = both_list

pub returns-clause-nothing : goal.returns-clause-nothing
returns-clause-nothing c = no_marks
