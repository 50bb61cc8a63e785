use Rattle.render_tree.specs.Plain.{root_tree}
use Rattle.screen_owner.proofs.Bringing.{synced_rooted, synced_is, brought_renders, commits_listed}
use Rattle.screen_owner.proofs.Calm.{laid_in_same}
use Rattle.screen_owner.proofs.Indexing.{index_differs}
use Rattle.screen_owner.proofs.Unchanged.{unchanged, kept_nodes}
use Rattle.screen_owner.proofs.Laying.{LayoutLaws, synced_layouts}
use Rattle.screen_owner.proofs.frames.bring.Goals as goal

pub returns-clause-stands : goal.returns-clause-stands
returns-clause-stands c =
    let old = c.args.tree.now.tree in
    let now = c.sync.new.tree.tree in
    record { numbering = c.in_ok-sync.ensures.index; alone = (synced_rooted old now c.args.top.now c.in_ok-sync.ensures.synced).alone }

pub returns-clause-tree : goal.returns-clause-tree
returns-clause-tree c = (_, synced_is c.args.tree.now.tree c.sync.new.tree.tree c.args.top.now c.in_ok-sync.ensures.synced)

pub returns-clause-renders : goal.returns-clause-renders
returns-clause-renders c = brought_renders c.args.tree.now.tree c.sync.new.tree.tree c.args.top.now c.in_ok-sync.ensures.synced

pub returns-clause-brings : goal.returns-clause-brings
returns-clause-brings c =
    let old = c.args.tree.now.tree in
    let now = c.sync.new.tree.tree in
    let top = c.args.top.now in
    let synced = c.in_ok-sync.ensures.synced in
    record {
      before = record { tree = c.root.ensures.tree; alone = c.requires.stands.alone; differ = index_differs c.args.numbers.now old c.requires.stands.numbering };
      kinds = c.requires.kinds;
      synced = synced;
      after = record {
        tree = (_, synced_is old now top synced);
        alone = (synced_rooted old now top synced).alone;
        differ = index_differs c.sync.new.numbers now c.in_ok-sync.ensures.index;
      };
      renders = brought_renders old now top synced;
    }

pub returns-clause-layouts : goal.returns-clause-layouts
returns-clause-layouts c = λ s keeps.
    let laws : LayoutLaws = record {
      stores = c.commits_keep_layouts.ensures.stores;
      more = c.commits_keep_layouts.ensures.more;
      commits = c.commits_keep_layouts.ensures.commits;
      paints = c.paint_marks_keep_layouts.ensures;
    } in
    synced_layouts laws s c.args.tree.now.tree c.sync.new.tree.tree c.args.top.now c.in_ok-sync.ensures.synced c.root.ensures.tree keeps

pub returns-clause-layers : goal.returns-clause-layers
returns-clause-layers c = λ cell delegates o kept.
    let old = c.args.tree.now.tree in
    let now = c.sync.new.tree.tree in
    let synced = c.in_ok-sync.ensures.synced in
    c.commits_keep_layers.ensures cell delegates o synced.painted old synced.laid_marked now c.root.ensures.tree
    (commits_listed old now c.args.top.now synced c.requires.stands.alone c.requires.kinds) synced.paints kept

pub returns-clause-still : goal.returns-clause-still
returns-clause-still c = λ view there laid_in.
    let old = c.args.tree.now.tree in
    let now = c.sync.new.tree.tree in
    laid_in_same view old now
    (kept_nodes (root_tree old) (root_tree now)
    (unchanged old now c.args.top.now c.in_ok-sync.ensures.synced c.root.ensures.tree c.requires.stands.alone there c.render_marks_are_marks.ensures.layout c.render_marks_are_marks.ensures.paint))
    laid_in

pub returns-clause-same : goal.returns-clause-same
returns-clause-same c = λ there.
    let old = c.args.tree.now.tree in
    let now = c.sync.new.tree.tree in
    kept_nodes (root_tree old) (root_tree now)
    (unchanged old now c.args.top.now c.in_ok-sync.ensures.synced c.root.ensures.tree c.requires.stands.alone there c.render_marks_are_marks.ensures.layout c.render_marks_are_marks.ensures.paint)
