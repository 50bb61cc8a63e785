use Rattle.kept_phases.proofs.Layouts.{LayoutLaws, redrawn_layouts}
use Rattle.kept_phases.proofs.laws.redraws_keep_layouts.Goals as goal

pub returns : goal.returns
returns c = λ s old new r is keeps.
    let laws : LayoutLaws = record {
      stores = c.commits_keep_layouts.ensures.stores;
      more = c.commits_keep_layouts.ensures.more;
      commits = c.commits_keep_layouts.ensures.commits;
      paints = c.paint_marks_keep_layouts.ensures;
    } in
    redrawn_layouts laws s old new r is keeps
