-- Laid trees without the items of lazy lists.
use Rattle.std.specs.Prelude.{Bool, true, false, if◌then◌else◌}
use Rattle.plain_tree.specs.declared.laid.Facts.{Facts}
use Rattle.plain_tree.specs.Laid.{Laid, laid, Laids, no_laids, more_laids}
use Rattle.layout_form.specs.Object.{no_notes}
use Rattle.layout_walk.specs.Rules.{is_list}

-- what counts of a node: of a lazy list its frame alone, of any other node all that its layout left
abbrev pub outer_facts : Bool → Facts → Facts
outer_facts true facts = record { frame = facts.frame; notes = no_notes; plugged = false; scrolled = 0 }
outer_facts false facts = facts

-- the same laid tree, but for what is below lazy lists
abbrev mutual
  pub outer_laid : Laid → Laid
  outer_laid (laid number look facts children) = laid number look (outer_facts (is_list look) facts) (if is_list look then no_laids else outer_laids children)

  pub outer_laids : Laids → Laids
  outer_laids no_laids = no_laids
  outer_laids (more_laids at l ls) = more_laids at (outer_laid l) (outer_laids ls)
