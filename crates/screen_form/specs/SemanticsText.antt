-- The text of a semantics tree.
use Rattle.std.specs.Prelude.{ℕ, Bool, Option, Some, None, is_some, List, [], ◌++◌, codes, if◌then◌else◌}
use Rattle.std.specs.Fmt.{decimal}
use Rattle.draw_records.specs.Printed.{place_text, extent_text}
use Rattle.draw_records.specs.Quoted.{quoted}
use Rattle.fx_geom.specs.declared.shapes.Rect.{Rect}
use Rattle.screen_form.specs.Sem.{Sem, sem, Sems, no_sems, more_sems}

-- a word with a space before it, where it holds
abbrev pub word_where : Bool → List ℕ → List ℕ
word_where holds word = if holds then word else []

-- ` button`, ` tap` and ` long`, where they hold
abbrev pub flags_text : Bool → Bool → Bool → List ℕ
flags_text button tap long = word_where button (codes " button") ++ (word_where tap (codes " tap") ++ word_where long (codes " long"))

-- `#n X Y W H `
abbrev pub head_text : ℕ → Rect → List ℕ
head_text id rect = codes "#" ++ (decimal id ++ (codes " " ++ (place_text rect.at ++ (codes " " ++ (extent_text rect.size ++ codes " ")))))

-- a node: `#n X Y W H "LABEL"` and what it does, and below it, indented by two spaces more, the nodes below it
abbrev mutual
  pub sem_text : List ℕ → Sem → List ℕ
  sem_text indent (sem id rect label button tap long children) =
      indent ++ (head_text id rect ++ (quoted label ++ (flags_text button (is_some tap) (is_some long) ++ codes "\n"))) ++ sems_text (indent ++ codes "  ") children

  pub sems_text : List ℕ → Sems → List ℕ
  sems_text indent no_sems = []
  sems_text indent (more_sems s ss) = sem_text indent s ++ sems_text indent ss

abbrev pub tree_text : Option Sem → List ℕ
tree_text (Some root) = sem_text [] root
tree_text None = []

-- `semantics`, the tree, `end`; before the first layout there is no tree
abbrev pub semantics_text : Option Sem → List ℕ
semantics_text tree = codes "semantics\n" ++ (tree_text tree ++ codes "end\n")
