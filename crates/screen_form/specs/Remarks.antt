-- What a layout remarks, node by node in preorder.
use Rattle.std.specs.Prelude.{ℕ, ◌==◌, if◌then◌else◌, List, [], ◌∷◌, ◌++◌}
use Rattle.plain_tree.specs.declared.laid.Notes.{Notes}
use Rattle.plain_tree.specs.Laid.{Laid, laid, Laids, no_laids, more_laids}
use Rattle.screen_form.specs.declared.remarks.Note.{Note}
use Rattle.screen_form.specs.declared.remarks.Remark.{Remark}
use Rattle.screen_form.specs.declared.remarks.Remark.TheVariants.{Unbounded, Overflow}

abbrev pub note : ℕ → Remark → Note
note number remark = record { node = number; remark = remark }

-- what is remarked of one node: first that it is unbounded, then by how much it overflows, if it does
abbrev pub own_notes : ℕ → Notes → List Note
own_notes number notes =
    (if notes.unbounded then note number Unbounded ∷ [] else [])
    ++ (if notes.overflow == 0 then [] else note number (Overflow notes.overflow) ∷ [])

abbrev mutual
  pub notes_of : Laid → List Note
  notes_of (laid number look facts children) = own_notes number facts.notes ++ notes_in children

  pub notes_in : Laids → List Note
  notes_in no_laids = []
  notes_in (more_laids at l ls) = notes_of l ++ notes_in ls
