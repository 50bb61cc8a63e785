-- The notes of what stands at the places that are left.
use Rattle.std.proofs.Common.{◌≡◌, ℕ, ◌+◌, ◌<◌, ◌≤◌, Option, Some, None, List, ◌++◌, length, drop, get_or, refl, sym, ap, ◌∙◌}
use Rattle.std.proofs.lemmas.List.{append_assoc, append-nil}
use Rattle.plain_tree.specs.Laid.{Laid, laid, Stood}
use Rattle.laid_cursor.specs.Opened.{opened, laids_at}
use Rattle.laid_cursor.proofs.Walking.{one_there, none_left}
use Rattle.screen_form.specs.declared.remarks.Note.{Note}
use Rattle.screen_form.specs.Remarks.{own_notes, notes_of, notes_in}

pub opened_notes : (l : Laid) → notes_of l ≡ own_notes (opened l).number (opened l).facts.notes ++ notes_in (opened l).below
opened_notes (laid number look facts children) = refl

module _ (ps : List (Option Stood)) (i : ℕ) where
  pub noted_more : (c : Stood) (old new whole : List Note) → i < length ps → Some c ≡ get_or ps i None → new ≡ old ++ notes_of c.child
      → old ++ notes_in (laids_at (drop i ps)) ≡ whole → new ++ notes_in (laids_at (drop (i + 1) ps)) ≡ whole
  noted_more c old new whole within is_c is_new so_far =
      let rest = notes_in (laids_at (drop (i + 1) ps)) in
      ap (λ l. l ++ rest) is_new
      ∙ append_assoc old (notes_of c.child) rest
      ∙ ap (λ ls. old ++ notes_in ls) (sym (one_there ps i c within is_c))
      ∙ so_far

  pub noted_all : (old whole : List Note) → length ps ≤ i → old ++ notes_in (laids_at (drop i ps)) ≡ whole → old ≡ whole
  noted_all old whole past so_far =
      sym (append-nil old) ∙ ap (λ ls. old ++ notes_in ls) (sym (none_left ps i past)) ∙ so_far
