-- Where nothing is remarked of any node, nothing is read off.
use Rattle.std.proofs.Common.{◌≡◌, Bool, true, false, not, Option, Some, None, IfSome, option_map, [], ◌++◌, refl, sym, ap, ◌∙◌}
use Rattle.std.specs.Prelude.{ℕ, is_some, if◌then◌else◌}
use Rattle.fx_handles.specs.declared.Handle.{Handle}
use Rattle.fx_geom.specs.declared.shapes.Offset.{Offset}
use Rattle.node_tree.specs.Forest.{TreeNode, Forest, Stands}
use Rattle.node_tree.specs.Forest.Forest.{none, tree}
use Rattle.node_tree.specs.Tree.{Tree, Holds, node_at, subtree_at}
use Rattle.plain_tree.specs.Laid.{Laid, laid, Laids, more_laids}
use Rattle.plain_tree.specs.declared.laid.Notes.{Notes}
use Rattle.render_tree.specs.Edits.{no_notes}
use Rattle.render_tree.specs.Object.{RenderObject, object_look}
use Rattle.render_tree.specs.Plain.{offset_or, facts_of, laids_of, root_below}
use Rattle.render_tree.specs.Remarked.{HasNoNotes}
use Rattle.screen_form.specs.Remarks.{own_notes, notes_of, notes_in}
use Rattle.render_readers.specs.Shown.{laid_once, shown_laid, read_off}

pub not_true : (b : Bool) → not b ≡ true → b ≡ false
not_true true e = cc
not_true false e = refl

none_of : (number : ℕ) (notes : Notes) → notes ≡ no_notes → own_notes number notes ≡ []
none_of number notes e = ap (own_notes number) e

one_more : (shown : Bool) (at : Offset) (l : Laid) (ls : Laids) → notes_of l ≡ [] → notes_in ls ≡ [] → notes_in (if shown then more_laids at l ls else ls) ≡ []
one_more true at l ls e f = (λ i. e i ++ f i)
one_more false at l ls e f = f

module _ (t : Tree RenderObject) (quiet : HasNoNotes t) where
  own_none : (h : Handle) (o : RenderObject) (kids : Forest RenderObject) (n : TreeNode RenderObject) → node_at t h ≡ Some n → n.value ≡ o → notes_in (laids_of kids) ≡ [] → notes_of (laid o.number (object_look o) (facts_of o) (laids_of kids)) ≡ []
  own_none h o kids n at is below =
      ap (λ ns. ns ++ notes_in (laids_of kids)) (none_of o.number o.notes (quiet h o (ap (option_map (λ (m : TreeNode RenderObject). m.value)) at ∙ ap (λ (v : RenderObject). Some v) is))) ∙ below

  all_none : (p : Option Handle) (f : Forest RenderObject) → Stands (node_at t) p f → notes_in (laids_of f) ≡ []
  all_none p none stands = refl
  all_none p (tree h o kids rest) stands =
      one_more o.shown (offset_or o.offset) (laid o.number (object_look o) (facts_of o) (laids_of kids)) (laids_of rest)
      (own_none h o kids _ stands.0 refl (all_none (Some h) kids stands.1)) (all_none p rest stands.2)

  once_none : (b : Bool) (l : Laid) → notes_of l ≡ [] → read_off notes_of (if b then Some l else None) ≡ []
  once_none true l e = e
  once_none false l e = refl

  top_none : (p : Option Handle) (f : Forest RenderObject) → Stands (node_at t) p f → read_off notes_of (laid_once f) ≡ []
  top_none p none stands = refl
  top_none p (tree h o kids rest) stands =
      once_none (is_some o.frame) (laid o.number (object_look o) (facts_of o) (laids_of kids)) (own_none h o kids _ stands.0 refl (all_none (Some h) kids stands.1))

  root_none : (r : Option Handle) → IfSome r (λ h. Holds t h) → read_off notes_of (laid_once (root_below t r)) ≡ []
  root_none None holds = refl
  root_none (Some h) holds = top_none _ (subtree_at t h) holds.stands

  pub nothing_remarked : (r : Option Handle) → r ≡ t.root → IfSome r (λ h. Holds t h) → read_off notes_of (shown_laid t) ≡ []
  nothing_remarked r e holds = ap (λ x. read_off notes_of (laid_once (root_below t x))) (sym e) ∙ root_none r holds
