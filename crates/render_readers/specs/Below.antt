-- What is below a node stands at the places below it.
use Rattle.std.specs.Prelude.{◌≡◌, Bool, true, false, Option, Some, None, if◌then◌else◌, List, ◌∷◌}
use Rattle.std.proofs.Common.{refl, ap}
use Rattle.node_tree.specs.Forest.{Forest, below}
use Rattle.node_tree.specs.Forest.Forest.{none, tree}
use Rattle.plain_tree.specs.Laid.{Laids, more_laids, Stood, laid}
use Rattle.laid_cursor.specs.Opened.{opened, laids_at}
use Rattle.render_tree.specs.Object.{RenderObject, object_look}
use Rattle.render_tree.specs.Plain.{offset_or, facts_of, laids_of}
use Rattle.render_readers.specs.Places.{first_laid, places_in}

one_more : (shown : Bool) (s : Stood) (ls : Laids) (ps : List (Option Stood)) → ls ≡ laids_at ps
    → (if shown then more_laids s.at s.child ls else ls) ≡ laids_at ((if shown then Some s else None) ∷ ps)
one_more true s ls ps e = ap (more_laids s.at s.child) e
one_more false s ls ps e = e

pub laids_placed : (f : Forest RenderObject) → laids_of f ≡ laids_at (places_in f)
laids_placed none = refl
laids_placed (tree h o kids rest) =
    one_more o.shown (record { at = offset_or o.offset; child = laid o.number (object_look o) (facts_of o) (laids_of kids) }) (laids_of rest) (places_in rest) (laids_placed rest)

pub laid_below : (f : Forest RenderObject) → (opened (first_laid f)).below ≡ laids_at (places_in (below f))
laid_below none = refl
laid_below (tree h o kids rest) = laids_placed kids
