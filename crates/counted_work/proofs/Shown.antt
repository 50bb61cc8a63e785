-- Where nodes are, and what they remember of their last layout, stays where no part of a node changes that is shown.
use Rattle.std.proofs.Common.{◌≡◌, true, IsSome, Some, List, sym, ◌∙◌, subst}
use Rattle.fx_geom.specs.Offset.{origin}
use Rattle.delegates.specs.Table.{Plug}
use Rattle.node_tree.specs.Forest.{Forest}
use Rattle.node_tree.specs.Forest.Forest.{none, tree}
use Rattle.plain_tree.specs.Laid.{Laid}
use Rattle.layout_form.specs.Layout.{delegate_of, is_plugged}
use Rattle.layout_owner.specs.Roots.{IsPlaced}
use Rattle.paint_owner.specs.Settled.{IsRootShown}
use Rattle.render_tree.specs.Object.{RenderObject}
use Rattle.render_tree.specs.Plain.{laid_of}
use Rattle.screen_owner.proofs.Showing.{Part, parts, same_laid_of}
use Rattle.counted_work.specs.Shows.{ArePutSo}

abbrev Placed : Forest Part → Type 0
Placed none = ⊥
Placed (tree h p below rest) = (p.shown ≡ true) × (p.offset ≡ Some origin)

placed_parts : (f : Forest RenderObject) → IsPlaced f → Placed (parts f)
placed_parts none placed = placed
placed_parts (tree h o below rest) placed = placed

parts_placed : (f : Forest RenderObject) → Placed (parts f) → IsPlaced f
parts_placed none placed = placed
parts_placed (tree h o below rest) placed = placed

pub same_placed : (f g : Forest RenderObject) → parts g ≡ parts f → IsPlaced f → IsPlaced g
same_placed f g e placed = parts_placed g (subst Placed (sym e) (placed_parts f placed))

pub placed_root : (f : Forest RenderObject) → IsPlaced f → IsRootShown f
placed_root none placed = placed
placed_root (tree h o below rest) placed = placed.0

module _ (delegates : List Plug) where
  abbrev Put : Forest Part → Type 0
  Put none = Unit {0}
  Put (tree h p below rest) = (p.shown ≡ true → ((p.once ≡ true) × IsSome p.offset × (p.facts.plugged ≡ is_plugged delegates (delegate_of p.look))) × Put below) × Put rest

  put_parts : (f : Forest RenderObject) → ArePutSo delegates f → Put (parts f)
  put_parts none put = tt
  put_parts (tree h o below rest) put = ((λ shown. let here = put.0 shown in ((here.0.framed, here.0.placed, here.0.plugged), put_parts below here.1)), put_parts rest put.1)

  parts_put : (f : Forest RenderObject) → Put (parts f) → ArePutSo delegates f
  parts_put none put = tt
  parts_put (tree h o below rest) put = (
    (λ shown. let here = put.0 shown in (record { framed = here.0.0; placed = here.0.1; plugged = here.0.2 }, parts_put below here.1)),
    parts_put rest put.1,
  )

  pub same_put : (f g : Forest RenderObject) → parts g ≡ parts f → ArePutSo delegates f → ArePutSo delegates g
  same_put f g e put = parts_put g (subst Put (sym e) (put_parts f put))

pub same_laid_tree : (last : Laid) (f g : Forest RenderObject) → parts g ≡ parts f → laid_of f ≡ Some last → laid_of g ≡ Some last
same_laid_tree last f g e is = same_laid_of f g e ∙ is
