-- Marks for painting change nothing of what a layout reads.
use Rattle.std.proofs.Common.{◌≡◌, Bool, true, ◌&&◌, ◌||◌, List, refl, sym, ap, ◌∙◌, subst}
use Rattle.fx_handles.specs.declared.Handle.{Handle}
use Rattle.node_tree.specs.Forest.{Forest}
use Rattle.node_tree.specs.Forest.Forest.{none, tree}
use Rattle.plain_tree.specs.Render.{Render, render, Renders, more_renders}
use Rattle.tree_marks.specs.Marking.{Above, within}
use Rattle.tree_marks.specs.Marks.{listed, has_listed, some_climbs, sweep}
use Rattle.work_roles.specs.Place.{RegionPlace, at_root, below}
use Rattle.work_sets.specs.Region.{Judge, is_inside, reaches_out}
use Rattle.render_tree.specs.Marks.{paint_marks}
use Rattle.render_tree.specs.Object.{RenderObject, object_look}
use Rattle.render_tree.specs.Plain.{lazy_children, renders_of}
use Rattle.build_walk.specs.Changing.{render_over}
use Rattle.counted_work.specs.Inside.{FlagsInside, RootFlagsInside}

-- a node with these marks for painting
abbrev pub with_paint : Bool → Bool → RenderObject → RenderObject
with_paint flag mark o = record o { needs_paint = flag; paint_below = mark }

-- two forests that differ in marks for painting alone
abbrev pub PaintsDiffer : Forest RenderObject → Forest RenderObject → Type 0
PaintsDiffer none none = Unit {0}
PaintsDiffer none (tree k w below rest) = ⊥
PaintsDiffer (tree h v kids more) none = ⊥
PaintsDiffer (tree h v kids more) (tree k w below rest) =
    (h ≡ k) × ((flag : Bool) × (mark : Bool) × (w ≡ with_paint flag mark v)) × PaintsDiffer kids below × PaintsDiffer more rest

pub same_renders : (f g : Forest RenderObject) → PaintsDiffer f g → renders_of f ≡ renders_of g
same_renders none none d = refl
same_renders none (tree k w below rest) d = absurd d
same_renders (tree h v kids more) none d = absurd d
same_renders (tree h v kids more) (tree k w below rest) d =
    let kept : w ≡ with_paint d.1.0 d.1.1 v = d.1.2 in
    (λ i. more_renders (render v.number (object_look v) v.parent_data v.scroll (lazy_children v) (same_renders kids below d.2 i)) (same_renders more rest d.3 i))
    ∙ ap (λ (o : RenderObject). more_renders (render o.number (object_look o) o.parent_data o.scroll (lazy_children o) (renders_of below)) (renders_of rest)) (sym kept)

-- what holds of the node is so of it with other marks for painting
node_renders : (v w : RenderObject) (kids below : Forest RenderObject) (flag mark : Bool) → w ≡ with_paint flag mark v → PaintsDiffer kids below → render_over v kids ≡ render_over w below
node_renders v w kids below flag mark kept d =
    ap (λ (rs : Renders). render v.number (object_look v) v.parent_data v.scroll (lazy_children v) rs) (same_renders kids below d)
    ∙ ap (λ (o : RenderObject). render o.number (object_look o) o.parent_data o.scroll (lazy_children o) (renders_of below)) (sym kept)

module _ (judge : Judge) where
  abbrev Here : Bool → RegionPlace → RenderObject → Forest RenderObject → Type 0
  Here inside p o kids = (o.needs_layout ≡ true → inside ≡ true) × FlagsInside judge inside (below p (object_look o)) kids

  here_kept : (inside : Render → Bool) (p : RegionPlace) (v w : RenderObject) (kids below_w : Forest RenderObject) (flag mark : Bool) → w ≡ with_paint flag mark v → PaintsDiffer kids below_w
      → (FlagsInside judge (inside (render_over v kids)) (below p (object_look v)) kids → FlagsInside judge (inside (render_over v kids)) (below p (object_look v)) below_w)
      → Here (inside (render_over v kids)) p v kids → Here (inside (render_over w below_w)) p w below_w
  here_kept inside p v w kids below_w flag mark kept d go flags =
      subst (λ (r : Render). Here (inside r) p w below_w) (node_renders v w kids below_w flag mark kept d)
      (subst (λ (o : RenderObject). Here (inside (render_over v kids)) p o below_w) (sym kept) (flags.0, go flags.1))

  pub paints_inside : (above : Bool) (p : RegionPlace) (f g : Forest RenderObject) → PaintsDiffer f g → FlagsInside judge above p f → FlagsInside judge above p g
  paints_inside above p none none d flags = tt
  paints_inside above p none (tree k w below_w rest) d flags = absurd d
  paints_inside above p (tree h v kids more) none d flags = tt
  paints_inside above p (tree h v kids more) (tree k w below_w rest) d flags = (
    (λ shown. here_kept (λ r. is_inside judge above p r) p v w kids below_w d.1.0 d.1.1 d.1.2 d.2
        (λ under. paints_inside (is_inside judge above p (render_over v kids)) (below p (object_look v)) kids below_w d.2 under)
        (flags.0 (ap (λ (o : RenderObject). o.shown) (sym d.1.2) ∙ shown))),
    paints_inside above p more rest d.3 flags.1,
  )

  pub root_paints_inside : (f g : Forest RenderObject) → PaintsDiffer f g → RootFlagsInside judge f → RootFlagsInside judge g
  root_paints_inside none none d flags = tt
  root_paints_inside none (tree k w below_w rest) d flags = absurd d
  root_paints_inside (tree h v kids more) none d flags = tt
  root_paints_inside (tree h v kids more) (tree k w below_w rest) d flags =
      here_kept (λ r. is_inside judge (reaches_out judge at_root r) at_root r) at_root v w kids below_w d.1.0 d.1.1 d.1.2 d.2
      (λ under. paints_inside (is_inside judge (reaches_out judge at_root (render_over v kids)) at_root (render_over v kids)) (below at_root (object_look v)) kids below_w d.2 under) flags

pub swept_paints : (also : Bool) (hs : List Handle) (p : Above) (f : Forest RenderObject) → PaintsDiffer f (sweep paint_marks also hs p f)
swept_paints also hs p none = tt
swept_paints also hs p (tree k v kids rest) = (
  refl,
  (
    v.needs_paint || ((listed k hs || some_climbs paint_marks hs (within paint_marks p v) kids) && paint_marks.takes p.top v),
    v.paint_below || (has_listed hs kids || (also && listed k hs)),
    refl,
  ),
  swept_paints also hs (within paint_marks p v) kids,
  swept_paints also hs p rest,
)
