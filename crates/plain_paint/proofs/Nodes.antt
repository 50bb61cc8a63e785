-- What is painted of a node, from what the steps of the walk give.
use Rattle.std.proofs.Common.{◌≡◌, ◌≢◌, ℕ, ◌+◌, ◌<◌, ◌≤◌, Bool, false, not, ◌==◌, List, [], ◌∷◌, ◌++◌, length, drop, get_or, map, refl, sym, ap, ◌∙◌, rules}
use Rattle.std.proofs.lemmas.List.{append_assoc, append-nil}
use Rattle.fx_geom.specs.declared.shapes.Offset.{Offset}
use Rattle.fx_geom.specs.declared.shapes.Size.{Size}
use Rattle.fx_geom.specs.Offset.{offset_sum}
use Rattle.layer_tree.specs.LayerItem.{LayerItem, drawn, nested, items_of}
use Rattle.delegates.specs.Table.{Plug}
use Rattle.widget_model.specs.Look.{Look}
use Rattle.plain_tree.specs.declared.laid.Facts.{Facts}
use Rattle.plain_tree.specs.declared.laid.LaidChild.{LaidChild}
use Rattle.plain_tree.specs.Laid.{Laid, laid, Laids}
use Rattle.plain_tree.specs.LaidView.{laids_in}
use Rattle.screen_form.specs.declared.paint_role.PaintRole.{PaintRole}
use Rattle.screen_form.specs.declared.paint_role.PaintRole.TheVariants.{Hides, Passes, Layers}
use Rattle.screen_form.specs.OwnRecords.{own_records}
use Rattle.screen_form.specs.PaintRole.{paint_role}
use Rattle.screen_form.specs.Painted.{painted, painted_all, passed_on, point_in, has_child}
use Rattle.kind_paint.specs.PointBelow.{point_below}
use Rattle.plain_paint.specs.Layering.{set_aside, begun, ended}
use Rattle.screen_form.proofs.Unread.{painted-is}
use Rattle.plain_paint.proofs.Walks.{gathered_more, gathered_all}

-- whether there is a child, by the length of their list
pub some_child : (cs : List LaidChild) (none : Bool) → none ≡ (length cs == 0) → not none ≡ has_child (laids_in cs)
some_child [] none is = ap not is
some_child (c ∷ cs) none is = let some : (length (c ∷ cs) == 0) ≡ false = search rules in ap not (is ∙ some)

-- what comes of a layer that was begun and ended
comes : (b : PaintRole) (p : Offset) (paint : Offset → List LayerItem) (own old mid aside first inside last : List LayerItem)
    → mid ≡ old ++ own → aside ≡ set_aside b mid → first ≡ begun b mid → inside ≡ first ++ paint (point_below b p) → last ≡ ended b aside inside
    → b ≢ Hides → last ≡ old ++ (own ++ passed_on b p paint)
comes Hides p paint own old mid aside first inside last m a f i l seen = absurd (seen refl)
comes Passes p paint own old mid aside first inside last m a f i l seen =
    l ∙ i ∙ ap (λ x. x ++ paint p) (f ∙ m) ∙ append_assoc old own (paint p)
comes (Layers kind) p paint own old mid aside first inside last m a f i l seen =
    l
    ∙ ap (λ x. x ++ nested kind (items_of inside) ∷ []) (a ∙ m)
    ∙ ap (λ x. (old ++ own) ++ nested kind (items_of x) ∷ []) (i ∙ ap (λ x. x ++ paint (point_in kind p)) f)
    ∙ append_assoc old own (nested kind (items_of (paint (point_in kind p))) ∷ [])

module _ (cell : Size) (ds : List Plug) where
  all_joined : (q : Offset) (c : LaidChild) (cs : List LaidChild)
      → painted_all cell ds (laids_in (c ∷ cs)) q ≡ painted cell ds c.node (offset_sum q c.at) ++ painted_all cell ds (laids_in cs) q
  unfolding painted
  all_joined q c cs = refl

  all_none : (q : Offset) → painted_all cell ds (laids_in []) q ≡ []
  unfolding painted
  all_none q = refl

  module _ (n : ℕ) (look : Look) (facts : Facts) (cs : List LaidChild) (node : Laid) (p : Offset) (b : PaintRole) (some : Bool) (old mid : List LayerItem)
      (is_node : laid n look facts (laids_in cs) ≡ node) (is_some : some ≡ has_child (laids_in cs)) (is_role : b ≡ paint_role look facts.frame some p)
      (is_mid : mid ≡ old ++ map drawn (own_records cell ds look facts.frame p)) where
    node-is : map drawn (own_records cell ds look facts.frame p) ++ passed_on b p (λ q. painted_all cell ds (laids_in cs) q) ≡ painted cell ds node p
    node-is =
        ap (λ c. map drawn (own_records cell ds look facts.frame p) ++ passed_on c p (λ q. painted_all cell ds (laids_in cs) q))
        (is_role ∙ ap (λ s. paint_role look facts.frame s p) is_some)
        ∙ sym (painted-is cell ds n look facts (laids_in cs) p)
        ∙ ap (λ l. painted cell ds l p) is_node

    -- of a node that hides what is below it
    pub paints_itself : b ≡ Hides → mid ≡ old ++ painted cell ds node p
    paints_itself hidden =
        is_mid
        ∙ ap (λ l. old ++ l)
        (sym (append-nil (map drawn (own_records cell ds look facts.frame p)))
        ∙ ap (λ c. map drawn (own_records cell ds look facts.frame p) ++ passed_on c p (λ q. painted_all cell ds (laids_in cs) q)) (sym hidden)
        ∙ node-is)

    -- and of one that doesn't
    pub paints_all : b ≢ Hides → (from : Offset) → from ≡ point_below b p → (aside first inside last : List LayerItem)
        → aside ≡ set_aside b mid → first ≡ begun b mid → inside ≡ first ++ painted_all cell ds (laids_in cs) from → last ≡ ended b aside inside
        → last ≡ old ++ painted cell ds node p
    paints_all seen from is_from aside first inside last a f i l =
        comes b p (λ q. painted_all cell ds (laids_in cs) q) (map drawn (own_records cell ds look facts.frame p)) old mid aside first inside last
        is_mid a f (i ∙ ap (λ q. first ++ painted_all cell ds (laids_in cs) q) is_from) l seen
        ∙ ap (λ l. old ++ l) node-is

  -- one child more, and all of them
  pub paints_more : (q : Offset) (cs : List LaidChild) (i : ℕ) (c : LaidChild) (p : Offset) (old new whole : List LayerItem) → i < length cs → c ≡ get_or cs i c
      → p ≡ offset_sum q c.at → new ≡ old ++ painted cell ds c.node p → old ++ painted_all cell ds (laids_in (drop i cs)) q ≡ whole
      → new ++ painted_all cell ds (laids_in (drop (i + 1) cs)) q ≡ whole
  paints_more q cs i c p old new whole within is_c is_p is_new so_far =
      gathered_more (λ (d : LaidChild). painted cell ds d.node (offset_sum q d.at)) (λ ds'. painted_all cell ds (laids_in ds') q) (all_none q) (all_joined q)
      cs i c old new whole within is_c (is_new ∙ ap (λ r. old ++ painted cell ds c.node r) is_p) so_far

  pub paints_each : (q : Offset) (cs : List LaidChild) (i : ℕ) (old whole : List LayerItem) → length cs ≤ i
      → old ++ painted_all cell ds (laids_in (drop i cs)) q ≡ whole → old ≡ whole
  paints_each q cs i old whole past so_far =
      gathered_all (λ (d : LaidChild). painted cell ds d.node (offset_sum q d.at)) (λ ds'. painted_all cell ds (laids_in ds') q) (all_none q) (all_joined q)
      cs i old whole past so_far
