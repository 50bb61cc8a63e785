-- Stale boundaries done again, over what two shelves keep.
use Rattle.std.proofs.Common.{◌≡◌, ◌<◌, ℕ, ◌+◌, Bool, true, false, ◌||◌, if◌then◌else◌, Option, Some, List, [], ◌∷◌, length, get_or, drop, map, refl, ap, sym, ◌∙◌, arith, true≢false}
use Rattle.std.proofs.lemmas.List.{drop_more, get_or-map, length-map}
use Rattle.fx_handles.specs.declared.Handle.{Handle}
use Rattle.handle_shelf.specs.Shelf.{Shelf, kept_at, with_kept}
use Rattle.layer_tree.specs.LayerItem.{LayerItem, LayerItems, drawn, nested, no_items, more_items}
use Rattle.kept_layers.specs.GroupPart.{GroupPart, GroupParts, record_part, layer_part, place_part, no_parts, more_parts, parts_of, fill, fill_all}
use Rattle.kept_layers.specs.KeptLayers.{KeptLayers, filled, or_nil}
use Rattle.kept_layers.specs.Steps.{Told, redo, redo_all, counted}
use Rattle.kept_layers.proofs.Redoing.{with_own}
use Rattle.paint_owner.specs.KeptParts.{unfilled, unfilled_all, has_place, some_place, any_place, parts_in}
use Rattle.paint_owner.specs.View.{part_of}
use Rattle.paint_owner.specs.declared.kept_parts.StoredParts.{StoredParts}
use Rattle.paint_owner.specs.declared.kept_parts.StoredParts.TheVariants as stored
use Rattle.paint_owner.specs.declared.parts.PaintPart.{PaintPart}
use Rattle.paint_owner.specs.declared.parts.PaintPart.TheVariants as part
use Rattle.paint_owner.specs.declared.parts.PartLayer.{PartLayer}
use Rattle.paint_owner.specs.PaintOwner.{kept_in}

-- ---- parts without a place

or_false : (a b : Bool) → (a || b) ≡ false → (a ≡ false) × (b ≡ false)
or_false true b e = absurd (true≢false e)
or_false false b e = (refl, e)

mutual
  fill_unfilled : (w : Handle → List LayerItem) (e : LayerItem) → fill w (unfilled e) ≡ e
  fill_unfilled w (drawn r) = refl
  fill_unfilled w (nested k es) = ap (nested k) (fill_unfilled_all w es)

  fill_unfilled_all : (w : Handle → List LayerItem) (es : LayerItems) → fill_all w (unfilled_all es) ≡ es
  fill_unfilled_all w no_items = refl
  fill_unfilled_all w (more_items e es) = λ i. more_items (fill_unfilled w e i) (fill_unfilled_all w es i)

-- the items of parts that are kept as items
pub filled_unfilled : (wholes : Handle → Option (List LayerItem)) (es : List LayerItem) → filled wholes (map unfilled es) ≡ es
filled_unfilled wholes [] = refl
filled_unfilled wholes (e ∷ es) = λ i. fill_unfilled (λ k. or_nil (wholes k)) e i ∷ filled_unfilled wholes es i

mutual
  unfill_filled : (w : Handle → List LayerItem) (p : GroupPart) → has_place p ≡ false → unfilled (fill w p) ≡ p
  unfill_filled w (record_part r) e = refl
  unfill_filled w (layer_part k ps) e = ap (layer_part k) (unfill_filled_all w ps e)
  unfill_filled w (place_part h at) e = absurd (true≢false e)

  unfill_filled_all : (w : Handle → List LayerItem) (ps : GroupParts) → some_place ps ≡ false → unfilled_all (fill_all w ps) ≡ ps
  unfill_filled_all w no_parts e = refl
  unfill_filled_all w (more_parts p ps) e =
      let parts = or_false (has_place p) (some_place ps) e in
      λ i. more_parts (unfill_filled w p parts.0 i) (unfill_filled_all w ps parts.1 i)

pub unfilled_filled : (wholes : Handle → Option (List LayerItem)) (ps : List GroupPart) → any_place ps ≡ false → map unfilled (filled wholes ps) ≡ ps
unfilled_filled wholes [] e = refl
unfilled_filled wholes (p ∷ ps) e =
    let parts = or_false (has_place p) (any_place ps) e in
    λ i. unfill_filled (λ k. or_nil (wholes k)) p parts.0 i ∷ unfilled_filled wholes ps parts.1 i

-- ---- one boundary

-- where it isn't flagged, its layer alone is put together anew
pub put_whole : (told : Handle → Told) (h : Handle) → (told h).flag ≡ false → (parts : Shelf (List GroupPart)) (wholes wholes1 : Shelf (List LayerItem)) (items : List LayerItem)
    → items ≡ filled (kept_at wholes) (or_nil (kept_at parts h)) → ((k : Handle) → kept_at wholes1 k ≡ with_kept h items (kept_at wholes) k)
    → kept_in parts wholes1 ≡ redo told h (kept_in parts wholes)
put_whole told h off parts wholes wholes1 items is put =
    (λ i. record {
      parts = kept_at parts;
      wholes = λ k. (put k ∙ ap (λ es. with_kept h es (kept_at wholes) k) is) i;
    })
    ∙ ap (λ (b : Bool). let ps : Handle → Option (List GroupPart) = if b then with_kept h (told h).group (kept_at parts) else kept_at parts in
    record { parts = ps; wholes = with_kept h (filled (kept_at wholes) (or_nil (ps h))) (kept_at wholes) }) (sym off)

-- and where it is, its group is painted
pub put_group : (told : Handle → Told) (h : Handle) → (told h).flag ≡ true → (group : List GroupPart) → group ≡ (told h).group → (kept : List GroupPart) → kept ≡ group
    → (parts parts1 : Shelf (List GroupPart)) (wholes wholes1 : Shelf (List LayerItem)) (items : List LayerItem)
    → items ≡ filled (kept_at wholes) group → ((k : Handle) → kept_at parts1 k ≡ with_kept h kept (kept_at parts) k)
    → ((k : Handle) → kept_at wholes1 k ≡ with_kept h items (kept_at wholes) k)
    → kept_in parts1 wholes1 ≡ redo told h (kept_in parts wholes)
put_group told h on group is_group kept is_kept parts parts1 wholes wholes1 items is put_parts put =
    let now : Handle → Option (List GroupPart) = with_kept h (told h).group (kept_at parts) in
    let own : now h ≡ Some (told h).group = with_own h (told h).group (kept_at parts) in
    let whole : items ≡ filled (kept_at wholes) (or_nil (now h)) = is ∙ ap (filled (kept_at wholes)) (is_group ∙ sym (ap or_nil own)) in
    (λ i. record {
      parts = λ k. (put_parts k ∙ ap (λ g. with_kept h g (kept_at parts) k) (is_kept ∙ is_group)) i;
      wholes = λ k. (put k ∙ ap (λ es. with_kept h es (kept_at wholes) k) whole) i;
    })
    ∙ ap (λ (b : Bool). let ps : Handle → Option (List GroupPart) = if b then with_kept h (told h).group (kept_at parts) else kept_at parts in
    record { parts = ps; wholes = with_kept h (filled (kept_at wholes) (or_nil (ps h))) (kept_at wholes) }) (sym on)

-- ---- one after another

pub redone_more : (told : Handle → Told) (hs : List Handle) (i : ℕ) (h : Handle) → i < length hs → h ≡ get_or hs i h → (s mid new : KeptLayers)
    → redo_all told (drop i hs) mid ≡ redo_all told hs s → new ≡ redo told h mid → redo_all told (drop (i + 1) hs) new ≡ redo_all told hs s
redone_more told hs i h within here s mid new so_far is =
    ap (redo_all told (drop (i + 1) hs)) is
    ∙ ap (λ k. redo_all told (drop (i + 1) hs) (redo told k mid)) here
    ∙ sym (ap (λ ks. redo_all told ks mid) (drop_more hs i h within)) ∙ so_far

pub counted_more : (cost : Handle → ℕ) (hs : List Handle) (i : ℕ) (h : Handle) → i < length hs → h ≡ get_or hs i h → (a b whole : ℕ)
    → a + counted cost (drop i hs) ≡ whole → b ≡ a + cost h → b + counted cost (drop (i + 1) hs) ≡ whole
counted_more cost hs i h within here a b whole so_far is =
    let more : counted cost (drop i hs) ≡ cost h + counted cost (drop (i + 1) hs) = ap (counted cost) (drop_more hs i h within) ∙ ap (λ k. cost k + counted cost (drop (i + 1) hs)) (sym here) in
    omega (arith, so_far, is, more)

-- ---- places in parts

pub some_any : (ps : List GroupPart) → some_place (parts_of ps) ≡ any_place ps
some_any [] = refl
some_any (p ∷ ps) = ap (λ b. has_place p || b) (some_any ps)

pub layer_place : (it : PaintPart) (l : PartLayer) → it ≡ part.Layer l → (b : Bool) → b ≡ any_place l.parts → b ≡ has_place (part_of it)
layer_place it l is b e = e ∙ sym (some_any l.parts) ∙ sym (ap (λ x. has_place (part_of x)) is)

module _ (xs : List PaintPart) (i : ℕ) (x : PaintPart) (within : i < length xs) (here : x ≡ get_or xs i x) where
  rest_is : any_place (drop i (map part_of xs)) ≡ (has_place (part_of x) || any_place (drop (i + 1) (map part_of xs)))
  rest_is =
      let among : i < length (map part_of xs) = omega (arith, within, length-map xs part_of) in
      let read : get_or (map part_of xs) i (part_of x) ≡ part_of x = get_or-map part_of xs i x (part_of x) within ∙ ap part_of (sym here) in
      ap any_place (drop_more (map part_of xs) i (part_of x) among) ∙ ap (λ p. has_place p || any_place (drop (i + 1) (map part_of xs))) read

  pub place_found : (b whole : Bool) → b ≡ has_place (part_of x) → b ≡ true → any_place (drop i (map part_of xs)) ≡ whole → true ≡ whole
  place_found b whole is on so_far = sym (rest_is ∙ ap (λ b. b || any_place (drop (i + 1) (map part_of xs))) (sym is ∙ on)) ∙ so_far

  pub place_not : (b whole : Bool) → b ≡ has_place (part_of x) → b ≡ false → any_place (drop i (map part_of xs)) ≡ whole → any_place (drop (i + 1) (map part_of xs)) ≡ whole
  place_not b whole is off so_far = sym (rest_is ∙ ap (λ b. b || any_place (drop (i + 1) (map part_of xs))) (sym is ∙ off)) ∙ so_far

-- parts that are stored as items
pub closed_items : (wholes : Handle → Option (List LayerItem)) (s : StoredParts) (es : List LayerItem) → s ≡ stored.Closed es → filled wholes (parts_in s) ≡ es
closed_items wholes s es e = ap (λ x. filled wholes (parts_in x)) e ∙ filled_unfilled wholes es
