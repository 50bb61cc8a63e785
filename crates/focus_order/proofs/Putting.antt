-- Spots that are put at their places one after another.
use Rattle.std.proofs.Common.{◌≡◌, ℕ, ◌+◌, ◌<◌, ◌≤◌, Option, Some, None, List, [], ◌∷◌, ◌++◌, length, drop, get_or, refl, sym, ap, ◌∙◌}
use Rattle.std.specs.BTreeSet.{insert_key}
use Rattle.fx_geom.specs.declared.shapes.Offset.{Offset}
use Rattle.fx_geom.specs.Offset.{offset_sum}
use Rattle.plain_tree.specs.Laid.{Laid, laid, Stood}
use Rattle.laid_cursor.specs.Opened.{opened, laids_at}
use Rattle.laid_cursor.proofs.Walking.{none_there, one_there, none_left}
use Rattle.screen_form.specs.declared.spot.Spot.{Spot}
use Rattle.screen_form.specs.declared.focus_role.FocusRole.{FocusRole}
use Rattle.screen_form.specs.declared.focus_role.FocusRole.TheVariants.{Hides, TakesFocus, Passes}
use Rattle.screen_form.specs.Spot.{spot_cmp}
use Rattle.screen_form.specs.FocusRole.{focus_role}
use Rattle.screen_form.specs.FocusOrder.{spot_at, spots_by, spots_of, spots_in, put_in}

put_in-append : (placed ss ts : List Spot) → put_in placed (ss ++ ts) ≡ put_in (put_in placed ss) ts
put_in-append placed [] ts = refl
put_in-append placed (s ∷ ss) ts = put_in-append (insert_key spot_cmp placed s) ss ts

-- the spots of what stands at places, one after another
module _ (at : Offset) (ps : List (Option Stood)) (i : ℕ) where
  pub put_none : (old whole : List Spot) → i < length ps → None ≡ get_or ps i None
      → put_in old (spots_in (laids_at (drop i ps)) at) ≡ whole → put_in old (spots_in (laids_at (drop (i + 1) ps)) at) ≡ whole
  put_none old whole within is so_far = ap (λ ls. put_in old (spots_in ls at)) (sym (none_there ps i within is)) ∙ so_far

  pub put_more : (c : Stood) (old new whole : List Spot) → i < length ps → Some c ≡ get_or ps i None → new ≡ put_in old (spots_of c.child (offset_sum at c.at))
      → put_in old (spots_in (laids_at (drop i ps)) at) ≡ whole → put_in new (spots_in (laids_at (drop (i + 1) ps)) at) ≡ whole
  unfolding spots_of
  put_more c old new whole within is_c is_new so_far =
      let rest = spots_in (laids_at (drop (i + 1) ps)) at in
      ap (λ l. put_in l rest) is_new
      ∙ sym (put_in-append old (spots_of c.child (offset_sum at c.at)) rest)
      ∙ ap (λ ls. put_in old (spots_in ls at)) (sym (one_there ps i c within is_c))
      ∙ so_far

  pub put_all : (old whole : List Spot) → length ps ≤ i → put_in old (spots_in (laids_at (drop i ps)) at) ≡ whole → old ≡ whole
  unfolding spots_of
  put_all old whole past so_far = ap (λ ls. put_in old (spots_in ls at)) (sym (none_left ps i past)) ∙ so_far

-- the spots of a node, from what the code's steps gave
opened_spots : (l : Laid) (at : Offset)
    → spots_of l at ≡ spots_by (focus_role (opened l).look (opened l).facts.frame) (spot_at (opened l).number at) (spots_in (opened l).below at)
unfolding spots_of
opened_spots (laid number look facts children) at = refl

module _ (l : Laid) (at : Offset) (old : List Spot) (role : FocusRole) (is_role : role ≡ focus_role (opened l).look (opened l).facts.frame) where
  abbrev below : List Spot
  below = spots_in (opened l).below at

  spots-is : spots_of l at ≡ spots_by role (spot_at (opened l).number at) below
  spots-is = opened_spots l at ∙ ap (λ r. spots_by r (spot_at (opened l).number at) below) (sym is_role)

  pub puts_hidden : role ≡ Hides → old ≡ put_in old (spots_of l at)
  puts_hidden is = sym (ap (put_in old) (spots-is ∙ ap (λ r. spots_by r (spot_at (opened l).number at) below) is))

  pub puts_passed : role ≡ Passes → (new : List Spot) → new ≡ put_in old below → new ≡ put_in old (spots_of l at)
  puts_passed is new is_new = is_new ∙ sym (ap (put_in old) (spots-is ∙ ap (λ r. spots_by r (spot_at (opened l).number at) below) is))

  pub puts_own : role ≡ TakesFocus → (own new : List Spot) → own ≡ insert_key spot_cmp old (spot_at (opened l).number at) → new ≡ put_in own below
      → new ≡ put_in old (spots_of l at)
  puts_own is own new is_own is_new =
      is_new ∙ ap (λ o. put_in o below) is_own ∙ sym (ap (put_in old) (spots-is ∙ ap (λ r. spots_by r (spot_at (opened l).number at) below) is))
