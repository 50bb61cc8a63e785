-- Items of layers as trees of numbers, by which a proof tells them apart, and how many there are in all.
use Rattle.std.specs.Prelude.{◌≡◌, ℕ, ◌+◌, List, [], ◌∷◌}
use Rattle.std.proofs.Common.{ap, refl, sym, subst, eq-eqb, true≢false}
use base.Stored.{Gv, gnil, gnum, gcons, num, Coded, coded_list}
use Rattle.fx_expr.specs.ExpCode.{first_part, other_parts, IsPair}
use Rattle.draw_records.specs.contracts.record.Record as record_row
use Rattle.layer_tree.specs.contracts.kind.LayerKind as kind_row
use Rattle.layer_tree.specs.LayerItem.{LayerItem, drawn, nested, LayerItems, no_items, more_items}

abbrev mutual
  pub item_code : LayerItem → Gv
  item_code (drawn r) = gcons (gnum 0) ((record_row.the_row).coded.code r)
  item_code (nested k es) = gcons (gnum 1) (gcons ((kind_row.the_row).coded.code k) (items_code es))

  pub items_code : LayerItems → Gv
  items_code no_items = gnil
  items_code (more_items e es) = gcons (item_code e) (items_code es)

mutual
  pub item_inj : (e f : LayerItem) → item_code e ≡ item_code f → e ≡ f
  item_inj (drawn r) (drawn s) p = ap drawn ((record_row.the_row).coded.inj r s (ap other_parts p))
  item_inj (nested k es) (nested l fs) p = λ i. nested ((kind_row.the_row).coded.inj k l (ap (λ g. first_part (other_parts g)) p) i) (items_inj es fs (ap (λ g. other_parts (other_parts g)) p) i)
  item_inj e f p = absurd (true≢false (sym (eq-eqb (num (first_part (item_code e))) (num (first_part (item_code f))) (ap (λ g. num (first_part g)) p))))

  pub items_inj : (es fs : LayerItems) → items_code es ≡ items_code fs → es ≡ fs
  items_inj no_items no_items p = refl
  items_inj (more_items e es) (more_items f fs) p = λ i. more_items (item_inj e f (ap first_part p) i) (items_inj es fs (ap other_parts p) i)
  items_inj no_items (more_items f fs) p = absurd (subst IsPair (sym p) tt)
  items_inj (more_items e es) no_items p = absurd (subst IsPair p tt)

abbrev pub coded_items : Coded (List LayerItem)
coded_items = coded_list (record { code = item_code; inj = item_inj })

-- how many items there are, nested ones too
abbrev mutual
  pub item_weight : LayerItem → ℕ
  item_weight (drawn r) = 1
  item_weight (nested k es) = 1 + items_weight es

  pub items_weight : LayerItems → ℕ
  items_weight no_items = 0
  items_weight (more_items e es) = item_weight e + items_weight es

abbrev pub weight : List LayerItem → ℕ
weight [] = 0
weight (e ∷ es) = item_weight e + weight es
