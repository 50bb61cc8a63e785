-- Parts of groups as trees of numbers, by which a proof tells them apart, and how many there are in all.
use Rattle.std.specs.Prelude.{◌≡◌, ℕ, ◌+◌, List, [], ◌∷◌}
use Rattle.std.proofs.Common.{ap, refl, sym, subst, eq-eqb, true≢false}
use base.Stored.{Gv, gnil, gnum, gcons, num, Coded, coded_list}
use Rattle.fx_expr.specs.ExpCode.{first_part, other_parts, IsPair}
use Rattle.draw_records.specs.contracts.record.Record as record_row
use Rattle.layer_tree.specs.contracts.kind.LayerKind as kind_row
use Rattle.node_tree.specs.Tree.{handle_code}
use Rattle.plain_tree.specs.LaidCode.{coded_offset}
use Rattle.kept_layers.specs.GroupPart.{GroupPart, record_part, layer_part, place_part, GroupParts, no_parts, more_parts}

abbrev mutual
  pub part_code : GroupPart → Gv
  part_code (record_part r) = gcons (gnum 0) ((record_row.the_row).coded.code r)
  part_code (layer_part k es) = gcons (gnum 1) (gcons ((kind_row.the_row).coded.code k) (parts_code es))
  part_code (place_part h at) = gcons (gnum 2) (gcons (handle_code.code h) (coded_offset.code at))

  pub parts_code : GroupParts → Gv
  parts_code no_parts = gnil
  parts_code (more_parts e es) = gcons (part_code e) (parts_code es)

mutual
  pub part_inj : (e f : GroupPart) → part_code e ≡ part_code f → e ≡ f
  part_inj (record_part r) (record_part s) p = ap record_part ((record_row.the_row).coded.inj r s (ap other_parts p))
  part_inj (layer_part k es) (layer_part l fs) p = λ i. layer_part ((kind_row.the_row).coded.inj k l (ap (λ g. first_part (other_parts g)) p) i) (parts_inj es fs (ap (λ g. other_parts (other_parts g)) p) i)
  part_inj (place_part h at) (place_part k to) p = λ i. place_part (handle_code.inj h k (ap (λ g. first_part (other_parts g)) p) i) (coded_offset.inj at to (ap (λ g. other_parts (other_parts g)) p) i)
  part_inj e f p = absurd (true≢false (sym (eq-eqb (num (first_part (part_code e))) (num (first_part (part_code f))) (ap (λ g. num (first_part g)) p))))

  pub parts_inj : (es fs : GroupParts) → parts_code es ≡ parts_code fs → es ≡ fs
  parts_inj no_parts no_parts p = refl
  parts_inj (more_parts e es) (more_parts f fs) p = λ i. more_parts (part_inj e f (ap first_part p) i) (parts_inj es fs (ap other_parts p) i)
  parts_inj no_parts (more_parts f fs) p = absurd (subst IsPair (sym p) tt)
  parts_inj (more_parts e es) no_parts p = absurd (subst IsPair p tt)

abbrev pub coded_parts : Coded (List GroupPart)
coded_parts = coded_list (record { code = part_code; inj = part_inj })

-- how many parts there are, nested ones too
abbrev mutual
  pub part_weight : GroupPart → ℕ
  part_weight (record_part r) = 1
  part_weight (layer_part k es) = 1 + parts_weight es
  part_weight (place_part h at) = 1

  pub parts_weight : GroupParts → ℕ
  parts_weight no_parts = 0
  parts_weight (more_parts e es) = part_weight e + parts_weight es

abbrev pub weight : List GroupPart → ℕ
weight [] = 0
weight (e ∷ es) = part_weight e + weight es
