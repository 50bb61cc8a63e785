-- Laid nodes as trees of numbers, by which a proof tells them apart.
use Rattle.std.specs.Prelude.{◌≡◌}
use Rattle.std.proofs.Common.{ap, refl, sym, subst}
use base.Stored.{Gv, gnil, gcons, Coded, coded_ℕ}
use Rattle.fx_expr.specs.ExpCode.{first_part, other_parts, IsPair}
use Rattle.fx_geom.specs.contracts.shapes.Offset as offset
use Rattle.fx_geom.specs.declared.shapes.Offset.{Offset}
use Rattle.widget_model.specs.LookCode.{look_code, look_inj}
use Rattle.plain_tree.specs.contracts.laid.Facts as facts
use Rattle.plain_tree.specs.declared.laid.Facts.{Facts}
use Rattle.plain_tree.specs.Laid.{Laid, laid, Laids, no_laids, more_laids}

abbrev pub coded_facts : Coded Facts
coded_facts = (facts.the_row).coded

abbrev pub coded_offset : Coded Offset
coded_offset = (offset.the_row).coded

abbrev mutual
  pub laid_code : Laid → Gv
  laid_code (laid n l f cs) = gcons (coded_ℕ.code n) (gcons (look_code l) (gcons (coded_facts.code f) (laids_code cs)))

  pub laids_code : Laids → Gv
  laids_code no_laids = gnil
  laids_code (more_laids at l ls) = gcons (gcons (coded_offset.code at) (laid_code l)) (laids_code ls)

mutual
  pub laid_inj : (a b : Laid) → laid_code a ≡ laid_code b → a ≡ b
  laid_inj (laid n l f cs) (laid m k g ds) p = λ at.
      laid (coded_ℕ.inj n m (ap first_part p) at)
      (look_inj l k (ap (λ v. first_part (other_parts v)) p) at)
      (coded_facts.inj f g (ap (λ v. first_part (other_parts (other_parts v))) p) at)
      (laids_inj cs ds (ap (λ v. other_parts (other_parts (other_parts v))) p) at)

  pub laids_inj : (a b : Laids) → laids_code a ≡ laids_code b → a ≡ b
  laids_inj no_laids no_laids p = refl
  laids_inj (more_laids x l ls) (more_laids y k ks) p = λ at.
      more_laids (coded_offset.inj x y (ap (λ v. first_part (first_part v)) p) at)
      (laid_inj l k (ap (λ v. other_parts (first_part v)) p) at)
      (laids_inj ls ks (ap other_parts p) at)
  laids_inj no_laids (more_laids y k ks) p = absurd (subst IsPair (sym p) tt)
  laids_inj (more_laids x l ls) no_laids p = absurd (subst IsPair p tt)

abbrev pub coded_laid : Coded Laid
coded_laid = record { code = laid_code; inj = laid_inj }
