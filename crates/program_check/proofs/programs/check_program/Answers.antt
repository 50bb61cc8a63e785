use Rattle.std.proofs.Common.{◌≤◌, subst, sym, arith}
use Rattle.fx_geom.specs.declared.shapes.Size.{Size}
use Rattle.program_form.specs.ProgramView.{plain_program}
use Rattle.program_check.specs.CheckedView.{plain_checked}
use Rattle.program_check.proofs.TypedPrograms.{program-typed}
use Rattle.program_check.proofs.programs.check_program.Goals as goal

pub of-requires : goal.of-requires
of-requires c =
    let parts = c.in_ok-parts.parts in
    let same = c.in_ok-parts.ensures in
    record {
      typed = program-typed (plain_program c.args.p) (plain_checked parts) same.answer;
      version = (omega (arith, same.version, c.args.p.first_version), omega (arith, same.version, c.args.p.last_version));
      width = (
        subst (λ (s : Size). 1 ≤ s.w) (sym same.view) c.args.p.view_has_width,
        subst (λ (s : Size). s.w ≤ 16777216) (sym same.view) c.args.p.width_in_range,
      );
      height = (
        subst (λ (s : Size). 1 ≤ s.h) (sym same.view) c.args.p.view_has_height,
        subst (λ (s : Size). s.h ≤ 16777216) (sym same.view) c.args.p.height_in_range,
      );
      decls = same.decls;
    }
