use Rattle.std.proofs.Common.{sym, subst}
use Rattle.widget_model.specs.View.{plain_of, look_in, shared}
use Rattle.build_form.specs.BuildRole.{build_role_of}
use Rattle.build_form.specs.WellBuilt.{FitFields}
use Rattle.element_tree.specs.Fields.{AreDeclared}
use Rattle.build_owner.specs.WalkView.{declared_by}
use Rattle.build_owner.proofs.Follows.{are_declared}
use Rattle.build_owner.proofs.owning.make.Goals as goal

pub insert_loose-requires : goal.insert_loose-requires
insert_loose-requires c =
    let fit = subst (λ v. FitFields (declared_by c.args.from.now) (build_role_of (look_in v.kind)) c.in_ok-fields.fields.items) c.deref.ensures c.in_ok-fields.ensures.fit in
    subst (λ v. AreDeclared (plain_of v) c.in_ok-fields.fields.items) (sym c.in_ok-clone.ensures.cases)
    (are_declared (declared_by c.args.from.now) (shared c.args.widget.now) c.in_ok-fields.fields.items c.requires.typed fit)
