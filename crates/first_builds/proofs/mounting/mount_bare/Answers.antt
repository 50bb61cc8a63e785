use Rattle.std.proofs.Common.{◌≡◌, rules, [], None, refl, sym, subst}
use Rattle.widget_model.specs.Plain.{look_of}
use Rattle.widget_model.specs.View.{shared}
use Rattle.build_form.specs.BuildRole.{build_role_of}
use Rattle.build_form.specs.WellBuilt.{FitFields}
use Rattle.build_form.proofs.Typing.{other_fields}
use Rattle.build_owner.specs.WalkView.{declared_by}
use Rattle.build_owner.proofs.Follows.{are_declared}
use Rattle.first_builds.specs.SpotView.{place_of}
use Rattle.first_builds.proofs.Parts.{hidden_mounts}
use Rattle.first_builds.proofs.mounting.mount_bare.Goals as goal

pub mount_element-requires-clause-free : goal.mount_element-requires-clause-free
mount_element-requires-clause-free c = c.requires.free

pub mount_element-requires-clause-fields : goal.mount_element-requires-clause-fields
mount_element-requires-clause-fields c =
    let w = shared c.args.widget.now in
    let none : c.new-fields.result.items ≡ [] = search rules in
    are_declared (declared_by c.args.from.now) w c.new-fields.result.items c.requires.widget
    (subst (FitFields (declared_by c.args.from.now) (build_role_of (look_of w))) (sym none) (other_fields (declared_by c.args.from.now) (build_role_of (look_of w)) c.requires.other))

pub returns : goal.returns
returns c =
    let none : c.new-fields.result.items ≡ [] = search rules in
    record {
      mounts = λ r. record {
        mounts = hidden_mounts [] (place_of c.args.spot.now) (shared c.args.widget.now) c.args.place c.args.t.now.tree c.mount_element.new.t.tree c.args.g.now c.mount_element.new.g c.in_ok-at.at None c.new-fields.result.items
            None none refl c.in_ok-at.ensures.element c.requires.hidden c.in_ok-at.ensures.noted r;
        none = refl;
      };
    }
