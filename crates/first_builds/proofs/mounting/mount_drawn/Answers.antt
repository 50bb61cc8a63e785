use Rattle.std.proofs.Common.{◌≡◌, rules, [], None, option_copied, refl, sym, subst}
use Rattle.widget_model.specs.Plain.{look_of}
use Rattle.widget_model.specs.View.{shared}
use Rattle.build_form.specs.BuildRole.{build_role_of}
use Rattle.build_form.specs.WellBuilt.{FitFields}
use Rattle.build_form.proofs.Typing.{other_fields}
use Rattle.render_tree.specs.Edits.{data_or_none}
use Rattle.build_owner.specs.WalkView.{declared_by}
use Rattle.build_owner.proofs.Follows.{are_declared}
use Rattle.first_builds.specs.SpotView.{place_of}
use Rattle.first_builds.proofs.Parts.{told_so, shown_mounts}
use Rattle.first_builds.proofs.mounting.mount_drawn.Goals as goal

pub mount-requires-clause-place : goal.mount-requires-clause-place
mount-requires-clause-place c = c.requires.above

pub mount-requires-clause-room : goal.mount-requires-clause-room
mount-requires-clause-room c = c.requires.room

pub mount_element-requires-clause-free : goal.mount_element-requires-clause-free
mount_element-requires-clause-free c = c.requires.free

pub mount_element-requires-clause-fields : goal.mount_element-requires-clause-fields
mount_element-requires-clause-fields c =
    let w = shared c.args.widget.now in
    let none : c.new-fields.result.items ≡ [] = search rules in
    are_declared (declared_by c.args.from.now) w c.new-fields.result.items c.requires.widget
    (subst (FitFields (declared_by c.args.from.now) (build_role_of (look_of w))) (sym none) (other_fields (declared_by c.args.from.now) (build_role_of (look_of w)) c.requires.other))

pub returns-clause-mounts : goal.returns-clause-mounts
returns-clause-mounts c =
    let w = shared c.args.widget.now in
    let spot = c.args.spot.now in
    let none : c.new-fields.result.items ≡ [] = search rules in
    record {
      mounts = shown_mounts [] (place_of spot) w c.args.place c.args.t.now.tree c.mount_element.new.t.tree c.args.g.now c.mount_element.new.g c.in_ok-at.at None c.new-fields.result.items None (data_or_none (option_copied spot.told))
          c.next_number-number.result c.args.r.now.tree c.mount.new.self.tree c.in_ok-k.k none refl (told_so spot.kind (option_copied spot.told) c.args.place c.requires.no_list) c.next_number-number.ensures c.in_ok-at.ensures.element
          (record { adds = c.in_ok-k.ensures.adds; inactive = c.mount.ensures.inactive; plain = c.in_ok-k.ensures.plain }) c.requires.shown c.in_ok-at.ensures.noted;
      none = refl;
    }
