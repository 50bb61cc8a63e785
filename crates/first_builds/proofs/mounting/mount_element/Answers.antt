use Rattle.std.proofs.Common.{option_map, refl, sym, subst}
use Rattle.widget_model.specs.Plain.{key_of}
use Rattle.widget_model.specs.View.{plain_of, shared}
use Rattle.element_tree.specs.Fields.{AreDeclared}
use Rattle.global_keys.specs.Named.{global_in}
use Rattle.global_keys.proofs.Naming.{kept_names, added_keys, noted_names}
use Rattle.node_tree.proofs.EditLaws.{adds_keep}
use Rattle.first_builds.specs.Mounts.{MountsNode, NotesKey, new_element}
use Rattle.first_builds.proofs.Noting.{noted_by}
use Rattle.first_builds.proofs.mounting.mount_element.Goals as goal

pub mount-requires-clause-place : goal.mount-requires-clause-place
mount-requires-clause-place c = c.requires.free.place

pub mount-requires-clause-room : goal.mount-requires-clause-room
mount-requires-clause-room c = c.requires.free.room

pub mount-requires-clause-fields : goal.mount-requires-clause-fields
mount-requires-clause-fields c = subst (λ v. AreDeclared (plain_of v) c.args.fields.items) (sym c.in_ok-clone.ensures.cases) c.requires.fields

pub returns-clause-element : goal.returns-clause-element
returns-clause-element c =
    subst (λ v. MountsNode c.args.t.now.tree c.mount.new.self.tree c.args.spot.now.parent c.in_ok-at.at (new_element c.args.t.now.tree (plain_of v) c.args.place c.args.fields.items (option_map shared c.args.output) c.args.render))
    c.in_ok-clone.ensures.cases (record { adds = c.in_ok-at.ensures.adds; inactive = c.mount.ensures.inactive; plain = c.in_ok-at.ensures.plain })

pub returns-clause-noted : goal.returns-clause-noted
returns-clause-noted c =
    let w = shared c.args.widget.now in
    let free = c.requires.free in
    let e = new_element c.args.t.now.tree w c.args.place c.args.fields.items (option_map shared c.args.output) c.args.render in
    let m = subst (λ v. MountsNode c.args.t.now.tree c.mount.new.self.tree c.args.spot.now.parent c.in_ok-at.at (new_element c.args.t.now.tree (plain_of v) c.args.place c.args.fields.items (option_map shared c.args.output) c.args.render))
    c.in_ok-clone.ensures.cases (record { adds = c.in_ok-at.ensures.adds; inactive = c.mount.ensures.inactive; plain = c.in_ok-at.ensures.plain }) in
    noted_by w c.args.g.now c.note.new.g c.args.t.now.tree c.mount.new.self.tree c.in_ok-at.at free.names free.met free.fresh
    (λ none. kept_names c.args.g.now c.args.t.now.tree c.mount.new.self.tree
    (added_keys c.args.t.now.tree c.mount.new.self.tree c.args.spot.now.parent _ c.in_ok-at.at e m.adds (adds_keep c.args.t.now.tree c.mount.new.self.tree c.args.spot.now.parent _ c.in_ok-at.at e m.adds) none) free.names)
    (λ k key alone notes. noted_names c.args.g.now c.note.new.g c.args.t.now.tree c.mount.new.self.tree c.args.spot.now.parent _ c.in_ok-at.at e k m.adds
    (adds_keep c.args.t.now.tree c.mount.new.self.tree c.args.spot.now.parent _ c.in_ok-at.at e m.adds) key alone notes free.names)
    (global_in (key_of w)) refl (subst (λ v. NotesKey (global_in (key_of (plain_of v))) c.args.g.now c.note.new.g c.in_ok-at.at) c.deref.ensures c.in_ok-note.ensures)
