use Rattle.std.proofs.Common.{◌≡◌, ◌+◌, rules, arith, Some, None, refl, sym, ap, ◌∙◌}
use Rattle.widget_model.specs.Plain.{look_of, key_of}
use Rattle.widget_model.specs.View.{plain_of, shared}
use Rattle.build_form.specs.BuildRole.{build_role_of}
use Rattle.build_form.specs.Entering.{first_fields}
use Rattle.build_form.specs.Step.{stops, repeated_global_key}
use Rattle.element_tree.specs.Edits.{new_element}
use Rattle.element_tree.specs.Element.{made_count}
use Rattle.global_keys.specs.Claims.{claim_of}
use Rattle.global_keys.specs.Holders.{recorded}
use Rattle.global_keys.specs.Named.{global_in}
use Rattle.build_owner.specs.WalkView.{declared_by, program_of}
use Rattle.build_owner.proofs.Claims.{taken, fresh, repeated, meets_taken, meets_noted}
use Rattle.build_owner.proofs.Elements.{met_again}
use Rattle.build_owner.proofs.Holding.{held_beside, held_new, held_fresh, held_taken}
use Rattle.build_owner.proofs.Makings.{goes_on, is_made}
use Rattle.build_owner.proofs.Onward.{no_key, one_key, ready_more, ready_still, since_more, since_still}
use Rattle.build_owner.proofs.Owns.{owns_beside, owns_new, owns_taken, owns_fresh, element_beside, typed_taken, element_taken, new_made}
use Rattle.build_owner.proofs.owning.own.Goals as goal

-- ---- it is matched to an element

pub returns-in-Some-beside-clause-owned : goal.returns-in-Some-beside-clause-owned
returns-in-Some-beside-clause-owned c = λ f r s since olds same next.
    let w = shared c.args.arrival.now.widget in
    let none : global_in (key_of w) ≡ None = search rules in
    owns_beside c.kept_elements_are_known.ensures.node c.walk_laws.ensures.holds (declared_by c.args.from.now) f (program_of c.args.from.now) w c.args.arrival.now.place c.args.arrival.now.beside
    c.requires.widget c.args.t.now.tree c.root.ensures.tree r c.args.g.now (program_of c.args.from.now).defaults since s same c.kept_elements_are_known.ensures.live c.args.names.now.was.items
    c.in-Some-beside.h c.in-Some-beside.is c.requires.beside olds none next

pub returns-in-Some-beside-clause-element : goal.returns-in-Some-beside-clause-element
returns-in-Some-beside-clause-element c =
    element_beside c.kept_elements_are_known.ensures.node c.walk_laws.ensures.holds (declared_by c.args.from.now) (shared c.args.arrival.now.widget) None c.args.t.now.tree c.in-Some-beside.h
    c.args.arrival.now.beside c.root.ensures.tree c.in-Some-beside.is c.requires.beside

pub returns-in-Some-beside-clause-made : goal.returns-in-Some-beside-clause-made
returns-in-Some-beside-clause-made c = goes_on c.args.t.now.tree c.in-Some-beside.h c.in-Some-beside.h (Some c.in-Some-beside.h) refl

pub returns-in-Some-beside-clause-since : goal.returns-in-Some-beside-clause-since
returns-in-Some-beside-clause-since c = λ f r since. since

pub returns-in-Some-beside-clause-held : goal.returns-in-Some-beside-clause-held
returns-in-Some-beside-clause-held c = λ hs before.
    let w = shared c.args.arrival.now.widget in
    let none : global_in (key_of w) ≡ None = search rules in
    held_beside (declared_by c.args.from.now) c.args.t.now.tree c.args.g.now w c.args.arrival.now.beside c.in-Some-beside.h hs c.in-Some-beside.is c.requires.beside none before

pub returns-in-Some-beside-clause-keeps : goal.returns-in-Some-beside-clause-keeps
returns-in-Some-beside-clause-keeps c = λ k live. refl

-- ---- it is matched to none

pub returns-in_default-clause-owned : goal.returns-in_default-clause-owned
returns-in_default-clause-owned c = λ f r s since olds same next.
    let w = shared c.args.arrival.now.widget in
    let none : global_in (key_of w) ≡ None = search rules in
    owns_new c.kept_elements_are_known.ensures.node c.walk_laws.ensures.holds (declared_by c.args.from.now) f (program_of c.args.from.now) w c.args.arrival.now.place c.args.arrival.now.beside
    c.requires.widget c.args.t.now.tree c.root.ensures.tree r c.args.g.now (program_of c.args.from.now).defaults since s same c.args.names.now.was.items c.make.new.t.tree c.in_ok-at.at
    c.in_default-beside.is none next c.in_ok-at.ensures.made

pub returns-in_default-clause-element : goal.returns-in_default-clause-element
returns-in_default-clause-element c =
    let w = shared c.args.arrival.now.widget in
    new_made c.kept_elements_are_known.ensures.node c.walk_laws.ensures.holds (declared_by c.args.from.now) w None c.args.t.now.tree c.make.new.t.tree c.in_ok-at.at
    (first_fields (program_of c.args.from.now) (build_role_of (look_of w))) c.in_ok-at.ensures.fit c.in_ok-at.ensures.made

pub returns-in_default-clause-made : goal.returns-in_default-clause-made
returns-in_default-clause-made c = is_made c.args.t.now.tree c.make.new.t.tree c.in_ok-at.at _ c.in_ok-at.ensures.made refl

pub returns-in_default-clause-since : goal.returns-in_default-clause-since
returns-in_default-clause-since c = λ f r since.
    let e = new_element (made_count c.args.t.now.tree + 1) (shared c.args.arrival.now.widget) (first_fields (program_of c.args.from.now) (build_role_of (look_of (shared c.args.arrival.now.widget)))) in
    since_more c.args.t.now.tree c.make.new.t.tree c.in_ok-at.at e c.args.g.now c.args.g.now (program_of c.args.from.now).defaults f r c.in_ok-at.ensures.made c.keep_laws.ensures.again
    (c.keep_laws.ensures.loose c.args.t.now.tree c.make.new.t.tree c.in_ok-at.at e c.in_ok-at.ensures.made) (no_key c.args.g.now) since

pub returns-in_default-clause-held : goal.returns-in_default-clause-held
returns-in_default-clause-held c = λ hs before.
    let w = shared c.args.arrival.now.widget in
    let none : global_in (key_of w) ≡ None = search rules in
    let e = new_element (made_count c.args.t.now.tree + 1) w (first_fields (program_of c.args.from.now) (build_role_of (look_of w))) in
    held_new c.args.t.now.tree c.make.new.t.tree (c.keep_laws.ensures.loose c.args.t.now.tree c.make.new.t.tree c.in_ok-at.at e c.in_ok-at.ensures.made) c.in_ok-at.at e c.in_ok-at.ensures.made
    c.args.g.now hs none before

pub returns-in_default-clause-keeps : goal.returns-in_default-clause-keeps
returns-in_default-clause-keeps c = c.keep_laws.ensures.loose c.args.t.now.tree c.make.new.t.tree c.in_ok-at.at _ c.in_ok-at.ensures.made

pub returns-in_default-clause-ready : goal.returns-in_default-clause-ready
returns-in_default-clause-ready c =
    let e = new_element (made_count c.args.t.now.tree + 1) (shared c.args.arrival.now.widget) (first_fields (program_of c.args.from.now) (build_role_of (look_of (shared c.args.arrival.now.widget)))) in
    ready_more c.kept_elements_stay.ensures.node c.walk_laws.ensures.holds (declared_by c.args.from.now) c.args.t.now.tree c.make.new.t.tree c.in_ok-at.at e c.args.g.now c.args.g.now c.root.ensures.tree
    (c.keep_laws.ensures.loose c.args.t.now.tree c.make.new.t.tree c.in_ok-at.at e c.in_ok-at.ensures.made) c.in_ok-at.ensures.made
    (c.edit_laws.ensures.adds c.args.t.now.tree c.make.new.t.tree None 0 c.in_ok-at.at e c.in_ok-at.ensures.made) c.requires.widget refl (no_key c.args.g.now) c.requires.ready

pub returns-in_default-clause-room : goal.returns-in_default-clause-room
returns-in_default-clause-room c =
    let used = c.in_ok-at.ensures.made.used in
    let retired = c.in_ok-at.ensures.made.retired in
    omega (arith, used, retired)

-- ---- its key was met before

pub returns-in_ok-clone-in-Repeated-clause-fault : goal.returns-in_ok-clone-in-Repeated-clause-fault
returns-in_ok-clone-in-Repeated-clause-fault c = λ s same.
    let w = shared c.args.arrival.now.widget in
    let global : global_in (key_of w) ≡ Some c.in-Some.key.now = search rules in
    let again = repeated c.args.t.now.tree (recorded c.args.g.now c.in-Some.key.now) w (c.in-Repeated.ensures.claim ∙ ap (λ v. claim_of c.args.t.now.tree (recorded c.args.g.now c.in-Some.key.now) (plain_of v)) c.deref-2.ensures) in
    let copied : c.in_ok-clone-in-Repeated.field-0 ≡ c.in-Some.key.now = search rules in
    met_again w c.in-Some.key.now s c.args.g.now global same again ∙ ap (λ v. stops (repeated_global_key v)) (sym copied)

-- ---- it goes on from the element that had its key

pub climb-requires-clause-live : goal.climb-requires-clause-live
climb-requires-clause-live c =
    let w = shared c.args.arrival.now.widget in
    (typed_taken c.kept_elements_are_known.ensures.node c.walk_laws.ensures.holds (declared_by c.args.from.now) w None c.args.t.now.tree c.args.g.now c.in-Some.key.now c.in-Taken.h c.requires.ready.holders
    (taken c.args.t.now.tree (recorded c.args.g.now c.in-Some.key.now) w c.in-Taken.h (c.in-Taken.ensures.claim ∙ ap (λ v. claim_of c.args.t.now.tree (recorded c.args.g.now c.in-Some.key.now) (plain_of v)) c.deref-2.ensures))).0

pub climb-requires-clause-fits : goal.climb-requires-clause-fits
climb-requires-clause-fits c = c.requires.ready.fitting

pub returns-in_ok-around-in-Taken-clause-owned : goal.returns-in_ok-around-in-Taken-clause-owned
returns-in_ok-around-in-Taken-clause-owned c = λ f r s since olds same next.
    let w = shared c.args.arrival.now.widget in
    let global : global_in (key_of w) ≡ Some c.in-Some.key.now = search rules in
    let is = taken c.args.t.now.tree (recorded c.args.g.now c.in-Some.key.now) w c.in-Taken.h (c.in-Taken.ensures.claim ∙ ap (λ v. claim_of c.args.t.now.tree (recorded c.args.g.now c.in-Some.key.now) (plain_of v)) c.deref-2.ensures) in
    owns_taken c.kept_elements_are_known.ensures.node c.walk_laws.ensures.holds (declared_by c.args.from.now) f (program_of c.args.from.now) w c.args.arrival.now.place c.args.arrival.now.beside
    c.requires.widget c.args.t.now.tree c.root.ensures.tree r c.args.g.now (program_of c.args.from.now).defaults since s same c.in-Some.key.now global c.claim.new.self
    (meets_taken c.in-Some.key.now c.args.g.now c.claim.new.self c.in-Taken.h is.named c.in-Taken.ensures.recorded) c.climb.new.names.was.items (Some c.in_ok-around-in-Taken.around) c.in-Taken.h is
    c.requires.ready.holders next (c.in_ok-around-in-Taken.ensures.old f)

pub returns-in_ok-around-in-Taken-clause-element : goal.returns-in_ok-around-in-Taken-clause-element
returns-in_ok-around-in-Taken-clause-element c =
    let w = shared c.args.arrival.now.widget in
    element_taken c.kept_elements_are_known.ensures.node c.walk_laws.ensures.holds (declared_by c.args.from.now) w (Some c.in_ok-around-in-Taken.around) c.args.t.now.tree c.args.g.now c.in-Some.key.now
    c.in-Taken.h c.root.ensures.tree c.requires.ready.holders (taken c.args.t.now.tree (recorded c.args.g.now c.in-Some.key.now) w c.in-Taken.h (c.in-Taken.ensures.claim ∙ ap (λ v. claim_of c.args.t.now.tree (recorded c.args.g.now c.in-Some.key.now) (plain_of v)) c.deref-2.ensures))

pub returns-in_ok-around-in-Taken-clause-since : goal.returns-in_ok-around-in-Taken-clause-since
returns-in_ok-around-in-Taken-clause-since c = λ f r since.
    let is = taken c.args.t.now.tree (recorded c.args.g.now c.in-Some.key.now) (shared c.args.arrival.now.widget) c.in-Taken.h (c.in-Taken.ensures.claim ∙ ap (λ v. claim_of c.args.t.now.tree (recorded c.args.g.now c.in-Some.key.now) (plain_of v)) c.deref-2.ensures) in
    since_still c.args.t.now.tree c.args.g.now c.claim.new.self (program_of c.args.from.now).defaults f r
    (one_key c.in-Some.key.now c.args.g.now c.claim.new.self (meets_taken c.in-Some.key.now c.args.g.now c.claim.new.self c.in-Taken.h is.named c.in-Taken.ensures.recorded)) since

pub returns-in_ok-around-in-Taken-clause-made : goal.returns-in_ok-around-in-Taken-clause-made
returns-in_ok-around-in-Taken-clause-made c = goes_on c.args.t.now.tree c.in-Taken.h c.in-Taken.h (Some c.in-Taken.h) refl

pub returns-in_ok-around-in-Taken-clause-held : goal.returns-in_ok-around-in-Taken-clause-held
returns-in_ok-around-in-Taken-clause-held c = λ hs before.
    let d = declared_by c.args.from.now in
    let w = shared c.args.arrival.now.widget in
    let is = taken c.args.t.now.tree (recorded c.args.g.now c.in-Some.key.now) w c.in-Taken.h (c.in-Taken.ensures.claim ∙ ap (λ v. claim_of c.args.t.now.tree (recorded c.args.g.now c.in-Some.key.now) (plain_of v)) c.deref-2.ensures) in
    held_taken c.args.t.now.tree c.args.g.now c.claim.new.self c.in-Some.key.now w c.in-Taken.h is
    (meets_taken c.in-Some.key.now c.args.g.now c.claim.new.self c.in-Taken.h is.named c.in-Taken.ensures.recorded) c.in-Taken.ensures.recorded hs
    (typed_taken c.kept_elements_are_known.ensures.node c.walk_laws.ensures.holds d w None c.args.t.now.tree c.args.g.now c.in-Some.key.now c.in-Taken.h c.requires.ready.holders is).0 before

pub returns-in_ok-around-in-Taken-clause-keeps : goal.returns-in_ok-around-in-Taken-clause-keeps
returns-in_ok-around-in-Taken-clause-keeps c = λ k live. refl

pub returns-in_ok-around-in-Taken-clause-ready : goal.returns-in_ok-around-in-Taken-clause-ready
returns-in_ok-around-in-Taken-clause-ready c =
    let is = taken c.args.t.now.tree (recorded c.args.g.now c.in-Some.key.now) (shared c.args.arrival.now.widget) c.in-Taken.h (c.in-Taken.ensures.claim ∙ ap (λ v. claim_of c.args.t.now.tree (recorded c.args.g.now c.in-Some.key.now) (plain_of v)) c.deref-2.ensures) in
    ready_still c.kept_elements_stay.ensures.node c.walk_laws.ensures.holds (declared_by c.args.from.now) c.args.t.now.tree c.args.g.now c.claim.new.self c.root.ensures.tree
    (one_key c.in-Some.key.now c.args.g.now c.claim.new.self (meets_taken c.in-Some.key.now c.args.g.now c.claim.new.self c.in-Taken.h is.named c.in-Taken.ensures.recorded)) c.requires.ready

-- ---- its key is fresh

pub returns-in_ok-note-in-Fresh-clause-owned : goal.returns-in_ok-note-in-Fresh-clause-owned
returns-in_ok-note-in-Fresh-clause-owned c = λ f r s since olds same next.
    let w = shared c.args.arrival.now.widget in
    let global : global_in (key_of w) ≡ Some c.in-Some.key.now = search rules in
    let copied : c.in_ok-clone-in-Fresh.field-0 ≡ c.in-Some.key.now = search rules in
    let noted = rw copied at c.in_ok-note-in-Fresh.ensures.notes in
    owns_fresh c.kept_elements_are_known.ensures.node c.walk_laws.ensures.holds (declared_by c.args.from.now) f (program_of c.args.from.now) w c.args.arrival.now.place c.args.arrival.now.beside
    c.requires.widget c.args.t.now.tree c.root.ensures.tree r c.args.g.now (program_of c.args.from.now).defaults since s same c.in-Some.key.now global c.note.new.self
    (meets_noted c.in-Some.key.now c.args.g.now c.claim.new.self c.note.new.self c.in_ok-at-in-Fresh.at c.in-Fresh.ensures.recorded noted) c.args.names.now.was.items c.make-in-Fresh.new.t.tree c.in_ok-at-in-Fresh.at
    (fresh c.args.t.now.tree (recorded c.args.g.now c.in-Some.key.now) w (c.in-Fresh.ensures.claim ∙ ap (λ v. claim_of c.args.t.now.tree (recorded c.args.g.now c.in-Some.key.now) (plain_of v)) c.deref-2.ensures)) next c.in_ok-at-in-Fresh.ensures.made

pub returns-in_ok-note-in-Fresh-clause-element : goal.returns-in_ok-note-in-Fresh-clause-element
returns-in_ok-note-in-Fresh-clause-element c =
    let w = shared c.args.arrival.now.widget in
    new_made c.kept_elements_are_known.ensures.node c.walk_laws.ensures.holds (declared_by c.args.from.now) w None c.args.t.now.tree c.make-in-Fresh.new.t.tree c.in_ok-at-in-Fresh.at
    (first_fields (program_of c.args.from.now) (build_role_of (look_of w))) c.in_ok-at-in-Fresh.ensures.fit c.in_ok-at-in-Fresh.ensures.made

pub returns-in_ok-note-in-Fresh-clause-made : goal.returns-in_ok-note-in-Fresh-clause-made
returns-in_ok-note-in-Fresh-clause-made c = is_made c.args.t.now.tree c.make-in-Fresh.new.t.tree c.in_ok-at-in-Fresh.at _ c.in_ok-at-in-Fresh.ensures.made refl

pub returns-in_ok-note-in-Fresh-clause-since : goal.returns-in_ok-note-in-Fresh-clause-since
returns-in_ok-note-in-Fresh-clause-since c = λ f r since.
    let e = new_element (made_count c.args.t.now.tree + 1) (shared c.args.arrival.now.widget) (first_fields (program_of c.args.from.now) (build_role_of (look_of (shared c.args.arrival.now.widget)))) in
    let copied : c.in_ok-clone-in-Fresh.field-0 ≡ c.in-Some.key.now = search rules in
    let noted = rw copied at c.in_ok-note-in-Fresh.ensures.notes in
    since_more c.args.t.now.tree c.make-in-Fresh.new.t.tree c.in_ok-at-in-Fresh.at e c.args.g.now c.note.new.self (program_of c.args.from.now).defaults f r c.in_ok-at-in-Fresh.ensures.made c.keep_laws.ensures.again
    (c.keep_laws.ensures.loose c.args.t.now.tree c.make-in-Fresh.new.t.tree c.in_ok-at-in-Fresh.at e c.in_ok-at-in-Fresh.ensures.made)
    (one_key c.in-Some.key.now c.args.g.now c.note.new.self (meets_noted c.in-Some.key.now c.args.g.now c.claim.new.self c.note.new.self c.in_ok-at-in-Fresh.at c.in-Fresh.ensures.recorded noted)) since

pub returns-in_ok-note-in-Fresh-clause-held : goal.returns-in_ok-note-in-Fresh-clause-held
returns-in_ok-note-in-Fresh-clause-held c = λ hs before.
    let w = shared c.args.arrival.now.widget in
    let global : global_in (key_of w) ≡ Some c.in-Some.key.now = search rules in
    let copied : c.in_ok-clone-in-Fresh.field-0 ≡ c.in-Some.key.now = search rules in
    let noted = rw copied at c.in_ok-note-in-Fresh.ensures.notes in
    let e = new_element (made_count c.args.t.now.tree + 1) w (first_fields (program_of c.args.from.now) (build_role_of (look_of w))) in
    let is = fresh c.args.t.now.tree (recorded c.args.g.now c.in-Some.key.now) w (c.in-Fresh.ensures.claim ∙ ap (λ v. claim_of c.args.t.now.tree (recorded c.args.g.now c.in-Some.key.now) (plain_of v)) c.deref-2.ensures) in
    held_fresh c.args.t.now.tree c.make-in-Fresh.new.t.tree (c.keep_laws.ensures.loose c.args.t.now.tree c.make-in-Fresh.new.t.tree c.in_ok-at-in-Fresh.at e c.in_ok-at-in-Fresh.ensures.made)
    c.in_ok-at-in-Fresh.at e c.in_ok-at-in-Fresh.ensures.made c.args.g.now c.claim.new.self c.note.new.self c.in-Some.key.now is.unmet c.in-Fresh.ensures.recorded noted hs global before

pub returns-in_ok-note-in-Fresh-clause-keeps : goal.returns-in_ok-note-in-Fresh-clause-keeps
returns-in_ok-note-in-Fresh-clause-keeps c = c.keep_laws.ensures.loose c.args.t.now.tree c.make-in-Fresh.new.t.tree c.in_ok-at-in-Fresh.at _ c.in_ok-at-in-Fresh.ensures.made

pub returns-in_ok-note-in-Fresh-clause-ready : goal.returns-in_ok-note-in-Fresh-clause-ready
returns-in_ok-note-in-Fresh-clause-ready c =
    let e = new_element (made_count c.args.t.now.tree + 1) (shared c.args.arrival.now.widget) (first_fields (program_of c.args.from.now) (build_role_of (look_of (shared c.args.arrival.now.widget)))) in
    let copied : c.in_ok-clone-in-Fresh.field-0 ≡ c.in-Some.key.now = search rules in
    let noted = rw copied at c.in_ok-note-in-Fresh.ensures.notes in
    ready_more c.kept_elements_stay.ensures.node c.walk_laws.ensures.holds (declared_by c.args.from.now) c.args.t.now.tree c.make-in-Fresh.new.t.tree c.in_ok-at-in-Fresh.at e c.args.g.now c.note.new.self c.root.ensures.tree
    (c.keep_laws.ensures.loose c.args.t.now.tree c.make-in-Fresh.new.t.tree c.in_ok-at-in-Fresh.at e c.in_ok-at-in-Fresh.ensures.made) c.in_ok-at-in-Fresh.ensures.made
    (c.edit_laws.ensures.adds c.args.t.now.tree c.make-in-Fresh.new.t.tree None 0 c.in_ok-at-in-Fresh.at e c.in_ok-at-in-Fresh.ensures.made) c.requires.widget refl
    (one_key c.in-Some.key.now c.args.g.now c.note.new.self (meets_noted c.in-Some.key.now c.args.g.now c.claim.new.self c.note.new.self c.in_ok-at-in-Fresh.at c.in-Fresh.ensures.recorded noted)) c.requires.ready

pub returns-in_ok-note-in-Fresh-clause-room : goal.returns-in_ok-note-in-Fresh-clause-room
returns-in_ok-note-in-Fresh-clause-room c =
    let used = c.in_ok-at-in-Fresh.ensures.made.used in
    let retired = c.in_ok-at-in-Fresh.ensures.made.retired in
    omega (arith, used, retired)
