use Rattle.std.proofs.Common.{rules, ◌≡◌, ◌∙◌, ◌++◌, ℕ, List, Some, None, IfSome, [], get_or, option_map, option_and_then, refl, sym, ap, subst}
use Rattle.fx_expr.specs.declared.values.Value.{Value}
use Rattle.node_tree.specs.Forest.{Forest, set_value}
use Rattle.node_tree.specs.Forest.Forest.{none, tree}
use Rattle.node_tree.specs.Tree.{node_at, subtree_at}
use Rattle.node_tree.proofs.EditLemmas.{keeps_then}
use Rattle.widget_model.specs.declared.widgets.Widget.{Widget}
use Rattle.widget_model.specs.Plain.{PlainWidget, look_of}
use Rattle.widget_model.specs.Typed.{IsTypedWidget}
use Rattle.widget_model.specs.Update.{CanUpdate}
use Rattle.widget_model.specs.View.{plain_of, shared}
use Rattle.program_check.specs.CheckedView.{plain_checked}
use Rattle.template_build.specs.Program.{declarations_of}
use Rattle.build_form.specs.BuildRole.{composes, build_role_of}
use Rattle.build_form.specs.Program.{blueprint_of}
use Rattle.element_tree.specs.Edits.{with_widget}
use Rattle.element_tree.specs.Element.{Element, element_at, number_at}
use Rattle.element_tree.specs.Fields.{CanFollow}
use Rattle.build_walk.specs.Fresh.{ReadsItsNames}
use Rattle.build_owner.specs.Standing.{next_at}
use Rattle.renewed_builds.specs.Several.{flagged_in}
use Rattle.renewed_builds.specs.Regiving.{name_regiven}
use Rattle.renewed_builds.proofs.Changing.{zero_handle}
use Rattle.inherited.specs.Readers.{flagged, is_reader_below}
use Rattle.renewed_builds.proofs.Keeping.{flags_names, flags_numbers, keeps_elements, one_child, refused_many, refused_output, refused_name, no_widget, widget_same, output_same, output_gone}
use Rattle.renewed_builds.proofs.Regave.{can, clean_there, found_by, last_marks, now_there, regiven_so, read_theirs}
use Rattle.renewed_builds.proofs.Regiven.{Gives, at_number, follows, gives, b, f, left}
use Rattle.renewed_builds.proofs.Retaken.{number_live}
use Rattle.renewed_builds.proofs.regiving.regive.Goals as goal

pub returns-then-children-ne1-clause-refused : goal.returns-then-children-ne1-clause-refused
returns-then-children-ne1-clause-refused c = λ is.
    let t = c.args.t.now.tree in
    let h = c.args.h in
    let x = c.requires in
    let e = at_number (element_at t h) x.number x.at in
    let holds = c.walk_laws.ensures.holds t h c.number_laws.ensures.tree (number_live t h x.number (node_at t h) refl x.at) in
    let opened = c.child_laws.ensures.opened t h e.0 holds e.1 in
    (refl, refused_many t h e.0 c.children-children.result.now holds opened c.children-children.ensures.value c.if-children-ne1.true)

pub returns-in_default-clause-refused : goal.returns-in_default-clause-refused
returns-in_default-clause-refused c = λ is.
    let t = c.args.t.now.tree in
    let h = c.args.h in
    let x = c.requires in
    let hs = c.children-children.result.now in
    let k = get_or hs 0 zero_handle in
    let holds = c.walk_laws.ensures.holds t h c.number_laws.ensures.tree (number_live t h x.number (node_at t h) refl x.at) in
    let one = one_child t h hs holds c.children-children.ensures.value c.if-children-ne1.false in
    let said : None ≡ option_map (λ (v : Element). v.widget) (element_at t k) = search rules in
    absurd (no_widget (element_at t k) one.value one.value_is said)

pub returns-in_default-output-clause-refused : goal.returns-in_default-output-clause-refused
returns-in_default-output-clause-refused c = λ is.
    let t = c.args.t.now.tree in
    let h = c.args.h in
    let x = c.requires in
    let e = at_number (element_at t h) x.number x.at in
    let holds = c.walk_laws.ensures.holds t h c.number_laws.ensures.tree (number_live t h x.number (node_at t h) refl x.at) in
    let opened = c.child_laws.ensures.opened t h e.0 holds e.1 in
    let said : None ≡ option_and_then (λ (v : Element). v.output) (element_at t h) = search rules in
    (refl, refused_output t h e.0 opened (output_gone (element_at t h) e.0 e.1 said))

pub returns-in_default-name_regiven-clause-refused : goal.returns-in_default-name_regiven-clause-refused
returns-in_default-name_regiven-clause-refused c = λ is.
    let t = c.args.t.now.tree in
    let h = c.args.h in
    let x = c.requires in
    let hs = c.children-children.result.now in
    let k = get_or hs 0 zero_handle in
    let e = at_number (element_at t h) x.number x.at in
    let holds = c.walk_laws.ensures.holds t h c.number_laws.ensures.tree (number_live t h x.number (node_at t h) refl x.at) in
    let opened = c.child_laws.ensures.opened t h e.0 holds e.1 in
    let one = one_child t h hs holds c.children-children.ensures.value c.if-children-ne1.false in
    let v : PlainWidget = plain_of c.in-Some.was.now.value in
    let w : PlainWidget = plain_of c.in-Some-output.given.now.value in
    let v_said : Some v ≡ option_map (λ (y : Element). y.widget) (element_at t k) = search rules in
    let w_said : Some w ≡ option_and_then (λ (y : Element). y.output) (element_at t h) = search rules in
    let named : None ≡ name_regiven (plain_of c.deref.result.now) (plain_of c.deref-2.result.now) = search rules in
    let unnamed : name_regiven v w ≡ None = (λ i. name_regiven (plain_of (sym c.deref.ensures i)) (plain_of (sym c.deref-2.ensures i))) ∙ sym named in (
      refl,
      refused_name t h k e.0 one.value one.kids w (opened ∙ ap (λ (g : Forest Element). tree h e.0 g none) one.is)
          (output_same (element_at t h) e.0 w e.1 w_said)
          (subst (λ y. name_regiven y w ≡ None) (widget_same (element_at t k) one.value v one.value_is v_said) unnamed),
    )

pub update-requires : goal.update-requires
update-requires c = λ e at.
    let t = c.args.t.now.tree in
    let h = c.args.h in
    let x0 = c.requires in
    let hs = c.children-children.result.now in
    let k = get_or hs 0 zero_handle in
    let live = number_live t h x0.number (node_at t h) refl x0.at in
    let holds = c.walk_laws.ensures.holds t h c.number_laws.ensures.tree live in
    let one = one_child t h hs holds c.children-children.ensures.value c.if-children-ne1.false in
    let v : PlainWidget = plain_of c.in-Some.was.now.value in
    let w : PlainWidget = plain_of c.in-Some-output.given.now.value in
    let name = c.in-Some-name_regiven.name in
    let v_said : Some v ≡ option_map (λ (y : Element). y.widget) (element_at t k) = search rules in
    let w_said : Some w ≡ option_and_then (λ (y : Element). y.output) (element_at t h) = search rules in
    let named : name_regiven v w ≡ Some name =
    (λ i. name_regiven (plain_of (sym c.deref.ensures i)) (plain_of (sym c.deref-2.ensures i))) ∙ sym c.in-Some-name_regiven.ensures.name in
    let given = gives (λ y z. (c.same_means_equal.ensures.widgets y z).0) v w name named in
    let may : CanUpdate v w =
    subst (λ y. CanUpdate y w) (ap plain_of c.deref.ensures) (subst (CanUpdate (plain_of c.deref.result.now)) (ap plain_of c.deref-2.ensures) (c.in-Some-name_regiven.ensures.follows refl)) in
    let w_is : w ≡ shared c.in-Ok.given = sym (ap plain_of c.in-Ok.ensures.cases) in
    subst (CanFollow e.widget) w_is (subst (λ y. CanFollow y w) (widget_same (element_at t k) e v at v_said) (follows v w name given may))

pub add_flagged-requires : goal.add_flagged-requires
add_flagged-requires c =
    let t = c.args.t.now.tree in
    let h = c.args.h in
    let x0 = c.requires in
    let hs = c.children-children.result.now in
    let k = get_or hs 0 zero_handle in
    let live = number_live t h x0.number (node_at t h) refl x0.at in
    let holds = c.walk_laws.ensures.holds t h c.number_laws.ensures.tree live in
    let one = one_child t h hs holds c.children-children.ensures.value c.if-children-ne1.false in
    let u = c.update.new.self.tree in
    let s = c.mark_readers.new.t.tree in
    let new : PlainWidget = shared c.in-Ok.given in
    let writes = c.update.ensures.widget.live one.value one.value_is in
    let q = is_reader_below u k c.in-Some-name_regiven.name in
    let flags = c.mark_readers.ensures.flags in
    let is = c.flags_keep_forests.ensures.forest u s q (set_value k (with_widget new one.value) x0.stands.forest) flags (writes.plain x0.stands.forest x0.stands.is) in
    let number : number_at s k ≡ Some one.value.number =
    flags_numbers u s q flags k ∙ c.edits_keep_numbers.ensures.changed t u k k (with_widget new) c.update.ensures.widget (λ e. refl) ∙ ap (option_map (λ (e : Element). e.number)) one.value_is in
    c.walk_laws.ensures.holds s k (flagged q (set_value k (with_widget new one.value) x0.stands.forest), is) (number_live s k one.value.number (node_at s k) refl number)

pub returns-clause-regiven : goal.returns-clause-regiven
returns-clause-regiven c = λ x.
    let t = c.args.t.now.tree in
    let h = c.args.h in
    let x0 = c.requires in
    let hs = c.children-children.result.now in
    let k = get_or hs 0 zero_handle in
    let live = number_live t h x0.number (node_at t h) refl x0.at in
    let holds = c.walk_laws.ensures.holds t h c.number_laws.ensures.tree live in
    let one = one_child t h hs holds c.children-children.ensures.value c.if-children-ne1.false in
    let v : PlainWidget = plain_of c.in-Some.was.now.value in
    let w : PlainWidget = plain_of c.in-Some-output.given.now.value in
    let name = c.in-Some-name_regiven.name in
    let v_said : Some v ≡ option_map (λ (y : Element). y.widget) (element_at t k) = search rules in
    let w_said : Some w ≡ option_and_then (λ (y : Element). y.output) (element_at t h) = search rules in
    let named : name_regiven v w ≡ Some name =
    (λ i. name_regiven (plain_of (sym c.deref.ensures i)) (plain_of (sym c.deref-2.ensures i))) ∙ sym c.in-Some-name_regiven.ensures.name in
    let given = gives (λ y z. (c.same_means_equal.ensures.widgets y z).0) v w name named in
    let may : CanUpdate v w =
    subst (λ y. CanUpdate y w) (ap plain_of c.deref.ensures) (subst (CanUpdate (plain_of c.deref.result.now)) (ap plain_of c.deref-2.ensures) (c.in-Some-name_regiven.ensures.follows refl)) in
    let w_is : w ≡ shared c.in-Ok.given = sym (ap plain_of c.in-Ok.ensures.cases) in
    let u = c.update.new.self.tree in
    let s = c.mark_readers.new.t.tree in
    let new : PlainWidget = shared c.in-Ok.given in
    let writes = c.update.ensures.widget.live one.value one.value_is in
    let q = is_reader_below u k c.in-Some-name_regiven.name in
    let flags = c.mark_readers.ensures.flags in
    let C = plain_checked c.args.checked.now in
    let B = blueprint_of C in
    let e = at_number (element_at t h) x.number x.at in
    let opened = c.child_laws.ensures.opened t h e.0 holds e.1 in
    let checked = c.parts.ensures.checked.typed in
    let marks_left = left C t h x in
    let once = c.number_laws.ensures.once in
    let tells = c.standing_elements_are_known.ensures.tells C marks_left (Some x.tree) x.scrolled t x.stands in
    let component = c.first_components_stand.ensures.component B x.marks x.number (next_at t) x.root x.tree x.place x.ready x.first in
    let output : e.0.output ≡ Some new = output_same (element_at t h) e.0 w e.1 w_said ∙ ap (λ (y : PlainWidget). Some y) w_is in
    let gives_new : Gives one.value.widget new name = subst (λ y. Gives one.value.widget y name) w_is (subst (λ y. Gives y w name) (widget_same (element_at t k) one.value v one.value_is v_said) given) in
    let found = found_by C t h x (c.walk_laws.ensures.subtree t) once tells k e.0 new name e.1 e.2 opened live one output gives_new in
    let now_at = now_there t u k one.value one.kids new (c.walk_laws.ensures.subtree u) one.holds one.subtree
    (c.walk_laws.ensures.writes t u k k (with_widget new one.value) (subtree_at t k) one.holds writes.writes) in
    let clean = clean_there C t h x e.0 e.1 e.2 live in
    let fits = c.standing_elements_are_known.ensures.names C marks_left (Some x.tree) x.scrolled t k one.value checked x.stands one.value_is in
    let typed : (place : ℕ) (props : List Value) → build_role_of (look_of e.0.widget) ≡ composes place props → IfSome e.0.output (IsTypedWidget (declarations_of C)) =
    λ place props role. c.standing_elements_are_known.ensures.outputs C marks_left (Some x.tree) x.scrolled t h e.0 checked x.stands e.1 clean place props role in
    let reads : (z : PlainWidget) → IsTypedWidget (declarations_of C) z → ReadsItsNames B z = λ z typed_z. c.outputs_read_their_names.ensures.widgets C z checked typed_z in
    let subtree = c.walk_laws.ensures.subtree t in
    let theirs = read_theirs C t u s h x checked k e.0 one.value one.kids new name found subtree once writes now_at clean component tells fits typed reads in
    let may_regive = can C t u s h x checked k e.0 one.value one.kids new name found subtree once writes now_at clean component tells fits typed reads in
    let marks = last_marks C t u s h x checked k e.0 one.value one.kids new name found subtree once writes now_at clean component tells fits typed reads in
    let live_u = number_live u k one.value.number (node_at u k) refl
    (c.edits_keep_numbers.ensures.changed t u k k (with_widget new) c.update.ensures.widget (λ y. refl) ∙ ap (option_map (λ (y : Element). y.number)) one.value_is) in
    regiven_so C t u s h x checked k e.0 one.value one.kids new name found subtree once writes now_at clean component tells fits typed reads flags
    (λ g is. c.flags_keep_forests.ensures.forest u s q g flags is) (λ g. c.flags_keep_nodes.ensures x.scrolled q g) (c.flags_keep_forests.ensures.subtree u s q k flags)
    (λ g is. c.walk_laws.ensures.part u g k is live_u) live_u (λ g stores unflagged fresh. c.elements_tell_the_last_frame.ensures.held B marks B.defaults x.scrolled g stores unflagged fresh)
    (c.regiven_values_mark_readers.ensures.ready B x.marks x.number (next_at t) x.root x.tree x.place new name x.ready x.first theirs may_regive)
    (c.regiven_values_mark_readers.ensures.leads B x.marks x.number (next_at t) x.root x.tree x.place new name x.ready x.first theirs may_regive)
    (c.regiven_values_mark_readers.ensures.drawn B x.marks x.number x.tree x.place new name x.first may_regive)
    c.add_flagged.new.flagged.items (c.in-Ok-add_flagged.ensures ∙ ap (λ l. l ++ flagged_in (subtree_at s k)) c.new-readers.ensures.items)

pub returns-clause-keeps : goal.returns-clause-keeps
returns-clause-keeps c =
    let t = c.args.t.now.tree in
    let h = c.args.h in
    let x0 = c.requires in
    let hs = c.children-children.result.now in
    let k = get_or hs 0 zero_handle in
    let live = number_live t h x0.number (node_at t h) refl x0.at in
    let holds = c.walk_laws.ensures.holds t h c.number_laws.ensures.tree live in
    let one = one_child t h hs holds c.children-children.ensures.value c.if-children-ne1.false in
    let v : PlainWidget = plain_of c.in-Some.was.now.value in
    let w : PlainWidget = plain_of c.in-Some-output.given.now.value in
    let name = c.in-Some-name_regiven.name in
    let v_said : Some v ≡ option_map (λ (y : Element). y.widget) (element_at t k) = search rules in
    let w_said : Some w ≡ option_and_then (λ (y : Element). y.output) (element_at t h) = search rules in
    let named : name_regiven v w ≡ Some name =
    (λ i. name_regiven (plain_of (sym c.deref.ensures i)) (plain_of (sym c.deref-2.ensures i))) ∙ sym c.in-Some-name_regiven.ensures.name in
    let given = gives (λ y z. (c.same_means_equal.ensures.widgets y z).0) v w name named in
    let may : CanUpdate v w =
    subst (λ y. CanUpdate y w) (ap plain_of c.deref.ensures) (subst (CanUpdate (plain_of c.deref.result.now)) (ap plain_of c.deref-2.ensures) (c.in-Some-name_regiven.ensures.follows refl)) in
    let w_is : w ≡ shared c.in-Ok.given = sym (ap plain_of c.in-Ok.ensures.cases) in
    let u = c.update.new.self.tree in
    let s = c.mark_readers.new.t.tree in
    let new : PlainWidget = shared c.in-Ok.given in
    let writes = c.update.ensures.widget.live one.value one.value_is in
    let q = is_reader_below u k c.in-Some-name_regiven.name in
    let flags = c.mark_readers.ensures.flags in
    let type = (subst (CanUpdate one.value.widget) w_is (subst (λ y. CanUpdate y w) (widget_same (element_at t k) one.value v one.value_is v_said) may)).type in
    keeps_elements u s q flags t k one.value new one.value_is type writes

pub returns-clause-names : goal.returns-clause-names
returns-clause-names c = λ g names.
    let t = c.args.t.now.tree in
    let h = c.args.h in
    let x0 = c.requires in
    let hs = c.children-children.result.now in
    let k = get_or hs 0 zero_handle in
    let live = number_live t h x0.number (node_at t h) refl x0.at in
    let holds = c.walk_laws.ensures.holds t h c.number_laws.ensures.tree live in
    let one = one_child t h hs holds c.children-children.ensures.value c.if-children-ne1.false in
    let v : PlainWidget = plain_of c.in-Some.was.now.value in
    let w : PlainWidget = plain_of c.in-Some-output.given.now.value in
    let name = c.in-Some-name_regiven.name in
    let v_said : Some v ≡ option_map (λ (y : Element). y.widget) (element_at t k) = search rules in
    let w_said : Some w ≡ option_and_then (λ (y : Element). y.output) (element_at t h) = search rules in
    let named : name_regiven v w ≡ Some name =
    (λ i. name_regiven (plain_of (sym c.deref.ensures i)) (plain_of (sym c.deref-2.ensures i))) ∙ sym c.in-Some-name_regiven.ensures.name in
    let given = gives (λ y z. (c.same_means_equal.ensures.widgets y z).0) v w name named in
    let may : CanUpdate v w =
    subst (λ y. CanUpdate y w) (ap plain_of c.deref.ensures) (subst (CanUpdate (plain_of c.deref.result.now)) (ap plain_of c.deref-2.ensures) (c.in-Some-name_regiven.ensures.follows refl)) in
    let w_is : w ≡ shared c.in-Ok.given = sym (ap plain_of c.in-Ok.ensures.cases) in
    let u = c.update.new.self.tree in
    let s = c.mark_readers.new.t.tree in
    let new : PlainWidget = shared c.in-Ok.given in
    let writes = c.update.ensures.widget.live one.value one.value_is in
    let q = is_reader_below u k c.in-Some-name_regiven.name in
    let flags = c.mark_readers.ensures.flags in
    let may_new = subst (CanUpdate v) w_is may in
    flags_names u s q flags g
    (c.edits_keep_names.ensures.changed g t u k (with_widget new) c.update.ensures.widget (λ e at. sym (subst (λ y. CanUpdate y new) (widget_same (element_at t k) e v at v_said) may_new).key) names)

pub returns-clause-numbers : goal.returns-clause-numbers
returns-clause-numbers c = λ j.
    let t = c.args.t.now.tree in
    let h = c.args.h in
    let x0 = c.requires in
    let hs = c.children-children.result.now in
    let k = get_or hs 0 zero_handle in
    let live = number_live t h x0.number (node_at t h) refl x0.at in
    let holds = c.walk_laws.ensures.holds t h c.number_laws.ensures.tree live in
    let one = one_child t h hs holds c.children-children.ensures.value c.if-children-ne1.false in
    let u = c.update.new.self.tree in
    let s = c.mark_readers.new.t.tree in
    let new : PlainWidget = shared c.in-Ok.given in
    let writes = c.update.ensures.widget.live one.value one.value_is in
    let q = is_reader_below u k c.in-Some-name_regiven.name in
    let flags = c.mark_readers.ensures.flags in
    flags_numbers u s q flags j ∙ c.edits_keep_numbers.ensures.changed t u k j (with_widget new) c.update.ensures.widget (λ e. refl)

pub returns-clause-handles : goal.returns-clause-handles
returns-clause-handles c =
    let t = c.args.t.now.tree in
    let h = c.args.h in
    let x0 = c.requires in
    let hs = c.children-children.result.now in
    let k = get_or hs 0 zero_handle in
    let live = number_live t h x0.number (node_at t h) refl x0.at in
    let holds = c.walk_laws.ensures.holds t h c.number_laws.ensures.tree live in
    let one = one_child t h hs holds c.children-children.ensures.value c.if-children-ne1.false in
    let u = c.update.new.self.tree in
    let s = c.mark_readers.new.t.tree in
    let new : PlainWidget = shared c.in-Ok.given in
    let writes = c.update.ensures.widget.live one.value one.value_is in
    let q = is_reader_below u k c.in-Some-name_regiven.name in
    let flags = c.mark_readers.ensures.flags in
    keeps_then t.nodes u.nodes s.nodes writes.writes.handles flags.handles

pub returns-clause-root : goal.returns-clause-root
returns-clause-root c =
    let t = c.args.t.now.tree in
    let h = c.args.h in
    let x0 = c.requires in
    let hs = c.children-children.result.now in
    let k = get_or hs 0 zero_handle in
    let live = number_live t h x0.number (node_at t h) refl x0.at in
    let holds = c.walk_laws.ensures.holds t h c.number_laws.ensures.tree live in
    let one = one_child t h hs holds c.children-children.ensures.value c.if-children-ne1.false in
    let u = c.update.new.self.tree in
    let s = c.mark_readers.new.t.tree in
    let new : PlainWidget = shared c.in-Ok.given in
    let writes = c.update.ensures.widget.live one.value one.value_is in
    let q = is_reader_below u k c.in-Some-name_regiven.name in
    let flags = c.mark_readers.ensures.flags in
    flags.root ∙ writes.root
