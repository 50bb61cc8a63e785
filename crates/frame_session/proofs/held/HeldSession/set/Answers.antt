use Rattle.std.proofs.Common.{◌≡◌, ◌∙◌, List, Some, None, Ok, Err, ap, sym, map, option_map, slice_set, ◌++◌, ◌∷◌, [], rules}
use Rattle.fx_expr.specs.declared.values.Value.{Value}
use Rattle.fx_expr.specs.Value.{type_of}
use Rattle.plain_tree.specs.At.{changed_at, having_fields}
use Rattle.plain_tree.specs.PlainNode.{fields_of}
use Rattle.widget_model.specs.Plain.{look_of}
use Rattle.program_check.specs.CheckedView.{plain_checked}
use Rattle.template_build.specs.Program.{declarations_of}
use Rattle.screen_owner.specs.Screen.{KeptScreen, shown_in}
use Rattle.frame_owner.specs.Frame.{next_in}
use Rattle.session_form.specs.Changing.{set_line, set_to, with_field}
use Rattle.session_form.specs.FieldValue.{value_read}
use Rattle.session_form.specs.Handlers.{node_in}
use Rattle.session_form.specs.Outcome.{quietly, refused, end_of}
use Rattle.session_form.specs.declared.refusal.Refusal.TheVariants.{NoNode, WrongType}
use Rattle.frame_session.proofs.StandsLemmas.{stands_by}
use Rattle.frame_session.proofs.OwnerLemmas.{with_owner, widget_there, node_missing, sound_after, sound_set}
use Rattle.frame_session.proofs.LineLemmas.{set_nowhere, field_at, set_may_lack, built_in, on_err, may_by}
use Rattle.frame_session.proofs.held.HeldSession.set.Goals as goal

pub returns-in_default-clause-state : goal.returns-in_default-clause-state
returns-in_default-clause-state c ds s h = stands_by c.args.self.now ds s (set_line c.args.number c.args.field.now c.args.value.now s) (refused NoNode) (set_nowhere s c.args.number c.args.field.now c.args.value.now (node_missing (node_in s.tree c.args.number) c.widget.result c.in_default.is (c.widget.ensures s.program ds s.marks s.tree h.tree))) h

pub returns-in_default-clause-end : goal.returns-in_default-clause-end
returns-in_default-clause-end c ds s h = sym (ap end_of (set_nowhere s c.args.number c.args.field.now c.args.value.now (node_missing (node_in s.tree c.args.number) c.widget.result c.in_default.is (c.widget.ensures s.program ds s.marks s.tree h.tree))))

pub returns-in-Err-clause-state : goal.returns-in-Err-clause-state
returns-in-Err-clause-state c ds s h =
    let m = widget_there (node_in s.tree c.args.number) c.widget.result c.in-Some.widget c.deref.result.now c.in-Some.is (c.widget.ensures s.program ds s.marks s.tree h.tree) c.deref.ensures in
    let same = c.fields-now.ensures.there s.program ds s.marks s.tree m.0 h.tree m.1 in
    let line = field_at s m.0 c.deref.result.now c.fields-now.result.now c.args.number c.args.field.now c.get.result.now c.args.value.now (Err c.in-Err.refusal) m.1 m.2 same c.get.ensures.bytes c.in-Err.ensures.set in
    stands_by c.args.self.now ds s (set_line c.args.number c.args.field.now c.args.value.now s) (refused c.in-Err.refusal) line h

pub returns-in-Err-clause-end : goal.returns-in-Err-clause-end
returns-in-Err-clause-end c ds s h =
    let m = widget_there (node_in s.tree c.args.number) c.widget.result c.in-Some.widget c.deref.result.now c.in-Some.is (c.widget.ensures s.program ds s.marks s.tree h.tree) c.deref.ensures in
    let same = c.fields-now.ensures.there s.program ds s.marks s.tree m.0 h.tree m.1 in
    let line = field_at s m.0 c.deref.result.now c.fields-now.result.now c.args.number c.args.field.now c.get.result.now c.args.value.now (Err c.in-Err.refusal) m.1 m.2 same c.get.ensures.bytes c.in-Err.ensures.set in
    sym (ap end_of line)

pub returns-in_err-value-clause-memory : goal.returns-in_err-value-clause-memory
returns-in_err-value-clause-memory c ds s h =
    let m = widget_there (node_in s.tree c.args.number) c.widget.result c.in-Some.widget c.deref.result.now c.in-Some.is (c.widget.ensures s.program ds s.marks s.tree h.tree) c.deref.ensures in
    let same = c.fields-now.ensures.there s.program ds s.marks s.tree m.0 h.tree m.1 in
    let line = field_at s m.0 c.deref.result.now c.fields-now.result.now c.args.number c.args.field.now c.get.result.now c.args.value.now (Ok c.in-Ok.found) m.1 m.2 same c.get.ensures.bytes c.in-Ok.ensures.set in
    on_err _ (may_by (set_line c.args.number c.args.field.now c.args.value.now s) _ line (set_may_lack c.args.number c.in-Ok.found.0 (value_read c.in-Ok.found.1 c.args.value.now) s))

pub returns-in_default-2-clause-state : goal.returns-in_default-2-clause-state
returns-in_default-2-clause-state c ds s h =
    let m = widget_there (node_in s.tree c.args.number) c.widget.result c.in-Some.widget c.deref.result.now c.in-Some.is (c.widget.ensures s.program ds s.marks s.tree h.tree) c.deref.ensures in
    let same = c.fields-now.ensures.there s.program ds s.marks s.tree m.0 h.tree m.1 in
    let line = field_at s m.0 c.deref.result.now c.fields-now.result.now c.args.number c.args.field.now c.get.result.now c.args.value.now (Ok c.in-Ok.found) m.1 m.2 same c.get.ensures.bytes c.in-Ok.ensures.set in
    let read : value_read c.in-Ok.found.1 c.args.value.now ≡ None = search rules in
    let wrong = line ∙ ap (λ v. set_to c.args.number c.in-Ok.found.0 v s) read in
    stands_by c.args.self.now ds s (set_line c.args.number c.args.field.now c.args.value.now s) (refused WrongType) wrong h

pub returns-in_default-2-clause-end : goal.returns-in_default-2-clause-end
returns-in_default-2-clause-end c ds s h =
    let m = widget_there (node_in s.tree c.args.number) c.widget.result c.in-Some.widget c.deref.result.now c.in-Some.is (c.widget.ensures s.program ds s.marks s.tree h.tree) c.deref.ensures in
    let same = c.fields-now.ensures.there s.program ds s.marks s.tree m.0 h.tree m.1 in
    let line = field_at s m.0 c.deref.result.now c.fields-now.result.now c.args.number c.args.field.now c.get.result.now c.args.value.now (Ok c.in-Ok.found) m.1 m.2 same c.get.ensures.bytes c.in-Ok.ensures.set in
    let read : value_read c.in-Ok.found.1 c.args.value.now ≡ None = search rules in
    let wrong = line ∙ ap (λ v. set_to c.args.number c.in-Ok.found.0 v s) read in
    sym (ap end_of wrong)

pub returns-in_err-fields-clause-memory : goal.returns-in_err-fields-clause-memory
returns-in_err-fields-clause-memory c ds s h =
    let m = widget_there (node_in s.tree c.args.number) c.widget.result c.in-Some.widget c.deref.result.now c.in-Some.is (c.widget.ensures s.program ds s.marks s.tree h.tree) c.deref.ensures in
    let same = c.fields-now.ensures.there s.program ds s.marks s.tree m.0 h.tree m.1 in
    let line = field_at s m.0 c.deref.result.now c.fields-now.result.now c.args.number c.args.field.now c.get.result.now c.args.value.now (Ok c.in-Ok.found) m.1 m.2 same c.get.ensures.bytes c.in-Ok.ensures.set in
    on_err _ (may_by (set_line c.args.number c.args.field.now c.args.value.now s) _ line (set_may_lack c.args.number c.in-Ok.found.0 (value_read c.in-Ok.found.1 c.args.value.now) s))

pub with_value-requires : goal.with_value-requires
with_value-requires c =
    let kept = c.args.self.now in
    let k = c.requires in
    let p = plain_checked kept.program in
    let m = widget_there (node_in k.tree c.args.number) c.widget.result c.in-Some.widget c.deref.result.now c.in-Some.is (c.widget.ensures p k.delegates k.marks k.tree k.stands) c.deref.ensures in
    let same = c.fields-now.ensures.there p k.delegates k.marks k.tree m.0 k.stands m.1 in
    let read : value_read c.in-Ok.found.1 c.args.value.now ≡ Some c.in-Some-2.value = search rules in
    let built = built_in (declarations_of p) k.tree m.0 c.args.number k.stands.trees.elements.well m.1 in
    let fits = c.in-Ok.ensures.place (declarations_of p) m.0 c.args.value.now c.in-Some-2.value built (ap look_of m.2) (sym same) read in
    fits.0

pub returns-clause-state : goal.returns-clause-state
returns-clause-state c ds s h =
    let kept = c.args.self.now in
    let value = c.in-Some-2.value in
    let m = widget_there (node_in s.tree c.args.number) c.widget.result c.in-Some.widget c.deref.result.now c.in-Some.is (c.widget.ensures s.program ds s.marks s.tree h.tree) c.deref.ensures in
    let same = c.fields-now.ensures.there s.program ds s.marks s.tree m.0 h.tree m.1 in
    let line = field_at s m.0 c.deref.result.now c.fields-now.result.now c.args.number c.args.field.now c.get.result.now c.args.value.now (Ok c.in-Ok.found) m.1 m.2 same c.get.ensures.bytes c.in-Ok.ensures.set in
    let read : value_read c.in-Ok.found.1 c.args.value.now ≡ Some c.in-Some-2.value = search rules in
    let known = line ∙ ap (λ v. set_to c.args.number c.in-Ok.found.0 v s) read in
    let change : List Value → List Value = λ l. slice_set l c.in-Ok.found.0 value in
    let built = built_in (declarations_of s.program) s.tree m.0 c.args.number h.tree.trees.elements.well m.1 in
    let fits = c.in-Ok.ensures.place (declarations_of s.program) m.0 c.args.value.now value built (ap look_of m.2) (sym same) read in
    let items : c.in_ok-fields.fields.items ≡ change (fields_of m.0) = c.in_ok-fields.ensures ∙ ap change same in
    let types : map type_of c.in_ok-fields.fields.items ≡ map type_of (fields_of m.0) = ap (map type_of) c.in_ok-fields.ensures ∙ (fits.1 ∙ ap (map type_of) same) in
    stands_by _ ds s (set_line c.args.number c.args.field.now c.args.value.now s) (quietly (with_field c.args.number c.in-Ok.found.0 value s)) known
    (with_owner kept c.set_fields.new.self ds ds s.delegates s (option_map (changed_at (λ n. having_fields (change (fields_of n)) n) c.args.number) s.tree) (s.marks ++ c.args.number ∷ []) s.touched h
    (c.set_fields.ensures.stands s.program ds s.marks s.tree m.0 change h.tree m.1 items types) c.set_fields.ensures.next
    (ap shown_in c.set_fields.ensures.screen) (ap (λ (x : KeptScreen). x.layers) c.set_fields.ensures.screen) h.delegates_mean)

pub returns-clause-end : goal.returns-clause-end
returns-clause-end c ds s h =
    let m = widget_there (node_in s.tree c.args.number) c.widget.result c.in-Some.widget c.deref.result.now c.in-Some.is (c.widget.ensures s.program ds s.marks s.tree h.tree) c.deref.ensures in
    let same = c.fields-now.ensures.there s.program ds s.marks s.tree m.0 h.tree m.1 in
    let line = field_at s m.0 c.deref.result.now c.fields-now.result.now c.args.number c.args.field.now c.get.result.now c.args.value.now (Ok c.in-Ok.found) m.1 m.2 same c.get.ensures.bytes c.in-Ok.ensures.set in
    let read : value_read c.in-Ok.found.1 c.args.value.now ≡ Some c.in-Some-2.value = search rules in
    let known = line ∙ ap (λ v. set_to c.args.number c.in-Ok.found.0 v s) read in
    sym (ap end_of known)

pub returns-clause-sound : goal.returns-clause-sound
returns-clause-sound c =
    let kept = c.args.self.now in
    let k = c.requires in
    let p = plain_checked kept.program in
    let m = widget_there (node_in k.tree c.args.number) c.widget.result c.in-Some.widget c.deref.result.now c.in-Some.is (c.widget.ensures p k.delegates k.marks k.tree k.stands) c.deref.ensures in
    let same = c.fields-now.ensures.there p k.delegates k.marks k.tree m.0 k.stands m.1 in
    let read : value_read c.in-Ok.found.1 c.args.value.now ≡ Some c.in-Some-2.value = search rules in
    let built = built_in (declarations_of p) k.tree m.0 c.args.number k.stands.trees.elements.well m.1 in
    let fits = c.in-Ok.ensures.place (declarations_of p) m.0 c.args.value.now c.in-Some-2.value built (ap look_of m.2) (sym same) read in
    let change : List Value → List Value = λ l. slice_set l c.in-Ok.found.0 c.in-Some-2.value in
    let items : c.in_ok-fields.fields.items ≡ change (fields_of m.0) = c.in_ok-fields.ensures ∙ ap change same in
    let types : map type_of c.in_ok-fields.fields.items ≡ map type_of (fields_of m.0) = ap (map type_of) c.in_ok-fields.ensures ∙ (fits.1 ∙ ap (map type_of) same) in
    sound_after kept.owner c.set_fields.new.self kept.program kept.root kept.same_root kept.frames k.delegates (k.marks ++ c.args.number ∷ [])
    (option_map (changed_at (λ n. having_fields (change (fields_of n)) n) c.args.number) k.tree)
    (c.set_fields.ensures.stands p k.delegates k.marks k.tree m.0 change k.stands m.1 items types)
    (sound_set c.changes_keep_numbering.ensures.fields kept.program kept.root k.tree m.0 (next_in kept.owner) kept.frames c.args.number change k.parts m.1 (sym (ap (map type_of) items) ∙ types))
    c.set_fields.ensures.next (ap (λ (x : KeptScreen). x.spent) c.set_fields.ensures.screen) (ap (λ (x : KeptScreen). x.scale) c.set_fields.ensures.screen)
    (λ r. c.set_fields.ensures.room p k.delegates k.marks k.tree m.0 kept.frames k.stands m.1 types r) c.set_fields.ensures.settled k
