use Rattle.std.proofs.Common.{◌≡◌, ◌==◌, true, false, List, is_none, ap, sym, subst, ◌∙◌, map, option_map, ◌++◌, ◌∷◌, [], rules}
use Rattle.fx_expr.specs.Sets.{FitFields, fields_after}
use Rattle.fx_expr.specs.declared.values.Ty.{Ty}
use Rattle.fx_expr.specs.declared.values.Value.{Value}
use Rattle.fx_expr.specs.Value.{type_of}
use Rattle.plain_tree.specs.At.{changed_at, having_fields}
use Rattle.plain_tree.specs.PlainNode.{fields_of}
use Rattle.program_check.specs.CheckedView.{plain_checked}
use Rattle.screen_owner.specs.Screen.{KeptScreen, shown_in}
use Rattle.frame_owner.specs.Frame.{next_in}
use Rattle.session_form.specs.Handlers.{node_in, run_at}
use Rattle.frame_session.specs.StandsFor.{StandsFor}
use Rattle.frame_session.specs.declared.held.HeldSession.{HeldSession}
use Rattle.frame_session.proofs.OwnerLemmas.{with_owner, widget_there, node_missing, node_is_there, node_is_missing, handler_found, no_handler, nobody, run_nothing, run_outside, run_unowned, run_done, sound_after, sound_set}
use Rattle.frame_session.proofs.held.HeldSession.run.Goals.{then-owner-eq0-via-then-owner-eq0, then-owner-eq0-via-else-owner-eq0+then-is_none}
use Rattle.frame_session.proofs.held.HeldSession.run.Goals as goal

pub returns-in_default-clause-state : goal.returns-in_default-clause-state
returns-in_default-clause-state c ds s h =
    run_nothing c.args.self.now ds s c.args.number c.args.gesture c.args.dx c.args.dy h
    (nobody s.tree c.args.number c.args.gesture (node_missing (node_in s.tree c.args.number) c.widget.result c.in_default.is (c.widget.ensures s.program ds s.marks s.tree h.tree)))

pub returns-in_default-handler_of-clause-state : goal.returns-in_default-handler_of-clause-state
returns-in_default-handler_of-clause-state c ds s h =
    let m = widget_there (node_in s.tree c.args.number) c.widget.result c.in-Some.detector c.deref.result.now c.in-Some.is (c.widget.ensures s.program ds s.marks s.tree h.tree) c.deref.ensures in
    run_nothing c.args.self.now ds s c.args.number c.args.gesture c.args.dx c.args.dy h
    (no_handler s.tree c.args.number m.0 c.deref.result.now c.args.gesture m.1 m.2 c.in_default-handler_of.ensures.missing)

pub returns-then-owner-eq0-clause-state : goal.returns-then-owner-eq0-clause-state
returns-then-owner-eq0-clause-state c ds s h =
    let m = widget_there (node_in s.tree c.args.number) c.widget.result c.in-Some.detector c.deref.result.now c.in-Some.is (c.widget.ensures s.program ds s.marks s.tree h.tree) c.deref.ensures in
    let handler = c.in-Some-handler_of.handler.now in
    let has = handler_found s.tree c.args.number m.0 c.deref.result.now c.args.gesture handler m.1 m.2 c.in-Some-handler_of.ensures.there in
    let P : HeldSession → Type 0 = λ x. StandsFor x ds (run_at c.args.number c.args.gesture c.args.dx c.args.dy s) in
    elim c.then-owner-eq0.branch [
      | then-owner-eq0-via-then-owner-eq0 w ↦
          subst P (sym w.self-is) (run_outside c.args.self.now ds s c.args.number c.args.gesture handler c.args.dx c.args.dy h has (ap (λ n. n == 0) w.if-owner-eq0.true))
      | then-owner-eq0-via-else-owner-eq0+then-is_none w ↦
          let missing : is_none w.widget-else-owner-eq0.result ≡ true = search rules in
          let nowhere = node_is_missing (node_in s.tree handler.owner) w.widget-else-owner-eq0.result (w.widget-else-owner-eq0.ensures s.program ds s.marks s.tree h.tree) missing in
          let owned : (handler.owner == 0) ≡ false = search rules in
          subst P (sym w.self-is)
          (run_unowned c.args.self.now ds s c.args.number c.args.gesture handler c.args.dx c.args.dy h has owned nowhere
          (c.marks_need_nodes.ensures s.program ds s.marks s.tree c.args.self.now.owner handler.owner h.tree nowhere))
    ]

pub run_handler-requires : goal.run_handler-requires
run_handler-requires c =
    let kept = c.args.self.now in
    let k = c.requires in
    let p = plain_checked kept.program in
    let m = widget_there (node_in k.tree c.args.number) c.widget.result c.in-Some.detector c.deref.result.now c.in-Some.is (c.widget.ensures p k.delegates k.marks k.tree k.stands) c.deref.ensures in
    let handler = c.in-Some-handler_of.handler.now in
    let has = handler_found k.tree c.args.number m.0 c.deref.result.now c.args.gesture handler m.1 m.2 c.in-Some-handler_of.ensures.there in
    let there : is_none c.widget-else-owner-eq0.result ≡ false = search rules in
    let o = node_is_there (node_in k.tree handler.owner) c.widget-else-owner-eq0.result (c.widget-else-owner-eq0.ensures p k.delegates k.marks k.tree k.stands) there in
    let same = c.fields.ensures.there p k.delegates k.marks k.tree o.0 k.stands o.1 in
    subst (λ (ts : List Ty). FitFields ts handler.sets) (ap (map type_of) (sym (c.in_ok-fields.ensures ∙ same))) (k.parts.handlers c.args.number c.args.gesture handler o.0 has o.1)

pub returns-clause-state : goal.returns-clause-state
returns-clause-state c ds s h =
    let kept = c.args.self.now in
    let m = widget_there (node_in s.tree c.args.number) c.widget.result c.in-Some.detector c.deref.result.now c.in-Some.is (c.widget.ensures s.program ds s.marks s.tree h.tree) c.deref.ensures in
    let handler = c.in-Some-handler_of.handler.now in
    let has = handler_found s.tree c.args.number m.0 c.deref.result.now c.args.gesture handler m.1 m.2 c.in-Some-handler_of.ensures.there in
    let there : is_none c.widget-else-owner-eq0.result ≡ false = search rules in
    let o = node_is_there (node_in s.tree handler.owner) c.widget-else-owner-eq0.result (c.widget-else-owner-eq0.ensures s.program ds s.marks s.tree h.tree) there in
    let same = c.fields.ensures.there s.program ds s.marks s.tree o.0 h.tree o.1 in
    let owned : (handler.owner == 0) ≡ false = search rules in
    let change : List Value → List Value = λ l. fields_after handler.sets l c.args.dx c.args.dy in
    let ran : c.run_handler.new.fields.items ≡ change c.in_ok-fields.fields.items = search rules in
    let items : c.run_handler.new.fields.items ≡ change (fields_of o.0) = ran ∙ ap change (c.in_ok-fields.ensures ∙ same) in
    let types : map type_of c.run_handler.new.fields.items ≡ map type_of (fields_of o.0) = c.run_handler.ensures.types ∙ ap (map type_of) (c.in_ok-fields.ensures ∙ same) in
    run_done kept _ ds s c.args.number c.args.gesture handler c.args.dx c.args.dy has owned
    (with_owner kept c.set_fields.new.self ds ds s.delegates s (option_map (changed_at (λ n. having_fields (change (fields_of n)) n) handler.owner) s.tree) (s.marks ++ handler.owner ∷ []) s.touched h
    (c.set_fields.ensures.stands s.program ds s.marks s.tree o.0 change h.tree o.1 items types) c.set_fields.ensures.next
    (ap shown_in c.set_fields.ensures.screen) (ap (λ (x : KeptScreen). x.layers) c.set_fields.ensures.screen) h.delegates_mean)

pub returns-clause-sound : goal.returns-clause-sound
returns-clause-sound c =
    let kept = c.args.self.now in
    let k = c.requires in
    let p = plain_checked kept.program in
    let m = widget_there (node_in k.tree c.args.number) c.widget.result c.in-Some.detector c.deref.result.now c.in-Some.is (c.widget.ensures p k.delegates k.marks k.tree k.stands) c.deref.ensures in
    let handler = c.in-Some-handler_of.handler.now in
    let has = handler_found k.tree c.args.number m.0 c.deref.result.now c.args.gesture handler m.1 m.2 c.in-Some-handler_of.ensures.there in
    let there : is_none c.widget-else-owner-eq0.result ≡ false = search rules in
    let o = node_is_there (node_in k.tree handler.owner) c.widget-else-owner-eq0.result (c.widget-else-owner-eq0.ensures p k.delegates k.marks k.tree k.stands) there in
    let same = c.fields.ensures.there p k.delegates k.marks k.tree o.0 k.stands o.1 in
    let change : List Value → List Value = λ l. fields_after handler.sets l c.args.dx c.args.dy in
    let ran : c.run_handler.new.fields.items ≡ change c.in_ok-fields.fields.items = search rules in
    let items : c.run_handler.new.fields.items ≡ change (fields_of o.0) = ran ∙ ap change (c.in_ok-fields.ensures ∙ same) in
    let types : map type_of c.run_handler.new.fields.items ≡ map type_of (fields_of o.0) = c.run_handler.ensures.types ∙ ap (map type_of) (c.in_ok-fields.ensures ∙ same) in
    sound_after kept.owner c.set_fields.new.self kept.program kept.root kept.same_root kept.frames k.delegates (k.marks ++ handler.owner ∷ [])
    (option_map (changed_at (λ n. having_fields (change (fields_of n)) n) handler.owner) k.tree)
    (c.set_fields.ensures.stands p k.delegates k.marks k.tree o.0 change k.stands o.1 items types)
    (sound_set c.changes_keep_numbering.ensures.fields kept.program kept.root k.tree o.0 (next_in kept.owner) kept.frames handler.owner change k.parts o.1 (sym (ap (map type_of) items) ∙ types))
    c.set_fields.ensures.next (ap (λ (x : KeptScreen). x.spent) c.set_fields.ensures.screen) (ap (λ (x : KeptScreen). x.scale) c.set_fields.ensures.screen)
    (λ r. c.set_fields.ensures.room p k.delegates k.marks k.tree o.0 kept.frames k.stands o.1 types r) c.set_fields.ensures.settled k
