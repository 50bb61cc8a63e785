use Rattle.std.proofs.Common.{◌≡◌, ap, sym, subst, ◌∙◌, true, false, true≢false, Option, Some, IfSome, inl, refl, arith}
use Rattle.std.proofs.lemmas.Result.{err_from_is_err_and}
use Rattle.delegates.specs.Table.{meant_in}
use Rattle.program_check.specs.CheckedView.{plain_checked}
use Rattle.widget_model.specs.Plain.{PlainWidget}
use Rattle.widget_model.specs.View.{shared}
use Rattle.build_form.specs.FaultView.{fault_of}
use Rattle.build_form.proofs.Outcomes.{some_map}
use Rattle.frame_owner.specs.Frame.{KeptFrame}
use Rattle.frame_owner.specs.Framed.{screen_for}
use Rattle.frame_owner.proofs.Going.{room_more, same_build, same_builds, builds_on, laid_on, builds_from, laid_from}
use Rattle.frame_owner.proofs.owner.FrameOwner.build.Goals as goal

pub returns-then-is_settled-clause-builds_frame : goal.returns-then-is_settled-clause-builds_frame
returns-then-is_settled-clause-builds_frame g c = λ marks tree now.
    let ds = meant_in c.args.table.now (λ v. (g.dyn-1.0.entry v).1) in
    c.is_settled.ensures.stays c.if-is_settled.true (plain_checked c.args.checked.now) (screen_for c.args.self.now ds c.args.view) marks tree c.args.layouts.now now

pub returns-then-is_settled-clause-builds : goal.returns-then-is_settled-clause-builds
returns-then-is_settled-clause-builds g c = λ marks tree now.
    let ds = meant_in c.args.table.now (λ v. (g.dyn-1.0.entry v).1) in
    let none = c.is_settled.ensures.builds c.if-is_settled.true (plain_checked c.args.checked.now) (screen_for c.args.self.now ds c.args.view) marks tree now in
    omega (arith, none)

pub returns-then-is_settled-clause-too_large : goal.returns-then-is_settled-clause-too_large
returns-then-is_settled-clause-too_large g c = λ ready large.
    let ds = meant_in c.args.table.now (λ v. (g.dyn-1.0.entry v).1) in
    let st = c.requires.stands ready in
    let small = c.is_settled.ensures.small c.if-is_settled.true (plain_checked c.args.checked.now) (screen_for c.args.self.now ds c.args.view) st.0 st.1 st.2 in
    absurd (omega (arith, small, large))

pub returns-then-is_settled-clause-kept : goal.returns-then-is_settled-clause-kept
returns-then-is_settled-clause-kept g c = λ marks tree made next now is free. c.is_settled.ensures.known.0 c.if-is_settled.true

pub returns-then-is_settled-clause-settles : goal.returns-then-is_settled-clause-settles
returns-then-is_settled-clause-settles g c =
    subst (λ (o : Option PlainWidget). IfSome o (λ kept. kept ≡ shared c.args.root.now)) (sym (c.is_settled.ensures.known.0 c.if-is_settled.true).0) refl

pub returns-then-renewed-clause-settles : goal.returns-then-renewed-clause-settles
returns-then-renewed-clause-settles g c =
    subst (λ (o : Option PlainWidget). IfSome o (λ kept. kept ≡ shared c.args.root.now)) (sym (c.in_ok-renewed.ensures.kept c.if-renewed.true).0) refl

pub returns-then-renewed-clause-idle : goal.returns-then-renewed-clause-idle
returns-then-renewed-clause-idle g c = λ settled free. absurd (true≢false (sym (c.is_settled.ensures.known.1 (settled, free)) ∙ c.if-is_settled.false))

pub returns-clause-idle : goal.returns-clause-idle
returns-clause-idle g c = λ settled free. absurd (true≢false (sym (c.is_settled.ensures.known.1 (settled, free)) ∙ c.if-is_settled.false))

pub renew_marked-requires-clause-stands : goal.renew_marked-requires-clause-stands
renew_marked-requires-clause-stands g c =
    let p = plain_checked c.args.checked.now in
    let ds = meant_in c.args.table.now (λ v. (g.dyn-1.0.entry v).1) in
    let ready : c.args.self.now.screen.spent ≡ false = ap (λ (x : KeptFrame). x.screen.spent) (sym c.self.view_is) ∙ c.if-self.false in
    let st = c.requires.stands ready in
    (ds, st.0, st.1, st.2)

pub returns-then-renewed-clause-builds_frame : goal.returns-then-renewed-clause-builds_frame
returns-then-renewed-clause-builds_frame g c = λ marks tree now.
    let p = plain_checked c.args.checked.now in
    let ds = meant_in c.args.table.now (λ v. (g.dyn-1.0.entry v).1) in
    c.in_ok-renewed.ensures.renewed c.if-renewed.true (screen_for c.args.self.now ds c.args.view) marks tree c.args.layouts.now now

pub returns-then-renewed-clause-builds : goal.returns-then-renewed-clause-builds
returns-then-renewed-clause-builds g c = λ marks tree now.
    let p = plain_checked c.args.checked.now in
    let ds = meant_in c.args.table.now (λ v. (g.dyn-1.0.entry v).1) in
    c.in_ok-renewed.ensures.builds c.if-renewed.true (screen_for c.args.self.now ds c.args.view) marks tree now

pub returns-then-renewed-clause-kept : goal.returns-then-renewed-clause-kept
returns-then-renewed-clause-kept g c = λ marks tree made next now is free. c.in_ok-renewed.ensures.kept c.if-renewed.true

pub returns-then-renewed-clause-room : goal.returns-then-renewed-clause-room
returns-then-renewed-clause-room g c = λ frames had. room_more frames c.renew_marked.new.self (c.in_ok-renewed.ensures.room frames had)

pub returns-then-renewed-clause-too_large : goal.returns-then-renewed-clause-too_large
returns-then-renewed-clause-too_large g c = λ ready large.
    let small = c.in_ok-renewed.ensures.small c.if-renewed.true in
    absurd (omega (arith, small, large))

pub returns-then-renewed-clause-unspent : goal.returns-then-renewed-clause-unspent
returns-then-renewed-clause-unspent g c =
    let ready : c.args.self.now.screen.spent ≡ false = ap (λ (x : KeptFrame). x.screen.spent) (sym c.self.view_is) ∙ c.if-self.false in
    ready

pub returns-in_err-renewed-clause-fault : goal.returns-in_err-renewed-clause-fault
returns-in_err-renewed-clause-fault g c =
    let q = err_from_is_err_and c.from_residual.result c.from_residual.ensures.1 in
    let p = plain_checked c.args.checked.now in
    let ds = meant_in c.args.table.now (λ v. (g.dyn-1.0.entry v).1) in
    rw (q.1, q.2) (some_map _ _ (fault_of c.in_err-renewed.field-0.0) (λ f is. λ marks tree now. is (screen_for c.args.self.now ds c.args.view) marks tree now) c.in_err-renewed.ensures.fault)

pub returns-in_err-renewed-clause-builds_at_fault : goal.returns-in_err-renewed-clause-builds_at_fault
returns-in_err-renewed-clause-builds_at_fault g c =
    let q = err_from_is_err_and c.from_residual.result c.from_residual.ensures.1 in
    let p = plain_checked c.args.checked.now in
    let ds = meant_in c.args.table.now (λ v. (g.dyn-1.0.entry v).1) in
    rw (q.1, q.2) (some_map _ _ (fault_of c.in_err-renewed.field-0.0) (λ f counted. λ marks tree now. counted (screen_for c.args.self.now ds c.args.view) marks tree now) c.in_err-renewed.ensures.builds_at_fault)

pub returns-in_err-renewed-clause-laid_at_fault : goal.returns-in_err-renewed-clause-laid_at_fault
returns-in_err-renewed-clause-laid_at_fault g c =
    let q = err_from_is_err_and c.from_residual.result c.from_residual.ensures.1 in
    let p = plain_checked c.args.checked.now in
    let ds = meant_in c.args.table.now (λ v. (g.dyn-1.0.entry v).1) in
    rw (q.1, q.2) (some_map _ _ (fault_of c.in_err-renewed.field-0.0) (λ f is. λ marks tree now. inl refl) c.in_err-renewed.ensures.fault)

pub returns-in_err-renewed-clause-too_large : goal.returns-in_err-renewed-clause-too_large
returns-in_err-renewed-clause-too_large g c = λ ready large.
    let small = c.in_err-renewed.ensures.small_at_err in
    absurd (omega (arith, small, large))

pub build_anew-requires-clause-stands : goal.build_anew-requires-clause-stands
build_anew-requires-clause-stands g c =
    let p = plain_checked c.args.checked.now in
    let ds = meant_in c.args.table.now (λ v. (g.dyn-1.0.entry v).1) in
    let ready : c.args.self.now.screen.spent ≡ false = ap (λ (x : KeptFrame). x.screen.spent) (sym c.self.view_is) ∙ c.if-self.false in
    let st = c.requires.stands ready in
    let l = c.in_ok-renewed.ensures.left c.if-renewed.false ds st.0 st.1 st.2 in
    (l.left, l.now, l.stands)

pub build_anew-requires-clause-room : goal.build_anew-requires-clause-room
build_anew-requires-clause-room g c =
    let ready : c.args.self.now.screen.spent ≡ false = ap (λ (x : KeptFrame). x.screen.spent) (sym c.self.view_is) ∙ c.if-self.false in
    let room = c.requires.room ready in
    (room.0, room.1, c.in_ok-renewed.ensures.room room.0 room.2)

pub returns-clause-builds_frame : goal.returns-clause-builds_frame
returns-clause-builds_frame g c = λ marks tree now.
    let p = plain_checked c.args.checked.now in
    let ds = meant_in c.args.table.now (λ v. (g.dyn-1.0.entry v).1) in
    let w = shared c.args.root.now in
    let x = c.args.self.now in
    let mid = c.renew_marked.new.self in
    let same = c.in_ok-renewed.ensures.screen c.if-renewed.false in
    let next = c.in_ok-renewed.ensures.next in
    let l = c.in_ok-renewed.ensures.left c.if-renewed.false ds marks tree now in
    builds_from p (screen_for x ds c.args.view) tree l.now w x c.build_anew.new.self c.args.layouts.now c.build_anew.new.layouts (l.full (screen_for x ds c.args.view))
    (builds_on p ds c.args.view l.now w x mid same next c.build_anew.new.self c.args.layouts.now c.build_anew.new.layouts (c.in_ok-build_anew.ensures.builds_frame l.left l.now l.stands))

pub returns-clause-builds : goal.returns-clause-builds
returns-clause-builds g c = λ marks tree now.
    let p = plain_checked c.args.checked.now in
    let ds = meant_in c.args.table.now (λ v. (g.dyn-1.0.entry v).1) in
    let w = shared c.args.root.now in
    let x = c.args.self.now in
    let mid = c.renew_marked.new.self in
    let same = c.in_ok-renewed.ensures.screen c.if-renewed.false in
    let next = c.in_ok-renewed.ensures.next in
    let l = c.in_ok-renewed.ensures.left c.if-renewed.false ds marks tree now in
    let counted = c.in_ok-build_anew.ensures.builds l.left l.now l.stands in
    let one = same_builds p ds c.args.view l.now w x mid same next l.left in
    let all = l.builds (screen_for x ds c.args.view) in
    omega (arith, counted, one, all)

pub returns-clause-kept : goal.returns-clause-kept
returns-clause-kept g c = λ marks tree made number now is free.
    let p = plain_checked c.args.checked.now in
    let ds = meant_in c.args.table.now (λ v. (g.dyn-1.0.entry v).1) in
    let w = shared c.args.root.now in
    let x = c.args.self.now in
    let mid = c.renew_marked.new.self in
    let same = c.in_ok-renewed.ensures.screen c.if-renewed.false in
    let next = c.in_ok-renewed.ensures.next in
    let l = c.in_ok-renewed.ensures.left c.if-renewed.false ds marks tree now in
    c.in_ok-build_anew.ensures.kept l.left l.now made number l.stands (same_build p ds c.args.view l.now w x mid same next ∙ (sym (l.full (screen_for x ds c.args.view)) ∙ is)) free

pub returns-clause-room : goal.returns-clause-room
returns-clause-room g c = λ frames had.
    c.in_ok-build_anew.ensures.room frames (c.in_ok-renewed.ensures.room frames had)

pub returns-clause-unspent : goal.returns-clause-unspent
returns-clause-unspent g c =
    let ready : c.args.self.now.screen.spent ≡ false = ap (λ (x : KeptFrame). x.screen.spent) (sym c.self.view_is) ∙ c.if-self.false in
    ready

pub returns-in_err-build_anew-clause-fault : goal.returns-in_err-build_anew-clause-fault
returns-in_err-build_anew-clause-fault g c =
    let q = err_from_is_err_and c.from_residual-in_err-build_anew.result c.from_residual-in_err-build_anew.ensures.1 in
    let p = plain_checked c.args.checked.now in
    let ds = meant_in c.args.table.now (λ v. (g.dyn-1.0.entry v).1) in
    let w = shared c.args.root.now in
    let x = c.args.self.now in
    let mid = c.renew_marked.new.self in
    let same = c.in_ok-renewed.ensures.screen c.if-renewed.false in
    let next = c.in_ok-renewed.ensures.next in
    rw (q.1, q.2) (some_map _ _ (fault_of c.in_err-build_anew.field-0.0) (λ f is. λ marks tree now.
    let l = c.in_ok-renewed.ensures.left c.if-renewed.false ds marks tree now in
    l.full (screen_for x ds c.args.view) ∙ (sym (same_build p ds c.args.view l.now w x mid same next) ∙ is l.left l.now l.stands)) c.in_err-build_anew.ensures.fault)

pub returns-in_err-build_anew-clause-builds_at_fault : goal.returns-in_err-build_anew-clause-builds_at_fault
returns-in_err-build_anew-clause-builds_at_fault g c =
    let q = err_from_is_err_and c.from_residual-in_err-build_anew.result c.from_residual-in_err-build_anew.ensures.1 in
    let p = plain_checked c.args.checked.now in
    let ds = meant_in c.args.table.now (λ v. (g.dyn-1.0.entry v).1) in
    let w = shared c.args.root.now in
    let x = c.args.self.now in
    let mid = c.renew_marked.new.self in
    let same = c.in_ok-renewed.ensures.screen c.if-renewed.false in
    let next = c.in_ok-renewed.ensures.next in
    rw (q.1, q.2) (some_map _ _ (fault_of c.in_err-build_anew.field-0.0) (λ f is. λ marks tree now.
    let l = c.in_ok-renewed.ensures.left c.if-renewed.false ds marks tree now in
    let counted = is l.left l.now l.stands in
    let one = same_builds p ds c.args.view l.now w x mid same next l.left in
    let all = l.builds (screen_for x ds c.args.view) in
    omega (arith, counted, one, all)) c.in_err-build_anew.ensures.builds_at_fault)

pub returns-in_err-build_anew-clause-laid_at_fault : goal.returns-in_err-build_anew-clause-laid_at_fault
returns-in_err-build_anew-clause-laid_at_fault g c =
    let q = err_from_is_err_and c.from_residual-in_err-build_anew.result c.from_residual-in_err-build_anew.ensures.1 in
    let p = plain_checked c.args.checked.now in
    let ds = meant_in c.args.table.now (λ v. (g.dyn-1.0.entry v).1) in
    let w = shared c.args.root.now in
    let x = c.args.self.now in
    let mid = c.renew_marked.new.self in
    let same = c.in_ok-renewed.ensures.screen c.if-renewed.false in
    let next = c.in_ok-renewed.ensures.next in
    rw (q.1, q.2) (some_map _ _ (fault_of c.in_err-build_anew.field-0.0) (λ f laid. λ marks tree now.
    let l = c.in_ok-renewed.ensures.left c.if-renewed.false ds marks tree now in
    laid_from p (screen_for x ds c.args.view) tree l.now w x c.args.layouts.now c.build_anew.new.layouts (l.first (screen_for x ds c.args.view))
    (laid_on p ds c.args.view l.now w x mid same next c.args.layouts.now c.build_anew.new.layouts (laid l.left l.now l.stands))) c.in_err-build_anew.ensures.laid_at_fault)
