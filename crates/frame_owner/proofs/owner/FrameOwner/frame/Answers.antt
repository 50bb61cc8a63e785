use Rattle.std.proofs.Common.{◌≡◌, ℕ, ◌+◌, ◌*◌, ◌≤◌, Option, IfSome, ap, sym, subst, ◌∙◌}
use Rattle.std.proofs.lemmas.Result.{err_from_is_err_and}
use Rattle.fx_geom.specs.declared.scales.Scale.{Scale}
use Rattle.fx_handles.specs.Arena.{used_count}
use Rattle.delegates.specs.Table.{meant_in}
use Rattle.node_tree.specs.Tree.{Tree}
use Rattle.program_check.specs.CheckedView.{plain_checked}
use Rattle.widget_model.specs.Plain.{PlainWidget}
use Rattle.widget_model.specs.View.{shared}
use Rattle.layout_form.specs.Object.{setting_of}
use Rattle.element_tree.specs.Element.{Element, made_count}
use Rattle.build_form.specs.FullBuild.{Built}
use Rattle.build_form.specs.ScreenView.{screen_on}
use Rattle.screen_owner.specs.Screen.{shown_in, layer_in}
use Rattle.screen_owner.specs.Steps.{StepsOver}
use Rattle.build_owner.specs.Standing.{next_at}
use Rattle.frame_owner.specs.Frame.{KeptFrame}
use Rattle.frame_owner.specs.Framed.{screen_for, ShowsBuild, ShowsFrame}
use Rattle.frame_owner.proofs.Working.{works}
use Rattle.frame_owner.proofs.owner.FrameOwner.frame.Goals as goal

pub show-requires : goal.show-requires
show-requires g c =
    let p = plain_checked c.args.checked.now in
    let was = c.requires.stands c.in_ok-build.ensures.unspent in
    let x = c.in_ok-build.ensures.builds_frame was.0 was.1 was.2 in
    record { stands = λ ready. (p, x.tree, x.stands) }

pub returns-clause-shows : goal.returns-clause-shows
returns-clause-shows g c = λ marks tree now.
    let p = plain_checked c.args.checked.now in
    let ds = meant_in c.args.table.now (λ v. (g.dyn-1.0.entry v).1) in
    let old = c.args.self.now in
    let new = c.show.new.self in
    let x = c.in_ok-build.ensures.builds_frame marks tree now in
    let shows : ShowsBuild p (screen_for old ds c.args.view) x.tree new =
    subst (λ (s : Scale). ShowsBuild p (screen_on s ds c.args.view) x.tree new) c.build.ensures.scale (c.in_ok-show.ensures.shows p x.tree x.stands) in
    subst (λ (o : Built). ShowsFrame p (screen_for old ds c.args.view) o new) (sym x.is) (shows, ap next_at c.show.ensures.elements)

pub returns-clause-steps : goal.returns-clause-steps
returns-clause-steps g c = λ marks tree now.
    let ds = meant_in c.args.table.now (λ v. (g.dyn-1.0.entry v).1) in
    let old = c.args.self.now in
    let mid = c.build.new.self in
    let new = c.show.new.self in
    let x = c.in_ok-build.ensures.builds_frame marks tree now in
    works c.render_marks_are_marks.ensures.layout c.render_marks_are_marks.ensures.paint (setting_of old.screen.scale ds) c.args.view old.screen.nodes mid.screen.nodes new.screen.nodes x.tree
    c.args.layouts.now c.build.new.layouts c.show.new.layouts c.args.paints.now c.show.new.paints
    (λ from top brings.
    subst (λ (s : Scale). StepsOver (setting_of s ds) c.args.view from mid.screen.nodes top new.screen.nodes c.build.new.layouts c.show.new.layouts c.args.paints.now c.show.new.paints) c.build.ensures.scale
    (c.in_ok-show.ensures.over from top brings)) _ _ x.is x.brings

pub returns-clause-kept : goal.returns-clause-kept
returns-clause-kept g c = λ marks tree made next now is free.
    let kept = c.in_ok-build.ensures.kept marks tree made next now is free in
    (c.show.ensures.settled ∙ kept.0, c.show.ensures.marked ∙ kept.1)

pub returns-clause-settles : goal.returns-clause-settles
returns-clause-settles g c =
    subst (λ (o : Option PlainWidget). IfSome o (λ kept. kept ≡ shared c.args.root.now)) (sym c.show.ensures.settled) c.in_ok-build.ensures.settles

pub returns-clause-idle : goal.returns-clause-idle
returns-clause-idle g c = c.is_idle-idle.ensures

pub returns-clause-again : goal.returns-clause-again
returns-clause-again g c = λ on marks tree now.
    let p = plain_checked c.args.checked.now in
    let known = c.is_idle-idle.ensures.0 on in
    let same : c.build.new.self ≡ c.args.self.now = c.in_ok-build.ensures.idle known.0 known.1 in
    let x = c.in_ok-build.ensures.builds_frame marks tree now in
    let shown = c.in_ok-show.ensures.again p x.tree x.stands (ap (λ (y : KeptFrame). y.still) same ∙ known.2) in
    (shown.0 ∙ ap (λ (y : KeptFrame). shown_in y.screen) same, shown.1 ∙ ap (λ (y : KeptFrame). layer_in y.screen) same)

pub returns-clause-room : goal.returns-clause-room
returns-clause-room g c = λ frames had.
    let room = c.in_ok-build.ensures.room frames had in
    let same = c.show.ensures.elements in
    record {
      elements = subst (λ (t : Tree Element). used_count t.nodes ≤ 1048576) (sym same) room.elements;
      renders = subst (λ (n : ℕ). n ≤ 1048576) (sym c.in_ok-show.ensures.used) room.renders;
      made = subst (λ (t : Tree Element). made_count t ≤ (frames + 1) * 1048576) (sym same) room.made;
      made_drawn = subst (λ (n : ℕ). n ≤ (frames + 1) * 1048576) (sym c.in_ok-show.ensures.made) room.made_drawn;
    }

pub returns-in_err-build-clause-fault : goal.returns-in_err-build-clause-fault
returns-in_err-build-clause-fault g c =
    let q = err_from_is_err_and c.from_residual.result c.from_residual.ensures.1 in
    rw (q.1, q.2) c.in_err-build.ensures.fault

pub returns-in_err-build-clause-builds_at_fault : goal.returns-in_err-build-clause-builds_at_fault
returns-in_err-build-clause-builds_at_fault g c =
    let q = err_from_is_err_and c.from_residual.result c.from_residual.ensures.1 in
    rw (q.1, q.2) c.in_err-build.ensures.builds_at_fault

pub returns-in_err-build-clause-laid_at_fault : goal.returns-in_err-build-clause-laid_at_fault
returns-in_err-build-clause-laid_at_fault g c =
    let q = err_from_is_err_and c.from_residual.result c.from_residual.ensures.1 in
    rw (q.1, q.2) c.in_err-build.ensures.laid_at_fault
