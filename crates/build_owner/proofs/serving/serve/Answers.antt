use Rattle.std.proofs.Common.{◌≡◌, ◌+◌, ◌++◌, rules, IfSome, map, filter, refl, sym, ap, ◌∙◌, subst}
use Rattle.std.proofs.lemmas.List.{append-nil}
use Rattle.std.specs.List.{All}
use Rattle.std.proofs.lemmas.Result.{err_from_is_err_and}
use Rattle.node_tree.specs.Plan.{planned}
use Rattle.node_tree.specs.Tree.{IsNode}
use Rattle.widget_model.specs.declared.widgets.Widget.{Widget}
use Rattle.widget_model.specs.Plain.{widgets_of, children_of as child_widgets}
use Rattle.widget_model.specs.PlainLaws.{list_of-widgets_of}
use Rattle.widget_model.specs.Typed.{AreTypedWidgets}
use Rattle.widget_model.specs.View.{shared}
use Rattle.build_form.specs.Entering.{second}
use Rattle.build_form.specs.FaultView.{fault_of}
use Rattle.build_form.specs.FullBuild.{items}
use Rattle.build_form.specs.Numbered.{IsInPlace}
use Rattle.build_form.specs.Partner.{arrivals}
use Rattle.build_form.specs.Step.{each}
use Rattle.build_form.specs.WellBuilt.{IsWellBuilt}
use Rattle.build_form.proofs.Outcomes.{some_map}
use Rattle.build_walk.specs.Counting.{builds_from, builds_by_each}
use Rattle.build_walk.specs.Keeping.{reenter}
use Rattle.build_walk.specs.Kept.{plain_at_any}
use Rattle.build_owner.specs.declared.arriving.Arrival.{Arrival}
use Rattle.build_owner.specs.ArrivalView.{arrived, coming, is_there}
use Rattle.build_owner.specs.Climbing.{AreAllFitting}
use Rattle.build_owner.specs.Entry.{IsTypedElement}
use Rattle.build_owner.specs.LastFrame.{IsOld}
use Rattle.build_owner.specs.Naming.{AreHeld}
use Rattle.build_owner.specs.Ready.{IsTypedArrival}
use Rattle.build_owner.specs.WalkView.{basis_of, declared_by, plain_arrival, progress_of}
use Rattle.build_owner.proofs.Children.{live_element}
use Rattle.build_owner.proofs.Going.{KnowsBelow, typed_arriving, any_typed}
use Rattle.build_owner.proofs.Had.{had_apart, standing_below}
use Rattle.build_owner.proofs.Itemized.{items_typed}
use Rattle.build_owner.proofs.ServedOne.{items_come}
use Rattle.build_owner.proofs.serving.serve.Goals as goal

pub arrivals-requires : goal.arrivals-requires
arrivals-requires g c =
    let d = declared_by c.args.from.now in
    let t = c.args.t.now.tree in
    let o = c.args.spot.kept in
    record {
      live = some_map (IsTypedElement d t) (IsNode t) o (λ h typed. typed.0) c.requires.spot.kept;
      apart = had_apart d (plain_at_any (λ _. 0) t o) (any_typed d t (IsWellBuilt d) o (λ h typed. typed.1) c.requires.spot.kept);
      placed = standing_below (plain_at_any (λ _. 0) t o) (any_typed d t IsInPlace o (λ h typed. typed.2) c.requires.spot.kept);
    }

pub below_old-requires : goal.below_old-requires
below_old-requires g c = subst (λ ts. AreAllFitting ts c.args.t.now.tree) (sym c.requires.spot.was) c.requires.ready.elements.fitting

pub enter_all-requires : goal.enter_all-requires
enter_all-requires g c =
    let d = declared_by c.args.from.now in
    let t = c.args.t.now.tree in
    let kept = c.args.spot.kept in
    let ws = child_widgets (shared c.args.spot.list) in
    let listed : map shared c.get.result.now ≡ ws = c.get.ensures.widgets ∙ ap (λ (w : Widget). w.children) c.deref.ensures ∙ sym (list_of-widgets_of c.args.spot.list.value.children) in
    let knows : KnowsBelow t = λ h live. let e = live_element t h live in c.kept_elements_are_known.ensures.nodes (λ _. 0) t h e.0 (c.walk_laws.ensures.holds t h c.root.ensures.tree live) e.1 in
    let typed = typed_arriving d t knows kept c.requires.spot.kept (map shared c.get.result.now) (arrived c.in_ok-arriving.arriving)
    (subst (λ l. AreTypedWidgets d (widgets_of l)) (sym (c.get.ensures.widgets ∙ ap (λ (w : Widget). w.children) c.deref.ensures)) c.requires.spot.list.below)
    (c.in_ok-arriving.ensures.arrivals (λ _. 0)) c.in_ok-arriving.ensures.beside c.in_ok-arriving.ensures.matched in
    let items = items_typed c.args.range (arrived c.in_ok-arriving.arriving) c.in_ok-items.items.items
    (c.in_ok-items.ensures ∙ ap (λ xs. filter (is_there c.args.range) (map coming xs)) c.arrived.ensures) d t typed in
    record {
      ready = c.requires.ready;
      spots = c.requires.spots;
      now = c.requires.spot.now;
      was = c.in_ok-had.ensures.typed ∙ c.requires.spot.was;
      arriving = subst (All (IsTypedArrival d t)) (sym c.as_slice.ensures.value) items;
    }

pub returns-in_err-children-clause-fault : goal.returns-in_err-children-clause-fault
returns-in_err-children-clause-fault g c =
    let p = err_from_is_err_and c.from_residual-in_err-children.result c.from_residual-in_err-children.ensures.1 in
    rw (p.1, p.2) (some_map _ _ (fault_of c.in_err-children.field-0.0)
    (λ x h. λ f since old.
    let B = basis_of c.args.from.now f in
    let t = c.args.t.now.tree in
    let kept = c.args.spot.kept in
    let ws = child_widgets (shared c.args.spot.list) in
    let was = c.args.spot.was.items in
    let start = progress_of f c.args.walk.now c.args.g.now t in
    let listed : map shared c.get.result.now ≡ ws = c.get.ensures.widgets ∙ ap (λ (w : Widget). w.children) c.deref.ensures ∙ sym (list_of-widgets_of c.args.spot.list.value.children) in
    let come = items_come f t since.elements was c.in_ok-had.had.items kept ws (arrived c.in_ok-arriving.arriving) c.in_ok-items.items.items c.args.range
    (λ h holds. c.kept_elements_are_known.ensures.live f.elements h holds)
    (λ h x known is. c.kept_elements_are_known.ensures.below f.pasts f.scrolled was f.elements f.renders h x known is)
    (λ h x is. c.keep_laws.ensures.value f.elements t h x since.elements is)
    (λ us k known. c.kept_elements_stay.ensures.node f.scrolled f.elements t k since.elements known.holds)
    (λ h live. let e = live_element f.elements h live in (_, c.kept_elements_are_known.ensures.node f.scrolled f.elements h e.0 (c.walk_laws.ensures.holds f.elements h since.tree live) e.1))
    c.in_ok-had.ensures.had
    (c.in_ok-arriving.ensures.arrivals f.scrolled ∙ ap (arrivals (plain_at_any f.scrolled t kept)) listed)
    old c.in_ok-arriving.ensures.beside
    (c.in_ok-items.ensures ∙ ap (λ xs. filter (is_there c.args.range) (map coming xs)) c.arrived.ensures) in
    let rs = c.as_slice.ensures.value in
    let olds = subst (All (λ (a : Arrival). IfSome a.beside (IsOld f c.in_ok-had.had.items))) (sym rs) come.0 in
    let same = ap (map (plain_arrival f)) rs ∙ come.1 in
    let xs = items c.args.range (arrivals (plain_at_any f.scrolled f.elements kept) ws) in
    sym (ap (λ zs. each (reenter B f.pasts second c.args.spot.left c.args.spot.now.items) zs start) same) ∙ h f since olds)
    c.in_err-children.ensures.fault)

pub returns-in_err-children-clause-builds_at_fault : goal.returns-in_err-children-clause-builds_at_fault
returns-in_err-children-clause-builds_at_fault g c =
    let p = err_from_is_err_and c.from_residual-in_err-children.result c.from_residual-in_err-children.ensures.1 in
    rw (p.1, p.2) (some_map _ _ (fault_of c.in_err-children.field-0.0)
    (λ x h. λ f since old.
    let B = basis_of c.args.from.now f in
    let t = c.args.t.now.tree in
    let kept = c.args.spot.kept in
    let ws = child_widgets (shared c.args.spot.list) in
    let was = c.args.spot.was.items in
    let start = progress_of f c.args.walk.now c.args.g.now t in
    let listed : map shared c.get.result.now ≡ ws = c.get.ensures.widgets ∙ ap (λ (w : Widget). w.children) c.deref.ensures ∙ sym (list_of-widgets_of c.args.spot.list.value.children) in
    let come = items_come f t since.elements was c.in_ok-had.had.items kept ws (arrived c.in_ok-arriving.arriving) c.in_ok-items.items.items c.args.range
    (λ h holds. c.kept_elements_are_known.ensures.live f.elements h holds)
    (λ h x known is. c.kept_elements_are_known.ensures.below f.pasts f.scrolled was f.elements f.renders h x known is)
    (λ h x is. c.keep_laws.ensures.value f.elements t h x since.elements is)
    (λ us k known. c.kept_elements_stay.ensures.node f.scrolled f.elements t k since.elements known.holds)
    (λ h live. let e = live_element f.elements h live in (_, c.kept_elements_are_known.ensures.node f.scrolled f.elements h e.0 (c.walk_laws.ensures.holds f.elements h since.tree live) e.1))
    c.in_ok-had.ensures.had
    (c.in_ok-arriving.ensures.arrivals f.scrolled ∙ ap (arrivals (plain_at_any f.scrolled t kept)) listed)
    old c.in_ok-arriving.ensures.beside
    (c.in_ok-items.ensures ∙ ap (λ xs. filter (is_there c.args.range) (map coming xs)) c.arrived.ensures) in
    let rs = c.as_slice.ensures.value in
    let olds = subst (All (λ (a : Arrival). IfSome a.beside (IsOld f c.in_ok-had.had.items))) (sym rs) come.0 in
    let same = ap (map (plain_arrival f)) rs ∙ come.1 in
    let xs = items c.args.range (arrivals (plain_at_any f.scrolled f.elements kept) ws) in
    h f since olds ∙ ap (λ zs. c.args.builds.now + builds_by_each (reenter B f.pasts second c.args.spot.left c.args.spot.now.items) (builds_from B f.pasts second c.args.spot.left c.args.spot.now.items) zs start) same)
    c.in_err-children.ensures.builds_at_fault)

pub returns-clause-served : goal.returns-clause-served
returns-clause-served g c = λ f since old.
    let B = basis_of c.args.from.now f in
    let t = c.args.t.now.tree in
    let kept = c.args.spot.kept in
    let ws = child_widgets (shared c.args.spot.list) in
    let was = c.args.spot.was.items in
    let start = progress_of f c.args.walk.now c.args.g.now t in
    let listed : map shared c.get.result.now ≡ ws = c.get.ensures.widgets ∙ ap (λ (w : Widget). w.children) c.deref.ensures ∙ sym (list_of-widgets_of c.args.spot.list.value.children) in
    let come = items_come f t since.elements was c.in_ok-had.had.items kept ws (arrived c.in_ok-arriving.arriving) c.in_ok-items.items.items c.args.range
    (λ h holds. c.kept_elements_are_known.ensures.live f.elements h holds)
    (λ h x known is. c.kept_elements_are_known.ensures.below f.pasts f.scrolled was f.elements f.renders h x known is)
    (λ h x is. c.keep_laws.ensures.value f.elements t h x since.elements is)
    (λ us k known. c.kept_elements_stay.ensures.node f.scrolled f.elements t k since.elements known.holds)
    (λ h live. let e = live_element f.elements h live in (_, c.kept_elements_are_known.ensures.node f.scrolled f.elements h e.0 (c.walk_laws.ensures.holds f.elements h since.tree live) e.1))
    c.in_ok-had.ensures.had
    (c.in_ok-arriving.ensures.arrivals f.scrolled ∙ ap (arrivals (plain_at_any f.scrolled t kept)) listed)
    old c.in_ok-arriving.ensures.beside
    (c.in_ok-items.ensures ∙ ap (λ xs. filter (is_there c.args.range) (map coming xs)) c.arrived.ensures) in
    let rs = c.as_slice.ensures.value in
    let olds = subst (All (λ (a : Arrival). IfSome a.beside (IsOld f c.in_ok-had.had.items))) (sym rs) come.0 in
    let same = ap (map (plain_arrival f)) rs ∙ come.1 in
    let xs = items c.args.range (arrivals (plain_at_any f.scrolled f.elements kept) ws) in
    let after = progress_of f c.enter_all.new.walk c.enter_all.new.g c.enter_all.new.t.tree in
    let all = c.in_ok-children.ensures.entered f since olds in
    let w = all.walked in
    let bare = c.requires.empty in
    record {
      kids = all.kids;
      is = ap (λ zs. each (reenter B f.pasts second c.args.spot.left c.args.spot.now.items) zs start) (sym same) ∙ all.is;
      children = all.handles;
      elements = search rules;
      tops_are = search rules;
      renders = search rules;
      go_on = w.go_on;
      drawn_there = w.drawn;
      stored = all.stored;
    }

pub returns-clause-builds : goal.returns-clause-builds
returns-clause-builds g c = λ f since old.
    let B = basis_of c.args.from.now f in
    let t = c.args.t.now.tree in
    let kept = c.args.spot.kept in
    let ws = child_widgets (shared c.args.spot.list) in
    let was = c.args.spot.was.items in
    let start = progress_of f c.args.walk.now c.args.g.now t in
    let listed : map shared c.get.result.now ≡ ws = c.get.ensures.widgets ∙ ap (λ (w : Widget). w.children) c.deref.ensures ∙ sym (list_of-widgets_of c.args.spot.list.value.children) in
    let come = items_come f t since.elements was c.in_ok-had.had.items kept ws (arrived c.in_ok-arriving.arriving) c.in_ok-items.items.items c.args.range
    (λ h holds. c.kept_elements_are_known.ensures.live f.elements h holds)
    (λ h x known is. c.kept_elements_are_known.ensures.below f.pasts f.scrolled was f.elements f.renders h x known is)
    (λ h x is. c.keep_laws.ensures.value f.elements t h x since.elements is)
    (λ us k known. c.kept_elements_stay.ensures.node f.scrolled f.elements t k since.elements known.holds)
    (λ h live. let e = live_element f.elements h live in (_, c.kept_elements_are_known.ensures.node f.scrolled f.elements h e.0 (c.walk_laws.ensures.holds f.elements h since.tree live) e.1))
    c.in_ok-had.ensures.had
    (c.in_ok-arriving.ensures.arrivals f.scrolled ∙ ap (arrivals (plain_at_any f.scrolled t kept)) listed)
    old c.in_ok-arriving.ensures.beside
    (c.in_ok-items.ensures ∙ ap (λ xs. filter (is_there c.args.range) (map coming xs)) c.arrived.ensures) in
    let rs = c.as_slice.ensures.value in
    let olds = subst (All (λ (a : Arrival). IfSome a.beside (IsOld f c.in_ok-had.had.items))) (sym rs) come.0 in
    let same = ap (map (plain_arrival f)) rs ∙ come.1 in
    let xs = items c.args.range (arrivals (plain_at_any f.scrolled f.elements kept) ws) in
    c.in_ok-children.ensures.builds f since olds
    ∙ ap (λ zs. c.args.builds.now + builds_by_each (reenter B f.pasts second c.args.spot.left c.args.spot.now.items) (builds_from B f.pasts second c.args.spot.left c.args.spot.now.items) zs start) same

pub returns-clause-since : goal.returns-clause-since
returns-clause-since g c = c.in_ok-children.ensures.since

pub returns-clause-keeps : goal.returns-clause-keeps
returns-clause-keeps g c = c.in_ok-children.ensures.keeps

pub returns-clause-keeps_drawn : goal.returns-clause-keeps_drawn
returns-clause-keeps_drawn g c = c.in_ok-children.ensures.keeps_drawn

pub returns-clause-makes_drawn : goal.returns-clause-makes_drawn
returns-clause-makes_drawn g c = c.in_ok-children.ensures.makes_drawn

pub returns-clause-ready : goal.returns-clause-ready
returns-clause-ready g c = c.in_ok-children.ensures.ready

pub returns-clause-typed : goal.returns-clause-typed
returns-clause-typed g c = c.in_ok-children.ensures.spots

pub returns-clause-others : goal.returns-clause-others
returns-clause-others g c = c.in_ok-children.ensures.none_waits refl

pub returns-clause-empty : goal.returns-clause-empty
returns-clause-empty g c = record { elements = search rules; renders = search rules; tops = search rules }

pub returns-clause-held : goal.returns-clause-held
returns-clause-held g c = λ hs before.
    let bare = c.requires.empty in
    let first = subst (λ es. AreHeld c.args.g.now c.args.t.now.tree (hs ++ planned es)) (sym bare.elements) (subst (AreHeld c.args.g.now c.args.t.now.tree) (sym (append-nil hs)) before) in
    let then = c.in_ok-children.ensures.held hs first in
    search rules
