use Rattle.std.proofs.Common.{◌≡◌, suc, ◌+◌, ◌-◌, ◌<◌, ◌≤◌, rules, List, Some, None, length, map, take, drop, IfSome, refl, sym, ap, ◌∙◌, subst, arith}
use Rattle.std.proofs.lemmas.List.{take_all, length-map}
use Rattle.std.proofs.lemmas.Result.{err_from_is_err_and}
use Rattle.fx_expr.specs.declared.values.Value.{Value}
use Rattle.fx_expr.specs.Value.{type_of}
use Rattle.node_tree.specs.Mounting.{CanMount}
use Rattle.widget_model.specs.declared.widgets.Widget.{Widget}
use Rattle.widget_model.specs.Plain.{look_of, widgets_of}
use Rattle.widget_model.specs.Typed.{AreTypedWidgets}
use Rattle.widget_model.specs.View.{plain_of, shared, look_in, slots_in}
use Rattle.plain_tree.specs.Projection.{told_at, told_by}
use Rattle.plain_tree.specs.RenderRole.{render_role_of}
use Rattle.build_form.specs.BuildRole.{build_role_of}
use Rattle.build_form.specs.Entering.{first, values_below}
use Rattle.build_form.specs.Filling.{FitsNames}
use Rattle.build_form.specs.FaultView.{fault_of}
use Rattle.build_form.specs.FullBuild.{basis}
use Rattle.build_form.specs.Partner.{arrival}
use Rattle.build_form.specs.Step.{each}
use Rattle.build_form.proofs.Filled.{fits_names}
use Rattle.build_form.proofs.Outcomes.{some_map}
use Rattle.element_tree.specs.Element.{made_count}
use Rattle.versioned_kinds.specs.Lists.{IsNoList}
use Rattle.versioned_kinds.specs.Widgets.{AllLooksMeet}
use Rattle.build_walk.specs.Counting.{builds_from, builds_by_each}
use Rattle.build_walk.specs.Keeping.{reenter}
use Rattle.build_walk.specs.Walked.{WalkPlace, through, under}
use Rattle.build_walk.proofs.Building.{none_deeper, built_opening, stopped_at, count_more, count_last}
use Rattle.build_walk.proofs.Opening.{no_deeper, not_opened}
use Rattle.build_owner.specs.declared.names.Outer.{Outer}
use Rattle.build_owner.specs.NamesView.{with_outer}
use Rattle.build_owner.specs.WalkView.{declared_by, program_of}
use Rattle.build_owner.proofs.Cycling.{none_built, two_built, some_both}
use Rattle.build_owner.proofs.Later.{taken_more}
use Rattle.first_builds.specs.Inflated.{progress_at, IsInflated, AreInflated}
use Rattle.first_builds.specs.Mounted.{first_arrivals}
use Rattle.first_builds.specs.SpotView.{place_of}
use Rattle.first_builds.proofs.Cycling.{some_element, drawn_live, drawn_whole, drawn_stops, drawn_built, one_there, through_whole, through_stops, through_built}
use Rattle.first_builds.proofs.Nesting.{none_inflated, more_inflated}
use Rattle.first_builds.proofs.Nested.{look_alone, live_at, stays_live, grown_none, grown_more, unscrolled_later, typed_at, looks_at, taken_length, first_taken, first_split, just_one}
use Rattle.first_builds.proofs.inflating.+inflating.Goals as goal

-- ---- a widget

pub inflate-returns-then-left-eq0-clause-fault : goal.inflate-returns-then-left-eq0-clause-fault
inflate-returns-then-left-eq0-clause-fault g t c = λ pasts.
    no_deeper (basis (program_of c.args.from.now) None) pasts first c.args.left 0 c.args.values.now (arrival (shared c.args.widget.now) c.args.place None)
    (progress_at c.args.entered.now c.args.g.now c.args.t.now.tree) c.if-left-eq0.true

pub inflate-returns-then-left-eq0-clause-builds_at_fault : goal.inflate-returns-then-left-eq0-clause-builds_at_fault
inflate-returns-then-left-eq0-clause-builds_at_fault g t c = λ pasts.
    none_built c.args.builds.now _ (none_deeper (basis (program_of c.args.from.now) None) pasts first c.args.left 0 c.args.values.now (arrival (shared c.args.widget.now) c.args.place None)
    (progress_at c.args.entered.now c.args.g.now c.args.t.now.tree) c.if-left-eq0.true)

pub inflate-returns-in_err-mounted-clause-fault : goal.inflate-returns-in_err-mounted-clause-fault
inflate-returns-in_err-mounted-clause-fault g t c =
    let p = err_from_is_err_and c.from_residual.result c.from_residual.ensures.1 in
    let k : c.args.left ≡ suc (c.args.left - 1) = omega arith in
    rw (p.1, p.2) (some_map _ _ (fault_of c.in_err-mounted.field-0.0)
    (λ x h. λ pasts. not_opened (basis (program_of c.args.from.now) None) pasts first c.args.left (c.args.left - 1) c.args.values.now (arrival (shared c.args.widget.now) c.args.place None)
    (progress_at c.args.entered.now c.args.g.now c.args.t.now.tree) x k (h pasts))
    c.in_err-mounted.ensures.fault)

pub inflate-returns-in_err-mounted-clause-builds_at_fault : goal.inflate-returns-in_err-mounted-clause-builds_at_fault
inflate-returns-in_err-mounted-clause-builds_at_fault g t c =
    let p = err_from_is_err_and c.from_residual.result c.from_residual.ensures.1 in
    let k : c.args.left ≡ suc (c.args.left - 1) = omega arith in
    rw (p.1, p.2) (some_both _ _ _ (fault_of c.in_err-mounted.field-0.0)
    (λ x stopped built. λ pasts. built pasts ∙ ap (λ n. c.args.builds.now + n)
    (sym (built_opening (basis (program_of c.args.from.now) None) pasts first c.args.left (c.args.left - 1) c.args.values.now (arrival (shared c.args.widget.now) c.args.place None)
    (progress_at c.args.entered.now c.args.g.now c.args.t.now.tree) x k (stopped pasts))))
    c.in_err-mounted.ensures.fault c.in_err-mounted.ensures.builds_at_fault)

pub inflate-inflate_each-requires : goal.inflate-inflate_each-requires
inflate-inflate_each-requires g t c κs within =
    let node = c.in_ok-mounted.mounted in
    let lone = look_alone (shared c.args.widget.now) c.requires.listless in
    let given = c.given_of-given.ensures in
    let m = c.in_ok-mounted.ensures.mounted (λ _. None) (λ _. 0) (λ n above. refl) in
    let k : c.args.left ≡ suc (c.args.left - 1) = omega arith in
    let at = live_at c.mount_node.new.t.tree node.at m.element m.stored in
    let above = drawn_live m c.args.left (c.args.left - 1) k lone (map shared c.given_of-given.result.now) given c.in-Some.above c.in-Some.is in
    let typed = subst (λ ws. AreTypedWidgets (declared_by c.args.from.now) (widgets_of ws)) (sym given) c.in_ok-mounted.ensures.typed in
    let listless = subst (λ ws. AllLooksMeet IsNoList (widgets_of ws)) (sym given) (c.in_ok-mounted.ensures.lists c.requires.bodies c.requires.listless) in
    let kind = subst (λ (x : Widget). IsNoList (look_in x.kind)) (sym c.deref.ensures) lone in
    (omega (arith, c.decreases), (search (rules, within), (c.in_ok-mounted.ensures.ready, (c.requires.values, (typed, (at, (above, (kind, (c.requires.bodies, listless)))))))))

pub inflate-returns-in_err-inflate_each-clause-fault : goal.inflate-returns-in_err-inflate_each-clause-fault
inflate-returns-in_err-inflate_each-clause-fault g t c =
    let p = err_from_is_err_and c.from_residual-in_err-inflate_each.result c.from_residual-in_err-inflate_each.ensures.1 in
    let k : c.args.left ≡ suc (c.args.left - 1) = omega arith in
    rw (p.1, p.2) (some_map _ _ (fault_of c.in_err-inflate_each.field-0.0)
    (λ x h. λ pasts.
    drawn_stops (c.in_ok-mounted.ensures.mounted pasts (λ _. 0) (λ n above. refl)) c.args.left (c.args.left - 1) k (look_alone (shared c.args.widget.now) c.requires.listless)
    (map shared c.given_of-given.result.now) c.given_of-given.ensures c.in-Some.above c.in-Some.is x (h pasts))
    c.in_err-inflate_each.ensures.fault)

pub inflate-returns-in_err-inflate_each-clause-builds_at_fault : goal.inflate-returns-in_err-inflate_each-clause-builds_at_fault
inflate-returns-in_err-inflate_each-clause-builds_at_fault g t c =
    let p = err_from_is_err_and c.from_residual-in_err-inflate_each.result c.from_residual-in_err-inflate_each.ensures.1 in
    let k : c.args.left ≡ suc (c.args.left - 1) = omega arith in
    rw (p.1, p.2) (some_map _ _ (fault_of c.in_err-inflate_each.field-0.0)
    (λ x h. λ pasts.
    two_built c.args.builds.now c.mount_node.new.builds c.inflate_each.new.builds _ _ _ (c.in_ok-mounted.ensures.builds pasts) (h pasts)
    (drawn_built (c.in_ok-mounted.ensures.mounted pasts (λ _. 0) (λ n above. refl)) c.args.left (c.args.left - 1) k (look_alone (shared c.args.widget.now) c.requires.listless)
    (map shared c.given_of-given.result.now) c.given_of-given.ensures c.in-Some.above c.in-Some.is))
    c.in_err-inflate_each.ensures.builds_at_fault)

pub inflate-returns-clause-inflated : goal.inflate-returns-clause-inflated
inflate-returns-clause-inflated g t c = λ pasts scrolled none.
    let k : c.args.left ≡ suc (c.args.left - 1) = omega arith in
    let later = unscrolled_later scrolled (made_count c.args.t.now.tree) (made_count c.mount_node.new.t.tree) c.in_ok-mounted.ensures.grown.makes.grows none in
    let role = ap (λ (x : Widget). render_role_of (look_in x.kind)) c.deref.ensures in
    drawn_whole (c.in_ok-mounted.ensures.mounted pasts scrolled none) c.args.left (c.args.left - 1) k (look_alone (shared c.args.widget.now) c.requires.listless)
    (map shared c.given_of-given.result.now) c.given_of-given.ensures c.in-Some.above c.in-Some.is
    (progress_at c.inflate_each.new.entered c.inflate_each.new.g c.inflate_each.new.t.tree) c.inflate_each.new.t.tree c.inflate_each.new.r.tree c.in_ok-inflate_each.ensures.grown
    (λ e is. c.in_ok-inflate_each.ensures.inflated pasts scrolled later e (is ∙ sym role))

pub inflate-returns-clause-builds : goal.inflate-returns-clause-builds
inflate-returns-clause-builds g t c = λ pasts.
    let k : c.args.left ≡ suc (c.args.left - 1) = omega arith in
    two_built c.args.builds.now c.mount_node.new.builds c.inflate_each.new.builds _ _ _ (c.in_ok-mounted.ensures.builds pasts) (c.in_ok-inflate_each.ensures.builds pasts)
    (drawn_built (c.in_ok-mounted.ensures.mounted pasts (λ _. 0) (λ n above. refl)) c.args.left (c.args.left - 1) k (look_alone (shared c.args.widget.now) c.requires.listless)
    (map shared c.given_of-given.result.now) c.given_of-given.ensures c.in-Some.above c.in-Some.is)

pub inflate-returns-clause-grown : goal.inflate-returns-clause-grown
inflate-returns-clause-grown g t c =
    grown_more c.args.t.now.tree c.mount_node.new.t.tree c.inflate_each.new.t.tree c.args.r.now.tree c.mount_node.new.r.tree c.inflate_each.new.r.tree c.in_ok-mounted.ensures.grown c.in_ok-inflate_each.ensures.grown

pub inflate-bounds-given-0 : goal.inflate-bounds-given-0
inflate-bounds-given-0 g t c =
    let k : c.args.left ≡ suc (c.args.left - 1) = omega arith in
    let one = one_there (c.in_ok-mounted.ensures.mounted (λ _. None) (λ _. 0) (λ n above. refl)) c.args.left (c.args.left - 1) k (look_alone (shared c.args.widget.now) c.requires.listless)
    (map shared c.given_of-given.result.now) c.given_of-given.ensures c.in-None.is c.in_ok-mounted.ensures.one in
    let alone : length c.given_of-given.result.now ≡ 1 = sym (length-map c.given_of-given.result.now shared) ∙ one in
    omega (arith, alone)

pub inflate-inflate_only-requires : goal.inflate-inflate_only-requires
inflate-inflate_only-requires g t c κs within =
    let d = declared_by c.args.from.now in
    let node = c.in_ok-mounted.mounted in
    let xs = c.given_of-given.result.now in
    let x = c.index-given-0.result in
    let given = c.given_of-given.ensures in
    let k : c.args.left ≡ suc (c.args.left - 1) = omega arith in
    let m = c.in_ok-mounted.ensures.mounted (λ _. None) (λ _. 0) (λ n above. refl) in
    let one = one_there m c.args.left (c.args.left - 1) k (look_alone (shared c.args.widget.now) c.requires.listless) (map shared xs) given c.in-None.is c.in_ok-mounted.ensures.one in
    let alone : length xs ≡ 1 = sym (length-map xs shared) ∙ one in
    let low : 0 < length xs = omega (arith, alone) in
    let at = live_at c.mount_node.new.t.tree node.at m.element m.stored in
    let above = subst (λ s. CanMount s c.args.spot.now.above) (sym (c.in_ok-mounted.ensures.undrawn c.in-None.is)) c.requires.above in
    let child = typed_at d shared xs 0 x low c.index-given-0.is (subst (λ ws. AreTypedWidgets d (widgets_of ws)) (sym given) c.in_ok-mounted.ensures.typed) in
    let listless = looks_at IsNoList shared xs 0 x low c.index-given-0.is (subst (λ ws. AllLooksMeet IsNoList (widgets_of ws)) (sym given) (c.in_ok-mounted.ensures.lists c.requires.bodies c.requires.listless)) in
    (omega (arith, c.decreases), (search (rules, within), (c.in_ok-mounted.ensures.ready, (c.requires.values, (c.requires.widget, (child, (at, (above, (c.requires.no_list, (c.requires.bodies, listless))))))))))

pub inflate-returns-in_err-inflate_only-in-None-clause-fault : goal.inflate-returns-in_err-inflate_only-in-None-clause-fault
inflate-returns-in_err-inflate_only-in-None-clause-fault g t c =
    let p = err_from_is_err_and c.from_residual-in_err-inflate_only-in-None.result c.from_residual-in_err-inflate_only-in-None.ensures.1 in
    let k : c.args.left ≡ suc (c.args.left - 1) = omega arith in
    let lone = look_alone (shared c.args.widget.now) c.requires.listless in
    let xs = c.given_of-given.result.now in
    rw (p.1, p.2) (some_map _ _ (fault_of c.in_err-inflate_only-in-None.field-0.0)
    (λ x h. λ pasts.
    let m = c.in_ok-mounted.ensures.mounted pasts (λ _. 0) (λ n above. refl) in
    let one = one_there m c.args.left (c.args.left - 1) k lone (map shared xs) c.given_of-given.ensures c.in-None.is c.in_ok-mounted.ensures.one in
    through_stops m c.args.left (c.args.left - 1) k lone (map shared xs) c.given_of-given.ensures c.in-None.is (shared c.index-given-0.result) (just_one shared xs c.index-given-0.result one c.index-given-0.is) x (h pasts))
    c.in_err-inflate_only-in-None.ensures.fault)

pub inflate-returns-in_err-inflate_only-in-None-clause-builds_at_fault : goal.inflate-returns-in_err-inflate_only-in-None-clause-builds_at_fault
inflate-returns-in_err-inflate_only-in-None-clause-builds_at_fault g t c =
    let p = err_from_is_err_and c.from_residual-in_err-inflate_only-in-None.result c.from_residual-in_err-inflate_only-in-None.ensures.1 in
    let k : c.args.left ≡ suc (c.args.left - 1) = omega arith in
    let lone = look_alone (shared c.args.widget.now) c.requires.listless in
    let xs = c.given_of-given.result.now in
    rw (p.1, p.2) (some_map _ _ (fault_of c.in_err-inflate_only-in-None.field-0.0)
    (λ x h. λ pasts.
    let m = c.in_ok-mounted.ensures.mounted pasts (λ _. 0) (λ n above. refl) in
    let one = one_there m c.args.left (c.args.left - 1) k lone (map shared xs) c.given_of-given.ensures c.in-None.is c.in_ok-mounted.ensures.one in
    two_built c.args.builds.now c.mount_node.new.builds c.inflate_only.new.builds _ _ _ (c.in_ok-mounted.ensures.builds pasts) (h pasts)
    (through_built m c.args.left (c.args.left - 1) k lone (map shared xs) c.given_of-given.ensures c.in-None.is (shared c.index-given-0.result) (just_one shared xs c.index-given-0.result one c.index-given-0.is)))
    c.in_err-inflate_only-in-None.ensures.builds_at_fault)

pub inflate-returns-in-None-clause-inflated : goal.inflate-returns-in-None-clause-inflated
inflate-returns-in-None-clause-inflated g t c = λ pasts scrolled none.
    let k : c.args.left ≡ suc (c.args.left - 1) = omega arith in
    let lone = look_alone (shared c.args.widget.now) c.requires.listless in
    let xs = c.given_of-given.result.now in
    let m = c.in_ok-mounted.ensures.mounted pasts scrolled none in
    let one = one_there m c.args.left (c.args.left - 1) k lone (map shared xs) c.given_of-given.ensures c.in-None.is c.in_ok-mounted.ensures.one in
    let later = unscrolled_later scrolled (made_count c.args.t.now.tree) (made_count c.mount_node.new.t.tree) c.in_ok-mounted.ensures.grown.makes.grows none in
    through_whole m c.args.left (c.args.left - 1) k lone (map shared xs) c.given_of-given.ensures c.in-None.is (shared c.index-given-0.result) (just_one shared xs c.index-given-0.result one c.index-given-0.is)
    (progress_at c.inflate_only.new.entered c.inflate_only.new.g c.inflate_only.new.t.tree) c.inflate_only.new.t.tree c.inflate_only.new.r.tree c.in_ok-inflate_only-in-None.field-0 c.in_ok-inflate_only-in-None.ensures.grown
    (λ e is place. c.in_ok-inflate_only-in-None.ensures.inflated pasts scrolled later e is place)

pub inflate-returns-in-None-clause-builds : goal.inflate-returns-in-None-clause-builds
inflate-returns-in-None-clause-builds g t c = λ pasts.
    let k : c.args.left ≡ suc (c.args.left - 1) = omega arith in
    let lone = look_alone (shared c.args.widget.now) c.requires.listless in
    let xs = c.given_of-given.result.now in
    let m = c.in_ok-mounted.ensures.mounted pasts (λ _. 0) (λ n above. refl) in
    let one = one_there m c.args.left (c.args.left - 1) k lone (map shared xs) c.given_of-given.ensures c.in-None.is c.in_ok-mounted.ensures.one in
    two_built c.args.builds.now c.mount_node.new.builds c.inflate_only.new.builds _ _ _ (c.in_ok-mounted.ensures.builds pasts) (c.in_ok-inflate_only-in-None.ensures.builds pasts)
    (through_built m c.args.left (c.args.left - 1) k lone (map shared xs) c.given_of-given.ensures c.in-None.is (shared c.index-given-0.result) (just_one shared xs c.index-given-0.result one c.index-given-0.is))

pub inflate-returns-in-None-clause-grown : goal.inflate-returns-in-None-clause-grown
inflate-returns-in-None-clause-grown g t c =
    grown_more c.args.t.now.tree c.mount_node.new.t.tree c.inflate_only.new.t.tree c.args.r.now.tree c.mount_node.new.r.tree c.inflate_only.new.r.tree c.in_ok-mounted.ensures.grown c.in_ok-inflate_only-in-None.ensures.grown

-- ---- the only child of a widget without a render node

pub inflate_only-provide_below-requires : goal.inflate_only-provide_below-requires
inflate_only-provide_below-requires g t c =
    let w = c.args.widget.now.value in
    subst (λ (x : Widget). FitsNames (map type_of c.args.values.now) (build_role_of (look_in x.kind))) (sym c.deref-2.ensures)
    (fits_names (declared_by c.args.from.now) (look_in w.kind) w.key (widgets_of (slots_in w.kind)) (widgets_of w.children) (map type_of c.args.values.now) c.requires.widget c.requires.values)

pub inflate_only-inflate-requires : goal.inflate_only-inflate-requires
inflate_only-inflate-requires g t c κs within =
    (omega (arith, c.decreases), (search (rules, within), (c.requires.ready, (c.in_ok-outer.ensures.typed ∙ c.requires.values, (c.requires.child, (c.requires.at, (c.requires.above, (c.requires.no_list, (c.requires.bodies, c.requires.listless)))))))))

pub inflate_only-returns-in_err-child-clause-fault : goal.inflate_only-returns-in_err-child-clause-fault
inflate_only-returns-in_err-child-clause-fault g t c =
    let p = err_from_is_err_and c.from_residual-in_err-child.result c.from_residual-in_err-child.ensures.1 in
    let now = c.in_ok-outer.ensures.below ∙ ap (λ (x : Widget). values_below (plain_of x) c.args.values.now) c.deref-2.ensures in
    rw (p.1, p.2) (some_map _ _ (fault_of c.in_err-child.field-0.0)
    (λ x h. λ pasts.
    ap (λ vs. reenter (basis (program_of c.args.from.now) None) pasts first c.args.left vs (arrival (shared c.args.child.now) 0 None) (progress_at c.args.entered.now c.args.g.now c.args.t.now.tree)) (sym now) ∙ h pasts)
    c.in_err-child.ensures.fault)

pub inflate_only-returns-in_err-child-clause-builds_at_fault : goal.inflate_only-returns-in_err-child-clause-builds_at_fault
inflate_only-returns-in_err-child-clause-builds_at_fault g t c =
    let p = err_from_is_err_and c.from_residual-in_err-child.result c.from_residual-in_err-child.ensures.1 in
    let now = c.in_ok-outer.ensures.below ∙ ap (λ (x : Widget). values_below (plain_of x) c.args.values.now) c.deref-2.ensures in
    rw (p.1, p.2) (some_map _ _ (fault_of c.in_err-child.field-0.0)
    (λ x h. λ pasts. h pasts
    ∙ ap (λ vs. c.args.builds.now + builds_from (basis (program_of c.args.from.now) None) pasts first c.args.left vs (arrival (shared c.args.child.now) 0 None) (progress_at c.args.entered.now c.args.g.now c.args.t.now.tree)) now)
    c.in_err-child.ensures.builds_at_fault)

pub inflate_only-restore-requires : goal.inflate_only-restore-requires
inflate_only-restore-requires g t c =
    subst (λ (vs : List Value). IfSome c.in_ok-outer.outer (λ (x : Outer). x.name < length vs)) (sym c.in_ok-child.ensures.values) c.in_ok-outer.ensures.within

pub inflate_only-returns-clause-inflated : goal.inflate_only-returns-clause-inflated
inflate_only-returns-clause-inflated g t c = λ pasts scrolled none e same placed.
    let P = place_of c.args.spot.now in
    let w = shared c.args.widget.now in
    let role = ap (λ (x : Widget). render_role_of (look_in x.kind)) c.deref.ensures ∙ ap (λ v. render_role_of (look_of v)) (sym same) in
    let there : WalkPlace = record { parent = Some c.args.at; above = P.above; role = P.role; told = Some c.told_through-told.result } in
    let place : there ≡ through P c.args.at e =
    λ i. record { parent = Some c.args.at; above = P.above; role = P.role; told = Some ((c.told_through-told.ensures ∙ (λ j. told_by P.role (role j) (told_at P.role P.told (sym placed j)))) i) } in
    let now = c.in_ok-outer.ensures.below ∙ ap (λ (x : Widget). values_below (plain_of x) c.args.values.now) c.deref-2.ensures in
    subst (λ (X : Type 0). X)
    (λ i. IsInflated (program_of c.args.from.now) pasts c.args.left (now i) scrolled (place i) (shared c.args.child.now) 0 (progress_at c.args.entered.now c.args.g.now c.args.t.now.tree)
    (progress_at c.inflate.new.entered c.inflate.new.g c.inflate.new.t.tree) c.args.t.now.tree c.inflate.new.t.tree c.args.r.now.tree c.inflate.new.r.tree c.in_ok-child.child)
    (c.in_ok-child.ensures.inflated pasts scrolled none)

pub inflate_only-returns-clause-builds : goal.inflate_only-returns-clause-builds
inflate_only-returns-clause-builds g t c = λ pasts.
    let now = c.in_ok-outer.ensures.below ∙ ap (λ (x : Widget). values_below (plain_of x) c.args.values.now) c.deref-2.ensures in
    c.in_ok-child.ensures.builds pasts
    ∙ ap (λ vs. c.args.builds.now + builds_from (basis (program_of c.args.from.now) None) pasts first c.args.left vs (arrival (shared c.args.child.now) 0 None) (progress_at c.args.entered.now c.args.g.now c.args.t.now.tree)) now

pub inflate_only-returns-clause-values : goal.inflate_only-returns-clause-values
inflate_only-returns-clause-values g t c = c.restore.ensures ∙ ap (with_outer c.in_ok-outer.outer) c.in_ok-child.ensures.values ∙ c.in_ok-outer.ensures.outer

-- ---- widgets one after another, below an element with a render node

pub inflate_each-loop-i-init : goal.inflate_each-loop-i-init
inflate_each-loop-i-init g t c = (
  record {
    inflated = λ pasts scrolled none e is.
        none_inflated (program_of c.args.from.now) pasts c.args.left c.args.values.now scrolled c.args.parent c.args.above e (progress_at c.args.entered.now c.args.g.now c.args.t.now.tree) c.args.t.now.tree c.args.r.now.tree;
    builds_are = λ pasts. none_built c.args.builds.now 0 refl;
    ready = c.requires.ready;
    grown = grown_none c.args.t.now.tree c.args.r.now.tree;
    now_is = refl;
  },
  refl,
)

pub inflate_each-inflate-requires : goal.inflate_each-inflate-requires
inflate_each-inflate-requires g t c κs within =
    let inv = c.loop-i.invariant.0 in
    let x = c.index-widgets-i.result in
    let xs = c.args.widgets.now in
    let typed = typed_at (declared_by c.args.from.now) shared xs c.loop-i.i x c.loop-i-test.true c.index-widgets-i.is c.requires.widgets in
    let alone = looks_at IsNoList shared xs c.loop-i.i x c.loop-i-test.true c.index-widgets-i.is c.requires.listless in
    let at = stays_live c.args.t.now.tree c.loop-i.t.tree c.args.parent inv.grown.stay c.requires.parent in
    let above = stays_live c.args.r.now.tree c.loop-i.r.tree c.args.above inv.grown.stay_drawn c.requires.above in
    (omega (arith, c.decreases), (search (rules, within), (inv.ready, (ap (map type_of) inv.now_is ∙ c.requires.values, (typed, (at, (above, (c.requires.no_list, (c.requires.bodies, alone)))))))))

pub inflate_each-returns-in_err-inflate-clause-fault : goal.inflate_each-returns-in_err-inflate-clause-fault
inflate_each-returns-in_err-inflate-clause-fault g t c =
    let p = err_from_is_err_and c.from_residual.result c.from_residual.ensures.1 in
    rw (p.1, p.2) (some_map _ _ (fault_of c.in_err-inflate.field-0.0)
    (λ f h. λ pasts.
    let inv = c.loop-i.invariant.0 in
    let B = basis (program_of c.args.from.now) None in
    let x = c.index-widgets-i.result in
    let xs = c.args.widgets.now in
    let ws = map shared xs in
    let vs = c.args.values.now in
    let start = progress_at c.args.entered.now c.args.g.now c.args.t.now.tree in
    let mid = progress_at c.loop-i.entered c.loop-i.g c.loop-i.t.tree in
    let before = inv.inflated pasts (λ _. 0) (λ n above. refl) (some_element (look_in c.args.kind.now)) refl in
    ap (λ l. each (reenter B pasts first c.args.left vs) l start) (first_split shared xs c.loop-i.i x c.loop-i-test.true c.index-widgets-i.is)
    ∙ stopped_at (reenter B pasts first c.args.left vs) (first_arrivals 0 (take c.loop-i.i ws)) (first_arrivals (suc c.loop-i.i) (drop (suc c.loop-i.i) ws)) (arrival (shared x) c.loop-i.i None) start mid _ f before.is
    (ap (λ us. reenter B pasts first c.args.left us (arrival (shared x) c.loop-i.i None) mid) (sym inv.now_is) ∙ h pasts))
    c.in_err-inflate.ensures.fault)

pub inflate_each-returns-in_err-inflate-clause-builds_at_fault : goal.inflate_each-returns-in_err-inflate-clause-builds_at_fault
inflate_each-returns-in_err-inflate-clause-builds_at_fault g t c =
    let p = err_from_is_err_and c.from_residual.result c.from_residual.ensures.1 in
    rw (p.1, p.2) (some_both _ _ _ (fault_of c.in_err-inflate.field-0.0)
    (λ f h more. λ pasts.
    let inv = c.loop-i.invariant.0 in
    let B = basis (program_of c.args.from.now) None in
    let x = c.index-widgets-i.result in
    let xs = c.args.widgets.now in
    let ws = map shared xs in
    let vs = c.args.values.now in
    let start = progress_at c.args.entered.now c.args.g.now c.args.t.now.tree in
    let mid = progress_at c.loop-i.entered c.loop-i.g c.loop-i.t.tree in
    let a = arrival (shared x) c.loop-i.i None in
    let before = inv.inflated pasts (λ _. 0) (λ n above. refl) (some_element (look_in c.args.kind.now)) refl in
    let go = reenter B pasts first c.args.left vs in
    let count = builds_from B pasts first c.args.left vs in
    two_built c.args.builds.now c.loop-i.builds c.inflate.new.builds (builds_by_each go count (first_arrivals 0 (take c.loop-i.i ws)) start) (count a mid) (builds_by_each go count (first_arrivals 0 ws) start)
    (inv.builds_are pasts)
    (more pasts ∙ ap (λ us. c.loop-i.builds + builds_from B pasts first c.args.left us a mid) inv.now_is)
    (ap (λ l. builds_by_each go count l start) (first_split shared xs c.loop-i.i x c.loop-i-test.true c.index-widgets-i.is)
    ∙ count_last go count (first_arrivals 0 (take c.loop-i.i ws)) (first_arrivals (suc c.loop-i.i) (drop (suc c.loop-i.i) ws)) a start mid _ f before.is
    (ap (λ us. reenter B pasts first c.args.left us a mid) (sym inv.now_is) ∙ h pasts)))
    c.in_err-inflate.ensures.fault c.in_err-inflate.ensures.builds_at_fault)

pub inflate_each-loop-i-preserved : goal.inflate_each-loop-i-preserved
inflate_each-loop-i-preserved g t c =
    let inv = c.loop-i.invariant.0 in
    let one = c.in_ok-inflate.ensures in
    let b = program_of c.args.from.now in
    let x = c.index-widgets-i.result in
    let xs = c.args.widgets.now in
    let ws = map shared xs in
    let i = c.loop-i.i in
    let vs = c.args.values.now in
    let start = progress_at c.args.entered.now c.args.g.now c.args.t.now.tree in
    let mid = progress_at c.loop-i.entered c.loop-i.g c.loop-i.t.tree in
    let u = c.inflate.new.t.tree in
    let s = c.inflate.new.r.tree in
    let after = progress_at c.inflate.new.entered c.inflate.new.g u in
    let more = taken_more shared xs i x c.loop-i-test.true c.index-widgets-i.is in
    let placed = taken_length shared xs i x c.loop-i-test.true c.index-widgets-i.is in (
      record {
        inflated = λ pasts scrolled none e is.
            let later = unscrolled_later scrolled (made_count c.args.t.now.tree) (made_count c.loop-i.t.tree) inv.grown.makes.grows none in
            let there : WalkPlace = record { parent = Some c.args.parent; above = Some c.args.above; role = render_role_of (look_in c.args.kind.now); told = None } in
            let place : there ≡ under c.args.parent c.args.above e = λ j. record { parent = Some c.args.parent; above = Some c.args.above; role = sym is j; told = None } in
            subst (λ l. AreInflated b pasts c.args.left vs scrolled (under c.args.parent c.args.above e) l 0 start after c.args.t.now.tree u c.args.r.now.tree s) (sym more)
            (more_inflated b pasts c.args.left vs scrolled c.args.parent c.args.above e (take i ws) (shared x) start mid after c.args.t.now.tree c.loop-i.t.tree u c.args.r.now.tree c.loop-i.r.tree s c.in_ok-inflate.field-0
            one.grown.stay one.grown.stay_drawn (inv.inflated pasts scrolled none e is) (subst (λ (X : Type 0). X)
            (λ j. IsInflated b pasts c.args.left (inv.now_is j) scrolled (place j) (shared x) (sym placed j) mid after c.loop-i.t.tree u c.loop-i.r.tree s c.in_ok-inflate.field-0)
            (one.inflated pasts scrolled later)));
        builds_are = λ pasts.
            let B = basis b None in
            let go = reenter B pasts first c.args.left vs in
            let count = builds_from B pasts first c.args.left vs in
            let a = arrival (shared x) i None in
            let before = inv.inflated pasts (λ _. 0) (λ n above. refl) (some_element (look_in c.args.kind.now)) refl in
            two_built c.args.builds.now c.loop-i.builds c.inflate.new.builds (builds_by_each go count (first_arrivals 0 (take i ws)) start) (count a mid) (builds_by_each go count (first_arrivals 0 (take (i + 1) ws)) start)
            (inv.builds_are pasts)
            (one.builds pasts ∙ ap (λ us. c.loop-i.builds + builds_from B pasts first c.args.left us a mid) inv.now_is)
            (ap (λ l. builds_by_each go count l start) (first_taken shared xs i x c.loop-i-test.true c.index-widgets-i.is) ∙ count_more go count (first_arrivals 0 (take i ws)) a start mid _ before.is);
        ready = one.ready;
        grown = grown_more c.args.t.now.tree c.loop-i.t.tree u c.args.r.now.tree c.loop-i.r.tree s inv.grown one.grown;
        now_is = one.values ∙ inv.now_is;
      },
      one.scale ∙ c.loop-i.invariant.1,
    )

pub inflate_each-returns-clause-inflated : goal.inflate_each-returns-clause-inflated
inflate_each-returns-clause-inflated g t c = λ pasts scrolled none e is.
    let ws = map shared c.args.widgets.now in
    let long : length ws ≤ c.loop-i.i = rw length-map (omega arith) in
    subst (λ l. AreInflated (program_of c.args.from.now) pasts c.args.left c.args.values.now scrolled (under c.args.parent c.args.above e) l 0 (progress_at c.args.entered.now c.args.g.now c.args.t.now.tree)
    (progress_at c.loop-i.entered c.loop-i.g c.loop-i.t.tree) c.args.t.now.tree c.loop-i.t.tree c.args.r.now.tree c.loop-i.r.tree)
    (take_all c.loop-i.i ws long) (c.loop-i.invariant.0.inflated pasts scrolled none e is)

pub inflate_each-returns-clause-builds : goal.inflate_each-returns-clause-builds
inflate_each-returns-clause-builds g t c = λ pasts.
    let B = basis (program_of c.args.from.now) None in
    let vs = c.args.values.now in
    let ws = map shared c.args.widgets.now in
    let long : length ws ≤ c.loop-i.i = rw length-map (omega arith) in
    c.loop-i.invariant.0.builds_are pasts
    ∙ ap (λ l. c.args.builds.now + builds_by_each (reenter B pasts first c.args.left vs) (builds_from B pasts first c.args.left vs) (first_arrivals 0 l) (progress_at c.args.entered.now c.args.g.now c.args.t.now.tree))
    (take_all c.loop-i.i ws long)
