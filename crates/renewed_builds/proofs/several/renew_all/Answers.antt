use Rattle.std.proofs.Common.{◌≡◌, ℕ, suc, ◌+◌, ◌∙◌, List, [], ◌∷◌, true, false, Some, Ok, option_map, map, length, take, drop, drop-cons, get_or, refl, sym, ap, subst, arith}
use Rattle.std.specs.List.{All}
use Rattle.std.proofs.lemmas.List.{take_more, drop_all}
use Rattle.std.proofs.lemmas.List.Elements.{All-weaker}
use Rattle.std.proofs.lemmas.Option.{slice_get-get_or}
use Rattle.fx_handles.specs.declared.Handle.{Handle}
use Rattle.program_check.specs.CheckedView.{plain_checked}
use Rattle.template_build.specs.Program.{declarations_of}
use Rattle.build_form.specs.FaultView.{fault_of}
use Rattle.build_form.specs.Program.{blueprint_of}
use Rattle.build_form.proofs.Outcomes.{some_map}
use Rattle.renewed_builds.specs.Several.{IsStaleTree}
use Rattle.renewed_builds.specs.Taking.{FollowsChange, WritesAll, after_changes}
use Rattle.renewed_builds.proofs.Becoming.{IsTaking, to_other, taking_follows}
use Rattle.renewed_builds.proofs.Changing.{zero_handle}
use Rattle.renewed_builds.proofs.Ended.{handles_itself, handles_then, sum_then, some_two, renewed_all}
use Rattle.renewed_builds.proofs.Goes.{goes_on}
use Rattle.renewed_builds.proofs.Gone.{Laws, Ahead, Built, begins, component, stops_whole, stops_builds, left_so}
use Rattle.renewed_builds.proofs.several.renew_all.Goals as goal

pub loop-h-init : goal.loop-h-init
loop-h-init g c = (
  λ x.
      let C = plain_checked c.args.checked.now in
      begins C c.args.t.now.tree c.args.hs.now x c.new-changes.result.items c.new-changes.ensures.items
      (c.rearrangements_go_on.ensures.begun (blueprint_of C) x.marks x.tree (c.built_trees_vanish_alone.ensures (declarations_of C) x.tree x.stands.well)),
  (omega arith),
  λ r named. named,
  λ k. refl,
  handles_itself c.args.t.now.tree.nodes,
  refl,
  (omega arith),
)

pub step-requires : goal.step-requires
step-requires g c =
    let C = plain_checked c.args.checked.now in
    let b = blueprint_of C in
    let t = c.args.t.now.tree in
    let u = c.loop-h.t.tree in
    let hs = c.args.hs.now in
    let i = c.loop-h.h-index in
    let h = get_or hs i zero_handle in
    let laws : Laws = record {
      spot = c.first_components_stand.ensures.spot;
      node = c.first_components_stand.ensures.node;
      component = c.first_components_stand.ensures.component;
      left = c.left_steps_lead.ensures;
      entered = c.builds_go_on_alike.ensures.entered;
      ready = c.retaken_trees_are_ready.ensures;
      leads = c.steps_lead.ensures;
      follow = c.steps_follow_on.ensures.follow;
      spots = c.marked_spots_stay.ensures;
      rearranged = c.rearrangements_go_on.ensures.taken;
      same = λ v w. (c.same_means_equal.ensures.widgets v w).0;
      itself = λ v. (c.same_means_equal.ensures.widgets v v).1 refl;
    } in
    let ahead : IsStaleTree C t hs → Ahead = λ x. record { c = C; t = t; u = u; hs = hs; x = x; done = i; cs = c.loop-h.changes.items; gone = c.loop-h.invariant.0 x; laws = laws; h = h; rest = drop (suc i) hs; next_is = drop-cons hs i zero_handle c.loop-h-test.true } in
    (component (ahead c.requires), c.requires.ready.settled)

pub returns-in-Err-clause-fault : goal.returns-in-Err-clause-fault
returns-in-Err-clause-fault g c =
    let C = plain_checked c.args.checked.now in
    let b = blueprint_of C in
    let t = c.args.t.now.tree in
    let u = c.loop-h.t.tree in
    let hs = c.args.hs.now in
    let i = c.loop-h.h-index in
    let h = get_or hs i zero_handle in
    let laws : Laws = record {
      spot = c.first_components_stand.ensures.spot;
      node = c.first_components_stand.ensures.node;
      component = c.first_components_stand.ensures.component;
      left = c.left_steps_lead.ensures;
      entered = c.builds_go_on_alike.ensures.entered;
      ready = c.retaken_trees_are_ready.ensures;
      leads = c.steps_lead.ensures;
      follow = c.steps_follow_on.ensures.follow;
      spots = c.marked_spots_stay.ensures;
      rearranged = c.rearrangements_go_on.ensures.taken;
      same = λ v w. (c.same_means_equal.ensures.widgets v w).0;
      itself = λ v. (c.same_means_equal.ensures.widgets v v).1 refl;
    } in
    let ahead : IsStaleTree C t hs → Ahead = λ x. record { c = C; t = t; u = u; hs = hs; x = x; done = i; cs = c.loop-h.changes.items; gone = c.loop-h.invariant.0 x; laws = laws; h = h; rest = drop (suc i) hs; next_is = drop-cons hs i zero_handle c.loop-h-test.true } in
    some_map _ _ (fault_of c.in-Err.e) (λ f stopped. λ x screen. stops_whole (ahead x) f (stopped (component (ahead x))) c.first_components_stop_builds.ensures.whole screen) c.in-Err.ensures.fault

pub returns-in-Err-clause-builds_at_fault : goal.returns-in-Err-clause-builds_at_fault
returns-in-Err-clause-builds_at_fault g c =
    let C = plain_checked c.args.checked.now in
    let b = blueprint_of C in
    let t = c.args.t.now.tree in
    let u = c.loop-h.t.tree in
    let hs = c.args.hs.now in
    let i = c.loop-h.h-index in
    let h = get_or hs i zero_handle in
    let laws : Laws = record {
      spot = c.first_components_stand.ensures.spot;
      node = c.first_components_stand.ensures.node;
      component = c.first_components_stand.ensures.component;
      left = c.left_steps_lead.ensures;
      entered = c.builds_go_on_alike.ensures.entered;
      ready = c.retaken_trees_are_ready.ensures;
      leads = c.steps_lead.ensures;
      follow = c.steps_follow_on.ensures.follow;
      spots = c.marked_spots_stay.ensures;
      rearranged = c.rearrangements_go_on.ensures.taken;
      same = λ v w. (c.same_means_equal.ensures.widgets v w).0;
      itself = λ v. (c.same_means_equal.ensures.widgets v v).1 refl;
    } in
    let ahead : IsStaleTree C t hs → Ahead = λ x. record { c = C; t = t; u = u; hs = hs; x = x; done = i; cs = c.loop-h.changes.items; gone = c.loop-h.invariant.0 x; laws = laws; h = h; rest = drop (suc i) hs; next_is = drop-cons hs i zero_handle c.loop-h-test.true } in
    some_two (fault_of c.in-Err.e) _ _ _
    (λ f stopped one. λ x screen.
    sum_then _ c.loop-h.builds c.args.builds.now i one c.loop-h.invariant.1
    ∙ ap (λ (n : ℕ). c.args.builds.now + n) (sym (stops_builds (ahead x) f (stopped (component (ahead x))) c.first_components_stop_builds.ensures.builds screen)))
    c.in-Err.ensures.fault c.in-Err.ensures.builds_at_fault

pub returns-then-not-can-clause-left : goal.returns-then-not-can-clause-left
returns-then-not-can-clause-left g c = λ none. λ x.
    let C = plain_checked c.args.checked.now in
    let b = blueprint_of C in
    let t = c.args.t.now.tree in
    let u = c.loop-h.t.tree in
    let hs = c.args.hs.now in
    let i = c.loop-h.h-index in
    let h = get_or hs i zero_handle in
    let laws : Laws = record {
      spot = c.first_components_stand.ensures.spot;
      node = c.first_components_stand.ensures.node;
      component = c.first_components_stand.ensures.component;
      left = c.left_steps_lead.ensures;
      entered = c.builds_go_on_alike.ensures.entered;
      ready = c.retaken_trees_are_ready.ensures;
      leads = c.steps_lead.ensures;
      follow = c.steps_follow_on.ensures.follow;
      spots = c.marked_spots_stay.ensures;
      rearranged = c.rearrangements_go_on.ensures.taken;
      same = λ v w. (c.same_means_equal.ensures.widgets v w).0;
      itself = λ v. (c.same_means_equal.ensures.widgets v v).1 refl;
    } in
    let ahead : IsStaleTree C t hs → Ahead = λ x. record { c = C; t = t; u = u; hs = hs; x = x; done = i; cs = c.loop-h.changes.items; gone = c.loop-h.invariant.0 x; laws = laws; h = h; rest = drop (suc i) hs; next_is = drop-cons hs i zero_handle c.loop-h-test.true } in
    let v = c.step.new.t.tree in
    let built : IsStaleTree C t hs → Built = λ x. record {
      a = ahead x;
      v = v;
      can = c.in-Ok.can;
      more = c.step.new.changes.items;
      st = c.in-Ok.ensures.stepped (component (ahead x));
      found = c.walk_laws.ensures.subtree u;
      once = c.number_laws.ensures.once;
      tells = c.standing_elements_are_known.ensures.tells C (ahead x).gone.left (Some x.tree) x.scrolled u (ahead x).gone.stands;
      root = c.in-Ok.ensures.root;
      made = c.in-Ok.ensures.handles.inserted;
      keeps = c.in-Ok.ensures.keeps;
      numbers = c.in-Ok.ensures.numbers;
      part = λ w f is live. c.walk_laws.ensures.part w f h is live;
    } in
    (i + 1, sum_then _ c.loop-h.builds c.args.builds.now i c.in-Ok.ensures.builds c.loop-h.invariant.1, left_so (built x) (slice_get-get_or hs i zero_handle c.loop-h-test.true) c.if-not-can.true)

pub loop-h-preserved : goal.loop-h-preserved
loop-h-preserved g c =
    let C = plain_checked c.args.checked.now in
    let b = blueprint_of C in
    let t = c.args.t.now.tree in
    let u = c.loop-h.t.tree in
    let hs = c.args.hs.now in
    let i = c.loop-h.h-index in
    let h = get_or hs i zero_handle in
    let laws : Laws = record {
      spot = c.first_components_stand.ensures.spot;
      node = c.first_components_stand.ensures.node;
      component = c.first_components_stand.ensures.component;
      left = c.left_steps_lead.ensures;
      entered = c.builds_go_on_alike.ensures.entered;
      ready = c.retaken_trees_are_ready.ensures;
      leads = c.steps_lead.ensures;
      follow = c.steps_follow_on.ensures.follow;
      spots = c.marked_spots_stay.ensures;
      rearranged = c.rearrangements_go_on.ensures.taken;
      same = λ v w. (c.same_means_equal.ensures.widgets v w).0;
      itself = λ v. (c.same_means_equal.ensures.widgets v v).1 refl;
    } in
    let ahead : IsStaleTree C t hs → Ahead = λ x. record { c = C; t = t; u = u; hs = hs; x = x; done = i; cs = c.loop-h.changes.items; gone = c.loop-h.invariant.0 x; laws = laws; h = h; rest = drop (suc i) hs; next_is = drop-cons hs i zero_handle c.loop-h-test.true } in
    let v = c.step.new.t.tree in
    let built : IsStaleTree C t hs → Built = λ x. record {
      a = ahead x;
      v = v;
      can = c.in-Ok.can;
      more = c.step.new.changes.items;
      st = c.in-Ok.ensures.stepped (component (ahead x));
      found = c.walk_laws.ensures.subtree u;
      once = c.number_laws.ensures.once;
      tells = c.standing_elements_are_known.ensures.tells C (ahead x).gone.left (Some x.tree) x.scrolled u (ahead x).gone.stands;
      root = c.in-Ok.ensures.root;
      made = c.in-Ok.ensures.handles.inserted;
      keeps = c.in-Ok.ensures.keeps;
      numbers = c.in-Ok.ensures.numbers;
      part = λ w f is live. c.walk_laws.ensures.part w f h is live;
    } in
    let next : i + 1 ≡ suc i = omega arith in (
      λ x. goes_on (built x) c.in-Ok.ensures.checked c.in-Ok.ensures.holds c.if-not-can.false (take_more hs i zero_handle c.loop-h-test.true) (ap (λ (n : ℕ). drop n hs) next),
      sum_then _ c.loop-h.builds c.args.builds.now i c.in-Ok.ensures.builds c.loop-h.invariant.1,
      λ r named. c.in-Ok.ensures.names r (c.loop-h.invariant.2 r named),
      λ k. c.in-Ok.ensures.numbers k ∙ c.loop-h.invariant.3 k,
      handles_then t.nodes u.nodes v.nodes c.loop-h.invariant.4 c.in-Ok.ensures.handles,
      c.in-Ok.ensures.root ∙ c.loop-h.invariant.5,
      (omega (arith, c.loop-h-test.true)),
    )

pub write_changes-requires : goal.write_changes-requires
write_changes-requires g c =
    let C = plain_checked c.args.checked.now in
    let u = c.loop-h.t.tree in
    let cs = c.loop-h.changes.items in
    let gone = c.loop-h.invariant.0 c.requires in
    let t = c.args.t.now.tree in
    subst (All (FollowsChange u)) (sym c.as_slice.ensures.value) (taking_follows u cs (All-weaker (IsTaking t) (IsTaking u) (to_other t u gone.keeps) cs gone.takes))

pub returns-clause-renewed : goal.returns-clause-renewed
returns-clause-renewed g c = λ x.
    let C = plain_checked c.args.checked.now in
    let t = c.args.t.now.tree in
    let u = c.loop-h.t.tree in
    let hs = c.args.hs.now in
    let i = c.loop-h.h-index in
    renewed_all C t u c.write_changes.new.t.tree hs x i c.loop-h.changes.items (c.loop-h.invariant.0 x) (drop_all i hs c.loop-h-test.false) (omega (arith, c.loop-h-test.false, c.loop-h.invariant.6))
    (subst (λ l. WritesAll (after_changes l) u c.write_changes.new.t.tree) c.as_slice.ensures.value c.in-Ok-write_changes.ensures) c.keep_laws.ensures.maps c.ready_trees_settle.ensures.settled c.settled_trees_stay.ensures.tree

pub returns-clause-builds : goal.returns-clause-builds
returns-clause-builds g c = let many = c.loop-h.invariant.1 in let past = c.loop-h-test.false in let low = c.loop-h.invariant.6 in omega (arith, many, past, low)

pub returns-clause-names : goal.returns-clause-names
returns-clause-names g c = λ r named. c.in-Ok-write_changes.ensures.names r (c.loop-h.invariant.2 r named)

pub returns-clause-numbers : goal.returns-clause-numbers
returns-clause-numbers g c = λ k. c.in-Ok-write_changes.ensures.numbers k ∙ c.loop-h.invariant.3 k

pub returns-clause-handles : goal.returns-clause-handles
returns-clause-handles g c =
    handles_then c.args.t.now.tree.nodes c.loop-h.t.tree.nodes c.write_changes.new.t.tree.nodes c.loop-h.invariant.4 c.in-Ok-write_changes.ensures.handles

pub returns-clause-root : goal.returns-clause-root
returns-clause-root g c = c.in-Ok-write_changes.ensures.root ∙ c.loop-h.invariant.5

pub returns-then-not-can-clause-names : goal.returns-then-not-can-clause-names
returns-then-not-can-clause-names g c = λ r named. c.in-Ok.ensures.names r (c.loop-h.invariant.2 r named)

pub returns-then-not-can-clause-numbers : goal.returns-then-not-can-clause-numbers
returns-then-not-can-clause-numbers g c = λ k. c.in-Ok.ensures.numbers k ∙ c.loop-h.invariant.3 k

pub returns-then-not-can-clause-handles : goal.returns-then-not-can-clause-handles
returns-then-not-can-clause-handles g c =
    handles_then c.args.t.now.tree.nodes c.loop-h.t.tree.nodes c.step.new.t.tree.nodes c.loop-h.invariant.4 c.in-Ok.ensures.handles

pub returns-then-not-can-clause-root : goal.returns-then-not-can-clause-root
returns-then-not-can-clause-root g c = c.in-Ok.ensures.root ∙ c.loop-h.invariant.5
