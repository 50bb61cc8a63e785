use Rattle.std.proofs.Common.{◌≡◌, suc, ◌+◌, ◌<◌, ◌≤◌, ◌++◌, ◌∷◌, [], List, length, map, take, drop, refl, sym, ap, ◌∙◌, subst, arith}
use Rattle.std.specs.Option.{option_to_list}
use Rattle.std.proofs.lemmas.List.{take_all, take_more, map-append, append-nil}
use Rattle.std.proofs.lemmas.Result.{err_from_is_err_and}
use Rattle.build_form.specs.FaultView.{fault_of}
use Rattle.build_form.specs.Step.{stops, gives, each}
use Rattle.build_form.proofs.Outcomes.{some_map}
use Rattle.element_tree.specs.Nodes.{nodes_of}
use Rattle.build_walk.specs.Counting.{builds_by_each}
use Rattle.build_walk.specs.Kept.{plain_at_any}
use Rattle.build_walk.specs.Serving.{served, builds_serving}
use Rattle.build_walk.proofs.Building.{stopped_at, count_more, count_last}
use Rattle.build_owner.specs.declared.serving.ServedList.{ServedList}
use Rattle.build_owner.specs.declared.walk.BuildWalk.{BuildWalk}
use Rattle.build_owner.specs.Entry.{IsTypedSpot}
use Rattle.build_owner.specs.Naming.{AreHeld}
use Rattle.build_owner.specs.Served.{AreServed, all_served}
use Rattle.build_owner.specs.WalkView.{basis_of, declared_by, progress_of, waiting_of}
use Rattle.build_owner.proofs.Cycling.{none_built, two_built, some_both}
use Rattle.build_owner.proofs.Makings.{makes_none, makes_more}
use Rattle.build_owner.proofs.ServedAll.{next_is, others_are, range_is, front_typed, others_typed, old_at, served_more_held}
use Rattle.build_owner.proofs.ServedLemmas.{taken_first, left_after, first_of, whole_at, short, take_even, served_so, counted_so, served_as, served_more}
use Rattle.build_owner.proofs.serving.serve_all.Goals as goal

pub loop-i-init : goal.loop-i-init
loop-i-init g c = (
  record {
    left = refl;
    all = λ f since old which all. subst (λ (os : List ServedList). AreServed (basis_of c.args.from.now f) f.pasts f.scrolled which [] [] (progress_of f c.args.walk.now c.args.g.now c.args.t.now.tree)
        (progress_of f c.args.walk.now c.args.g.now c.args.t.now.tree) c.args.t.now.tree c.args.r.now.tree os) (sym c.in_ok-lists.ensures.items)
        (record { forests = []; long = refl; is = refl; elements = refl; renders = refl; go_on = λ i x low. absurd (omega (arith, low)); drawn_there = λ i x low. absurd (omega (arith, low)); stored = λ i x low. absurd (omega (arith, low)) });
    builds_are = λ f since old which all. none_built c.args.builds.now 0 refl;
    since = λ f since. since;
    keeps = λ k live. refl;
    keeps_drawn = λ k live. refl;
    makes_drawn = makes_none c.args.r.now.tree;
    ready = c.requires.ready;
    spots = c.requires.spots;
    unplanned = c.requires.empty;
    held = λ xs before. subst (λ (os : List ServedList). AreHeld c.args.g.now c.args.t.now.tree (xs ++ all_served os)) (sym c.in_ok-lists.ensures.items)
        (subst (AreHeld c.args.g.now c.args.t.now.tree) (sym (append-nil xs)) before);
  },
  refl,
)

pub unreachable-requires : goal.unreachable-requires
unreachable-requires g c =
    let none = rw c.in_default.is at c.pop_front.ensures.cases in
    let less = short c.args.walk.now.spots.items c.loop-i.i (ap length (sym c.loop-i.invariant.0.left) ∙ sym c.loop-i.walk.spots.ok.0 ∙ none.0) in
    omega (arith, less, c.requires.drawn, c.loop-i-test.true)

pub serve-requires : goal.serve-requires
serve-requires g c =
    let inv = c.loop-i.invariant.0 in
    let x = c.in-Some.spot in
    let spots = c.args.walk.now.spots.items in
    let news = c.pop_front.new.self.items in
    let front : c.loop-i.walk.spots.items ≡ x ∷ news = c.pop_front.ensures.items ∙ ap (λ o. option_to_list o ++ news) c.in-Some.is in
    record {
      ready = inv.ready;
      spots = others_typed (IsTypedSpot (declared_by c.args.from.now) c.loop-i.t.tree) c.loop-i.walk.spots.items x news front inv.spots;
      spot = front_typed (IsTypedSpot (declared_by c.args.from.now) c.loop-i.t.tree) c.loop-i.walk.spots.items x news front inv.spots;
      empty = record { elements = inv.unplanned.elements; renders = inv.unplanned.renders; tops = inv.unplanned.tops };
    }

pub returns-in_err-list-clause-fault : goal.returns-in_err-list-clause-fault
returns-in_err-list-clause-fault g c =
    let p = err_from_is_err_and c.from_residual-in_err-list.result c.from_residual-in_err-list.ensures.1 in
    rw (p.1, p.2) (some_map _ _ (fault_of c.in_err-list.field-0.0)
    (λ y h. λ f since old which all.
    let inv = c.loop-i.invariant.0 in
    let x = c.in-Some.spot in
    let spots = c.args.walk.now.spots.items in
    let news = c.pop_front.new.self.items in
    let front : c.loop-i.walk.spots.items ≡ x ∷ news = c.pop_front.ensures.items ∙ ap (λ o. option_to_list o ++ news) c.in-Some.is in
    let split = sym inv.left ∙ front in
    let low : c.loop-i.i < length spots = subst (λ n. c.loop-i.i < n) c.requires.drawn c.loop-i-test.true in
    let at = first_of spots news x c.loop-i.i split in
    let popped : BuildWalk = record c.loop-i.walk { spots = c.pop_front.new.self } in
    let B = basis_of c.args.from.now f in
    let mid = progress_of f c.loop-i.walk c.loop-i.g c.loop-i.t.tree in
    let begin = progress_of f popped c.loop-i.g c.loop-i.t.tree in
    let kept = plain_at_any f.scrolled f.elements x.kept in
    let next = next_is f c.loop-i.g c.loop-i.t.tree c.loop-i.walk x news front in
    let others = others_are f c.loop-i.g c.loop-i.t.tree c.loop-i.walk popped x front refl in
    let known = old_at f spots c.loop-i.i x low at old in
    let so_far = inv.all f since old which all in
    ap (λ l. each (served B f.pasts which) (map waiting_of l) (progress_of f c.args.walk.now c.args.g.now c.args.t.now.tree)) (whole_at spots news x c.loop-i.i split)
    ∙ ap (λ l. each (served B f.pasts which) l (progress_of f c.args.walk.now c.args.g.now c.args.t.now.tree)) (map-append waiting_of (take c.loop-i.i spots) (x ∷ news))
    ∙ stopped_at (served B f.pasts which) (map waiting_of (take c.loop-i.i spots)) (map waiting_of news) (waiting_of x) (progress_of f c.args.walk.now c.args.g.now c.args.t.now.tree) mid _ y so_far.is
    (served_so B f.pasts f.scrolled which x kept _ mid begin (stops y) next others (range_is which spots c.args.ranges.now c.loop-i.i x _ all low at) (h f (inv.since f since) known)))
    c.in_err-list.ensures.fault)

pub returns-in_err-list-clause-builds_at_fault : goal.returns-in_err-list-clause-builds_at_fault
returns-in_err-list-clause-builds_at_fault g c =
    let p = err_from_is_err_and c.from_residual-in_err-list.result c.from_residual-in_err-list.ensures.1 in
    rw (p.1, p.2) (some_both _ _ _ (fault_of c.in_err-list.field-0.0)
    (λ y h more. λ f since old which all.
    let inv = c.loop-i.invariant.0 in
    let x = c.in-Some.spot in
    let spots = c.args.walk.now.spots.items in
    let news = c.pop_front.new.self.items in
    let front : c.loop-i.walk.spots.items ≡ x ∷ news = c.pop_front.ensures.items ∙ ap (λ o. option_to_list o ++ news) c.in-Some.is in
    let split = sym inv.left ∙ front in
    let low : c.loop-i.i < length spots = subst (λ n. c.loop-i.i < n) c.requires.drawn c.loop-i-test.true in
    let at = first_of spots news x c.loop-i.i split in
    let popped : BuildWalk = record c.loop-i.walk { spots = c.pop_front.new.self } in
    let B = basis_of c.args.from.now f in
    let mid = progress_of f c.loop-i.walk c.loop-i.g c.loop-i.t.tree in
    let begin = progress_of f popped c.loop-i.g c.loop-i.t.tree in
    let kept = plain_at_any f.scrolled f.elements x.kept in
    let next = next_is f c.loop-i.g c.loop-i.t.tree c.loop-i.walk x news front in
    let others = others_are f c.loop-i.g c.loop-i.t.tree c.loop-i.walk popped x front refl in
    let known = old_at f spots c.loop-i.i x low at old in
    let so_far = inv.all f since old which all in
    let start = progress_of f c.args.walk.now c.args.g.now c.args.t.now.tree in
    let go = served B f.pasts which in
    let count = builds_serving B f.pasts which in
    let stopped = served_so B f.pasts f.scrolled which x kept _ mid begin (stops y) next others (range_is which spots c.args.ranges.now c.loop-i.i x _ all low at) (h f (inv.since f since) known) in
    two_built c.args.builds.now c.loop-i.builds c.serve.new.builds (builds_by_each go count (map waiting_of (take c.loop-i.i spots)) start) (count (waiting_of x) mid) (builds_by_each go count (map waiting_of spots) start)
    (inv.builds_are f since old which all)
    (counted_so B f.pasts f.scrolled which x kept _ mid begin c.loop-i.builds c.serve.new.builds next others (range_is which spots c.args.ranges.now c.loop-i.i x _ all low at) (more f (inv.since f since) known))
    (ap (λ l. builds_by_each go count (map waiting_of l) start) (whole_at spots news x c.loop-i.i split)
    ∙ ap (λ l. builds_by_each go count l start) (map-append waiting_of (take c.loop-i.i spots) (x ∷ news))
    ∙ count_last go count (map waiting_of (take c.loop-i.i spots)) (map waiting_of news) (waiting_of x) start mid _ y so_far.is stopped))
    c.in_err-list.ensures.fault c.in_err-list.ensures.builds_at_fault)

pub loop-i-preserved : goal.loop-i-preserved
loop-i-preserved g c =
    let inv = c.loop-i.invariant.0 in
    let x = c.in-Some.spot in
    let spots = c.args.walk.now.spots.items in
    let news = c.pop_front.new.self.items in
    let front : c.loop-i.walk.spots.items ≡ x ∷ news = c.pop_front.ensures.items ∙ ap (λ o. option_to_list o ++ news) c.in-Some.is in
    let split = sym inv.left ∙ front in
    let low : c.loop-i.i < length spots = subst (λ n. c.loop-i.i < n) c.requires.drawn c.loop-i-test.true in
    let at = first_of spots news x c.loop-i.i split in
    let popped : BuildWalk = record c.loop-i.walk { spots = c.pop_front.new.self } in
    let one = c.in_ok-list.ensures in
    let o = c.in_ok-list.list in
    let u = c.serve.new.t.tree in
    let q = c.serve.new.r.tree in
    let more : suc c.loop-i.i ≡ c.loop-i.i + 1 = omega arith in
    let taken : take c.loop-i.i spots ++ x ∷ [] ≡ take (c.loop-i.i + 1) spots = sym (taken_first spots news x c.loop-i.i split) ∙ ap (λ n. take n spots) more in (
      record {
        left = one.others ∙ left_after spots news x c.loop-i.i split ∙ ap (λ n. drop n spots) more;
        all = λ f since old which all.
            let B = basis_of c.args.from.now f in
            let mid = progress_of f c.loop-i.walk c.loop-i.g c.loop-i.t.tree in
            let begin = progress_of f popped c.loop-i.g c.loop-i.t.tree in
            let kept = plain_at_any f.scrolled f.elements x.kept in
            let next = next_is f c.loop-i.g c.loop-i.t.tree c.loop-i.walk x news front in
            let others = others_are f c.loop-i.g c.loop-i.t.tree c.loop-i.walk popped x front refl in
            let known = old_at f spots c.loop-i.i x low at old in
            let start = progress_of f c.args.walk.now c.args.g.now c.args.t.now.tree in
            let after = progress_of f c.serve.new.walk c.serve.new.g u in
            let here = one.served f (inv.since f since) known in
            served_as B f.pasts f.scrolled which (take c.loop-i.i spots ++ x ∷ []) (take (c.loop-i.i + 1) spots) _ (take (c.loop-i.i + 1) c.args.drawn.now) start after u q
            (c.loop-i.lists.items ++ o ∷ []) c.push.new.self.items taken (sym (take_more c.args.drawn.now c.loop-i.i _ c.loop-i-test.true)) (sym c.in_ok-push.ensures.items)
            (served_more B f.pasts f.scrolled which c.loop-i.t.tree u c.loop-i.r.tree q
            (λ e on. c.forests_are_walked_in_turn.ensures.later_elements c.loop-i.t.tree u e one.keeps on)
            (λ e there. c.forests_are_walked_in_turn.ensures.later_objects c.loop-i.r.tree q f.scrolled e one.keeps_drawn there)
            (take c.loop-i.i spots) (take c.loop-i.i c.args.drawn.now) start mid begin after c.loop-i.lists.items x _ _ o (take_even c.args.drawn.now spots c.loop-i.i c.requires.drawn)
            (inv.all f since old which all) here
            (served_so B f.pasts f.scrolled which x kept _ mid begin (gives (nodes_of f.scrolled here.kids) after) next others (range_is which spots c.args.ranges.now c.loop-i.i x _ all low at) here.is));
        builds_are = λ f since old which all.
            let B = basis_of c.args.from.now f in
            let mid = progress_of f c.loop-i.walk c.loop-i.g c.loop-i.t.tree in
            let begin = progress_of f popped c.loop-i.g c.loop-i.t.tree in
            let kept = plain_at_any f.scrolled f.elements x.kept in
            let next = next_is f c.loop-i.g c.loop-i.t.tree c.loop-i.walk x news front in
            let others = others_are f c.loop-i.g c.loop-i.t.tree c.loop-i.walk popped x front refl in
            let known = old_at f spots c.loop-i.i x low at old in
            let start = progress_of f c.args.walk.now c.args.g.now c.args.t.now.tree in
            let go = served B f.pasts which in
            let count = builds_serving B f.pasts which in
            two_built c.args.builds.now c.loop-i.builds c.serve.new.builds (builds_by_each go count (map waiting_of (take c.loop-i.i spots)) start) (count (waiting_of x) mid)
            (builds_by_each go count (map waiting_of (take (c.loop-i.i + 1) spots)) start)
            (inv.builds_are f since old which all)
            (counted_so B f.pasts f.scrolled which x kept _ mid begin c.loop-i.builds c.serve.new.builds next others (range_is which spots c.args.ranges.now c.loop-i.i x _ all low at) (one.builds f (inv.since f since) known))
            (ap (λ l. builds_by_each go count (map waiting_of l) start) (sym taken)
            ∙ ap (λ l. builds_by_each go count l start) (map-append waiting_of (take c.loop-i.i spots) (x ∷ []))
            ∙ count_more go count (map waiting_of (take c.loop-i.i spots)) (waiting_of x) start mid _ (inv.all f since old which all).is);
        since = λ f since. one.since f (inv.since f since);
        keeps = c.keep_laws.ensures.again c.args.t.now.tree c.loop-i.t.tree u inv.keeps one.keeps;
        keeps_drawn = c.keep_laws-2.ensures.again c.args.r.now.tree c.loop-i.r.tree q inv.keeps_drawn one.keeps_drawn;
        makes_drawn = makes_more c.args.r.now.tree c.loop-i.r.tree q one.keeps_drawn inv.makes_drawn one.makes_drawn;
        ready = one.ready;
        spots = one.typed;
        unplanned = one.empty;
        held = λ xs before. subst (λ (os : List ServedList). AreHeld c.serve.new.g u (xs ++ all_served os)) (sym c.in_ok-push.ensures.items)
            (subst (AreHeld c.serve.new.g u) (served_more_held c.loop-i.lists.items o xs) (one.held (xs ++ all_served c.loop-i.lists.items) (inv.held xs before)));
      },
      c.in_ok-list.ensures.scale ∙ c.loop-i.invariant.1,
    )

pub returns-clause-served : goal.returns-clause-served
returns-clause-served g c = λ f since old which all.
    let long : length c.args.drawn.now ≤ c.loop-i.i = omega arith in
    let wide : length c.args.walk.now.spots.items ≤ c.loop-i.i = omega (arith, c.requires.drawn) in
    served_as (basis_of c.args.from.now f) f.pasts f.scrolled which (take c.loop-i.i c.args.walk.now.spots.items) c.args.walk.now.spots.items (take c.loop-i.i c.args.drawn.now) c.args.drawn.now
    (progress_of f c.args.walk.now c.args.g.now c.args.t.now.tree) (progress_of f c.loop-i.walk c.loop-i.g c.loop-i.t.tree) c.loop-i.t.tree c.loop-i.r.tree c.loop-i.lists.items c.loop-i.lists.items
    (take_all c.loop-i.i c.args.walk.now.spots.items wide) (take_all c.loop-i.i c.args.drawn.now long) refl (c.loop-i.invariant.0.all f since old which all)

pub returns-clause-builds : goal.returns-clause-builds
returns-clause-builds g c = λ f since old which all.
    let wide : length c.args.walk.now.spots.items ≤ c.loop-i.i = omega (arith, c.requires.drawn) in
    c.loop-i.invariant.0.builds_are f since old which all
    ∙ ap (λ l. c.args.builds.now + builds_by_each (served (basis_of c.args.from.now f) f.pasts which) (builds_serving (basis_of c.args.from.now f) f.pasts which) (map waiting_of l) (progress_of f c.args.walk.now c.args.g.now c.args.t.now.tree))
    (take_all c.loop-i.i c.args.walk.now.spots.items wide)

pub returns-clause-held : goal.returns-clause-held
returns-clause-held g c = c.loop-i.invariant.0.held
