use Rattle.std.proofs.Common.{◌≡◌, ◌+◌, ◌==◌, ℕ, false, true, cond, eqb, is_some, IfSome, Some, get_or, take, subst, sym, ap, ◌∙◌, arith}
use Rattle.std.proofs.lemmas.List.{get_or_default, take_all}
use Rattle.std.specs.HashMap.{get}
use Rattle.std.specs.Map.{lookup}
use Rattle.gesture_arena.specs.declared.gesture.Gesture.TheVariants.{Tap}
use Rattle.gesture_arena.specs.declared.marks.NodeMarks.{NodeMarks}
use Rattle.gesture_arena.specs.declared.moment.Decision.TheVariants.{Waits}
use Rattle.gesture_arena.specs.declared.tracked.Tracked.{Tracked}
use Rattle.gesture_arena.specs.Marks.{HavePlaces, NoneIsMarked}
use Rattle.gesture_arena.proofs.Marked.{more_places, has_it, keeps_places, one_more_place, all_have_places, same_node}
use Rattle.gesture_arena.proofs.marks.place_each.Goals as goal
use Rattle.gesture_arena.proofs.marks.place_each.Goals.{then-ne+in_ok-insert, else-ne}

pub loop-t-preserved : goal.loop-t-preserved
loop-t-preserved c =
    let ts = c.args.members.now in
    let i = c.loop-t.t-index in
    let z : Tracked = record { node = 0; gesture = Tap; decision = Waits; dropped = false } in
    let g : Tracked = get_or ts i z in
    let node = g.node in
    let at = get_or_default ts i z g c.loop-t-test.true in
    let old = c.loop-t.marks.entries in
    elim c.if-ne.branch [
      | then-ne+in_ok-insert w ↦
          let new = w.insert.new.self.entries in
          let puts : (q : ℕ) → lookup (eqb q) new ≡ cond (eqb node q) (Some (record { tap = false; long = false; vertical = false; horizontal = false; pan = false })) (lookup (eqb q) old) =
          λ q. w.in_ok-insert.ensures.updates.0 q ∙ ap (λ (x : NodeMarks). cond (eqb node q) (Some x) (lookup (eqb q) old)) w.none.ensures in
          let there = has_it old new node puts in
          subst (λ m. HavePlaces (take (i + 1) ts) m × NoneIsMarked m × IfSome c.if-ne.last (λ n. is_some (get (λ a b. a == b) m n) ≡ true)) (sym w.marks-is) (
            one_more_place new ts i g c.loop-t-test.true at there (all_have_places old new (keeps_places old new node puts) (take i ts) c.loop-t.invariant.0),
            more_places old new node puts c.loop-t.invariant.1,
            subst (λ o. IfSome o (λ n. is_some (lookup (eqb n) new) ≡ true)) (sym w.last-is) there,
          )
      | else-ne w ↦
          let there = same_node c.loop-t.last node (λ n. is_some (lookup (eqb n) old) ≡ true) c.loop-t.invariant.2 (sym c.ne.ensures ∙ w.if-ne.false) in
          subst (λ m. HavePlaces (take (i + 1) ts) m × NoneIsMarked m × IfSome c.if-ne.last (λ n. is_some (get (λ a b. a == b) m n) ≡ true)) (sym w.marks-is) (
            one_more_place old ts i g c.loop-t-test.true at there c.loop-t.invariant.0,
            c.loop-t.invariant.1,
            subst (λ o. IfSome o (λ n. is_some (lookup (eqb n) old) ≡ true)) (sym w.last-is) c.loop-t.invariant.2,
          )
    ]

pub returns-clause-places : goal.returns-clause-places
returns-clause-places c =
    subst (λ ts. HavePlaces ts c.loop-t.marks) (take_all c.loop-t.t-index c.args.members.now (omega arith)) c.loop-t.invariant.0
