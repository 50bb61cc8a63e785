use Rattle.std.proofs.Common.{◌≡◌, ℕ, cond, eqb, is_some, Some, sym, ap, ◌∙◌}
use Rattle.std.specs.Map.{lookup}
use Rattle.gesture_arena.specs.declared.marks.NodeMarks.{NodeMarks}
use Rattle.gesture_arena.specs.Marks.{with_mark}
use Rattle.gesture_arena.proofs.Marked.{put_marked, not_err, has_place}
use Rattle.gesture_arena.proofs.marks.put_mark.Goals as goal

pub returns : goal.returns
returns c =
    let old = c.args.marks.now.entries in
    let new = c.insert.new.self.entries in
    let g = c.args.member in
    let has : lookup (eqb g.node) old ≡ Some c.in-Some.node = sym c.get.ensures.value ∙ sym c.copied.ensures ∙ c.in-Some.is in
    let updates = not_err c.insert.result c.insert.ensures.updates c.insert.ensures.absent (has_place _ (ap is_some has)) in
    let puts : (q : ℕ) → lookup (eqb q) new ≡ cond (eqb g.node q) (Some (with_mark c.in-Some.node g.gesture c.args.mark)) (lookup (eqb q) old) =
    λ q. updates.0 q ∙ ap (λ (x : NodeMarks). cond (eqb g.node q) (Some x) (lookup (eqb q) old)) c.with.ensures in
    put_marked old new g c.args.mark c.in-Some.node has puts
