use Rattle.std.proofs.Common.{◌≡◌, ◌+◌, drop, Bool, true, false, cond, Some, bytes_eq, sym, ap, ◌∙◌, arith}
use Rattle.serde_json.specs.Find.{get_member}
use Rattle.json_tree.specs.View.{view, members_view}
use Rattle.json_tree.proofs.Finding.{find_at}
use Rattle.json_tree.proofs.tree.find.Goals as goal

pub returns-then-eq : goal.returns-then-eq
returns-then-eq c =
    let es = c.deref-member-items.result.now in
    let i = c.loop-member.member-index in
    let e = c.member-item.result in
    let name = c.args.name.now in
    let same : bytes_eq name e.0.now ≡ true = grind arith in
    let turn = find_at name es i e (grind arith) (grind arith) in
    sym (c.loop-member.invariant ∙ turn ∙ ap (λ (b : Bool). cond b (Some (view e.1)) (get_member name (members_view (drop (i + 1) es)))) same)

pub loop-member-preserved : goal.loop-member-preserved
loop-member-preserved c =
    let es = c.deref-member-items.result.now in
    let i = c.loop-member.member-index in
    let e = c.member-item.result in
    let name = c.args.name.now in
    let other : bytes_eq name e.0.now ≡ false = grind arith in
    let turn = find_at name es i e (grind arith) (grind arith) in
    c.loop-member.invariant ∙ turn ∙ ap (λ (b : Bool). cond b (Some (view e.1)) (get_member name (members_view (drop (i + 1) es)))) other
