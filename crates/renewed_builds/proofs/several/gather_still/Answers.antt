use Rattle.std.proofs.Common.{◌≡◌, ◌&&◌, ◌++◌, ◌∷◌, [], List, true, false, Some, Ok, get_or, drop, length, refl, sym, ap, ◌∙◌, subst}
use Rattle.std.specs.List.{list_all}
use Rattle.std.proofs.Math.Seq.{drop-append_seam}
use Rattle.node_tree.specs.Forest.{below}
use Rattle.node_tree.specs.Tree.{subtree_at}
use Rattle.widget_model.specs.Plain.{PlainWidget}
use Rattle.widget_model.specs.View.{shared}
use Rattle.renewed_builds.specs.declared.taking.Moved.{Moved}
use Rattle.renewed_builds.specs.Renewing.{Change, can_take_drawn, changes_of, moves_of}
use Rattle.renewed_builds.specs.Taking.{can_take_first, changes_first, moves_first}
use Rattle.renewed_builds.specs.Several.{keeps_order, are_none}
use Rattle.renewed_builds.proofs.Changing.{zero_handle}
use Rattle.renewed_builds.proofs.Mapped.{none_tested}
use Rattle.renewed_builds.proofs.Took.{one_below, none_or_more, child_own, child_can, child_changes, child_moves}
use Rattle.renewed_builds.proofs.several.gather_still.Goals as goal

pub returns-then-children-ne1-clause-can : goal.returns-then-children-ne1-clause-can
returns-then-children-ne1-clause-can c =
    let t = c.args.t.now.tree in
    let h = c.args.h in
    let w : PlainWidget = shared c.args.given.now in
    let low = below (subtree_at t h) in
    let holds = c.walk_laws.ensures.holds t h c.root.ensures.tree c.requires.live in
    sym (ap (λ b. b && (list_all keeps_order (changes_of low (w ∷ [])) && are_none (moves_of low (w ∷ [])))) (none_or_more t h c.children-children.result.now w holds c.children-children.ensures.value c.if-children-ne1.true))

pub returns-then-not-branch-clause-can : goal.returns-then-not-branch-clause-can
returns-then-not-branch-clause-can c =
    let t = c.args.t.now.tree in
    let h = c.args.h in
    let w : PlainWidget = shared c.args.given.now in
    let hs = c.children-children.result.now in
    let low = below (subtree_at t h) in
    let holds = c.walk_laws.ensures.holds t h c.root.ensures.tree c.requires.live in
    let k = get_or hs 0 zero_handle in
    let one = one_below t h hs holds c.children-children.ensures.value c.if-children-ne1.false in
    sym (ap (λ b. b && (list_all keeps_order (changes_of low (w ∷ [])) && are_none (moves_of low (w ∷ [])))) (child_can t h k one w ∙ sym c.in_ok-gather.ensures.can ∙ c.if-not-branch.true))

pub returns-then-not-keep_order-clause-can : goal.returns-then-not-keep_order-clause-can
returns-then-not-keep_order-clause-can c =
    let t = c.args.t.now.tree in
    let h = c.args.h in
    let w : PlainWidget = shared c.args.given.now in
    let hs = c.children-children.result.now in
    let low = below (subtree_at t h) in
    let holds = c.walk_laws.ensures.holds t h c.root.ensures.tree c.requires.live in
    let k = get_or hs 0 zero_handle in
    let one = one_below t h hs holds c.children-children.ensures.value c.if-children-ne1.false in
    let can : can_take_first (subtree_at t k) w ≡ true = sym c.in_ok-gather.ensures.can ∙ c.if-not-branch.false in
    let ok = ap Ok c.if-not-branch.false in
    let old = c.args.changes.now.items in
    let changes : c.gather.new.changes.items ≡ old ++ changes_of low (w ∷ []) = c.in_ok-gather.ensures.changes ok ∙ ap (λ l. old ++ l) (sym (child_changes t h k one w can)) in
    let kept : list_all keeps_order (changes_of low (w ∷ [])) ≡ false =
    ap (list_all keeps_order) (sym (drop-append_seam old (changes_of low (w ∷ []))))
    ∙ ap (λ n. list_all keeps_order (drop n (old ++ changes_of low (w ∷ [])))) (sym (ap length c.as_slice-first.ensures.value))
    ∙ ap (λ l. list_all keeps_order (drop (length c.as_slice-first.result.now) l)) (sym (c.as_slice.ensures.value ∙ changes))
    ∙ sym c.keep_order.ensures
    ∙ c.if-not-keep_order.true in
    sym ((λ i. (child_can t h k one w ∙ can) i && (kept i && are_none (moves_of low (w ∷ [])))))

pub returns-clause-can : goal.returns-clause-can
returns-clause-can c =
    let t = c.args.t.now.tree in
    let h = c.args.h in
    let w : PlainWidget = shared c.args.given.now in
    let hs = c.children-children.result.now in
    let low = below (subtree_at t h) in
    let holds = c.walk_laws.ensures.holds t h c.root.ensures.tree c.requires.live in
    let k = get_or hs 0 zero_handle in
    let one = one_below t h hs holds c.children-children.ensures.value c.if-children-ne1.false in
    let can : can_take_first (subtree_at t k) w ≡ true = sym c.in_ok-gather.ensures.can ∙ c.if-not-branch.false in
    let ok = ap Ok c.if-not-branch.false in
    let old = c.args.changes.now.items in
    let changes : c.gather.new.changes.items ≡ old ++ changes_of low (w ∷ []) = c.in_ok-gather.ensures.changes ok ∙ ap (λ l. old ++ l) (sym (child_changes t h k one w can)) in
    let drawn = child_can t h k one w ∙ can in
    let moves : c.gather.new.moves.items ≡ moves_of low (w ∷ []) =
    c.in_ok-gather.ensures.moves ok ∙ ap (λ l. l ++ moves_first (subtree_at t k) w) c.new-moves.ensures.items ∙ sym (child_moves t h k one w can) in
    let kept : list_all keeps_order (changes_of low (w ∷ [])) ≡ true =
    ap (list_all keeps_order) (sym (drop-append_seam old (changes_of low (w ∷ []))))
    ∙ ap (λ n. list_all keeps_order (drop n (old ++ changes_of low (w ∷ [])))) (sym (ap length c.as_slice-first.ensures.value))
    ∙ ap (λ l. list_all keeps_order (drop (length c.as_slice-first.result.now) l)) (sym (c.as_slice.ensures.value ∙ changes))
    ∙ sym c.keep_order.ensures
    ∙ c.if-not-keep_order.false in
    c.is_empty.ensures ∙ none_tested c.as_slice-2.result.now ∙ ap are_none (c.as_slice-2.ensures.value ∙ moves) ∙ sym (λ i. drawn i && (kept i && are_none (moves_of low (w ∷ []))))

pub returns-clause-changes : goal.returns-clause-changes
returns-clause-changes c = λ is.
    let t = c.args.t.now.tree in
    let h = c.args.h in
    let w : PlainWidget = shared c.args.given.now in
    let hs = c.children-children.result.now in
    let low = below (subtree_at t h) in
    let holds = c.walk_laws.ensures.holds t h c.root.ensures.tree c.requires.live in
    let k = get_or hs 0 zero_handle in
    let one = one_below t h hs holds c.children-children.ensures.value c.if-children-ne1.false in
    let can : can_take_first (subtree_at t k) w ≡ true = sym c.in_ok-gather.ensures.can ∙ c.if-not-branch.false in
    let ok = ap Ok c.if-not-branch.false in
    let old = c.args.changes.now.items in
    let changes : c.gather.new.changes.items ≡ old ++ changes_of low (w ∷ []) = c.in_ok-gather.ensures.changes ok ∙ ap (λ l. old ++ l) (sym (child_changes t h k one w can)) in
    changes
