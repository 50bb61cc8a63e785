use Rattle.std.proofs.Common.{◌≡◌, ◌+◌, ◌<◌, ◌≤◌, ◌&&◌, [], ◌∷◌, ◌++◌, length, take, get_or, sym, ap, ◌∙◌, arith}
use Rattle.std.proofs.lemmas.List.{take_all, take_more}
use Rattle.fx_handles.specs.declared.Handle.{Handle}
use Rattle.fx_handles.specs.Handle.{same}
use Rattle.widget_model.specs.View.{look_in, shared}
use Rattle.node_tree.specs.Tree.{children_at}
use Rattle.inherited.specs.Readers.{reads, provides}
use Rattle.inherited.proofs.Flagging.{flags_children, size-flags}
use Rattle.inherited.proofs.Reading.{Walks, among, hidden_at, shown_at, live_from_stands, among_at, marked-more, marked-all}
use Rattle.inherited.proofs.readers.+marking.Goals as goal

pub mark_at-returns-then-hides-clause-flags : goal.mark_at-returns-then-hides-clause-flags
mark_at-returns-then-hides-clause-flags t c =
    let walks : Walks = record { holds = c.walk_laws.ensures.holds; subtree = c.walk_laws.ensures.subtree } in
    hidden_at walks c.args.t.now.tree c.mark_if.new.t.tree c.args.name c.args.h (shared c.in-Some.widget.now) c.reads-reads.result c.provides-hides.result c.root.ensures.tree c.requires
    c.in-Some.ensures
    (c.reads-reads.ensures ∙ ap (λ w. reads c.args.name (look_in w.kind)) c.deref-2.ensures)
    (c.provides-hides.ensures ∙ ap (λ w. provides c.args.name (look_in w.kind)) c.deref.ensures)
    c.if-hides.true c.mark_if.ensures.flags

pub mark_at-mark_readers-requires : goal.mark_at-mark_readers-requires
mark_at-mark_readers-requires t c =
    let d = c.decreases in
    let same_size = size-flags c.args.t.now.tree c.mark_if.new.t.tree (λ k. same c.args.h k && c.reads-reads.result) c.args.h c.mark_if.ensures.flags in
    (omega arith, tt)

pub mark_at-returns-clause-flags : goal.mark_at-returns-clause-flags
mark_at-returns-clause-flags t c =
    let walks : Walks = record { holds = c.walk_laws.ensures.holds; subtree = c.walk_laws.ensures.subtree } in
    shown_at walks c.args.t.now.tree c.mark_if.new.t.tree c.mark_readers.new.t.tree c.args.name c.args.h (shared c.in-Some.widget.now) c.reads-reads.result c.provides-hides.result c.root.ensures.tree c.requires
    c.in-Some.ensures
    (c.reads-reads.ensures ∙ ap (λ w. reads c.args.name (look_in w.kind)) c.deref-2.ensures)
    (c.provides-hides.ensures ∙ ap (λ w. provides c.args.name (look_in w.kind)) c.deref.ensures)
    c.if-hides.false c.mark_if.ensures.flags c.mark_readers.ensures.flags

pub mark_readers-mark_at-requires : goal.mark_readers-mark_at-requires
mark_readers-mark_at-requires t c =
    let cs = children_at c.args.t.now.tree c.args.under in
    let nowhere : Handle = record { index = 0; generation = 0 } in
    let kept = flags_children c.args.t.now.tree c.loop-i.t.tree (among c.args.t.now.tree c.args.name (take c.loop-i.i cs)) c.args.under c.loop-i.invariant.0 in
    let same_list : c.children.result.now ≡ c.children-i-end.result.now = c.children.ensures.value ∙ kept ∙ sym c.children-i-end.ensures.value in
    let within : c.loop-i.i < length c.children.result.now = omega (arith, ap length same_list) in
    let there = among_at c.children.result.now c.loop-i.i nowhere within in
    let smaller = c.children.ensures.smaller (get_or c.children.result.now c.loop-i.i nowhere) there in
    let same_size = size-flags c.args.t.now.tree c.loop-i.t.tree (among c.args.t.now.tree c.args.name (take c.loop-i.i cs)) c.args.under c.loop-i.invariant.0 in
    let d = c.decreases in
    (omega arith, live_from_stands c.loop-i.t.tree (get_or c.children.result.now c.loop-i.i nowhere) _ (c.children.ensures.holds (get_or c.children.result.now c.loop-i.i nowhere) there))

pub mark_readers-loop-i-preserved : goal.mark_readers-loop-i-preserved
mark_readers-loop-i-preserved t c =
    let cs = children_at c.args.t.now.tree c.args.under in
    let nowhere : Handle = record { index = 0; generation = 0 } in
    let kept = flags_children c.args.t.now.tree c.loop-i.t.tree (among c.args.t.now.tree c.args.name (take c.loop-i.i cs)) c.args.under c.loop-i.invariant.0 in
    let same_list : cs ≡ c.children.result.now = sym (c.children.ensures.value ∙ kept) in
    let within : c.loop-i.i < length cs = omega (arith, ap length c.children-i-end.ensures.value) in (
      marked-more c.args.t.now.tree c.loop-i.t.tree c.mark_at.new.t.tree c.args.name (take c.loop-i.i cs) (take (c.loop-i.i + 1) cs) (get_or c.children.result.now c.loop-i.i nowhere) c.loop-i.invariant.0
          c.mark_at.ensures.flags
          (take_more cs c.loop-i.i nowhere within ∙ ap (λ xs. take c.loop-i.i cs ++ get_or xs c.loop-i.i nowhere ∷ []) same_list),
      c.mark_at.ensures.spent ∙ c.loop-i.invariant.1,
    )

pub mark_readers-returns-clause-flags : goal.mark_readers-returns-clause-flags
mark_readers-returns-clause-flags t c =
    let cs = children_at c.args.t.now.tree c.args.under in
    let walks : Walks = record { holds = c.walk_laws.ensures.holds; subtree = c.walk_laws.ensures.subtree } in
    let all : length cs ≤ c.loop-i.i = omega (arith, ap length c.children-i-end.ensures.value) in
    marked-all walks c.args.t.now.tree c.loop-i.t.tree c.args.name c.args.under (take c.loop-i.i cs) c.root.ensures.tree (take_all c.loop-i.i cs all) c.loop-i.invariant.0
