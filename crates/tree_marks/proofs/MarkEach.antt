-- Setting the marks of a list, one after another.
use Rattle.std.proofs.Common.{◌≡◌, Bool, List, [], ◌∷◌, ◌++◌, None, refl, sym, ◌∙◌, subst}
use Rattle.fx_handles.specs.declared.Handle.{Handle}
use Rattle.fx_handles.specs.ArenaLaws.{some_of}
use Rattle.node_tree.specs.Forest.{Forest}
use Rattle.node_tree.specs.Tree.{Tree, node_at, IsNode, Is}
use Rattle.node_tree.specs.Edits.{KeepsHandles}
use Rattle.node_tree.proofs.TreeLemmas.{is_node}
use Rattle.tree_marks.specs.Marking.{Above, Marking, IsMarking, at_top}
use Rattle.tree_marks.specs.Marks.{mark, mark_all, sweep}
use Rattle.tree_marks.specs.Ways.{OnlyMarks}
use Rattle.tree_marks.proofs.Sweeps.{mark_all-sweep}
use Rattle.tree_marks.proofs.MarkSteps.{keeps_handles-self, keeps_handles-twice, only-self, only-twice}

module _ {V : Type 0} (m : Marking V) (ok : IsMarking m) where
  -- one node more on the list
  mark_all-push : (also : Bool) (p : Above) (cs : List Handle) (c : Handle) (f : Forest V) → mark_all m also p (cs ++ c ∷ []) f ≡ mark m also p c (mark_all m also p cs f)
  mark_all-push also p [] c f = refl
  mark_all-push also p (d ∷ cs) c f = mark_all-push also p cs c (mark m also p d f)

  pub record Marked (also : Bool) (t0 t : Tree V) (cs : List Handle) : Type 0 where
    pub plain : (f : Forest V) → Is t0 f → Is t (mark_all m also at_top cs f)
    pub only : OnlyMarks m t0 t
    pub gone : (k : Handle) → node_at t0 k ≡ None → node_at t k ≡ None
    pub root : t.root ≡ t0.root
    pub inactive : t.inactive ≡ t0.inactive
    pub handles : KeepsHandles t0.nodes t.nodes

  pub marked-start : (also : Bool) (t : Tree V) → Marked also t t []
  marked-start also t = record { plain = λ f is. is; only = only-self m ok t; gone = λ k e. e; root = refl; inactive = refl; handles = keeps_handles-self t }

  pub marked-live : (also : Bool) (t0 t : Tree V) (cs : List Handle) (h : Handle) → Marked also t0 t cs → IsNode t0 h → IsNode t h
  marked-live also t0 t cs h so_far live =
      let node = some_of (node_at t0 h) live in
      let there = so_far.only h node.0 node.1 in
      is_node (node_at t h) (record node.0 { value = m.marked there.0 there.1 node.0.value }) there.2

  pub marked-more : (also : Bool) (t0 t u : Tree V) (cs : List Handle) (c : Handle) → Marked also t0 t cs → ((f : Forest V) → Is t f → Is u (mark m also at_top c f)) → OnlyMarks m t u → ((k : Handle) → node_at t k ≡ None → node_at u k ≡ None)
      → u.root ≡ t.root → u.inactive ≡ t.inactive → KeepsHandles t.nodes u.nodes → Marked also t0 u (cs ++ c ∷ [])
  marked-more also t0 t u cs c so_far plain only gone root inactive handles = record {
    plain = λ f is. subst (Is u) (sym (mark_all-push also at_top cs c f)) (plain (mark_all m also at_top cs f) (so_far.plain f is));
    only = only-twice m ok t0 t u so_far.only only;
    gone = λ k e. gone k (so_far.gone k e);
    root = root ∙ so_far.root;
    inactive = inactive ∙ so_far.inactive;
    handles = keeps_handles-twice t0 t u so_far.handles handles;
  }

  pub marked-end : (also : Bool) (t0 t : Tree V) (cs : List Handle) → Marked also t0 t cs → (f : Forest V) → Is t0 f → Is t (sweep m also cs at_top f)
  marked-end also t0 t cs done f is = subst (Is t) (mark_all-sweep m ok also cs at_top f) (done.plain f is)
