-- What marking one node, or several, changes.
use Rattle.std.proofs.Common.{◌≡◌, ℕ, Bool, false, is_some, List, [], ◌∷◌, Option, Some, None, option_map, option_and_then, refl, sym, ap, ◌∙◌, subst}
use Rattle.std.proofs.lemmas.Bool.{false≢true}
use Rattle.fx_handles.specs.declared.Handle.{Handle}
use Rattle.node_tree.specs.Forest.{TreeNode, Forest}
use Rattle.node_tree.specs.Tree.{Tree, IsNode, node_at, Is}
use Rattle.handle_groups.specs.Groups.{Groups}
use Rattle.layout_form.specs.Layout.{delegate_of}
use Rattle.node_tree.specs.Edits.{KeepsHandles}
use Rattle.tree_marks.specs.Marking.{Marking, IsMarking, at_top}
use Rattle.tree_marks.specs.Marks.{mark}
use Rattle.tree_marks.specs.Ways.{OnlyMarks}
use Rattle.tree_marks.proofs.Sweeps.{mark_all-sweep}
use Rattle.render_tree.specs.Object.{RenderObject, object_look}
use Rattle.render_tree.specs.Marked.{SetsMarks}
use Rattle.render_tree.specs.Users.{delegate_at, AreUsers}
use Rattle.render_tree.proofs.Used.{used_same}

-- one node is a list of one
pub sets_one : (m : Marking RenderObject) → IsMarking m → (also : Bool) (h : Handle) (old new : Tree RenderObject)
    → ((f : Forest RenderObject) → Is old f → Is new (mark m also at_top h f)) → OnlyMarks m old new → ((k : Handle) → node_at old k ≡ None → node_at new k ≡ None)
    → new.root ≡ old.root → new.inactive ≡ old.inactive → KeepsHandles old.nodes new.nodes → SetsMarks m also (h ∷ []) old new
sets_one m ok also h old new plain only absent root inactive handles = record {
  plain = λ f is. subst (Is new) (mark_all-sweep m ok also (h ∷ []) at_top f) (plain f is);
  only = only;
  absent = absent;
  root = root;
  inactive = inactive;
  handles = handles;
}

-- marks change no kind
abbrev pub KeepsLooks : Marking RenderObject → Type 0
KeepsLooks m = (f b : Bool) (o : RenderObject) → object_look (m.marked f b o) ≡ object_look o

-- the users of delegates stay as they are
pub used_marked : (m : Marking RenderObject) → KeepsLooks m → (g : Groups) (t u : Tree RenderObject) → AreUsers g t → OnlyMarks m t u → ((k : Handle) → node_at t k ≡ None → node_at u k ≡ None) → AreUsers g u
used_marked m keeps g t u users only absent = used_same g t u users (λ k. by_node k (node_at t k) refl)
  where
    called : Option (TreeNode RenderObject) → Option (List ℕ)
    called o = option_and_then (λ x. delegate_of (object_look x)) (option_map (λ n. n.value) o)

    by_node : (k : Handle) (o : Option (TreeNode RenderObject)) → node_at t k ≡ o → delegate_at u k ≡ delegate_at t k
    by_node k None e = ap called (absent k e) ∙ sym (ap called e)
    by_node k (Some n) e =
        let marks = only k n e in
        ap called marks.2 ∙ (ap delegate_of (keeps marks.0 marks.1 n.value) ∙ sym (ap called e))

pub used_sets : (m : Marking RenderObject) → KeepsLooks m → (also : Bool) (hs : List Handle) (g : Groups) (t u : Tree RenderObject) → AreUsers g t → SetsMarks m also hs t u → AreUsers g u
used_sets m keeps also hs g t u users sets = used_marked m keeps g t u users sets.only sets.absent

pub used_live : (m : Marking RenderObject) → KeepsLooks m → (h : Handle) (g : Groups) (t u : Tree RenderObject) → AreUsers g t → (IsNode t h → SetsMarks m false (h ∷ []) t u) → ((IsNode t h → ⊥) → u ≡ t) → AreUsers g u
used_live m keeps h g t u users live dead = by_node (node_at t h) refl
  where
    by_node : (o : Option (TreeNode RenderObject)) → node_at t h ≡ o → AreUsers g u
    by_node None e = subst (AreUsers g) (sym (dead (λ some. false≢true (sym (ap is_some e) ∙ some)))) users
    by_node (Some n) e = used_sets m keeps false (h ∷ []) g t u users (live (ap is_some e))
