-- Of which trees nothing is remarked after an edit, and that edits keep what is known beside the tree.
use Rattle.std.proofs.Common.{◌≡◌, ◌≢◌, ℕ, Bool, true, false, ◌||◌, cond, is_some, nat_lt, ◌≤◌, List, [], ◌∷◌, Option, Some, None, Result, Ok, Err, OnOk, OnErr, IsSome, option_map, refl, sym, ap, ◌∙◌, subst, inl, inr, arith}
use Rattle.std.proofs.lemmas.Bool.{false≢true}
use Rattle.std.proofs.lemmas.Bool.Decides.{nat_tests}
use Rattle.std.specs.declared.alloc.AllocError.{AllocError}
use Rattle.fx_handles.specs.declared.Handle.{Handle}
use Rattle.fx_handles.specs.Handle.{same}
use Rattle.fx_handles.specs.HandleLaws.{cases_same}
use Rattle.handle_groups.specs.Groups.{Groups}
use Rattle.node_tree.specs.Forest.{TreeNode, count, In}
use Rattle.node_tree.specs.Tree.{Tree, IsNode, node_at, subtree_at}
use Rattle.node_tree.specs.Edits.{Adds, KeepsValues, KeepsOtherValues, RemovesBelow}
use Rattle.node_tree.specs.Part.{kept_by, left_node, CommitsPart}
use Rattle.node_tree.specs.Plan.{PlanEntry, entry_at, relinked, committed, Commits}
use Rattle.plain_tree.specs.declared.laid.Notes.{Notes}
use Rattle.tree_marks.specs.Marking.{Marking}
use Rattle.tree_marks.specs.Ways.{OnlyMarks}
use Rattle.render_tree.specs.Edits.{Changes, no_notes}
use Rattle.render_tree.specs.Marked.{SetsMarks}
use Rattle.render_tree.specs.Object.{RenderObject}
use Rattle.render_tree.specs.Ranges.{cleared_if, Clears}
use Rattle.render_tree.specs.Redraw.{Redraw, redrawn}
use Rattle.render_tree.specs.Remarked.{HasNoNotes, IsQuietUnless}
use Rattle.render_tree.specs.Tree.{object_at}
use Rattle.render_tree.specs.Users.{is_in, AreUsers}
use Rattle.render_tree.proofs.Marking.{KeepsLooks, used_marked, used_live}
use Rattle.render_tree.proofs.Used.{used_set, used_by, value_after}

-- ---- single nodes

some_one : (x y : RenderObject) → Some x ≡ Some y → x ≡ y
some_one x y e = cc

never_some : (x : RenderObject) → None ≡ Some x → ⊥
never_some x e = cc

-- what is stored at a node of a store
abbrev value_in : Option (TreeNode RenderObject) → Option RenderObject
value_in o = option_map (λ (n : TreeNode RenderObject). n.value) o

-- this holds of what is stored, if anything is
abbrev HasNone : Option RenderObject → Type 0
HasNone o = (x : RenderObject) → o ≡ Some x → x.notes ≡ no_notes

none_stored : HasNone None
none_stored x e = absurd (never_some x e)

one_stored : (y : RenderObject) → y.notes ≡ no_notes → HasNone (Some y)
one_stored y quiet x e = ap (λ (z : RenderObject). z.notes) (sym (some_one y x e)) ∙ quiet

same_stored : (o p : Option RenderObject) → p ≡ o → HasNone o → HasNone p
same_stored o p e quiet = subst HasNone (sym e) quiet

-- a stored value that may be another one from now on
changed_stored : (b : Bool) (o : Option RenderObject) (w : RenderObject) → (b ≡ true → w.notes ≡ no_notes) → HasNone o → HasNone (option_map (λ v. cond b w v) o)
changed_stored b None w new quiet = none_stored
changed_stored true (Some v) w new quiet = one_stored w (new refl)
changed_stored false (Some v) w new quiet = quiet

-- ---- one node is changed

pub noteless_set : (t u : Tree RenderObject) (h : Handle) (change : RenderObject → RenderObject) → HasNoNotes t → Changes t u h change
    → ((o : RenderObject) → o.notes ≡ no_notes → (change o).notes ≡ no_notes) → HasNoNotes u
noteless_set t u h change quiet changes keeps = by (object_at t h) refl
  where
    by : (o : Option RenderObject) → object_at t h ≡ o → HasNoNotes u
    by None at = subst HasNoNotes (sym (changes.dead at)) quiet
    by (Some e) at =
        λ k. same_stored (option_map (λ v. cond (same k h) (change e) v) (object_at t k)) (object_at u k) (value_after t u h (change e) (changes.live e at).writes k)
        (changed_stored (same k h) (object_at t k) (change e) (λ _. keeps e (quiet h e at)) (quiet k))

-- ---- trees that keep what is stored, or some of it

pub noteless_kept : (t u : Tree RenderObject) → HasNoNotes t → KeepsValues t u → HasNoNotes u
noteless_kept t u quiet keeps = λ k. same_stored (object_at t k) (object_at u k) (keeps k) (quiet k)

live_from : (n : Option (TreeNode RenderObject)) (o : RenderObject) → value_in n ≡ Some o → IsSome n
live_from None o e = absurd (never_some o e)
live_from (Some n) o e = refl

-- the nodes that are left
pub noteless_left : (t u : Tree RenderObject) → HasNoNotes t → ((k : Handle) → IsNode u k → object_at u k ≡ object_at t k) → HasNoNotes u
noteless_left t u quiet keeps = λ k o at. quiet k o (sym (keeps k (live_from (node_at u k) o at)) ∙ at)

in_from : (n : ℕ) → nat_lt 0 n ≡ true → 1 ≤ n
in_from n e = grind (arith, nat_tests)

in_none : (n : ℕ) → nat_lt 0 n ≡ false → n ≡ 0
in_none n e = grind (arith, nat_tests)

pub noteless_removed : (t u : Tree RenderObject) (h : Handle) (n : ℕ) → HasNoNotes t → RemovesBelow t u h n → ((k : Handle) → (In k (subtree_at t h) → ⊥) → object_at u k ≡ object_at t k) → HasNoNotes u
noteless_removed t u h n quiet removes values = λ k. by k (is_in k (subtree_at t h)) refl
  where
    by : (k : Handle) (b : Bool) → is_in k (subtree_at t h) ≡ b → HasNone (object_at u k)
    by k true e = same_stored None (object_at u k) (ap value_in (removes.gone k (in_from (count k (subtree_at t h)) e))) none_stored
    by k false e =
        same_stored (object_at t k) (object_at u k) (values k (λ among. let zero_of = in_none (count k (subtree_at t h)) e in absurd (omega (arith, zero_of, among)))) (quiet k)

-- a node that is new
pub noteless_added : (t u : Tree RenderObject) (q : Option Handle) (i : ℕ) (h : Handle) (o : RenderObject) → HasNoNotes t → Adds t.nodes u.nodes q i h o → o.notes ≡ no_notes → KeepsOtherValues t u h
    → HasNoNotes u
noteless_added t u q i h o quiet adds none others = λ k. elim (cases_same k h) [
  | inl e ↦ same_stored (Some o) (object_at u k) (ap (object_at u) e ∙ ap value_in adds.found) (one_stored o none)
  | inr apart ↦ same_stored (object_at t k) (object_at u k) (others k apart) (quiet k)
]

-- ---- plans

relinked_stored : (e : PlanEntry Redraw) (n : Option (TreeNode RenderObject)) → HasNone (value_in n) → HasNone (value_in (option_map (relinked redrawn e) n))
relinked_stored e None quiet = none_stored
relinked_stored e (Some n) quiet = one_stored (redrawn e.update n.value) (quiet n.value refl)

either_stored : (b : Bool) (n m : Option (TreeNode RenderObject)) → HasNone (value_in n) → HasNone (value_in m) → HasNone (value_in (cond b n m))
either_stored true n m h k = h
either_stored false n m h k = k

committed_stored : (es : List (PlanEntry Redraw)) (k : Handle) (n : Option (TreeNode RenderObject)) → HasNone (value_in n) → HasNone (value_in (committed redrawn es k n))
committed_stored [] k n quiet = none_stored
committed_stored (e ∷ es) k n quiet = either_stored (same k e.at) (option_map (relinked redrawn e) n) (committed redrawn es k n) (relinked_stored e n quiet) (committed_stored es k n quiet)

left_stored : (es : List (PlanEntry Redraw)) (k : Handle) (n : Option (TreeNode RenderObject)) → HasNone (value_in n) → HasNone (value_in (option_map (left_node es k) n))
left_stored es k None quiet = none_stored
left_stored es k (Some n) quiet = quiet

kept_stored : (x : Option (PlanEntry Redraw)) (es : List (PlanEntry Redraw)) (k : Handle) (n : Option (TreeNode RenderObject)) → HasNone (value_in n) → HasNone (value_in (kept_by redrawn x es k n))
kept_stored None es k n quiet = left_stored es k n quiet
kept_stored (Some e) es k n quiet = relinked_stored e n quiet

pub noteless_committed : (t u : Tree RenderObject) (es : List (PlanEntry Redraw)) → HasNoNotes t → Commits redrawn es t.nodes u.nodes → HasNoNotes u
noteless_committed t u es quiet commits =
    λ k. same_stored (value_in (committed redrawn es k (node_at t k))) (object_at u k) (ap value_in (commits.nodes k)) (committed_stored es k (node_at t k) (quiet k))

pub noteless_part : (t u : Tree RenderObject) (es : List (PlanEntry Redraw)) → HasNoNotes t → CommitsPart redrawn es t.nodes u.nodes → HasNoNotes u
noteless_part t u es quiet commits =
    λ k. same_stored (value_in (kept_by redrawn (entry_at es k) es k (node_at t k))) (object_at u k) (ap value_in (commits.nodes k)) (kept_stored (entry_at es k) es k (node_at t k) (quiet k))

-- ---- live ranges

cleared_stored : (b : Bool) (n : TreeNode RenderObject) → n.value.notes ≡ no_notes → (cleared_if b n).value.notes ≡ no_notes
cleared_stored true n quiet = quiet
cleared_stored false n quiet = quiet

all_cleared_stored : (b : Bool) (n : Option (TreeNode RenderObject)) → HasNone (value_in n) → HasNone (value_in (option_map (cleared_if b) n))
all_cleared_stored b None quiet = none_stored
all_cleared_stored b (Some n) quiet = one_stored (cleared_if b n).value (cleared_stored b n (quiet n.value refl))

pub noteless_cleared : (t u : Tree RenderObject) (p : Handle → Bool) → HasNoNotes t → Clears t u p → HasNoNotes u
noteless_cleared t u p quiet clears =
    λ k. same_stored (value_in (option_map (cleared_if (p k)) (node_at t k))) (object_at u k) (ap value_in (clears.nodes k)) (all_cleared_stored (p k) (node_at t k) (quiet k))

-- ---- marks

abbrev pub KeepsNotes : Marking RenderObject → Type 0
KeepsNotes m = (f b : Bool) (o : RenderObject) → (m.marked f b o).notes ≡ o.notes

noteless_marked : (m : Marking RenderObject) → KeepsNotes m → (t u : Tree RenderObject) → HasNoNotes t → OnlyMarks m t u → ((k : Handle) → node_at t k ≡ None → node_at u k ≡ None) → HasNoNotes u
noteless_marked m keeps t u quiet only absent = λ k. by k (node_at t k) refl
  where
    by : (k : Handle) (n : Option (TreeNode RenderObject)) → node_at t k ≡ n → HasNone (object_at u k)
    by k None e = same_stored None (object_at u k) (ap value_in (absent k e)) none_stored
    by k (Some n) e =
        let marks = only k n e in
        same_stored (Some (m.marked marks.0 marks.1 n.value)) (object_at u k) (ap value_in marks.2)
        (one_stored (m.marked marks.0 marks.1 n.value) (keeps marks.0 marks.1 n.value ∙ quiet k n.value (ap value_in e)))

noteless_live : (m : Marking RenderObject) → KeepsNotes m → (h : Handle) (t u : Tree RenderObject) → HasNoNotes t → (IsNode t h → SetsMarks m false (h ∷ []) t u) → ((IsNode t h → ⊥) → u ≡ t) → HasNoNotes u
noteless_live m keeps h t u quiet live dead = by (node_at t h) refl
  where
    by : (n : Option (TreeNode RenderObject)) → node_at t h ≡ n → HasNoNotes u
    by None e = subst HasNoNotes (sym (dead (λ some. false≢true (sym (ap is_some e) ∙ some)))) quiet
    by (Some n) e = let sets = live (ap is_some e) in noteless_marked m keeps t u quiet sets.only sets.absent

-- ---- what is known beside a tree: the users of delegates, and whether something was remarked

abbrev pub IsKnown : Groups → Bool → Tree RenderObject → Type 0
IsKnown g remarked t = AreUsers g t × IsQuietUnless remarked t

pub known_set : (g : Groups) (m : Bool) (t u : Tree RenderObject) (h : Handle) (change : RenderObject → RenderObject) → IsKnown g m t → Changes t u h change
    → ((o : RenderObject) → (change o).widget ≡ o.widget) → ((o : RenderObject) → (change o).notes ≡ o.notes) → IsKnown g m u
known_set g m t u h change known changes widget notes =
    (used_set g t u h change known.0 changes widget, λ e. noteless_set t u h change (known.1 e) changes (λ o quiet. notes o ∙ quiet))

neither : (a b : Bool) → (a || b) ≡ false → (a ≡ false) × (b ≡ false)
neither true b e = cc
neither false b e = (refl, e)

-- notes that are set
pub known_noted : (g : Groups) (m n r : Bool) (t u : Tree RenderObject) (h : Handle) (change : RenderObject → RenderObject) (notes : Notes) → IsKnown g m t → Changes t u h change
    → ((o : RenderObject) → (change o).widget ≡ o.widget) → ((o : RenderObject) → (change o).notes ≡ notes) → r ≡ (m || n) → (n ≡ false → notes ≡ no_notes) → IsKnown g r u
known_noted g m n r t u h change notes known changes widget is r_is none = (
  used_set g t u h change known.0 changes widget,
  λ e. let both = neither m n (sym r_is ∙ e) in noteless_set t u h change (known.1 both.0) changes (λ o quiet. is o ∙ none both.1),
)

pub known_by : {P : Type 0} (r : Result (Unit {0}) AllocError) (g : Groups) (m : Bool) (t u : Tree RenderObject) → IsKnown g m t → OnOk r P → OnErr r (u ≡ t) → (P → KeepsValues t u) → IsKnown g m u
known_by (Ok x) g m t u known ok err keeps = (used_by (Ok x) g t u known.0 ok err keeps, λ e. noteless_kept t u (known.1 e) (keeps ok))
known_by (Err x) g m t u known ok err keeps = subst (IsKnown g m) (sym err) known

pub known_live : (m : Marking RenderObject) → KeepsLooks m → KeepsNotes m → (h : Handle) (g : Groups) (r : Bool) (t u : Tree RenderObject) → IsKnown g r t → (IsNode t h → SetsMarks m false (h ∷ []) t u) → ((IsNode t h → ⊥) → u ≡ t)
    → IsKnown g r u
known_live m looks notes h g r t u known live dead = (used_live m looks h g t u known.0 live dead, λ e. noteless_live m notes h t u (known.1 e) live dead)

pub known_marked : (m : Marking RenderObject) → KeepsLooks m → KeepsNotes m → (g : Groups) (r : Bool) (t u : Tree RenderObject) → IsKnown g r t → OnlyMarks m t u → ((k : Handle) → node_at t k ≡ None → node_at u k ≡ None) → IsKnown g r u
known_marked m looks notes g r t u known only absent = (used_marked m looks g t u known.0 only absent, λ e. noteless_marked m notes t u (known.1 e) only absent)
