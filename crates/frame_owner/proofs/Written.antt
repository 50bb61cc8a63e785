-- Widgets are written one after another.
use Rattle.std.proofs.Common.{◌≡◌, ◌≢◌, ℕ, zero, suc, ◌+◌, ◌<◌, ◌≤◌, Bool, true, cond, Option, Some, None, option_map, List, [], ◌∷◌, ◌++◌, length, map, take, drop, get_or, refl, ap, sym, ◌∙◌, subst, inl, inr, arith}
use Rattle.std.proofs.lemmas.List.{take_more, take_all, drop_all, map-append}
use Rattle.std.proofs.Math.Seq.{drop-cons}
use Rattle.fx_handles.specs.declared.Handle.{Handle}
use Rattle.fx_handles.specs.Handle.{same, times, AreDistinct}
use Rattle.fx_handles.specs.HandleLaws.{cases_same, same-eq, same-ne, times-cons, times_here}
use Rattle.node_tree.specs.Edits.{KeepsHandles}
use Rattle.node_tree.specs.Forest.{TreeNode, with_value_at}
use Rattle.node_tree.specs.Tree.{Tree, node_at}
use Rattle.node_tree.proofs.EditLemmas.{keeps_self, keeps_then}
use Rattle.widget_model.specs.Plain.{PlainWidget}
use Rattle.render_tree.specs.Edits.{Changes, with_widget}
use Rattle.render_tree.specs.Object.{RenderObject}
use Rattle.render_tree.specs.Tree.{object_at}
use Rattle.renewed_builds.specs.Renewing.{Change}
use Rattle.frame_owner.specs.Redrawing.{widget_after, changed, entry_for, HasTaken}
use Rattle.frame_owner.proofs.Taken.{unchanged}

-- ---- plans

-- the plan with one change more
pub planned_more : (t : Tree RenderObject) (cs : List Change) (i : ℕ) (c : Change) → i < length cs → c ≡ get_or cs i c → map (entry_for t) (take i cs) ++ entry_for t c ∷ [] ≡ map (entry_for t) (take (i + 1) cs)
planned_more t cs i c low is =
    ap (λ (d : Change). map (entry_for t) (take i cs) ++ entry_for t d ∷ []) is ∙ sym (ap (map (entry_for t)) (take_more cs i c low) ∙ map-append (entry_for t) (take i cs) (get_or cs i c ∷ []))

pub planned_all : (t : Tree RenderObject) (cs : List Change) (i : ℕ) → length cs ≤ i → map (entry_for t) (take i cs) ≡ map (entry_for t) cs
planned_all t cs i over = ap (map (entry_for t)) (take_all i cs over)

-- ---- widgets

value_of : (x : Option (TreeNode RenderObject)) (n : TreeNode RenderObject) → x ≡ Some n → option_map (λ (m : TreeNode RenderObject). m.value) x ≡ Some n.value
value_of x n e = ap (option_map (λ (m : TreeNode RenderObject). m.value)) e

-- a node with what is left to write
abbrev with_rest : List Change → Handle → Option (TreeNode RenderObject) → Option (TreeNode RenderObject)
with_rest cs k x = option_map (λ (n : TreeNode RenderObject). record n { value = changed cs k n.value }) x

written : (c : Change) (cs : List Change) (a b : Tree RenderObject) → times c.at (map (λ (d : Change). d.at) cs) ≡ 0 → Changes a b c.at (with_widget c.widget)
    → (k : Handle) → with_rest cs k (node_at b k) ≡ with_rest (c ∷ cs) k (node_at a k)
written c cs a b absent changes k = by_node (node_at a c.at) refl
  where
    off : k ≢ c.at → (x : Option (TreeNode RenderObject)) → with_rest cs k x ≡ with_rest (c ∷ cs) k x
    off ne None = refl
    off ne (Some n) =
        ap (λ (t : Bool). Some (record n { value = record n.value { widget = cond {A = PlainWidget} t c.widget (widget_after cs k n.value.widget) } })) (sym (same-ne k c.at ne))

    untouched : (v : RenderObject) → k ≢ c.at → (x : Option (TreeNode RenderObject)) → option_map (with_value_at c.at v k) x ≡ x
    untouched v ne None = refl
    untouched v ne (Some n) = ap (λ (t : Bool). Some (cond {A = TreeNode RenderObject} t (record n { value = v }) n)) (same-ne k c.at ne)

    by_node : (x : Option (TreeNode RenderObject)) → node_at a c.at ≡ x → with_rest cs k (node_at b k) ≡ with_rest (c ∷ cs) k (node_at a k)
    by_node None e =
        let stays : b ≡ a = changes.dead (ap (option_map (λ (n : TreeNode RenderObject). n.value)) e) in
        ap (λ (t : Tree RenderObject). with_rest cs k (node_at t k)) stays ∙ elim (cases_same k c.at) [
          | inl here ↦ let gone = ap (node_at a) here ∙ e in ap (with_rest cs k) gone ∙ sym (ap (with_rest (c ∷ cs) k) gone)
          | inr ne ↦ off ne (node_at a k)
        ]
    by_node (Some n) e =
        let writes = (changes.live n.value (value_of (node_at a c.at) n e)).writes in
        elim (cases_same k c.at) [
          | inl here ↦
              let was : node_at a k ≡ Some n = ap (node_at a) here ∙ e in
              let one : same k c.at ≡ true = same-eq k c.at here in
              let now : node_at b k ≡ Some (record n { value = with_widget c.widget n.value }) =
              writes.nodes k ∙ (ap (option_map (with_value_at c.at (with_widget c.widget n.value) k)) was
              ∙ ap (λ (t : Bool). Some (cond {A = TreeNode RenderObject} t (record n { value = with_widget c.widget n.value }) n)) one) in
              let left : widget_after cs k c.widget ≡ c.widget = unchanged k c.widget cs (ap (λ (h : Handle). times h (map (λ (d : Change). d.at) cs)) here ∙ absent) in
              ap (with_rest cs k) now
              ∙ (ap (λ (w : PlainWidget). Some (record n { value = record n.value { widget = w } })) left
              ∙ (ap (λ (t : Bool). Some (record n { value = record n.value { widget = cond {A = PlainWidget} t c.widget (widget_after cs k n.value.widget) } })) (sym one) ∙ sym (ap (with_rest (c ∷ cs) k) was)))
          | inr ne ↦ ap (with_rest cs k) (writes.nodes k ∙ untouched (with_widget c.widget n.value) ne (node_at a k)) ∙ off ne (node_at a k)
        ]

-- the handles of what is left are as distinct
few_left : (h : Handle) (cs : List Change) (i : ℕ) → times h (map (λ (c : Change). c.at) (drop i cs)) ≤ times h (map (λ (c : Change). c.at) cs)
few_left h [] zero = omega arith
few_left h [] (suc i) = omega arith
few_left h (c ∷ cs) zero = omega arith
few_left h (c ∷ cs) (suc i) = let less = few_left h cs i in let parts = times-cons h c.at (map (λ (d : Change). d.at) cs) in omega (arith, less, parts)

-- so many are written
pub record HasWritten (cs : List Change) (i : ℕ) (old now : Tree RenderObject) : Type 0 where
  pub rest : (k : Handle) → with_rest (drop i cs) k (node_at now k) ≡ with_rest cs k (node_at old k)
  pub handles : KeepsHandles old.nodes now.nodes
  pub root : now.root ≡ old.root
  pub inactive : now.inactive ≡ old.inactive

pub none_written : (cs : List Change) (t : Tree RenderObject) → HasWritten cs 0 t t
none_written cs t = record { rest = λ k. refl; handles = keeps_self t.nodes; root = refl; inactive = refl }

-- what stays where one node is changed
record Stays (a b : Tree RenderObject) : Type 0 where
  handles : KeepsHandles a.nodes b.nodes
  root : b.root ≡ a.root
  inactive : b.inactive ≡ a.inactive

stays : (a b : Tree RenderObject) (h : Handle) (change : RenderObject → RenderObject) → Changes a b h change → Stays a b
stays a b h change changes = by_object (object_at a h) refl
  where
    by_object : (x : Option RenderObject) → object_at a h ≡ x → Stays a b
    by_object None e =
        let is = changes.dead e in
        record { handles = subst (λ (t : Tree RenderObject). KeepsHandles a.nodes t.nodes) (sym is) (keeps_self a.nodes); root = ap (λ (t : Tree RenderObject). t.root) is; inactive = ap (λ (t : Tree RenderObject). t.inactive) is }
    by_object (Some o) e = let writes = changes.live o e in record { handles = writes.writes.handles; root = writes.root; inactive = writes.inactive }

pub one_written : (cs : List Change) (i : ℕ) (c : Change) (old a b : Tree RenderObject) → AreDistinct (map (λ (d : Change). d.at) cs) → i < length cs → c ≡ get_or cs i c → HasWritten cs i old a → Changes a b c.at (with_widget c.widget)
    → HasWritten cs (i + 1) old b
one_written cs i c old a b once low is so_far changes = record {
  rest = λ k. written c (drop (i + 1) cs) a b alone changes k ∙ (ap (λ (ds : List Change). with_rest ds k (node_at a k)) (sym next) ∙ so_far.rest k);
  handles = keeps_then old.nodes a.nodes b.nodes so_far.handles kept.handles;
  root = kept.root ∙ so_far.root;
  inactive = kept.inactive ∙ so_far.inactive;
}
  where
    kept : Stays a b
    kept = stays a b c.at (with_widget c.widget) changes

    after_one : i + 1 ≡ suc i
    after_one = omega arith

    next : drop i cs ≡ c ∷ drop (i + 1) cs
    next = drop-cons cs i c low ∙ (ap (λ (d : Change). d ∷ drop (suc i) cs) (sym is) ∙ ap (λ (n : ℕ). c ∷ drop n cs) (sym after_one))

    alone : times c.at (map (λ (d : Change). d.at) (drop (i + 1) cs)) ≡ 0
    alone =
        let few = few_left c.at cs i in
        let all = once c.at in
        let first = ap (λ (ds : List Change). times c.at (map (λ (d : Change). d.at) ds)) next in
        let here = times_here c.at (map (λ (d : Change). d.at) (drop (i + 1) cs)) in
        omega (arith, few, all, first, here)

pub all_written : (cs : List Change) (i : ℕ) (old now : Tree RenderObject) → length cs ≤ i → HasWritten cs i old now → HasTaken cs old now
all_written cs i old now over so_far = record {
  nodes = λ k. sym (same_rest k (node_at now k)) ∙ (ap (λ (ds : List Change). with_rest ds k (node_at now k)) (sym (drop_all i cs over)) ∙ so_far.rest k);
  handles = so_far.handles;
  root = so_far.root;
  inactive = so_far.inactive;
}
  where
    same_rest : (k : Handle) (x : Option (TreeNode RenderObject)) → with_rest [] k x ≡ x
    same_rest k None = refl
    same_rest k (Some n) = refl
