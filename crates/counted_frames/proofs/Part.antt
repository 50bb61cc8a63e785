-- A part of a tree that was redrawn: its root's tree, the numbers of its nodes, and which of them are marked.
use Rattle.std.proofs.Common.{◌≡◌, ◌⊎◌, ℕ, ◌+◌, ◌≤◌, Bool, true, false, cond, Option, Some, None, option_map, List, [], ◌∷◌, ◌++◌, inl, inr, refl, sym, ap, ◌∙◌, subst, arith}
use Rattle.std.proofs.lemmas.Bool.{or_left, or_right}
use Rattle.std.specs.Option.{option_to_list}
use Rattle.fx_handles.specs.declared.Handle.{Handle}
use Rattle.fx_handles.specs.Handle.{same, Among}
use Rattle.fx_handles.specs.HandleLaws.{cases_same, times_there}
use Rattle.fx_handles.specs.ArenaLaws.{same_Some}
use Rattle.node_tree.specs.Forest.{TreeNode, Forest, tops, Stands, append, below}
use Rattle.node_tree.specs.Forest.Forest.{none, tree}
use Rattle.node_tree.specs.Part.{kept_by}
use Rattle.node_tree.specs.Plan.{PlanEntry, entries, planned, entry_at}
use Rattle.node_tree.specs.Tree.{Tree, Is, IsTree, IsNode, node_at, parent_of, children_of, parent_at, children_at, subtree_at}
use Rattle.node_tree.proofs.Children.{below-stands}
use Rattle.node_tree.proofs.ForestLemmas.{weigh-append}
use Rattle.node_tree.proofs.PlanLemmas.{entry-some, entry-named}
use Rattle.node_tree.proofs.TreeLemmas.{is_node, subtree_is, Holds-from_Is, parent_lists}
use Rattle.tree_marks.specs.Marks.{listed}
use Rattle.tree_marks.proofs.Closing.{either}
use Rattle.work_roles.specs.WorkRole.{is_offstage}
use Rattle.render_tree.specs.Changes.{EachEntry, BecomesRoot}
use Rattle.render_tree.specs.Marks.{layout_marks}
use Rattle.render_tree.specs.Object.{RenderObject, object_look}
use Rattle.render_tree.specs.Plain.{root_below, root_tree}
use Rattle.render_tree.specs.Redraw.{Redraw, redrawn}
use Rattle.render_tree.specs.Tree.{object_at}
use Rattle.render_sync.specs.Numbering.{NumbersDiffer, number_at}
use Rattle.render_sync.specs.Synced.{Grows}
use Rattle.build_walk.specs.Changing.{StoodBelow, AreSizedSame, KeepsForLayout, ChangesForLayout, SomeChanges}
use Rattle.build_walk.proofs.Reporting.{reported_changes}
use Rattle.counted_work.proofs.Synced.{one_under}
use Rattle.kept_phases.specs.Parts.{RedrawsPart}
use Rattle.counted_frames.proofs.Planned.{no_some, some_is, AllStored}

-- ---- the root's tree, where other trees stand beside it

pub front_stands : (at : Handle → Option (TreeNode RenderObject)) (p : Option Handle) (f g : Forest RenderObject) → Stands at p (append f g) → Stands at p f
front_stands at p none g s = tt
front_stands at p (tree h o kids rest) g s = (s.0, s.1, front_stands at p rest g s.2)

head_is : (h k : Handle) (hs ks : List Handle) → h ∷ hs ≡ k ∷ ks → (h ≡ k) × (hs ≡ ks)
head_is h k hs ks e = (cc, cc)

nothing_one : {B : Type 0} (h : Handle) (hs : List Handle) → [] ≡ h ∷ hs → B
nothing_one h hs e = absurd (cc)

pub part_root : (t : Tree RenderObject) (f g : Forest RenderObject) → Is t (append f g) → option_to_list t.root ≡ tops f → root_tree t ≡ f
part_root t f g is root = by_root t.root refl f is root
  where
    by_root : (r : Option Handle) → t.root ≡ r → (f : Forest RenderObject) → Is t (append f g) → option_to_list t.root ≡ tops f → root_tree t ≡ f
    by_root None e none is root = ap (root_below t) e
    by_root None e (tree h o kids rest) is root = nothing_one h (tops rest) (sym (ap option_to_list e) ∙ root)
    by_root (Some r) e none is root = nothing_one r [] (sym (sym (ap option_to_list e) ∙ root))
    by_root (Some r) e (tree h o kids (tree k v under rest)) is root =
        nothing_one k (tops rest) (head_is r h [] (k ∷ tops rest) (sym (ap option_to_list e) ∙ root)).1
    by_root (Some r) e (tree h o kids none) is root =
        let top = (head_is r h [] [] (sym (ap option_to_list e) ∙ root)).0 in
        let stands = front_stands (node_at t) None (tree h o kids none) g is.stands in
        ap (root_below t) e ∙ (ap (subtree_at t) top ∙ subtree_is t h (tree h o kids none) (record {
          top = refl;
          stands = subst (λ (p : Option Handle). Stands (node_at t) p (tree h o kids none)) (sym (ap parent_of stands.0)) stands;
          distinct = λ j.
              let once = is.distinct j in
              let sum = weigh-append (λ y. cond {A = ℕ} (same y j) 1 0) (tree h o kids none) g in
              omega (arith, once, sum);
        }))

-- ---- what was there

module _ (old made : Tree RenderObject) (grows : Grows old made) (is_old : IsTree old) where
  pub made_node : (k : Handle) (n : TreeNode RenderObject) → node_at old k ≡ Some n → node_at made k ≡ Some n
  made_node k n e = grows.keeps k (is_node (node_at old k) n e) ∙ e

  pub made_stands : (q : Option Handle) (f : Forest RenderObject) → Stands (node_at old) q f → Stands (node_at made) q f
  made_stands q none s = tt
  made_stands q (tree h o kids rest) s = (made_node h (record { parent = q; children = tops kids; value = o }) s.0, made_stands (Some h) kids s.1, made_stands q rest s.2)

  pub made_object : (h : Handle) (o : RenderObject) → object_at old h ≡ Some o → object_at made h ≡ Some o
  made_object h o at = by (node_at old h) refl
    where
      by : (x : Option (TreeNode RenderObject)) → node_at old h ≡ x → object_at made h ≡ Some o
      by None e = no_some o (sym (ap (option_map (λ (n : TreeNode RenderObject). n.value)) e) ∙ at)
      by (Some n) e = ap (option_map (λ (m : TreeNode RenderObject). m.value)) (made_node h n e) ∙ (sym (ap (option_map (λ (m : TreeNode RenderObject). m.value)) e) ∙ at)

  pub stands_stored : (t : Tree RenderObject) (q : Option Handle) (f : Forest RenderObject) → Stands (node_at t) q f → AllStored (object_at t) f
  stands_stored t q none s = tt
  stands_stored t q (tree h o kids rest) s = (ap (option_map (λ (n : TreeNode RenderObject). n.value)) s.0, stands_stored t (Some h) kids s.1, stands_stored t q rest s.2)

  -- what stood below a node of the old tree
  pub was_below : (p : Option Handle) (k : Handle) (o : RenderObject) (items : Forest RenderObject) → node_at old k ≡ Some (record { parent = p; children = tops items; value = o }) → Stands (node_at old) (Some k) items
      → below (subtree_at made k) ≡ items
  was_below p k o items at stands =
      let live = is_node (node_at old k) (record { parent = p; children = tops items; value = o }) at in
      let holds = Holds-from_Is old is_old.0 k is_old.1 live in
      let parts = below-stands old k holds in
      ap below (same_subtree k live)
      ∙ one_under (node_at old) (Some k) (below (subtree_at old k)) items parts.0 stands (parts.1 ∙ ap children_of at)
    where
      same_subtree : (j : Handle) → IsNode old j → subtree_at made j ≡ subtree_at old j
      same_subtree j live =
          let holds = Holds-from_Is old is_old.0 j is_old.1 live in
          subtree_is made j (subtree_at old j) (record {
            top = holds.top;
            stands = subst (λ (q : Option Handle). Stands (node_at made) q (subtree_at old j)) (sym (ap parent_of (grows.keeps j live))) (made_stands (parent_at old j) (subtree_at old j) holds.stands);
            distinct = holds.distinct;
          })

  -- what is below a node stands there
  pub below_stands : (h : Handle) (o : RenderObject) → object_at made h ≡ Some o → Stands (node_at made) (Some h) (below (subtree_at made h))
  below_stands h o at = by_made (node_at made h) refl (node_at old h) refl
    where
      one_node : (j : Handle) → cond {A = ℕ} (same h j) 1 0 + 0 + 0 ≤ 1
      one_node j = elim (same h j) as (λ b. cond {A = ℕ} b 1 0 + 0 + 0 ≤ 1) [ true ↦ omega arith | false ↦ omega arith ]

      whole : (m : TreeNode RenderObject) → node_at old h ≡ Some m → tops (below (subtree_at old h)) ≡ children_at old h
          → Some m ≡ Some (record { parent = parent_at old h; children = tops (below (subtree_at old h)); value = m.value })
      whole m f e = λ i. Some (record { parent = parent_of (sym f i); children = (sym (e ∙ ap children_of f)) i; value = m.value })

      by_made : (x : Option (TreeNode RenderObject)) → node_at made h ≡ x → (y : Option (TreeNode RenderObject)) → node_at old h ≡ y → Stands (node_at made) (Some h) (below (subtree_at made h))
      by_made None e y f = no_some o (sym (ap (option_map (λ (n : TreeNode RenderObject). n.value)) e) ∙ at)
      by_made (Some n) e None f =
          let fresh = grows.fresh h n f e in
          let here : node_at made h ≡ Some (record { parent = None; children = []; value = n.value }) =
          e ∙ ap (λ (m : TreeNode RenderObject). Some (record { parent = m.parent; children = m.children; value = n.value })) fresh.2 in
          subst (λ (f : Forest RenderObject). Stands (node_at made) (Some h) (below f))
          (sym (subtree_is made h (tree h n.value none none) (record {
            top = refl;
            stands = (subst (λ (p : Option Handle). node_at made h ≡ Some (record { parent = p; children = []; value = n.value })) (sym (ap parent_of here)) here, tt, tt);
            distinct = one_node;
          }))) tt
      by_made (Some n) e (Some m) f =
          let live = is_node (node_at old h) m f in
          let holds = Holds-from_Is old is_old.0 h is_old.1 live in
          let parts = below-stands old h holds in
          subst (Stands (node_at made) (Some h)) (sym (was_below (parent_at old h) h m.value (below (subtree_at old h)) (f ∙ whole m f parts.1) parts.0))
          (made_stands (Some h) (below (subtree_at old h)) parts.0)

  -- and is stored
  pub items_stored : (h : Handle) (o : RenderObject) → object_at made h ≡ Some o → AllStored (object_at made) (below (subtree_at made h))
  items_stored h o at = stands_stored made (Some h) (below (subtree_at made h)) (below_stands h o at)

-- ---- marks, and the numbers of nodes

pub commit_object : (es : List (PlanEntry Redraw)) (h : Handle) (x : Option (PlanEntry Redraw)) (n : TreeNode RenderObject) → (w : RenderObject) × (option_map (λ (m : TreeNode RenderObject). m.value) (kept_by redrawn x es h (Some n)) ≡ Some w) × (w.number ≡ n.value.number) × (w.frame ≡ n.value.frame)
commit_object es h None n = (n.value, refl, refl, refl)
commit_object es h (Some e) n = (redrawn e.update n.value, refl, refl, refl)

module _ (old mid : Tree RenderObject) (first : RedrawsPart old mid) where
  abbrev made : Tree RenderObject
  made = first.made

  abbrev es : List (PlanEntry Redraw)
  es = entries None first.updates

  -- each node that was made is there, with its number
  pub kept_number : (h : Handle) (n : ℕ) → number_at made h ≡ Some n → number_at mid h ≡ Some n
  kept_number h n at = by (node_at made h) refl
    where
      by : (x : Option (TreeNode RenderObject)) → node_at made h ≡ x → number_at mid h ≡ Some n
      by None e = no_some n (sym (ap (λ (y : Option (TreeNode RenderObject)). option_map (λ (o : RenderObject). o.number) (option_map (λ (m : TreeNode RenderObject). m.value) y)) e) ∙ at)
      by (Some m) e = by_committed (node_at first.committed h) refl
        where
          numbered : m.value.number ≡ n
          numbered = some_is m.value.number n (sym (ap (λ (y : Option (TreeNode RenderObject)). option_map (λ (o : RenderObject). o.number) (option_map (λ (m : TreeNode RenderObject). m.value) y)) e) ∙ at)

          one : (w : RenderObject) × (option_map (λ (k : TreeNode RenderObject). k.value) (kept_by redrawn (entry_at es h) es h (Some m)) ≡ Some w) × (w.number ≡ m.value.number) × (w.frame ≡ m.value.frame)
          one = commit_object es h (entry_at es h) m

          object : object_at first.committed h ≡ Some one.0
          object = ap (option_map (λ (k : TreeNode RenderObject). k.value)) (first.commits.nodes h ∙ ap (λ y. kept_by redrawn (entry_at es h) es h y) e) ∙ one.1

          by_committed : (x : Option (TreeNode RenderObject)) → node_at first.committed h ≡ x → number_at mid h ≡ Some n
          by_committed None f = no_some one.0 (sym (ap (option_map (λ (k : TreeNode RenderObject). k.value)) f) ∙ object)
          by_committed (Some c) f =
              let value : c.value ≡ one.0 = some_is c.value one.0 (sym (ap (option_map (λ (k : TreeNode RenderObject). k.value)) f) ∙ object) in
              let laid = first.layouts.only h c f in
              let both = first.paints.only h (record c { value = layout_marks.marked laid.0 laid.1 c.value }) laid.2 in
              ap (λ (y : Option (TreeNode RenderObject)). option_map (λ (o : RenderObject). o.number) (option_map (λ (m : TreeNode RenderObject). m.value) y)) both.2
              ∙ ap (λ (k : ℕ). Some k) (ap (λ (o : RenderObject). o.number) value ∙ (one.2 ∙ numbered))

  pub made_differ : NumbersDiffer mid → NumbersDiffer made
  made_differ differ n h k a b = differ n h k (kept_number h n a) (kept_number k n b)

  -- ---- what is marked for layout

  -- a node that the plan leaves, with what is below it
  abbrev Changes : Handle → RenderObject → Forest RenderObject → Type 0
  Changes k w under = ChangesForLayout made k w under

  changes_at : (q : Option Handle) (g : Forest RenderObject) (k : Handle) (w : RenderObject) (under : Forest RenderObject) (r : Option Handle) → Stands (node_at first.committed) q g
      → node_at first.committed k ≡ Some (record { parent = r; children = tops under; value = w }) → Stands (node_at first.committed) (Some k) under → SomeChanges made k g → Changes k w under
  changes_at q none k w under r stands at beneath s = absurd s
  changes_at q (tree j v kids rest) k w under r stands at beneath (inl here) =
      let node : Option Handle → List Handle → RenderObject → TreeNode RenderObject = λ a l x. record { parent = a; children = l; value = x } in
      let same_node : node q (tops kids) v ≡ node r (tops under) w = same_Some (sym stands.0 ∙ (ap (node_at first.committed) here.0 ∙ at)) in
      let same_kids : kids ≡ under = one_under (node_at first.committed) (Some k) kids under (subst (λ x. Stands (node_at first.committed) (Some x) kids) here.0 stands.1) beneath
      (ap (λ (n : TreeNode RenderObject). n.children) same_node) in
      subst (λ f. Changes k w f) same_kids (subst (λ x. Changes k x kids) (ap (λ (n : TreeNode RenderObject). n.value) same_node)
      (subst (λ x. Changes x v kids) here.0 here.1))
  changes_at q (tree j v kids rest) k w under r stands at beneath (inr (inl below_j)) = changes_at (Some j) kids k w under r stands.1 at beneath below_j
  changes_at q (tree j v kids rest) k w under r stands at beneath (inr (inr later)) = changes_at q rest k w under r stands.2 at beneath later

  two_lists : (k : Handle) (xs ys : List Handle) → listed k (xs ++ ys) ≡ true → (listed k xs ≡ true) ⊎ (listed k ys ≡ true)
  two_lists k [] ys e = inr e
  two_lists k (x ∷ xs) ys e = elim (either (same k x) (listed k (xs ++ ys)) e) [
    | inl a ↦ inl (or_left (same k x) (listed k xs) a)
    | inr b ↦ elim (two_lists k xs ys b) [
      | inl c ↦ inl (or_right (same k x) (listed k xs) c)
      | inr c ↦ inr c
    ]
  ]

  entry_holds : (P : PlanEntry Redraw → Type 0) (xs : List (PlanEntry Redraw)) (k : Handle) (e : PlanEntry Redraw) → EachEntry P xs → entry_at xs k ≡ Some e → P e
  entry_holds P [] k e h q = no_some e q
  entry_holds P (x ∷ xs) k e h q = by_same (same k x.at) q (λ q. entry_holds P xs k e h.1 q)
    where
      by_same : (b : Bool) → cond b (Some x) (entry_at xs k) ≡ Some e → (entry_at xs k ≡ Some e → P e) → P e
      by_same true q go = subst P (some_is x e q) h.0
      by_same false q go = go q

  -- where the children are those that there were, none was lost
  module _ (is_old : IsTree old) where
    not_lost : (k : Handle) (w : RenderObject) (under : Forest RenderObject) (r : Option Handle) → Stands (node_at first.committed) (Some k) under → tops under ≡ children_at made k → listed k first.lost ≡ true → ⊥
    not_lost k w under r beneath same_list is =
        let left = first.left k is in
        by_made left.0 left.1 left.2 left.3 (node_at made left.0) refl (node_at old left.0) refl
      where
        by_made : (j : Handle) → Among j (planned es) → parent_at made j ≡ Some k → EachEntry (λ e. e.at ≡ j → e.parent ≡ Some k → ⊥) es → (x : Option (TreeNode RenderObject)) → node_at made j ≡ x
            → (y : Option (TreeNode RenderObject)) → node_at old j ≡ y → ⊥
        by_made j among parent away None e y f = no_some k (sym (ap parent_of e) ∙ parent)
        by_made j among parent away (Some n) e None f = no_some k (sym (ap (λ (m : TreeNode RenderObject). m.parent) (grows_fresh j n f e)) ∙ (ap parent_of (sym e) ∙ parent))
          where
            grows_fresh : (j : Handle) (n : TreeNode RenderObject) → (a : node_at old j ≡ None) → (b : node_at made j ≡ Some n) → n ≡ record { parent = None; children = []; value = n.value }
            grows_fresh j n a b = let x = first.grows.fresh j n a b in x.2 ∙ ap (λ (o : RenderObject). record { parent = None; children = []; value = o }) (sym (ap (λ (m : TreeNode RenderObject). m.value) x.2))
        by_made j among parent away (Some n) e (Some m) f =
            let old_parent : parent_at old j ≡ Some k = ap parent_of (sym (first.grows.keeps j (is_node (node_at old j) m f))) ∙ parent in
            let lists = parent_lists old is_old.0 j k is_old.1 old_parent in
            let child : Among j (tops under) = subst (Among j) (sym (same_list ∙ ap children_of (first.grows.keeps k lists.0))) lists.1 in
            let named = entry-named es j among in
            let place = entry-some es j named.0 named.1 in
            entry_holds (λ e. e.at ≡ j → e.parent ≡ Some k → ⊥) es j named.0 away named.1 (sym place.0) (parent_is j n named.0 e named.1 (child_parent under beneath child))
          where
            child_parent : (f : Forest RenderObject) → Stands (node_at first.committed) (Some k) f → Among j (tops f) → parent_at first.committed j ≡ Some k
            child_parent none s a = absurd (omega (arith, a))
            child_parent (tree h o kids rest) s a = elim (cases_same h j) [
              | inl here ↦ subst (λ x. parent_at first.committed x ≡ Some k) here (ap parent_of s.0)
              | inr ne ↦ let more = times_there j h (tops rest) ne in child_parent rest s.2 (omega (arith, a, more))
            ]

            parent_is : (j : Handle) (n : TreeNode RenderObject) (x : PlanEntry Redraw) → node_at made j ≡ Some n → entry_at es j ≡ Some x → parent_at first.committed j ≡ Some k → x.parent ≡ Some k
            parent_is j n x e is parent =
                sym (ap parent_of (first.commits.nodes j ∙ (ap (λ y. kept_by redrawn y es j (node_at made j)) is ∙ ap (λ y. kept_by redrawn (Some x) es j y) e))) ∙ parent

    -- a node of the part that is, with what is right below it, as it was, isn't marked, but as a root that was none
    pub unlisted : (k : Handle) (w : RenderObject) (under : Forest RenderObject) (r : Option Handle) → node_at first.committed k ≡ Some (record { parent = r; children = tops under; value = w })
        → Stands (node_at first.committed) (Some k) under → (o : RenderObject) (was : Forest RenderObject) → object_at made k ≡ Some o → StoodBelow made k was
        → KeepsForLayout o was w under × AreSizedSame (is_offstage (object_look o)) was under → (BecomesRoot made first.committed.root k → ⊥) → listed k (first.laid ++ first.lost) ≡ true → ⊥
    unlisted k w under r at beneath o was stored stood keeps no_root is = elim (two_lists k first.laid first.lost is) [
      | inl laid ↦ elim (first.laid_anew.caused k laid) [
        | inl some ↦
            changes_at None first.nodes k w under r (front_stands (node_at first.committed) None first.nodes first.others first.is.stands) at beneath
            (reported_changes made k first.updates first.nodes first.updated some) o was stored stood keeps
        | inr root ↦ no_root root
      ]
      | inr lost ↦ not_lost k w under r beneath (keeps.0.list ∙ stood.list) lost
    ]
