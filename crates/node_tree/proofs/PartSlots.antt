-- Lemmas that tie the marks of slots to the handles of which a plan speaks.
use Rattle.std.proofs.Common.{◌≡◌, ℕ, ◌<◌, Bool, true, false, cond, not, ◌&&◌, ◌||◌, eqb, List, [], ◌∷◌, ◌++◌, get_or, Option, Some, None, option_map, refl, sym, ap, ◌∙◌, inl, inr, arith}
use Rattle.std.proofs.lemmas.Bool.{cases_Bool, eq-eqb, ne_eqb}
use Rattle.std.proofs.lemmas.List.Elements.{filter-append}
use Rattle.std.specs.Option.{option_to_list}
use Rattle.fx_handles.specs.declared.Handle.{Handle}
use Rattle.fx_handles.specs.Handle.{same, Among}
use Rattle.fx_handles.specs.Arena.{Arena, get, IsLive}
use Rattle.fx_handles.specs.HandleLaws.{same-eq, same-ne, cases_same, times-cons, times_here}
use Rattle.fx_handles.specs.ArenaLaws.{some_of, live-same_slot}
use Rattle.node_tree.specs.Forest.{TreeNode, Forest, append}
use Rattle.node_tree.specs.Tree.{Tree, node_at, IsNode, children_of, children_at, tops_at, Is}
use Rattle.node_tree.specs.Edits.{KeepsHandles}
use Rattle.node_tree.specs.Plan.{PlanEntry, planned, written, is_planned}
use Rattle.node_tree.specs.Part.{has, is_named, is_listed, unnamed, unspoken, left_parent, left_node, left_below, left_tops, left_forest, kept, kept_by, IsPartPlan, CommitsPart}
use Rattle.node_tree.specs.Trims.{marked, in_slot, lists_slot, unmarked, unmarked_below, trimmed_parent, trimmed, trimmed_at, Trims}
use Rattle.node_tree.proofs.ForestLemmas.{node_in}
use Rattle.node_tree.proofs.TreeLemmas.{is_node, top_live, parent_lists}
use Rattle.node_tree.proofs.EditLemmas.{keeps_then}
use Rattle.node_tree.proofs.Handles.{has-among, has-true, has-false, has-absent, filter-agree, neither}
use Rattle.node_tree.proofs.PlanLemmas.{entry-named, written-nothing, written-entry}
use Rattle.node_tree.proofs.PartTrees.{kept-live, kept-unnamed, part_has, part_is, child_live}

-- slots of live handles tell as much as the handles
module _ {X : Type 0} (a : Arena X) where
  same_slot : (x c : Handle) → IsLive a x → IsLive a c → eqb x.index c.index ≡ same x c
  same_slot x c live_x live_c = elim (cases_same x c) [
    | inl e ↦ eq-eqb x.index c.index (ap (λ h. h.index) e) ∙ sym (same-eq x c e)
    | inr ne ↦ ne_eqb x.index c.index (λ i. ne (live-same_slot a c x live_c live_x i)) ∙ sym (same-ne x c ne)
  ]

  pub in_slot-is : (hs : List Handle) (c : Handle) → ((x : Handle) → Among x hs → IsLive a x) → IsLive a c → in_slot hs c.index ≡ has c hs
  in_slot-is [] c live live_c = refl
  in_slot-is (x ∷ xs) c live live_c =
      ap (λ b. b || in_slot xs c.index) (same_slot x c (live x (omega (arith, times_here x xs))) live_c)
      ∙ ap (λ b. same x c || b) (in_slot-is xs c (λ y among. live y (omega (arith, times-cons y x xs))) live_c)

  pub is_planned-is : {U : Type 0} (es : List (PlanEntry U)) (c : Handle) → ((x : Handle) → Among x (planned es) → IsLive a x) → IsLive a c → is_planned es c.index ≡ is_named es c
  is_planned-is [] c live live_c = refl
  is_planned-is (e ∷ es) c live live_c =
      ap (λ b. b || is_planned es c.index) (same_slot e.at c (live e.at (omega (arith, times_here e.at (planned es)))) live_c)
      ∙ ap (λ b. same e.at c || b) (is_planned-is es c (λ y among. live y (omega (arith, times-cons y e.at (planned es)))) live_c)

  pub lists_slot-is : {U : Type 0} (es : List (PlanEntry U)) (c : Handle) → ((x : Handle) → is_listed es x ≡ true → IsLive a x) → IsLive a c → lists_slot es c.index ≡ is_listed es c
  lists_slot-is [] c live live_c = refl
  lists_slot-is (e ∷ es) c live live_c =
      ap (λ b. b || lists_slot es c.index) (in_slot-is e.children c (λ x among. live x (ap (λ b. b || is_listed es x) (has-among x e.children among))) live_c)
      ∙ ap (λ b. has c e.children || b) (lists_slot-is es c (λ x listed. live x (or_true (has x e.children) (is_listed es x) listed)) live_c)
    where
      or_true : (b c : Bool) → c ≡ true → (b || c) ≡ true
      or_true true c e = refl
      or_true false c e = e

-- the marks of a plan for a part of a tree
pub record Marks {T U : Type 0} (t : Tree T) (es : List (PlanEntry U)) (named spoken : List Bool) : Type 0 where
  pub names : (h : Handle) → IsNode t h → marked named h ≡ is_named es h
  pub speaks : (h : Handle) → IsNode t h → marked spoken h ≡ (is_named es h || is_listed es h)

module _ {T U : Type 0} (updated : U → T → T) where
  -- a planned handle is live, and so is one that the plan lists
  pub part_live : (t : Tree T) (es : List (PlanEntry U)) (root : Option Handle) (inactive : List Handle) (g : Forest T) → IsPartPlan updated t es root inactive g → (k : Handle) → Among k (planned es) → IsNode t k
  part_live t es root inactive g plan k among =
      let node = node_in (λ x. kept updated es x (node_at t x)) None g k plan.stands (plan.named k among) in
      kept-live updated es k (node_at t k) (is_node (kept updated es k (node_at t k)) node.0 node.1)

  pub listed_live : (t : Tree T) (es : List (PlanEntry U)) (root : Option Handle) (inactive : List Handle) (g : Forest T) → IsPartPlan updated t es root inactive g → (k : Handle) → is_listed es k ≡ true → IsNode t k
  listed_live t es root inactive g plan k listed =
      let node = node_in (λ x. kept updated es x (node_at t x)) None g k plan.stands (part_has updated t es root inactive g plan k listed) in
      kept-live updated es k (node_at t k) (is_node (kept updated es k (node_at t k)) node.0 node.1)

  pub marks_are : (t : Tree T) (es : List (PlanEntry U)) (root : Option Handle) (inactive : List Handle) (g : Forest T) (named spoken : List Bool) (end : ℕ) → IsPartPlan updated t es root inactive g
      → ((k : Handle) → IsNode t k → k.index < end)
      → ((i : ℕ) → i < end → get_or named i true ≡ is_planned es i)
      → ((i : ℕ) → i < end → get_or spoken i true ≡ (is_planned es i || lists_slot es i))
      → Marks t es named spoken
  marks_are t es root inactive g named spoken end plan below is_named_mark is_spoken_mark =
      record {
        names = λ h live. is_named_mark h.index (below h live) ∙ is_planned-is t.nodes es h (part_live t es root inactive g plan) live;
        speaks = λ h live.
            is_spoken_mark h.index (below h live)
            ∙ ap (λ b. b || lists_slot es h.index) (is_planned-is t.nodes es h (part_live t es root inactive g plan) live)
            ∙ ap (λ b. is_named es h || b) (lists_slot-is t.nodes es h (listed_live t es root inactive g plan) live);
      }

module _ {T U : Type 0} where
  -- what isn't marked as spoken of is what the plan doesn't speak of
  unmarked-is : (t : Tree T) (es : List (PlanEntry U)) (named spoken : List Bool) (hs : List Handle) → Marks t es named spoken → ((h : Handle) → Among h hs → IsNode t h) → unmarked spoken hs ≡ unspoken es hs
  unmarked-is t es named spoken hs marks live =
      filter-agree (λ h. not (marked spoken h)) (λ h. not (is_named es h) && not (is_listed es h)) hs
      (λ h among. ap not (marks.speaks h (live h among)) ∙ neither (is_named es h) (is_listed es h))

  unmarked_below-is : (t : Tree T) (f : Forest T) (es more : List (PlanEntry U)) (named spoken : List Bool) → Is t f → Marks t es named spoken → unmarked_below spoken t.nodes more ≡ left_below t es more
  unmarked_below-is t f es [] named spoken is marks = refl
  unmarked_below-is t f es (e ∷ more) named spoken is marks =
      ap (λ xs. xs ++ unmarked_below spoken t.nodes more) (unmarked-is t es named spoken (children_at t e.at) marks (λ h among. child_live t f e.at h is among))
      ∙ ap (λ xs. unspoken es (children_at t e.at) ++ xs) (unmarked_below-is t f es more named spoken is marks)

  -- the tops that are left, from the marks
  pub left_tops-are : (t : Tree T) (f : Forest T) (es : List (PlanEntry U)) (named spoken : List Bool) → Is t f → Marks t es named spoken
      → unmarked_below spoken t.nodes es ++ (unmarked spoken (option_to_list t.root) ++ unmarked spoken t.inactive) ≡ left_tops t es
  left_tops-are t f es named spoken is marks =
      ap (λ xs. xs ++ (unmarked spoken (option_to_list t.root) ++ unmarked spoken t.inactive)) (unmarked_below-is t f es es named spoken is marks)
      ∙ ap (λ xs. left_below t es es ++ xs) (sym (filter-append (λ h. not (marked spoken h)) (option_to_list t.root) t.inactive) ∙ unmarked-is t es named spoken (tops_at t) marks (λ h among. top_live t f h is among))

  -- a node is trimmed as the plan says
  trimmed-unnamed : (t : Tree T) (f : Forest T) (es : List (PlanEntry U)) (named spoken : List Bool) (k : Handle) (n : TreeNode T) → Is t f → Marks t es named spoken → node_at t k ≡ Some n → is_named es k ≡ false
      → trimmed_at named spoken k n ≡ left_node es k n
  trimmed-unnamed t f es named spoken k n is marks is_n free =
      let live = is_node (node_at t k) n is_n in
      let unmarked_k : marked named k ≡ false = marks.names k live ∙ free in
      let listed : marked spoken k ≡ is_listed es k = marks.speaks k live ∙ ap (λ b. b || is_listed es k) free in
      ap (λ b. cond b n (trimmed named (marked spoken k) n)) unmarked_k
      ∙ ap (λ q. record { parent = q; children = unmarked named n.children; value = n.value }) (parent_is n.parent refl listed)
      ∙ ap (λ xs. record { parent = left_parent es k n.parent; children = xs; value = n.value })
      (filter-agree (λ h. not (marked named h)) (λ h. not (is_named es h)) n.children
      (λ h among. ap not (marks.names h (child_live t f k h is (rw is_n among)))))
    where
      parent_is : (q : Option Handle) → n.parent ≡ q → marked spoken k ≡ is_listed es k → trimmed_parent named (marked spoken k) q ≡ left_parent es k q
      parent_is None e listed = refl
      parent_is (Some p) e listed =
          let lists = parent_lists t f k p is (rw is_n e) in
          ap (λ b. cond {A = Option Handle} (b && not (marked spoken k)) None (Some p)) (marks.names p lists.0)
          ∙ ap (λ b. cond {A = Option Handle} (is_named es p && not b) None (Some p)) listed

  trimmed-named : (t : Tree T) (es : List (PlanEntry U)) (named spoken : List Bool) (k : Handle) (n : TreeNode T) → Marks t es named spoken → node_at t k ≡ Some n → is_named es k ≡ true → trimmed_at named spoken k n ≡ n
  trimmed-named t es named spoken k n marks is_n e = ap (λ b. cond b n (trimmed named (marked spoken k) n)) (marks.names k (is_node (node_at t k) n is_n) ∙ e)

module _ {T U : Type 0} (updated : U → T → T) where
  -- the whole commit: the nodes that the plan doesn't name are trimmed, and then the plan is written
  pub commits_part : (t : Tree T) (f : Forest T) (es : List (PlanEntry U)) (named spoken : List Bool) (b c : Arena (TreeNode T)) → Is t f → Marks t es named spoken → Trims named spoken t.nodes b
      → ((k : Handle) → get c k ≡ written updated es k (get b k)) → KeepsHandles b c → CommitsPart updated es t.nodes c
  commits_part t f es named spoken b c is marks trims writes keeps =
      record {
        nodes = nodes;
        values = λ k absent. ap (option_map (λ (n : TreeNode T). n.value)) (nodes k ∙ kept-unnamed updated es k (node_at t k) (has-absent k (planned es) absent)) ∙ same_value es k (node_at t k);
        children = λ k absent. ap children_of (nodes k ∙ kept-unnamed updated es k (node_at t k) (has-absent k (planned es) absent)) ∙ same_children es k (node_at t k);
        handles = keeps_then t.nodes b c trims.handles keeps;
      }
    where
      same_value : (es : List (PlanEntry U)) (k : Handle) (o : Option (TreeNode T)) → option_map (λ (n : TreeNode T). n.value) (option_map (left_node es k) o) ≡ option_map (λ (n : TreeNode T). n.value) o
      same_value es k None = refl
      same_value es k (Some n) = refl

      same_children : (es : List (PlanEntry U)) (k : Handle) (o : Option (TreeNode T)) → children_of (option_map (left_node es k) o) ≡ unnamed es (children_of o)
      same_children es k None = refl
      same_children es k (Some n) = refl

      trims_all : (k : Handle) (o : Option (TreeNode T)) → node_at t k ≡ o → is_named es k ≡ false → option_map (trimmed_at named spoken k) o ≡ option_map (left_node es k) o
      trims_all k None e free = refl
      trims_all k (Some n) e free = ap Some (trimmed-unnamed t f es named spoken k n is marks e free)

      trims_none : (k : Handle) (o : Option (TreeNode T)) → node_at t k ≡ o → is_named es k ≡ true → option_map (trimmed_at named spoken k) o ≡ o
      trims_none k None e yes_named = refl
      trims_none k (Some n) e yes_named = ap Some (trimmed-named t es named spoken k n marks e yes_named)

      nodes : (k : Handle) → get c k ≡ kept updated es k (get t.nodes k)
      nodes k = elim (cases_Bool (is_named es k)) [
        | inl yes_named ↦
            let entry = entry-named es k (has-true k (planned es) yes_named) in
            writes k ∙ ap (written updated es k) (trims.nodes k ∙ trims_none k (get t.nodes k) refl yes_named) ∙ written-entry updated es k (get t.nodes k) entry.0 entry.1
            ∙ sym (ap (λ x. kept_by updated x es k (get t.nodes k)) entry.1)
        | inr free ↦
            writes k ∙ written-nothing updated es k (get b k) (has-false k (planned es) free) ∙ trims.nodes k ∙ trims_all k (get t.nodes k) refl free
            ∙ sym (kept-unnamed updated es k (get t.nodes k) free)
      ]

  -- after the trims each planned node is still live
  pub trimmed_live : (named spoken : List Bool) (a b : Arena (TreeNode T)) (k : Handle) → Trims named spoken a b → IsLive a k → IsLive b k
  trimmed_live named spoken a b k trims live =
      let was = some_of (get a k) live in
      is_node (get b k) (trimmed_at named spoken k was.0) (trims.nodes k ∙ ap (option_map (trimmed_at named spoken k)) was.1)

module _ {T U : Type 0} (updated : U → T → T) where
  -- what the commit leaves, of its steps
  pub record PartDone (t : Tree T) (es : List (PlanEntry U)) (root : Option Handle) (waiting tops : List Handle) (c : Arena (TreeNode T)) : Type 0 where
    pub commits : CommitsPart updated es t.nodes c
    pub tops_are : tops ≡ waiting ++ left_tops t es
    pub plain : (f g : Forest T) → Is t f → IsPartPlan updated t es root waiting g → Is (record { nodes = c; root = root; inactive = tops }) (append g (left_forest es f (left_tops t es)))

  pub part_done : (t : Tree T) (f g : Forest T) (es : List (PlanEntry U)) (root : Option Handle) (waiting tops : List Handle) (named spoken : List Bool) (end : ℕ) (b c : Arena (TreeNode T))
      → Is t f → IsPartPlan updated t es root waiting g
      → ((k : Handle) → IsNode t k → k.index < end)
      → ((i : ℕ) → i < end → get_or named i true ≡ is_planned es i)
      → ((i : ℕ) → i < end → get_or spoken i true ≡ (is_planned es i || lists_slot es i))
      → tops ≡ waiting ++ (unmarked_below spoken t.nodes es ++ (unmarked spoken (option_to_list t.root) ++ unmarked spoken t.inactive))
      → Trims named spoken t.nodes b
      → ((k : Handle) → get c k ≡ written updated es k (get b k)) → KeepsHandles b c
      → PartDone t es root waiting tops c
  part_done t f g es root waiting tops named spoken end b c is plan below is_named_mark is_spoken_mark is_tops trims writes keeps =
      let marks = marks_are updated t es root waiting g named spoken end plan below is_named_mark is_spoken_mark in
      let commits = commits_part updated t f es named spoken b c is marks trims writes keeps in
      let tops_are : tops ≡ waiting ++ left_tops t es = is_tops ∙ ap (λ xs. waiting ++ xs) (left_tops-are t f es named spoken is marks) in
      record {
        commits = commits;
        tops_are = tops_are;
        plain = λ f' g' is' plan'. part_is updated t (record { nodes = c; root = root; inactive = tops }) es root waiting f' g' is' plan' commits refl tops_are;
      }
