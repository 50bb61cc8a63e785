-- What holds once the changed nodes of a commit are marked: of nodes without a flag all is as it was, so that laws of them survive.
use Rattle.std.proofs.Common.{◌≡◌, Bool, true, false, not, ◌&&◌, ◌||◌, List, [], ◌∷◌, Option, Some, None, option_map, refl, sym, ap, ◌∙◌, subst}
use Rattle.std.proofs.lemmas.Bool.{and_parts, or_right}
use Rattle.fx_handles.specs.declared.Handle.{Handle}
use Rattle.fx_handles.specs.ArenaLaws.{same_Some}
use Rattle.node_tree.specs.Forest.{TreeNode, Forest, tops, below, Stands, map_values}
use Rattle.node_tree.specs.Forest.Forest.{none, tree}
use Rattle.node_tree.specs.Plan.{IsUpdated}
use Rattle.node_tree.specs.Tree.{Tree, node_at, children_of, IsTree}
use Rattle.node_tree.proofs.TreeLemmas.{is_node, Holds-from_Is}
use Rattle.node_tree.proofs.Children.{below-stands}
use Rattle.tree_marks.specs.Marking.{Above, Marking, IsMarking, IsWhole, within}
use Rattle.tree_marks.specs.Marks.{listed, has_listed, some_climbs, sweep}
use Rattle.tree_marks.specs.Closed.{IsLinked, IsClosed, AreEnds, is_apart}
use Rattle.tree_marks.specs.Commit.{Parts, SeenChild, NodeBuild, tops_by, stored_by, AreParts, seen, piece, SameBuild, IsUnchanged, Carried, IsCommit, IsSettled, LawStore, LawForest, LawBelowStore, LawBelow, HasForests, CarriedAt, IsCommitStore, IsLinkedStore, IsClosedStore, planned_by, KeepsMarks, IsReady, Covers}
use Rattle.tree_marks.proofs.Closing.{unflagged-sweep, IsClosed-swept, IsLinked-sweep}
use Rattle.tree_marks.proofs.Settling.{heads, kept, seen-commit, unchanged-commit, IsLinked-commit, IsClosed-commit}

and-true : (b : Bool) → (b && true) ≡ b
and-true true = refl
and-true false = refl

or-or : (a b c : Bool) → ((a || b) || c) ≡ (a || (b || c))
or-or true b c = refl
or-or false b c = refl

module _ {V : Type 0} (m : Marking V) where
  -- below a node that asks no node is a boundary, so that each climb comes out
  pub climbs-asked : (cs : List Handle) (q : Above) (f : Forest V) → q.asked ≡ true → some_climbs m cs q f ≡ has_listed cs f
  climbs-asked cs q none e = refl
  climbs-asked cs q (tree k v kids rest) e =
      let start : Bool = listed k cs || some_climbs m cs (within m q v) kids in
      ap (λ a. (start && not (not a && m.ends q.top q.hidden v)) || some_climbs m cs q rest) e
      ∙ (ap (λ a. a || some_climbs m cs q rest) (and-true start)
      ∙ (ap (λ a. (listed k cs || a) || some_climbs m cs q rest) (climbs-asked cs (within m q v) kids (ap (λ a. a || m.asks v) e))
      ∙ (or-or (listed k cs) (has_listed cs kids) (some_climbs m cs q rest)
      ∙ ap (λ a. listed k cs || (has_listed cs kids || a)) (climbs-asked cs q rest e))))

  -- marks leave the tops with the parts that they don't change
  pub tops-sweep : {A : Type 0} (part : V → A) → ((f b : Bool) (v : V) → part (m.marked f b v) ≡ part v)
      → (also : Bool) (cs : List Handle) (p : Above) (f : Forest V) → tops_by part (sweep m also cs p f) ≡ tops_by part f
  tops-sweep part steady also cs p none = refl
  tops-sweep part steady also cs p (tree k v kids rest) =
      ap
      (λ a. (k, Some a) ∷ tops_by part (sweep m also cs p rest))
      (steady ((listed k cs || some_climbs m cs (within m p v) kids) && m.takes p.top v) (has_listed cs kids || (also && listed k cs)) v)
      ∙ ap (λ r. (k, Some (part v)) ∷ r) (tops-sweep part steady also cs p rest)

-- the children of a node of a store, by the forest that stands there
pub stored-stands : {V A : Type 0} (at : Handle → Option (TreeNode V)) (part : V → A) (q : Option Handle) (g : Forest V) → Stands at q g → stored_by part at (tops g) ≡ tops_by part g
stored-stands at part q none stands = refl
stored-stands {V} at part q (tree h w under more) stands =
    ap (λ o. (h, option_map (λ (n : TreeNode V). part n.value) o) ∷ stored_by part at (tops more)) stands.0
    ∙ ap (λ r. (h, Some (part w)) ∷ r) (stored-stands at part q more stands.2)

module _ {V O D S : Type 0} (m : Marking V) (x : Parts V O D S) where
  -- below each node of a tree there is a forest
  pub forests_stand : (t : Tree V) → IsTree t → HasForests m x (node_at t)
  forests_stand t is k n there =
      let parts = below-stands t k (Holds-from_Is t is.0 k is.1 (is_node (node_at t k) n there)) in (_, parts.0, sym (parts.1 ∙ ap children_of there))

  -- a commit that is told of each node is one of the forest that stands there
  pub IsCommit-store : (changed : List Handle) (at new : Handle → Option (TreeNode V)) (q : Option Handle) (f : Forest V) → IsCommitStore m x changed at new → Stands new q f → IsCommit m x changed at f
  IsCommit-store changed at new q none store stands = tt
  IsCommit-store changed at new q (tree k v kids rest) store stands = (
    by_node (at k) (store k (record { parent = q; children = tops kids; value = v }) stands.0),
    IsCommit-store changed at new (Some k) kids store stands.1,
    IsCommit-store changed at new q rest store stands.2,
  )
    where
      by_node : (o : Option (TreeNode V)) → CarriedAt m x changed at new o k (record { parent = q; children = tops kids; value = v }) → Carried m x changed at o k v kids
      by_node None c = c
      by_node (Some n) c = record {
        flag = c.flag;
        below = c.below;
        stored = c.stored;
        build = λ l. record { own = c.own l; children = sym (stored-stands new (x.told (m.hides v)) (Some k) kids stands.1) ∙ c.children l };
      }

module _ {V O D S : Type 0} (m : Marking V) (ok : IsMarking m) (x : Parts V O D S) (shown : V → Bool) (are : AreParts m x shown) where
  pub apart_ends : AreEnds m (is_apart m shown)
  apart_ends = record {
    boundary = λ p v e. or_right (not (shown v)) (m.ends p.top p.hidden v) (and_parts (not p.asked) (m.ends p.top p.hidden v) e).1;
    steady = λ p f b v.
        ap (λ s. not s || m.ends p.top p.hidden (m.marked f b v)) (are.shown (m.marked f b v) v (are.stored f b v))
        ∙ ap (λ e. not (shown v) || e) (ok.ends p.top p.hidden f b v);
  }

  seen-marked : (h f b : Bool) (v : V) → seen m x h (m.marked f b v) ≡ seen m x h v
  seen-marked h f b v =
      let see : D → S → SeenChild D S = λ d s. record { told = d; stored = s } in
      ap (λ d. see d (x.stored (m.marked f b v))) (are.told h f b v) ∙ ap (λ s. see (x.told h v) s) (are.stored f b v)

  module _ (at : Handle → Option (TreeNode V)) where
    SameBuild-sweep : (also : Bool) (cs : List Handle) (p : Above) (f b : Bool) (n : TreeNode V) (v : V) (kids : Forest V) → SameBuild m x at n v kids → SameBuild m x at n (m.marked f b v) (sweep m also cs p kids)
    SameBuild-sweep also cs p f b n v kids build = record {
      own = are.own f b v ∙ build.own;
      children = ap (λ h. tops_by (x.told h) (sweep m also cs p kids)) (ok.hides f b v)
          ∙ (tops-sweep m (x.told (m.hides v)) (are.told (m.hides v)) also cs p kids ∙ (build.children ∙ ap (λ h. stored_by (x.told h) at n.children) (sym (ok.hides f b v))));
    }

    unchanged-sweep : (also : Bool) (cs : List Handle) (p : Above) (f : Forest V) → IsUnchanged m x at f → IsUnchanged m x at (sweep m also cs p f)
    unchanged-sweep also cs p none same = tt
    unchanged-sweep also cs p (tree k v kids rest) same = (
      (
        same.0.0,
        same.0.1,
        SameBuild-sweep also cs (within m p v) ((listed k cs || some_climbs m cs (within m p v) kids) && m.takes p.top v) (has_listed cs kids || (also && listed k cs)) same.0.0 v kids same.0.2,
      ),
      unchanged-sweep also cs (within m p v) kids same.1,
      unchanged-sweep also cs p rest same.2,
    )

    pub IsSettled-sweep : IsWhole m → (also : Bool) (changed : List Handle) (p : Above) (f : Forest V) → IsCommit m x changed at f → IsSettled m x at (sweep m also changed p f)
    IsSettled-sweep whole also changed p none commit = tt
    IsSettled-sweep whole also changed p (tree k v kids rest) commit = (
      λ e.
          let q : Above = within m p v in
          let flag : Bool = (listed k changed || some_climbs m changed q kids) && m.takes p.top v in
          let below : Bool = has_listed changed kids || (also && listed k changed) in
          let free = unflagged-sweep m ok whole also changed p k v kids e in
          let c = kept m x at changed k v kids commit.0 free.0 in
          let build = c.keeps.build free.1 in
          record {
            node = c.node;
            is = c.is;
            no_flag = sym c.keeps.flag ∙ free.0;
            build = SameBuild-sweep also changed q flag below c.node v kids build;
            hides = ok.hides flag below v ∙ are.hides v c.node.value build.own;
            stored = are.stored flag below v ∙ c.keeps.stored;
            children = ap (λ h. tops_by (seen m x h) (sweep m also changed q kids)) (ok.hides flag below v)
                ∙ (tops-sweep m (seen m x (m.hides v)) (seen-marked (m.hides v)) also changed q kids
                ∙ (seen-commit m x at changed (m.hides v) kids c.node.children build.children commit.1 ∙ ap (λ h. stored_by (seen m x h) at c.node.children) (sym (ok.hides flag below v))));
            asked = λ a.
                unchanged-sweep also changed q kids
                (unchanged-commit m x at changed (m.hides v) kids c.node.children (sym (climbs-asked m changed q kids (or_right p.asked (m.asks v) (sym (ok.asks flag below v) ∙ a))) ∙ free.2) build.children commit.1);
          },
      IsSettled-sweep whole also changed (within m p v) kids commit.1,
      IsSettled-sweep whole also changed p rest commit.2,
    )

    pub IsClosed-settled : IsWhole m → IsClosedStore m x shown at → (also : Bool) (changed : List Handle) (p : Above) (f : Forest V) → IsCommit m x changed at f
        → IsClosed m (is_apart m shown) [] p (sweep m also changed p f)
    IsClosed-settled whole closed also changed p f commit =
        IsClosed-swept m ok (is_apart m shown) apart_ends whole also changed p f (IsClosed-commit m x at changed shown are closed p f commit)

module _ {V O D S : Type 0} (m : Marking V) (ok : IsMarking m) (x : Parts V O D S) (at : Handle → Option (TreeNode V)) where
  pub IsLinked-settled : IsLinkedStore m x at → (changed : List Handle) (p : Above) (f : Forest V) → IsCommit m x changed at f → IsLinked m (sweep m true changed p f)
  IsLinked-settled linked changed p f commit = IsLinked-sweep m ok changed p f (IsLinked-commit m x at changed linked f commit)

module _ {V O D S : Type 0} (m : Marking V) (x : Parts V O D S) (at : Handle → Option (TreeNode V)) where
  -- ---- laws

  pub LawForest-settled : (law : O → S → List (Handle × Option (SeenChild D S)) → Type 0) (f : Forest V) → LawStore m x law at → IsSettled m x at f → LawForest m x law f
  LawForest-settled law none store settled = tt
  LawForest-settled law (tree k v kids rest) store settled = (
    λ e.
        let s = settled.0 e in
        subst (λ o. law o (x.stored v) (tops_by (seen m x (m.hides v)) kids)) (sym s.build.own)
        (subst (λ r. law (x.own s.node.value) r (tops_by (seen m x (m.hides v)) kids)) (sym s.stored)
        (subst (λ l. law (x.own s.node.value) (x.stored s.node.value) l) (sym (s.children ∙ ap (λ h. stored_by (seen m x h) at s.node.children) s.hides)) (store k s.node s.is s.no_flag))),
    LawForest-settled law kids store settled.1,
    LawForest-settled law rest store settled.2,
  )

  -- what is below a node that asks is built as the forest that stood there
  pub pieces_same : ((b : Bool) (v w : V) → x.told b v ≡ x.told b w → x.told true v ≡ x.told true w) → (b : Bool) (q : Option Handle) (f g : Forest V) → IsUnchanged m x at f → Stands at q g
      → tops_by (x.told b) f ≡ tops_by (x.told b) g
      → map_values (λ h v. piece m x v) f ≡ map_values (λ h v. piece m x v) g
  pieces_same less b q none none same stands e = refl
  pieces_same less b q none (tree h w under more) same stands e = absurd (cc)
  pieces_same less b q (tree k v kids rest) none same stands e = absurd (cc)
  pieces_same less b q (tree k v kids rest) (tree h w under more) same stands e =
      let two = heads k h (Some (x.told b v)) (Some (x.told b w)) (tops_by (x.told b) rest) (tops_by (x.told b) more) e in
      let n : TreeNode V = same.0.0 in
      let there : n ≡ record { parent = q; children = tops under; value = w } = same_Some (sym same.0.1 ∙ (ap at two.handle ∙ stands.0)) in
      let own : x.own v ≡ x.own w = same.0.2.own ∙ ap (λ (y : TreeNode V). x.own y.value) there in
      let part : V → D = x.told (m.hides v) in
      let list : tops_by part kids ≡ tops_by part under =
      same.0.2.children ∙ (ap (λ (y : TreeNode V). stored_by part at y.children) there ∙ stored-stands at part (Some h) under stands.1) in
      let make : O → D → NodeBuild O D = λ o d. record { own = o; told = d } in
      ap (λ y. tree y (make (x.own v) (x.told true v)) (map_values (λ h v. piece m x v) kids) (map_values (λ h v. piece m x v) rest)) two.handle
      ∙ (ap (λ y. tree h (make y (x.told true v)) (map_values (λ h v. piece m x v) kids) (map_values (λ h v. piece m x v) rest)) own
      ∙ (ap (λ y. tree h (make (x.own w) y) (map_values (λ h v. piece m x v) kids) (map_values (λ h v. piece m x v) rest)) (less b v w (same_Some two.part))
      ∙ (ap (λ y. tree h (make (x.own w) (x.told true w)) y (map_values (λ h v. piece m x v) rest)) (pieces_same less (m.hides v) (Some h) kids under same.1 stands.1 list)
      ∙ ap (λ y. tree h (make (x.own w) (x.told true w)) (map_values (λ h v. piece m x v) under) y) (pieces_same less b q rest more same.2 stands.2 two.rest))))

module _ {V O D S : Type 0} (m : Marking V) (x : Parts V O D S) (shown : V → Bool) (are : AreParts m x shown) (at : Handle → Option (TreeNode V)) where
  pub LawBelow-settled : (law : O → S → List (Handle × Option (SeenChild D S)) → Forest (NodeBuild O D) → Type 0) (f : Forest V) → HasForests m x at → LawBelowStore m x law at
      → IsSettled m x at f → LawBelow m x law f
  LawBelow-settled law none forests store settled = tt
  LawBelow-settled law (tree k v kids rest) forests store settled = (
    λ e a.
        let s = settled.0 e in
        let n : TreeNode V = s.node in
        let found = forests k n s.is in
        let part : V → D = x.told (m.hides v) in
        let list : tops_by part kids ≡ tops_by part found.0 =
        s.build.children ∙ (ap (stored_by part at) found.2 ∙ stored-stands at part (Some k) found.0 found.1) in
        let same = pieces_same m x at are.less (m.hides v) (Some k) kids found.0 (s.asked a) found.1 list in
        subst (λ o. law o (x.stored v) (tops_by (seen m x (m.hides v)) kids) (map_values (λ h w. piece m x w) kids)) (sym s.build.own)
        (subst (λ r. law (x.own n.value) r (tops_by (seen m x (m.hides v)) kids) (map_values (λ h w. piece m x w) kids)) (sym s.stored)
        (subst (λ l. law (x.own n.value) (x.stored n.value) l (map_values (λ h w. piece m x w) kids)) (sym (s.children ∙ ap (λ h. stored_by (seen m x h) at n.children) s.hides))
        (subst (λ y. law (x.own n.value) (x.stored n.value) (stored_by (seen m x (m.hides n.value)) at n.children) y) (sym same)
        (store k n found.0 s.is s.no_flag (sym (are.asks v n.value s.build.own) ∙ a) found.1 found.2)))),
    LawBelow-settled law kids forests store settled.1,
    LawBelow-settled law rest forests store settled.2,
  )

-- ---- a commit by a plan

module _ {U V O D S : Type 0} (updated : U → V → V) (m : Marking V) (x : Parts V O D S) (keeps : KeepsMarks updated m x) (at : Handle → Option (TreeNode V)) (now : Handle → Option V) where
  -- the parts that a plan gives to the tops are those that they have after it
  tops-planned : {A : Type 0} (part : V → A) (g : Forest U) (f : Forest V) → IsUpdated updated now g f → tops_by part f ≡ planned_by updated part now g
  tops-planned part none none made = refl
  tops-planned part none (tree k v below rest) made = absurd made
  tops-planned part (tree h u kids more) none made = absurd made
  tops-planned part (tree h u kids more) (tree k v below rest) made =
      ap (λ y. (y, Some (part v)) ∷ tops_by part rest) (sym made.0)
      ∙ (ap (λ o. (h, option_map part o) ∷ tops_by part rest) (sym made.1)
      ∙ (ap (λ o. (h, o) ∷ tops_by part rest) (mapped (now h))
      ∙ ap (λ r. (h, option_map (λ w. part (updated u w)) (now h)) ∷ r) (tops-planned part more rest made.3)))
    where
      mapped : (o : Option V) → option_map part (option_map (updated u) o) ≡ option_map (λ w. part (updated u w)) o
      mapped None = refl
      mapped (Some w) = refl

  pub IsCommit-planned : (changed : List Handle) (g : Forest U) (f : Forest V) → IsReady updated m x at now → Covers updated m x changed at now g → IsUpdated updated now g f → IsCommit m x changed at f
  IsCommit-planned changed none none ready covers made = tt
  IsCommit-planned changed none (tree k v below rest) ready covers made = absurd made
  IsCommit-planned changed (tree h u kids more) none ready covers made = absurd made
  IsCommit-planned changed (tree h u kids more) (tree k v below rest) ready covers made = (
    by_node (at k) refl (value (now h) made.1),
    IsCommit-planned changed kids below ready covers.1 made.2,
    IsCommit-planned changed more rest ready covers.2 made.3,
  )
    where
      value : (o : Option V) → option_map (updated u) o ≡ Some v → (w : V) × (o ≡ Some w) × (v ≡ updated u w)
      value None e = absurd (cc)
      value (Some w) e = (w, refl, sym (same_Some e))

      by_node : (o : Option (TreeNode V)) → at k ≡ o → ((w : V) × (now h ≡ Some w) × (v ≡ updated u w)) → Carried m x changed at o k v below
      by_node None is w =
          let marks = ready.fresh k w.0 is (ap now (sym made.0) ∙ w.1) in
          (ap m.flag w.2 ∙ (keeps.flag u w.0 ∙ marks.0), ap m.below w.2 ∙ (keeps.below u w.0 ∙ marks.1))
      by_node (Some n) is w =
          let was : w.0 ≡ n.value = ready.was k n w.0 is (ap now (sym made.0) ∙ w.1) in
          let there : v ≡ updated u n.value = w.2 ∙ ap (updated u) was in
          record {
            flag = ap m.flag there ∙ keeps.flag u n.value;
            below = ap m.below there ∙ keeps.below u n.value;
            stored = ap x.stored there ∙ keeps.stored u n.value;
            build = λ l.
                let same = covers.0 n (ap at made.0 ∙ is) (ap (λ y. listed y changed) made.0 ∙ l) in
                record {
                  own = ap x.own there ∙ same.0;
                  children = ap (λ h. tops_by (x.told h) below) (ap m.hides there)
                      ∙ (tops-planned (x.told (m.hides (updated u n.value))) kids below made.2 ∙ (same.1 ∙ ap (λ h. stored_by (x.told h) at n.children) (sym (ap m.hides there))));
                };
          }
