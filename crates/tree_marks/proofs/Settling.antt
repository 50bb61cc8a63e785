-- What a commit and the marks of the changed nodes leave of the others.
use Rattle.std.proofs.Common.{◌≡◌, Bool, true, false, not, ◌||◌, List, [], ◌∷◌, Option, Some, None, option_map, refl, sym, ap, ◌∙◌, subst}
use Rattle.std.proofs.lemmas.Bool.{or_parts, true≢false}
use Rattle.fx_handles.specs.declared.Handle.{Handle}
use Rattle.fx_handles.specs.ArenaLaws.{same_Some}
use Rattle.node_tree.specs.Forest.{TreeNode, Forest}
use Rattle.node_tree.specs.Forest.Forest.{none, tree}
use Rattle.tree_marks.specs.Marking.{Above, at_top, Marking, within}
use Rattle.tree_marks.specs.Marks.{listed, has_listed}
use Rattle.tree_marks.specs.Closed.{any_mark, IsLinkedBut, EndsTops, IsClosed, is_apart}
use Rattle.tree_marks.specs.Commit.{Parts, SeenChild, tops_by, stored_by, AreParts, seen, IsUnchanged, Keeps, Carried, IsCommit, has_mark, any_mark_stored, IsLinkedStore, EndsNode, EndsStored, IsClosedStore}

-- ---- on lists of pairs

pub record Heads {A : Type 0} (k h : Handle) (a b : Option A) (xs ys : List (Handle × Option A)) : Type 0 where
  pub handle : k ≡ h
  pub part : a ≡ b
  pub rest : xs ≡ ys

pub heads : {A : Type 0} (k h : Handle) (a b : Option A) (xs ys : List (Handle × Option A)) → (k, a) ∷ xs ≡ (h, b) ∷ ys → Heads k h a b xs ys
heads {A} k h a b xs ys e =
    let pair : (k, a) ≡ (h, b) = first (k, a) (h, b) e in
    record { handle = ap (λ p. p.0) pair; part = ap (λ p. p.1) pair; rest = later (k, a) (h, b) e }
  where
    first : (p q : Handle × Option A) → p ∷ xs ≡ q ∷ ys → p ≡ q
    first p q e = cc

    later : (p q : Handle × Option A) → p ∷ xs ≡ q ∷ ys → xs ≡ ys
    later p q e = cc

module _ {V O D S : Type 0} (m : Marking V) (x : Parts V O D S) (at : Handle → Option (TreeNode V)) (changed : List Handle) where
  -- ---- a child of an unchanged node

  -- what is said of the first child by its node in the store
  pub record Child (b : Bool) (k : Handle) (v : V) (kids : Forest V) (h : Handle) (hs : List Handle) (rest : Forest V) : Type 0 where
    pub node : TreeNode V
    pub handle : k ≡ h
    pub is : at k ≡ Some node
    pub told : x.told b v ≡ x.told b node.value
    pub keeps : Keeps m x changed at node k v kids
    pub later : tops_by (x.told b) rest ≡ stored_by (x.told b) at hs

  pub child : (b : Bool) (k : Handle) (v : V) (kids : Forest V) (h : Handle) (hs : List Handle) (rest : Forest V)
      → tops_by (x.told b) (tree k v kids rest) ≡ stored_by (x.told b) at (h ∷ hs) → Carried m x changed at (at k) k v kids → Child b k v kids h hs rest
  child b k v kids h hs rest e carried =
      let two = heads k h (Some (x.told b v)) (option_map (λ (n : TreeNode V). x.told b n.value) (at h)) (tops_by (x.told b) rest) (stored_by (x.told b) at hs) e in
      by_node (at k) refl carried (two.part ∙ ap (λ y. option_map (λ (n : TreeNode V). x.told b n.value) (at y)) (sym two.handle)) two.handle two.rest
    where
      by_node : (o : Option (TreeNode V)) → at k ≡ o → Carried m x changed at o k v kids → Some (x.told b v) ≡ option_map (λ (n : TreeNode V). x.told b n.value) o
          → k ≡ h → tops_by (x.told b) rest ≡ stored_by (x.told b) at hs → Child b k v kids h hs rest
      by_node None is c t same more = absurd (cc)
      by_node (Some n) is c t same more = record { node = n; handle = same; is = is; told = same_Some t; keeps = c; later = more }

  -- a node that was there and isn't among the changed ones
  pub record Kept (k : Handle) (v : V) (kids : Forest V) : Type 0 where
    pub node : TreeNode V
    pub is : at k ≡ Some node
    pub keeps : Keeps m x changed at node k v kids

  pub kept : (k : Handle) (v : V) (kids : Forest V) → Carried m x changed at (at k) k v kids → m.flag v ≡ false → Kept k v kids
  kept k v kids carried e = by_node (at k) refl carried
    where
      by_node : (o : Option (TreeNode V)) → at k ≡ o → Carried m x changed at o k v kids → Kept k v kids
      by_node None is c = absurd (true≢false (sym c.0 ∙ e))
      by_node (Some n) is c = record { node = n; is = is; keeps = c }

  -- ---- links

  any_mark-commit : (b : Bool) (f : Forest V) (hs : List Handle) → tops_by (x.told b) f ≡ stored_by (x.told b) at hs → IsCommit m x changed at f → any_mark m f ≡ any_mark_stored m x at hs
  any_mark-commit b none [] e commit = refl
  any_mark-commit b none (h ∷ hs) e commit = absurd (cc)
  any_mark-commit b (tree k v kids rest) [] e commit = absurd (cc)
  any_mark-commit b (tree k v kids rest) (h ∷ hs) e commit =
      let c = child b k v kids h hs rest e commit.0 in
      ap (λ b. (b || m.below v) || any_mark m rest) c.keeps.flag
      ∙ (ap (λ b. (m.flag c.node.value || b) || any_mark m rest) c.keeps.below
      ∙ (ap (λ o. has_mark m x o || any_mark m rest) (sym c.is)
      ∙ (ap (λ y. has_mark m x (at y) || any_mark m rest) c.handle
      ∙ ap (λ b. has_mark m x (at h) || b) (any_mark-commit b rest hs c.later commit.2))))

  pub IsLinked-commit : IsLinkedStore m x at → (f : Forest V) → IsCommit m x changed at f → IsLinkedBut m changed f
  IsLinked-commit linked none commit = tt
  IsLinked-commit linked (tree k v kids rest) commit = (
    λ l e. by_node (at k) refl commit.0 l e (λ hs same. any_mark-commit (m.hides v) kids hs same commit.1),
    IsLinked-commit linked kids commit.1,
    IsLinked-commit linked rest commit.2,
  )
    where
      by_node : (o : Option (TreeNode V)) → at k ≡ o → Carried m x changed at o k v kids → listed k changed ≡ false → any_mark m kids ≡ true
          → ((hs : List Handle) → tops_by (x.told (m.hides v)) kids ≡ stored_by (x.told (m.hides v)) at hs → any_mark m kids ≡ any_mark_stored m x at hs) → m.below v ≡ true
      by_node None is c l e marks = c.1
      by_node (Some n) is c l e marks = c.below ∙ linked k n is (sym (marks n.children (c.build l).children) ∙ e)

  -- ---- the seen parts of children, and nodes below which nothing is changed

  pub seen-commit : (b : Bool) (f : Forest V) (hs : List Handle) → tops_by (x.told b) f ≡ stored_by (x.told b) at hs → IsCommit m x changed at f → tops_by (seen m x b) f ≡ stored_by (seen m x b) at hs
  seen-commit b none [] e commit = refl
  seen-commit b none (h ∷ hs) e commit = absurd (cc)
  seen-commit b (tree k v kids rest) [] e commit = absurd (cc)
  seen-commit b (tree k v kids rest) (h ∷ hs) e commit =
      let c = child b k v kids h hs rest e commit.0 in
      let see : D → S → SeenChild D S = λ d s. record { told = d; stored = s } in
      ap (λ y. (k, Some (see y (x.stored v))) ∷ tops_by (seen m x b) rest) c.told
      ∙ (ap (λ y. (k, Some (see (x.told b c.node.value) y)) ∷ tops_by (seen m x b) rest) c.keeps.stored
      ∙ (ap (λ o. (k, option_map (λ (n : TreeNode V). seen m x b n.value) o) ∷ tops_by (seen m x b) rest) (sym c.is)
      ∙ (ap (λ y. (y, option_map (λ (n : TreeNode V). seen m x b n.value) (at y)) ∷ tops_by (seen m x b) rest) c.handle
      ∙ ap (λ r. (h, option_map (λ (n : TreeNode V). seen m x b n.value) (at h)) ∷ r) (seen-commit b rest hs c.later commit.2))))

  pub unchanged-commit : (b : Bool) (f : Forest V) (hs : List Handle) → has_listed changed f ≡ false → tops_by (x.told b) f ≡ stored_by (x.told b) at hs → IsCommit m x changed at f → IsUnchanged m x at f
  unchanged-commit b none hs away e commit = tt
  unchanged-commit b (tree k v kids rest) [] away e commit = absurd (cc)
  unchanged-commit b (tree k v kids rest) (h ∷ hs) away e commit =
      let c = child b k v kids h hs rest e commit.0 in
      let parts = or_parts (listed k changed) (has_listed changed kids || has_listed changed rest) away in
      let two = or_parts (has_listed changed kids) (has_listed changed rest) parts.1 in
      let build = c.keeps.build parts.0 in (
        (c.node, c.is, build),
        unchanged-commit (m.hides v) kids c.node.children two.0 build.children commit.1,
        unchanged-commit b rest hs two.1 c.later commit.2,
      )

  -- ---- closed

  module _ (shown : V → Bool) (are : AreParts m x shown) where
    apart-same : (q : Above) (v w : V) → x.told q.hidden v ≡ x.told q.hidden w → x.stored v ≡ x.stored w → is_apart m shown q v ≡ is_apart m shown q w
    apart-same q v w told stored =
        ap (λ b. not b || m.ends q.top q.hidden v) (are.shown v w stored) ∙ ap (λ b. not (shown w) || b) (are.ends q.hidden v w told stored q.top)

    EndsTops-commit : (q : Above) (f : Forest V) (hs : List Handle) → tops_by (x.told q.hidden) f ≡ stored_by (x.told q.hidden) at hs → IsCommit m x changed at f
        → EndsStored m x (is_apart m shown) at q hs → EndsTops m (is_apart m shown) changed q f
    EndsTops-commit q none hs e commit ends = tt
    EndsTops-commit q (tree k v kids rest) [] e commit ends = absurd (cc)
    EndsTops-commit q (tree k v kids rest) (h ∷ hs) e commit ends =
        let c = child q.hidden k v kids h hs rest e commit.0 in
        let here : EndsNode m x (is_apart m shown) q (Some c.node) = subst (EndsNode m x (is_apart m shown) q) (ap at (sym c.handle) ∙ c.is) ends.0 in (
          λ fl l. apart-same q v c.node.value c.told c.keeps.stored ∙ here (sym c.keeps.flag ∙ fl),
          EndsTops-commit q rest hs c.later commit.2 ends.1,
        )

    EndsNode-place : (q r : Above) (o : Option (TreeNode V)) → q.top ≡ r.top → q.hidden ≡ r.hidden → EndsNode m x (is_apart m shown) q o → EndsNode m x (is_apart m shown) r o
    EndsNode-place q r None top hidden ends = tt
    EndsNode-place q r (Some n) top hidden ends = λ fl.
        ap (λ t. not (shown n.value) || m.ends t r.hidden n.value) (sym top) ∙ (ap (λ b. not (shown n.value) || m.ends q.top b n.value) (sym hidden) ∙ ends fl)

    EndsStored-place : (q r : Above) (hs : List Handle) → q.top ≡ r.top → q.hidden ≡ r.hidden → EndsStored m x (is_apart m shown) at q hs → EndsStored m x (is_apart m shown) at r hs
    EndsStored-place q r [] top hidden ends = tt
    EndsStored-place q r (h ∷ hs) top hidden ends = (EndsNode-place q r (at h) top hidden ends.0, EndsStored-place q r hs top hidden ends.1)

    pub IsClosed-commit : IsClosedStore m x shown at → (p : Above) (f : Forest V) → IsCommit m x changed at f → IsClosed m (is_apart m shown) changed p f
    IsClosed-commit closed p none commit = tt
    IsClosed-commit closed p (tree k v kids rest) commit = (
      λ fl l.
          let c = kept k v kids commit.0 fl in
          let build = c.keeps.build l in
          EndsTops-commit (within m p v) kids c.node.children build.children commit.1
          (EndsStored-place (within m at_top c.node.value) (within m p v) c.node.children refl (are.hides c.node.value v (sym build.own)) (closed k c.node c.is (sym c.keeps.flag ∙ fl))),
      IsClosed-commit closed (within m p v) kids commit.1,
      IsClosed-commit closed p rest commit.2,
    )
