-- A tree in which all is flagged that is painted otherwise: what is kept stays fresh.
use Rattle.std.proofs.Common.{◌≡◌, ℕ, Bool, true, false, cond, if◌then◌else◌, Option, Some, None, IsSome, option_map, List, [], ◌∷◌, refl, ap, sym, ◌∙◌, subst, inl, inr, arith, true≢false}
use Rattle.fx_handles.specs.declared.Handle.{Handle}
use Rattle.fx_handles.specs.Handle.{same}
use Rattle.fx_handles.specs.HandleLaws.{cases_same, same-ne}
use Rattle.fx_geom.specs.declared.shapes.Size.{Size}
use Rattle.fx_geom.specs.Offset.{origin}
use Rattle.delegates.specs.Table.{Plug}
use Rattle.node_tree.specs.Forest.{TreeNode, Forest, tops, count, In, Stands}
use Rattle.node_tree.specs.Forest.Forest.{none, tree}
use Rattle.node_tree.proofs.ForestLemmas.{same_Some, is_zero, count_here}
use Rattle.work_roles.specs.WorkRole.{is_repaint_boundary}
use Rattle.render_tree.specs.Object.{RenderObject}
use Rattle.kept_layers.specs.Group.{group_parts, is_boundary}
use Rattle.kept_layers.specs.KeptLayers.{KeptLayers, KeepsGroup, IsFresh, filled}
use Rattle.kept_layers.specs.Top.{root_parts}
use Rattle.kept_layers.specs.Unmarked.{drawn_of, StaysDrawn, IsUnmarked}
use Rattle.kept_layers.specs.Repainted.{group_flag, IsRepainted, IsRootRepainted}
use Rattle.kept_layers.proofs.Agreeing.{in_below, in_rest}
use Rattle.kept_layers.proofs.Unmarking.{unmarked_parts, unmarked_root}

-- what is read of an option's value
pub read_back : {A X : Type 0} (read : A → X) (o : Option A) (x : X) → option_map read o ≡ Some x → (a : A) × (o ≡ Some a) × (read a ≡ x)
read_back read None x e = absurd cc
read_back read (Some a) x e = (a, refl, same_Some e)

pub read_at : {A X : Type 0} (read : A → X) (o : Option A) (a : A) (x : X) → o ≡ Some a → option_map read o ≡ Some x → read a ≡ x
read_at read o a x is e = same_Some (sym (ap (option_map read) is) ∙ e)

pub some_read : {A X : Type 0} (read : A → X) (o : Option A) (x : X) → option_map read o ≡ Some x → IsSome o
some_read read None x e = absurd cc
some_read read (Some a) x e = refl

-- ---- a node that stands in a forest of which something holds

module _ (Q : Forest RenderObject → Type 0) (was : Handle → Option (TreeNode RenderObject)) where
  -- what holds of a tree and those after it holds of its children, and of those after it
  abbrev pub GoesDown : Type 0
  GoesDown = (h : Handle) (o : RenderObject) (below rest : Forest RenderObject) → Q (tree h o below rest) → Q below × Q rest

  pub record Placed (h : Handle) : Type 0 where
    pub value : RenderObject
    pub kids : Forest RenderObject
    pub rest : Forest RenderObject
    pub parent : Option Handle
    pub is : was h ≡ Some (record { parent = parent; children = tops kids; value = value })
    pub stands : Stands was (Some h) kids
    pub holds : Q (tree h value kids rest)

  pub find_with : GoesDown → (p : Option Handle) (f : Forest RenderObject) (h : Handle) → Stands was p f → In h f → Q f → Placed h
  find_with down p none h stands among all = absurd (omega arith)
  find_with down p (tree k v below rest) h stands among all = elim (cases_same k h) [
    | inl e ↦ record {
      value = v;
      kids = below;
      rest = rest;
      parent = p;
      is = ap was (sym e) ∙ stands.0;
      stands = subst (λ x. Stands was (Some x) below) e stands.1;
      holds = subst (λ x. Q (tree x v below rest)) e all;
    }
    | inr ne ↦
        let here : cond {A = ℕ} (same k h) 1 0 ≡ 0 = ap (λ b. cond {A = ℕ} b 1 0) (same-ne k h ne) in
        let parts = down k v below rest all in
        elim (is_zero (count h below)) [
          | inl gone ↦ find_with down p rest h stands.2 (omega (arith, among, here, gone)) parts.1
          | inr there ↦ find_with down (Some k) below h stands.1 there parts.0
        ]
  ]

module _ (cell : Size) (before after : List Plug) (was : Handle → Option (TreeNode RenderObject)) where
  -- below a group that isn't flagged nothing is painted otherwise
  pub unflagged : (f : Forest RenderObject) → IsRepainted cell before after was false f → IsUnmarked cell after before was f
  unflagged none r = tt
  unflagged (tree h o below rest) r = (
    r.0 refl,
    (λ isnt.
        let e : group_flag false o ≡ false = ap (λ (b : Bool). if b then o.needs_paint else false) isnt in
        (r.1 e, unflagged below (subst (λ b. IsRepainted cell before after was b below) e r.3))),
    unflagged rest r.4,
  )

  -- where a group is flagged less is asked
  flagged_above : (b : Bool) (f : Forest RenderObject) → IsRepainted cell before after was b f → IsRepainted cell before after was true f
  flagged_above true f r = r
  flagged_above false none r = tt
  flagged_above false (tree h o below rest) r = (
    (λ e. absurd (true≢false e)),
    (λ e. r.1 (off (is_boundary o) o.needs_paint e)),
    r.2,
    inner (λ x. flagged_above false below x) (is_boundary o) refl,
    flagged_above false rest r.4,
  )
    where
      off : (b flag : Bool) → (if b then flag else true) ≡ false → (if b then flag else false) ≡ false
      off true flag e = e
      off false flag e = refl

      inner : (IsRepainted cell before after was false below → IsRepainted cell before after was true below) → (b : Bool) → is_boundary o ≡ b
          → IsRepainted cell before after was (if b then o.needs_paint else true) below
      inner later true e = subst (λ (b : Bool). IsRepainted cell before after was (if b then o.needs_paint else false) below) e r.3
      inner later false e = later (subst (λ (b : Bool). IsRepainted cell before after was (if b then o.needs_paint else false) below) e r.3)

  fresh_down : (s : KeptLayers) → GoesDown (IsFresh cell before s) was
  fresh_down s h o below rest fresh = (fresh.1, fresh.2)

  module _ (s : KeptLayers) (p : Option Handle) (old : Forest RenderObject) (stands : Stands was p old) (fresh : IsFresh cell before s old) where
    -- a boundary that isn't flagged
    keeps_on : (h : Handle) (o : RenderObject) (below : Forest RenderObject) → In h old → is_boundary o ≡ true
        → StaysDrawn cell after before was h o below → option_map (λ (n : TreeNode RenderObject). n.value.needs_paint) (was h) ≡ Some false → IsUnmarked cell after before was below
        → KeepsGroup cell after s h below
    keeps_on h o below inside is drawn calm unmarked =
        let found = find_with (IsFresh cell before s) was (fresh_down s) p old h stands inside fresh in
        let node : TreeNode RenderObject = record { parent = found.parent; children = tops found.kids; value = found.value } in
        let look : drawn_of found.value ≡ drawn_of o = read_at (λ (n : TreeNode RenderObject). drawn_of n.value) (was h) node (drawn_of o) found.is drawn.drawn in
        let was_one : is_boundary found.value ≡ true = ap (λ d. is_repaint_boundary d.look) look ∙ is in
        let was_calm : found.value.needs_paint ≡ false = read_at (λ (n : TreeNode RenderObject). n.value.needs_paint) (was h) node false found.is calm in
        let kids : tops below ≡ tops found.kids = sym (read_at (λ (n : TreeNode RenderObject). n.children) (was h) node (tops below) found.is drawn.children) in
        let keeps = found.holds.0 was_one was_calm in
        let e : group_parts cell before found.kids origin ≡ group_parts cell after below origin = unmarked_parts cell after before was (Some h) below found.kids found.stands kids unmarked origin in
        record { parts = keeps.parts ∙ ap (λ ps. Some ps) e; whole = keeps.whole ∙ ap (λ ps. Some (filled s.wholes ps)) e }

    pub fresh_again : (above : Bool) (f : Forest RenderObject) → ((h : Handle) → In h f → IsSome (was h) → In h old) → IsRepainted cell before after was above f → IsFresh cell after s f
    fresh_again above none inside r = tt
    fresh_again above (tree h o below rest) inside r = (
      (λ is calm.
          let e : group_flag above o ≡ false = ap (λ (b : Bool). if b then o.needs_paint else above) is ∙ calm in
          let drawn = r.1 e in
          let there : In h old = inside h (count_here h o below rest) (some_read (λ (n : TreeNode RenderObject). n.children) (was h) (tops below) drawn.children) in
          keeps_on h o below there is drawn (r.2 is calm) (unflagged below (subst (λ b. IsRepainted cell before after was b below) e r.3))),
      fresh_again (group_flag above o) below (λ k is. inside k (in_below k h o below rest is)) r.3,
      fresh_again above rest (λ k is. inside k (in_rest k h o below rest is)) r.4,
    )

  -- ---- the root's tree

  -- seen as one that stands in a flagged group
  pub root_repainted : (root : Option Handle) (h : Handle) (o : RenderObject) (below : Forest RenderObject) → IsRootRepainted cell before after was root (tree h o below none)
      → IsRepainted cell before after was true (tree h o below none)
  root_repainted root h o below r = (
    (λ e. absurd (true≢false e)),
    (λ e. (r.0 (off (is_boundary o) e)).1),
    (λ is calm. (r.0 calm).2),
    inner (is_boundary o) refl,
    tt,
  )
    where
      off : (b : Bool) → (if b then o.needs_paint else true) ≡ false → o.needs_paint ≡ false
      off true e = e
      off false e = absurd (true≢false e)

      inner : (b : Bool) → is_boundary o ≡ b → IsRepainted cell before after was (if b then o.needs_paint else true) below
      inner true e = r.1
      inner false e = flagged_above o.needs_paint below r.1

  pub root_stays : (root : Option Handle) (p : Option Handle) (h : Handle) (o : RenderObject) (below old : Forest RenderObject) → Stands was p old → tops old ≡ h ∷ []
      → IsRootRepainted cell before after was root (tree h o below none) → o.needs_paint ≡ false → root_parts cell after (tree h o below none) ≡ root_parts cell before old
  root_stays root p h o below old stands top r calm =
      let drawn = (r.0 calm).1 in
      let apart : option_map (λ (n : TreeNode RenderObject). is_boundary n.value) (was h) ≡ Some (is_boundary o) = by_drawn (was h) drawn.drawn in
      let unmarked = unflagged below (subst (λ b. IsRepainted cell before after was b below) calm r.1) in
      sym (unmarked_root cell after before was p (tree h o below none) old stands (sym top) (apart, (λ isnt. (drawn, unmarked))))
    where
      by_drawn : (n : Option (TreeNode RenderObject)) → option_map (λ (x : TreeNode RenderObject). drawn_of x.value) n ≡ Some (drawn_of o)
          → option_map (λ (x : TreeNode RenderObject). is_boundary x.value) n ≡ Some (is_boundary o)
      by_drawn None e = absurd cc
      by_drawn (Some x) e = ap (λ d. Some (is_repaint_boundary d.look)) (same_Some e)
