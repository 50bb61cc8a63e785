-- Marks for painting that are set for changed nodes flag all that is painted otherwise, at every top of a tree.
use Rattle.std.proofs.Common.{◌≡◌, Bool, true, false, not, ◌&&◌, ◌||◌, cond, Option, Some, None, IsSome, option_map, List, [], ◌∷◌, refl, ap, sym, ◌∙◌, subst, true≢false}
use Rattle.fx_handles.specs.declared.Handle.{Handle}
use Rattle.fx_geom.specs.declared.shapes.Size.{Size}
use Rattle.delegates.specs.Table.{Plug}
use Rattle.node_tree.specs.Forest.{TreeNode, Forest, tops, Stands}
use Rattle.node_tree.specs.Forest.Forest.{none, tree}
use Rattle.node_tree.specs.Tree.{Tree, node_at, IsTree}
use Rattle.node_tree.proofs.ForestLemmas.{same_Some, find}
use Rattle.node_tree.proofs.TreeLemmas.{is_node}
use Rattle.tree_marks.specs.Marking.{at_top}
use Rattle.tree_marks.specs.Marks.{listed, has_listed, some_climbs, sweep}
use Rattle.render_tree.specs.Object.{RenderObject}
use Rattle.render_tree.specs.Marks.{paint_marks}
use Rattle.kept_layers.specs.Group.{is_boundary}
use Rattle.kept_layers.specs.Unmarked.{drawn_of, StaysDrawn}
use Rattle.kept_layers.specs.Repainted.{group_flag, IsRepainted, CarriesPaint, KeepsPaint}
use Rattle.kept_layers.proofs.Sweeping.{Below, inner, repainted, tops_swept, or_left, or_right}

and_true : (a b : Bool) → b ≡ true → (a && b) ≡ false → a ≡ false
and_true true b is e = absurd (true≢false (sym is ∙ e))
and_true false b is e = refl

and_none : (b : Bool) → (b && false) ≡ false
and_none true = refl
and_none false = refl

-- what holds of any live node's value where this is one
stored : (o : Option (TreeNode RenderObject)) → IsSome o → (n : TreeNode RenderObject) × (o ≡ Some n)
stored None e = absurd cc
stored (Some n) e = (n, refl)

-- all of them are live
abbrev AllLive : (Handle → Option (TreeNode RenderObject)) → List Handle → Type 0
AllLive at [] = Unit {0}
AllLive at (h ∷ hs) = IsSome (at h) × AllLive at hs

stored_tops : (at : Handle → Option (TreeNode RenderObject)) (p : Option Handle) (f : Forest RenderObject) → Stands at p f → AllLive at (tops f)
stored_tops at p none stands = tt
stored_tops at p (tree h o below rest) stands = (is_node (at h) (record { parent = p; children = tops below; value = o }) stands.0, stored_tops at p rest stands.2)

stored_kids : (t : Tree RenderObject) → IsTree t → (h : Handle) (n : TreeNode RenderObject) → node_at t h ≡ Some n → AllLive (node_at t) n.children
stored_kids t (f, is) h n e =
    let found = find (node_at t) None f h is.stands (is.whole h (is_node (node_at t h) n e)) (is.distinct h) in
    let kids : tops found.kids ≡ n.children = ap (λ (x : TreeNode RenderObject). x.children) (same_Some (sym found.is ∙ e)) in
    subst (AllLive (node_at t)) kids (stored_tops (node_at t) (Some h) found.kids found.stands)

module _ (cell : Size) (before after : List Plug) (also : Bool) (hs : List Handle) (old mid : Tree RenderObject)
    (all : (k : Handle) (is : TreeNode RenderObject) → node_at mid k ≡ Some is → CarriesPaint cell before after also hs k (node_at old k) is) (is_old : IsTree old) where
  kept : (k : Handle) (was is : TreeNode RenderObject) → node_at old k ≡ Some was → node_at mid k ≡ Some is → KeepsPaint cell before after also hs k was is
  kept k was is at_old at_mid = subst (λ o. CarriesPaint cell before after also hs k o is) at_old (all k is at_mid)

  -- a node that had no flag when the marks were set was there
  there : (k : Handle) (is : TreeNode RenderObject) → node_at mid k ≡ Some is → is.value.needs_paint ≡ false → IsSome (node_at old k)
  there k is at_mid calm = by_old (node_at old k) (all k is at_mid)
    where
      by_old : (o : Option (TreeNode RenderObject)) → CarriesPaint cell before after also hs k o is → IsSome o
      by_old None c = absurd (true≢false (sym c.0 ∙ calm))
      by_old (Some n) c = refl

  -- one that was there and isn't listed stays drawn
  stays : (k : Handle) (p : Option Handle) (o : RenderObject) (f b : Bool) (below inside : Forest RenderObject)
      → node_at mid k ≡ Some (record { parent = p; children = tops below; value = o })
      → IsSome (node_at old k) → listed k hs ≡ false → tops inside ≡ tops below → StaysDrawn cell after before (node_at old) k (paint_marks.marked f b o) inside
  stays k p o f b below inside at_mid live unlisted same_tops =
      let n = stored (node_at old k) live in
      let keeps = kept k n.0 (record { parent = p; children = tops below; value = o }) n.1 at_mid in
      let kids : tops below ≡ n.0.children = keeps.children (ap (λ b. also && b) unlisted ∙ and_none also) in
      record {
        drawn = ap (option_map (λ (x : TreeNode RenderObject). drawn_of x.value)) n.1 ∙ ap (λ d. Some d) (sym (keeps.drawn unlisted));
        draws = λ q. sym (keeps.draws unlisted q);
        children = ap (option_map (λ (x : TreeNode RenderObject). x.children)) n.1 ∙ ap (λ ks. Some ks) (sym kids ∙ sym same_tops);
      }

  flag_was : (k : Handle) (is : TreeNode RenderObject) → node_at mid k ≡ Some is → is.value.needs_paint ≡ false
      → option_map (λ (x : TreeNode RenderObject). x.value.needs_paint) (node_at old k) ≡ Some false
  flag_was k is at_mid calm =
      let n = stored (node_at old k) (there k is at_mid calm) in
      ap (option_map (λ (x : TreeNode RenderObject). x.value.needs_paint)) n.1 ∙ ap (λ b. Some b) (sym ((kept k n.0 is n.1 at_mid).flag) ∙ calm)

  -- the children of a node that was there were there
  kids_live : (h : Handle) (p : Option Handle) (o : RenderObject) (below : Forest RenderObject) → node_at mid h ≡ Some (record { parent = p; children = tops below; value = o })
      → listed h hs ≡ false → IsSome (node_at old h) → AllLive (node_at old) (tops below)
  kids_live h p o below at_mid unlisted live =
      let n = stored (node_at old h) live in
      let drawn = stays h p o false false below below at_mid live unlisted refl in
      let kids : n.0.children ≡ tops below = same_Some (sym (ap (option_map (λ (x : TreeNode RenderObject). x.children)) n.1) ∙ drawn.children) in
      subst (AllLive (node_at old)) kids (stored_kids old is_old h n.0 n.1)

  -- a forest below a parent, whose tops were there
  stored_below : (above : Bool) (q : Handle) (f : Forest RenderObject) → Stands (node_at mid) (Some q) f → (above ≡ false → listed q hs ≡ false)
      → (above ≡ false → some_climbs paint_marks hs inner f ≡ false) → (above ≡ false → AllLive (node_at old) (tops f)) → Below cell before after also hs old mid above q f
  stored_below above q none stands parent climbs live = record { stands = stands; parent = parent; climbs = climbs; live = λ e. tt }
  stored_below above q (tree h o below rest) stands parent climbs live = record {
    stands = stands;
    parent = parent;
    climbs = climbs;
    live = λ e. (
      (live e).0,
      (stored_below above q rest stands.2 parent (λ e2. or_right ((listed h hs || some_climbs paint_marks hs inner below) && not (is_boundary o)) (some_climbs paint_marks hs inner rest) (climbs e2))
          (λ e2. (live e2).1)).live e,
    );
  }

  -- what follows at a top whose group isn't flagged
  record Own (h : Handle) (below : Forest RenderObject) : Type 0 where
    pub unlisted : listed h hs ≡ false
    pub climbs : some_climbs paint_marks hs inner below ≡ false
    pub live : IsSome (node_at old h)

  own : (p : Option Handle) (h : Handle) (o : RenderObject) (below : Forest RenderObject) → node_at mid h ≡ Some (record { parent = p; children = tops below; value = o }) → (b : Bool) → is_boundary o ≡ b
      → cond b (o.needs_paint || ((listed h hs || some_climbs paint_marks hs inner below) && true)) true ≡ false → Own h below
  own p h o below at_mid true is e =
      let out = and_true (listed h hs || some_climbs paint_marks hs inner below) true refl (or_right o.needs_paint _ e) in
      record {
        unlisted = or_left (listed h hs) _ out;
        climbs = or_right (listed h hs) _ out;
        live = there h (record { parent = p; children = tops below; value = o }) at_mid (or_left o.needs_paint _ e);
      }
  own p h o below at_mid false is e = absurd (true≢false e)

  pub tops_repainted : (p : Option Handle) (f : Forest RenderObject) → Stands (node_at mid) p f → IsRepainted cell before after (node_at old) true (sweep paint_marks also hs at_top f)
  tops_repainted p none stands = tt
  tops_repainted p (tree h o below rest) stands =
      let flag : Bool = (listed h hs || some_climbs paint_marks hs inner below) && true in
      let mark : Bool = has_listed hs below || (also && listed h hs) in
      let node : TreeNode RenderObject = record { parent = p; children = tops below; value = o } in
      let mine : group_flag true (paint_marks.marked flag mark o) ≡ false → Own h below = λ e. own p h o below stands.0 (is_boundary o) refl e in (
        (λ e. absurd (true≢false e)),
        (λ e. stays h p o flag mark below (sweep paint_marks also hs inner below) stands.0 (mine e).live (mine e).unlisted (tops_swept also hs inner below)),
        (λ is e. flag_was h node stands.0 (or_left o.needs_paint _ e)),
        repainted cell before after also hs old mid all is_old (group_flag true (paint_marks.marked flag mark o)) h below
            (stored_below (group_flag true (paint_marks.marked flag mark o)) h below stands.1 (λ e. (mine e).unlisted) (λ e. (mine e).climbs)
            (λ e. kids_live h p o below stands.0 (mine e).unlisted (mine e).live)),
        tops_repainted p rest stands.2,
      )
