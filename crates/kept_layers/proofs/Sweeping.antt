-- Marks for painting that are set for changed nodes flag all that is painted otherwise.
use Rattle.std.proofs.Common.{◌≡◌, Bool, true, false, not, ◌&&◌, ◌||◌, if◌then◌else◌, Option, Some, None, IsSome, option_map, List, [], ◌∷◌, refl, ap, sym, ◌∙◌, subst, true≢false}
use Rattle.fx_handles.specs.declared.Handle.{Handle}
use Rattle.fx_geom.specs.declared.shapes.Size.{Size}
use Rattle.delegates.specs.Table.{Plug}
use Rattle.node_tree.specs.Forest.{TreeNode, Forest, tops, In, Stands}
use Rattle.node_tree.specs.Forest.Forest.{none, tree}
use Rattle.node_tree.specs.Tree.{Tree, node_at, IsTree}
use Rattle.node_tree.proofs.ForestLemmas.{same_Some, find, count_here}
use Rattle.node_tree.proofs.TreeLemmas.{is_node}
use Rattle.tree_marks.specs.Marking.{Above, at_top, within, is_boundary as ends_marks}
use Rattle.tree_marks.specs.Marks.{listed, has_listed, some_climbs, sweep}
use Rattle.render_tree.specs.Object.{RenderObject}
use Rattle.render_tree.specs.Marks.{paint_marks}
use Rattle.kept_layers.specs.Group.{is_boundary}
use Rattle.kept_layers.specs.KeptLayers.{IsCalm, IsMarked}
use Rattle.kept_layers.specs.Unmarked.{placed_of, drawn_of, StaysDrawn}
use Rattle.kept_layers.specs.Repainted.{group_flag, IsRepainted, IsRootRepainted, KeepsPaint, CarriesPaint}
use Rattle.kept_layers.proofs.Agreeing.{in_below, in_rest}
use Rattle.kept_layers.proofs.Repainting.{GoesDown, find_with}

pub or_left : (a b : Bool) → (a || b) ≡ false → a ≡ false
or_left true b e = e
or_left false b e = refl

pub or_right : (a b : Bool) → (a || b) ≡ false → b ≡ false
or_right true true e = e
or_right true false e = refl
or_right false b e = e

and_true : (a b : Bool) → b ≡ true → (a && b) ≡ false → a ≡ false
and_true true b is e = absurd (true≢false (sym is ∙ e))
and_true false b is e = refl

-- ---- where no node of the list stands

module _ (also : Bool) (hs : List Handle) where
  -- the forest with the marks
  abbrev pub swept : Above → Forest RenderObject → Forest RenderObject
  swept p f = sweep paint_marks also hs p f

  no_climbs : (p : Above) (f : Forest RenderObject) → has_listed hs f ≡ false → some_climbs paint_marks hs p f ≡ false
  no_climbs p none unlisted = refl
  no_climbs p (tree h o below rest) unlisted =
      let others = or_right (listed h hs) (has_listed hs below || has_listed hs rest) unlisted in
      λ i. ((or_left (listed h hs) (has_listed hs below || has_listed hs rest) unlisted i
      || no_climbs (within paint_marks p o) below (or_left (has_listed hs below) (has_listed hs rest) others) i) && not (ends_marks paint_marks p o))
      || no_climbs p rest (or_right (has_listed hs below) (has_listed hs rest) others) i

  pub calm_swept : (p : Above) (f : Forest RenderObject) → has_listed hs f ≡ false → IsCalm f → IsCalm (swept p f)
  calm_swept p none unlisted calm = tt
  calm_swept p (tree h o below rest) unlisted calm =
      let others = or_right (listed h hs) (has_listed hs below || has_listed hs rest) unlisted in
      let inside = or_left (has_listed hs below) (has_listed hs rest) others in (
        (λ i. calm.0 i
            || ((or_left (listed h hs) (has_listed hs below || has_listed hs rest) unlisted i || no_climbs (within paint_marks p o) below inside i) && paint_marks.takes p.top o)),
        calm_swept (within paint_marks p o) below inside calm.1,
        calm_swept p rest (or_right (has_listed hs below) (has_listed hs rest) others) calm.2,
      )

  pub tops_swept : (p : Above) (f : Forest RenderObject) → tops (swept p f) ≡ tops f
  tops_swept p none = refl
  tops_swept p (tree h o below rest) = ap (λ hs. h ∷ hs) (tops_swept p rest)

-- ---- handles that are live

abbrev AreStored : (Handle → Option (TreeNode RenderObject)) → List Handle → Type 0
AreStored at [] = Unit {0}
AreStored at (h ∷ hs) = IsSome (at h) × AreStored at hs

stored_tops : (at : Handle → Option (TreeNode RenderObject)) (p : Option Handle) (f : Forest RenderObject) → Stands at p f → AreStored at (tops f)
stored_tops at p none stands = tt
stored_tops at p (tree h o below rest) stands = (is_node (at h) (record { parent = p; children = tops below; value = o }) stands.0, stored_tops at p rest stands.2)

stored_kids : (t : Tree RenderObject) → IsTree t → (h : Handle) (n : TreeNode RenderObject) → node_at t h ≡ Some n → AreStored (node_at t) n.children
stored_kids t (f, is) h n e =
    let found = find (node_at t) None f h is.stands (is.whole h (is_node (node_at t h) n e)) (is.distinct h) in
    let kids : tops found.kids ≡ n.children = ap (λ (x : TreeNode RenderObject). x.children) (same_Some (sym found.is ∙ e)) in
    subst (AreStored (node_at t)) kids (stored_tops (node_at t) (Some h) found.kids found.stands)

-- what holds of any live node's value where this is one
stored : (o : Option (TreeNode RenderObject)) → IsSome o → (n : TreeNode RenderObject) × (o ≡ Some n)
stored None e = absurd cc
stored (Some n) e = (n, refl)

-- ---- a change that was listed, and its marks

abbrev pub inner : Above
inner = record { top = false; hidden = false; asked = false }

module _ (cell : Size) (before after : List Plug) (also : Bool) (hs : List Handle) (old mid : Tree RenderObject) where
  -- what is known of each node
  abbrev pub AllCarried : Type 0
  AllCarried = (k : Handle) (is : TreeNode RenderObject) → node_at mid k ≡ Some is → CarriesPaint cell before after also hs k (node_at old k) is

  -- of a node that was there
  kept : AllCarried → (k : Handle) (was is : TreeNode RenderObject) → node_at old k ≡ Some was → node_at mid k ≡ Some is → KeepsPaint cell before after also hs k was is
  kept all k was is at_old at_mid = subst (λ o. CarriesPaint cell before after also hs k o is) at_old (all k is at_mid)

  -- of one that had no flag, or no mark, when the marks were set: it was there
  there : AllCarried → (k : Handle) (is : TreeNode RenderObject) → node_at mid k ≡ Some is → is.value.needs_paint ≡ false → IsSome (node_at old k)
  there all k is at_mid calm = by_old (node_at old k) (all k is at_mid)
    where
      by_old : (o : Option (TreeNode RenderObject)) → CarriesPaint cell before after also hs k o is → IsSome o
      by_old None c = absurd (true≢false (sym c.0 ∙ calm))
      by_old (Some n) c = refl

  there_unmarked : AllCarried → (k : Handle) (is : TreeNode RenderObject) → node_at mid k ≡ Some is → is.value.paint_below ≡ false → IsSome (node_at old k)
  there_unmarked all k is at_mid calm = by_old (node_at old k) (all k is at_mid)
    where
      by_old : (o : Option (TreeNode RenderObject)) → CarriesPaint cell before after also hs k o is → IsSome o
      by_old None c = absurd (true≢false (sym c.1 ∙ calm))
      by_old (Some n) c = refl

  -- a node that was there and isn't listed stays drawn
  stays : AllCarried → (k : Handle) (p : Option Handle) (o : RenderObject) (f b : Bool) (below inside : Forest RenderObject)
      → node_at mid k ≡ Some (record { parent = p; children = tops below; value = o })
      → IsSome (node_at old k) → listed k hs ≡ false → tops inside ≡ tops below → StaysDrawn cell after before (node_at old) k (paint_marks.marked f b o) inside
  stays all k p o f b below inside at_mid live unlisted same_tops =
      let n = stored (node_at old k) live in
      let keeps = kept all k n.0 (record { parent = p; children = tops below; value = o }) n.1 at_mid in
      let kids : tops below ≡ n.0.children = keeps.children (ap (λ b. also && b) unlisted ∙ and_none also) in
      record {
        drawn = ap (option_map (λ (x : TreeNode RenderObject). drawn_of x.value)) n.1 ∙ ap (λ d. Some d) (sym (keeps.drawn unlisted));
        draws = λ q. sym (keeps.draws unlisted q);
        children = ap (option_map (λ (x : TreeNode RenderObject). x.children)) n.1 ∙ ap (λ ks. Some ks) (sym kids ∙ sym same_tops);
      }
    where
      and_none : (b : Bool) → (b && false) ≡ false
      and_none true = refl
      and_none false = refl

  -- its flag
  flag_was : AllCarried → (k : Handle) (is : TreeNode RenderObject) → node_at mid k ≡ Some is → is.value.needs_paint ≡ false
      → option_map (λ (x : TreeNode RenderObject). x.value.needs_paint) (node_at old k) ≡ Some false
  flag_was all k is at_mid calm =
      let n = stored (node_at old k) (there all k is at_mid calm) in
      ap (option_map (λ (x : TreeNode RenderObject). x.value.needs_paint)) n.1 ∙ ap (λ b. Some b) (sym ((kept all k n.0 is n.1 at_mid).flag) ∙ calm)

  -- a forest below a parent: where its group isn't flagged, the parent isn't listed, no marks climb out of it, and its tops were there
  pub record Below (above : Bool) (q : Handle) (f : Forest RenderObject) : Type 0 where
    pub stands : Stands (node_at mid) (Some q) f
    pub parent : above ≡ false → listed q hs ≡ false
    pub climbs : above ≡ false → some_climbs paint_marks hs inner f ≡ false
    pub live : above ≡ false → AreStored (node_at old) (tops f)

  -- what follows at its first node where the group below the node isn't flagged
  record Own (h : Handle) (below : Forest RenderObject) : Type 0 where
    pub unlisted : listed h hs ≡ false
    pub climbs : some_climbs paint_marks hs inner below ≡ false
    pub live : IsSome (node_at old h)

  module _ (all : AllCarried) (is_old : IsTree old) where
    own : (above : Bool) (q h : Handle) (o : RenderObject) (below rest : Forest RenderObject) → Below above q (tree h o below rest) → (b : Bool) → is_boundary o ≡ b
        → (if b then o.needs_paint || ((listed h hs || some_climbs paint_marks hs inner below) && is_boundary o) else above) ≡ false → Own h below
    own above q h o below rest at true is e =
        let mine : (listed h hs || some_climbs paint_marks hs inner below) ≡ false = and_true (listed h hs || some_climbs paint_marks hs inner below) (is_boundary o) is (or_right o.needs_paint _ e) in
        record {
          unlisted = or_left (listed h hs) _ mine;
          climbs = or_right (listed h hs) _ mine;
          live = there all h (record { parent = Some q; children = tops below; value = o }) at.stands.0 (or_left o.needs_paint _ e);
        }
    own above q h o below rest at false isnt e =
        let out : (((listed h hs || some_climbs paint_marks hs inner below) && not (is_boundary o)) || some_climbs paint_marks hs inner rest) ≡ false = at.climbs e in
        let mine : (listed h hs || some_climbs paint_marks hs inner below) ≡ false =
        and_true (listed h hs || some_climbs paint_marks hs inner below) (not (is_boundary o)) (ap not isnt) (or_left _ (some_climbs paint_marks hs inner rest) out) in
        record { unlisted = or_left (listed h hs) _ mine; climbs = or_right (listed h hs) _ mine; live = (at.live e).0 }

    -- the children of a node that was there were there
    kids_live : (h : Handle) (p : Option Handle) (o : RenderObject) (below : Forest RenderObject) → node_at mid h ≡ Some (record { parent = p; children = tops below; value = o })
        → listed h hs ≡ false → IsSome (node_at old h) → AreStored (node_at old) (tops below)
    kids_live h p o below at_mid unlisted live =
        let n = stored (node_at old h) live in
        let drawn = stays all h p o false false below below at_mid live unlisted refl in
        let kids : n.0.children ≡ tops below = same_Some (sym (ap (option_map (λ (x : TreeNode RenderObject). x.children)) n.1) ∙ drawn.children) in
        subst (AreStored (node_at old)) kids (stored_kids old is_old h n.0 n.1)

    pub repainted : (above : Bool) (q : Handle) (f : Forest RenderObject) → Below above q f → IsRepainted cell before after (node_at old) above (swept also hs inner f)
    repainted above q none at = tt
    repainted above q (tree h o below rest) at =
        let flag : Bool = (listed h hs || some_climbs paint_marks hs inner below) && is_boundary o in
        let mark : Bool = has_listed hs below || (also && listed h hs) in
        let node : TreeNode RenderObject = record { parent = Some q; children = tops below; value = o } in (
          (λ e.
              let n = stored (node_at old h) (at.live e).0 in
              ap (option_map (λ (x : TreeNode RenderObject). placed_of x.value)) n.1 ∙ ap (λ d. Some d) (sym ((kept all h n.0 node n.1 at.stands.0).placed q refl (at.parent e)))),
          (λ e.
              let mine = own above q h o below rest at (is_boundary o) refl e in
              stays all h (Some q) o flag mark below (swept also hs inner below) at.stands.0 mine.live mine.unlisted (tops_swept also hs inner below)),
          (λ is e. flag_was all h node at.stands.0 (or_left o.needs_paint _ e)),
          repainted (group_flag above (paint_marks.marked flag mark o)) h below
              (record {
                stands = at.stands.1;
                parent = λ e. (own above q h o below rest at (is_boundary o) refl e).unlisted;
                climbs = λ e. (own above q h o below rest at (is_boundary o) refl e).climbs;
                live = λ e. let mine = own above q h o below rest at (is_boundary o) refl e in kids_live h (Some q) o below at.stands.0 mine.unlisted mine.live;
              }),
          repainted above q rest
              (record {
                stands = at.stands.2;
                parent = at.parent;
                climbs = λ e. or_right ((listed h hs || some_climbs paint_marks hs inner below) && not (is_boundary o)) _ (at.climbs e);
                live = λ e. (at.live e).1;
              }),
        )

    -- the root's tree
    pub root_repainted : (p : Option Handle) (h : Handle) (o : RenderObject) (below : Forest RenderObject) → Stands (node_at mid) p (tree h o below none) → (listed h hs ≡ false → old.root ≡ Some h)
        → IsRootRepainted cell before after (node_at old) old.root (swept also hs at_top (tree h o below none))
    root_repainted p h o below stands top =
        let node : TreeNode RenderObject = record { parent = p; children = tops below; value = o } in
        let flag : Bool = o.needs_paint || ((listed h hs || some_climbs paint_marks hs inner below) && true) in
        let mine : flag ≡ false → Own h below = λ e.
        let out = and_true (listed h hs || some_climbs paint_marks hs inner below) true refl (or_right o.needs_paint _ e) in
        record { unlisted = or_left (listed h hs) _ out; climbs = or_right (listed h hs) _ out; live = there all h node stands.0 (or_left o.needs_paint _ e) } in (
          (λ e. (
            top (mine e).unlisted,
            stays all h p o ((listed h hs || some_climbs paint_marks hs inner below) && true) (has_listed hs below || (also && listed h hs)) below (swept also hs inner below) stands.0
                (mine e).live (mine e).unlisted (tops_swept also hs inner below),
            flag_was all h node stands.0 (or_left o.needs_paint _ e),
          )),
          repainted flag h below
              (record {
                stands = stands.1;
                parent = λ e. (mine e).unlisted;
                climbs = λ e. (mine e).climbs;
                live = λ e. kids_live h p o below stands.0 (mine e).unlisted (mine e).live;
              }),
        )

    -- ---- marks

    head_is : (h k : Handle) (hs ks : List Handle) → h ∷ hs ≡ k ∷ ks → h ≡ k
    head_is h k hs ks e = cc

    tail_is : (h k : Handle) (hs ks : List Handle) → h ∷ hs ≡ k ∷ ks → hs ≡ ks
    tail_is h k hs ks e = cc

    cons_nil : (h : Handle) (hs : List Handle) → h ∷ hs ≡ [] → ⊥
    cons_nil h hs e = cc

    -- where no node is listed, the forest is as it was, so that it has no flag if it had none
    calm_same : (p q : Option Handle) (f g : Forest RenderObject) → Stands (node_at mid) p f → Stands (node_at old) q g → tops f ≡ tops g → has_listed hs f ≡ false → IsCalm g → IsCalm f
    calm_same p q none g stands was same unlisted calm = tt
    calm_same p q (tree h o below rest) none stands was same unlisted calm = absurd (cons_nil h (tops rest) same)
    calm_same p q (tree h o below rest) (tree k v inside others) stands was same unlisted calm =
        let e = head_is h k (tops rest) (tops others) same in
        let node : TreeNode RenderObject = record { parent = p; children = tops below; value = o } in
        let at_old : node_at old h ≡ Some (record { parent = q; children = tops inside; value = v }) = ap (node_at old) e ∙ was.0 in
        let keeps = kept all h (record { parent = q; children = tops inside; value = v }) node at_old stands.0 in
        let mine = or_left (listed h hs) _ unlisted in
        let more = or_right (listed h hs) _ unlisted in (
          keeps.flag ∙ calm.0,
          calm_same (Some h) (Some k) below inside stands.1 was.1 (keeps.children (ap (λ b. also && b) mine ∙ and_none also)) (or_left (has_listed hs below) _ more) calm.1,
          calm_same p q rest others stands.2 was.2 (tail_is h k (tops rest) (tops others) same) (or_right (has_listed hs below) _ more) calm.2,
        )
      where
        and_none : (b : Bool) → (b && false) ≡ false
        and_none true = refl
        and_none false = refl

    marked_down : GoesDown IsMarked (node_at old)
    marked_down h o below rest marked = (marked.1, marked.2)

    module _ (before_tree : Forest RenderObject) (stood : Stands (node_at old) None before_tree) (marked : IsMarked before_tree) where
      pub marked_again : (pos : Above) (p : Option Handle) (f : Forest RenderObject) → Stands (node_at mid) p f → ((h : Handle) → In h f → IsSome (node_at old h) → In h before_tree)
          → IsMarked (swept also hs pos f)
      marked_again pos p none stands inside = tt
      marked_again pos p (tree h o below rest) stands inside = (
        (λ e.
            let node : TreeNode RenderObject = record { parent = p; children = tops below; value = o } in
            let mark = or_left o.paint_below _ e in
            let out = or_right o.paint_below _ e in
            let live = there_unmarked all h node stands.0 mark in
            let found = find_with IsMarked (node_at old) marked_down None before_tree h stood (inside h (count_here h o below rest) live) marked in
            let keeps = kept all h (record { parent = found.parent; children = tops found.kids; value = found.value }) node found.is stands.0 in
            let calm = found.holds.0 (sym keeps.mark ∙ mark) in
            let unlisted = or_left (has_listed hs below) _ out in
            calm_swept also hs (within paint_marks pos o) below unlisted
            (calm_same (Some h) (Some h) below found.kids stands.1 found.stands (keeps.children (or_right (has_listed hs below) _ out)) unlisted calm)),
        marked_again (within paint_marks pos o) (Some h) below stands.1 (λ k is. inside k (in_below k h o below rest is)),
        marked_again pos p rest stands.2 (λ k is. inside k (in_rest k h o below rest is)),
      )
