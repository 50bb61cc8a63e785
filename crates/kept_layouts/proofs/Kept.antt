-- After a commit and the marks of the nodes that it changes each node agrees with its children, where each did before; also where
-- what the delegates mean changes, and each node is marked that reads of it.
use Rattle.std.proofs.Common.{◌≡◌, ap, refl, sym, subst, ◌∙◌, ◌⊎◌, inl, inr, Bool, true, false, ◌||◌, Option, Some, None, option_map, List, []}
use Rattle.std.proofs.lemmas.Bool.{or_parts, false≢true, true≢false}
use Rattle.fx_handles.specs.declared.Handle.{Handle}
use Rattle.node_tree.specs.Forest.{TreeNode, Forest, tops, Stands}
use Rattle.node_tree.specs.Forest.Forest.{none, tree}
use Rattle.node_tree.specs.Tree.{Tree, node_at, Is}
use Rattle.node_tree.proofs.TreeLemmas.{is_node}
use Rattle.work_roles.specs.ForLayout.{for_layout}
use Rattle.work_roles.specs.WorkRole.{is_offstage, is_intrinsic}
use Rattle.plain_tree.specs.declared.laid.Frame.{Frame}
use Rattle.plain_tree.specs.Offsets.{rescrolled}
use Rattle.tree_marks.specs.Marking.{Above, at_top, within}
use Rattle.tree_marks.specs.Marks.{sweep}
use Rattle.tree_marks.specs.Closed.{any_mark, IsLinked, EndsTops, IsClosed}
use Rattle.tree_marks.specs.Commit.{stored_by, seen, IsCommit, Settled, IsSettled, has_mark, any_mark_stored, IsLinkedStore}
use Rattle.tree_marks.proofs.Closing.{IsClosed-swept}
use Rattle.tree_marks.proofs.MarkSteps.{node_stands}
use Rattle.tree_marks.proofs.Settling.{kept}
use Rattle.tree_marks.proofs.Stores.{AllNodes, spot}
use Rattle.tree_marks.proofs.Surviving.{stored-stands, IsSettled-sweep, IsLinked-settled}
use Rattle.render_tree.specs.MarkLaws.{layout_lawful}
use Rattle.render_tree.specs.Marks.{LayoutOwn, LayoutStored, layout_marks, layout_parts, layout_own, layout_told, layout_stored, is_shown}
use Rattle.render_tree.specs.Object.{RenderObject, object_look}
use Rattle.render_tree.proofs.LayoutParts.{layout_whole, layout_are_parts}
use Rattle.layout_form.specs.declared.asks.Ask.{Ask}
use Rattle.layout_form.specs.Object.{Setting}
use Rattle.layout_walk.specs.Node.{member, members, tellings, stored, facts_in, ask_in}
use Rattle.layout_walk.specs.Rule.{Lawful, RuleGift, asks_by, made_by}
use Rattle.layout_walk.specs.Full.{asks_at, made_at}
use Rattle.layout_walk.specs.Here.{StandAs, IsGiven, AreFirm, Unmarked, Here, HereAll}
use Rattle.layout_walk.specs.Rules.{parts_of}
use Rattle.layout_walk.proofs.Closing.{fixed_from}
use Rattle.layout_rules.specs.Nodes.{layout_node, layout_nodes}
use Rattle.kept_layouts.specs.Here.{HereAt, HereStore, ReadsSame}
use Rattle.kept_layouts.proofs.Extents.{BuiltAlike, liked_same}
use Rattle.kept_layouts.proofs.Reading.{made_same, role_same, blind_offstage, intrinsic_same, offstage_same}
use Rattle.kept_layouts.proofs.Seen.{SeenAlike, seen_alike, tellings_alike, stored_alike, stand_alike, built_alike}
use Rattle.kept_layouts.proofs.Firm.{FrameTest, stays, stays_ends, children_stay, children_firm}

-- ---- the store before

-- a node agrees with its children
abbrev HereOne : Setting → Above → Handle → RenderObject → Forest RenderObject → Type 0
HereOne s p k o kids = Here (parts_of s) (layout_node o) (layout_nodes kids) × HereAll (parts_of s) (layout_nodes kids)

here_nodes : (s : Setting) (at : Handle → Option (TreeNode RenderObject)) (p : Above) (f : Forest RenderObject) → HereAll (parts_of s) (layout_nodes f) → AllNodes layout_marks at (HereOne s) p f
here_nodes s at p none all = tt
here_nodes s at p (tree h o kids rest) all = ((all.0, all.1), here_nodes s at (within layout_marks p o) kids all.1, here_nodes s at p rest all.2)

pub here_store : (s : Setting) (t : Tree RenderObject) (f : Forest RenderObject) → Is t f → HereAll (parts_of s) (layout_nodes f) → HereStore s (node_at t)
here_store s t f is all = λ k n there.
    let x = spot layout_marks (node_at t) (HereOne s) None at_top f k n is.stands (here_nodes s (node_at t) at_top f all) there (node_stands t f k is (is_node (node_at t k) n there)) in
    record { kids = x.kids; list = x.list; stands = x.stands; here = x.holds.0; all = x.holds.1 }

-- ---- marks

pub any_marks : (f : Forest RenderObject) → Unmarked (layout_nodes f) → any_mark layout_marks f ≡ false
any_marks none un = refl
any_marks (tree h o kids rest) un =
    ap (λ b. (b || o.layout_below) || any_mark layout_marks rest) un.0 ∙ (ap (λ b. b || any_mark layout_marks rest) un.1 ∙ any_marks rest un.2)

pub not_marked : (f : Forest RenderObject) → any_mark layout_marks f ≡ false → Unmarked (layout_nodes f)
not_marked none e = tt
not_marked (tree h o kids rest) e =
    let one = or_parts (o.needs_layout || o.layout_below) (any_mark layout_marks rest) e in
    let two = or_parts o.needs_layout o.layout_below one.0 in
    (two.0, two.1, not_marked rest one.1)

marks_stored : (at : Handle → Option (TreeNode RenderObject)) (q : Option Handle) (f : Forest RenderObject) → Stands at q f
    → any_mark_stored layout_marks layout_parts at (tops f) ≡ any_mark layout_marks f
marks_stored at q none stands = refl
marks_stored at q (tree h o kids rest) stands =
    ap (λ x. has_mark layout_marks layout_parts x || any_mark_stored layout_marks layout_parts at (tops rest)) stands.0
    ∙ ap (λ b. (o.needs_layout || o.layout_below) || b) (marks_stored at q rest stands.2)

linked_store_here : (s : Setting) (at : Handle → Option (TreeNode RenderObject)) → HereStore s at → IsLinkedStore layout_marks layout_parts at
linked_store_here s at was k n there marks = by_case n.value.layout_below refl
  where
    here : HereAt s at k n
    here = was k n there

    by_case : (b : Bool) → n.value.layout_below ≡ b → n.value.layout_below ≡ true
    by_case true e = e
    by_case false e =
        absurd (false≢true
        (sym (any_marks here.kids (here.here.marked e))
        ∙ (sym (marks_stored at (Some k) here.kids here.stands) ∙ (ap (any_mark_stored layout_marks layout_parts at) (sym here.list) ∙ marks))))

-- ---- one node

-- each node without a flag reads the same of two settings
abbrev pub AllRead : Setting → Setting → Forest RenderObject → Type 0
AllRead s after none = Unit {0}
AllRead s after (tree k v kids rest) = (v.needs_layout ≡ false → ReadsSame s after (object_look v)) × AllRead s after kids × AllRead s after rest

module _ (s after : Setting) (law : Lawful (parts_of s)) (test : FrameTest) (at : Handle → Option (TreeNode RenderObject)) (was : HereStore s at) where
  facts_kept : (v w : RenderObject) → layout_stored v ≡ layout_stored w → facts_in (layout_node v) ≡ facts_in (layout_node w)
  facts_kept v w kept =
      ap (λ (x : LayoutStored). option_map (λ (frame : Frame). record { frame = frame; notes = x.notes; plugged = x.plugged; scrolled = x.scrolled }) x.frame) kept

  -- what is stored of it is what its rule makes
  given : (b : Bool) (v w : RenderObject) (kids below : Forest RenderObject) → layout_own v ≡ layout_own w → layout_stored v ≡ layout_stored w → SeenAlike b kids below
      → (is_intrinsic (object_look v) ≡ true → BuiltAlike (layout_nodes kids) (layout_nodes below)) → ReadsSame s after (object_look v)
      → IsGiven (parts_of s) (layout_node w) (layout_nodes below) (stored (layout_nodes below)) → IsGiven (parts_of after) (layout_node v) (layout_nodes kids) (stored (layout_nodes kids))
  given b v w kids below own kept same built reads is =
      let x = layout_node v in
      let y = layout_node w in
      let ask = is.ask in
      let looks : for_layout x.look ≡ for_layout y.look = ap (λ (o : LayoutOwn). o.look) own in
      let rule = made_same s after (member x) (member y) looks (ap (λ (o : LayoutOwn). o.count) own) reads in
      let liked : (parts_of s).liked y.look ask (members (layout_nodes below)) ≡ (parts_of after).liked x.look ask (members (layout_nodes kids)) =
      sym (liked_same after s (sym reads.cell) x.look y.look looks ask (layout_nodes kids) (layout_nodes below) (λ e. built (intrinsic_same x.look y.look looks e))) in
      let made : made_at (parts_of s) y ask (layout_nodes below) (stored (layout_nodes below)) ≡ made_at (parts_of after) x ask (layout_nodes kids) (stored (layout_nodes kids)) =
      rule.made y.scroll ask ((parts_of s).liked y.look ask (members (layout_nodes below))) (tellings (layout_nodes below)) (stored (layout_nodes below))
      ∙ (λ i. made_by (parts_of after) (member x) (sym (ap (λ (o : LayoutOwn). o.scroll) own) i) ask (liked i) (sym (tellings_alike b kids below same) i) (sym (stored_alike b kids below same) i)) in
      let asks : asks_at (parts_of s) y ask (layout_nodes below) (stored (layout_nodes below)) ≡ asks_at (parts_of after) x ask (layout_nodes kids) (stored (layout_nodes kids)) =
      rule.asks y.scroll ask ((parts_of s).liked y.look ask (members (layout_nodes below))) (tellings (layout_nodes below)) (stored (layout_nodes below))
      ∙ (λ i. asks_by (parts_of after) (member x) (sym (ap (λ (o : LayoutOwn). o.scroll) own) i) ask (liked i) (sym (tellings_alike b kids below same) i) (sym (stored_alike b kids below same) i)) in
      record {
        ask = ask;
        asked = ap (λ (z : LayoutStored). option_map ask_in z.frame) kept ∙ is.asked;
        gives = record {
          facts = facts_kept v w kept ∙ (is.gives.facts ∙ ap (λ (g : RuleGift). Some g.facts) made);
          scroll =
              (λ i. rescrolled (role_same x.look y.look looks i) (Some (sym made i).facts.scrolled) (ap (λ (o : LayoutOwn). o.scroll) own i))
              ∙ (is.gives.scroll ∙ sym (ap (λ (o : LayoutOwn). o.scroll) own));
          placed = stand_alike b (asks_at (parts_of after) x ask (layout_nodes kids) (stored (layout_nodes kids))) (made_at (parts_of after) x ask (layout_nodes kids) (stored (layout_nodes kids))).places kids below same
              (subst (λ (xs : List (Option Ask)). StandAs xs (made_at (parts_of after) x ask (layout_nodes kids) (stored (layout_nodes kids))).places (layout_nodes below)) asks
              (subst (λ (g : RuleGift). StandAs (asks_at (parts_of s) y ask (layout_nodes below) (stored (layout_nodes below))) g.places (layout_nodes below)) made is.gives.placed));
        };
      }

  -- ---- the children of a node that isn't among the changed ones

  parent_as : (v w : RenderObject) (below : Forest RenderObject) → layout_own v ≡ layout_own w → ((parts_of s).blind (object_look w) ≡ true) ⊎ AreFirm (parts_of s) (layout_nodes below)
      → (is_offstage (object_look v) ≡ true) ⊎ AreFirm (parts_of s) (layout_nodes below)
  parent_as v w below own (inl blind) =
      inl (offstage_same (object_look v) (object_look w) (ap (λ (o : LayoutOwn). o.look) own) ∙ (sym (blind_offstage (object_look w)) ∙ blind))
  parent_as v w below own (inr firm) = inr firm

  closed_commit : (changed : List Handle) (p : Above) (f : Forest RenderObject) → IsCommit layout_marks layout_parts changed at f → IsClosed layout_marks stays changed p f
  closed_commit changed p none commit = tt
  closed_commit changed p (tree k v kids rest) commit = (
    λ flag off.
        let c = kept layout_marks layout_parts at changed k v kids commit.0 flag in
        let here = was k c.node c.is in
        let build = c.keeps.build off in
        children_stay test s at changed (within layout_marks p v) (is_offstage (object_look v)) (Some k) kids here.kids here.stands
        (build.children ∙ (ap (stored_by (layout_told (is_offstage (object_look v))) at) here.list ∙ stored-stands at (layout_told (is_offstage (object_look v))) (Some k) here.kids here.stands))
        commit.1
        (parent_as v c.node.value here.kids build.own (here.here.closed (sym c.keeps.flag ∙ flag))),
    closed_commit changed (within layout_marks p v) kids commit.1,
    closed_commit changed p rest commit.2,
  )

  -- ---- all nodes, once all marks are set

  closed_case : (v w : RenderObject) (kids below : Forest RenderObject) (p : Above) (b : Bool) → is_offstage (object_look v) ≡ b → layout_own v ≡ layout_own w → SeenAlike b kids below
      → HereAll (parts_of s) (layout_nodes below) → ((parts_of s).blind (object_look w) ≡ true) ⊎ AreFirm (parts_of s) (layout_nodes below) → EndsTops layout_marks stays [] (within layout_marks p v) kids
      → ((parts_of after).blind (object_look v) ≡ true) ⊎ AreFirm (parts_of after) (layout_nodes kids)
  closed_case v w kids below p true e own same all (inl blind) ends = inl (blind_offstage (object_look v) ∙ e)
  closed_case v w kids below p true e own same all (inr firm) ends = inl (blind_offstage (object_look v) ∙ e)
  closed_case v w kids below p false e own same all (inl blind) ends =
      absurd (true≢false (sym (offstage_same (object_look v) (object_look w) (ap (λ (o : LayoutOwn). o.look) own) ∙ (sym (blind_offstage (object_look w)) ∙ blind)) ∙ e))
  closed_case v w kids below p false e own same all (inr firm) ends =
      inr (children_firm test s after (within layout_marks p v) kids below refl e same (fixed_from (parts_of s) law (layout_nodes below) all firm) ends)

  settled_here : (p : Above) (f : Forest RenderObject) → IsSettled layout_marks layout_parts at f → IsClosed layout_marks stays [] p f → IsLinked layout_marks f → AllRead s after f → HereAll (parts_of after) (layout_nodes f)
  settled_here p none settled closed linked reads = tt
  settled_here p (tree k v kids rest) settled closed linked reads = (
    record {
      consistent = λ flag.
          let x = settled.0 flag in
          let here = was k x.node x.is in
          given (is_offstage (object_look v)) v x.node.value kids here.kids x.build.own x.stored (seen_kids x here.kids here.list here.stands) (λ asks.
          built_alike (is_offstage (object_look v)) at (Some k) kids here.kids here.stands
          (x.build.children ∙ (ap (stored_by (layout_told (is_offstage (object_look v))) at) here.list ∙ stored-stands at (layout_told (is_offstage (object_look v))) (Some k) here.kids here.stands)) (x.asked asks))
          (reads.0 flag) (here.here.consistent x.no_flag);
      closed = λ flag.
          let x = settled.0 flag in
          let here = was k x.node x.is in
          closed_case v x.node.value kids here.kids p (is_offstage (object_look v)) refl x.build.own (seen_kids x here.kids here.list here.stands) here.all (here.here.closed x.no_flag) (closed.0 flag refl);
      marked = λ below. not_marked kids (by_marks (any_mark layout_marks kids) refl below);
    },
    settled_here (within layout_marks p v) kids settled.1 closed.1 linked.1 reads.1,
    settled_here p rest settled.2 closed.2 linked.2 reads.2,
  )
    where
      seen_kids : (x : Settled layout_marks layout_parts at k v kids) (below : Forest RenderObject) → x.node.children ≡ tops below → Stands at (Some k) below → SeenAlike (is_offstage (object_look v)) kids below
      seen_kids x below list stands =
          seen_alike (is_offstage (object_look v)) kids below
          (x.children ∙ (ap (stored_by (seen layout_marks layout_parts (is_offstage (object_look v))) at) list ∙ stored-stands at (seen layout_marks layout_parts (is_offstage (object_look v))) (Some k) below stands))

      by_marks : (b : Bool) → any_mark layout_marks kids ≡ b → v.layout_below ≡ false → any_mark layout_marks kids ≡ false
      by_marks false e below = e
      by_marks true e below = absurd (true≢false (sym (linked.0 refl e) ∙ below))

  pub commit_here : (changed : List Handle) (p : Above) (f : Forest RenderObject) → IsCommit layout_marks layout_parts changed at f
      → AllRead s after (sweep layout_marks true changed p f) → HereAll (parts_of after) (layout_nodes (sweep layout_marks true changed p f))
  commit_here changed p f commit reads =
      settled_here p (sweep layout_marks true changed p f)
      (IsSettled-sweep layout_marks layout_lawful layout_parts is_shown layout_are_parts at layout_whole true changed p f commit)
      (IsClosed-swept layout_marks layout_lawful stays stays_ends layout_whole true changed p f (closed_commit changed p f commit))
      (IsLinked-settled layout_marks layout_lawful layout_parts at (linked_store_here s at was) changed p f commit)
      reads
