-- The render nodes of a first phase, before their marks and with them: what is known of outer ones.
use Rattle.std.proofs.Common.{◌≡◌, ℕ, Bool, true, false, ◌||◌, ◌&&◌, Option, Some, None, IfSome, option_map, List, [], ◌∷◌, ◌++◌, refl, sym, ap, ◌∙◌, subst, Decides}
use Rattle.std.proofs.lemmas.Bool.{or_parts, true≢false}
use Rattle.std.proofs.lemmas.List.{append-nil}
use Rattle.std.specs.Option.{option_to_list}
use Rattle.fx_geom.specs.declared.shapes.Size.{Size}
use Rattle.fx_handles.specs.declared.Handle.{Handle}
use Rattle.fx_handles.specs.Handle.{same}
use Rattle.fx_handles.specs.ArenaLaws.{same_Some}
use Rattle.node_tree.specs.Forest.{TreeNode, Forest, tops, Stands, append}
use Rattle.node_tree.specs.Forest.Forest.{none, tree}
use Rattle.node_tree.specs.Part.{is_named}
use Rattle.node_tree.specs.Plan.{entries, IsUpdated}
use Rattle.node_tree.specs.Tree.{Tree, Is, IsTree, node_at}
use Rattle.plain_tree.specs.declared.render.ParentData.{ParentData}
use Rattle.plain_tree.specs.Laws.{AllDiffer, render_numbers_of, render_numbers_in}
use Rattle.plain_tree.specs.Render.{Render, render, Renders, no_renders, more_renders}
use Rattle.tree_marks.specs.Marking.{Marking, Above, at_top, within}
use Rattle.tree_marks.specs.Marks.{listed, has_listed, some_climbs, sweep}
use Rattle.work_roles.specs.Place.{at_root}
use Rattle.work_sets.specs.Before.{Before, Frames}
use Rattle.work_sets.specs.Layout.{is_told_same}
use Rattle.layout_form.specs.Object.{Setting}
use Rattle.layout_walk.specs.Here.{HereAll}
use Rattle.layout_walk.specs.Node.{ask_in}
use Rattle.layout_walk.specs.Rules.{parts_of, is_list}
use Rattle.layout_owner.specs.Roots.{IsAskedAs, top_render}
use Rattle.layout_rules.specs.Nodes.{layout_node, layout_nodes}
use Rattle.kept_layouts.specs.Items.{all_without_items}
use Rattle.render_tree.specs.Marks.{layout_marks, paint_marks}
use Rattle.render_tree.specs.Object.{RenderObject, object_look}
use Rattle.render_tree.specs.Plain.{renders_of, root_tree}
use Rattle.render_tree.specs.Redraw.{Redraw, redrawn}
use Rattle.render_tree.specs.Tree.{object_at}
use Rattle.render_sync.specs.Numbering.{NumbersDiffer}
use Rattle.render_sync.specs.Renders.{AllNumbers}
use Rattle.screen_owner.proofs.Bringing.{renders_layout, renders_paint}
use Rattle.screen_owner.proofs.Showing.{root_forest}
use Rattle.build_walk.specs.Changing.{render_over}
use Rattle.build_owner.specs.Staying.{left_items}
use Rattle.counted_work.specs.Caused.{FramesAgree, IsNewUnlaid, NewAreUnlaid, LayoutsAreCaused}
use Rattle.counted_work.proofs.Differing.{differ_tree}
use Rattle.counted_work.proofs.Painted.{PaintsDiffer, swept_paints}
use Rattle.counted_work.proofs.Synced.{lone_root}
use Rattle.counted_work.proofs.Twins.{IsCarried, AreCarried}
use Rattle.counted_phases.specs.Framed.{OuterHaveFrames, OuterAsBefore}
use Rattle.counted_phases.specs.Outer.{UnlessList, AreOuter}
use Rattle.counted_phases.specs.Unreached.{AreOuterDiffering}
use Rattle.counted_phases.proofs.Redrawn.{one_framed, all_before, outer_before}
use Rattle.kept_phases.specs.Parts.{RedrawsPart}
use Rattle.frame_owner.specs.Working.{LaysLists}
use Rattle.counted_frames.proofs.Planned.{no_some, some_is, with_below, items_each, HoldLeft, hold_left}
use Rattle.counted_frames.proofs.Part.{part_root, front_stands, made_node, made_object, items_stored, made_differ}
use Rattle.counted_frames.proofs.Outer.{are_outer, IsOuterNumber, ListsFree, lists_free, named_outer, outer_number}
use Rattle.counted_frames.proofs.Differs.{outer_differ, none_differ}

-- ---- marks of a part

pub swept_append : (m : Marking RenderObject) (also : Bool) (hs : List Handle) (p : Above) (f g : Forest RenderObject) → sweep m also hs p (append f g) ≡ append (sweep m also hs p f) (sweep m also hs p g)
swept_append m also hs p none g = refl
swept_append m also hs p (tree h v kids rest) g =
    let w = m.marked ((listed h hs || some_climbs m hs (within m p v) kids) && m.takes p.top v) (has_listed hs kids || (also && listed h hs)) v in
    ap (tree h w (sweep m also hs (within m p v) kids)) (swept_append m also hs p rest g)

pub swept_tops : (m : Marking RenderObject) (also : Bool) (hs : List Handle) (p : Above) (f : Forest RenderObject) → tops (sweep m also hs p f) ≡ tops f
swept_tops m also hs p none = refl
swept_tops m also hs p (tree h o kids rest) = ap (λ l. h ∷ l) (swept_tops m also hs p rest)

-- marks for painting are no matter of a layout
pub same_nodes : (f g : Forest RenderObject) → PaintsDiffer f g → layout_nodes f ≡ layout_nodes g
same_nodes none none d = refl
same_nodes none (tree k w below rest) d = absurd d
same_nodes (tree h v kids more) none d = absurd d
same_nodes (tree h v kids more) (tree k w below rest) d =
    λ i. tree (d.0 i) (ap layout_node (sym d.1.2) i) (same_nodes kids below d.2 i) (same_nodes more rest d.3 i)

-- ---- what a plan carries over

module _ (made : Tree RenderObject) where
  carried_one : (x k : Handle) (u : Redraw) (w : RenderObject) → x ≡ k → option_map (redrawn u) (object_at made x) ≡ Some w → (o : Option RenderObject) → object_at made x ≡ o → IsCarried (object_at made) k w
  carried_one x k u w e is None at = no_some w (sym (ap (option_map (redrawn u)) at) ∙ is)
  carried_one x k u w e is (Some v) at =
      let drawn : redrawn u v ≡ w = some_is (redrawn u v) w (sym (ap (option_map (redrawn u)) at) ∙ is) in
      record {
        stored = v;
        is = ap (object_at made) (sym e) ∙ at;
        number = ap (λ (o : RenderObject). o.number) (sym drawn);
        shown = ap (λ (o : RenderObject). o.shown) (sym drawn);
        flag = ap (λ (o : RenderObject). o.needs_layout) (sym drawn);
        scroll = ap (λ (o : RenderObject). o.scroll) (sym drawn);
        frame = ap (λ (o : RenderObject). o.frame) (sym drawn);
        plugged = ap (λ (o : RenderObject). o.plugged) (sym drawn);
        offset = ap (λ (o : RenderObject). o.offset) (sym drawn);
        paint = ap (λ (o : RenderObject). o.needs_paint) (sym drawn);
      }

  pub carried_all : (d : Forest Redraw) (g : Forest RenderObject) → IsUpdated redrawn (object_at made) d g → AreCarried (object_at made) g
  carried_all none none u = tt
  carried_all none (tree k w under rest) u = absurd u
  carried_all (tree x y kids more) none u = absurd u
  carried_all (tree x y kids more) (tree k w under rest) u = (carried_one x k y w u.0 u.1 (object_at made x) refl, carried_all kids under u.2, carried_all more rest u.3)

-- ---- the first phase

module _ (s : Setting) (view : Size) (old : Tree RenderObject) (top : Render) (lo ln : ℕ) (lists : LaysLists s view old lo ln)
    (whole_is : all_without_items (renders_of (root_tree lists.mid)) ≡ all_without_items (more_renders top no_renders)) where
  abbrev pub first : RedrawsPart old lists.mid
  first = lists.first

  abbrev made : Tree RenderObject
  made = first.made

  abbrev pub changed : List Handle
  changed = first.laid ++ first.lost

  abbrev pub claimed : Handle → Bool
  claimed = is_named (entries None lists.drawn)

  abbrev pub repainted : List Handle
  repainted = first.painted ++ first.lost

  abbrev pub laid_marks : Forest RenderObject → Forest RenderObject
  laid_marks f = sweep layout_marks true changed at_top f

  abbrev pub both_marks : Forest RenderObject → Forest RenderObject
  both_marks f = sweep paint_marks true repainted at_top (laid_marks f)

  is_old : IsTree old
  is_old = lists.before.tree

  pub differ : NumbersDiffer made
  differ = made_differ old lists.mid first lists.differ

  -- the nodes with their marks, and those beside them
  pub mid_stands : Is lists.mid (append (both_marks first.nodes) (both_marks first.others))
  mid_stands =
      subst (Is lists.mid)
      (ap (sweep paint_marks true repainted at_top) (swept_append layout_marks true changed at_top first.nodes first.others) ∙ swept_append paint_marks true repainted at_top (laid_marks first.nodes) (laid_marks first.others))
      (first.paints.plain (laid_marks (append first.nodes first.others)) (first.layouts.plain (append first.nodes first.others) first.is))

  pub mid_is : root_tree lists.mid ≡ both_marks first.nodes
  mid_is =
      part_root lists.mid (both_marks first.nodes) (both_marks first.others) mid_stands
      (ap option_to_list (first.paints.root ∙ first.layouts.root) ∙ (first.root ∙ sym (swept_tops paint_marks true repainted at_top (laid_marks first.nodes) ∙ swept_tops layout_marks true changed at_top first.nodes)))

  both_renders : (f : Forest RenderObject) → renders_of (both_marks f) ≡ renders_of f
  both_renders f = renders_paint true repainted at_top (laid_marks f) ∙ renders_layout true changed at_top f

  pub outer_is : AreOuter first.nodes (more_renders top no_renders)
  outer_is = are_outer first.nodes (more_renders top no_renders) (ap all_without_items (sym (ap renders_of mid_is ∙ both_renders first.nodes)) ∙ whole_is)

  pub carried : AreCarried (object_at made) first.nodes
  carried = carried_all made first.updates first.nodes first.updated

  pub committed_stands : Stands (node_at first.committed) None first.nodes
  committed_stands = front_stands (node_at first.committed) None first.nodes first.others first.is.stands

  pub here : HereAll (parts_of s) (layout_nodes (laid_marks first.nodes))
  here = subst (HereAll (parts_of s)) (ap layout_nodes mid_is ∙ sym (same_nodes (laid_marks first.nodes) (both_marks first.nodes) (swept_paints true repainted at_top (laid_marks first.nodes)))) lists.good.here

  -- ---- the plan without items

  pub planned : IsUpdated redrawn (object_at made) (with_below (left_items made claimed) lists.drawn) first.nodes
  planned = subst (λ d. IsUpdated redrawn (object_at made) d first.nodes) (lists.items ∙ items_each made lists.drawn) first.updated

  pub left : HoldLeft made claimed first.nodes
  left = hold_left made claimed (items_stored old made first.grows is_old) lists.drawn first.nodes planned

  -- what is claimed has the number of an outer node
  claims : (k : Handle) (o : RenderObject) → object_at old k ≡ Some o → claimed k ≡ true → IsOuterNumber o.number (more_renders top no_renders)
  claims k o at is =
      outer_number (object_at made) k o first.nodes (more_renders top no_renders) carried outer_is (made_object old made first.grows is_old k o at)
      (named_outer (object_at made) (left_items made claimed) k lists.drawn first.nodes lists.bare planned is)

  pub free : AllDiffer (render_numbers_in (more_renders top no_renders)) → ListsFree old made claimed (more_renders top no_renders)
  free apart = lists_free old made claimed (more_renders top no_renders) apart claims (more_renders top no_renders) (λ n i. i)

  -- ---- frames and flags

  pub as_before : OuterAsBefore old first.nodes
  as_before = outer_before old first.nodes (all_before old made first.grows differ first.updates first.nodes first.updated)

  outer_frames : (frames : Frames) → FramesAgree frames old → (d : Forest Redraw) (g : Forest RenderObject) (rs : Renders) → IsUpdated redrawn (object_at made) d g → AreOuter g rs → AllNumbers (IsNewUnlaid frames old) rs → OuterHaveFrames frames g
  outer_frames frames agree none none rs u outer unlaid = tt
  outer_frames frames agree none (tree k w under rest) rs u outer unlaid = absurd u
  outer_frames frames agree (tree x y kids more) none rs u outer unlaid = absurd u
  outer_frames frames agree (tree x y kids more) (tree k w under rest) no_renders u outer unlaid = absurd outer
  outer_frames frames agree (tree x y kids more) (tree k w under rest) (more_renders (render number look told scroll count children) rs) u outer unlaid = (
    one_framed old made first.grows differ frames agree x y w u.1 (subst (IsNewUnlaid frames old) (sym outer.0.number) unlaid.0.0),
    by_list (is_list (object_look w)) outer.1 (λ o. outer_frames frames agree kids under children u.2 o unlaid.0.1),
    outer_frames frames agree more rest rs u.3 outer.2 unlaid.1,
  )
    where
      by_list : (b : Bool) → UnlessList b (AreOuter under children) → (AreOuter under children → OuterHaveFrames frames under) → UnlessList b (OuterHaveFrames frames under)
      by_list true o go = tt
      by_list false o go = go o

  pub frames_of : (frames : Frames) → FramesAgree frames old → NewAreUnlaid frames old top → OuterHaveFrames frames first.nodes
  frames_of frames agree unlaid = outer_frames frames agree first.updates first.nodes (more_renders top no_renders) first.updated outer_is (unlaid, tt)

  -- ---- the root

  pub root_alone : (k : Handle) (n : TreeNode RenderObject) → first.committed.root ≡ Some k → node_at first.committed k ≡ Some n → n.parent ≡ None
  root_alone k n root at = by_nodes first.nodes committed_stands (sym (ap option_to_list root) ∙ first.root)
    where
      same_top : (h j : Handle) (hs : List Handle) → h ∷ [] ≡ j ∷ hs → h ≡ j
      same_top h j hs e = cc

      no_top : {B : Type 0} (h : Handle) → h ∷ [] ≡ [] → B
      no_top h e = absurd (cc)

      by_nodes : (g : Forest RenderObject) → Stands (node_at first.committed) None g → k ∷ [] ≡ tops g → n.parent ≡ None
      by_nodes none stands e = no_top k e
      by_nodes (tree h o kids rest) stands e =
          ap (λ (m : TreeNode RenderObject). m.parent) (same_Some (sym at ∙ (ap (node_at first.committed) (same_top k h (tops rest) e) ∙ stands.0)))

  unflagged : (flag start : Bool) → (flag || (start && true)) ≡ false → (flag ≡ false) × (start ≡ false)
  unflagged true start e = absurd (true≢false e)
  unflagged false true e = absurd (true≢false e)
  unflagged false false e = (refl, refl)

  none_listed : (k : Handle) (xs ys : List Handle) → listed k (xs ++ ys) ≡ false → listed k xs ≡ false
  none_listed k [] ys e = refl
  none_listed k (x ∷ xs) ys e = by_or (same k x) (listed k xs) (listed k (xs ++ ys)) e (λ off. none_listed k xs ys off)
    where
      by_or : (a b c : Bool) → (a || c) ≡ false → (c ≡ false → b ≡ false) → (a || b) ≡ false
      by_or true b c e go = e
      by_or false b c e go = go e

  -- a root that is as it was keeps its frame
  pub asked_in : IsAskedAs view (root_tree old) → IsAskedAs view (laid_marks first.nodes)
  asked_in asks = by_nodes first.nodes refl carried
    where
      old_is : root_tree old ≡ is_old.0
      old_is = root_forest old is_old.0 lists.before.alone is_old.1

      some_top : (k : Handle) (r : Option Handle) → r ≡ Some k → option_to_list r ++ [] ≡ [] → ⊥
      some_top k None a b = no_some k a
      some_top k (Some r) a b = cc

      by_old : (f : Forest RenderObject) → Is old f → IsAskedAs view f → (k : Handle) (w : RenderObject) → old.root ≡ Some k → IsCarried (object_at made) k w → w.needs_layout ≡ false → IsAskedAs view (tree k w none none)
      by_old none is asked k w root carry flag = absurd (some_top k old.root root (ap (λ hs. option_to_list old.root ++ hs) (sym lists.before.alone) ∙ is.tops))
      by_old (tree h o kids rest) is asked k w root carry flag =
          let handle : h ≡ k = same_Some (sym (lone_root old.root h (tops rest) (ap (λ hs. option_to_list old.root ++ hs) (sym lists.before.alone) ∙ is.tops)).0 ∙ root) in
          let there = made_node old made first.grows is_old h (record { parent = None; children = tops kids; value = o }) is.stands.0 in
          let same : carry.stored ≡ o = some_is carry.stored o (sym carry.is ∙ (ap (object_at made) (sym handle) ∙ ap (option_map (λ (n : TreeNode RenderObject). n.value)) there)) in
          λ off.
          ap (λ fr. option_map ask_in fr) (carry.frame ∙ ap (λ (x : RenderObject). x.frame) same)
          ∙ asked (ap (λ (x : RenderObject). x.needs_layout) (sym same) ∙ (sym carry.flag ∙ flag))

      by_nodes : (g : Forest RenderObject) → first.nodes ≡ g → AreCarried (object_at made) g → IsAskedAs view (laid_marks g)
      by_nodes none e c = tt
      by_nodes (tree k w under rest) e c = λ flag.
          let parts = unflagged w.needs_layout (listed k changed || some_climbs layout_marks changed (within layout_marks at_top w) under) flag in
          let off = (or_parts (listed k changed) (some_climbs layout_marks changed (within layout_marks at_top w) under) parts.1).0 in
          let root : first.committed.root ≡ Some k = top_at (first.root ∙ ap tops e) in
          let same_root : made.root ≡ Some k = kept_root first.committed.root root (first.laid_anew.top) (none_listed k first.laid first.lost off) in
          by_old is_old.0 is_old.1 (subst (IsAskedAs view) old_is asks) k w (sym first.grows.root ∙ same_root) c.0 parts.0 parts.0
        where
          top_at : option_to_list first.committed.root ≡ k ∷ tops rest → first.committed.root ≡ Some k
          top_at e = by_root first.committed.root e
            where
              by_root : (r : Option Handle) → option_to_list r ≡ k ∷ tops rest → r ≡ Some k
              by_root None e = absurd (cc)
              by_root (Some r) e = cc

          kept_root : (r : Option Handle) → r ≡ Some k → IfSome r (λ h. listed h first.laid ≡ false → made.root ≡ Some h) → listed k first.laid ≡ false → made.root ≡ Some k
          kept_root None e h off = no_some k e
          kept_root (Some r) e h off = let same = some_is r k e in subst (λ x. made.root ≡ Some x) same (h (ap (λ x. listed x first.laid) same ∙ off))

  -- ---- what it marks differs

  module _ (before : Before) (told_same : (a b : ParentData) → Decides (is_told_same a b) (a ≡ b)) (caused : LayoutsAreCaused before old) (apart : AllDiffer (render_numbers_in (more_renders top no_renders))) where
    pub differs : AreOuterDiffering before old claimed changed at_root first.nodes (more_renders top no_renders)
    differs = by_old is_old.0 is_old.1 (caused.tree ∙ ap (λ f. top_render (renders_of f)) (root_forest old is_old.0 lists.before.alone is_old.1))
      where
        differ_old : AllDiffer (render_numbers_in (renders_of is_old.0))
        differ_old = subst (λ f. AllDiffer (render_numbers_in (renders_of f))) (root_forest old is_old.0 lists.before.alone is_old.1) (differ_tree old is_old lists.before.alone lists.before.differ)

        no_more : (h : Handle) (hs : List Handle) → h ∷ hs ≡ [] → ⊥
        no_more h hs e = cc

        by_old : (f : Forest RenderObject) → Is old f → before.tree ≡ top_render (renders_of f) → AreOuterDiffering before old claimed changed at_root first.nodes (more_renders top no_renders)
        by_old none is was = none_differ before old claimed changed was at_root first.nodes (more_renders top no_renders) outer_is
        by_old (tree h o kids (tree j v under rest)) is was =
            absurd (no_more j (tops rest) (lone_root old.root h (j ∷ tops rest) (ap (λ hs. option_to_list old.root ++ hs) (sym lists.before.alone) ∙ is.tops)).1)
        by_old (tree h o kids none) is was =
            let root0 : old.root ≡ Some h = (lone_root old.root h [] (ap (λ hs. option_to_list old.root ++ hs) (sym lists.before.alone) ∙ is.tops)).0 in
            let differ0 : AllDiffer (render_numbers_of (render_over o kids)) =
            subst AllDiffer (append-nil (render_numbers_of (render_over o kids)))
            (subst (λ f. AllDiffer (render_numbers_in (renders_of f))) (root_forest old (tree h o kids none) lists.before.alone is) (differ_tree old is_old lists.before.alone lists.before.differ)) in
            outer_differ before told_same old lists.mid first claimed is_old differ caused.frames root_alone h o kids is.stands root0 was differ0
            at_root None first.nodes (more_renders top no_renders) committed_stands carried left outer_is (free apart)
            (λ k w below_k n st at x same high becomes. becomes.1 (first.grows.root ∙ (root0 ∙ ap (λ y. Some y) (sym (x.high (high refl)) ∙ same))))
