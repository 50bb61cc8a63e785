-- Where a tree is brought to a build, the flags for layout are in the layout region.
use Rattle.std.proofs.Common.{◌≡◌, ◌≢◌, ℕ, ◌+◌, Bool, true, not, cond, ◌&&◌, ◌||◌, Option, Some, None, option_map, List, [], ◌∷◌, ◌++◌, refl, sym, ap, ◌∙◌, subst, arith, inl, inr, ◌⊎◌, Decides}
use Rattle.std.proofs.lemmas.List.{append-nil}
use Rattle.std.proofs.lemmas.Bool.{cases_Bool, and_parts, or_left, false≢true}
use Rattle.std.specs.Option.{option_to_list}
use Rattle.fx_handles.specs.declared.Handle.{Handle}
use Rattle.fx_handles.specs.Handle.{same, times, AreDistinct}
use Rattle.fx_handles.specs.HandleLaws.{same-ne, same-true, same_self, times-cons, times_here}
use Rattle.fx_handles.specs.ArenaLaws.{same_Some}
use Rattle.node_tree.specs.Forest.{TreeNode, Forest, tops, Stands, size, plain}
use Rattle.node_tree.specs.Forest.Forest.{none, tree}
use Rattle.node_tree.specs.Plan.{PlanEntry, entries, planned, entry_at, IsUpdated}
use Rattle.node_tree.specs.Tree.{Tree, Is, IsTree, node_at}
use Rattle.node_tree.proofs.ForestLemmas.{plain_is}
use Rattle.node_tree.proofs.PlanLemmas.{entry-some}
use Rattle.node_tree.proofs.TreeLemmas.{is_node}
use Rattle.widget_model.specs.Look.{Look}
use Rattle.plain_tree.specs.declared.laid.Frame.{Frame}
use Rattle.plain_tree.specs.declared.laid.Frame.TheVariants.{Boxed, Sliver}
use Rattle.plain_tree.specs.declared.render.ParentData.{ParentData}
use Rattle.plain_tree.specs.Laws.{AllDiffer, render_numbers_of, render_numbers_in}
use Rattle.plain_tree.specs.Render.{Render, Renders, no_renders, more_renders}
use Rattle.tree_marks.specs.Marking.{Above, at_top, is_boundary, within}
use Rattle.tree_marks.specs.Marks.{listed, has_node, sweep}
use Rattle.tree_marks.proofs.Closing.{either}
use Rattle.tree_marks.proofs.MarkSteps.{node_stands}
use Rattle.work_roles.specs.Place.{RegionPlace, at_root, below, is_relayout_boundary}
use Rattle.work_sets.specs.Before.{Before, Frames, bounds_in as laid_bounds}
use Rattle.work_sets.specs.InTree.{Standing, standing, standing_at, look_of}
use Rattle.work_sets.specs.Layout.{is_told_same, is_firm_in, is_changed_since, idle_judge, frame_judge}
use Rattle.work_sets.specs.Members.{is_same_look}
use Rattle.work_sets.specs.Region.{Judge, is_reached, some_reaches_out}
use Rattle.work_sets.proofs.Found.{Finds, found}
use Rattle.layout_owner.specs.Roots.{top_render}
use Rattle.render_tree.specs.Changes.{ChangesLayout, SomeEntry, BecomesRoot}
use Rattle.render_tree.specs.Marks.{layout_marks, paint_marks, ends_in}
use Rattle.render_tree.specs.Object.{RenderObject, bounds_in, object_look}
use Rattle.render_tree.specs.Plain.{renders_of, root_tree}
use Rattle.render_tree.specs.Redraw.{Redraw, redrawn}
use Rattle.render_tree.specs.Tree.{object_at}
use Rattle.render_sync.specs.Numbering.{number_at}
use Rattle.render_sync.specs.Renders.{AllNumbers}
use Rattle.render_sync.specs.Synced.{Synced}
use Rattle.build_walk.specs.Changing.{TellsApart, ChangesForLayout, SomeChanges, object_number, render_over}
use Rattle.build_walk.proofs.Reporting.{reported_changes}
use Rattle.screen_owner.proofs.Bringing.{synced_is, synced_rooted}
use Rattle.screen_owner.proofs.Showing.{root_forest, one_handle}
use Rattle.counted_work.specs.Inside.{marks_above, RootFlagsInside, AreReached, FirmEndsMarks}
use Rattle.counted_work.specs.Caused.{FramesAgree, IsNewUnlaid, NewAreUnlaid, LayoutsAreCaused}
use Rattle.counted_work.specs.Windows.{WindowsStay, AllWindowsStay}
use Rattle.counted_work.proofs.Changed.{AreFramed, Stood, root_stood, changed_reached}
use Rattle.counted_work.proofs.Inside.{root_marks_inside}
use Rattle.counted_work.proofs.Painted.{swept_paints, root_paints_inside}
use Rattle.counted_work.proofs.Twins.{AreAt, IsCarried, AreCarried, TellNodes, root_twin, first_inside, root_was}

pub no_some : {A B : Type 0} (x : A) → None ≡ Some x → B
no_some x e = absurd (cc)

-- ---- firm boundaries end marks

firm_ends : (fr : Option Frame) (x : Option Standing) (p : RegionPlace) (look : Look) → is_firm_in (laid_bounds fr) x p look ≡ true → (not p.below_intrinsic && ends_in (bounds_in fr) p.top p.below_offstage look) ≡ true
firm_ends None x p look e = absurd (false≢true e)
firm_ends (Some (Sliver bounds geometry)) x p look e = absurd (false≢true e)
firm_ends (Some (Boxed bounds size)) None p look e = absurd (false≢true e)
firm_ends (Some (Boxed bounds size)) (Some was) p look e = (and_parts (is_relayout_boundary was.place (look_of was.node) bounds) (is_relayout_boundary p look bounds) e).1

pub framed_ends : (before : Before) (p : RegionPlace) (f : Forest RenderObject) → AreFramed before.frames f → FirmEndsMarks (frame_judge before) p f
framed_ends before p none framed = tt
framed_ends before p (tree h o kids rest) framed = (
  (λ e. subst (λ fr. is_boundary layout_marks (marks_above p) (record o { frame = fr }) ≡ true) (sym framed.0) (firm_ends (before.frames o.number) (standing before.tree o.number) p (object_look o) e)),
  framed_ends before (below p (object_look o)) kids framed.1,
  framed_ends before p rest framed.2,
)

-- ---- the entries of a plan

pub some_entry : (P : PlanEntry Redraw → Type 0) (es : List (PlanEntry Redraw)) → AreDistinct (planned es) → SomeEntry P es → (e : PlanEntry Redraw) × (entry_at es e.at ≡ Some e) × P e
some_entry P [] once s = absurd s
some_entry P (x ∷ xs) once (inl here) = (x, ap (λ b. cond b (Some x) (entry_at xs x.at)) (same_self x.at), here)
some_entry P (x ∷ xs) once (inr later) =
    let there = some_entry P xs (λ k. omega (arith, once k, times-cons k x.at (planned xs))) later in
    let among = entry-some xs there.0.at there.0 there.1 in
    let apart : there.0.at ≢ x.at = λ d. absurd (
    let one : times there.0.at (x.at ∷ planned xs) ≡ times there.0.at (there.0.at ∷ planned xs) = ap (λ y. times there.0.at (y ∷ planned xs)) (sym d) in
    omega (arith, once there.0.at, times_here there.0.at (planned xs), among.1, one)) in
    (there.0, ap (λ b. cond b (Some x) (entry_at xs there.0.at)) (same-ne there.0.at x.at apart) ∙ there.1, there.2)

pub entry_some : (P : PlanEntry Redraw → Type 0) (es : List (PlanEntry Redraw)) (k : Handle) (e : PlanEntry Redraw) → entry_at es k ≡ Some e → P e → SomeEntry P es
entry_some P [] k e is p = no_some e is
entry_some P (x ∷ xs) k e is p = elim (cases_Bool (same k x.at)) [
  | inl s ↦ inl (subst P (same_Some (sym is ∙ ap (λ b. cond b (Some x) (entry_at xs k)) s)) p)
  | inr s ↦ inr (entry_some P xs k e (sym (ap (λ b. cond b (Some x) (entry_at xs k)) s) ∙ is) p)
]

-- ---- nodes that stand once

pub one_under : (at : Handle → Option (TreeNode RenderObject)) (q : Option Handle) (f g : Forest RenderObject) → Stands at q f → Stands at q g → tops f ≡ tops g → f ≡ g
one_under at q f g one two e =
    let n : ℕ = size f + size g in
    sym (plain_is at q f n one (omega arith)) ∙ (ap (plain n at) e ∙ plain_is at q g n two (omega arith))

pub lone_root : (r : Option Handle) (h : Handle) (hs : List Handle) → option_to_list r ++ [] ≡ h ∷ hs → (r ≡ Some h) × (hs ≡ [])
lone_root None h hs e = absurd (cc)
lone_root (Some r) h hs e = let both = one_handle r h hs e in (ap (λ x. Some x) both.0, both.1)

-- a node of a forest whose nodes have the frames that their numbers had
pub node_framed : (frames : Frames) (at : Handle → Option (TreeNode RenderObject)) (q : Option Handle) (f : Forest RenderObject) (k : Handle) (n : TreeNode RenderObject) → Stands at q f → AreFramed frames f → at k ≡ Some n → has_node k f ≡ true
    → n.value.frame ≡ frames n.value.number
node_framed frames at q none k n s framed is there = absurd (false≢true there)
node_framed frames at q (tree h v kids rest) k n s framed is there = elim (either (same h k) (has_node k kids || has_node k rest) there) [
  | inl here ↦
      let value : v ≡ n.value = ap (λ (m : TreeNode RenderObject). m.value) (same_Some (sym s.0 ∙ (ap at (same-true h k here) ∙ is))) in
      ap (λ (x : RenderObject). x.frame) (sym value) ∙ (framed.0 ∙ ap frames (ap (λ (x : RenderObject). x.number) value))
  | inr later ↦ elim (either (has_node k kids) (has_node k rest) later) [
    | inl b ↦ node_framed frames at (Some h) kids k n s.1 framed.1 is b
    | inr b ↦ node_framed frames at q rest k n s.2 framed.2 is b
  ]
]

module _ (old new : Tree RenderObject) (top : Render) (synced : Synced old new top) where
  abbrev made : Tree RenderObject
  made = synced.made

  pub apart : TellsApart (object_number made)
  apart = λ h k n a b. synced.differ n h k a b

  pub tell : TellNodes (object_at made)
  tell h k v w at_h at_k number =
      let handle : h ≡ k = synced.differ v.number h k (ap (option_map (λ (o : RenderObject). o.number)) at_h) (ap (option_map (λ (o : RenderObject). o.number)) at_k ∙ ap (λ n. Some n) (sym number)) in
      same_Some (sym at_h ∙ (ap (object_at made) handle ∙ at_k))

  pub made_node : (k : Handle) (n : TreeNode RenderObject) → node_at old k ≡ Some n → node_at made k ≡ Some n
  made_node k n e = synced.grows.keeps k (is_node (node_at old k) n e) ∙ e

  pub made_stands : (q : Option Handle) (f : Forest RenderObject) → Stands (node_at old) q f → Stands (node_at made) q f
  made_stands q none s = tt
  made_stands q (tree h o kids rest) s = (made_node h (record { parent = q; children = tops kids; value = o }) s.0, made_stands (Some h) kids s.1, made_stands q rest s.2)

  stored_all : (q : Option Handle) (f : Forest RenderObject) → Stands (node_at made) q f → AreAt (object_at made) f
  stored_all q none s = tt
  stored_all q (tree h o kids rest) s = (ap (option_map (λ (n : TreeNode RenderObject). n.value)) s.0, stored_all (Some h) kids s.1, stored_all q rest s.2)

  carried_one : (x k : Handle) (u : Redraw) (w : RenderObject) → x ≡ k → option_map (redrawn u) (object_at made x) ≡ Some w → (o : Option RenderObject) → object_at made x ≡ o → IsCarried (object_at made) k w
  carried_one x k u w e is None at = no_some w (sym (ap (option_map (redrawn u)) at) ∙ is)
  carried_one x k u w e is (Some v) at =
      let drawn : redrawn u v ≡ w = same_Some (sym (ap (option_map (redrawn u)) at) ∙ is) in
      record {
        stored = v;
        is = ap (object_at made) (sym e) ∙ at;
        number = ap (λ (o : RenderObject). o.number) (sym drawn);
        shown = ap (λ (o : RenderObject). o.shown) (sym drawn);
        flag = ap (λ (o : RenderObject). o.needs_layout) (sym drawn);
        scroll = ap (λ (o : RenderObject). o.scroll) (sym drawn);
        frame = ap (λ (o : RenderObject). o.frame) (sym drawn);
        plugged = ap (λ (o : RenderObject). o.plugged) (sym drawn);
        offset = ap (λ (o : RenderObject). o.offset) (sym drawn);
        paint = ap (λ (o : RenderObject). o.needs_paint) (sym drawn);
      }

  pub carried_all : (d : Forest Redraw) (g : Forest RenderObject) → IsUpdated redrawn (object_at made) d g → AreCarried (object_at made) g
  carried_all none none u = tt
  carried_all none (tree k w under rest) u = absurd u
  carried_all (tree x y kids more) none u = absurd u
  carried_all (tree x y kids more) (tree k w under rest) u = (carried_one x k y w u.0 u.1 (object_at made x) refl, carried_all kids under u.2, carried_all more rest u.3)

  -- ---- frames

  module _ (frames : Frames) (agree : FramesAgree frames old) where
    framed_one : (k : Handle) (w : RenderObject) → IsCarried (object_at made) k w → IsNewUnlaid frames old w.number → (x : Option (TreeNode RenderObject)) → node_at old k ≡ x → w.frame ≡ frames w.number
    framed_one k w carried unlaid (Some n) e =
        let value : carried.stored ≡ n.value = same_Some (sym carried.is ∙ ap (option_map (λ (m : TreeNode RenderObject). m.value)) (made_node k n e)) in
        carried.frame ∙ (ap (λ (o : RenderObject). o.frame) value ∙ (agree k n.value (ap (option_map (λ (m : TreeNode RenderObject). m.value)) e)
        ∙ ap frames (ap (λ (o : RenderObject). o.number) (sym value) ∙ sym carried.number)))
    framed_one k w carried unlaid None e = by_made (node_at made k) refl
      where
        nobody : (j : Handle) → number_at old j ≡ Some w.number → ⊥
        nobody j is = by_old (node_at old j) refl
          where
            by_old : (x : Option (TreeNode RenderObject)) → node_at old j ≡ x → ⊥
            by_old None f = no_some w.number (sym (ap (λ y. option_map (λ (o : RenderObject). o.number) (option_map (λ (m : TreeNode RenderObject). m.value) y)) f) ∙ is)
            by_old (Some n) f =
                let there : number_at made j ≡ Some w.number =
                ap (λ y. option_map (λ (o : RenderObject). o.number) (option_map (λ (m : TreeNode RenderObject). m.value) y)) (made_node j n f)
                ∙ (sym (ap (λ y. option_map (λ (o : RenderObject). o.number) (option_map (λ (m : TreeNode RenderObject). m.value) y)) f) ∙ is) in
                let same_handle : j ≡ k = synced.differ w.number j k there (ap (option_map (λ (o : RenderObject). o.number)) carried.is ∙ ap (λ n. Some n) (sym carried.number)) in
                no_some n (sym e ∙ (ap (node_at old) (sym same_handle) ∙ f))

        by_made : (y : Option (TreeNode RenderObject)) → node_at made k ≡ y → w.frame ≡ frames w.number
        by_made None f = no_some carried.stored (sym (ap (option_map (λ (m : TreeNode RenderObject). m.value)) f) ∙ carried.is)
        by_made (Some n) f =
            let fresh = synced.grows.fresh k n e f in
            let value : carried.stored ≡ n.value = same_Some (sym carried.is ∙ ap (option_map (λ (m : TreeNode RenderObject). m.value)) f) in
            carried.frame ∙ (ap (λ (o : RenderObject). o.frame) (value ∙ ap (λ (m : TreeNode RenderObject). m.value) fresh.2) ∙ sym (unlaid nobody))

    framed_all : (g : Forest RenderObject) → AreCarried (object_at made) g → AllNumbers (IsNewUnlaid frames old) (renders_of g) → AreFramed frames g
    framed_all none c u = tt
    framed_all (tree k w under rest) c u = (framed_one k w c.0 u.0.0 (node_at old k) refl, framed_all under c.1 u.0.1, framed_all rest c.2 u.1)

  -- ---- what the plan changes

  changes_at : (q : Option Handle) (g : Forest RenderObject) (k : Handle) (w : RenderObject) (under : Forest RenderObject) (r : Option Handle) → Stands (node_at synced.committed) q g
      → node_at synced.committed k ≡ Some (record { parent = r; children = tops under; value = w }) → Stands (node_at synced.committed) (Some k) under → SomeChanges made k g → ChangesForLayout made k w under
  changes_at q none k w under r stands at beneath s = absurd s
  changes_at q (tree j v kids rest) k w under r stands at beneath (inl here) =
      let node : Option Handle → List Handle → RenderObject → TreeNode RenderObject = λ a l x. record { parent = a; children = l; value = x } in
      let same_node : node q (tops kids) v ≡ node r (tops under) w = same_Some (sym stands.0 ∙ (ap (node_at synced.committed) here.0 ∙ at)) in
      let same_kids : kids ≡ under = one_under (node_at synced.committed) (Some k) kids under (subst (λ x. Stands (node_at synced.committed) (Some x) kids) here.0 stands.1) beneath
      (ap (λ (n : TreeNode RenderObject). n.children) same_node) in
      subst (λ f. ChangesForLayout made k w f) same_kids (subst (λ x. ChangesForLayout made k x kids) (ap (λ (n : TreeNode RenderObject). n.value) same_node)
      (subst (λ x. ChangesForLayout made x v kids) here.0 here.1))
  changes_at q (tree j v kids rest) k w under r stands at beneath (inr (inl below_j)) = changes_at (Some j) kids k w under r stands.1 at beneath below_j
  changes_at q (tree j v kids rest) k w under r stands at beneath (inr (inr later)) = changes_at q rest k w under r stands.2 at beneath later

  caused : (k : Handle) (w : RenderObject) (under : Forest RenderObject) (r : Option Handle) → node_at synced.committed k ≡ Some (record { parent = r; children = tops under; value = w })
      → Stands (node_at synced.committed) (Some k) under → listed k synced.laid ≡ true → ChangesForLayout made k w under ⊎ BecomesRoot made (Some synced.root) k
  caused k w under r at beneath is = elim (synced.laid_anew.caused k is) [
    | inl s ↦
        let one = some_entry (ChangesLayout made k) synced.plan synced.is_plan.once s in
        let there = entry_some (ChangesLayout made k) (entries None synced.updates) one.0.at one.0 (sym (synced.is_plan.entry one.0.at) ∙ one.1) one.2 in
        inl (changes_at None synced.nodes k w under r synced.is.stands at beneath (reported_changes made k synced.updates synced.nodes synced.updated there))
    | inr b ↦ inr b
  ]

  -- ---- the root

  -- the root has nothing above it
  abbrev pub RootAlone : Type 0
  RootAlone = (n : TreeNode RenderObject) → node_at synced.committed synced.root ≡ Some n → n.parent ≡ None

  pub root_handle : (k : Handle) (w : RenderObject) (under : Forest RenderObject) → synced.nodes ≡ tree k w under none → synced.root ≡ k
  root_handle k w under e =
      sym (one_handle k synced.root synced.committed.inactive
      (sym (ap tops e) ∙ (sym synced.is.tops ∙ ap (λ (o : Option Handle). option_to_list o ++ synced.committed.inactive) synced.at_root))).0

  pub root_alone : (k : Handle) (w : RenderObject) (under : Forest RenderObject) → synced.nodes ≡ tree k w under none → RootAlone
  root_alone k w under e n at =
      let stands : Stands (node_at synced.committed) None (tree k w under none) = subst (Stands (node_at synced.committed) None) e synced.is.stands in
      ap (λ (m : TreeNode RenderObject). m.parent) (same_Some (sym at ∙ (ap (node_at synced.committed) (root_handle k w under e) ∙ stands.0)))

  -- ---- frames of the whole tree

  layout_framed : (frames : Frames) (also : Bool) (hs : List Handle) (p : Above) (f : Forest RenderObject) → AreFramed frames f → AreFramed frames (sweep layout_marks also hs p f)
  layout_framed frames also hs p none framed = tt
  layout_framed frames also hs p (tree k v kids rest) framed = (framed.0, layout_framed frames also hs (within layout_marks p v) kids framed.1, layout_framed frames also hs p rest framed.2)

  paint_framed : (frames : Frames) (also : Bool) (hs : List Handle) (p : Above) (f : Forest RenderObject) → AreFramed frames f → AreFramed frames (sweep paint_marks also hs p f)
  paint_framed frames also hs p none framed = tt
  paint_framed frames also hs p (tree k v kids rest) framed = (framed.0, paint_framed frames also hs (within paint_marks p v) kids framed.1, paint_framed frames also hs p rest framed.2)

  pub synced_frames : (frames : Frames) → FramesAgree frames old → NewAreUnlaid frames old top → FramesAgree frames new
  synced_frames frames agree unlaid k o at = by_node (node_at new k) refl
    where
      swept : Forest RenderObject
      swept = sweep layout_marks true synced.laid at_top synced.nodes

      nodes_framed : AreFramed frames synced.nodes
      nodes_framed = framed_all frames agree synced.nodes (carried_all synced.updates synced.nodes synced.updated) (subst (AllNumbers (IsNewUnlaid frames old)) (sym synced.renders) (unlaid, tt))

      by_node : (x : Option (TreeNode RenderObject)) → node_at new k ≡ x → o.frame ≡ frames o.number
      by_node None e = no_some o (sym (ap (option_map (λ (n : TreeNode RenderObject). n.value)) e) ∙ at)
      by_node (Some n) e =
          let whole = synced_is old new top synced in
          let value : n.value ≡ o = same_Some (sym (ap (option_map (λ (m : TreeNode RenderObject). m.value)) e) ∙ at) in
          subst (λ (x : RenderObject). x.frame ≡ frames x.number) value
          (node_framed frames (node_at new) None (sweep paint_marks true synced.painted at_top swept) k n whole.stands
          (paint_framed frames true synced.painted at_top swept (layout_framed frames true synced.laid at_top synced.nodes nodes_framed)) e
          (node_stands new (sweep paint_marks true synced.painted at_top swept) k whole (is_node (node_at new k) n e)))

  module _ (before : Before) (told_same : (a b : ParentData) → Decides (is_told_same a b) (a ≡ b)) (look_same : (a b : Look) → Decides (is_same_look a b) (a ≡ b)) where
    abbrev now : Judge
    now = frame_judge before

    abbrev idle : Judge
    idle = idle_judge before

    -- ---- each listed node is reached

    -- what a plan changes is reached, wherever it stands
    abbrev Reaches : Type 0
    Reaches = (p : RegionPlace) (k : Handle) (v w : RenderObject) (under : Forest RenderObject) → object_at made k ≡ Some v → w.number ≡ v.number → w.scroll ≡ v.scroll → AreCarried (object_at made) under
        → AreFramed before.frames under → AllWindowsStay before (renders_of under) → ChangesForLayout made k w under → is_reached now p (render_over w under) ≡ true

    reach_below : Reaches → RootAlone → (p : RegionPlace) (j : Handle) (f : Forest RenderObject) → Stands (node_at synced.committed) (Some j) f → AreCarried (object_at made) f → AreFramed before.frames f → AllWindowsStay before (renders_of f)
        → AreReached now synced.laid p f
    reach_below reaches alone p j none s c framed windows = tt
    reach_below reaches alone p j (tree k w under rest) s c framed windows = (
      λ is. elim (caused k w under (Some j) s.0 s.1 is) [
        | inl changes ↦ reaches p k c.0.stored w under c.0.is c.0.number c.0.scroll c.1 framed.1 windows.0.1 changes
        | inr root ↦ no_some j (sym (alone (record { parent = Some j; children = tops under; value = w }) (ap (node_at synced.committed) (same_Some root.0) ∙ s.0)))
      ],
      reach_below reaches alone (below p (object_look w)) k under s.1 c.1 framed.1 windows.0.1,
      reach_below reaches alone p j rest s.2 c.2 framed.2 windows.1,
    )

    -- ---- a root's tree, where there was one

    module _ (h : Handle) (o : RenderObject) (kids : Forest RenderObject) (stands : Stands (node_at old) None (tree h o kids none)) (root : old.root ≡ Some h)
        (was : before.tree ≡ Some (render_over o kids)) (differ : AllDiffer (render_numbers_of (render_over o kids))) where
      stood : Stood told_same look_same made apart before
      stood wanted st e = root_stood made wanted h o kids st (made_stands None (tree h o kids none) stands) (sym (ap (λ t. standing t wanted) was) ∙ e)

      finds : Finds (standing before.tree) at_root (render_over o kids)
      finds = subst (λ t. Finds (standing t) at_root (render_over o kids)) (sym was) (found at_root (render_over o kids) differ)

      reaches : Reaches
      reaches p k v w under at number scroll carried framed windows changes =
          changed_reached told_same look_same made apart before stood h o kids (made_stands None (tree h o kids none) stands) was finds p k v w under at number scroll carried framed windows changes

      stored : AreAt (object_at made) (tree h o kids none)
      stored = stored_all None (tree h o kids none) (made_stands None (tree h o kids none) stands)

      new_root_changed : (k : Handle) (w : RenderObject) (under : Forest RenderObject) → IsCarried (object_at made) k w → (made.root ≡ Some k → ⊥) → now.is_changed at_root (render_over w under) ≡ true
      new_root_changed k w under carried other = elim (cases_Bool (now.is_changed at_root (render_over w under))) [
        | inl c ↦ c
        | inr c ↦
            let number : o.number ≡ w.number = root_was before look_same (object_at made) tell o kids w under (standing_at w.number at_root (render_over o kids)) refl
            (sym (ap (λ t. is_changed_since (standing t w.number) before at_root (render_over w under)) was) ∙ c) in
            let handle : h ≡ k = synced.differ o.number h k (ap (option_map (λ (x : RenderObject). x.number)) stored.0)
            (ap (option_map (λ (x : RenderObject). x.number)) carried.is ∙ ap (λ n. Some n) (sym carried.number ∙ sym number)) in
            absurd (other (synced.grows.root ∙ (root ∙ ap (λ x. Some x) handle)))
      ]

      reach_root : (k : Handle) (w : RenderObject) (under : Forest RenderObject) → synced.nodes ≡ tree k w under none → AreCarried (object_at made) (tree k w under none) → AreFramed before.frames (tree k w under none)
          → AllWindowsStay before (renders_of (tree k w under none)) → AreReached now synced.laid at_root (tree k w under none)
      reach_root k w under e c framed windows =
          let s : Stands (node_at synced.committed) None (tree k w under none) = subst (Stands (node_at synced.committed) None) e synced.is.stands in (
            λ is. elim (caused k w under None s.0 s.1 is) [
              | inl changes ↦ reaches at_root k c.0.stored w under c.0.is c.0.number c.0.scroll c.1 framed.1 windows.0.1 changes
              | inr root ↦ or_left (now.is_changed at_root (render_over w under)) (some_reaches_out now (below at_root (object_look w)) (renders_of under)) (new_root_changed k w under c.0 root.1)
            ],
            reach_below reaches (root_alone k w under e) (below at_root (object_look w)) k under s.1 c.1 framed.1 windows.0.1,
            tt,
          )

      twin_inside : (k : Handle) (w : RenderObject) (under : Forest RenderObject) → synced.nodes ≡ tree k w under none → FramesAgree before.frames old → RootFlagsInside idle (tree h o kids none)
          → AllNumbers (IsNewUnlaid before.frames old) (renders_of (tree k w under none)) → AllWindowsStay before (renders_of (tree k w under none))
          → RootFlagsInside now (sweep layout_marks true synced.laid at_top (tree k w under none))
      twin_inside k w under e agree flags unlaid windows =
          let carried : AreCarried (object_at made) (tree k w under none) = carried_all synced.updates (tree k w under none) (subst (IsUpdated redrawn (object_at made) synced.updates) e synced.updated) in
          let framed = framed_all before.frames agree (tree k w under none) carried unlaid in
          root_marks_inside now synced.laid true (tree k w under none) (reach_root k w under e carried framed windows)
          (framed_ends before at_root (tree k w under none) framed)
          (root_twin before look_same (object_at made) tell h k o kids w under was stored finds carried flags)

    -- ---- the whole

    abbrev swept_nodes : Forest RenderObject
    swept_nodes = sweep layout_marks true synced.laid at_top synced.nodes

    by_nodes : (g : Forest RenderObject) → renders_of g ≡ more_renders top no_renders → ((k : Handle) (w : RenderObject) (under : Forest RenderObject) → g ≡ tree k w under none → RootFlagsInside now (sweep layout_marks true synced.laid at_top (tree k w under none)))
        → RootFlagsInside now (sweep layout_marks true synced.laid at_top g)
    by_nodes none e go = tt
    by_nodes (tree k w under none) e go = go k w under refl
    by_nodes (tree k w under (tree j v below_v rest)) e go = absurd (more_one (render_over w under) (render_over v below_v) (renders_of rest) e)
      where
        more_one : (r s : Render) (rs : Renders) → more_renders r (more_renders s rs) ≡ more_renders top no_renders → ⊥
        more_one r s rs e = cc

    nodes_inside : (f : Forest RenderObject) → Is old f → old.inactive ≡ [] → before.tree ≡ top_render (renders_of f) → AllDiffer (render_numbers_in (renders_of f)) → FramesAgree before.frames old → RootFlagsInside idle f
        → NewAreUnlaid before.frames old top → WindowsStay before top → RootFlagsInside now swept_nodes
    nodes_inside none is alone was differ agree flags unlaid windows = first_inside before look_same swept_nodes was
    nodes_inside (tree h o kids (tree j v below_v rest)) is alone was differ agree flags unlaid windows =
        absurd (some_none (lone_root old.root h (j ∷ tops rest) (ap (λ hs. option_to_list old.root ++ hs) (sym alone) ∙ is.tops)).1)
      where
        some_none : j ∷ tops rest ≡ [] → ⊥
        some_none e = cc
    nodes_inside (tree h o kids none) is alone was differ agree flags unlaid windows =
        by_nodes synced.nodes synced.renders (λ k w under e.
        let renders : renders_of (tree k w under none) ≡ more_renders top no_renders = ap renders_of (sym e) ∙ synced.renders in
        twin_inside h o kids is.stands (lone_root old.root h [] (ap (λ hs. option_to_list old.root ++ hs) (sym alone) ∙ is.tops)).0 was (one_differ (render_numbers_of (render_over o kids)) differ)
        k w under e agree flags
        (subst (AllNumbers (IsNewUnlaid before.frames old)) (sym renders) (unlaid, tt))
        (subst (AllWindowsStay before) (sym renders) (windows, tt)))
      where
        one_differ : (xs : List ℕ) → AllDiffer (xs ++ []) → AllDiffer xs
        one_differ xs d = subst AllDiffer (append-nil xs) d

    pub synced_inside : IsTree old → old.inactive ≡ [] → AllDiffer (render_numbers_in (renders_of (root_tree old))) → LayoutsAreCaused before old → NewAreUnlaid before.frames old top → WindowsStay before top
        → RootFlagsInside now (root_tree new)
    synced_inside is alone differ caused_old unlaid windows =
        let root_is : root_tree old ≡ is.0 = root_forest old is.0 alone is.1 in
        let inside : RootFlagsInside now swept_nodes = nodes_inside is.0 is.1 alone (caused_old.tree ∙ ap (λ f. top_render (renders_of f)) root_is)
        (subst (λ f. AllDiffer (render_numbers_in (renders_of f))) root_is differ) caused_old.frames (subst (RootFlagsInside idle) root_is caused_old.flags) unlaid windows in
        subst (RootFlagsInside now) (sym (root_forest new (sweep paint_marks true synced.painted at_top swept_nodes) (synced_rooted old new top synced).alone (synced_is old new top synced)))
        (root_paints_inside now swept_nodes (sweep paint_marks true synced.painted at_top swept_nodes) (swept_paints true synced.painted at_top swept_nodes) inside)
