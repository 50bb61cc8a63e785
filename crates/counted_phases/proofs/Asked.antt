-- What the plans of both phases mark for painting asks for it.
use Rattle.std.proofs.Common.{◌≡◌, ℕ, eqb, Bool, true, false, not, ◌&&◌, ◌||◌, Option, Some, None, option_map, List, [], ◌∷◌, ◌++◌, refl, sym, ap, ◌∙◌, subst, inl, inr, Decides, arith, cond}
use Rattle.std.proofs.lemmas.Bool.{cases_Bool, and_parts, or_parts, or_left, false≢true, true≢false}
use Rattle.std.specs.Cmp.{unsigned_Decides}
use Rattle.std.specs.List.{list_any}
use lib.Pointwise.{pointwise}
use Rattle.delegates.specs.Table.{Plug}
use Rattle.fx_handles.specs.declared.Handle.{Handle}
use Rattle.fx_handles.specs.Handle.{same, Among}
use Rattle.fx_handles.specs.HandleLaws.{same-true, same_self}
use Rattle.fx_handles.specs.ArenaLaws.{same_Some}
use Rattle.node_tree.specs.Forest.{TreeNode, Forest, tops, append, Stands}
use Rattle.node_tree.specs.Forest.Forest.{none, tree}
use Rattle.node_tree.specs.Part.{kept_by}
use Rattle.node_tree.specs.Plan.{PlanEntry, entries, entry_at, planned}
use Rattle.node_tree.specs.Tree.{Tree, IsTree, IsNode, node_at, parent_at, parent_of, children_at, children_of}
use Rattle.node_tree.proofs.ForestLemmas.{find}
use Rattle.node_tree.proofs.TreeLemmas.{child_of, parent_lists}
use Rattle.widget_model.specs.Look.{Look}
use Rattle.plain_tree.specs.Laid.{Laid}
use Rattle.plain_tree.specs.Render.{Render}
use Rattle.tree_marks.specs.Marks.{listed}
use Rattle.work_roles.specs.Place.{RegionPlace, at_root, below}
use Rattle.work_sets.specs.Before.{Before, frame_in, has_touched_delegate}
use Rattle.work_sets.specs.InTree.{Standing, standing}
use Rattle.work_sets.specs.Members.{is_same_look}
use Rattle.work_sets.specs.Paint.{Asks, Shows, asks_paint, changes_painting, differs_since, is_moved, is_other_frame, is_same_for_paint, numbers_below}
use Rattle.layout_rules.specs.Painting.{KeepsRest}
use Rattle.render_tree.specs.Changes.{EachEntry}
use Rattle.render_tree.specs.Marks.{layout_marks, paint_marks}
use Rattle.render_tree.specs.Object.{RenderObject, object_look}
use Rattle.render_tree.specs.Plain.{renders_of}
use Rattle.render_tree.specs.Redraw.{Redraw, redrawn}
use Rattle.render_tree.specs.Tree.{object_at}
use Rattle.build_walk.specs.Changing.{render_over, AreStored, ChangesForPaint, SomeLooks}
use Rattle.build_walk.proofs.Reporting.{reported_looks}
use Rattle.counted_work.specs.Painted.{AreAsking}
use Rattle.counted_work.specs.Shows.{PluggedAsBefore}
use Rattle.counted_work.proofs.Changed.{StoodWith, root_stood}
use Rattle.counted_work.proofs.Relaid.{same_lists}
use Rattle.counted_work.proofs.Repaint.{quiet_node}
use Rattle.counted_work.proofs.Twins.{root_number}
use Rattle.counted_phases.specs.Paints.{BuiltInPhases}
use Rattle.counted_phases.proofs.AsOne.{as_one, laid_once, one_handle, mid_on, ranged_on, same_children}
use Rattle.counted_phases.proofs.Climbing.{first_or_later, node_of, object_live, marks_list, listed_either}
use Rattle.counted_phases.proofs.Middle.{moving, moving_moves}
use Rattle.counted_phases.proofs.Stages.{none_some, first_marks, grown_node, relaid_from, brought_from, tree_mid}

value_of : (t : Tree RenderObject) (k : Handle) (n : TreeNode RenderObject) → node_at t k ≡ Some n → object_at t k ≡ Some n.value
value_of t k n e = ap (option_map (λ (m : TreeNode RenderObject). m.value)) e

stands_front : (at : Handle → Option (TreeNode RenderObject)) (p : Option Handle) (f g : Forest RenderObject) → Stands at p (append f g) → Stands at p f
stands_front at p none g s = tt
stands_front at p (tree h o kids rest) g s = (s.0, s.1, stands_front at p rest g s.2)

-- ---- what stands below a node

are_stored : (t : Tree RenderObject) (q : Option Handle) (f : Forest RenderObject) → Stands (node_at t) q f → AreStored t f
are_stored t q none s = tt
are_stored t q (tree h o kids rest) s = (value_of t h (record { parent = q; children = tops kids; value = o }) s.0, are_stored t q rest s.2)

-- where a tree has it
pub record HasBelow (t : Tree RenderObject) (k : Handle) : Type 0 where
  pub under : Forest RenderObject
  pub list : tops under ≡ children_at t k
  pub stored : AreStored t under

has_below : (t : Tree RenderObject) → IsTree t → (k : Handle) → IsNode t k → HasBelow t k
has_below t is k live =
    let found = find (node_at t) None is.0 k is.1.stands (is.1.whole k live) (is.1.distinct k) in
    record { under = found.kids; list = sym (ap children_of found.is); stored = are_stored t (Some k) found.kids found.stands }

-- and another one has what that has
stored_on : (t u : Tree RenderObject) → ((k : Handle) (o : RenderObject) → object_at t k ≡ Some o → object_at u k ≡ Some o) → (f : Forest RenderObject) → AreStored t f → AreStored u f
stored_on t u on none s = tt
stored_on t u on (tree h o kids rest) s = (on h o s.0, stored_on t u on rest s.1)

-- ---- a node of a plan that changes

pub record LooksChanged (made committed : Tree RenderObject) (k : Handle) : Type 0 where
  pub object : RenderObject
  pub under : Forest RenderObject
  pub is : object_at committed k ≡ Some object
  pub list : children_at committed k ≡ tops under
  pub changes : ChangesForPaint made k object under

looks_changed : (made committed : Tree RenderObject) (q : Option Handle) (f : Forest RenderObject) (k : Handle) → Stands (node_at committed) q f → SomeLooks made k f → LooksChanged made committed k
looks_changed made committed q none k s l = absurd l
looks_changed made committed q (tree j w under rest) k s (inl here) =
    subst (LooksChanged made committed) here.0 (record {
      object = w;
      under = under;
      is = value_of committed j (record { parent = q; children = tops under; value = w }) s.0;
      list = ap children_of s.0;
      changes = here.1;
    })
looks_changed made committed q (tree j w under rest) k s (inr (inl below_j)) = looks_changed made committed (Some j) under k s.1 below_j
looks_changed made committed q (tree j w under rest) k s (inr (inr later)) = looks_changed made committed q rest k s.2 later

-- a planned handle has an entry
pub record HasEntry (P : PlanEntry Redraw → Type 0) (es : List (PlanEntry Redraw)) (c : Handle) : Type 0 where
  pub entry : PlanEntry Redraw
  pub is : entry_at es c ≡ Some entry
  pub at : entry.at ≡ c
  pub each : P entry

entry_if : (b : Bool) (e : PlanEntry Redraw) (o : Option (PlanEntry Redraw)) → b ≡ true → cond b (Some e) o ≡ Some e
entry_if true e o is = refl
entry_if false e o is = absurd (false≢true is)

entry_unless : (b : Bool) (e : PlanEntry Redraw) (o : Option (PlanEntry Redraw)) → b ≡ false → cond b (Some e) o ≡ o
entry_unless true e o is = absurd (true≢false is)
entry_unless false e o is = refl

among_others : (c d : Handle) (ds : List Handle) → same c d ≡ false → Among c (d ∷ ds) → Among c ds
among_others c d ds other among = elim (first_or_later c d ds among) [
  | inl here ↦ absurd (true≢false (sym (ap (same c) (sym here) ∙ same_self c) ∙ other))
  | inr later ↦ later
]

has_entry : (P : PlanEntry Redraw → Type 0) (es : List (PlanEntry Redraw)) (c : Handle) → Among c (planned es) → EachEntry P es → HasEntry P es c
has_entry P [] c among each = absurd (omega arith)
has_entry P (e ∷ es) c among each = elim (cases_Bool (same c e.at)) [
  | inl a ↦ record { entry = e; is = entry_if (same c e.at) e (entry_at es c) a; at = sym (same-true c e.at a); each = each.0 }
  | inr x ↦
      let more = has_entry P es c (among_others c e.at (planned es) x among) each.1 in
      record { entry = more.entry; is = entry_unless (same c e.at) e (entry_at es c) x ∙ more.is; at = more.at; each = more.each }
]

module _ (look_same : (a b : Look) → Decides (is_same_look a b) (a ≡ b)) (before : Before) (last now_laid : Laid) (then now : List Plug) (plugs : PluggedAsBefore before.touched then now)
    (old brought laid : Tree RenderObject) (b : BuiltInPhases old brought laid) (keeps : KeepsRest brought laid) (is_old : IsTree old) (is_laid : IsTree laid)
    (h0 : Handle) (o0 : RenderObject) (kids0 : Forest RenderObject) (stands0 : Stands (node_at old) None (tree h0 o0 kids0 none)) (root0 : old.root ≡ Some h0) (was : before.tree ≡ Some (render_over o0 kids0)) where
  abbrev shows : Shows
  shows = record { before = Some last; now = now_laid }

  abbrev asks : Asks
  asks = asks_paint before shows

  found_old : (n : ℕ) (st : Standing) → standing before.tree n ≡ Some st → StoodWith old n st
  found_old n st e = root_stood old n h0 o0 kids0 st stands0 (sym (ap (λ t. standing t n) was) ∙ e)

  -- a node that wasn't there asks
  nowhere : (k : Handle) (w : RenderObject) → object_at laid k ≡ Some w → object_at old k ≡ None → (x : Option Standing) → standing before.tree w.number ≡ x → x ≡ None
  nowhere k w at gone None e = refl
  nowhere k w at gone (Some st) e =
      let found = found_old w.number st e in
      none_some found.object (sym gone ∙ (ap (object_at old) (sym (one_handle old brought laid b keeps found.handle k found.object w found.stored at found.number)) ∙ found.stored))

  pub new_asks : (q : RegionPlace) (k : Handle) (w : RenderObject) (under : Forest RenderObject) → object_at laid k ≡ Some w → object_at old k ≡ None → asks q (render_over w under) ≡ true
  new_asks q k w under at gone =
      or_left (differs_since (standing before.tree w.number) q (render_over w under)) _
      (ap (λ x. differs_since x q (render_over w under)) (nowhere k w at gone (standing before.tree w.number) refl))

  -- ---- a node that doesn't ask

  same_tops : (a : Option Handle) (f g : Forest RenderObject) → AreStored old f → Stands (node_at laid) a g → pointwise eqb (numbers_below (renders_of f)) (numbers_below (renders_of g)) ≡ true → tops f ≡ tops g
  same_tops a none none stored s e = refl
  same_tops a none (tree k w under rest) stored s e = absurd (false≢true e)
  same_tops a (tree h o kids more) none stored s e = absurd (false≢true e)
  same_tops a (tree h o kids more) (tree k w under rest) stored s e =
      let split = and_parts (eqb o.number w.number) (pointwise eqb (numbers_below (renders_of more)) (numbers_below (renders_of rest))) e in
      let handle : h ≡ k = one_handle old brought laid b keeps h k o w stored.0 (value_of laid k (record { parent = a; children = tops under; value = w }) s.0) ((unsigned_Decides o.number w.number).0 split.0) in
      let later = same_tops a more rest stored.1 s.2 split.1 in λ i. handle i ∷ later i

  -- it was there, with its kind and its children; and a root was the root
  pub record WasSo (q : RegionPlace) (k : Handle) (w : RenderObject) : Type 0 where
    pub object : RenderObject
    pub is : object_at old k ≡ Some object
    pub look : object_look object ≡ object_look w
    pub list : children_at old k ≡ children_at laid k
    pub top : q.top ≡ true → old.root ≡ Some k

  top_kept : (x q p : Bool) → (x || (q && not p)) ≡ false → q ≡ true → p ≡ true
  top_kept true q p e f = absurd (true≢false e)
  top_kept false true true e f = refl
  top_kept false true false e f = absurd (true≢false e)
  top_kept false false p e f = absurd (false≢true f)

  was_so : (q : RegionPlace) (k : Handle) (a : Option Handle) (w : RenderObject) (under : Forest RenderObject) → node_at laid k ≡ Some (record { parent = a; children = tops under; value = w }) → Stands (node_at laid) (Some k) under
      → asks q (render_over w under) ≡ false → WasSo q k w
  was_so q k a w under at s e = by_standing (standing before.tree w.number) refl
    where
      at_k : object_at laid k ≡ Some w
      at_k = value_of laid k (record { parent = a; children = tops under; value = w }) at

      since : differs_since (standing before.tree w.number) q (render_over w under) ≡ false
      since =
          (or_parts (differs_since (standing before.tree w.number) q (render_over w under))
          (has_touched_delegate before.touched (render_over w under) || (is_other_frame (frame_in now_laid w.number) (before.frames w.number) || (changes_painting shows w.number || list_any (is_moved shows) (numbers_below (renders_of under))))) e).0

      by_standing : (x : Option Standing) → standing before.tree w.number ≡ x → WasSo q k w
      by_standing None f = absurd (true≢false (sym (ap (λ x. differs_since x q (render_over w under)) f) ∙ since))
      by_standing (Some st) f =
          let found = found_old w.number st f in
          let handle : found.handle ≡ k = one_handle old brought laid b keeps found.handle k found.object w found.stored at_k found.number in
          let stood : standing before.tree w.number ≡ Some (record { place = st.place; node = render_over found.object found.under }) = f ∙ ap (λ (n : Render). Some (record { place = st.place; node = n })) found.node in
          let quiet = quiet_node before last now_laid look_same then now plugs old (as_one old brought laid b keeps) (laid_once old brought laid b keeps) [] st.place q found.object found.under w under stood e in
          record {
            object = found.object;
            is = ap (object_at old) (sym handle) ∙ found.stored;
            look = quiet.look;
            list =
                ap (children_at old) (sym handle) ∙ (sym found.stood.list
                ∙ (same_tops (Some k) found.under under found.stood.stored s quiet.numbers ∙ sym (ap children_of at)));
            top = λ high.
                let top : st.place.top ≡ true = top_kept (not (is_same_for_paint st.node (render_over w under))) q.top st.place.top (sym (ap (λ x. differs_since x q (render_over w under)) f) ∙ since) high in
                let number : o0.number ≡ w.number = root_number before look_same (λ h. None) (λ h j v x a. none_some v a) w.number o0 kids0 st (sym (ap (λ t. standing t w.number) was) ∙ f) top in
                let root : h0 ≡ k = one_handle old brought laid b keeps h0 k o0 w (value_of old h0 (record { parent = None; children = tops kids0; value = o0 }) stands0.0) at_k number in
                root0 ∙ ap Some root;
          }

  -- ---- such a node is marked by no plan

  module _ (q : RegionPlace) (k : Handle) (w : RenderObject) (at_k : object_at laid k ≡ Some w) (so : WasSo q k w) (rooted : laid.root ≡ Some k → q.top ≡ true) where
    -- between the phases
    middle : (m : RenderObject) × (object_at b.mid k ≡ Some m) × (object_look m ≡ object_look so.object) × (children_at b.mid k ≡ children_at old k)
    middle = let m = mid_on old brought laid b keeps k so.object so.is in (m.object, m.is, b.between.looks k so.object m.object w so.is m.is at_k so.look, b.between.lists k so.object w so.is at_k so.list)

    -- it was made, and committed, as it is there
    mid_marked : (c : RenderObject) → object_at b.first.committed k ≡ Some c → object_look c ≡ object_look middle.0
    mid_marked c at =
        let n = node_of b.first.committed k c at in
        let l = b.first.layouts.only k n.0 n.1 in
        let m = b.first.paints.only k (record n.0 { value = layout_marks.marked l.0 l.1 n.0.value }) l.2 in
        ap object_look (sym n.2) ∙ ap object_look (same_Some (sym (ap (option_map (λ (y : TreeNode RenderObject). y.value)) m.2) ∙ middle.1))

    mid_list : children_at b.first.committed k ≡ children_at b.mid k
    mid_list =
        marks_list old layout_marks (λ f x o. refl) (b.first.laid ++ b.first.lost) [] b.first.committed b.first.laid_marked b.first.layouts k
        ∙ marks_list old paint_marks (λ f x o. refl) (b.first.painted ++ b.first.lost) [] b.first.laid_marked b.mid b.first.paints k

    first_unmarked : listed k b.first.painted ≡ true → ⊥
    first_unmarked l = elim (b.first.painted_anew.caused k l) [
      | inl s ↦
          let c = looks_changed b.first.made b.first.committed None b.first.nodes k (stands_front (node_at b.first.committed) None b.first.nodes b.first.others b.first.is.stands)
          (reported_looks b.first.made k None b.first.updates b.first.nodes b.first.updated s) in
          let n = node_of old k so.object so.is in
          let made_k : object_at b.first.made k ≡ Some so.object = value_of b.first.made k n.0 (grown_node old b.first.made b.first.grows k n.0 n.1) ∙ ap Some n.2 in
          let under = has_below old is_old k (object_live old k so.object so.is) in
          let made_list : children_at b.first.made k ≡ children_at old k = ap children_of (grown_node old b.first.made b.first.grows k n.0 n.1) ∙ sym (ap children_of n.1) in
          let stored = stored_on old b.first.made (λ j o at_j. let i = node_of old j o at_j in value_of b.first.made j i.0 (grown_node old b.first.made b.first.grows j i.0 i.1) ∙ ap Some i.2) under.under under.stored in
          c.changes so.object under.under made_k (record { list = under.list ∙ sym made_list; stored = stored })
          (record { look = mid_marked c.object c.is ∙ middle.2; list = sym c.list ∙ (mid_list ∙ (middle.3 ∙ sym under.list)) })
      | inr root ↦
          let now_root : laid.root ≡ Some k = sym b.between.root ∙ (b.first.paints.root ∙ (b.first.layouts.root ∙ root.0)) in
          root.1 (b.first.grows.root ∙ so.top (rooted now_root))
    ]

    first_not_lost : listed k b.first.lost ≡ true → ⊥
    first_not_lost l =
        let lost = b.first.left k l in
        let child : Among lost.0 (children_at old k) = old_child lost.0 lost.2 in
        let child_mid : Among lost.0 (children_at b.mid k) = subst (Among lost.0) (sym middle.3) child in
        let parent_mid : parent_at b.mid lost.0 ≡ Some k = (child_of b.mid is_mid.0 k lost.0 is_mid.1 child_mid).parent in
        let e = has_entry (λ x. x.at ≡ lost.0 → x.parent ≡ Some k → ⊥) (entries None b.first.updates) lost.0 lost.1 lost.3 in
        e.each e.at (entry_parent lost.0 e.entry e.is parent_mid)
      where
        is_mid : IsTree b.mid
        is_mid = tree_mid old b.mid b.first

        old_child : (c : Handle) → parent_at b.first.made c ≡ Some k → Among c (children_at old k)
        old_child c e = by_node (node_at old c) refl
          where
            by_node : (x : Option (TreeNode RenderObject)) → node_at old c ≡ x → Among c (children_at old k)
            by_node (Some n) f = (parent_lists old is_old.0 c k is_old.1 (ap parent_of f ∙ (sym (ap parent_of (grown_node old b.first.made b.first.grows c n f)) ∙ e))).1
            by_node None f = absurd (by_made (node_at b.first.made c) refl)
              where
                by_made : (y : Option (TreeNode RenderObject)) → node_at b.first.made c ≡ y → ⊥
                by_made None g = none_some k (sym (ap parent_of g) ∙ e)
                by_made (Some n) g = none_some k (sym (ap (λ (z : TreeNode RenderObject). z.parent) (b.first.grows.fresh c n f g).2) ∙ (sym (ap parent_of g) ∙ e))

        marked_parent : (c : Handle) (n : TreeNode RenderObject) → node_at b.first.committed c ≡ Some n → parent_at b.mid c ≡ n.parent
        marked_parent c n e =
            let i = b.first.layouts.only c n e in
            ap parent_of (b.first.paints.only c (record n { value = layout_marks.marked i.0 i.1 n.value }) i.2).2

        entry_parent : (c : Handle) (x : PlanEntry Redraw) → entry_at (entries None b.first.updates) c ≡ Some x → parent_at b.mid c ≡ Some k → x.parent ≡ Some k
        entry_parent c x is e = by_made (node_at b.first.made c) refl
          where
            at_committed : node_at b.first.committed c ≡ kept_by redrawn (Some x) (entries None b.first.updates) c (node_at b.first.made c)
            at_committed = b.first.commits.nodes c ∙ ap (λ y. kept_by redrawn y (entries None b.first.updates) c (node_at b.first.made c)) is

            by_made : (y : Option (TreeNode RenderObject)) → node_at b.first.made c ≡ y → x.parent ≡ Some k
            by_made (Some n) g = sym (marked_parent c _ (at_committed ∙ ap (kept_by redrawn (Some x) (entries None b.first.updates) c) g)) ∙ e
            by_made None g = absurd (gone_parent (node_at b.mid c) refl)
              where
                gone : node_at b.first.committed c ≡ None
                gone = at_committed ∙ ap (kept_by redrawn (Some x) (entries None b.first.updates) c) g

                gone_parent : (z : Option (TreeNode RenderObject)) → node_at b.mid c ≡ z → ⊥
                gone_parent z f = none_some k (sym (ap parent_of (b.first.paints.absent c (b.first.layouts.absent c gone))) ∙ e)

    second_unmarked : listed k b.second.painted ≡ true → ⊥
    second_unmarked l = elim (b.second.painted_anew.caused k l) [
      | inl s ↦
          let c = looks_changed b.second.made b.second.committed None b.second.nodes k b.second.is.stands (reported_looks b.second.made k None b.second.updates b.second.nodes b.second.updated s) in
          let r = ranged_on old brought laid b keeps k middle.0 middle.1 in
          let n = node_of b.ranged k r.object r.is in
          let made_k : object_at b.second.made k ≡ Some r.object = value_of b.second.made k n.0 (grown_node b.ranged b.second.made b.second.grows k n.0 n.1) ∙ ap Some n.2 in
          let under = has_below b.ranged b.is_tree k (object_live b.ranged k r.object r.is) in
          let made_list : children_at b.second.made k ≡ children_at b.ranged k = ap children_of (grown_node b.ranged b.second.made b.second.grows k n.0 n.1) ∙ sym (ap children_of n.1) in
          let stored = stored_on b.ranged b.second.made (λ j o at_j. let i = node_of b.ranged j o at_j in value_of b.second.made j i.0 (grown_node b.ranged b.second.made b.second.grows j i.0 i.1) ∙ ap Some i.2) under.under under.stored in
          c.changes r.object under.under made_k (record { list = under.list ∙ sym made_list; stored = stored })
          (record {
            look = committed_look c.object c.is ∙ (sym so.look ∙ (sym middle.2 ∙ sym r.look));
            list = sym c.list ∙ (committed_list ∙ (sym so.list ∙ (sym middle.3 ∙ (same_children old brought laid b keeps k ∙ sym under.list))));
          })
      | inr root ↦ root.1 (b.second.grows.root ∙ (b.root ∙ (b.between.root ∙ (keeps.root ∙ (b.second.paints.root ∙ (b.second.layouts.root ∙ root.0))))))
    ]
      where
        committed_look : (c : RenderObject) → object_at b.second.committed k ≡ Some c → object_look c ≡ object_look w
        committed_look c at =
            let v = relaid_from brought laid keeps k w at_k in
            let d = brought_from b.ranged brought b.second k v.0 v.1 in
            ap object_look (same_Some (sym at ∙ d.1)) ∙ (ap object_look (sym d.2.4) ∙ ap object_look (sym v.2))

        committed_list : children_at b.second.committed k ≡ children_at laid k
        committed_list =
            marks_list old layout_marks (λ f x o. refl) b.second.laid [] b.second.committed b.second.laid_marked b.second.layouts k
            ∙ (marks_list old paint_marks (λ f x o. refl) b.second.painted [] b.second.laid_marked brought b.second.paints k ∙ same_lists brought laid keeps k)

  abbrev pub plan_marks : List Handle → List Handle
  plan_marks changed = (first_marks old b.mid b.first ++ b.second.painted) ++ moving old brought laid b keeps changed

  asks_marked : (changed : List Handle) (q : RegionPlace) (k : Handle) (a : Option Handle) (w : RenderObject) (under : Forest RenderObject) → node_at laid k ≡ Some (record { parent = a; children = tops under; value = w }) → Stands (node_at laid) (Some k) under
      → (laid.root ≡ Some k → q.top ≡ true) → listed k (plan_marks changed) ≡ true → asks q (render_over w under) ≡ true
  asks_marked changed q k a w under at s rooted l = elim (cases_Bool (asks q (render_over w under))) [
    | inl e ↦ e
    | inr e ↦
        let so = was_so q k a w under at s e in
        let at_k = value_of laid k (record { parent = a; children = tops under; value = w }) at in
        absurd (elim (listed_either k (first_marks old b.mid b.first ++ b.second.painted) (moving old brought laid b keeps changed) l) [
          | inl plans ↦ elim (listed_either k (first_marks old b.mid b.first) b.second.painted plans) [
            | inl first ↦ elim (listed_either k b.first.painted b.first.lost first) [
              | inl x ↦ first_unmarked q k w at_k so rooted x
              | inr x ↦ first_not_lost q k w at_k so rooted x
            ]
            | inr second ↦ second_unmarked q k w at_k so rooted second
          ]
          | inr moved ↦ moving_moves old brought laid b keeps changed k so.object w so.is at_k so.list moved
        ])
  ]

  -- below a node there is no root
  no_root : (r j : Handle) (x : TreeNode RenderObject) → laid.root ≡ Some r → node_at laid r ≡ Some x → x.parent ≡ None → (k : Handle) (y : TreeNode RenderObject) → node_at laid k ≡ Some y → y.parent ≡ Some j → laid.root ≡ Some k → ⊥
  no_root r j x root at_r top k y at_k under is =
      let same_handle : r ≡ k = same_Some (sym root ∙ is) in
      let same_node : x ≡ y = same_Some (sym at_r ∙ (ap (node_at laid) same_handle ∙ at_k)) in
      none_some j (sym top ∙ (ap (λ (z : TreeNode RenderObject). z.parent) same_node ∙ under))

  asking_below : (changed : List Handle) (r : Handle) (x : TreeNode RenderObject) → laid.root ≡ Some r → node_at laid r ≡ Some x → x.parent ≡ None → (q : RegionPlace) (j : Handle) (g : Forest RenderObject) → Stands (node_at laid) (Some j) g → AreAsking asks (plan_marks changed) q g
  asking_below changed r x root at_r top q j none s = tt
  asking_below changed r x root at_r top q j (tree k w under rest) s = (
    (λ l. asks_marked changed q k (Some j) w under s.0 s.1 (λ is. absurd (no_root r j x root at_r top k (record { parent = Some j; children = tops under; value = w }) s.0 refl is)) l),
    asking_below changed r x root at_r top (below q (object_look w)) k under s.1,
    asking_below changed r x root at_r top q j rest s.2,
  )

  pub asking_all : (changed : List Handle) (k : Handle) (w : RenderObject) (under : Forest RenderObject) → laid.root ≡ Some k → Stands (node_at laid) None (tree k w under none) → AreAsking asks (plan_marks changed) at_root (tree k w under none)
  asking_all changed k w under root s = (
    (λ l. asks_marked changed at_root k None w under s.0 s.1 (λ is. refl) l),
    asking_below changed k (record { parent = None; children = tops under; value = w }) root s.0 refl (below at_root (object_look w)) k under s.1,
    tt,
  )
