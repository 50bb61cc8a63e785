-- The tree that a frame in two phases would have brought in one step, before any layout.
use Rattle.std.proofs.Common.{◌≡◌, ℕ, ◌⊎◌, Option, Some, None, option_map, List, refl, sym, ap, ◌∙◌, inl, inr, Decides}
use Rattle.delegates.specs.Table.{Plug}
use Rattle.fx_handles.specs.declared.Handle.{Handle}
use Rattle.fx_handles.specs.ArenaLaws.{same_Some}
use Rattle.node_tree.specs.Forest.{TreeNode}
use Rattle.node_tree.specs.Part.{kept_by}
use Rattle.node_tree.specs.Plan.{PlanEntry, entries, entry_at}
use Rattle.node_tree.specs.Tree.{Tree, node_at, children_at, children_of}
use Rattle.widget_model.specs.Look.{Look}
use Rattle.plain_tree.specs.Laid.{Laid}
use Rattle.work_sets.specs.Before.{Before}
use Rattle.work_sets.specs.Members.{is_same_look}
use Rattle.kept_layers.specs.Group.{is_boundary}
use Rattle.layout_rules.specs.Painting.{KeepsRest, PaintedOwn, PaintedPlace, own_in, place_in}
use Rattle.layout_rules.specs.Reads.{no_state, state_at, state_or}
use Rattle.render_tree.specs.declared.layout_state.LayoutState.{LayoutState}
use Rattle.render_tree.specs.LayoutState.{layout_state_of, with_layout_state}
use Rattle.render_tree.specs.Marks.{layout_marks, paint_marks}
use Rattle.render_tree.specs.Object.{RenderObject, object_look}
use Rattle.render_tree.specs.Redraw.{Redraw, redrawn}
use Rattle.render_tree.specs.Tree.{object_at}
use Rattle.counted_work.specs.Caused.{FramesAgree}
use Rattle.counted_work.specs.Shows.{PluggedAsBefore, LookOtherwise}
use Rattle.counted_work.proofs.Relaid.{same_lists}
use Rattle.counted_work.proofs.Repaint.{ByHandles, SameStored}
use Rattle.counted_phases.specs.Climbing.{flagged_before}
use Rattle.counted_phases.specs.Paints.{BuiltInPhases}
use Rattle.counted_phases.specs.Seen.{PaintSeen, paint_seen}
use Rattle.counted_phases.proofs.Climbing.{node_of}
use Rattle.counted_phases.proofs.Mapped.{tree_mapped, maps_tree}
use Rattle.counted_phases.proofs.Stages.{none_some, grown_from, grown_node, relaid_from, second_from, brought_from}

-- ---- what is stored of a node

-- what painting reads of what a layout left
pub record StoredSeen : Type 0 where
  pub own : PaintedOwn
  pub place : PaintedPlace

abbrev pub stored_in : LayoutState → StoredSeen
stored_in u = record { own = own_in u; place = place_in u }

abbrev pub stored_at : Tree RenderObject → Handle → StoredSeen
stored_at t k = stored_in (state_at t k)

abbrev pub stored_of : RenderObject → StoredSeen
stored_of o = stored_in (layout_state_of o)

pub stored_is : (t : Tree RenderObject) (k : Handle) (o : RenderObject) → object_at t k ≡ Some o → stored_at t k ≡ stored_of o
stored_is t k o e = ap (λ x. stored_in (state_or x)) e

pub stored_none : (t : Tree RenderObject) (k : Handle) → object_at t k ≡ None → stored_at t k ≡ stored_in no_state
stored_none t k e = ap (λ x. stored_in (state_or x)) e

-- what a node is, but for that
pub record NodeShape : Type 0 where
  pub number : ℕ
  pub look : Look
  pub children : List Handle

abbrev pub shape_of : TreeNode RenderObject → NodeShape
shape_of n = record { number = n.value.number; look = object_look n.value; children = n.children }

abbrev shape_seen : PaintSeen → NodeShape
shape_seen s = record { number = s.number; look = s.look; children = s.children }

abbrev pub stored_seen : Option PaintSeen → StoredSeen
stored_seen None = stored_in no_state
stored_seen (Some s) = record { own = record { frame = s.frame; plugged = s.plugged }; place = record { offset = s.offset; shown = s.shown } }

through_shape : (x : Option (TreeNode RenderObject)) → option_map shape_seen (option_map paint_seen x) ≡ option_map shape_of x
through_shape None = refl
through_shape (Some n) = refl

through_stored : (x : Option (TreeNode RenderObject)) → stored_seen (option_map paint_seen x) ≡ stored_in (state_or (option_map (λ (n : TreeNode RenderObject). n.value) x))
through_stored None = refl
through_stored (Some n) = refl

over_state : (u : LayoutState) (x : Option (TreeNode RenderObject)) → option_map shape_of (option_map (λ (n : TreeNode RenderObject). record n { value = with_layout_state u n.value }) x) ≡ option_map shape_of x
over_state u None = refl
over_state u (Some n) = refl

module _ (old brought laid : Tree RenderObject) (b : BuiltInPhases old brought laid) (keeps : KeepsRest brought laid) where
  -- ---- from the first phase to the second

  marked_same : (k : Handle) → (option_map shape_of (node_at b.marked k) ≡ option_map shape_of (node_at b.run k)) × (stored_at b.marked k ≡ stored_at b.run k)
  marked_same k = by_node (node_at b.run k) refl
    where
      by_node : (x : Option (TreeNode RenderObject)) → node_at b.run k ≡ x → (option_map shape_of (node_at b.marked k) ≡ option_map shape_of (node_at b.run k)) × (stored_at b.marked k ≡ stored_at b.run k)
      by_node None e =
          let gone = b.marks.absent k e in (
            ap (option_map shape_of) gone ∙ sym (ap (option_map shape_of) e),
            ap (λ (x : Option (TreeNode RenderObject)). stored_in (state_or (option_map (λ (n : TreeNode RenderObject). n.value) x))) (gone ∙ sym e),
          )
      by_node (Some n) e =
          let only = b.marks.only k n e in (
            ap (option_map shape_of) only.2 ∙ sym (ap (option_map shape_of) e),
            ap (λ (x : Option (TreeNode RenderObject)). stored_in (state_or (option_map (λ (n : TreeNode RenderObject). n.value) x))) only.2
                ∙ sym (ap (λ (x : Option (TreeNode RenderObject)). stored_in (state_or (option_map (λ (n : TreeNode RenderObject). n.value) x))) e),
          )

  pub same_shape : (k : Handle) → option_map shape_of (node_at b.ranged k) ≡ option_map shape_of (node_at b.mid k)
  same_shape k =
      sym (through_shape (node_at b.ranged k)) ∙ (ap (option_map shape_seen) (b.same k) ∙ (through_shape (node_at b.marked k)
      ∙ ((marked_same k).0 ∙ (ap (option_map shape_of) (b.keeps.nodes k) ∙ over_state (state_at b.run k) (node_at b.mid k)))))

  -- an outer layout leaves what the second phase finds
  pub same_stored : (k : Handle) → stored_at b.ranged k ≡ stored_at b.run k
  same_stored k = sym (through_stored (node_at b.ranged k)) ∙ (ap stored_seen (b.same k) ∙ (through_stored (node_at b.marked k) ∙ (marked_same k).1))

  shape_list : (x y : Option (TreeNode RenderObject)) → option_map shape_of y ≡ option_map shape_of x → children_of x ≡ children_of y
  shape_list None None e = refl
  shape_list None (Some n) e = none_some (shape_of n) (sym e)
  shape_list (Some m) None e = none_some (shape_of m) e
  shape_list (Some m) (Some n) e = ap (λ (s : NodeShape). s.children) (sym (same_Some e))

  pub same_children : (k : Handle) → children_at b.mid k ≡ children_at b.ranged k
  same_children k = shape_list (node_at b.mid k) (node_at b.ranged k) (same_shape k)

  -- a node that goes on
  pub record GoesOn (k : Handle) (o : RenderObject) (t : Tree RenderObject) : Type 0 where
    pub object : RenderObject
    pub is : object_at t k ≡ Some object
    pub number : object.number ≡ o.number
    pub look : object_look object ≡ object_look o

  pub ranged_on : (k : Handle) (m : RenderObject) → object_at b.mid k ≡ Some m → GoesOn k m b.ranged
  ranged_on k m at = let n = node_of b.mid k m at in by_node n.0 n.2 (node_at b.ranged k) refl (same_shape k ∙ ap (option_map shape_of) n.1)
    where
      by_node : (n : TreeNode RenderObject) → n.value ≡ m → (x : Option (TreeNode RenderObject)) → node_at b.ranged k ≡ x → option_map shape_of (node_at b.ranged k) ≡ Some (shape_of n) → GoesOn k m b.ranged
      by_node n value None e same = none_some (shape_of n) (sym (ap (option_map shape_of) e) ∙ same)
      by_node n value (Some r) e same =
          let shapes = same_Some (sym (ap (option_map shape_of) e) ∙ same) in
          record {
            object = r.value;
            is = ap (option_map (λ (y : TreeNode RenderObject). y.value)) e;
            number = ap (λ (s : NodeShape). s.number) shapes ∙ ap (λ (o : RenderObject). o.number) value;
            look = ap (λ (s : NodeShape). s.look) shapes ∙ ap object_look value;
          }

  -- ---- from the last frame to the first phase

  -- a node of the last frame is there, with what its last layout left
  pub record WasThere (k : Handle) (o : RenderObject) : Type 0 where
    pub object : RenderObject
    pub is : object_at b.mid k ≡ Some object
    pub number : object.number ≡ o.number
    pub stored : stored_of object ≡ stored_of o

  pub mid_on : (k : Handle) (o : RenderObject) → object_at old k ≡ Some o → WasThere k o
  mid_on k o at = let n = node_of old k o at in by_entry_at n.0 n.2 (entry_at (entries None b.first.updates) k) (b.first.commits.nodes k ∙ ap (kept_by redrawn (entry_at (entries None b.first.updates) k) (entries None b.first.updates) k) (grown_node old b.first.made b.first.grows k n.0 n.1))
    where
      by_committed : (c : TreeNode RenderObject) → c.value.number ≡ o.number → stored_of c.value ≡ stored_of o → node_at b.first.committed k ≡ Some c → WasThere k o
      by_committed c number stored e =
          let l = b.first.layouts.only k c e in
          let m = b.first.paints.only k (record c { value = layout_marks.marked l.0 l.1 c.value }) l.2 in
          record {
            object = paint_marks.marked m.0 m.1 (layout_marks.marked l.0 l.1 c.value);
            is = ap (option_map (λ (y : TreeNode RenderObject). y.value)) m.2;
            number = number;
            stored = stored;
          }

      by_entry_at : (n : TreeNode RenderObject) → n.value ≡ o → (x : Option (PlanEntry Redraw)) → node_at b.first.committed k ≡ kept_by redrawn x (entries None b.first.updates) k (Some n) → WasThere k o
      by_entry_at n value None e = by_committed _ (ap (λ (y : RenderObject). y.number) value) (ap stored_of value) e
      by_entry_at n value (Some x) e = by_committed _ (ap (λ (y : RenderObject). y.number) value) (ap stored_of value) e

  -- ---- in the second phase

  -- a node of the whole build is new in the second phase, or was there between the phases, with what its last layout left
  pub record CameOn (k : Handle) (w : RenderObject) : Type 0 where
    pub made : RenderObject
    pub is : object_at b.second.made k ≡ Some made
    pub number : made.number ≡ w.number
    pub before : (node_at b.ranged k ≡ None) ⊎ ((object_at b.ranged k ≡ Some made) × (stored_of made ≡ stored_of w))

  pub came_on : (k : Handle) (w : RenderObject) → object_at brought k ≡ Some w → CameOn k w
  came_on k w at =
      let c = brought_from b.ranged brought b.second k w at in
      let v = second_from b.ranged brought b.second k c.0 c.1 in
      let whole : w ≡ paint_marks.marked c.2.2 c.2.3 (layout_marks.marked c.2.0 c.2.1 (redrawn v.2.0 v.0)) = c.2.4 ∙ ap (λ (y : RenderObject). paint_marks.marked c.2.2 c.2.3 (layout_marks.marked c.2.0 c.2.1 y)) v.2.1 in
      record {
        made = v.0;
        is = v.1;
        number = ap (λ (y : RenderObject). y.number) (sym whole);
        before = elim (grown_from b.ranged b.second.made b.second.grows k v.0 v.1) [
          | inl was ↦ inr (was, ap stored_of (sym whole))
          | inr gone ↦ inl gone
        ];
      }

  -- where a node was there between the phases, so it is brought
  pub brought_stored : (k : Handle) (m w : RenderObject) → object_at b.mid k ≡ Some m → object_at brought k ≡ Some w → stored_at brought k ≡ stored_at b.ranged k
  brought_stored k m w at_m at_w =
      let c = came_on k w at_w in
      let r = ranged_on k m at_m in
      elim c.before [
        | inl gone ↦ none_some r.object (sym (ap (option_map (λ (y : TreeNode RenderObject). y.value)) gone) ∙ r.is)
        | inr was ↦ stored_is brought k w at_w ∙ (sym was.1 ∙ sym (stored_is b.ranged k c.made was.0))
      ]

  -- ---- as if it was brought in one step

  abbrev pub as_before : Option RenderObject → RenderObject → RenderObject
  as_before None o = o
  as_before (Some m) o = with_layout_state (layout_state_of m) o

  abbrev pub as_one : Tree RenderObject
  as_one = tree_mapped (λ k o. as_before (object_at b.mid k) o) brought

  -- and as it was laid out, with the flags of before
  abbrev pub flagged_so : Handle → RenderObject → RenderObject
  flagged_so k o = record o { needs_paint = flagged_before (object_at old k) }

  abbrev pub laid_once : Tree RenderObject
  laid_once = tree_mapped flagged_so laid

  mapped_object : (g : Handle → RenderObject → RenderObject) (t : Tree RenderObject) (k : Handle) → object_at (tree_mapped g t) k ≡ option_map (g k) (object_at t k)
  mapped_object g t k = ap (option_map (λ (n : TreeNode RenderObject). n.value)) (maps_tree g t k) ∙ over (node_at t k)
    where
      over : (x : Option (TreeNode RenderObject)) → option_map (λ (n : TreeNode RenderObject). n.value) (option_map (λ (n : TreeNode RenderObject). record n { value = g k n.value }) x) ≡ option_map (g k) (option_map (λ (n : TreeNode RenderObject). n.value) x)
      over None = refl
      over (Some n) = refl

  mapped_list : (g : Handle → RenderObject → RenderObject) (t : Tree RenderObject) (k : Handle) → children_at (tree_mapped g t) k ≡ children_at t k
  mapped_list g t k = ap children_of (maps_tree g t k) ∙ over (node_at t k)
    where
      over : (x : Option (TreeNode RenderObject)) → children_of (option_map (λ (n : TreeNode RenderObject). record n { value = g k n.value }) x) ≡ children_of x
      over None = refl
      over (Some n) = refl

  -- a node that is mapped
  mapped_from : (g : Handle → RenderObject → RenderObject) (t : Tree RenderObject) (k : Handle) (w : RenderObject) → object_at (tree_mapped g t) k ≡ Some w → (v : RenderObject) × (object_at t k ≡ Some v) × (w ≡ g k v)
  mapped_from g t k w at = by_object (object_at t k) refl
    where
      by_object : (x : Option RenderObject) → object_at t k ≡ x → (v : RenderObject) × (object_at t k ≡ Some v) × (w ≡ g k v)
      by_object None e = none_some w (sym (ap (option_map (g k)) e) ∙ (sym (mapped_object g t k) ∙ at))
      by_object (Some v) e = (v, e, sym (same_Some (sym (ap (option_map (g k)) e) ∙ (sym (mapped_object g t k) ∙ at))))

  pub stored_once : (k : Handle) → stored_at laid_once k ≡ stored_at laid k
  stored_once k = ap (λ x. stored_in (state_or x)) (mapped_object flagged_so laid k) ∙ over (object_at laid k)
    where
      over : (x : Option RenderObject) → stored_in (state_or (option_map (flagged_so k) x)) ≡ stored_in (state_or x)
      over None = refl
      over (Some o) = refl

  -- before the layout it has what it had before the outer one
  pub stored_one : (k : Handle) (m w : RenderObject) → object_at b.mid k ≡ Some m → object_at brought k ≡ Some w → stored_at as_one k ≡ stored_at b.mid k
  stored_one k m w at_m at_w =
      ap (λ x. stored_in (state_or x)) (mapped_object (λ k o. as_before (object_at b.mid k) o) brought k ∙ ap (option_map (as_before (object_at b.mid k))) at_w)
      ∙ (ap (λ x. stored_of (as_before x w)) at_m ∙ sym (stored_is b.mid k m at_m))

  pub stored_new : (k : Handle) → object_at b.mid k ≡ None → stored_at as_one k ≡ stored_at brought k
  stored_new k gone = ap (λ x. stored_in (state_or x)) (mapped_object (λ k o. as_before (object_at b.mid k) o) brought k) ∙ (ap (λ y. stored_in (state_or (option_map (as_before y) (object_at brought k)))) gone ∙ over (object_at brought k))
    where
      over : (x : Option RenderObject) → stored_in (state_or (option_map (as_before None) x)) ≡ stored_in (state_or x)
      over None = refl
      over (Some o) = refl

  pub lists_one : (k : Handle) → children_at as_one k ≡ children_at brought k
  lists_one k = mapped_list (λ k o. as_before (object_at b.mid k) o) brought k

  pub lists_once : (k : Handle) → children_at laid_once k ≡ children_at laid k
  lists_once k = mapped_list flagged_so laid k

  pub once_from : (k : Handle) (w : RenderObject) → object_at laid_once k ≡ Some w → (v : RenderObject) × (object_at laid k ≡ Some v) × (w ≡ flagged_so k v)
  once_from k w at = mapped_from flagged_so laid k w at

  pub one_from : (k : Handle) (w : RenderObject) → object_at as_one k ≡ Some w → (v : RenderObject) × (object_at brought k ≡ Some v) × (w ≡ as_before (object_at b.mid k) v)
  one_from k w at = mapped_from (λ k o. as_before (object_at b.mid k) o) brought k w at

  pub one_there : (k : Handle) (v : RenderObject) → object_at brought k ≡ Some v → object_at as_one k ≡ Some (as_before (object_at b.mid k) v)
  one_there k v at = mapped_object (λ k o. as_before (object_at b.mid k) o) brought k ∙ ap (option_map (as_before (object_at b.mid k))) at

  -- ---- by handles

  -- two handles with one number are one
  pub one_handle : (h k : Handle) (o w : RenderObject) → object_at old h ≡ Some o → object_at laid k ≡ Some w → o.number ≡ w.number → h ≡ k
  one_handle h k o w at_h at_k number =
      let m = mid_on h o at_h in
      let r = ranged_on h m.object m.is in
      let rn = node_of b.ranged h r.object r.is in
      let made_h : object_at b.second.made h ≡ Some rn.0.value = ap (option_map (λ (y : TreeNode RenderObject). y.value)) (grown_node b.ranged b.second.made b.second.grows h rn.0 rn.1) in
      let v = relaid_from brought laid keeps k w at_k in
      let c = came_on k v.0 v.1 in
      b.apart o.number h k
      (ap (option_map (λ (y : RenderObject). y.number)) made_h ∙ ap (λ n. Some n) (ap (λ (y : RenderObject). y.number) rn.2 ∙ (r.number ∙ m.number)))
      (ap (option_map (λ (y : RenderObject). y.number)) c.is ∙ ap (λ n. Some n) (c.number ∙ (ap (λ (y : RenderObject). y.number) (sym v.2) ∙ sym number)))

  stored_same : (o v : RenderObject) → stored_of o ≡ stored_of v → SameStored o v
  stored_same o v e = record {
    frame = ap (λ (s : StoredSeen). s.own.frame) e;
    plugged = ap (λ (s : StoredSeen). s.own.plugged) e;
    offset = ap (λ (s : StoredSeen). s.place.offset) e;
    shown = ap (λ (s : StoredSeen). s.place.shown) e;
  }

  module _ (before : Before) (last now_laid : Laid) (look_same : (a b : Look) → Decides (is_same_look a b) (a ≡ b)) (then now : List Plug) (plugs : PluggedAsBefore before.touched then now) (changed : List Handle) where
    pub handles : ((k : Handle) (o w : RenderObject) → object_at old k ≡ Some o → object_at laid k ≡ Some w → is_boundary w ≡ is_boundary o) → FramesAgree before.frames old → LookOtherwise as_one laid_once changed
        → ByHandles before last now_laid look_same then now plugs old as_one laid_once changed
    handles kinds agree otherwise = record {
      same_handle = λ h k o w at_h at_k number. let v = once_from k w at_k in one_handle h k o v.0 at_h v.1 (number ∙ ap (λ (y : RenderObject). y.number) v.2);
      brought_there = λ k w at_k.
          let v = once_from k w at_k in
          let u = relaid_from brought laid keeps k v.0 v.1 in
          (as_before (object_at b.mid k) u.0, one_there k u.0 u.1);
      stored = λ k o v at_o at_v.
          let u = one_from k v at_v in
          let m = mid_on k o at_o in
          stored_same o v (sym m.stored ∙ (sym (stored_is b.mid k m.object m.is) ∙ (sym (stored_one k m.object u.0 m.is u.1) ∙ stored_is as_one k v at_v)));
      frames = agree;
      lists = λ k. lists_one k ∙ (same_lists brought laid keeps k ∙ sym (lists_once k));
      kinds = λ k o w at_o at_w. let v = once_from k w at_w in ap is_boundary v.2 ∙ kinds k o v.0 at_o v.1;
      otherwise = otherwise;
    }
