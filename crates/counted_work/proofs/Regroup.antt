-- Each painted boundary that is flagged after a layout has a group that asks.
use Rattle.std.proofs.Common.{◌≡◌, eqb, Bool, true, false, not, ◌&&◌, ◌||◌, Option, Some, None, option_map, List, refl, sym, ap, ◌∙◌, subst, inl, inr, ◌⊎◌, Decides}
use Rattle.std.proofs.lemmas.Bool.{cases_Bool, and_parts, and_from, or_parts, or_left, or_right, false≢true, true≢false}
use Rattle.std.specs.Bool.{beq}
use Rattle.std.specs.Cmp.{booleans_Decides}
use Rattle.std.specs.List.{list_any}
use lib.Pointwise.{pointwise}
use Rattle.delegates.specs.Table.{Plug}
use Rattle.fx_handles.specs.declared.Handle.{Handle}
use Rattle.fx_handles.specs.Handle.{same}
use Rattle.fx_handles.specs.HandleLaws.{same-true}
use Rattle.fx_handles.specs.ArenaLaws.{same_Some}
use Rattle.node_tree.specs.Forest.{TreeNode, Forest, tops, Stands}
use Rattle.node_tree.specs.Forest.Forest.{none, tree}
use Rattle.node_tree.specs.Tree.{Tree, node_at}
use Rattle.widget_model.specs.Look.{Look}
use Rattle.layout_form.specs.Layout.{delegate_of}
use Rattle.plain_tree.specs.Laid.{Laid}
use Rattle.plain_tree.specs.Render.{Render, render}
use Rattle.tree_marks.specs.Marks.{listed, has_node, some_climbs, sweep}
use Rattle.tree_marks.proofs.Closing.{either, not-false}
use Rattle.work_roles.specs.Place.{RegionPlace, at_root, below}
use Rattle.work_sets.specs.Before.{Before, frame_in, names_touched, has_touched_delegate}
use Rattle.work_sets.specs.InTree.{Standing, standing}
use Rattle.work_sets.specs.Members.{is_same_look}
use Rattle.work_sets.specs.Paint.{Asks, Shows, asks_paint, asks_idly, changes_painting, differs_since, group_asks, is_moved, is_other_frame, is_painted, is_same_for_paint, numbers_below, some_of_group_asks}
use Rattle.work_sets.proofs.Found.{Finds, FindsAll}
use Rattle.kept_layers.specs.Group.{is_boundary, opens}
use Rattle.render_tree.specs.Marks.{paint_marks, ends_painting}
use Rattle.render_tree.specs.Object.{RenderObject, object_look}
use Rattle.render_tree.specs.Plain.{frame_or, lazy_children, renders_of}
use Rattle.render_tree.specs.Tree.{object_at}
use Rattle.build_walk.specs.Changing.{render_over}
use Rattle.counted_work.specs.Painted.{paint_above, FlagsAsked, RootFlagsAsked, AreAsking}
use Rattle.counted_work.specs.Shows.{IsPutSo, ArePutSo, PluggedAsBefore}
use Rattle.counted_work.proofs.Asking.{ask_node, climbs_ask}
use Rattle.counted_work.proofs.Changed.{root_stood}
use Rattle.counted_work.proofs.Painted.{same_renders, swept_paints}
use Rattle.counted_work.proofs.PaintSearch.{AreKnown, RootKnown}
use Rattle.counted_work.proofs.Repaint.{ByHandles, OldNodes, NewNodes, StayQuiet, SameNumbers, quiet_node, group_node, group_climbs, numbers_eq, object_old, object_laid, seen_true}

module _ (before : Before) (last now_laid : Laid) (look_same : (a b : Look) → Decides (is_same_look a b) (a ≡ b)) (then now : List Plug) (plugs : PluggedAsBefore before.touched then now)
    (old brought laid : Tree RenderObject) (changed painted : List Handle) where
  abbrev shows : Shows
  shows = record { before = Some last; now = now_laid }

  abbrev asks : Asks
  asks = asks_paint before shows

  abbrev Handles : Type 0
  Handles = ByHandles before last now_laid look_same then now plugs old brought laid changed

  abbrev Olds : RegionPlace → Option Handle → Bool → Forest RenderObject → Type 0
  Olds p a b f = OldNodes before last now_laid look_same then now plugs old brought laid changed p a b f

  abbrev News : Option Handle → Bool → Forest RenderObject → Type 0
  News a b g = NewNodes before last now_laid look_same then now plugs old brought laid changed a b g

  abbrev Numbers : Forest RenderObject → Forest RenderObject → Type 0
  Numbers f g = SameNumbers before last now_laid look_same then now plugs old brought laid changed f g

  -- ---- a flag of before

  idle_node : (p q : RegionPlace) (o : RenderObject) (kids : Forest RenderObject) (w : RenderObject) (under : Forest RenderObject) → standing before.tree w.number ≡ Some (record { place = p; node = render_over o kids })
      → (Numbers kids under → some_of_group_asks (asks_idly before) (below p (object_look o)) (renders_of kids) ≡ true → some_of_group_asks asks (below q (object_look w)) (renders_of under) ≡ true)
      → group_asks (asks_idly before) p (render_over o kids) ≡ true → group_asks asks q (render_over w under) ≡ true
  idle_node p q o kids w under stood go e = elim (cases_Bool (asks q (render_over w under))) [
    | inl x ↦ or_left (asks q (render_over w under)) (some_of_group_asks asks (below q (object_look w)) (renders_of under)) x
    | inr x ↦
        let quiet = quiet_node before last now_laid look_same then now plugs old brought laid changed p q o kids w under stood x in
        or_right (asks q (render_over w under)) (some_of_group_asks asks (below q (object_look w)) (renders_of under))
        (elim (either (has_touched_delegate before.touched (render_over o kids)) (some_of_group_asks (asks_idly before) (below p (object_look o)) (renders_of kids)) e) [
          | inl own ↦ absurd (true≢false (sym own ∙ (ap (λ l. names_touched (delegate_of l) before.touched) quiet.look ∙ quiet.untouched)))
          | inr under_o ↦ go quiet.numbers under_o
        ])
  ]

  idle_some : Handles → (p q : RegionPlace) (a b : Option Handle) (f g : Forest RenderObject) → Stands (node_at old) a f → FindsAll (standing before.tree) p (renders_of f) → Stands (node_at laid) b g → Numbers f g
      → some_of_group_asks (asks_idly before) p (renders_of f) ≡ true → some_of_group_asks asks q (renders_of g) ≡ true
  idle_some by p q a b none g stands finds laid_stands numbers e = absurd (false≢true e)
  idle_some by p q a b (tree h o kids more) none stands finds laid_stands numbers e = absurd (false≢true numbers)
  idle_some by p q a b (tree h o kids more) (tree k w under rest) stands finds laid_stands numbers e =
      let split = and_parts (eqb o.number w.number) (pointwise eqb (numbers_below (renders_of more)) (numbers_below (renders_of rest))) numbers in
      let number : o.number ≡ w.number = numbers_eq before last now_laid look_same then now plugs old brought laid changed o w split.0 in
      let at_h = object_old before last now_laid look_same then now plugs old brought laid changed h a (tops kids) o stands.0 in
      let at_k = object_laid before last now_laid look_same then now plugs old brought laid changed k b (tops under) w laid_stands.0 in
      let handle : h ≡ k = by.same_handle h k o w at_h at_k number in
      let kind : is_boundary w ≡ is_boundary o = by.kinds k o w (ap (object_at old) (sym handle) ∙ at_h) at_k in
      elim (either (not (is_boundary o) && group_asks (asks_idly before) p (render_over o kids)) (some_of_group_asks (asks_idly before) p (renders_of more)) e) [
        | inl x ↦
            let parts = and_parts (not (is_boundary o)) (group_asks (asks_idly before) p (render_over o kids)) x in
            or_left (not (is_boundary w) && group_asks asks q (render_over w under)) (some_of_group_asks asks q (renders_of rest))
            (and_from (not (is_boundary w)) (group_asks asks q (render_over w under)) (ap not kind ∙ parts.0)
            (idle_node p q o kids w under (ap (standing before.tree) (sym number) ∙ finds.0.0)
            (λ same_numbers inner. idle_some by (below p (object_look o)) (below q (object_look w)) (Some h) (Some k) kids under stands.1 finds.0.1 laid_stands.1 same_numbers inner) parts.1))
        | inr x ↦ or_right (not (is_boundary w) && group_asks asks q (render_over w under)) (some_of_group_asks asks q (renders_of rest))
            (idle_some by p q a b more rest stands.2 finds.1 laid_stands.2 split.1 x)
      ]

  -- ---- a node that was painted

  pub record WasPainted (k : Handle) (o : RenderObject) : Type 0 where
    pub place : RegionPlace
    pub kids : Forest RenderObject
    pub inner : Bool
    pub stood : standing before.tree o.number ≡ Some (record { place = place; node = render_over o kids })
    pub put : IsPutSo then o
    pub nodes : Olds (below place (object_look o)) (Some k) inner kids
    pub flag : (is_boundary o || place.top) ≡ true → o.needs_paint ≡ true → group_asks (asks_idly before) place (render_over o kids) ≡ true

  unpainted : (seen : Bool) (a : Option Handle) (f : Forest RenderObject) (k : Handle) (n : TreeNode RenderObject) → AreKnown last seen false f → Stands (node_at old) a f → node_at old k ≡ Some n → has_node k f ≡ true → is_painted last n.value.number ≡ false
  unpainted seen a none k n known stands at there = absurd (false≢true there)
  unpainted seen a (tree h o kids rest) k n known stands at there = elim (either (same h k) (has_node k kids || has_node k rest) there) [
    | inl e ↦
        let value : o ≡ n.value = ap (λ (m : TreeNode RenderObject). m.value) (same_Some (sym stands.0 ∙ (ap (node_at old) (same-true h k e) ∙ at))) in
        ap (λ (x : RenderObject). is_painted last x.number) (sym value) ∙ known.0.paints
    | inr later ↦ elim (either (has_node k kids) (has_node k rest) later) [
      | inl b ↦ unpainted (seen && o.shown) (Some h) kids k n known.1 stands.1 at b
      | inr b ↦ unpainted seen a rest k n known.2 stands.2 at b
    ]
  ]

  here_painted : (p : RegionPlace) (a : Option Handle) (h k : Handle) (o : RenderObject) (kids : Forest RenderObject) (n : TreeNode RenderObject) → h ≡ k → o ≡ n.value → o.shown ≡ true
      → standing before.tree o.number ≡ Some (record { place = p; node = render_over o kids }) → IsPutSo then o → (inner : Bool) → Olds (below p (object_look o)) (Some h) inner kids
      → ((is_boundary o || p.top) ≡ true → o.needs_paint ≡ true → group_asks (asks_idly before) p (render_over o kids) ≡ true) → WasPainted k n.value
  here_painted p a h k o kids n handle value shown stood put inner nodes flag =
      subst (λ x. WasPainted x n.value) handle (subst (λ x. WasPainted h x) value (record { place = p; kids = kids; inner = inner; stood = stood; put = put; nodes = nodes; flag = flag }))

  only_boundary : (b t : Bool) → t ≡ false → (b || t) ≡ true → b ≡ true
  only_boundary true t e f = refl
  only_boundary false t e f = absurd (false≢true (sym e ∙ f))

  was_painted_at : (p : RegionPlace) (a : Option Handle) (f : Forest RenderObject) (k : Handle) (n : TreeNode RenderObject) → p.top ≡ false → Olds p a true f → FlagsAsked (asks_idly before) p f
      → node_at old k ≡ Some n → has_node k f ≡ true → is_painted last n.value.number ≡ true → WasPainted k n.value
  was_painted_at p a none k n low nodes flags at there painted_k = absurd (false≢true there)
  was_painted_at p a (tree h o kids rest) k n low nodes flags at there painted_k = elim (either (same h k) (has_node k kids || has_node k rest) there) [
    | inl e ↦
        let handle : h ≡ k = same-true h k e in
        let value : o ≡ n.value = ap (λ (m : TreeNode RenderObject). m.value) (same_Some (sym nodes.stands.0 ∙ (ap (node_at old) handle ∙ at))) in
        let shown : o.shown ≡ true = sym nodes.known.0.paints ∙ (ap (λ (x : RenderObject). is_painted last x.number) value ∙ painted_k) in
        here_painted p a h k o kids n handle value shown nodes.finds.0.0 (nodes.put.0 shown).0 (true && (o.shown && opens o))
        (record { stands = nodes.stands.1; finds = nodes.finds.0.1; known = subst (λ s. AreKnown last s (true && (o.shown && opens o)) kids) shown nodes.known.1; put = (nodes.put.0 shown).1 })
        (λ e. (flags.0 shown).0 (only_boundary (is_boundary o) p.top low e))
    | inr later ↦ elim (either (has_node k kids) (has_node k rest) later) [
      | inl b ↦ elim (cases_Bool (o.shown && opens o)) [
        | inl x ↦
            let parts = and_parts o.shown (opens o) x in
            was_painted_at (below p (object_look o)) (Some h) kids k n refl
            (record {
              stands = nodes.stands.1;
              finds = nodes.finds.0.1;
              known = subst (λ s. AreKnown last s true kids) parts.0 (subst (λ s. AreKnown last (true && o.shown) s kids) x nodes.known.1);
              put = (nodes.put.0 parts.0).1;
            })
            ((flags.0 parts.0).1 parts.1) at b painted_k
        | inr x ↦ absurd (true≢false (sym painted_k ∙ unpainted (true && o.shown) (Some h) kids k n (subst (λ s. AreKnown last (true && o.shown) s kids) x nodes.known.1) nodes.stands.1 at b))
      ]
      | inr b ↦ was_painted_at p a rest k n low (record { stands = nodes.stands.2; finds = nodes.finds.1; known = nodes.known.2; put = nodes.put.1 }) flags.1 at b painted_k
    ]
  ]

  -- ---- the old tree

  pub record OldRoot (h : Handle) (o : RenderObject) (kids : Forest RenderObject) : Type 0 where
    pub stands : Stands (node_at old) None (tree h o kids none)
    pub was : before.tree ≡ Some (render_over o kids)
    pub finds : Finds (standing before.tree) at_root (render_over o kids)
    pub known : RootKnown last o kids
    pub put : IsPutSo then o × ArePutSo then kids
    pub flags : RootFlagsAsked (asks_idly before) (tree h o kids none)
    pub whole : (k : Handle) (n : TreeNode RenderObject) → node_at old k ≡ Some n → has_node k (tree h o kids none) ≡ true

  located : (h : Handle) (o : RenderObject) (kids : Forest RenderObject) → OldRoot h o kids → (k : Handle) (n : TreeNode RenderObject) → node_at old k ≡ Some n → is_painted last n.value.number ≡ true → WasPainted k n.value
  located h o kids r k n at painted_k = elim (either (same h k) (has_node k kids || false) (r.whole k n at)) [
    | inl e ↦
        let handle : h ≡ k = same-true h k e in
        let value : o ≡ n.value = ap (λ (m : TreeNode RenderObject). m.value) (same_Some (sym r.stands.0 ∙ (ap (node_at old) handle ∙ at))) in
        subst (λ x. WasPainted x n.value) handle (subst (λ x. WasPainted h x) value (record {
          place = at_root;
          kids = kids;
          inner = opens o;
          stood = r.finds.0;
          put = r.put.0;
          nodes = record { stands = r.stands.1; finds = r.finds.1; known = r.known.below; put = r.put.1 };
          flag = λ e flag. r.flags.0 flag;
        }))
    | inr later ↦ elim (either (has_node k kids) false later) [
      | inl b ↦ elim (cases_Bool (opens o)) [
        | inl x ↦
            was_painted_at (below at_root (object_look o)) (Some h) kids k n refl
            (record { stands = r.stands.1; finds = r.finds.1; known = subst (λ s. AreKnown last true s kids) x r.known.below; put = r.put.1 }) (r.flags.1 x) at b painted_k
        | inr x ↦ absurd (true≢false (sym painted_k ∙ unpainted true (Some h) kids k n (subst (λ s. AreKnown last true s kids) x r.known.below) r.stands.1 at b))
      ]
      | inr b ↦ absurd (false≢true b)
    ]
  ]

  -- ---- a painted boundary

  -- what a node that doesn't ask had before
  pub record HadNode (q : RegionPlace) (k : Handle) (w : RenderObject) : Type 0 where
    pub object : RenderObject
    pub is : object_at old k ≡ Some object
    pub number : object.number ≡ w.number
    pub past : WasPainted k object
    pub top : q.top ≡ true → past.place.top ≡ true

  node_of : (k : Handle) (o : RenderObject) (x : Option (TreeNode RenderObject)) → node_at old k ≡ x → object_at old k ≡ Some o → (n : TreeNode RenderObject) × (node_at old k ≡ Some n) × (n.value ≡ o)
  node_of k o None e at = absurd (none_some (sym (ap (option_map (λ (n : TreeNode RenderObject). n.value)) e) ∙ at))
    where
      none_some : None ≡ Some o → ⊥
      none_some x = cc
  node_of k o (Some n) e at = (n, e, same_Some (sym (ap (option_map (λ (m : TreeNode RenderObject). m.value)) e) ∙ at))

  top_kept : (b q p : Bool) → (b || (q && not p)) ≡ false → q ≡ true → p ≡ true
  top_kept true q p e f = absurd (true≢false e)
  top_kept false true true e f = refl
  top_kept false true false e f = absurd (true≢false e)
  top_kept false false p e f = absurd (false≢true f)

  had_node : Handles → (h0 : Handle) (o0 : RenderObject) (kids0 : Forest RenderObject) → OldRoot h0 o0 kids0 → (q : RegionPlace) (k : Handle) (w : RenderObject) (under : Forest RenderObject) → object_at laid k ≡ Some w
      → is_painted now_laid w.number ≡ true → asks q (render_over w under) ≡ false → HadNode q k w
  had_node by h0 o0 kids0 r q k w under at_k is_now e = by_standing (standing before.tree w.number) refl
    where
      parts : (differs_since (standing before.tree w.number) q (render_over w under) ≡ false) × (changes_painting shows w.number ≡ false)
      parts =
          let x : Render = render_over w under in
          let moved : Bool = list_any (is_moved shows) (numbers_below (renders_of under)) in
          let other : Bool = is_other_frame (frame_in now_laid w.number) (before.frames w.number) in
          let one = or_parts (differs_since (standing before.tree w.number) q x) (has_touched_delegate before.touched x || (other || (changes_painting shows w.number || moved))) e in
          let two = or_parts (has_touched_delegate before.touched x) (other || (changes_painting shows w.number || moved)) one.1 in
          let three = or_parts other (changes_painting shows w.number || moved) two.1 in
          let four = or_parts (changes_painting shows w.number) moved three.1 in
          (one.0, four.0)

      painted_before : is_painted last w.number ≡ true
      painted_before =
          (booleans_Decides (is_painted last w.number) (is_painted now_laid w.number)).0 (not-false (beq (is_painted last w.number) (is_painted now_laid w.number)) parts.1) ∙ is_now

      by_standing : (x : Option Standing) → standing before.tree w.number ≡ x → HadNode q k w
      by_standing None s = absurd (true≢false (sym (ap (λ x. differs_since x q (render_over w under)) s) ∙ parts.0))
      by_standing (Some st) s =
          let found = root_stood old w.number h0 o0 kids0 st r.stands (sym (ap (λ t. standing t w.number) r.was) ∙ s) in
          let handle = by.same_handle found.handle k found.object w found.stored at_k found.number in
          let at_old : object_at old k ≡ Some found.object = ap (object_at old) (sym handle) ∙ found.stored in
          let node = node_of k found.object (node_at old k) refl at_old in
          let was = located h0 o0 kids0 r k node.0 node.1 (ap (λ (x : RenderObject). is_painted last x.number) node.2 ∙ (ap (is_painted last) found.number ∙ painted_before)) in
          let was_o : WasPainted k found.object = subst (λ x. WasPainted k x) node.2 was in
          let standing_same : st ≡ record { place = was_o.place; node = render_over found.object was_o.kids } =
          same_Some (sym s ∙ (ap (standing before.tree) (sym found.number) ∙ was_o.stood)) in
          record {
            object = found.object;
            is = at_old;
            number = found.number;
            past = was_o;
            top = λ high.
                ap (λ (x : Standing). x.place.top) (sym standing_same)
                ∙ top_kept (not (is_same_for_paint st.node (render_over w under))) q.top st.place.top (sym (ap (λ x. differs_since x q (render_over w under)) s) ∙ parts.0) high;
          }

  -- it was flagged before
  old_flag_asks : Handles → (h0 : Handle) (o0 : RenderObject) (kids0 : Forest RenderObject) → OldRoot h0 o0 kids0 → (q : RegionPlace) (k : Handle) (b : Option Handle) (w : RenderObject) (under : Forest RenderObject)
      → node_at laid k ≡ Some (record { parent = b; children = tops under; value = w }) → Stands (node_at laid) (Some k) under → is_painted now_laid w.number ≡ true → (is_boundary w || q.top) ≡ true
      → (o : RenderObject) → object_at old k ≡ Some o → o.needs_paint ≡ true → group_asks asks q (render_over w under) ≡ true
  old_flag_asks by h0 o0 kids0 r q k b w under node_k stands_k is_now ends o at_o flagged = elim (cases_Bool (asks q (render_over w under))) [
    | inl e ↦ or_left (asks q (render_over w under)) (some_of_group_asks asks (below q (object_look w)) (renders_of under)) e
    | inr e ↦
        let at_k = object_laid before last now_laid look_same then now plugs old brought laid changed k b (tops under) w node_k in
        let had = had_node by h0 o0 kids0 r q k w under at_k is_now e in
        let same_object : had.object ≡ o = same_Some (sym had.is ∙ at_o) in
        let boundary : (is_boundary had.object || had.past.place.top) ≡ true = elim (either (is_boundary w) q.top ends) [
          | inl x ↦ or_left (is_boundary had.object) had.past.place.top (sym (by.kinds k had.object w had.is at_k) ∙ x)
          | inr x ↦ or_right (is_boundary had.object) had.past.place.top (had.top x)
        ] in
        idle_node had.past.place q had.object had.past.kids w under (ap (standing before.tree) (sym had.number) ∙ had.past.stood)
        (λ numbers inner. idle_some by (below had.past.place (object_look had.object)) (below q (object_look w)) (Some k) (Some k) had.past.kids under had.past.nodes.stands had.past.nodes.finds stands_k numbers inner)
        (had.past.flag boundary (ap (λ (x : RenderObject). x.needs_paint) same_object ∙ flagged))
  ]

  -- the layout marks it
  layout_mark_asks : Handles → (h0 : Handle) (o0 : RenderObject) (kids0 : Forest RenderObject) → OldRoot h0 o0 kids0 → (q : RegionPlace) (k : Handle) (b : Option Handle) (w : RenderObject) (under : Forest RenderObject) (inner : Bool)
      → node_at laid k ≡ Some (record { parent = b; children = tops under; value = w }) → is_painted now_laid w.number ≡ true → frame_in now_laid w.number ≡ Some (frame_or w.frame) → IsPutSo now w → News (Some k) inner under
      → (listed k changed || some_climbs paint_marks changed (paint_above false) under) ≡ true → group_asks asks q (render_over w under) ≡ true
  layout_mark_asks by h0 o0 kids0 r q k b w under inner node_k is_now seen put nodes start = elim (cases_Bool (asks q (render_over w under))) [
    | inl e ↦ or_left (asks q (render_over w under)) (some_of_group_asks asks (below q (object_look w)) (renders_of under)) e
    | inr e ↦
        let at_k = object_laid before last now_laid look_same then now plugs old brought laid changed k b (tops under) w node_k in
        let had = had_node by h0 o0 kids0 r q k w under at_k is_now e in
        group_node before last now_laid look_same then now plugs old brought laid changed by had.past.place q k k None b had.past.inner inner had.object had.past.kids w under had.is node_k had.number
        (ap (standing before.tree) (sym had.number) ∙ had.past.stood) seen had.past.put put had.past.nodes nodes
        (λ numbers still climbs. group_climbs before last now_laid look_same then now plugs old brought laid changed by (below had.past.place (object_look had.object)) (below q (object_look w)) (Some k) (Some k) had.past.inner inner
        had.past.kids under had.past.nodes nodes numbers still climbs) start
  ]

  -- ---- the whole tree

  -- a flag is new, was there, or was set since, before the layout
  abbrev pub IsFlagged : RegionPlace → Handle → RenderObject → Forest RenderObject → Type 0
  IsFlagged q k w under = (asks q (render_over w under) ≡ true) ⊎ (((o : RenderObject) × (object_at old k ≡ Some o) × (o.needs_paint ≡ true)) ⊎ ((listed k painted || some_climbs paint_marks painted (paint_above false) under) ≡ true))

  abbrev pub AreFlagged : RegionPlace → Forest RenderObject → Type 0
  AreFlagged q none = Unit {0}
  AreFlagged q (tree k w under rest) = (w.needs_paint ≡ true → IsFlagged q k w under) × AreFlagged (below q (object_look w)) under × AreFlagged q rest

  -- a painted boundary of the tree that was laid out, once the layout's marks are set
  boundary_asks : Handles → (h0 : Handle) (o0 : RenderObject) (kids0 : Forest RenderObject) → OldRoot h0 o0 kids0 → (q : RegionPlace) (k : Handle) (b : Option Handle) (w : RenderObject) (under : Forest RenderObject) (inner takes : Bool)
      → node_at laid k ≡ Some (record { parent = b; children = tops under; value = w }) → Stands (node_at laid) (Some k) under → is_painted now_laid w.number ≡ true → frame_in now_laid w.number ≡ Some (frame_or w.frame)
      → IsPutSo now w → News (Some k) inner under → (is_boundary w || q.top) ≡ true → (w.needs_paint ≡ true → IsFlagged q k w under)
      → (listed k painted ≡ true → asks q (render_over w under) ≡ true) → AreAsking asks painted (below q (object_look w)) under
      → (w.needs_paint || ((listed k changed || some_climbs paint_marks changed (paint_above false) under) && takes)) ≡ true → group_asks asks q (render_over w under) ≡ true
  boundary_asks by h0 o0 kids0 r q k b w under inner takes node_k stands_k is_now seen put nodes ends cause asking_k asking e =
      elim (either w.needs_paint ((listed k changed || some_climbs paint_marks changed (paint_above false) under) && takes) e) [
        | inl flag ↦ by_cause (cause flag)
        | inr mark ↦ layout_mark_asks by h0 o0 kids0 r q k b w under inner node_k is_now seen put nodes (and_parts (listed k changed || some_climbs paint_marks changed (paint_above false) under) takes mark).0
      ]
    where
      by_cause : IsFlagged q k w under → group_asks asks q (render_over w under) ≡ true
      by_cause (inl fresh) = or_left (asks q (render_over w under)) (some_of_group_asks asks (below q (object_look w)) (renders_of under)) fresh
      by_cause (inr (inl was)) = old_flag_asks by h0 o0 kids0 r q k b w under node_k stands_k is_now ends was.0 was.1 was.2
      by_cause (inr (inr start)) = ask_node asks painted q k w under asking_k (climbs_ask asks painted (below q (object_look w)) under asking) start

  group_swept : (q : RegionPlace) (w : RenderObject) (under : Forest RenderObject) → group_asks asks q (render_over w under) ≡ true
      → group_asks asks q (render w.number (object_look w) w.parent_data w.scroll (lazy_children w) (renders_of (sweep paint_marks true changed (paint_above false) under))) ≡ true
  group_swept q w under e =
      subst (λ rs. group_asks asks q (render w.number (object_look w) w.parent_data w.scroll (lazy_children w) rs) ≡ true)
      (same_renders under (sweep paint_marks true changed (paint_above false) under) (swept_paints true changed (paint_above false) under)) e

  all_asked : Handles → (h0 : Handle) (o0 : RenderObject) (kids0 : Forest RenderObject) → OldRoot h0 o0 kids0 → (q : RegionPlace) (b : Option Handle) (g : Forest RenderObject) → News b true g → AreFlagged q g → AreAsking asks painted q g
      → FlagsAsked asks q (sweep paint_marks true changed (paint_above false) g)
  all_asked by h0 o0 kids0 r q b none nodes flagged asking = tt
  all_asked by h0 o0 kids0 r q b (tree k w under rest) nodes flagged asking = (
    (λ shown.
        let put = nodes.put.0 shown in
        let quiet = nodes.quiet.0 shown in
        let known_seen : AreKnown now_laid true (true && (w.shown && opens w)) under = subst (λ s. AreKnown now_laid s (true && (w.shown && opens w)) under) shown nodes.known.1 in (
          (λ boundary flag. group_swept q w under
              (boundary_asks by h0 o0 kids0 r q k b w under (true && (w.shown && opens w)) (ends_painting false (object_look w)) nodes.stands.0 nodes.stands.1 (nodes.known.0.paints ∙ shown)
              (seen_true before last now_laid look_same then now plugs old brought laid changed w.shown (frame_or w.frame) (frame_in now_laid w.number) nodes.known.0.frame shown) put.0
              (record { stands = nodes.stands.1; known = known_seen; put = put.1; quiet = quiet }) (or_left (is_boundary w) q.top boundary) flagged.0 asking.0 asking.1 flag)),
          (λ opened. all_asked by h0 o0 kids0 r (below q (object_look w)) (Some k) under
              (record { stands = nodes.stands.1; known = subst (λ s. AreKnown now_laid true s under) (and_from w.shown (opens w) shown opened) known_seen; put = put.1; quiet = quiet }) flagged.1 asking.1),
        )),
    all_asked by h0 o0 kids0 r q b rest (record { stands = nodes.stands.2; known = nodes.known.2; put = nodes.put.1; quiet = nodes.quiet.2 }) flagged.2 asking.2,
  )

  pub root_asked : Handles → (h0 : Handle) (o0 : RenderObject) (kids0 : Forest RenderObject) → OldRoot h0 o0 kids0 → (k : Handle) (w : RenderObject) (under : Forest RenderObject) → Stands (node_at laid) None (tree k w under none)
      → RootKnown now_laid w under → IsPutSo now w → ArePutSo now under → StayQuiet before last now_laid look_same then now plugs old brought laid changed under → AreFlagged at_root (tree k w under none) → AreAsking asks painted at_root (tree k w under none)
      → RootFlagsAsked asks (sweep paint_marks true changed (paint_above true) (tree k w under none))
  root_asked by h0 o0 kids0 r k w under stands known put put_below quiet flagged asking = (
    (λ flag. group_swept at_root w under
        (boundary_asks by h0 o0 kids0 r at_root k None w under (opens w) (ends_painting true (object_look w)) stands.0 stands.1 known.paints known.frame put
        (record { stands = stands.1; known = known.below; put = put_below; quiet = quiet }) (or_right (is_boundary w) true refl) flagged.0 asking.0 asking.1 flag)),
    (λ opened. all_asked by h0 o0 kids0 r (below at_root (object_look w)) (Some k) under
        (record { stands = stands.1; known = subst (λ s. AreKnown now_laid true s under) opened known.below; put = put_below; quiet = quiet }) flagged.1 asking.1),
  )
