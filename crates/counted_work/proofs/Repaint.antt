-- What a layout marks for painting, and what was flagged before, is in groups that ask.
use Rattle.std.proofs.Common.{◌≡◌, ℕ, eqb, Bool, true, false, not, cond, ◌&&◌, ◌||◌, Option, Some, None, IsSome, option_map, List, [], ◌∷◌, refl, sym, ap, ◌∙◌, subst, inl, inr, ◌⊎◌, arith, Decides}
use Rattle.std.proofs.lemmas.Bool.{cases_Bool, and_parts, and_from, or_parts, or_left, or_right, false≢true, true≢false}
use Rattle.std.specs.Cmp.{unsigned_Decides}
use Rattle.std.specs.Coded.{coded_option}
use Rattle.std.specs.List.{list_any}
use lib.Pointwise.{pointwise}
use Rattle.delegates.specs.Table.{Plug}
use Rattle.fx_geom.specs.declared.shapes.Offset.{Offset}
use Rattle.fx_handles.specs.declared.Handle.{Handle}
use Rattle.fx_handles.specs.Handle.{same, Among}
use Rattle.fx_handles.specs.HandleLaws.{same-true, cases_same, times-cons, times_here, times_there}
use Rattle.fx_handles.specs.ArenaLaws.{same_Some}
use Rattle.node_tree.specs.Forest.{TreeNode, Forest, tops, Stands}
use Rattle.node_tree.specs.Forest.Forest.{none, tree}
use Rattle.node_tree.specs.Tree.{Tree, node_at, children_at, children_of}
use Rattle.widget_model.specs.Look.{Look}
use Rattle.layout_form.specs.Layout.{delegate_of, is_plugged}
use Rattle.plain_tree.specs.declared.laid.Frame.{Frame}
use Rattle.plain_tree.specs.LaidCode.{coded_offset}
use Rattle.plain_tree.specs.Laid.{Laid}
use Rattle.plain_tree.specs.Render.{Render}
use Rattle.tree_marks.specs.Marks.{listed, has_listed, some_climbs}
use Rattle.tree_marks.proofs.Closing.{either, not-false, climbs-listed}
use Rattle.work_roles.specs.Place.{RegionPlace, below}
use Rattle.work_sets.specs.Before.{Before, frame_in, names_touched, has_touched_delegate}
use Rattle.work_sets.specs.InTree.{Standing, standing}
use Rattle.work_sets.specs.Members.{is_same_look}
use Rattle.work_sets.specs.Paint.{Asks, Shows, asks_paint, changes_painting, coded_frames, differs_since, group_asks, is_moved, is_other_frame, is_same_for_paint, numbers_below, some_of_group_asks, stands_at, stood_at}
use Rattle.work_sets.specs.Same.{is_same}
use Rattle.work_sets.proofs.Found.{FindsAll}
use Rattle.work_sets.proofs.Sameness.{is_same-Decides}
use Rattle.kept_layers.specs.Group.{is_boundary, opens}
use Rattle.layout_rules.specs.Painting.{own_in, place_in, LooksSame}
use Rattle.layout_rules.specs.Reads.{state_at, state_or}
use Rattle.render_tree.specs.LayoutState.{layout_state_of}
use Rattle.render_tree.specs.Marks.{paint_marks}
use Rattle.render_tree.specs.Object.{RenderObject, object_look}
use Rattle.render_tree.specs.Plain.{frame_or, offset_or, renders_of}
use Rattle.render_tree.specs.Tree.{object_at}
use Rattle.build_walk.specs.Changing.{render_over}
use Rattle.counted_work.specs.Painted.{paint_above}
use Rattle.counted_work.specs.Shows.{IsPutSo, ArePutSo, PluggedAsBefore, LookOtherwise}
use Rattle.counted_work.proofs.PaintSearch.{IsKnown, AreKnown}

-- what a layout reads and leaves at a node is the same of two
pub record SameStored (o v : RenderObject) : Type 0 where
  pub frame : o.frame ≡ v.frame
  pub plugged : o.plugged ≡ v.plugged
  pub offset : o.offset ≡ v.offset
  pub shown : o.shown ≡ v.shown

-- ---- options that are there or not

shown_same : (a b : Bool) (x y : Offset) → cond a (Some x) None ≡ cond b (Some y) None → (a ≡ b) × (b ≡ true → x ≡ y)
shown_same true true x y e = (refl, λ s. same_Some e)
shown_same true false x y e = absurd (cc)
shown_same false true x y e = absurd (cc)
shown_same false false x y e = (refl, λ s. absurd (false≢true s))

some_offset : (o : Option Offset) → IsSome o → o ≡ Some (offset_or o)
some_offset None e = absurd (cc)
some_offset (Some x) e = refl

some_frame : (o : Option Frame) → IsSome o → o ≡ Some (frame_or o)
some_frame None e = absurd (cc)
some_frame (Some x) e = refl

module _ (before : Before) (last now_laid : Laid) (look_same : (a b : Look) → Decides (is_same_look a b) (a ≡ b)) (then now : List Plug) (plugs : PluggedAsBefore before.touched then now)
    (old brought laid : Tree RenderObject) (changed : List Handle) where
  abbrev shows : Shows
  shows = record { before = Some last; now = now_laid }

  abbrev asks : Asks
  asks = asks_paint before shows

  -- what is known by handles
  pub record ByHandles : Type 0 where
    pub same_handle : (h k : Handle) (o w : RenderObject) → object_at old h ≡ Some o → object_at laid k ≡ Some w → o.number ≡ w.number → h ≡ k
    pub brought_there : (k : Handle) (w : RenderObject) → object_at laid k ≡ Some w → (v : RenderObject) × (object_at brought k ≡ Some v)
    pub stored : (k : Handle) (o v : RenderObject) → object_at old k ≡ Some o → object_at brought k ≡ Some v → SameStored o v
    pub frames : (k : Handle) (o : RenderObject) → object_at old k ≡ Some o → o.frame ≡ before.frames o.number
    pub lists : (k : Handle) → children_at brought k ≡ children_at laid k
    pub kinds : (k : Handle) (o w : RenderObject) → object_at old k ≡ Some o → object_at laid k ≡ Some w → is_boundary w ≡ is_boundary o
    pub otherwise : LookOtherwise brought laid changed

  -- ---- what is out of the window isn't listed

  abbrev pub StayQuiet : Forest RenderObject → Type 0
  StayQuiet none = Unit {0}
  StayQuiet (tree k w kids rest) =
      (w.shown ≡ true → StayQuiet kids)
      × (w.shown ≡ false → ((place_in (state_at laid k)).offset ≡ (place_in (state_at brought k)).offset) × (has_listed changed (tree k w kids none) ≡ false))
      × StayQuiet rest

  -- ---- the lists of the last frame, and of this one

  abbrev pub SameNumbers : Forest RenderObject → Forest RenderObject → Type 0
  SameNumbers f g = pointwise eqb (numbers_below (renders_of f)) (numbers_below (renders_of g)) ≡ true

  abbrev pub NoneMoved : Forest RenderObject → Type 0
  NoneMoved g = list_any (is_moved shows) (numbers_below (renders_of g)) ≡ false

  -- nodes of the last frame's tree below one that was in the window
  pub record OldNodes (p : RegionPlace) (q : Option Handle) (painted : Bool) (f : Forest RenderObject) : Type 0 where
    pub stands : Stands (node_at old) q f
    pub finds : FindsAll (standing before.tree) p (renders_of f)
    pub known : AreKnown last true painted f
    pub put : ArePutSo then f

  -- nodes of this frame's tree below one that is in the window
  pub record NewNodes (q : Option Handle) (painted : Bool) (g : Forest RenderObject) : Type 0 where
    pub stands : Stands (node_at laid) q g
    pub known : AreKnown now_laid true painted g
    pub put : ArePutSo now g
    pub quiet : StayQuiet g

  pub object_old : (h : Handle) (q : Option Handle) (l : List Handle) (o : RenderObject) → node_at old h ≡ Some (record { parent = q; children = l; value = o }) → object_at old h ≡ Some o
  object_old h q l o e = ap (option_map (λ (n : TreeNode RenderObject). n.value)) e

  pub object_laid : (h : Handle) (q : Option Handle) (l : List Handle) (o : RenderObject) → node_at laid h ≡ Some (record { parent = q; children = l; value = o }) → object_at laid h ≡ Some o
  object_laid h q l o e = ap (option_map (λ (n : TreeNode RenderObject). n.value)) e

  -- a child that isn't moved
  pub record IsStill (o w : RenderObject) : Type 0 where
    pub shown : o.shown ≡ w.shown
    pub offset : w.shown ≡ true → offset_or o.offset ≡ offset_or w.offset

  still_child : (painted0 painted1 : Bool) (o w : RenderObject) → o.number ≡ w.number → IsKnown last true painted0 o → IsKnown now_laid true painted1 w → is_moved shows w.number ≡ false → IsStill o w
  still_child painted0 painted1 o w number was is still =
      let parts = or_parts (not (is_same (coded_option coded_offset) (stood_at w.number shows.before) (stands_at w.number shows.now))) (changes_painting shows w.number) still in
      let same_place : stands_at w.number last ≡ stands_at w.number now_laid =
      (is_same-Decides (coded_option coded_offset) (stands_at w.number last) (stands_at w.number now_laid)).0
      (not-false (is_same (coded_option coded_offset) (stands_at w.number last) (stands_at w.number now_laid)) parts.0) in
      let both = shown_same o.shown w.shown (offset_or o.offset) (offset_or w.offset) (sym was.stands ∙ (ap (λ n. stands_at n last) number ∙ (same_place ∙ is.stands))) in
      record { shown = both.0; offset = both.1 }

  pub numbers_eq : (o w : RenderObject) → eqb o.number w.number ≡ true → o.number ≡ w.number
  numbers_eq o w e = (unsigned_Decides o.number w.number).0 e

  -- ---- the children of a node that doesn't ask stand as they stood

  place_same : ByHandles → (h k : Handle) (o w : RenderObject) → object_at old h ≡ Some o → object_at laid k ≡ Some w → o.number ≡ w.number → IsStill o w → (o.shown ≡ true → IsPutSo then o) → (w.shown ≡ true → IsPutSo now w)
      → (w.shown ≡ false → (place_in (state_at laid k)).offset ≡ (place_in (state_at brought k)).offset) → place_in (state_at laid k) ≡ place_in (state_at brought k)
  place_same by h k o w at_h at_k number still was_put is_put gone =
      let there = by.brought_there k w at_k in
      let handle : h ≡ k = by.same_handle h k o w at_h at_k number in
      let stored = by.stored k o there.0 (ap (object_at old) (sym handle) ∙ at_h) there.1 in
      let laid_state : state_at laid k ≡ layout_state_of w = ap state_or at_k in
      let brought_state : state_at brought k ≡ layout_state_of there.0 = ap state_or there.1 in
      let shown : w.shown ≡ there.0.shown = sym still.shown ∙ stored.shown in
      let offset : w.offset ≡ there.0.offset = elim (cases_Bool w.shown) [
        | inl s ↦ some_offset w.offset (is_put s).placed ∙ (ap (λ x. Some x) (sym (still.offset s)) ∙ (sym (some_offset o.offset (was_put (still.shown ∙ s)).placed) ∙ stored.offset))
        | inr s ↦ sym (ap (λ u. (place_in u).offset) laid_state) ∙ (gone s ∙ ap (λ u. (place_in u).offset) brought_state)
      ] in
      ap place_in laid_state ∙ ((λ i. record { offset = offset i; shown = shown i }) ∙ sym (ap place_in brought_state))

  first_or_later : (c k : Handle) (ks : List Handle) → Among c (k ∷ ks) → (c ≡ k) ⊎ Among c ks
  first_or_later c k ks among = elim (cases_same c k) [
    | inl e ↦ inl e
    | inr ne ↦ inr (omega (arith, among, times_there c k ks (λ e. ne (sym e))))
  ]

  places_same : ByHandles → (p : RegionPlace) (a b : Option Handle) (painted0 painted1 : Bool) (f g : Forest RenderObject) → OldNodes p a painted0 f → NewNodes b painted1 g → SameNumbers f g → NoneMoved g
      → (c : Handle) → Among c (tops g) → place_in (state_at laid c) ≡ place_in (state_at brought c)
  places_same by p a b painted0 painted1 f none was is numbers still c among = absurd (omega arith)
  places_same by p a b painted0 painted1 none (tree k w under rest) was is numbers still c among = absurd (false≢true numbers)
  places_same by p a b painted0 painted1 (tree h o kids more) (tree k w under rest) was is numbers still c among =
      let split = and_parts (eqb o.number w.number) (pointwise eqb (numbers_below (renders_of more)) (numbers_below (renders_of rest))) numbers in
      let move = or_parts (is_moved shows w.number) (list_any (is_moved shows) (numbers_below (renders_of rest))) still in
      let number = numbers_eq o w split.0 in
      elim (first_or_later c k (tops rest) among) [
        | inl e ↦ subst (λ x. place_in (state_at laid x) ≡ place_in (state_at brought x)) (sym e)
            (place_same by h k o w (object_old h a (tops kids) o was.stands.0) (object_laid k b (tops under) w is.stands.0) number (still_child painted0 painted1 o w number was.known.0 is.known.0 move.0)
            (λ s. (was.put.0 s).0) (λ s. (is.put.0 s).0) (λ s. (is.quiet.1 s).0))
        | inr later ↦ places_same by p a b painted0 painted1 more rest
            (record { stands = was.stands.2; finds = was.finds.1; known = was.known.2; put = was.put.1 })
            (record { stands = is.stands.2; known = is.known.2; put = is.put.1; quiet = is.quiet.2 }) split.1 move.1 c later
      ]

  -- ---- a node that doesn't ask

  pub record IsQuietNode (o : RenderObject) (kids : Forest RenderObject) (w : RenderObject) (under : Forest RenderObject) : Type 0 where
    pub look : object_look o ≡ object_look w
    pub numbers : SameNumbers kids under
    pub untouched : has_touched_delegate before.touched (render_over w under) ≡ false
    pub frame : is_other_frame (frame_in now_laid w.number) (before.frames w.number) ≡ false
    pub still : NoneMoved under

  pub quiet_node : (p q : RegionPlace) (o : RenderObject) (kids : Forest RenderObject) (w : RenderObject) (under : Forest RenderObject) → standing before.tree w.number ≡ Some (record { place = p; node = render_over o kids })
      → asks q (render_over w under) ≡ false → IsQuietNode o kids w under
  quiet_node p q o kids w under stood e =
      let r : Render = render_over w under in
      let was : Standing = record { place = p; node = render_over o kids } in
      let one = or_parts (differs_since (standing before.tree w.number) q r)
      (has_touched_delegate before.touched r || (is_other_frame (frame_in now_laid w.number) (before.frames w.number) || (changes_painting shows w.number || list_any (is_moved shows) (numbers_below (renders_of under))))) e in
      let two = or_parts (has_touched_delegate before.touched r)
      (is_other_frame (frame_in now_laid w.number) (before.frames w.number) || (changes_painting shows w.number || list_any (is_moved shows) (numbers_below (renders_of under)))) one.1 in
      let three = or_parts (is_other_frame (frame_in now_laid w.number) (before.frames w.number)) (changes_painting shows w.number || list_any (is_moved shows) (numbers_below (renders_of under))) two.1 in
      let four = or_parts (changes_painting shows w.number) (list_any (is_moved shows) (numbers_below (renders_of under))) three.1 in
      let since : differs_since (Some was) q r ≡ false = sym (ap (λ x. differs_since x q r) stood) ∙ one.0 in
      let kept = not-false (is_same_for_paint was.node r) (or_parts (not (is_same_for_paint was.node r)) (q.top && not was.place.top) since).0 in
      let looks = and_parts (is_same_look (object_look o) (object_look w)) (pointwise eqb (numbers_below (renders_of kids)) (numbers_below (renders_of under))) kept in
      record {
        look = (look_same (object_look o) (object_look w)).0 looks.0;
        numbers = looks.1;
        untouched = two.0;
        frame = three.0;
        still = four.1;
      }

  -- ---- such a node looks as before, and isn't listed

  frame_kept : (f : Frame) (x : Option Frame) → is_other_frame (Some f) x ≡ false → Some f ≡ x
  frame_kept f x e = (is_same-Decides coded_frames (Some f) x).0 (not-false (is_same coded_frames (Some f) x) e)

  plugged_kept : (d : Option (List ℕ)) → names_touched d before.touched ≡ false → is_plugged then d ≡ is_plugged now d
  plugged_kept None e = refl
  plugged_kept (Some name) e = plugs name e

  own_same : ByHandles → (h k : Handle) (o : RenderObject) (kids : Forest RenderObject) (w : RenderObject) (under : Forest RenderObject) → object_at old h ≡ Some o → object_at laid k ≡ Some w → o.number ≡ w.number
      → frame_in now_laid w.number ≡ Some (frame_or w.frame) → IsPutSo then o → IsPutSo now w → IsQuietNode o kids w under → own_in (state_at laid k) ≡ own_in (state_at brought k)
  own_same by h k o kids w under at_h at_k number seen was_put is_put quiet =
      let there = by.brought_there k w at_k in
      let handle : h ≡ k = by.same_handle h k o w at_h at_k number in
      let stored = by.stored k o there.0 (ap (object_at old) (sym handle) ∙ at_h) there.1 in
      let laid_state : state_at laid k ≡ layout_state_of w = ap state_or at_k in
      let brought_state : state_at brought k ≡ layout_state_of there.0 = ap state_or there.1 in
      let same_frame : Some (frame_or w.frame) ≡ before.frames w.number = frame_kept (frame_or w.frame) (before.frames w.number) (sym (ap (λ x. is_other_frame x (before.frames w.number)) seen) ∙ quiet.frame) in
      let frame : w.frame ≡ there.0.frame =
      some_frame w.frame is_put.framed ∙ (same_frame ∙ (ap before.frames (sym number) ∙ (sym (by.frames h o at_h) ∙ stored.frame))) in
      let plugged : w.plugged ≡ there.0.plugged =
      is_put.plugged ∙ (sym (plugged_kept (delegate_of (object_look w)) quiet.untouched) ∙ (ap (λ l. is_plugged then (delegate_of l)) (sym quiet.look) ∙ (sym was_put.plugged ∙ stored.plugged))) in
      ap own_in laid_state ∙ ((λ i. record { frame = frame i; plugged = plugged i }) ∙ sym (ap own_in brought_state))

  listed_among : (k : Handle) (hs : List Handle) → listed k hs ≡ true → Among k hs
  listed_among k [] e = absurd (false≢true e)
  listed_among k (h ∷ hs) e = elim (either (same k h) (listed k hs) e) [
    | inl s ↦ subst (λ x. Among k (x ∷ hs)) (same-true k h s) (omega (arith, times-cons k k hs, times_here k hs))
    | inr l ↦ let later = listed_among k hs l in omega (arith, times-cons k h hs, later)
  ]

  not_listed : ByHandles → (k : Handle) → LooksSame brought laid k → listed k changed ≡ false
  not_listed by k looks = elim (cases_Bool (listed k changed)) [
    | inl e ↦ absurd (by.otherwise k (listed_among k changed e) looks)
    | inr e ↦ e
  ]

  -- ---- down a group

  -- both nodes are in the window, and something at or below it is listed
  pub group_node : ByHandles → (p q : RegionPlace) (h k : Handle) (a b : Option Handle) (painted0 painted1 : Bool) (o : RenderObject) (kids : Forest RenderObject) (w : RenderObject) (under : Forest RenderObject)
      → object_at old h ≡ Some o → node_at laid k ≡ Some (record { parent = b; children = tops under; value = w }) → o.number ≡ w.number → standing before.tree w.number ≡ Some (record { place = p; node = render_over o kids })
      → frame_in now_laid w.number ≡ Some (frame_or w.frame) → IsPutSo then o → IsPutSo now w
      → OldNodes (below p (object_look o)) (Some h) painted0 kids → NewNodes (Some k) painted1 under
      → (SameNumbers kids under → NoneMoved under → some_climbs paint_marks changed (paint_above false) under ≡ true → some_of_group_asks asks (below q (object_look w)) (renders_of under) ≡ true)
      → (listed k changed || some_climbs paint_marks changed (paint_above false) under) ≡ true → group_asks asks q (render_over w under) ≡ true
  group_node by p q h k a b painted0 painted1 o kids w under at_h node_k number stood seen was_put is_put was is go start = elim (cases_Bool (asks q (render_over w under))) [
    | inl e ↦ or_left (asks q (render_over w under)) (some_of_group_asks asks (below q (object_look w)) (renders_of under)) e
    | inr e ↦
        let quiet = quiet_node p q o kids w under stood e in
        let at_k : object_at laid k ≡ Some w = object_laid k b (tops under) w node_k in
        let list : children_at brought k ≡ tops under = by.lists k ∙ ap children_of node_k in
        let looks : LooksSame brought laid k = record {
          own = own_same by h k o kids w under at_h at_k number seen was_put is_put quiet;
          places = λ c among. places_same by (below p (object_look o)) (Some h) (Some k) painted0 painted1 kids under was is quiet.numbers quiet.still c (subst (Among c) list among);
        } in
        or_right (asks q (render_over w under)) (some_of_group_asks asks (below q (object_look w)) (renders_of under))
        (go quiet.numbers quiet.still (later (listed k changed) (some_climbs paint_marks changed (paint_above false) under) (not_listed by k looks) start))
  ]
    where
      later : (a b : Bool) → a ≡ false → (a || b) ≡ true → b ≡ true
      later true b e f = absurd (true≢false e)
      later false b e f = f

  pub seen_true : (shown : Bool) (f : Frame) (x : Option Frame) → x ≡ cond (true && shown) (Some f) None → shown ≡ true → x ≡ Some f
  seen_true true f x e s = e
  seen_true false f x e s = absurd (false≢true s)

  pub group_climbs : ByHandles → (p q : RegionPlace) (a b : Option Handle) (painted0 painted1 : Bool) (f g : Forest RenderObject) → OldNodes p a painted0 f → NewNodes b painted1 g → SameNumbers f g → NoneMoved g
      → some_climbs paint_marks changed (paint_above false) g ≡ true → some_of_group_asks asks q (renders_of g) ≡ true
  group_climbs by p q a b painted0 painted1 f none was is numbers still e = absurd (false≢true e)
  group_climbs by p q a b painted0 painted1 none (tree k w under rest) was is numbers still e = absurd (false≢true numbers)
  group_climbs by p q a b painted0 painted1 (tree h o kids more) (tree k w under rest) was is numbers still e =
      let split = and_parts (eqb o.number w.number) (pointwise eqb (numbers_below (renders_of more)) (numbers_below (renders_of rest))) numbers in
      let move = or_parts (is_moved shows w.number) (list_any (is_moved shows) (numbers_below (renders_of rest))) still in
      let number = numbers_eq o w split.0 in
      let stays = still_child painted0 painted1 o w number was.known.0 is.known.0 move.0 in
      let start : Bool = listed k changed || some_climbs paint_marks changed (paint_above false) under in
      let here : w.shown ≡ true → start ≡ true → group_asks asks q (render_over w under) ≡ true = λ shown begun.
      let was_shown : o.shown ≡ true = stays.shown ∙ shown in
      let was_put = was.put.0 was_shown in
      let is_put = is.put.0 shown in
      group_node by p q h k a b (painted0 && (o.shown && opens o)) (painted1 && (w.shown && opens w)) o kids w under (object_old h a (tops kids) o was.stands.0) is.stands.0 number
      (ap (standing before.tree) (sym number) ∙ was.finds.0.0) (seen_true w.shown (frame_or w.frame) (frame_in now_laid w.number) is.known.0.frame shown) was_put.0 is_put.0
      (record { stands = was.stands.1; finds = was.finds.0.1; known = subst (λ s. AreKnown last s (painted0 && (o.shown && opens o)) kids) was_shown was.known.1; put = was_put.1 })
      (record { stands = is.stands.1; known = subst (λ s. AreKnown now_laid s (painted1 && (w.shown && opens w)) under) shown is.known.1; put = is_put.1; quiet = is.quiet.0 shown })
      (λ same_numbers same_places climbs.
      group_climbs by (below p (object_look o)) (below q (object_look w)) (Some h) (Some k) (painted0 && (o.shown && opens o)) (painted1 && (w.shown && opens w)) kids under
      (record { stands = was.stands.1; finds = was.finds.0.1; known = subst (λ s. AreKnown last s (painted0 && (o.shown && opens o)) kids) was_shown was.known.1; put = was_put.1 })
      (record { stands = is.stands.1; known = subst (λ s. AreKnown now_laid s (painted1 && (w.shown && opens w)) under) shown is.known.1; put = is_put.1; quiet = is.quiet.0 shown })
      same_numbers same_places climbs) begun in
      elim (either (start && not (is_boundary w)) (some_climbs paint_marks changed (paint_above false) rest) e) [
        | inl x ↦
            let parts = and_parts start (not (is_boundary w)) x in
            or_left (not (is_boundary w) && group_asks asks q (render_over w under)) (some_of_group_asks asks q (renders_of rest))
            (and_from (not (is_boundary w)) (group_asks asks q (render_over w under)) parts.1
            (elim (cases_Bool w.shown) [
              | inl shown ↦ here shown parts.0
              | inr unseen ↦ absurd (false≢true (sym (is.quiet.1 unseen).1 ∙ listed_within k w under parts.0))
            ]))
        | inr x ↦ or_right (not (is_boundary w) && group_asks asks q (render_over w under)) (some_of_group_asks asks q (renders_of rest))
            (group_climbs by p q a b painted0 painted1 more rest
            (record { stands = was.stands.2; finds = was.finds.1; known = was.known.2; put = was.put.1 })
            (record { stands = is.stands.2; known = is.known.2; put = is.put.1; quiet = is.quiet.2 }) split.1 move.1 x)
      ]
    where
      listed_within : (k : Handle) (w : RenderObject) (under : Forest RenderObject) → (listed k changed || some_climbs paint_marks changed (paint_above false) under) ≡ true → has_listed changed (tree k w under none) ≡ true
      listed_within k w under begun = elim (either (listed k changed) (some_climbs paint_marks changed (paint_above false) under) begun) [
        | inl l ↦ or_left (listed k changed) (has_listed changed under || false) l
        | inr c ↦ or_right (listed k changed) (has_listed changed under || false) (or_left (has_listed changed under) false (climbs-listed paint_marks changed (paint_above false) under c))
      ]
