-- The items of a list between the phases have flags in the region of the whole build's tree: those that the last frame left, or a line set,
-- and those of the first phase.
use Rattle.std.proofs.Common.{◌≡◌, ◌⊎◌, Bool, true, false, ◌&&◌, ◌||◌, Some, List, sym, ap, ◌∙◌, subst, inl, inr, refl, Decides, if◌then◌else◌}
use Rattle.std.proofs.lemmas.Bool.{cases_Bool, and_parts, or_left, or_right, false≢true, true≢false}
use lib.Pointwise.{pointwise}
use Rattle.fx_handles.specs.declared.Handle.{Handle}
use Rattle.node_tree.specs.Forest.{Forest, pruned}
use Rattle.node_tree.specs.Forest.Forest.{none, tree}
use Rattle.node_tree.specs.Tree.{Tree}
use Rattle.widget_model.specs.Look.{Look}
use Rattle.plain_tree.specs.Render.{Render}
use Rattle.tree_marks.specs.Marking.{Above, within}
use Rattle.tree_marks.specs.Marks.{listed, some_climbs, has_listed, sweep}
use Rattle.tree_marks.proofs.Closing.{either}
use Rattle.work_roles.specs.Place.{RegionPlace, below}
use Rattle.work_sets.specs.Before.{Before}
use Rattle.work_sets.specs.InTree.{standing}
use Rattle.work_sets.specs.Layout.{is_child_same, list_below, frame_judge, idle_judge}
use Rattle.work_sets.specs.Members.{is_same_look}
use Rattle.work_sets.specs.Region.{Judge, is_reached, is_inside, reaches_out, some_reaches_out}
use Rattle.work_sets.proofs.Found.{FindsAll}
use Rattle.render_tree.specs.Marks.{layout_marks}
use Rattle.render_tree.specs.Object.{RenderObject, object_look}
use Rattle.render_tree.specs.Plain.{renders_of}
use Rattle.render_tree.specs.Tree.{object_at}
use Rattle.build_walk.specs.Changing.{render_over}
use Rattle.counted_work.specs.Inside.{marks_above, FlagsInside}
use Rattle.counted_work.proofs.Inside.{reached_inside, all_inside}
use Rattle.counted_work.proofs.Twins.{AreAt}
use Rattle.counted_phases.specs.Framed.{HaveFrames, AllAsBefore}
use Rattle.counted_phases.specs.Left.{some_claimed, AreBereft, AreUnclaimed, AreStanding, AreLeftItems}
use Rattle.counted_phases.specs.Lists.{IsSeenAt, AreSeen}
use Rattle.counted_phases.specs.Outer.{ListOr}
use Rattle.counted_phases.proofs.Left.{IsAbove, above_below, list_above, stored_all, none_claimed, left_reach}
use Rattle.counted_phases.proofs.Twins.{Lists, IsPair, unchanged, numbers_of_pair, reached_pair, reach_twin, inside_pair}

-- where nodes stand, by their render nodes
pub standing_finds : (before : Before) (p : RegionPlace) (f : Forest RenderObject) → AreStanding before p f → FindsAll (standing before.tree) p (renders_of f)
standing_finds before p none places = tt
standing_finds before p (tree h o kids rest) places = ((places.0, standing_finds before (below p (object_look o)) kids places.1), standing_finds before p rest places.2)

module _ (before : Before) (look_same : (a b : Look) → Decides (is_same_look a b) (a ≡ b)) (old ranged : Tree RenderObject) (claimed : Handle → Bool) (hs : List Handle) where
  abbrev idle : Judge
  idle = idle_judge before

  abbrev now : Judge
  now = frame_judge before

  -- the marked items that are left
  abbrev left_marked : Above → Forest RenderObject → Forest RenderObject
  left_marked b f = sweep layout_marks true hs b (pruned claimed f)

  abbrev Same : Forest RenderObject → Forest RenderObject → Type 0
  Same f g = Lists before look_same (renders_of f) (renders_of g)

  abbrev Starts : Above → Handle → RenderObject → Forest RenderObject → Bool
  Starts b h o kids = listed h hs || some_climbs layout_marks hs (within layout_marks b o) (pruned claimed kids)

  abbrev marked_item : Above → Handle → RenderObject → Forest RenderObject → RenderObject
  marked_item b h o kids = layout_marks.marked (Starts b h o kids && true) (has_listed hs (pruned claimed kids) || (true && listed h hs)) o

  -- what is known of items below a node: of the last frame's, of those that are left, and of the whole build's
  pub record AreTwins (p q : RegionPlace) (b : Above) (f g : Forest RenderObject) : Type 0 where
    pub above : IsAbove p q b
    pub stored : AreAt (object_at old) f
    pub marked : AreSeen ranged (left_marked b f)
    pub places : AreStanding before p f
    pub frames : HaveFrames before.frames f
    pub alike : AllAsBefore ranged g
    pub free : AreUnclaimed old claimed (renders_of g)
    pub bereft : AreBereft claimed hs f

  by_flag : (flag start inside : Bool) → (flag ≡ true → inside ≡ true) → (start ≡ true → inside ≡ true) → (flag || (start && true)) ≡ true → inside ≡ true
  by_flag true start inside before_now now_on e = before_now refl
  by_flag false start inside before_now now_on e = now_on (and_parts start true e).0

  here_inside : (q : RegionPlace) (w : RenderObject) (under : Forest RenderObject) (b : Bool) → b ≡ true → (w.needs_layout ≡ true → b ≡ true) × FlagsInside now b (below q (object_look w)) under
  here_inside q w under true e = ((λ flag. refl), all_inside now (below q (object_look w)) under)
  here_inside q w under false e = absurd (false≢true e)

  -- an item that isn't claimed, where so it is below it
  item_node : (a c : Bool) (p q : RegionPlace) (b : Above) (h : Handle) (o : RenderObject) (kids : Forest RenderObject) (w : RenderObject) (under : Forest RenderObject) → AreTwins (below p (object_look o)) (below q (object_look w)) (within layout_marks b o) kids under
      → IsPair before look_same p (render_over o kids) (render_over w under) → (w.needs_layout ≡ (o.needs_layout || (Starts b h o kids && true)))
      → (listed h hs ≡ true → some_claimed claimed kids ≡ true) → (a ≡ true → c ≡ true) → (reaches_out now q (render_over w under) ≡ true → c ≡ true)
      → (Same kids under → (d e : Bool) → (d ≡ true → e ≡ true) → (some_reaches_out now (below q (object_look w)) (renders_of under) ≡ true → e ≡ true) → FlagsInside idle d (below p (object_look o)) kids → FlagsInside now e (below q (object_look w)) under)
      → (o.needs_layout ≡ true → is_inside idle a p (render_over o kids) ≡ true) × FlagsInside idle (is_inside idle a p (render_over o kids)) (below p (object_look o)) kids
      → (w.needs_layout ≡ true → is_inside now c q (render_over w under) ≡ true) × FlagsInside now (is_inside now c q (render_over w under)) (below q (object_look w)) under
  item_node a c p q b h o kids w under twins pair flag lost more out go flags = elim (cases_Bool (now.is_changed q r)) [
    | inl changed ↦ here_inside q w under inside (into (or_left (now.is_changed q r) reach changed))
    | inr still ↦
        let same : Same kids under = (unchanged before look_same p q (render_over o kids) r pair still).lists in (
          (λ is. by_flag o.needs_layout (Starts b h o kids) inside (λ e. both (flags.0 e)) (λ e. by_start same (either (listed h hs) (some_climbs layout_marks hs (within layout_marks b o) (pruned claimed kids)) e)) (sym flag ∙ is)),
          go same (is_inside idle a p (render_over o kids)) inside both (λ e. into (or_right (now.is_changed q r) reach e)) flags.1,
        )
  ]
    where
      r : Render
      r = render_over w under

      inside : Bool
      inside = is_inside now c q r

      reach : Bool
      reach = some_reaches_out now (below q (object_look w)) (renders_of under)

      into : is_reached now q r ≡ true → inside ≡ true
      into = reached_inside now c q r out

      both : is_inside idle a p (render_over o kids) ≡ true → inside ≡ true
      both =
          inside_pair before look_same a c p q (render_over o kids) r more into
          (reached_pair before look_same p q (render_over o kids) r pair
          (λ lists e. reach_twin before look_same (below p (object_look o)) (below q (object_look w)) (renders_of kids) (renders_of under) (standing_finds before (below p (object_look o)) kids twins.places) lists e))

      by_start : Same kids under → (listed h hs ≡ true) ⊎ (some_climbs layout_marks hs (within layout_marks b o) (pruned claimed kids) ≡ true) → inside ≡ true
      by_start same (inl is) = absurd (true≢false (sym (lost is) ∙ none_claimed before look_same old claimed hs kids (renders_of under) twins.stored same twins.free))
      by_start same (inr climbs) =
          into (or_right (now.is_changed q r) reach
          (left_reach before look_same old claimed hs (below p (object_look o)) (below q (object_look w)) (within layout_marks b o) kids (renders_of under) twins.above twins.stored twins.places twins.frames same twins.free twins.bereft climbs))

  -- one of them with what is below it, and the others
  split_marked : (b : Above) (h : Handle) (o : RenderObject) (kids rest : Forest RenderObject) (x : Bool) → claimed h ≡ x → x ≡ false → AreSeen ranged (left_marked b (tree h o kids rest))
      → IsSeenAt (object_at ranged h) (marked_item b h o kids) × AreSeen ranged (left_marked (within layout_marks b o) kids) × AreSeen ranged (left_marked b rest)
  split_marked b h o kids rest x is free marked =
      subst (λ (y : Bool). AreSeen ranged (sweep layout_marks true hs b (if y then pruned claimed rest else tree h o (pruned claimed kids) (pruned claimed rest)))) (is ∙ free) marked

  split_bereft : (h : Handle) (kids : Forest RenderObject) → claimed h ≡ false → ListOr (claimed h) (Unit {0}) ((listed h hs ≡ true → some_claimed claimed kids ≡ true) × AreBereft claimed hs kids)
      → (listed h hs ≡ true → some_claimed claimed kids ≡ true) × AreBereft claimed hs kids
  split_bereft h kids free bereft = subst (λ (y : Bool). ListOr y (Unit {0}) ((listed h hs ≡ true → some_claimed claimed kids ≡ true) × AreBereft claimed hs kids)) free bereft

  pub items_twin : (p q : RegionPlace) (b : Above) (f g : Forest RenderObject) → AreTwins p q b f g → Same f g → (a c : Bool) → (a ≡ true → c ≡ true) → (some_reaches_out now q (renders_of g) ≡ true → c ≡ true)
      → FlagsInside idle a p f → FlagsInside now c q g
  items_twin p q b f none twins same a c more out flags = tt
  items_twin p q b none (tree k w under rest) twins same a c more out flags = absurd (false≢true same)
  items_twin p q b (tree h o kids others) (tree k w under rest) twins same a c more out flags =
      let r : Render = render_over w under in
      let split = and_parts (is_child_same (o.number, o.parent_data) (w.number, w.parent_data)) (pointwise is_child_same (list_below (renders_of others)) (list_below (renders_of rest))) same in
      let number = numbers_of_pair before look_same o.number o.parent_data w.number w.parent_data split.0 in
      let unclaimed = twins.free.0.0 h o twins.stored.0 number in
      let marked = split_marked b h o kids others (claimed h) refl unclaimed twins.marked in
      let bereft = split_bereft h kids unclaimed twins.bereft.0 in
      let kept = twins.alike.0 h marked.0.object marked.0.is (marked.0.number ∙ number) in
      let pair : IsPair before look_same p (render_over o kids) r = record { number = number; found = twins.places.0 } in
      let inner : AreTwins (below p (object_look o)) (below q (object_look w)) (within layout_marks b o) kids under = record {
        above = above_below p q b o (object_look w) twins.above;
        stored = twins.stored.1;
        marked = marked.1;
        places = twins.places.1;
        frames = twins.frames.1;
        alike = twins.alike.1;
        free = twins.free.0.1;
        bereft = bereft.1;
      } in
      let later : AreTwins p q b others rest = record {
        above = twins.above;
        stored = twins.stored.2;
        marked = marked.2;
        places = twins.places.2;
        frames = twins.frames.2;
        alike = twins.alike.2;
        free = twins.free.1;
        bereft = twins.bereft.1;
      } in (
        (λ shown. item_node a c p q b h o kids w under inner pair (kept.1 ∙ marked.0.flag) bereft.0 more (λ e. out (or_left (reaches_out now q r) (some_reaches_out now q (renders_of rest)) e))
            (λ lists d e further beneath below_flags. items_twin (below p (object_look o)) (below q (object_look w)) (within layout_marks b o) kids under inner lists d e further beneath below_flags)
            (flags.0 (marked.0.shown (sym kept.0 ∙ shown)))),
        items_twin p q b others rest later split.1 a c more (λ e. out (or_right (reaches_out now q r) (some_reaches_out now q (renders_of rest)) e)) flags.1,
      )

  -- ---- a list

  pub list_items : (a c : Bool) (q : RegionPlace) (kids : Forest RenderObject) (w : RenderObject) (under : Forest RenderObject) → (l : AreLeftItems before old claimed w.number kids)
      → AreSeen ranged (left_marked (marks_above (below q (object_look w))) l.items) → AllAsBefore ranged under → AreUnclaimed old claimed (renders_of under) → AreBereft claimed hs l.items
      → (is_inside idle a l.place (render_over l.list l.items) ≡ true → is_inside now c q (render_over w under) ≡ true) → (reaches_out now q (render_over w under) ≡ true → c ≡ true)
      → FlagsInside idle (is_inside idle a l.place (render_over l.list l.items)) (below l.place (object_look l.list)) l.items
      → FlagsInside now (is_inside now c q (render_over w under)) (below q (object_look w)) under
  list_items a c q kids w under l seen alike free bereft more out flags = elim (cases_Bool (now.is_changed q r)) [
    | inl changed ↦ (here_inside q w under inside (into (or_left (now.is_changed q r) reach changed))).1
    | inr still ↦
        let same = unchanged before look_same l.place q (render_over l.list l.items) r pair still in
        let twins : AreTwins (below l.place (object_look l.list)) (below q (object_look w)) (marks_above (below q (object_look w))) l.items under = record {
          above = list_above l.place q (object_look l.list) (object_look w) same.look;
          stored = stored_all old (Some l.handle) l.items l.stands;
          marked = seen;
          places = l.places;
          frames = l.frames;
          alike = alike;
          free = free;
          bereft = bereft;
        } in
        items_twin (below l.place (object_look l.list)) (below q (object_look w)) (marks_above (below q (object_look w))) l.items under twins same.lists
        (is_inside idle a l.place (render_over l.list l.items)) inside more (λ e. into (or_right (now.is_changed q r) reach e)) flags
  ]
    where
      r : Render
      r = render_over w under

      inside : Bool
      inside = is_inside now c q r

      reach : Bool
      reach = some_reaches_out now (below q (object_look w)) (renders_of under)

      into : is_reached now q r ≡ true → inside ≡ true
      into = reached_inside now c q r out

      pair : IsPair before look_same l.place (render_over l.list l.items) r
      pair = record { number = l.number_is; found = ap (standing before.tree) l.number_is ∙ l.stood }
