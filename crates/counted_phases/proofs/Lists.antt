-- The items of all lists have flags in the region: the last frame's tree and the whole build's are gone down at once, past outer nodes.
use Rattle.std.proofs.Common.{◌≡◌, ◌⊎◌, Bool, true, false, ◌&&◌, Option, Some, None, option_map, List, refl, sym, ap, ◌∙◌, subst, inl, inr, Decides}
use Rattle.std.proofs.lemmas.Bool.{cases_Bool, and_parts, or_parts, or_left, or_right, false≢true, true≢false}
use lib.Pointwise.{pointwise}
use Rattle.fx_handles.specs.declared.Handle.{Handle}
use Rattle.node_tree.specs.Forest.{TreeNode, Forest, tops, Stands, pruned}
use Rattle.node_tree.specs.Forest.Forest.{none, tree}
use Rattle.node_tree.specs.Tree.{Tree, node_at, children_of as children_in}
use Rattle.widget_model.specs.Look.{Look}
use Rattle.plain_tree.specs.Laws.{AllDiffer, render_numbers_of}
use Rattle.plain_tree.specs.Render.{Render}
use Rattle.work_roles.specs.Place.{RegionPlace, at_root, below}
use Rattle.work_sets.specs.Before.{Before}
use Rattle.work_sets.specs.InTree.{standing, standing_at}
use Rattle.work_sets.specs.Layout.{is_child_same, is_changed_since, list_below, frame_judge, idle_judge}
use Rattle.work_sets.specs.Members.{is_same_look}
use Rattle.work_sets.specs.Region.{Judge, is_reached, is_inside, reaches_out, some_reaches_out}
use Rattle.work_sets.proofs.Found.{Finds, FindsAll, found}
use Rattle.layout_walk.specs.Rules.{is_list}
use Rattle.render_tree.specs.Object.{RenderObject, object_look}
use Rattle.render_tree.specs.Plain.{renders_of}
use Rattle.render_tree.specs.Tree.{object_at}
use Rattle.build_walk.specs.Changing.{render_over}
use Rattle.counted_work.specs.Inside.{FlagsInside, RootFlagsInside}
use Rattle.counted_work.proofs.Inside.{reached_inside, all_inside}
use Rattle.counted_phases.specs.Framed.{HaveFrames, ItemsInside, RootItemsInside}
use Rattle.counted_phases.specs.Left.{AreStanding, AreLeftItems}
use Rattle.counted_phases.specs.Lists.{IsListLeft, ListsLeft, ShownAsBefore, RootShownAsBefore}
use Rattle.counted_phases.specs.Outer.{UnlessList, ListOr}
use Rattle.counted_phases.proofs.Items.{standing_finds, list_items}
use Rattle.counted_phases.proofs.Twins.{Lists, IsPair, unchanged, numbers_of_pair, reached_pair, reach_twin, inside_pair, root_reach, root_was}

-- where nodes stand
pub finds_standing : (before : Before) (p : RegionPlace) (f : Forest RenderObject) → FindsAll (standing before.tree) p (renders_of f) → AreStanding before p f
finds_standing before p none finds = tt
finds_standing before p (tree h o kids rest) finds = (finds.0.0, finds_standing before (below p (object_look o)) kids finds.0.1, finds_standing before p rest finds.1)

-- below what is in the region all is
all_items : (judge : Judge) (above : Bool) (p : RegionPlace) (g : Forest RenderObject) → above ≡ true → ItemsInside judge above p g
all_items judge above p none e = tt
all_items judge above p (tree k w under rest) e = (
  (λ shown. by (is_list (object_look w)) (or_left above (judge.is_firm p (render_over w under) && is_reached judge p (render_over w under)) e)
      (λ i. all_items judge (is_inside judge above p (render_over w under)) (below p (object_look w)) under i)),
  all_items judge above p rest e,
)
  where
    flags_in : (b : Bool) → b ≡ true → FlagsInside judge b (below p (object_look w)) under
    flags_in true e = all_inside judge (below p (object_look w)) under
    flags_in false e = absurd (false≢true e)

    by : (list : Bool) → is_inside judge above p (render_over w under) ≡ true
        → (is_inside judge above p (render_over w under) ≡ true → ItemsInside judge (is_inside judge above p (render_over w under)) (below p (object_look w)) under)
        → ListOr list (FlagsInside judge (is_inside judge above p (render_over w under)) (below p (object_look w)) under) (ItemsInside judge (is_inside judge above p (render_over w under)) (below p (object_look w)) under)
    by true i go = flags_in (is_inside judge above p (render_over w under)) i
    by false i go = go i

module _ (before : Before) (look_same : (a b : Look) → Decides (is_same_look a b) (a ≡ b)) (old ranged : Tree RenderObject) (claimed : Handle → Bool) (hs : List Handle) where
  abbrev idle : Judge
  idle = idle_judge before

  abbrev now : Judge
  now = frame_judge before

  abbrev Same : Forest RenderObject → Forest RenderObject → Type 0
  Same f g = Lists before look_same (renders_of f) (renders_of g)

  abbrev Left : RegionPlace → Forest RenderObject → Type 0
  Left q g = ListsLeft old ranged claimed hs q g

  abbrev Shown : Bool → RegionPlace → Forest RenderObject → Type 0
  Shown c q g = ShownAsBefore now old c q g

  -- what is known of a node of the last frame's tree
  pub record HasStood (p : RegionPlace) (h : Handle) (o : RenderObject) (kids : Forest RenderObject) : Type 0 where
    pub parent : Option Handle
    pub at : node_at old h ≡ Some (record { parent = parent; children = tops kids; value = o })
    pub stands : Stands (node_at old) (Some h) kids
    pub found : standing before.tree o.number ≡ Some (record { place = p; node = render_over o kids })
    pub places : AreStanding before (below p (object_look o)) kids
    pub frames : HaveFrames before.frames kids

  abbrev Below : Bool → Bool → RegionPlace → RenderObject → Forest RenderObject → Type 0
  Below list inside q w under = ListOr list (FlagsInside now inside (below q (object_look w)) under) (ItemsInside now inside (below q (object_look w)) under)

  -- below an outer node that is in the window
  node_items : (a c : Bool) (p q : RegionPlace) (h : Handle) (o : RenderObject) (kids : Forest RenderObject) (w : RenderObject) (under : Forest RenderObject) → HasStood p h o kids → o.number ≡ w.number
      → ListOr (is_list (object_look w)) (IsListLeft old ranged claimed hs q w under) (Left (below q (object_look w)) under)
      → UnlessList (is_list (object_look w)) (Shown (is_inside now c q (render_over w under)) (below q (object_look w)) under)
      → (a ≡ true → c ≡ true) → (reaches_out now q (render_over w under) ≡ true → c ≡ true)
      → (Same kids under → (d e : Bool) → (d ≡ true → e ≡ true) → (some_reaches_out now (below q (object_look w)) (renders_of under) ≡ true → e ≡ true) → Left (below q (object_look w)) under
      → Shown e (below q (object_look w)) under → FlagsInside idle d (below p (object_look o)) kids → ItemsInside now e (below q (object_look w)) under)
      → (is_inside now c q (render_over w under) ≡ false → FlagsInside idle (is_inside idle a p (render_over o kids)) (below p (object_look o)) kids)
      → Below (is_list (object_look w)) (is_inside now c q (render_over w under)) q w under
  node_items a c p q h o kids w under was number left shown more out go flags = elim (cases_Bool (is_inside now c q (render_over w under))) [
    | inl is ↦ whole (is_list (object_look w)) (is_inside now c q (render_over w under)) is
    | inr outside ↦ by_changed outside (cases_Bool (now.is_changed q (render_over w under)))
  ]
    where
      r : Render
      r = render_over w under

      inside : Bool
      inside = is_inside now c q r

      reach : Bool
      reach = some_reaches_out now (below q (object_look w)) (renders_of under)

      into : is_reached now q r ≡ true → inside ≡ true
      into = reached_inside now c q r out

      whole : (list b : Bool) → b ≡ true → Below list b q w under
      whole true true e = all_inside now (below q (object_look w)) under
      whole true false e = absurd (false≢true e)
      whole false b e = all_items now b (below q (object_look w)) under e

      pair : IsPair before look_same p (render_over o kids) r
      pair = record { number = number; found = was.found }

      both : is_inside idle a p (render_over o kids) ≡ true → inside ≡ true
      both =
          inside_pair before look_same a c p q (render_over o kids) r more into
          (reached_pair before look_same p q (render_over o kids) r pair
          (λ lists e. reach_twin before look_same (below p (object_look o)) (below q (object_look w)) (renders_of kids) (renders_of under) (standing_finds before (below p (object_look o)) kids was.places) lists e))

      value : object_at old h ≡ Some o
      value = ap (option_map (λ (n : TreeNode RenderObject). n.value)) was.at

      of_list : IsListLeft old ranged claimed hs q w under → FlagsInside idle (is_inside idle a p (render_over o kids)) (below p (object_look o)) kids → FlagsInside now inside (below q (object_look w)) under
      of_list l f =
          let kept = l.left h o kids value number was.stands (sym (ap children_in was.at)) in
          let items : AreLeftItems before old claimed w.number (pruned claimed kids) = record {
            place = p;
            handle = h;
            list = o;
            items = kids;
            number_is = number;
            stood = ap (standing before.tree) (sym number) ∙ was.found;
            stands = was.stands;
            places = was.places;
            frames = was.frames;
            left = refl;
          } in
          list_items before look_same old ranged claimed hs a c q (pruned claimed kids) w under items kept.0 l.alike l.free kept.1 both out f

      by_list : (list : Bool) → Same kids under → FlagsInside idle (is_inside idle a p (render_over o kids)) (below p (object_look o)) kids → ListOr list (IsListLeft old ranged claimed hs q w under) (Left (below q (object_look w)) under)
          → UnlessList list (Shown inside (below q (object_look w)) under) → Below list inside q w under
      by_list true same f l s = of_list l f
      by_list false same f l s = go same (is_inside idle a p (render_over o kids)) inside both (λ e. into (or_right (now.is_changed q r) reach e)) l s f

      by_changed : inside ≡ false → (now.is_changed q r ≡ true) ⊎ (now.is_changed q r ≡ false) → Below (is_list (object_look w)) inside q w under
      by_changed outside (inl changed) = absurd (true≢false (sym (into (or_left (now.is_changed q r) reach changed)) ∙ outside))
      by_changed outside (inr still) = by_list (is_list (object_look w)) (unchanged before look_same p q (render_over o kids) r pair still).lists (flags outside) left shown

  outer_items : (j : Option Handle) (p q : RegionPlace) (f g : Forest RenderObject) → Stands (node_at old) j f → AreStanding before p f → HaveFrames before.frames f → Same f g → Left q g → (a c : Bool) → Shown c q g
      → (a ≡ true → c ≡ true) → (some_reaches_out now q (renders_of g) ≡ true → c ≡ true) → FlagsInside idle a p f → ItemsInside now c q g
  outer_items j p q f none stands places frames same left a c shown more out flags = tt
  outer_items j p q none (tree k w under rest) stands places frames same left a c shown more out flags = absurd (false≢true same)
  outer_items j p q (tree h o kids others) (tree k w under rest) stands places frames same left a c shown more out flags =
      let r : Render = render_over w under in
      let split = and_parts (is_child_same (o.number, o.parent_data) (w.number, w.parent_data)) (pointwise is_child_same (list_below (renders_of others)) (list_below (renders_of rest))) same in
      let number = numbers_of_pair before look_same o.number o.parent_data w.number w.parent_data split.0 in
      let was : HasStood p h o kids = record { parent = j; at = stands.0; stands = stands.1; found = places.0; places = places.1; frames = frames.1 } in (
        (λ is_shown. node_items a c p q h o kids w under was number left.0 shown.1 more (λ e. out (or_left (reaches_out now q r) (some_reaches_out now q (renders_of rest)) e))
            (λ lists d e further beneath l s below_flags. outer_items (Some h) (below p (object_look o)) (below q (object_look w)) kids under stands.1 places.1 frames.1 lists l d e s further beneath below_flags)
            (λ outside. (flags.0 (sym (shown.0 (or_parts c (now.is_firm q r && is_reached now q r) outside).0 h o (ap (option_map (λ (n : TreeNode RenderObject). n.value)) stands.0) number) ∙ is_shown)).1)),
        outer_items j p q others rest stands.2 places.2 frames.2 split.1 left.1 a c shown.2 more (λ e. out (or_right (reaches_out now q r) (some_reaches_out now q (renders_of rest)) e)) flags.1,
      )

  -- a root's tree
  pub root_items : (h k : Handle) (o w : RenderObject) (kids under : Forest RenderObject) → before.tree ≡ Some (render_over o kids) → AllDiffer (render_numbers_of (render_over o kids))
      → Stands (node_at old) None (tree h o kids none) → HaveFrames before.frames kids → RootFlagsInside idle (tree h o kids none) → Left at_root (tree k w under none)
      → RootShownAsBefore now old (tree k w under none) → RootItemsInside now (tree k w under none)
  root_items h k o w kids under was differ stands frames flags left shown = elim (cases_Bool (now.is_changed at_root (render_over w under))) [
    | inl changed ↦ by_list (is_list (object_look w)) inside (into (or_left (now.is_changed at_root r) (some_reaches_out now (below at_root (object_look w)) (renders_of under)) changed))
    | inr still ↦
        let number : o.number ≡ w.number = root_was before look_same old o kids r (standing_at w.number at_root (render_over o kids)) refl (sym (ap (λ t. is_changed_since (standing t w.number) before at_root r) was) ∙ still) in
        node_items a b at_root at_root h o kids w under known number left.0 shown (more number) (λ e. e)
        (λ lists d e further beneath l s below_flags. outer_items (Some h) (below at_root (object_look o)) (below at_root (object_look w)) kids under stands.1 known.places frames lists l d e s further beneath below_flags)
        (λ outside. flags.1)
  ]
    where
      r : Render
      r = render_over w under

      a : Bool
      a = reaches_out idle at_root (render_over o kids)

      b : Bool
      b = reaches_out now at_root r

      inside : Bool
      inside = is_inside now b at_root r

      into : is_reached now at_root r ≡ true → inside ≡ true
      into = reached_inside now b at_root r (λ e. e)

      finds : Finds (standing before.tree) at_root (render_over o kids)
      finds = subst (λ t. Finds (standing t) at_root (render_over o kids)) (sym was) (found at_root (render_over o kids) differ)

      known : HasStood at_root h o kids
      known = record { parent = None; at = stands.0; stands = stands.1; found = finds.0; places = finds_standing before (below at_root (object_look o)) kids finds.1; frames = frames }

      by_list : (list c : Bool) → c ≡ true → Below list c at_root w under
      by_list true true e = all_inside now (below at_root (object_look w)) under
      by_list true false e = absurd (false≢true e)
      by_list false c e = all_items now c (below at_root (object_look w)) under e

      more : o.number ≡ w.number → a ≡ true → b ≡ true
      more number e = root_reach before look_same o kids r number finds e

-- where there was no tree
pub first_items : (before : Before) (k : Handle) (w : RenderObject) (under : Forest RenderObject) → before.tree ≡ None → RootItemsInside (frame_judge before) (tree k w under none)
first_items before k w under was = by (is_list (object_look w)) inside (reached_inside now (reaches_out now at_root r) at_root r (λ e. e) (or_left (now.is_changed at_root r) (some_reaches_out now (below at_root (object_look w)) (renders_of under)) changed))
  where
    now : Judge
    now = frame_judge before

    r : Render
    r = render_over w under

    inside : Bool
    inside = is_inside now (reaches_out now at_root r) at_root r

    changed : now.is_changed at_root r ≡ true
    changed = ap (λ t. is_changed_since (standing t w.number) before at_root r) was

    by : (list c : Bool) → c ≡ true → ListOr list (FlagsInside now c (below at_root (object_look w)) under) (ItemsInside now c (below at_root (object_look w)) under)
    by true true e = all_inside now (below at_root (object_look w)) under
    by true false e = absurd (false≢true e)
    by false c e = all_items now c (below at_root (object_look w)) under e
