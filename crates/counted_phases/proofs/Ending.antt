-- The groups of the boundaries that are flagged at the end of a frame in two phases ask for painting.
use Rattle.std.proofs.Common.{◌≡◌, ◌≤◌, ℕ, zero, suc, length, Bool, true, false, ◌&&◌, ◌||◌, ◌⊎◌, Option, Some, None, option_map, List, [], ◌∷◌, ◌++◌, refl, sym, ap, ◌∙◌, subst, inl, inr, Decides, append-nil}
use Rattle.std.proofs.lemmas.Bool.{and_from, or_left, or_right, false≢true}
use Rattle.std.specs.Option.{option_to_list}
use Rattle.delegates.specs.Table.{Plug}
use Rattle.fx_handles.specs.declared.Handle.{Handle}
use Rattle.fx_handles.specs.Handle.{same}
use Rattle.fx_handles.specs.HandleLaws.{same-true}
use Rattle.fx_handles.specs.ArenaLaws.{same_Some}
use Rattle.node_tree.specs.Forest.{TreeNode, Forest, tops, Stands, map_values}
use Rattle.node_tree.specs.Forest.Forest.{none, tree}
use Rattle.node_tree.specs.Tree.{Tree, Is, IsTree, node_at}
use Rattle.node_tree.proofs.Children.{mapped_is}
use Rattle.node_tree.proofs.TreeLemmas.{is_node}
use Rattle.widget_model.specs.Look.{Look}
use Rattle.plain_tree.specs.Laid.{Laid}
use Rattle.plain_tree.specs.Laws.{render_numbers_of, render_numbers_in, AllDiffer}
use Rattle.plain_tree.specs.Render.{Render, render, Renders, no_renders, more_renders}
use Rattle.tree_marks.specs.Marking.{Above, at_top, within}
use Rattle.tree_marks.specs.Marks.{listed, has_listed, has_node, some_climbs, sweep}
use Rattle.tree_marks.proofs.Closing.{either}
use Rattle.tree_marks.proofs.MarkSteps.{node_stands}
use Rattle.work_roles.specs.Place.{RegionPlace, at_root, below}
use Rattle.work_sets.specs.Before.{Before}
use Rattle.work_sets.specs.InTree.{standing}
use Rattle.work_sets.specs.Members.{is_same_look}
use Rattle.work_sets.specs.Paint.{Asks, Shows, asks_paint, asks_idly, group_asks, paint_region}
use Rattle.work_sets.proofs.Found.{Finds, found}
use Rattle.kept_layers.specs.Group.{is_boundary}
use Rattle.kept_layers.specs.Steps.{painted_count}
use Rattle.layout_owner.specs.Left.{AreLeft}
use Rattle.layout_owner.specs.Roots.{IsPlaced, top_render}
use Rattle.layout_rules.specs.Nodes.{layout_nodes}
use Rattle.layout_rules.specs.Painting.{KeepsRest}
use Rattle.paint_owner.specs.Finding.{root_flag}
use Rattle.render_tree.specs.Marked.{SetsMarks}
use Rattle.render_tree.specs.Marks.{paint_marks, ends_painting}
use Rattle.render_tree.specs.Object.{RenderObject, object_look}
use Rattle.render_tree.specs.Plain.{laid_of, lazy_children, renders_of, root_tree}
use Rattle.render_tree.specs.Tree.{object_at}
use Rattle.screen_owner.specs.Changes.{AreKindsSo, AllKindsSo}
use Rattle.screen_owner.specs.Standing.{StandsAlone}
use Rattle.screen_owner.proofs.Showing.{part, parts, root_forest}
use Rattle.build_walk.specs.Changing.{render_over}
use Rattle.counted_work.specs.Drawn.{PaintsAreCaused, LayoutLeaves}
use Rattle.counted_work.specs.Painted.{paint_above, FlagsAsked, RootFlagsAsked, AreAsking}
use Rattle.counted_work.specs.Shows.{ArePutSo, PluggedAsBefore}
use Rattle.counted_work.proofs.Asking.{ask_node, climbs_ask}
use Rattle.counted_work.proofs.Differing.{differ_tree}
use Rattle.counted_work.proofs.Drawn.{quiet_from}
use Rattle.counted_work.proofs.Painted.{same_renders, swept_paints}
use Rattle.counted_work.proofs.PaintSearch.{RootKnown, root_known}
use Rattle.counted_work.proofs.Region.{painted_in_region, same_trans}
use Rattle.counted_work.proofs.Regroup.{OldRoot, IsFlagged, AreFlagged, root_asked}
use Rattle.counted_work.proofs.Relaid.{SameNodes, climbs_same, relaid_forest, relaid_nodes}
use Rattle.counted_work.proofs.Shown.{same_put, same_laid_tree}
use Rattle.counted_work.proofs.Synced.{lone_root}
use Rattle.counted_phases.specs.Climbing.{Climbs, flagged_before}
use Rattle.counted_phases.specs.Paints.{BuiltInPhases, AreStill}
use Rattle.counted_phases.proofs.AsOne.{as_one, laid_once, flagged_so, handles, mid_on, ranged_on, came_on}
use Rattle.counted_phases.proofs.Asked.{asking_all, new_asks}
use Rattle.counted_phases.proofs.Middle.{listed_split, stays, looking, moving, all_otherwise, quiet_once}
use Rattle.counted_phases.proofs.Climbing.{climbs_start, climbs_either, listed_first, listed_second, object_live}
use Rattle.counted_phases.proofs.Flags.{all_marks, flags_new}
use Rattle.counted_phases.proofs.Mapped.{maps_tree}
use Rattle.counted_phases.proofs.Stages.{none_some, first_marks, relaid_from, tree_brought}

-- ---- the same nodes with other flags

swept_nodes : (hs : List Handle) (p : Above) (f : Forest RenderObject) → SameNodes f (sweep paint_marks true hs p f)
swept_nodes hs p none = tt
swept_nodes hs p (tree h v kids rest) = (refl, refl, refl, swept_nodes hs (within paint_marks p v) kids, swept_nodes hs p rest)

same_self_nodes : (f : Forest RenderObject) → SameNodes f f
same_self_nodes none = tt
same_self_nodes (tree h v kids rest) = (refl, refl, refl, same_self_nodes kids, same_self_nodes rest)

module _ (flag : Handle → Bool) where
  abbrev flagged_by : Handle → RenderObject → RenderObject
  flagged_by k o = record o { needs_paint = flag k }

  mapped_nodes : (f : Forest RenderObject) → SameNodes f (map_values flagged_by f)
  mapped_nodes none = tt
  mapped_nodes (tree h v kids rest) = (refl, refl, refl, mapped_nodes kids, mapped_nodes rest)

  mapped_renders : (f : Forest RenderObject) → renders_of (map_values flagged_by f) ≡ renders_of f
  mapped_renders none = refl
  mapped_renders (tree h v kids rest) = λ i. more_renders (render v.number (object_look v) v.parent_data v.scroll (lazy_children v) (mapped_renders kids i)) (mapped_renders rest i)

  mapped_parts : (f : Forest RenderObject) → parts (map_values flagged_by f) ≡ parts f
  mapped_parts none = refl
  mapped_parts (tree h v kids rest) = λ i. tree h (part v) (mapped_parts kids i) (mapped_parts rest i)

module _ (look_same : (a b : Look) → Decides (is_same_look a b) (a ≡ b)) (before : Before) (last now_laid : Laid) (then now : List Plug) (plugs : PluggedAsBefore before.touched then now) (changed : List Handle)
    (old brought laid new : Tree RenderObject) (b : BuiltInPhases old brought laid) (caused : PaintsAreCaused before last then old) (out : LayoutLeaves now_laid now changed brought laid)
    (marks : SetsMarks paint_marks true changed laid new) (alone_old : StandsAlone old) (alone_laid : StandsAlone laid)
    (kinds : (k : Handle) (o w : RenderObject) → object_at old k ≡ Some o → object_at laid k ≡ Some w → is_boundary w ≡ is_boundary o) where
  abbrev keeps : KeepsRest brought laid
  keeps = out.rest

  abbrev shows : Shows
  shows = record { before = Some last; now = now_laid }

  abbrev asks : Asks
  asks = asks_paint before shows

  abbrev one : Tree RenderObject
  one = as_one old brought laid b keeps

  abbrev once : Tree RenderObject
  once = laid_once old brought laid b keeps

  -- ---- flags at the end, by what stands below each node

  abbrev plans : List Handle
  plans = (first_marks old b.mid b.first ++ b.second.painted) ++ moving old brought laid b keeps changed

  abbrev looks : List Handle
  looks = looking old brought laid b keeps changed

  abbrev begins : List Handle → Handle → Forest RenderObject → Bool
  begins hs k under = listed k hs || some_climbs paint_marks hs (paint_above false) under

  abbrev CausedBy : Handle → Forest RenderObject → Type 0
  CausedBy k under = (flagged_before (object_at old k) ≡ true) ⊎ ((begins plans k under ≡ true) ⊎ (begins looks k under ≡ true))

  abbrev AreCausedBy : Bool → Forest RenderObject → Type 0
  AreCausedBy top none = Unit {0}
  AreCausedBy top (tree k w under rest) =
      ((w.needs_paint || (begins changed k under && ends_painting top (object_look w))) ≡ true → CausedBy k under) × AreCausedBy false under × AreCausedBy top rest

  -- a mark of a node of the first list is one of the second
  climbs_more : (hs ks : List Handle) → ((j : Handle) → listed j hs ≡ true → listed j ks ≡ true) → (n : ℕ) (k : Handle) → Climbs new hs n k → Climbs new ks n k
  climbs_more hs ks more zero k c = more k c
  climbs_more hs ks more (suc n) k c = (c.0, c.1, c.2, climbs_more hs ks more n c.0 c.3)

  new_tree : IsTree new
  new_tree = (sweep paint_marks true changed at_top alone_laid.tree.0, marks.plain alone_laid.tree.0 alone_laid.tree.1)

  -- a mark of what a layout marks is of what moves, or of what stays
  climbs_split : (hs : List Handle) → ((j : Handle) → listed j hs ≡ true → listed j (b.changed ++ changed) ≡ true) → (n : ℕ) (k : Handle) → Climbs new hs n k → Climbs new plans n k ⊎ Climbs new looks n k
  climbs_split hs of zero k c = elim (listed_split (stays old brought laid b keeps) k (b.changed ++ changed) (of k c)) [
    | inl x ↦ inl (listed_second k (first_marks old b.mid b.first ++ b.second.painted) (moving old brought laid b keeps changed) x)
    | inr x ↦ inr x
  ]
  climbs_split hs of (suc n) k c = elim (climbs_split hs of n c.0 c.3) [
    | inl x ↦ inl (c.0, c.1, c.2, x)
    | inr x ↦ inr (c.0, c.1, c.2, x)
  ]

  climbs_plan : (hs : List Handle) → ((j : Handle) → listed j hs ≡ true → listed j (first_marks old b.mid b.first ++ b.second.painted) ≡ true) → (n : ℕ) (k : Handle) → Climbs new hs n k → Climbs new plans n k
  climbs_plan hs of n k c = climbs_more hs plans (λ j e. listed_first j (first_marks old b.mid b.first ++ b.second.painted) (moving old brought laid b keeps changed) (of j e)) n k c

  -- whatever it is a mark of
  climbs_by : (n : ℕ) (k : Handle) → Climbs new (all_marks old brought laid new changed b keeps marks) n k → Climbs new plans n k ⊎ Climbs new looks n k
  climbs_by n k c = elim (climbs_either new (((first_marks old b.mid b.first ++ b.changed) ++ b.second.painted) ++ b.second.painted) changed n k c) [
    | inr x ↦ climbs_split changed (λ j e. listed_second j b.changed changed e) n k x
    | inl x ↦ elim (climbs_either new ((first_marks old b.mid b.first ++ b.changed) ++ b.second.painted) b.second.painted n k x) [
      | inr y ↦ inl (climbs_plan b.second.painted (λ j e. listed_second j (first_marks old b.mid b.first) b.second.painted e) n k y)
      | inl y ↦ elim (climbs_either new (first_marks old b.mid b.first ++ b.changed) b.second.painted n k y) [
        | inr z ↦ inl (climbs_plan b.second.painted (λ j e. listed_second j (first_marks old b.mid b.first) b.second.painted e) n k z)
        | inl z ↦ elim (climbs_either new (first_marks old b.mid b.first) b.changed n k z) [
          | inl v ↦ inl (climbs_plan (first_marks old b.mid b.first) (λ j e. listed_first j (first_marks old b.mid b.first) b.second.painted e) n k v)
          | inr v ↦ climbs_split b.changed (λ j e. listed_first j b.changed changed e) n k v
        ]
      ]
    ]
  ]

  begins_below : (hs : List Handle) (n : ℕ) (k : Handle) (q : Option Handle) (x : RenderObject) (under : Forest RenderObject) → node_at new k ≡ Some (record { parent = q; children = tops (sweep paint_marks true changed (paint_above false) under); value = x })
      → Stands (node_at new) (Some k) (sweep paint_marks true changed (paint_above false) under) → Climbs new hs n k → begins hs k under ≡ true
  begins_below hs n k q x under at s c =
      ap (λ y. listed k hs || y) (climbs_same hs under (sweep paint_marks true changed (paint_above false) under) (swept_nodes changed (paint_above false) under))
      ∙ climbs_start new hs n k q x (sweep paint_marks true changed (paint_above false) under) at s c

  all_caused : (top : Bool) (q : Option Handle) (g : Forest RenderObject) → Stands (node_at new) q (sweep paint_marks true changed (paint_above top) g) → AreCausedBy top g
  all_caused top q none s = tt
  all_caused top q (tree k w under rest) s = (
    (λ flag.
        let x : RenderObject = paint_marks.marked (begins changed k under && ends_painting top (object_look w)) (has_below || (true && listed k changed)) w in
        let at_k : object_at new k ≡ Some x = ap (option_map (λ (y : TreeNode RenderObject). y.value)) s.0 in
        elim (flags_new old brought laid new changed b keeps marks k x at_k flag) [
          | inl base ↦ inl base
          | inr climbs ↦ elim (climbs_by climbs.0 k climbs.1) [
            | inl c ↦ inr (inl (begins_below plans climbs.0 k q x under s.0 s.1 c))
            | inr c ↦ inr (inr (begins_below looks climbs.0 k q x under s.0 s.1 c))
          ]
        ]),
    all_caused false (Some k) under s.1,
    all_caused top q rest s.2,
  )
    where
      has_below : Bool
      has_below = has_listed changed under

  -- ---- each flag's group asks

  abbrev flags : Handle → Bool
  flags k = flagged_before (object_at old k)

  abbrev set_so : Forest RenderObject → Forest RenderObject
  set_so f = map_values (flagged_so old brought laid b keeps) f

  renders_so : (f : Forest RenderObject) → renders_of (sweep paint_marks true looks (paint_above false) (set_so f)) ≡ renders_of f
  renders_so f =
      sym (same_renders (set_so f) (sweep paint_marks true looks (paint_above false) (set_so f)) (swept_paints true looks (paint_above false) (set_so f))) ∙ mapped_renders flags f

  begins_so : (k : Handle) (under : Forest RenderObject) → begins looks k under ≡ true → begins looks k (set_so under) ≡ true
  begins_so k under e = ap (λ y. listed k looks || y) (sym (climbs_same looks under (set_so under) (mapped_nodes flags under))) ∙ e

  abbrev GroupAsks : RegionPlace → RenderObject → Renders → Type 0
  GroupAsks q w rs = group_asks asks q (render w.number (object_look w) w.parent_data w.scroll (lazy_children w) rs) ≡ true

  one_group : (q : RegionPlace) (k : Handle) (w : RenderObject) (under : Forest RenderObject) (takes : Bool) → takes ≡ true → CausedBy k under → (listed k plans ≡ true → asks q (render_over w under) ≡ true) → AreAsking asks plans (below q (object_look w)) under
      → ((flagged_before (object_at old k) || (begins looks k (set_so under) && takes)) ≡ true → GroupAsks q w (renders_of (sweep paint_marks true looks (paint_above false) (set_so under))))
      → GroupAsks q w (renders_of (sweep paint_marks true changed (paint_above false) under))
  one_group q k w under takes does cause here asking go =
      subst (GroupAsks q w) (same_renders under (sweep paint_marks true changed (paint_above false) under) (swept_paints true changed (paint_above false) under)) (by_cause cause)
    where
      before_sweep : GroupAsks q w (renders_of (sweep paint_marks true looks (paint_above false) (set_so under))) → GroupAsks q w (renders_of under)
      before_sweep e = subst (GroupAsks q w) (renders_so under) e

      by_cause : CausedBy k under → GroupAsks q w (renders_of under)
      by_cause (inl base) = before_sweep (go (or_left (flagged_before (object_at old k)) (begins looks k (set_so under) && takes) base))
      by_cause (inr (inl plan)) = ask_node asks plans q k w under here (climbs_ask asks plans (below q (object_look w)) under asking) plan
      by_cause (inr (inr look)) =
          before_sweep (go (or_right (flagged_before (object_at old k)) (begins looks k (set_so under) && takes) (and_from (begins looks k (set_so under)) takes (begins_so k under look) does)))

  finish : (q : RegionPlace) (g : Forest RenderObject) → AreCausedBy false g → AreAsking asks plans q g → FlagsAsked asks q (sweep paint_marks true looks (paint_above false) (set_so g)) → FlagsAsked asks q (sweep paint_marks true changed (paint_above false) g)
  finish q none cause asking asked = tt
  finish q (tree k w under rest) cause asking asked = (
    (λ shown. (
      (λ boundary flag. one_group q k w under (ends_painting false (object_look w)) boundary (cause.0 flag) asking.0 asking.1 (λ e. (asked.0 shown).0 boundary e)),
      (λ opened. finish (below q (object_look w)) under cause.1 asking.1 ((asked.0 shown).1 opened)),
    )),
    finish q rest cause.2 asking.2 asked.1,
  )

  root_finish : (k : Handle) (w : RenderObject) (under : Forest RenderObject) → AreCausedBy true (tree k w under none) → AreAsking asks plans at_root (tree k w under none)
      → RootFlagsAsked asks (sweep paint_marks true looks (paint_above true) (set_so (tree k w under none))) → RootFlagsAsked asks (sweep paint_marks true changed (paint_above true) (tree k w under none))
  root_finish k w under cause asking asked = (
    (λ flag. one_group at_root k w under (ends_painting true (object_look w)) refl (cause.0 flag) asking.0 asking.1 (λ e. asked.0 e)),
    (λ opened. finish (below at_root (object_look w)) under cause.1 asking.1 (asked.1 opened)),
  )

  -- ---- with the roots of both trees

  module _ (h0 : Handle) (o0 : RenderObject) (kids0 : Forest RenderObject) (is0 : Is old (tree h0 o0 kids0 none)) (root_is : root_tree old ≡ tree h0 o0 kids0 none)
      (k : Handle) (w : RenderObject) (under : Forest RenderObject) (is1 : Is laid (tree k w under none)) (laid_root : root_tree laid ≡ tree k w under none) where
    was : before.tree ≡ Some (render_over o0 kids0)
    was = caused.tree ∙ ap (λ f. top_render (renders_of f)) root_is

    root0 : old.root ≡ Some h0
    root0 = (lone_root old.root h0 [] (ap (λ hs. option_to_list old.root ++ hs) (sym alone_old.alone) ∙ is0.tops)).0

    root1 : laid.root ≡ Some k
    root1 = (lone_root laid.root k [] (ap (λ hs. option_to_list laid.root ++ hs) (sym alone_laid.alone) ∙ is1.tops)).0

    differ0 : AllDiffer (render_numbers_in (renders_of (tree h0 o0 kids0 none)))
    differ0 = subst (λ f. AllDiffer (render_numbers_in (renders_of f))) root_is (differ_tree old alone_old.tree alone_old.alone alone_old.differ)

    differ1 : AllDiffer (render_numbers_in (renders_of (tree k w under none)))
    differ1 = subst (λ f. AllDiffer (render_numbers_in (renders_of f))) laid_root (differ_tree laid alone_laid.tree alone_laid.alone alone_laid.differ)

    placed0 : IsPlaced (tree h0 o0 kids0 none)
    placed0 = subst IsPlaced root_is caused.placed

    placed1 : IsPlaced (tree k w under none)
    placed1 = subst IsPlaced laid_root out.placed

    old_root : OldRoot before last now_laid look_same then now plugs old one once looks [] h0 o0 kids0
    old_root = record {
      stands = is0.stands;
      was = was;
      finds = subst (λ t. Finds (standing t) at_root (render_over o0 kids0)) (sym was) (found at_root (render_over o0 kids0) (subst AllDiffer (append-nil (render_numbers_of (render_over o0 kids0))) differ0));
      known = root_known h0 o0 kids0 last placed0.0 (subst (λ f. laid_of f ≡ Some last) root_is caused.shown) differ0;
      put = (subst (ArePutSo then) root_is caused.put).0 placed0.0;
      flags = subst (RootFlagsAsked (asks_idly before)) root_is caused.flags;
      whole = λ j n at. node_stands old (tree h0 o0 kids0 none) j is0 (is_node (node_at old j) n at);
    }

    once_is : Is once (set_so (tree k w under none))
    once_is = mapped_is (flagged_so old brought laid b keeps) laid once (tree k w under none) is1 (maps_tree (flagged_so old brought laid b keeps) laid) refl

    shown1 : laid_of (set_so (tree k w under none)) ≡ Some now_laid
    shown1 = same_laid_tree now_laid (tree k w under none) (set_so (tree k w under none)) (mapped_parts flags (tree k w under none)) (subst (λ f. laid_of f ≡ Some now_laid) laid_root out.shown)

    put1 : ArePutSo now (set_so (tree k w under none))
    put1 = same_put now (tree k w under none) (set_so (tree k w under none)) (mapped_parts flags (tree k w under none)) (subst (ArePutSo now) laid_root out.put)

    known1 : RootKnown now_laid (flagged_so old brought laid b keeps k w) (set_so under)
    known1 = root_known k (flagged_so old brought laid b keeps k w) (set_so under) now_laid placed1.0 shown1 (subst (λ rs. AllDiffer (render_numbers_in rs)) (sym (mapped_renders flags (tree k w under none))) differ1)

    -- a flag of before, or of a new node
    flag_cause : (q : RegionPlace) (j : Handle) (v : RenderObject) (f : Forest RenderObject) → object_at laid j ≡ Some v → flagged_before (object_at old j) ≡ true
        → IsFlagged before last now_laid look_same then now plugs old one once looks [] q j (flagged_so old brought laid b keeps j v) (set_so f)
    flag_cause q j v f at e = by_old (object_at old j) refl
      where
        by_old : (x : Option RenderObject) → object_at old j ≡ x → IsFlagged before last now_laid look_same then now plugs old one once looks [] q j (flagged_so old brought laid b keeps j v) (set_so f)
        by_old None gone =
            inl (ap (λ rs. asks q (render v.number (object_look v) v.parent_data v.scroll (lazy_children v) rs)) (mapped_renders flags f)
            ∙ new_asks look_same before last now_laid then now plugs old brought laid b keeps alone_old.tree alone_laid.tree h0 o0 kids0 is0.stands root0 was q j v f at gone)
        by_old (Some o) there = inr (inl (o, there, ap flagged_before (sym there) ∙ e))

    flags_caused : (q : RegionPlace) (a : Option Handle) (f : Forest RenderObject) → Stands (node_at laid) a f → AreFlagged before last now_laid look_same then now plugs old one once looks [] q (set_so f)
    flags_caused q a none s = tt
    flags_caused q a (tree j v kids rest) s = (
      (λ e. flag_cause q j v kids (ap (option_map (λ (y : TreeNode RenderObject). y.value)) s.0) e),
      flags_caused (below q (object_look v)) (Some j) kids s.1,
      flags_caused q a rest s.2,
    )

    none_asking : (q : RegionPlace) (f : Forest RenderObject) → AreAsking asks [] q f
    none_asking q none = tt
    none_asking q (tree j v kids rest) = ((λ e. absurd (false≢true e)), none_asking (below q (object_look v)) kids, none_asking q rest)

    brought_tree : IsTree brought
    brought_tree = tree_brought b.ranged brought b.second

    -- the nodes that were brought
    module _ (f : Forest RenderObject) (is_f : Is brought f) (brought_root : root_tree brought ≡ f) where
      left : AreLeft (layout_nodes f) (layout_nodes (tree k w under none))
      left = subst (λ x. AreLeft (layout_nodes x) (layout_nodes (tree k w under none))) brought_root (subst (λ x. AreLeft (layout_nodes (root_tree brought)) (layout_nodes x)) laid_root out.left)

      asked_once : RootFlagsAsked asks (sweep paint_marks true looks (paint_above true) (set_so (tree k w under none)))
      asked_once =
          let quiet = quiet_from brought laid keeps changed out.otherwise before last now_laid look_same then now plugs old None None f (tree k w under none) is_f.stands is1.stands left in
          let all_quiet = quiet_once old brought laid b keeps before last now_laid look_same then now plugs changed None (tree k w under none) is1.stands (subst (AreStill b.mid b.ranged b.changed) laid_root b.still) quiet in
          root_asked before last now_laid look_same then now plugs old one once looks []
          (handles old brought laid b keeps before last now_laid look_same then now plugs looks kinds caused.frames (all_otherwise old brought laid b keeps alone_laid.tree changed out.otherwise))
          h0 o0 kids0 old_root k (flagged_so old brought laid b keeps k w) (set_so under) once_is.stands known1 (put1.0 placed1.0).0 (put1.0 placed1.0).1 (all_quiet.0 placed1.0)
          (flags_caused at_root None (tree k w under none) is1.stands) (none_asking at_root (set_so (tree k w under none)))

      asked_new : RootFlagsAsked asks (sweep paint_marks true changed at_top (tree k w under none))
      asked_new =
          root_finish k w under (all_caused true None (tree k w under none) (marks.plain (tree k w under none) is1).stands)
          (asking_all look_same before last now_laid then now plugs old brought laid b keeps alone_old.tree alone_laid.tree h0 o0 kids0 is0.stands root0 was changed k w under root1 is1.stands) asked_once

      same_all : SameNodes f (sweep paint_marks true changed at_top (tree k w under none))
      same_all =
          same_trans f (tree k w under none) (sweep paint_marks true changed at_top (tree k w under none))
          (relaid_nodes f f (tree k w under none) (same_self_nodes f)
          (relaid_forest brought laid keeps None f (tree k w under none) is_f.stands is1.stands
          (sym is_f.tops ∙ (ap (λ r. option_to_list r ++ brought.inactive) (sym keeps.root) ∙ (ap (λ hs. option_to_list laid.root ++ hs) (sym keeps.inactive) ∙ is1.tops)))))
          (swept_nodes changed at_top (tree k w under none))

      pub painted : (top : Render) → renders_of (root_tree brought) ≡ more_renders top no_renders → painted_count (root_flag (root_tree new)) (root_tree new) ≤ length (paint_region before shows top)
      painted top renders =
          let new_root : root_tree new ≡ sweep paint_marks true changed at_top (tree k w under none) =
          root_forest new (sweep paint_marks true changed at_top (tree k w under none)) (marks.inactive ∙ alone_laid.alone) (marks.plain (tree k w under none) is1) in
          painted_in_region before shows f (root_tree new) top (ap renders_of (sym brought_root) ∙ renders) (subst (SameNodes f) (sym new_root) same_all) (subst (RootFlagsAsked asks) (sym new_root) asked_new)

-- ---- nodes that are RepaintBoundaries as they were

module _ (old brought laid : Tree RenderObject) (b : BuiltInPhases old brought laid) (keeps : KeepsRest brought laid) where
  number_on : (k : Handle) (o v : RenderObject) → object_at old k ≡ Some o → object_at brought k ≡ Some v → o.number ≡ v.number
  number_on k o v at_o at_v =
      let m = mid_on old brought laid b keeps k o at_o in
      let r = ranged_on old brought laid b keeps k m.object m.is in
      let c = came_on old brought laid b keeps k v at_v in
      elim c.before [
        | inl gone ↦ none_some r.object (sym (ap (option_map (λ (y : TreeNode RenderObject). y.value)) gone) ∙ r.is)
        | inr was ↦ sym (r.number ∙ m.number) ∙ (ap (λ (y : RenderObject). y.number) (same_Some (sym r.is ∙ was.0)) ∙ c.number)
      ]

  kind_in : (q : Option Handle) (f : Forest RenderObject) → Stands (node_at brought) q f → AllKindsSo old (renders_of f) → (k : Handle) → has_node k f ≡ true → (o v : RenderObject) → object_at old k ≡ Some o → object_at brought k ≡ Some v → is_boundary v ≡ is_boundary o
  kind_in q none s so k there o v at_o at_v = absurd (false≢true there)
  kind_in q (tree j w under rest) s so k there o v at_o at_v = elim (either (same j k) (has_node k under || has_node k rest) there) [
    | inl e ↦
        let value : w ≡ v = same_Some (sym (ap (option_map (λ (y : TreeNode RenderObject). y.value)) s.0) ∙ (ap (object_at brought) (same-true j k e) ∙ at_v)) in
        ap is_boundary (sym value) ∙ so.0.0 k o at_o (number_on k o v at_o at_v ∙ ap (λ (y : RenderObject). y.number) (sym value))
    | inr later ↦ elim (either (has_node k under) (has_node k rest) later) [
      | inl x ↦ kind_in (Some j) under s.1 so.0.1 k x o v at_o at_v
      | inr x ↦ kind_in q rest s.2 so.1 k x o v at_o at_v
    ]
  ]

  pub kinds_same : (top : Render) → AreKindsSo old top → brought.inactive ≡ [] → renders_of (root_tree brought) ≡ more_renders top no_renders → (k : Handle) (o w : RenderObject) → object_at old k ≡ Some o → object_at laid k ≡ Some w → is_boundary w ≡ is_boundary o
  kinds_same top kinds alone renders k o w at_o at_w =
      let v = relaid_from brought laid keeps k w at_w in
      let is : IsTree brought = tree_brought b.ranged brought b.second in
      let all : AllKindsSo old (renders_of is.0) = subst (AllKindsSo old) (sym renders ∙ ap renders_of (root_forest brought is.0 alone is.1)) (kinds, tt) in
      ap is_boundary v.2 ∙ kind_in None is.0 is.1.stands all k (node_stands brought is.0 k is.1 (object_live brought k v.0 v.1)) o v.0 at_o v.1

-- ---- the whole

module _ (look_same : (a b : Look) → Decides (is_same_look a b) (a ≡ b)) (before : Before) (last now_laid : Laid) (then now : List Plug) (plugs : PluggedAsBefore before.touched then now) (changed : List Handle)
    (old brought laid new : Tree RenderObject) (top : Render) (b : BuiltInPhases old brought laid) (caused : PaintsAreCaused before last then old) (out : LayoutLeaves now_laid now changed brought laid)
    (marks : SetsMarks paint_marks true changed laid new) (alone_old : StandsAlone old) (alone_laid : StandsAlone laid) (kinds : AreKindsSo old top) (renders : renders_of (root_tree brought) ≡ more_renders top no_renders) where
  abbrev Few : Type 0
  Few = painted_count (root_flag (root_tree new)) (root_tree new) ≤ length (paint_region before (record { before = Some last; now = now_laid }) top)

  one_top : (t : Tree RenderObject) (h : Handle) (o : RenderObject) (kids rest : Forest RenderObject) → t.inactive ≡ [] → Is t (tree h o kids rest) → rest ≡ none
  one_top t h o kids none alone is = refl
  one_top t h o kids (tree k v under more) alone is = absurd (some_none (lone_root t.root h (k ∷ tops more) (ap (λ hs. option_to_list t.root ++ hs) (sym alone) ∙ is.tops)).1)
    where
      some_none : k ∷ tops more ≡ [] → ⊥
      some_none e = cc

  alone_brought : brought.inactive ≡ []
  alone_brought = sym out.rest.inactive ∙ alone_laid.alone

  by_laid : (h0 : Handle) (o0 : RenderObject) (kids0 : Forest RenderObject) → Is old (tree h0 o0 kids0 none) → (g : Forest RenderObject) → Is laid g → Few
  by_laid h0 o0 kids0 is0 none is1 = absurd (subst IsPlaced (root_forest laid none alone_laid.alone is1) out.placed)
  by_laid h0 o0 kids0 is0 (tree k w under rest) is1 =
      let single : rest ≡ none = one_top laid k w under rest alone_laid.alone is1 in
      let is : Is laid (tree k w under none) = subst (λ x. Is laid (tree k w under x)) single is1 in
      let is_f : IsTree brought = tree_brought b.ranged brought b.second in
      painted look_same before last now_laid then now plugs changed old brought laid new b caused out marks alone_old alone_laid (kinds_same old brought laid b out.rest top kinds alone_brought renders)
      h0 o0 kids0 is0 (root_forest old (tree h0 o0 kids0 none) alone_old.alone is0) k w under is (root_forest laid (tree k w under none) alone_laid.alone is)
      is_f.0 is_f.1 (root_forest brought is_f.0 alone_brought is_f.1) top renders

  by_old : (f : Forest RenderObject) → Is old f → Few
  by_old none is0 = absurd (subst IsPlaced (root_forest old none alone_old.alone is0) caused.placed)
  by_old (tree h0 o0 kids0 rest) is0 = by_laid h0 o0 kids0 (subst (λ x. Is old (tree h0 o0 kids0 x)) (one_top old h0 o0 kids0 rest alone_old.alone is0) is0) alone_laid.tree.0 alone_laid.tree.1

  pub few_painted : Few
  few_painted = by_old alone_old.tree.0 alone_old.tree.1
