-- No render node becomes a RepaintBoundary, or stops being one, in a step of a build.
use Rattle.std.proofs.Common.{◌≡◌, ℕ, ◌<◌, ◌≤◌, Bool, true, false, cond, Option, Some, None, option_map, ◌⊎◌, refl, sym, ap, subst, ◌∙◌, inl, inr, arith}
use Rattle.std.specs.Option.{option_to_list}
use Rattle.fx_handles.specs.declared.Handle.{Handle}
use Rattle.node_tree.specs.Children.{Keeps}
use Rattle.node_tree.specs.Forest.{TreeNode, Forest, In}
use Rattle.node_tree.specs.Forest.Forest.{none, tree}
use Rattle.node_tree.specs.Tree.{Tree, node_at as stored_at}
use Rattle.node_tree.proofs.ForestLemmas.{same_Some}
use Rattle.widget_model.specs.Look.{Look}
use Rattle.widget_model.specs.Plain.{PlainWidget, look_of}
use Rattle.work_roles.specs.WorkRole.{is_repaint_boundary}
use Rattle.plain_tree.specs.declared.role.RenderRole.TheVariants.{Plain}
use Rattle.plain_tree.specs.At.{numbers_of}
use Rattle.plain_tree.specs.Laws.{AllDiffer}
use Rattle.plain_tree.specs.PlainNode.{PlainNode, nodes_of as listed}
use Rattle.plain_tree.specs.Projection.{projected_all}
use Rattle.plain_tree.specs.Render.{renders_of as renders_listed}
use Rattle.plain_tree.specs.RenderRole.{render_role_of, vanishes}
use Rattle.program_check.specs.Checked.{PlainChecked}
use Rattle.element_tree.specs.Element.{Element, made_count}
use Rattle.global_keys.specs.Holders.{Registry}
use Rattle.render_sync.specs.Numbering.{NumbersDiffer, number_at}
use Rattle.render_tree.specs.Object.{RenderObject, object_look}
use Rattle.render_tree.specs.Tree.{object_at}
use Rattle.screen_owner.specs.Changes.{BuiltNode, built_node, SameBuilt}
use Rattle.screen_owner.proofs.Indexing.{layouts_built, paints_built, built_on, same_numbers}
use Rattle.build_form.specs.FullBuild.{Screen}
use Rattle.build_form.specs.KeptStates.{HadOrIsNew, EachIs}
use Rattle.build_form.specs.Program.{blueprint_of}
use Rattle.build_walk.specs.Merging.{ListsAreBare}
use Rattle.build_walk.proofs.Settled.{stands_front}
use Rattle.kept_phases.specs.Lists.{StaysBuilt}
use Rattle.kept_phases.specs.Redraws.{KeepsKinds}
use Rattle.build_owner.specs.Phases.{IsFirstPhase, IsWholeBuild, first_node_of}
use Rattle.build_owner.specs.Standing.{Beginning, next_at}
use Rattle.build_owner.specs.Staying.{lists_object, bare, HadAlready}
use Rattle.build_owner.specs.Waiting.{WaitingBuild}
use Rattle.frame_owner.proofs.Covered.{first_covers}
use Rattle.frame_owner.proofs.Filled.{stays_whole}
use Rattle.frame_owner.proofs.Alike.{OneHas, AreOf, SameNumbers, stored_live, are_of, one_kind, fences_on, whole_kinds, part_kinds}
use Rattle.frame_owner.proofs.Looks.{NodeHas, RendersHave, AreThere, stand_there, object_has, object_with, from_all, all_shown, all_seen, looks_seen, kind_in}
use Rattle.frame_owner.proofs.Numbered.{part_numbers, whole_numbers}

-- ---- what is known of a node after marks were set

same_built : (x y : BuiltNode) → Some x ≡ Some y → x ≡ y
same_built x y e = cc

pub record SameAt (t : Tree RenderObject) (k : Handle) (v : RenderObject) : Type 0 where
  pub object : RenderObject
  pub stored : object_at t k ≡ Some object
  pub number : object.number ≡ v.number
  pub widget : object.widget ≡ v.widget

pub same_at : (t u : Tree RenderObject) → SameBuilt t u → (k : Handle) (v : RenderObject) → object_at t k ≡ Some v → SameAt u k v
same_at t u same k v at = by_object (object_at u k) refl
  where
    known : option_map built_node (object_at u k) ≡ Some (built_node v)
    known = same k ∙ ap (option_map built_node) at

    by_object : (o : Option RenderObject) → object_at u k ≡ o → SameAt u k v
    by_object None e = absurd (let gone : None ≡ Some (built_node v) = sym (ap (option_map built_node) e) ∙ known in cc)
    by_object (Some o) e =
        let is : built_node o ≡ built_node v = same_built (built_node o) (built_node v) (sym (ap (option_map built_node) e) ∙ known) in
        record { object = o; stored = e; number = ap (λ (x : BuiltNode). x.number) is; widget = ap (λ (x : BuiltNode). x.widget) is }

are_of_marked : (n : Option PlainNode) (t u : Tree RenderObject) → SameBuilt t u → AreOf n u → AreOf n t
are_of_marked n t u same are k v at =
    let x = same_at t u same k v at in
    let here : OneHas n v.number (object_look x.object) = subst (λ w. OneHas n w (object_look x.object)) x.number (are k x.object x.stored) in
    subst (λ w. OneHas n v.number (look_of w)) x.widget here

-- an old node keeps its number in what new nodes were added to
kept_object : (old made : Tree RenderObject) → Keeps old made → (k : Handle) (o : RenderObject) → object_at old k ≡ Some o → object_at made k ≡ Some o
kept_object old made keeps k o at = ap (option_map (λ (n : TreeNode RenderObject). n.value)) (keeps k (stored_live (stored_at old k) o at)) ∙ at

numbers_from : (old made new : Tree RenderObject) → Keeps old made → ((k : Handle) (n : ℕ) → number_at new k ≡ Some n → number_at made k ≡ Some n) → SameNumbers old new
numbers_from old made new keeps from k o v at_old at_new =
    number_same v.number o.number
    (sym (from k v.number (ap (option_map (λ (x : RenderObject). x.number)) at_new)) ∙ ap (option_map (λ (x : RenderObject). x.number)) (kept_object old made keeps k o at_old))
  where
    number_same : (a b : ℕ) → Some a ≡ Some b → a ≡ b
    number_same a b e = cc

-- ---- a build in one phase

module _ (c : PlainChecked) (t0 : Tree Element) (r0 : Tree RenderObject) (g0 : Registry) (b : Beginning c t0 r0 g0) where
  pub were_of : AreOf b.old r0
  were_of = are_of b.old r0 b.stands.renders.objects b.stands.renders.is b.stands.renders.projected

  module _ (screen : Screen) (w : PlainWidget) (was : Tree RenderObject) (t : Tree Element) (r : Tree RenderObject) (g : Registry) (p : IsWholeBuild c t0 r0 g0 b screen w was t r g) where
    marked : SameBuilt p.redrawn.committed r
    marked = built_on p.redrawn.committed p.redrawn.laid_marked r (layouts_built true p.redrawn.laid p.redrawn.committed p.redrawn.laid_marked p.redrawn.layouts)
        (paints_built true p.redrawn.painted p.redrawn.laid_marked r p.redrawn.paints)

    pub committed_of : AreOf (Some p.tree) p.redrawn.committed
    committed_of = are_of_marked (Some p.tree) p.redrawn.committed r marked (are_of (Some p.tree) r p.stands.renders.objects p.stands.renders.is p.stands.renders.projected)

    pub committed_numbers : SameNumbers was p.redrawn.committed
    committed_numbers = numbers_from was p.made p.redrawn.committed p.keeps (λ k n e. whole_numbers _ p.made p.redrawn.committed p.redrawn.commits k n e)

  pub whole_keeps_kinds : (screen : Screen) (w : PlainWidget) (t : Tree Element) (r : Tree RenderObject) (g : Registry) (p : IsWholeBuild c t0 r0 g0 b screen w r0 t r g)
      → EachIs (HadOrIsNew (blueprint_of c) b.old (next_at t0)) p.tree → KeepsKinds r0 p.redrawn.committed
  whole_keeps_kinds screen w t r g p states =
      whole_kinds (blueprint_of c) (next_at t0) b.old p.tree b.stands.elements.numbered states r0 p.redrawn.committed (committed_numbers screen w r0 t r g p) were_of (committed_of screen w r0 t r g p)

  -- ---- the first phase

  module _ (w : PlainWidget) (t : Tree Element) (mid : Tree RenderObject) (g : Registry) (l : WaitingBuild) (q : IsFirstPhase c t0 r0 g0 b w t mid g l) where
    abbrev part : PlainNode
    part = first_node_of q

    first_marked : SameBuilt q.redrawn.committed mid
    first_marked = built_on q.redrawn.committed q.redrawn.laid_marked mid (layouts_built true _ q.redrawn.committed q.redrawn.laid_marked q.redrawn.layouts) (paints_built true _ q.redrawn.laid_marked mid q.redrawn.paints)

    -- the numbers are those of the nodes that were made
    pub first_numbers : (k : Handle) → number_at mid k ≡ number_at q.made k
    first_numbers k = same_numbers q.redrawn.committed mid first_marked k ∙ part_numbers _ q.made q.redrawn.committed q.redrawn.commits k

    -- the render nodes of the first phase's tree
    pub first_there : AreThere (stored_at mid) (bare lists_object q.stand.objects)
    first_there = bare_there q.stand.objects (stand_there (stored_at mid) None q.stand.objects (stands_front (stored_at mid) None q.stand.objects q.stand.others q.stand.is.stands))
      where
        below_there : (v : Bool) (f : Forest RenderObject) → AreThere (stored_at mid) f → AreThere (stored_at mid) (cond v none f)
        below_there true f h = tt
        below_there false f h = h

        bare_there : (f : Forest RenderObject) → AreThere (stored_at mid) f → AreThere (stored_at mid) (bare lists_object f)
        bare_there none h = tt
        bare_there (tree h v kids rest) x = (x.0, below_there (lists_object v) (bare lists_object kids) (bare_there kids x.1), bare_there rest x.2)

    pub first_has : (k : Handle) (v : RenderObject) → object_at mid k ≡ Some v → In k (bare lists_object q.stand.objects) → NodeHas v.number (object_look v) part
    first_has k v at among =
        of_list
        (from_all v.number (object_look v) Plain None (listed (option_to_list (Some part)))
        (subst (RendersHave v.number (object_look v)) q.stand.projected (object_has (stored_at mid) (bare lists_object q.stand.objects) first_there k among v at)))
      where
        of_list : NodeHas v.number (object_look v) part ⊎ ⊥ → NodeHas v.number (object_look v) part
        of_list (inl h) = h
        of_list (inr h) = absurd h

    pub first_keeps_kinds : EachIs (HadOrIsNew (blueprint_of c) b.old (next_at t0)) part → KeepsKinds r0 q.redrawn.committed
    first_keeps_kinds states =
        part_kinds (blueprint_of c) (next_at t0) b.old part b.stands.elements.numbered states r0 q.redrawn.committed
        (numbers_from r0 q.made q.redrawn.committed q.walked.since.renders (λ k n e. sym (part_numbers _ q.made q.redrawn.committed q.redrawn.commits k) ∙ e))
        were_of now
      where
        now : (k : Handle) (o v : RenderObject) → object_at r0 k ≡ Some o → object_at q.redrawn.committed k ≡ Some v → NodeHas v.number (object_look v) part ⊎ (object_look v ≡ object_look o)
        now k o v at_old at_new =
            let x = same_at q.redrawn.committed mid first_marked k v at_new in
            elim (q.stand.rest k x.object x.stored) [
              | inl among ↦
                  let here = subst (λ n. NodeHas n (object_look x.object) part) x.number (first_has k x.object x.stored among) in
                  inl (subst (λ y. NodeHas v.number (look_of y) part) x.widget here)
              | inr had ↦
                  let same_object : had.object ≡ o = same_Some (sym had.stored ∙ kept_object r0 q.made q.walked.since.renders k o at_old) in
                  inr (ap look_of (sym x.widget ∙ (had.widget ∙ ap (λ (y : RenderObject). y.widget) same_object)))
            ]

    -- ---- the second phase

    module _ (screen : Screen) (was : Tree RenderObject) (t2 : Tree Element) (r2 : Tree RenderObject) (g2 : Registry) (p : IsWholeBuild c t0 r0 g0 b screen w was t2 r2 g2)
        (lists : ListsAreBare part) (differ : NumbersDiffer mid) where
      abbrev whole : PlainNode
      whole = p.tree

      inside : (n : ℕ) (k : Look) → NodeHas n k part → NodeHas n k whole
      inside n k h = stays_whole n k (blueprint_of c) screen b.old (next_at t0) (next_at t2) w part whole _ q.walked.is p.is lists h

      whole_differs : AllDiffer (numbers_of whole)
      whole_differs = p.stands.elements.numbered.differ

      whole_seen : (k : Handle) (v : RenderObject) → object_at p.redrawn.committed k ≡ Some v → vanishes (render_role_of (object_look v)) ≡ false
      whole_seen k v at =
          let x = same_at p.redrawn.committed r2 (marked screen w was t2 r2 g2 p) k v at in
          let there = stand_there (stored_at r2) None p.stands.renders.objects p.stands.renders.is.stands in
          let has = object_has (stored_at r2) p.stands.renders.objects there k (p.stands.renders.is.whole k (stored_live (stored_at r2 k) x.object x.stored)) x.object x.stored in
          ap (λ y. vanishes (render_role_of (look_of y))) (sym x.widget)
          ∙ looks_seen x.object.number (object_look x.object) (renders_listed (projected_all Plain None (listed (option_to_list (Some whole)))))
          (all_seen Plain None (listed (option_to_list (Some whole)))) (subst (RendersHave x.object.number (object_look x.object)) p.stands.renders.projected has)

      -- a node that is made in the first phase is one of its tree, if it is one of the whole tree
      made_inside : (k : Handle) (m v : RenderObject) → object_at mid k ≡ Some m → stored_at r0 k ≡ None → NodeHas m.number (object_look v) whole → vanishes (render_role_of (object_look v)) ≡ false
          → NodeHas m.number (object_look m) part
      made_inside k m v at gone here seen = by_made (stored_at q.made k) refl
        where
          number_is : number_at q.made k ≡ Some m.number
          number_is = sym (first_numbers k) ∙ ap (option_map (λ (x : RenderObject). x.number)) at

          same_handle : (j : Handle) (x : RenderObject) → object_at mid j ≡ Some x → x.number ≡ m.number → j ≡ k
          same_handle j x at_j e = differ m.number j k (ap (option_map (λ (y : RenderObject). y.number)) at_j ∙ ap (λ (n : ℕ). Some n) e) (ap (option_map (λ (y : RenderObject). y.number)) at)

          in_part : (y : Look) → NodeHas m.number y part → NodeHas m.number (object_look m) part
          in_part y h =
              let same_look : y ≡ object_look v = one_kind whole m.number y (object_look v) whole_differs (inside m.number y h) here in
              let shown = all_shown m.number y (ap (λ z. vanishes (render_role_of z)) same_look ∙ seen) Plain None (listed (option_to_list (Some part))) (inl h) in
              let x = object_with (stored_at mid) (bare lists_object q.stand.objects) m.number y first_there (subst (RendersHave m.number y) (sym q.stand.projected) shown) in
              let one = same_handle x.handle x.object x.stored x.number in
              first_has k m at (subst (λ j. In j (bare lists_object q.stand.objects)) one x.among)

          by_number : (n : ℕ) → n ≡ m.number → made_count t0 < n → n ≤ made_count t → NodeHas m.number (object_look m) part
          by_number n e low high =
              let among = first_covers (blueprint_of c) b.old (next_at t0) w part _ q.walked.is n (omega (arith, low)) (omega (arith, high)) in
              let y = kind_in n part among in
              in_part y.0 (subst (λ x. NodeHas x y.0 part) e y.1)

          by_made : (x : Option (TreeNode RenderObject)) → stored_at q.made k ≡ x → NodeHas m.number (object_look m) part
          by_made None e =
              absurd (none_some m.number (sym (ap (λ (y : Option (TreeNode RenderObject)). option_map (λ (o : RenderObject). o.number) (option_map (λ (n : TreeNode RenderObject). n.value) y)) e) ∙ number_is))
            where
              none_some : (n : ℕ) → None ≡ Some n → ⊥
              none_some n e = cc
          by_made (Some n) e =
              let fresh = q.walked.makes.fresh k n gone e in
              let own : n.value.number ≡ m.number = some_same n.value.number m.number
              (sym (ap (λ (y : Option (TreeNode RenderObject)). option_map (λ (o : RenderObject). o.number) (option_map (λ (z : TreeNode RenderObject). z.value) y)) e) ∙ number_is) in
              by_number fresh.0 (sym (ap (λ (y : TreeNode RenderObject). y.value.number) fresh.2) ∙ own) fresh.3 fresh.4
            where
              some_same : (a d : ℕ) → Some a ≡ Some d → a ≡ d
              some_same a d e = cc

      pub later_keeps_kinds : StaysBuilt mid was → EachIs (HadOrIsNew (blueprint_of c) b.old (next_at t0)) whole → KeepsKinds was p.redrawn.committed
      later_keeps_kinds stays states k o v at_was at_new = by_mid (object_at mid k) refl
        where
          widget_same : (x y : PlainWidget) → Some x ≡ Some y → x ≡ y
          widget_same x y e = cc

          no_widget : (x : PlainWidget) → Some x ≡ None → ⊥
          no_widget x e = cc

          -- a kind of the whole tree's node with the number is that of the first one's
          as_part : (m : RenderObject) → NodeHas m.number (object_look v) whole → NodeHas m.number (object_look m) part → is_repaint_boundary (object_look v) ≡ is_repaint_boundary (object_look m)
          as_part m here there = ap is_repaint_boundary (one_kind whole m.number (object_look v) (object_look m) whole_differs here (inside m.number (object_look m) there))

          by_old : (m : RenderObject) → object_at mid k ≡ Some m → HadAlready q.made k m → NodeHas m.number (object_look v) whole → (x : Option (TreeNode RenderObject)) → stored_at r0 k ≡ x
              → is_repaint_boundary (object_look v) ≡ is_repaint_boundary (object_look m)
          by_old m at had here None gone = as_part m here (made_inside k m v at gone here (whole_seen k v at_new))
          by_old m at had here (Some n) is =
              let was_there : object_at r0 k ≡ Some n.value = ap (option_map (λ (y : TreeNode RenderObject). y.value)) is in
              let same_object : had.object ≡ n.value = same_Some (sym had.stored ∙ kept_object r0 q.made q.walked.since.renders k n.value was_there) in
              let number : n.value.number ≡ m.number =
              number_same n.value.number m.number
              (sym (ap (option_map (λ (y : RenderObject). y.number)) (kept_object r0 q.made q.walked.since.renders k n.value was_there))
              ∙ (sym (first_numbers k) ∙ ap (option_map (λ (y : RenderObject). y.number)) at)) in
              let widget : n.value.widget ≡ m.widget = ap (λ (y : RenderObject). y.widget) (sym same_object) ∙ sym had.widget in
              let one : OneHas b.old m.number (object_look n.value) = subst (λ y. OneHas b.old y (object_look n.value)) number (were_of k n.value was_there) in
              fences_on (blueprint_of c) (next_at t0) b.old whole b.stands.elements.numbered states m.number (object_look m) (object_look v)
              (subst (λ y. OneHas b.old m.number (look_of y)) widget one) here
            where
              number_same : (x y : ℕ) → Some x ≡ Some y → x ≡ y
              number_same x y e = cc

          by_mid : (x : Option RenderObject) → object_at mid k ≡ x → is_repaint_boundary (object_look v) ≡ is_repaint_boundary (object_look o)
          by_mid None e =
              absurd (no_widget o.widget
              (sym (ap (option_map (λ (y : RenderObject). y.widget)) at_was) ∙ (stays.widgets k ∙ ap (option_map (λ (y : RenderObject). y.widget)) e)))
          by_mid (Some m) e =
              let drawn = stays.drawn k m e in
              let same_object : drawn.0 ≡ o = same_Some (sym drawn.1 ∙ at_was) in
              let number : o.number ≡ m.number = ap (λ (y : RenderObject). y.number) (sym same_object) ∙ drawn.2 in
              let widget : o.widget ≡ m.widget =
              widget_same o.widget m.widget (sym (ap (option_map (λ (y : RenderObject). y.widget)) at_was) ∙ (stays.widgets k ∙ ap (option_map (λ (y : RenderObject). y.widget)) e)) in
              let here : NodeHas m.number (object_look v) whole =
              subst (λ y. NodeHas y (object_look v) whole) (committed_numbers screen w was t2 r2 g2 p k o v at_was at_new ∙ number) (committed_of screen w was t2 r2 g2 p k v at_new) in
              of_mid m e here ∙ ap (λ y. is_repaint_boundary (look_of y)) (sym widget)
            where
              of_mid : (m : RenderObject) → object_at mid k ≡ Some m → NodeHas m.number (object_look v) whole → is_repaint_boundary (object_look v) ≡ is_repaint_boundary (object_look m)
              of_mid m e here = elim (q.stand.rest k m e) [
                | inl among ↦ as_part m here (first_has k m e among)
                | inr had ↦ by_old m e had here (stored_at r0 k) refl
              ]
