-- The second phase of a build, from the first one's plans and what was planned for the items.
use Rattle.std.proofs.Common.{◌≡◌, ◌⊎◌, ℕ, ◌+◌, ◌≤◌, Bool, true, false, cond, length, Option, Some, None, IsSome, IfSome, option_map, List, [], ◌∷◌, ◌++◌, map, inl, inr, refl, sym, ap, ◌∙◌, subst, arith}
use Rattle.std.specs.List.{All}
use Rattle.std.proofs.lemmas.List.{append-nil, length-map}
use Rattle.std.proofs.lemmas.List.Elements.{All-nil, All-cons, All-tail}
use Rattle.fx_expr.specs.declared.values.Value.{Value}
use Rattle.fx_handles.specs.Arena.{used_count}
use Rattle.fx_handles.specs.declared.Handle.{Handle}
use Rattle.node_tree.specs.Children.{Keeps}
use Rattle.node_tree.specs.Forest.{TreeNode, Forest, tops, size}
use Rattle.node_tree.specs.Forest.Forest.{none, tree}
use Rattle.node_tree.specs.Part.{kept_by}
use Rattle.node_tree.specs.Plan.{PlanEntry, entries, entry_at, planned}
use Rattle.node_tree.specs.Tree.{Tree, IsNode, node_at, subtree_at, StandsAt}
use Rattle.widget_model.specs.Look.{Look, sliver_lazy}
use Rattle.widget_model.specs.Plain.{look_of}
use Rattle.widget_model.specs.Plain.{PlainWidget}
use Rattle.widget_model.specs.Typed.{IsTypedWidget}
use Rattle.program_check.specs.Checked.{PlainChecked}
use Rattle.program_check.specs.TypedChecked.{IsTypedChecked}
use Rattle.template_build.specs.Program.{declarations_of}
use Rattle.plain_tree.specs.At.{numbers_of}
use Rattle.plain_tree.specs.Laws.{AllDiffer}
use Rattle.plain_tree.specs.declared.render.ParentData.{ParentData}
use Rattle.plain_tree.specs.declared.role.RenderRole.{RenderRole}
use Rattle.plain_tree.specs.Projection.{told_by, told_at}
use Rattle.plain_tree.specs.RenderRole.{render_role_of, vanishes}
use Rattle.plain_tree.specs.declared.role.RenderRole.TheVariants.{Lazy, Plain}
use Rattle.build_form.specs.BuildRole.{build_role_of, is_lazy}
use Rattle.build_form.specs.Entering.{Blueprint, depth_limit}
use Rattle.build_form.specs.FullBuild.{first_tree, Ranges, live_ranges, basis, full_build, built}
use Rattle.build_form.specs.Program.{blueprint_of}
use Rattle.build_form.specs.WellBuilt.{IsWellBuilt}
use Rattle.plain_tree.specs.PlainNode.{PlainNode, nodes_of as listed}
use Rattle.build_form.specs.Step.{Fault, Progress, stops, gives, each}
use Rattle.element_tree.specs.Element.{Element, element_at, made_count}
use Rattle.element_tree.specs.Nodes.{nodes_of}
use Rattle.element_tree.specs.Renewal.{Renewal}
use Rattle.global_keys.specs.Holders.{Registry}
use Rattle.global_keys.specs.Named.{NamesAmong, NamesExactly}
use Rattle.render_tree.specs.Marks.{layout_marks, paint_marks}
use Rattle.render_tree.specs.Object.{RenderObject}
use Rattle.render_tree.specs.Redraw.{Redraw, redrawn}
use Rattle.render_tree.specs.Tree.{object_at}
use Rattle.build_walk.specs.Kept.{node_over, plain_at_any}
use Rattle.build_walk.specs.Merging.{lists_element, lists_renewal, lists_redraw, grown_below, grow, list_handles, AreBare, Serving, Merged, serving_each, merge}
use Rattle.build_walk.specs.Renewing.{renewals, AllGoOn, role_of, redraw_of, drawn_at, drawn, IsDrawn, Unless, AreDrawn}
use Rattle.build_walk.specs.Counting.{builds_by_each}
use Rattle.build_walk.specs.Serving.{waiting_lists, all_waiting_lists, served, builds_serving}
use Rattle.build_walk.specs.Standing.{KeepsDrawn, ElementsStandFor, RendersStandFor}
use Rattle.build_walk.proofs.Bare.{first_bare}
use Rattle.build_walk.proofs.Items.{all_go_on, all_drawn, drawn_tops, handles_renewed, listed_handles}
use Rattle.build_walk.proofs.Merging.{bare_nodes, bare_drawn}
use Rattle.build_walk.proofs.Redrawing.{drawn_on, old_on, keeps_both, keeps_added, keeps_part, merged_named}
use Rattle.build_walk.proofs.Settled.{marks_keep, stands_front}
use Rattle.build_walk.proofs.Siblings.{handles_append}
use Rattle.build_owner.specs.Waiting.{WaitingBuild}
use Rattle.build_owner.specs.declared.serving.ServedList.{ServedList}
use Rattle.build_owner.specs.declared.walk.BuildWalk.{BuildWalk}
use Rattle.build_owner.specs.declared.walk.WaitingSpot.{WaitingSpot}
use Rattle.build_owner.specs.Committing.{CanCommit}
use Rattle.build_owner.specs.Entry.{AreOldSpots}
use Rattle.build_owner.specs.LastFrame.{LastFrame, IsOld, IsSince, basis_in}
use Rattle.build_owner.specs.Making.{MakesNodes}
use Rattle.build_owner.specs.Naming.{AreHeld, HoldsItsKey}
use Rattle.build_owner.specs.Phases.{IsLaidOut, first_phase_node, IsWholeBuild}
use Rattle.build_owner.specs.Ranging.{listed_in, range_at, AreRangedFor}
use Rattle.build_owner.specs.Ready.{IsReadyToWalk}
use Rattle.build_owner.specs.Redrawn.{IsRedrawn}
use Rattle.build_owner.specs.Served.{AreRangesOf, AreServed, elements_served, renders_served, all_served}
use Rattle.build_owner.specs.Standing.{next_at, frame_of}
use Rattle.build_owner.specs.WalkView.{waiting_of}
use Rattle.build_owner.proofs.Firstly.{held_named}
use Rattle.build_owner.proofs.Framed.{from_basis}
use Rattle.build_owner.specs.Staying.{with_items}
use Rattle.build_owner.proofs.Listed.{HaveWidgets, committed_widgets, have_less, widgets_on, same_widgets, marks_keep_widgets, AreListsAt, lists_at, ranged_spots}
use Rattle.build_owner.proofs.Sizes.{size_counted, size_drawn}

-- no list waits where none does
pub none_left : (f : LastFrame) (spots : List WaitingSpot) → (spots ≡ [] → ⊥) → map (λ (s : WaitingSpot). plain_at_any f.scrolled f.elements s.kept) spots ≡ [] → ⊥
none_left f [] some e = some refl
none_left f (s ∷ spots) some e = cc

-- what waits, by its root and its walk
abbrev pub build_of : Handle → BuildWalk → WaitingBuild
build_of root walk = record { root = root; lists = map waiting_of walk.spots.items; plan = walk }

-- what follows of any first phase that was laid out follows of this one
pub laid_so : {c : PlainChecked} {t : Tree Element} {r : Tree RenderObject} {g : Registry} {l : WaitingBuild} {B : Type 0} → IsLaidOut c t r g l → (IsLaidOut c t r g l → B) → B
laid_so p then = then p

-- nor does none wait in a list of them
pub lists_wait : (spots : List WaitingSpot) → (spots ≡ [] → ⊥) → map waiting_of spots ≡ [] → ⊥
lists_wait [] some e = some refl
lists_wait (s ∷ spots) some e = cc

all_front : (P : Handle → Type 0) (xs ys : List Handle) → All P (xs ++ ys) → All P xs
all_front P [] ys h = All-nil P
all_front P (x ∷ xs) ys h = All-cons P x xs (h 0 x (omega arith)) (all_front P xs ys (All-tail P x (xs ++ ys) h))

all_back : (P : Handle → Type 0) (xs ys : List Handle) → All P (xs ++ ys) → All P ys
all_back P [] ys h = h
all_back P (x ∷ xs) ys h = all_back P xs ys (All-tail P x (xs ++ ys) h)

abbrev AllOfServing : (Handle → Type 0) → Serving Renewal → Type 0
AllOfServing P x = All P (planned x.entries)

each_served : (P : Handle → Type 0) (os : List ServedList) → All P (all_served os) → All (AllOfServing P) (map elements_served os)
each_served P [] h = All-nil (AllOfServing P)
each_served P (o ∷ os) h =
    All-cons (AllOfServing P) (elements_served o) (map elements_served os) (all_front P (planned o.elements.items) (all_served os) h) (each_served P os (all_back P (planned o.elements.items) (all_served os) h))

module _ (c : PlainChecked) (t : Tree Element) (r : Tree RenderObject) (g : Registry) (l : WaitingBuild) (p : IsLaidOut c t r g l) where
  abbrev B : Blueprint
  B = blueprint_of c

  abbrev f : LastFrame
  f = frame_of c p.elements p.renders p.registry p.begun

  -- the last frame, as the walk takes it once render nodes were committed and laid out
  abbrev pub frame_now : LastFrame
  frame_now = record { elements = f.elements; renders = r; scrolled = f.scrolled; pasts = f.pasts; holders = f.holders }

  abbrev pub first_forest_of : Forest Element
  first_forest_of = tree l.root p.phase.walked.entered.value p.phase.walked.entered.kids none

  all_kept : KeepsDrawn p.renders r
  all_kept =
      let x = p.phase.redrawn in
      let d = with_items p.phase.made (drawn Plain None first_forest_of) in
      keeps_both p.renders p.phase.made r (keeps_added p.renders p.phase.made p.phase.walked.since.renders)
      (keeps_both p.phase.made x.committed r (keeps_part p.phase.made x.committed (entries None d) x.commits)
      (keeps_both x.committed x.laid_marked r (λ k. marks_keep layout_marks (λ a b o. refl) (λ a b o. refl) x.committed x.laid_marked x.layouts.only k)
      (keeps_both x.laid_marked p.mid r (λ k. marks_keep paint_marks (λ a b o. refl) (λ a b o. refl) x.laid_marked p.mid x.paints.only k) p.since.drawn)))

  old_now : (olds : List Value) (h : Handle) → IsOld f olds h → IsOld frame_now olds h
  old_now olds h old = old_on f.pasts f.scrolled olds f.elements p.renders r h all_kept old

  pub since_now : IsSince B.defaults frame_now t r g
  since_now =
      let s = p.phase.walked.since in
      record {
        tree = s.tree;
        old = λ i d low. old_now B.defaults _ (s.old i d low);
        named = s.named;
        elements = s.elements;
        renders = λ k live. refl;
        holders = s.holders;
        fresh = s.fresh;
      }

  some_old : (olds : List Value) (o : Option Handle) → IfSome o (IsOld f olds) → IfSome o (IsOld frame_now olds)
  some_old olds None old = tt
  some_old olds (Some h) old = old_now olds h old

  pub spots_now : AreOldSpots frame_now l.plan.spots.items
  spots_now = λ i s low. some_old _ _ (p.phase.walked.old_spots i s low)

  pub ready_now : IsReadyToWalk (declarations_of c) B.nodes l.plan.entered t r g
  ready_now =
      let x = p.phase.redrawn in
      let used = p.since.handles.used ∙ x.paints.handles.used ∙ x.layouts.handles.used ∙ x.commits.handles.used in
      let retired = p.since.handles.retired ∙ x.paints.handles.retired ∙ x.layouts.handles.retired ∙ x.commits.handles.retired in
      let room = p.phase.walked.ready.room.renders in
      record {
        elements = p.phase.walked.ready.elements;
        room = record { elements = p.phase.walked.ready.room.elements; renders = omega (arith, used, retired, room) };
      }

  pub drawn_now : AreDrawn (object_at r) f.scrolled first_forest_of
  drawn_now = drawn_on p.mid r f.scrolled first_forest_of p.since.drawn p.phase.stand.drawn

  pub lists_bare : AreBare lists_element first_forest_of
  lists_bare = bare_nodes f.scrolled first_forest_of (first_bare B p.begun.old (next_at p.elements) p.root (first_phase_node p) _ p.phase.walked.is, tt)

  module _ (which : Ranges) (t2 : Tree Element) (r2 : Tree RenderObject) (g2 : Registry) (hs : List Handle) (before after : Progress) (os : List ServedList)
      (s : AreServed (basis_in B frame_now) f.pasts f.scrolled which l.plan.spots.items hs before after t2 r2 os) where
    pub lists_served : ((h : Handle) (x : Forest Element) → StandsAt p.elements h x → subtree_at p.elements h ≡ x)
        → each (served (basis B p.begun.old) f.pasts which) (waiting_lists depth_limit B.defaults (first_phase_node p)) before ≡ gives (map (nodes_of f.scrolled) s.forests) after
    lists_served shown =
        from_basis c p.elements p.renders p.registry p.begun shown
        (λ x. each (served x f.pasts which) (waiting_lists depth_limit B.defaults (first_phase_node p)) before ≡ gives (map (nodes_of f.scrolled) s.forests) after)
        (ap (λ ls. each (served (basis_in B f) f.pasts which) ls before) (sym p.phase.walked.entered.waiting) ∙ s.is)

    -- the forest with its items
    abbrev pub whole_kids : Forest Element
    whole_kids = (grown_below (lists_element p.phase.walked.entered.value) s.forests (grow lists_element p.phase.walked.entered.kids s.forests)).forest

    abbrev pub whole_forest : Forest Element
    whole_forest = tree l.root p.phase.walked.entered.value whole_kids none

    module _ (elements_merged : merge lists_renewal (entries None (renewals first_forest_of)) (serving_each (list_handles lists_renewal (renewals first_forest_of)) (map renewals s.forests)) ≡ record { plan = entries None (renewals whole_forest); rest = [] })
        (renders_merged : merge lists_redraw (entries None (drawn Plain None first_forest_of)) (serving_each (list_handles lists_redraw (drawn Plain None first_forest_of)) (map (drawn Lazy None) s.forests))
        ≡ record { plan = entries None (drawn Plain None whole_forest); rest = [] }) where
      pub elements_are : (merge lists_renewal l.plan.elements.items (map elements_served os)).plan ≡ entries None (renewals whole_forest)
      elements_are =
          (λ i. (merge lists_renewal (p.phase.walked.entered.walked.elements i) (s.elements i)).plan)
          ∙ ap (λ (ks : List Handle). (merge lists_renewal (entries None (renewals first_forest_of)) (serving_each ks (map renewals s.forests))).plan) (p.phase.walked.entered.walked.lists ∙ sym (handles_renewed first_forest_of))
          ∙ ap (λ (m : Merged Renewal). m.plan) elements_merged

      pub renders_are : hs ≡ listed_in lists_redraw l.plan.renders.items → (merge lists_redraw l.plan.renders.items (map renders_served os)).plan ≡ entries None (drawn Plain None whole_forest)
      renders_are of_hs =
          (λ i. (merge lists_redraw (p.phase.walked.entered.walked.renders i) (s.renders i)).plan)
          ∙ ap (λ (ks : List Handle). (merge lists_redraw (entries None (drawn Plain None first_forest_of)) (serving_each ks (map (drawn Lazy None) s.forests))).plan)
          (of_hs ∙ ap (listed_in lists_redraw) p.phase.walked.entered.walked.renders ∙ listed_handles lists_redraw None (drawn Plain None first_forest_of) (bare_drawn Plain None first_forest_of lists_bare))
          ∙ ap (λ (m : Merged Redraw). m.plan) renders_merged

      module _ (walk : BuildWalk) (of_elements : walk.elements.items ≡ (merge lists_renewal l.plan.elements.items (map elements_served os)).plan)
          (of_renders : walk.renders.items ≡ (merge lists_redraw l.plan.renders.items (map renders_served os)).plan) (of_tops : walk.tops.items ≡ l.plan.tops.items)
          (of_hs : hs ≡ listed_in lists_redraw l.plan.renders.items)
          (go : AllGoOn (element_at t2) first_forest_of) (there : AreDrawn (object_at r2) f.scrolled first_forest_of)
          (differ : AllDiffer (numbers_of (node_over f.scrolled p.phase.walked.entered.value whole_kids)))
          (top : (k : Handle) × (tops (drawn Plain None first_forest_of) ≡ k ∷ []))
          (held : AreHeld g2 t2 (planned l.plan.elements.items ++ all_served os)) where
        pub names_whole : NamesAmong g2 t2 (planned walk.elements.items)
        names_whole =
            subst (λ es. NamesAmong g2 t2 (planned es)) (sym of_elements)
            (held_named g2 t2 (planned (merge lists_renewal l.plan.elements.items (map elements_served os)).plan) (record {
              to_element = held.to_element;
              held =
                  merged_named lists_renewal (HoldsItsKey g2 t2) l.plan.elements.items (map elements_served os) (all_front (HoldsItsKey g2 t2) (planned l.plan.elements.items) (all_served os) held.held)
                  (each_served (HoldsItsKey g2 t2) os (all_back (HoldsItsKey g2 t2) (planned l.plan.elements.items) (all_served os) held.held));
            }))

        abbrev pub can_commit_whole : CanCommit t2 r2 g2 walk l.root
        can_commit_whole = record {
          scrolled = f.scrolled;
          value = p.phase.walked.entered.value;
          kids = whole_kids;
          elements = of_elements ∙ elements_are;
          renders = of_renders ∙ renders_are of_hs;
          go = all_go_on (element_at t2) first_forest_of s.forests go s.go_on;
          drawn_is = all_drawn (object_at r2) f.scrolled first_forest_of s.forests there s.drawn_there;
          differ = subst AllDiffer (sym (append-nil (numbers_of (node_over f.scrolled p.phase.walked.entered.value whole_kids)))) differ;
          top = top.0;
          tops_are = of_tops ∙ p.phase.walked.entered.walked.tops ∙ top.1;
          one_top = drawn_tops (object_at r2) f.scrolled Plain None first_forest_of s.forests there ∙ top.1;
          names = names_whole;
        }

-- ---- as many render nodes of lists as lists

module _ (at : Handle → Option RenderObject) (scrolled : ℕ → ℕ) where
  no_list : (look : Look) → vanishes (render_role_of look) ≡ true → is_lazy (build_role_of look) ≡ false
  no_list (sliver_lazy extent) e = cc
  no_list look e = refl

  many_by : (b : Bool) (h k : Handle) (xs ys : List Handle) → length xs ≡ length ys → length (cond b (k ∷ []) xs ++ []) ≡ length (cond b (h ∷ []) ys)
  many_by true h k xs ys e = refl
  many_by false h k xs ys e = ap length (append-nil xs) ∙ e

  many_here : (b : Bool) (h : Handle) (e : Element) (scroll : ℕ) (parent_data : ParentData) (through below : Forest Redraw) (ys : List Handle) → vanishes (role_of e) ≡ b → Unless b (IsDrawn at scroll e)
      → length (list_handles lists_redraw through) ≡ length ys → length (list_handles lists_redraw below) ≡ length ys
      → length (list_handles lists_redraw (cond b through (drawn_at e.render (redraw_of e parent_data) below))) ≡ length (cond (lists_element e) (h ∷ []) ys)
  many_here true h e scroll parent_data through below ys v d is other = is ∙ ap (λ t. length (cond t (h ∷ []) ys)) (sym (no_list (look_of e.widget) v))
  many_here false h e scroll parent_data through below ys v d other is =
      ap (λ o. length (list_handles lists_redraw (drawn_at o (redraw_of e parent_data) below))) d.named ∙ many_by (lists_element e) h d.handle (list_handles lists_redraw below) ys is

  pub as_many : (above : RenderRole) (told : Option ParentData) (f : Forest Element) → AreDrawn at scrolled f → length (list_handles lists_redraw (drawn above told f)) ≡ length (list_handles lists_element f)
  as_many above told none d = refl
  as_many above told (tree h e kids rest) d =
      let parent_data = told_at above told e.index in
      let through = drawn above (Some (told_by above (role_of e) parent_data)) kids in
      let below = drawn (role_of e) None kids in
      let front = cond (vanishes (role_of e)) through (drawn_at e.render (redraw_of e parent_data) below) in
      let here = many_here (vanishes (role_of e)) h e (scrolled e.number) parent_data through below (list_handles lists_element kids) refl d.0
      (as_many above (Some (told_by above (role_of e) parent_data)) kids d.1) (as_many (role_of e) None kids d.1) in
      ap length (handles_append lists_redraw front (drawn above told rest))
      ∙ length_append (list_handles lists_redraw front) (list_handles lists_redraw (drawn above told rest))
      ∙ (λ i. here i + as_many above told rest d.2 i)
      ∙ sym (length_append (cond (lists_element e) (h ∷ []) (list_handles lists_element kids)) (list_handles lists_element rest))
    where
      length_append : (xs ys : List Handle) → length (xs ++ ys) ≡ length xs + length ys
      length_append [] ys = omega arith
      length_append (x ∷ xs) ys = let e = length_append xs ys in omega (arith, e)

module _ (c : PlainChecked) (t : Tree Element) (r : Tree RenderObject) (g : Registry) (l : WaitingBuild) (p : IsLaidOut c t r g l) where
  -- the render nodes of the lists that wait are as many as these
  pub lists_long : (hs : List Handle) → hs ≡ listed_in lists_redraw l.plan.renders.items → length hs ≡ length l.plan.spots.items
  lists_long hs of_hs =
      let F = first_forest_of c t r g l p in
      ap length (of_hs ∙ ap (listed_in lists_redraw) p.phase.walked.entered.walked.renders ∙ listed_handles lists_redraw None (drawn Plain None F) (bare_drawn Plain None F (lists_bare c t r g l p)))
      ∙ as_many (object_at r) p.begun.scrolled Plain None F (drawn_now c t r g l p)
      ∙ ap length (sym p.phase.walked.entered.walked.lists)
      ∙ length-map l.plan.spots.items (λ (s : WaitingSpot). s.at)

  -- the first phase's tree is well built
  pub first_well : ((d : PlainChecked) (old : Option PlainNode) (next : ℕ) (root : PlainWidget) (n : PlainNode) (s : Progress) → IsTypedChecked d → IfSome old (IsWellBuilt (declarations_of d)) → IsTypedWidget (declarations_of d) root
      → first_tree (blueprint_of d) old next root ≡ gives n s → IsWellBuilt (declarations_of d) n) → IsWellBuilt (declarations_of c) (first_phase_node p)
  first_well law = law c p.begun.old (next_at p.elements) p.root (first_phase_node p) _ p.phase.checked p.begun.stands.elements.well p.phase.typed p.phase.walked.is

  -- they store the ranges that the definition gives to the lists
  pub ranged_now : IsWellBuilt (declarations_of c) (first_phase_node p)
      → AreRangesOf (live_ranges p.screen (first_phase_node p)) l.plan.spots.items (map (range_at r) (listed_in lists_redraw l.plan.renders.items))
  ranged_now well =
      let F = first_forest_of c t r g l p in
      let d = drawn Plain None F in
      let x = p.phase.redrawn in
      let bare = bare_drawn Plain None F (lists_bare c t r g l p) in
      let whole = committed_widgets p.phase.made x.committed None (with_items p.phase.made d) x.nodes x.updated (stands_front (node_at x.committed) None x.nodes x.others x.is.stands) in
      let had : HaveWidgets x.committed d = have_less x.committed d _ bare whole in
      let marked = widgets_on x.laid_marked p.mid d (marks_keep_widgets paint_marks (λ a b o. refl) x.laid_marked p.mid x.paints.only)
      (widgets_on x.committed x.laid_marked d (marks_keep_widgets layout_marks (λ a b o. refl) x.committed x.laid_marked x.layouts.only) had) in
      let have = widgets_on p.mid r d (same_widgets p.mid r p.since.widgets) marked in
      let handles : listed_in lists_redraw l.plan.renders.items ≡ list_handles lists_redraw d =
      ap (listed_in lists_redraw) p.phase.walked.entered.walked.renders ∙ listed_handles lists_redraw None d bare in
      let waiting : map waiting_of l.plan.spots.items ≡ all_waiting_lists depth_limit (blueprint_of c).defaults (listed (nodes_of p.begun.scrolled F)) =
      p.phase.walked.entered.waiting ∙ sym (append-nil (waiting_lists depth_limit (blueprint_of c).defaults (first_phase_node p))) in
      let at = lists_at (declarations_of c) r p.begun.scrolled depth_limit (blueprint_of c).defaults Plain None F (drawn_now c t r g l p) have (well, tt) in
      subst (λ ks. AreRangesOf (live_ranges p.screen (first_phase_node p)) l.plan.spots.items (map (range_at r) ks)) (sym handles)
      (ranged_spots p.screen (first_phase_node p) r (list_handles lists_redraw d) l.plan.spots.items (subst (AreListsAt r (list_handles lists_redraw d)) (sym waiting) at)
      (subst (λ ws. AreRangedFor p.screen (first_phase_node p) ws r) p.phase.lists p.ranged))

-- what was built in both phases
pub counted_all : (was now first more all : ℕ) → now ≡ was + more → all ≡ first + more → now + first ≡ was + all
counted_all was now first more all e is = omega (arith, e, is)

-- ---- faults and counts, by the definition's basis

module _ (c : PlainChecked) (t : Tree Element) (r : Tree RenderObject) (g : Registry) (l : WaitingBuild) (p : IsLaidOut c t r g l) (which : Ranges) (before : Progress)
    (shown : (h : Handle) (x : Forest Element) → StandsAt p.elements h x → subtree_at p.elements h ≡ x) where
  -- a fault of a list is the build's
  pub lists_stop : (some : l.plan.spots.items ≡ [] → ⊥) (x : Fault) {A : Type 0}
      → (each (served (basis (blueprint_of c) p.begun.old) (frame_now c t r g l p).pasts which) (waiting_lists depth_limit (blueprint_of c).defaults (first_phase_node p)) before ≡ stops x → A)
      → each (served (basis_in (blueprint_of c) (frame_now c t r g l p)) (frame_now c t r g l p).pasts which) (map waiting_of l.plan.spots.items) before ≡ stops x → A
  lists_stop some x fails is =
      fails (from_basis c p.elements p.renders p.registry p.begun shown
      (λ y. each (served y (frame_now c t r g l p).pasts which) (waiting_lists depth_limit (blueprint_of c).defaults (first_phase_node p)) before ≡ stops x)
      (ap (λ ls. each (served (basis_in (blueprint_of c) (frame_of c p.elements p.renders p.registry p.begun)) (frame_now c t r g l p).pasts which) ls before) (sym p.phase.walked.entered.waiting) ∙ is))

  -- what was built for the lists
  pub lists_count : (was now : ℕ)
      → now ≡ was + builds_by_each (served (basis_in (blueprint_of c) (frame_now c t r g l p)) (frame_now c t r g l p).pasts which) (builds_serving (basis_in (blueprint_of c) (frame_now c t r g l p)) (frame_now c t r g l p).pasts which) (map waiting_of l.plan.spots.items) before
      → now ≡ was + builds_by_each (served (basis (blueprint_of c) p.begun.old) (frame_now c t r g l p).pasts which) (builds_serving (basis (blueprint_of c) p.begun.old) (frame_now c t r g l p).pasts which)
      (waiting_lists depth_limit (blueprint_of c).defaults (first_phase_node p)) before
  lists_count was now is =
      from_basis c p.elements p.renders p.registry p.begun shown
      (λ y. now ≡ was + builds_by_each (served y (frame_now c t r g l p).pasts which) (builds_serving y (frame_now c t r g l p).pasts which) (waiting_lists depth_limit (blueprint_of c).defaults (first_phase_node p)) before)
      (is ∙ ap (λ ls. was + builds_by_each (served (basis_in (blueprint_of c) (frame_of c p.elements p.renders p.registry p.begun)) (frame_now c t r g l p).pasts which)
      (builds_serving (basis_in (blueprint_of c) (frame_of c p.elements p.renders p.registry p.begun)) (frame_now c t r g l p).pasts which) ls before) p.phase.walked.entered.waiting)

-- ---- numbers of render nodes

module _ (t u : Tree RenderObject) (gone : (k : Handle) → object_at t k ≡ None → object_at u k ≡ None) (keeps : KeepsDrawn t u) where
  came_by : (k : Handle) (o : RenderObject) (q : Option RenderObject) → object_at t k ≡ q → object_at u k ≡ Some o → (v : RenderObject) × (object_at t k ≡ Some v) × (o.number ≡ v.number)
  came_by k o None at stored = absurd (let e = gone k at in cc)
  came_by k o (Some v) at stored =
      let w = keeps k v at in
      (v, at, ap (λ (x : RenderObject). x.number) (same_object (sym stored ∙ w.1)) ∙ w.2)
    where
      same_object : {x y : RenderObject} → Some x ≡ Some y → x ≡ y
      same_object e = cc

  pub came_from : (k : Handle) (o : RenderObject) → object_at u k ≡ Some o → (v : RenderObject) × (object_at t k ≡ Some v) × (o.number ≡ v.number)
  came_from k o stored = came_by k o (object_at t k) refl stored

gone_by : (t u : Tree RenderObject) → ((k : Handle) → node_at t k ≡ None → node_at u k ≡ None) → (k : Handle) → object_at t k ≡ None → object_at u k ≡ None
gone_by t u absent k none_is = by_node (node_at t k) refl none_is
  where
    by_node : (q : Option (TreeNode RenderObject)) → node_at t k ≡ q → option_map (λ (n : TreeNode RenderObject). n.value) q ≡ None → object_at u k ≡ None
    by_node None at e = ap (option_map (λ (n : TreeNode RenderObject). n.value)) (absent k at)
    by_node (Some n) at e = absurd (cc)

part_gone : (es : List (PlanEntry Redraw)) (k : Handle) (x : Option (PlanEntry Redraw)) → kept_by redrawn x es k None ≡ None
part_gone es k None = refl
part_gone es k (Some e) = refl

module _ (c : PlainChecked) (t : Tree Element) (r : Tree RenderObject) (g : Registry) (l : WaitingBuild) (p : IsLaidOut c t r g l) where
  widgets_gone : (k : Handle) → object_at p.mid k ≡ None → object_at r k ≡ None
  widgets_gone k none_is = by_object (object_at r k) (p.since.widgets k ∙ ap (option_map (λ (o : RenderObject). o.widget)) none_is)
    where
      by_object : (q : Option RenderObject) → option_map (λ (o : RenderObject). o.widget) q ≡ None → q ≡ None
      by_object None e = refl
      by_object (Some o) e = absurd (cc)

  -- a node that the second phase finds was there when the build began, or has a number that the first phase gave
  numbers_given : (k : Handle) (o : RenderObject) → object_at r k ≡ Some o → IsNode p.renders k ⊎ (o.number ≤ made_count t)
  numbers_given k o stored =
      let x = p.phase.redrawn in
      let es = entries None (with_items p.phase.made (drawn Plain None (first_forest_of c t r g l p))) in
      let late = came_from p.mid r widgets_gone p.since.drawn k o stored in
      let painted = came_from x.laid_marked p.mid (gone_by x.laid_marked p.mid x.paints.absent) (λ j. marks_keep paint_marks (λ a b y. refl) (λ a b y. refl) x.laid_marked p.mid x.paints.only j) k late.0 late.1 in
      let laid = came_from x.committed x.laid_marked (gone_by x.committed x.laid_marked x.layouts.absent) (λ j. marks_keep layout_marks (λ a b y. refl) (λ a b y. refl) x.committed x.laid_marked x.layouts.only j) k painted.0 painted.1 in
      let early = came_from p.phase.made x.committed
      (gone_by p.phase.made x.committed (λ j at. x.commits.nodes j ∙ ap (kept_by redrawn (entry_at es j) es j) at ∙ part_gone es j (entry_at es j)))
      (keeps_part p.phase.made x.committed es x.commits) k laid.0 laid.1 in
      let number : o.number ≡ early.0.number = late.2 ∙ painted.2 ∙ laid.2 ∙ early.2 in
      by_old (node_at p.renders k) refl (node_at p.phase.made k) refl early.0 early.1 number
    where
      by_old : (q : Option (TreeNode RenderObject)) → node_at p.renders k ≡ q → (m : Option (TreeNode RenderObject)) → node_at p.phase.made k ≡ m → (v : RenderObject)
          → object_at p.phase.made k ≡ Some v → o.number ≡ v.number → IsNode p.renders k ⊎ (o.number ≤ made_count t)
      by_old (Some n) at m made v is e = inl (subst IsSome (sym at) refl)
      by_old None at None made v is e = absurd (let none_is = ap (option_map (λ (n : TreeNode RenderObject). n.value)) made in cc)
      by_old None at (Some n) made v is e =
          let fresh = p.phase.walked.makes.fresh k n at made in
          let value : n.value ≡ v = same_object (sym (ap (option_map (λ (y : TreeNode RenderObject). y.value)) made) ∙ is) in
          let number : o.number ≡ fresh.0 = e ∙ ap (λ (y : RenderObject). y.number) (sym value) ∙ ap (λ (y : TreeNode RenderObject). y.value.number) fresh.2 in
          inr (omega (arith, number, fresh.4))
        where
          same_object : {x y : RenderObject} → Some x ≡ Some y → x ≡ y
          same_object z = cc

-- ---- the whole build

module _ (c : PlainChecked) (t : Tree Element) (r : Tree RenderObject) (g : Registry) (l : WaitingBuild) (p : IsLaidOut c t r g l) where
  pub item_build : (t2 : Tree Element) (r2 : Tree RenderObject) (t3 : Tree Element) (r3 : Tree RenderObject) (g3 : Registry) (kids : Forest Element)
      → full_build (blueprint_of c) p.screen p.begun.old (next_at p.elements) p.root ≡ built (node_over p.begun.scrolled p.phase.walked.entered.value kids) (next_at t2)
      → made_count t3 ≡ made_count t2 → NamesExactly g3 t3 → Keeps r r2 → MakesNodes (made_count t) (made_count t2) r r2 → IsRedrawn r2 r3 (drawn Plain None (tree l.root p.phase.walked.entered.value kids none))
      → (s : ElementsStandFor c [] (Some (node_over p.begun.scrolled p.phase.walked.entered.value kids)) p.begun.scrolled t3) × (s.forest ≡ tree l.root p.phase.walked.entered.value kids none)
      → RendersStandFor (Some (node_over p.begun.scrolled p.phase.walked.entered.value kids)) p.begun.scrolled (tree l.root p.phase.walked.entered.value kids none) r3
      → used_count t3.nodes ≡ size (tree l.root p.phase.walked.entered.value kids none) → used_count r3.nodes ≡ size (drawn Plain None (tree l.root p.phase.walked.entered.value kids none))
      → IsWholeBuild c p.elements p.renders p.registry p.begun p.screen p.root r t3 r3 g3
  item_build t2 r2 t3 r3 g3 kids is made names keeps makes redrawn elements renders used used_drawn = record {
    tree = node_over p.begun.scrolled p.phase.walked.entered.value kids;
    is = is ∙ ap (λ n. built (node_over p.begun.scrolled p.phase.walked.entered.value kids) (n + 1)) (sym made);
    stands = record {
      elements = elements.0;
      renders = subst (λ x. RendersStandFor (Some (node_over p.begun.scrolled p.phase.walked.entered.value kids)) p.begun.scrolled x r3) (sym elements.1) renders;
      names = names;
    };
    made = r2;
    keeps = keeps;
    before = made_count t;
    later = p.phase.walked.makes.grows;
    numbers = λ k o stored. numbers_given c t r g l p k o stored;
    makes = subst (λ n. MakesNodes (made_count t) n r r2) (sym made) makes;
    redrawn = subst (λ x. IsRedrawn r2 r3 (drawn Plain None x)) (sym elements.1) redrawn;
    used = used ∙ size_counted p.begun.scrolled l.root p.phase.walked.entered.value kids;
    used_drawn =
        let few = size_drawn Plain None (tree l.root p.phase.walked.entered.value kids none) in
        omega (arith, used_drawn, few, size_counted p.begun.scrolled l.root p.phase.walked.entered.value kids);
  }
