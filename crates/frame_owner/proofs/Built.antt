-- What a build leaves, where all that was kept was right.
use Rattle.std.proofs.Common.{◌≡◌, ℕ, None, Some, Option, List, [], ◌∷◌, map, length, false, refl, sym, ap, subst, ◌∙◌, inl, inr}
use Rattle.delegates.specs.Table.{Plug}
use Rattle.fx_geom.specs.declared.shapes.Size.{Size}
use Rattle.node_tree.specs.Forest.Forest.{none, tree}
use Rattle.node_tree.specs.Tree.{Tree, IsTree}
use Rattle.widget_model.specs.Plain.{PlainWidget}
use Rattle.plain_tree.specs.declared.role.RenderRole.TheVariants.{Plain}
use Rattle.plain_tree.specs.At.{numbers_of}
use Rattle.plain_tree.specs.Laws.{AllDiffer, render_numbers_in}
use Rattle.plain_tree.specs.PlainNode.{PlainNode}
use Rattle.plain_tree.specs.Projection.{render_of}
use Rattle.plain_tree.specs.Render.{Render, renders_of as renders_listed}
use Rattle.program_check.specs.Checked.{PlainChecked}
use Rattle.layout_form.specs.Object.{Setting, setting_of}
use Rattle.layout_owner.specs.Roots.{Good}
use Rattle.element_tree.specs.Element.{Element}
use Rattle.global_keys.specs.Holders.{Registry}
use Rattle.render_tree.specs.Object.{RenderObject}
use Rattle.render_tree.specs.Plain.{root_tree}
use Rattle.kept_layouts.specs.Here.{KeepsLayouts}
use Rattle.kept_layouts.specs.Items.{AllListsUnasked}
use Rattle.paint_owner.specs.PaintOwner.{PaintOwner}
use Rattle.kept_phases.specs.Layers.{KeepsLayers}
use Rattle.kept_phases.specs.Parts.{RedrawsPart}
use Rattle.kept_phases.specs.Redraws.{Redraws, KeepsKinds}
use Rattle.build_form.specs.Entering.{Blueprint}
use Rattle.build_form.specs.FullBuild.{Screen, built, full_build, first_tree}
use Rattle.build_form.specs.KeptStates.{HadOrIsNew, EachIs}
use Rattle.build_form.specs.Program.{blueprint_of}
use Rattle.build_form.specs.Step.{Progress, gives as steps_to}
use Rattle.versioned_kinds.specs.Lists.{HasNoLists, RenderHasNoLists}
use Rattle.build_walk.specs.Merging.{lists_redraw, AreBare, ListsAreBare}
use Rattle.build_walk.proofs.Merging.{bare_nodes, bare_drawn}
use Rattle.build_owner.specs.Phases.{IsFirstPhase, first_node_of, first_plan_of, IsWholeBuild}
use Rattle.build_owner.specs.Standing.{Beginning, next_at, frame_of}
use Rattle.build_owner.specs.WalkView.{waiting_of, progress_of}
use Rattle.build_owner.specs.Waiting.{WaitingBuild}
use Rattle.work_sets.specs.Work.{render_root}
use Rattle.frame_owner.specs.Building.{LayersStay, GivesTree, BuildsTree, BuildsItems}
use Rattle.frame_owner.specs.Working.{CountsLists, LaysLists, BringsInPhases}
use Rattle.frame_owner.proofs.Brought.{brings, stands_alone}
use Rattle.frame_owner.proofs.Fences.{kinds_so}
use Rattle.frame_owner.proofs.LaysOut.{LaysOut}
use Rattle.frame_owner.proofs.Kept.{whole_keeps_kinds, first_keeps_kinds}
use Rattle.frame_owner.proofs.Numbers.{numbers_apart, made_apart, first_apart}
use Rattle.frame_owner.proofs.Named.{none_beside}
use Rattle.frame_owner.proofs.Shown as shown
use Rattle.frame_owner.proofs.Steps.{whole_redraws, part_redraws}
use Rattle.frame_owner.proofs.Unasked.{whole_unasked}
use Rattle.frame_owner.proofs.Unfilled.{one_is, outer}

empty_map : {A B : Type 0} (f : A → B) (xs : List A) → map f xs ≡ [] → xs ≡ []
empty_map f [] e = refl
empty_map f (x ∷ xs) e = absurd (cc)

-- where lazy lists wait after the first phase, the whole tree has one
pub record WaitLaws : Type 0 where
  pub trees : (b : Blueprint) (screen : Screen) (old : Option PlainNode) (next after : ℕ) (root : PlainWidget) (mid tree : PlainNode) (s : Progress)
      → first_tree b old next root ≡ steps_to mid s → (s.waiting ≡ [] → ⊥) → full_build b screen old next root ≡ built tree after → HasNoLists tree → ⊥
  pub renders : (tree : PlainNode) (top : Render) → render_of tree ≡ top ∷ [] → RenderHasNoLists top → HasNoLists tree

-- laws of kept_phases
abbrev pub LayoutsStay : Type 0
LayoutsStay = (s : Setting) (old new : Tree RenderObject) → Redraws old new → IsTree old → KeepsLayouts s old → KeepsLayouts s new

abbrev pub AllLayersStay : Type 0
AllLayersStay =
    (cell : Size) (delegates : List Plug) (o : PaintOwner) (old new : Tree RenderObject) (r : Redraws old new) → KeepsKinds old r.committed → IsTree old → KeepsLayers cell delegates o old → KeepsLayers cell delegates o new

abbrev pub PartsRedrawn : Type 0
PartsRedrawn = (old new : Tree RenderObject) → IsTree old → (p : RedrawsPart old new) → (r : Redraws old new) × (r.committed ≡ p.committed)

module _ (c : PlainChecked) (t0 : Tree Element) (r0 : Tree RenderObject) (g0 : Registry) (b : Beginning c t0 r0 g0) (screen : Screen) (w : PlainWidget) (was : Tree RenderObject) (t : Tree Element) (r : Tree RenderObject)
    (g : Registry) (p : IsWholeBuild c t0 r0 g0 b screen w was t r g) where
  abbrev pub gives : LayoutsStay → IsTree was → KeepsLayouts (setting_of screen.scale screen.delegates) was → GivesTree c screen b.old (next_at t0) w b.scrolled t r g
  gives stay is kept = record {
    tree = p.tree;
    is = p.is;
    stands = p.stands;
    layouts = stay (setting_of screen.scale screen.delegates) was r (whole_redraws c t0 r0 g0 b screen w was t r g p) is kept;
    unasked = whole_unasked c t0 r0 g0 b screen w was t r g p (none_beside c [] (Some p.tree) b.scrolled t r g p.stands);
    used = p.used;
    used_drawn = p.used_drawn;
  }

  pub layers : AllLayersStay → IsTree was → KeepsKinds was p.redrawn.committed → LayersStay screen was r
  layers stay is kinds = λ o kept. stay screen.scale.cell screen.delegates o was r (whole_redraws c t0 r0 g0 b screen w was t r g p) kinds is kept

module _ (c : PlainChecked) (t0 : Tree Element) (r0 : Tree RenderObject) (g0 : Registry) (b : Beginning c t0 r0 g0) (screen : Screen) (w : PlainWidget) (t : Tree Element) (r : Tree RenderObject) (g : Registry)
    (apart : (n : PlainNode) → AllDiffer (numbers_of n) → AllDiffer (render_numbers_in (renders_listed (render_of n)))) where
  -- no lazy list waits
  pub built_at_once : (p : IsWholeBuild c t0 r0 g0 b screen w r0 t r g) → LayoutsStay → AllLayersStay → EachIs (HadOrIsNew (blueprint_of c) b.old (next_at t0)) p.tree → length (render_of p.tree) ≡ 1
      → KeepsLayouts (setting_of screen.scale screen.delegates) r0 → (before after : ℕ) → after ≡ before → BuildsTree c screen b.old (next_at t0) w b.scrolled r0 t r g before after
  built_at_once p layouts_stay layers_stay states one kept before after same =
      let is : IsTree r0 = (b.stands.renders.objects, b.stands.renders.is) in
      let old = numbers_apart c b.marks b.old b.scrolled t0 r0 g0 b.stands apart in
      let new = numbers_apart c [] (Some p.tree) b.scrolled t r g p.stands apart in
      let made = made_apart c t0 r0 g0 b screen w t r g p old in
      record {
        gives = gives c t0 r0 g0 b screen w r0 t r g p layouts_stay is kept;
        layers = layers c t0 r0 g0 b screen w r0 t r g p layers_stay is (whole_keeps_kinds c t0 r0 g0 b screen w t r g p states);
        brings = inl (brings c t0 r0 g0 b screen w t r g p one old made new (kinds_so c b.marks b.old b.scrolled t0 r0 g0 b.stands p.tree states one), same);
      }

-- ---- lazy lists wait

module _ (c : PlainChecked) (t0 : Tree Element) (r0 : Tree RenderObject) (g0 : Registry) (b : Beginning c t0 r0 g0) (w : PlainWidget) (t : Tree Element) (mid : Tree RenderObject) (g : Registry) (l : WaitingBuild)
    (q : IsFirstPhase c t0 r0 g0 b w t mid g l) (parts : PartsRedrawn) where
  is_old : IsTree r0
  is_old = (b.stands.renders.objects, b.stands.renders.is)

  abbrev part : RedrawsPart r0 mid
  part = part_redraws c t0 r0 g0 b w t mid g l q

  once : (r : Redraws r0 mid) × (r.committed ≡ part.committed)
  once = parts r0 mid is_old part

  -- the first phase leaves all right
  pub first_layouts : LayoutsStay → (s : Setting) → KeepsLayouts s r0 → KeepsLayouts s mid
  first_layouts stay s kept = stay s r0 mid once.0 is_old kept

  pub first_layers : AllLayersStay → EachIs (HadOrIsNew (blueprint_of c) b.old (next_at t0)) (first_node_of q) → (screen : Screen) → LayersStay screen r0 mid
  first_layers stay states screen = λ o kept.
      stay screen.scale.cell screen.delegates o r0 mid once.0 (subst (KeepsKinds r0) (sym once.1) (first_keeps_kinds c t0 r0 g0 b w t mid g l q states)) is_old kept

  -- nothing is planned below lazy lists
  pub plan_bare : ListsAreBare (first_node_of q) → AreBare lists_redraw (first_plan_of q)
  plan_bare bare =
      bare_drawn Plain None (tree l.root q.walked.entered.value q.walked.entered.kids none) (bare_nodes b.scrolled (tree l.root q.walked.entered.value q.walked.entered.kids none) (bare, tt))

  abbrev pub lays_lists : ListsAreBare (first_node_of q) → (s : Setting) (view : Size) (before after : ℕ) → ((n : PlainNode) → AllDiffer (numbers_of n) → AllDiffer (render_numbers_in (renders_listed (render_of n)))) → Good s (root_tree mid)
      → CountsLists s view mid before after → LaysLists s view r0 before after
  lays_lists bare s view before after apart good counts =
      let differ = numbers_apart c b.marks b.old b.scrolled t0 r0 g0 b.stands apart in
      record {
        before = stands_alone c b.marks b.old b.scrolled t0 r0 g0 b.stands differ;
        mid = mid;
        first = part;
        drawn = first_plan_of q;
        items = refl;
        bare = plan_bare bare;
        differ = first_apart c t0 r0 g0 b w t mid g l q differ;
        good = good;
        counts = counts;
      }

  -- a list waits in the walk where one is to get its items
  wait_there : (l.lists ≡ [] → ⊥) → (progress_of (frame_of c t0 r0 g0 b) l.plan g t).waiting ≡ [] → ⊥
  wait_there some gone = some (q.lists ∙ ap (map waiting_of) (empty_map _ l.plan.spots.items gone))

  pub built_in_phases : WaitLaws → (l.lists ≡ [] → ⊥) → (apart : (n : PlainNode) → AllDiffer (numbers_of n) → AllDiffer (render_numbers_in (renders_listed (render_of n)))) → AllLayersStay
      → EachIs (HadOrIsNew (blueprint_of c) b.old (next_at t0)) (first_node_of q) → (screen : Screen) → KeepsLayouts (setting_of screen.scale screen.delegates) mid → LaysOut (first_node_of q) mid → ListsAreBare (first_node_of q)
      → (t2 : Tree Element) (r2 : Tree RenderObject) (g2 : Registry) (before after : ℕ)
      → (i : BuildsItems c screen b.old (next_at t0) w b.scrolled mid t2 r2 g2 before after) → EachIs (HadOrIsNew (blueprint_of c) b.old (next_at t0)) i.gives.tree → length (render_of i.gives.tree) ≡ 1
      → BuildsTree c screen b.old (next_at t0) w b.scrolled r0 t2 r2 g2 before after
  built_in_phases laws some apart stay first screen kept lays bare t2 r2 g2 before after i whole one =
      let apart0 = numbers_apart c b.marks b.old b.scrolled t0 r0 g0 b.stands apart in
      let apart2 = numbers_apart c [] (Some i.gives.tree) b.scrolled t2 r2 g2 i.gives.stands apart in
      let lists : LaysLists (setting_of screen.scale screen.delegates) screen.view r0 before after = record {
        before = stands_alone c b.marks b.old b.scrolled t0 r0 g0 b.stands apart0;
        mid = mid;
        first = part;
        drawn = first_plan_of q;
        items = refl;
        bare = plan_bare bare;
        differ = first_apart c t0 r0 g0 b w t mid g l q apart0;
        good = lays.good (setting_of screen.scale screen.delegates) kept;
        counts = i.counts;
      } in
      let phases : BringsInPhases (setting_of screen.scale screen.delegates) screen.view r0 r2 (render_root i.gives.tree) before after = record {
        kinds = kinds_so c b.marks b.old b.scrolled t0 r0 g0 b.stands i.gives.tree whole one;
        lists = lists;
        outer = outer c t0 r0 g0 b w t mid g l q bare lays screen i.gives.tree (next_at t2) i.gives.is one;
        ranged = i.ranged;
        stays = i.stays;
        flushes = i.flushes;
        second = i.second;
        apart = i.apart;
        after = stands_alone c [] (Some i.gives.tree) b.scrolled t2 r2 g2 i.gives.stands apart2;
        renders = shown.root_renders c [] i.gives.tree b.scrolled t2 r2 g2 i.gives.stands one;
        unasked = (subst (AllListsUnasked false) (shown.root_renders c [] i.gives.tree b.scrolled t2 r2 g2 i.gives.stands one) i.gives.unasked).0;
        waited = λ lacks.
            laws.trees (blueprint_of c) screen b.old (next_at t0) (next_at t2) w (first_node_of q) i.gives.tree _ q.walked.is (wait_there some) i.gives.is (laws.renders i.gives.tree (render_root i.gives.tree) (one_is (render_of i.gives.tree) one) lacks);
      } in
      record {
        gives = i.gives;
        layers = λ o had. i.layers o (first_layers stay first screen o had);
        brings = inr phases;
      }
