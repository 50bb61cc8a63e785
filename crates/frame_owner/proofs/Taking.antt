-- Render nodes have taken other widgets, and their children another order, and what that changes is marked: so they are brought to what they
-- are then.
use Rattle.std.proofs.Common.{◌≡◌, Bool, true, cond, Option, Some, None, option_map, List, [], ◌∷◌, ◌++◌, map, refl, ap, sym, ◌∙◌, subst, inl, inr}
use Rattle.std.specs.List.{All}
use Rattle.std.specs.Option.{option_to_list}
use Rattle.fx_handles.specs.declared.Handle.{Handle}
use Rattle.fx_handles.specs.HandleLaws.{cases_same, same-eq, same-ne}
use Rattle.fx_handles.specs.ArenaLaws.{same_Some, some_of}
use Rattle.node_tree.specs.Forest.{TreeNode, Forest, tops, Stands, map_values}
use Rattle.node_tree.specs.Forest.Forest.{none, tree}
use Rattle.node_tree.specs.Plan.{entries}
use Rattle.node_tree.specs.Tree.{Tree, Is, IsNode, node_at}
use Rattle.node_tree.proofs.EditLemmas.{keeps_then}
use Rattle.node_tree.proofs.TreeLemmas.{is_node}
use Rattle.widget_model.specs.Plain.{PlainWidget, look_of}
use Rattle.widget_model.specs.Update.{IsSameType}
use Rattle.plain_tree.specs.Render.{Render, Renders, no_renders, more_renders}
use Rattle.tree_marks.specs.Marking.{Marking, at_top}
use Rattle.tree_marks.specs.Marks.{sweep}
use Rattle.render_tree.specs.Changes.{LaidAnew, PaintedAnew}
use Rattle.render_tree.specs.Marked.{SetsMarks}
use Rattle.render_tree.specs.Marks.{layout_marks, paint_marks}
use Rattle.render_tree.specs.Object.{RenderObject}
use Rattle.render_tree.specs.Plain.{renders_of, root_tree}
use Rattle.render_tree.specs.Tree.{object_at}
use Rattle.render_sync.specs.Numbering.{NumbersDiffer, number_at}
use Rattle.render_sync.specs.Synced.{Grows, Synced}
use Rattle.kept_layers.specs.Group.{is_boundary}
use Rattle.kept_phases.specs.Redraws.{Redraws, KeepsKinds}
use Rattle.screen_owner.specs.Changes.{AllKindsSo}
use Rattle.screen_owner.specs.Standing.{StandsAlone}
use Rattle.screen_owner.specs.Steps.{Brings}
use Rattle.screen_owner.proofs.Bringing.{renders_layout, renders_paint}
use Rattle.screen_owner.proofs.Showing.{root_forest}
use Rattle.renewed_builds.specs.Renewing.{Change}
use Rattle.frame_owner.specs.Redrawing.{widget_after, changed, forest_after, CanRedraw, unmarked, entry_for, TakesWidgets}
use Rattle.frame_owner.proofs.Looks.{looks_fence}
use Rattle.frame_owner.proofs.Taken.{Each, each_of, said, node_after, HasChanged, AreThere, laid_live, painted_live, was_node, all_now, laid_whole, painted_whole, updated, planned_whole, commits_whole}

abbrev AreAlike : Tree RenderObject → List Change → Type 0
AreAlike t cs = Each (λ (c : Change). (o : RenderObject) × (object_at t c.at ≡ Some o) × IsSameType o.widget c.widget) cs

none_some : {X : Type 0} (x : X) → None ≡ Some x → ⊥
none_some x e = cc

-- each change has its node
pub there_of : (t : Tree RenderObject) (cs : List Change) → AreAlike t cs → AreThere t cs
there_of t [] all = tt
there_of t (c ∷ cs) all = (by_node (node_at t c.at) refl all.0.0 all.0.1, there_of t cs all.1)
  where
    by_node : (x : Option (TreeNode RenderObject)) → node_at t c.at ≡ x → (o : RenderObject) → object_at t c.at ≡ Some o → (n : TreeNode RenderObject) × (node_at t c.at ≡ Some n)
    by_node None e o at = absurd (none_some o (sym (ap (option_map (λ (n : TreeNode RenderObject). n.value)) e) ∙ at))
    by_node (Some n) e o at = (n, e)

-- ---- kinds

fence_kept : (t : Tree RenderObject) (cs : List Change) → AreAlike t cs → (k : Handle) (o : RenderObject) → object_at t k ≡ Some o → is_boundary (changed cs k o) ≡ is_boundary o
fence_kept t [] all k o at = refl
fence_kept t (c ∷ cs) all k o at = elim (cases_same k c.at) [
  | inl e ↦
      let same_one : all.0.0 ≡ o = same_Some (sym all.0.1 ∙ (ap (object_at t) (sym e) ∙ at)) in
      ap (λ (b : Bool). is_boundary (record o { widget = cond {A = PlainWidget} b c.widget (widget_after cs k o.widget) })) (same-eq k c.at e)
      ∙ (sym (looks_fence (look_of all.0.0.widget) (look_of c.widget) all.0.2) ∙ ap is_boundary same_one)
  | inr ne ↦
      ap (λ (b : Bool). is_boundary (record o { widget = cond {A = PlainWidget} b c.widget (widget_after cs k o.widget) })) (same-ne k c.at ne) ∙ fence_kept t cs all.1 k o at
]

module _ (t : Tree RenderObject) (cs : List Change) (all : AreAlike t cs) (differ : NumbersDiffer t) where
  kind_here : (h : Handle) (o : RenderObject) → object_at t h ≡ Some o → (k : Handle) (v : RenderObject) → object_at t k ≡ Some v → v.number ≡ o.number → is_boundary (changed cs h o) ≡ is_boundary v
  kind_here h o at k v there same_number =
      let one = differ o.number h k (ap (option_map (λ (x : RenderObject). x.number)) at) (ap (option_map (λ (x : RenderObject). x.number)) there ∙ ap (λ n. Some n) same_number) in
      fence_kept t cs all h o at ∙ ap is_boundary (same_Some (sym at ∙ (ap (object_at t) one ∙ there)))

  kinds_of : (now : Tree RenderObject) → HasChanged cs t now → (p : Option Handle) (g : Forest RenderObject) → Stands (node_at now) p g → AllKindsSo t (renders_of g)
  kinds_of now changes p none s = tt
  kinds_of now changes p (tree h o kids rest) s =
      let was = was_node t now cs changes h (record { parent = p; children = tops kids; value = o }) s.0 in
      ((here was.0 was.1 (ap (λ (m : TreeNode RenderObject). m.value) was.2), kinds_of now changes (Some h) kids s.1), kinds_of now changes p rest s.2)
    where
      here : (n : TreeNode RenderObject) → node_at t h ≡ Some n → changed cs h n.value ≡ o → (k : Handle) (v : RenderObject) → object_at t k ≡ Some v → v.number ≡ o.number → is_boundary o ≡ is_boundary v
      here n at is k v there same_number =
          ap is_boundary (sym is) ∙ kind_here h n.value (ap (option_map (λ (m : TreeNode RenderObject). m.value)) at) k v there (same_number ∙ ap (λ (x : RenderObject). x.number) (sym is))

-- ---- what is marked is there

pub laid_there : (cs : List Change) (old now : Tree RenderObject) → StandsAlone old → CanRedraw old cs → HasChanged cs old now → (laid : List Handle) → LaidAnew old old.root (map (entry_for old) cs) laid → All (IsNode now) laid
laid_there cs old now stands can changes laid anew =
    let there = there_of old cs (each_of (λ (c : Change). (o : RenderObject) × (object_at old c.at ≡ Some o) × IsSameType o.widget c.widget) cs can.each) in
    all_now old now cs changes laid (laid_live old cs stands.tree.0 stands.tree.1 there laid anew)

pub painted_there : (cs : List Change) (old now : Tree RenderObject) → StandsAlone old → CanRedraw old cs → HasChanged cs old now → (painted : List Handle) → PaintedAnew old old.root (map (entry_for old) cs) painted → All (IsNode now) painted
painted_there cs old now stands can changes painted anew =
    let there = there_of old cs (each_of (λ (c : Change). (o : RenderObject) × (object_at old c.at ≡ Some o) × IsSameType o.widget c.widget) cs can.each) in
    all_now old now cs changes painted (painted_live old cs stands.tree.0 stands.tree.1 there painted anew)

-- and stays there where nodes are marked
pub still_there : (m : Marking RenderObject) (also : Bool) (hs ks : List Handle) (old new : Tree RenderObject) → SetsMarks m also hs old new → All (IsNode old) ks → All (IsNode new) ks
still_there m also hs ks old new sets all k d less = by_node _ (node_at old _) refl (all k d less)
  where
    by_node : (h : Handle) (x : Option (TreeNode RenderObject)) → node_at old h ≡ x → IsNode old h → IsNode new h
    by_node h None e live = absurd (let found = some_of (node_at old h) live in none_some found.0 (sym e ∙ found.1))
    by_node h (Some n) e live = is_node (node_at new h) _ (sets.only h n e).2

-- ---- the whole

module _ (cs : List Change) (old now laid_marked new : Tree RenderObject) (stands : StandsAlone old) (can : CanRedraw old cs) (changes : HasChanged cs old now) (now_is : Is now (forest_after old cs stands.tree.0))
    (laid painted : List Handle) (laid_anew : LaidAnew old old.root (map (entry_for old) cs) laid) (painted_anew : PaintedAnew old old.root (map (entry_for old) cs) painted)
    (layouts : SetsMarks layout_marks true laid now laid_marked) (paints : SetsMarks paint_marks true painted laid_marked new) where
  alike : AreAlike old cs
  alike = each_of (λ (c : Change). (o : RenderObject) × (object_at old c.at ≡ Some o) × IsSameType o.widget c.widget) cs can.each

  there : AreThere old cs
  there = there_of old cs alike

  abbrev olds : Forest RenderObject
  olds = stands.tree.0

  abbrev news : Forest RenderObject
  news = forest_after old cs stands.tree.0

  new_is : Is new (sweep paint_marks true painted at_top (sweep layout_marks true laid at_top (forest_after old cs stands.tree.0)))
  new_is = paints.plain (sweep layout_marks true laid at_top news) (layouts.plain news now_is)

  new_root : new.root ≡ old.root
  new_root = paints.root ∙ (layouts.root ∙ changes.root)

  new_alone : new.inactive ≡ []
  new_alone = paints.inactive ∙ (layouts.inactive ∙ (changes.inactive ∙ stands.alone))

  anew : LaidAnew old old.root (entries None (map_values said (forest_after old cs stands.tree.0))) laid
  anew = laid_whole old now cs changes there can.once news now_is laid laid_anew

  anew_painted : PaintedAnew old old.root (entries None (map_values said (forest_after old cs stands.tree.0))) painted
  anew_painted = painted_whole old now cs changes there can.once news now_is painted painted_anew

  itself : Grows old old
  itself = record { keeps = λ k n. refl; fresh = λ k n gone here. absurd (none_some n (sym gone ∙ here)); root = refl }

  redraws : Redraws old new
  redraws = record {
    made = old;
    grows = itself;
    updates = map_values said (forest_after old cs stands.tree.0);
    nodes = news;
    updated = updated old now cs changes there can.once news now_is;
    committed = now;
    is = now_is;
    laid = laid;
    laid_anew = subst (λ r. LaidAnew old r (entries None (map_values said (forest_after old cs stands.tree.0))) laid) (sym changes.root) anew;
    painted = painted;
    painted_anew = subst (λ r. PaintedAnew old r (entries None (map_values said (forest_after old cs stands.tree.0))) painted) (sym changes.root) anew_painted;
    laid_marked = laid_marked;
    layouts = layouts;
    paints = paints;
  }

  -- ---- what is at each handle

  kinds : KeepsKinds old now
  kinds k o v at_old at_now = by_node (node_at old k) refl
    where
      by_node : (x : Option (TreeNode RenderObject)) → node_at old k ≡ x → is_boundary v ≡ is_boundary o
      by_node None e = absurd (none_some o (sym (ap (option_map (λ (n : TreeNode RenderObject). n.value)) e) ∙ at_old))
      by_node (Some n) e =
          let was : n.value ≡ o = same_Some (sym (ap (option_map (λ (m : TreeNode RenderObject). m.value)) e) ∙ at_old) in
          let is : changed cs k n.value ≡ v =
          same_Some (sym (ap (option_map (λ (m : TreeNode RenderObject). m.value)) (changes.nodes k ∙ ap (option_map (node_after cs k)) e)) ∙ at_now) in
          ap is_boundary (sym is) ∙ (ap (λ (x : RenderObject). is_boundary (changed cs k x)) was ∙ fence_kept old cs alike k o at_old)

  objects : (h : Handle) → option_map unmarked (object_at new h) ≡ option_map (λ (o : RenderObject). unmarked (changed cs h o)) (object_at old h)
  objects h = by_node (node_at old h) refl
    where
      by_node : (x : Option (TreeNode RenderObject)) → node_at old h ≡ x → option_map unmarked (object_at new h) ≡ option_map (λ (o : RenderObject). unmarked (changed cs h o)) (object_at old h)
      by_node None e =
          let gone : node_at new h ≡ None = paints.absent h (layouts.absent h (changes.nodes h ∙ ap (option_map (node_after cs h)) e)) in
          ap (λ (x : Option (TreeNode RenderObject)). option_map unmarked (option_map (λ (m : TreeNode RenderObject). m.value) x)) gone
          ∙ sym (ap (λ (x : Option (TreeNode RenderObject)). option_map (λ (o : RenderObject). unmarked (changed cs h o)) (option_map (λ (m : TreeNode RenderObject). m.value) x)) e)
      by_node (Some n) e =
          let one = layouts.only h (node_after cs h n) (changes.nodes h ∙ ap (option_map (node_after cs h)) e) in
          let two = paints.only h _ one.2 in
          ap (λ (x : Option (TreeNode RenderObject)). option_map unmarked (option_map (λ (m : TreeNode RenderObject). m.value) x)) two.2
          ∙ sym (ap (λ (x : Option (TreeNode RenderObject)). option_map (λ (o : RenderObject). unmarked (changed cs h o)) (option_map (λ (m : TreeNode RenderObject). m.value) x)) e)

  numbers : (h : Handle) → number_at new h ≡ number_at old h
  numbers h =
      seen (object_at new h)
      ∙ (ap (option_map (λ (o : RenderObject). o.number)) (objects h) ∙ was (object_at old h))
    where
      seen : (x : Option RenderObject) → option_map (λ (o : RenderObject). o.number) x ≡ option_map (λ (o : RenderObject). o.number) (option_map unmarked x)
      seen None = refl
      seen (Some o) = refl

      was : (x : Option RenderObject) → option_map (λ (o : RenderObject). o.number) (option_map (λ (o : RenderObject). unmarked (changed cs h o)) x) ≡ option_map (λ (o : RenderObject). o.number) x
      was None = refl
      was (Some o) = refl

  new_differ : NumbersDiffer new
  new_differ n h k one two = stands.differ n h k (sym (numbers h) ∙ one) (sym (numbers k) ∙ two)

  new_stands : StandsAlone new
  new_stands = record { tree = (_, new_is); alone = new_alone; differ = new_differ }

  -- ---- the render nodes of a build

  abbrev drawn : Renders
  drawn = renders_of (forest_after old cs (root_tree old))

  drawn_is : renders_of (forest_after old cs (root_tree old)) ≡ renders_of (forest_after old cs stands.tree.0)
  drawn_is = ap (λ (f : Forest RenderObject). renders_of (forest_after old cs f)) (root_forest old stands.tree.0 stands.alone stands.tree.1)

  renders : renders_of (root_tree new) ≡ renders_of (forest_after old cs (root_tree old))
  renders =
      ap renders_of (root_forest new (sweep paint_marks true painted at_top (sweep layout_marks true laid at_top news)) new_alone new_is)
      ∙ (renders_paint true painted at_top (sweep layout_marks true laid at_top news) ∙ (renders_layout true laid at_top news ∙ sym drawn_is))

  root_at : (top : Render) → renders_of (forest_after old cs stands.tree.0) ≡ more_renders top no_renders → (k : Handle) × (old.root ≡ Some k)
  root_at top shown =
      by_root old.root refl (forest_after old cs stands.tree.0) shown
      (ap (λ (o : Option Handle). option_to_list o ++ []) (sym changes.root) ∙ (ap (λ (hs : List Handle). option_to_list now.root ++ hs) (sym (changes.inactive ∙ stands.alone)) ∙ now_is.tops))
    where
      some_none : (h : Handle) (hs : List Handle) → [] ≡ h ∷ hs → ⊥
      some_none h hs e = cc

      no_render : no_renders ≡ more_renders top no_renders → ⊥
      no_render e = cc

      by_root : (o : Option Handle) → old.root ≡ o → (g : Forest RenderObject) → renders_of g ≡ more_renders top no_renders → option_to_list old.root ++ [] ≡ tops g
          → (k : Handle) × (old.root ≡ Some k)
      by_root (Some k) e g r tops_are = (k, e)
      by_root None e none r tops_are = absurd (no_render r)
      by_root None e (tree h o kids rest) r tops_are = absurd (some_none h (tops rest) (ap (λ (x : Option Handle). option_to_list x ++ []) (sym e) ∙ tops_are))

  module _ (top : Render) (shown : renders_of (forest_after old cs stands.tree.0) ≡ more_renders top no_renders) where
    root : (k : Handle) × (old.root ≡ Some k)
    root = root_at top shown

    synced : Synced old new top
    synced = record {
      made = old;
      grows = itself;
      differ = stands.differ;
      plan = entries None (map_values said (forest_after old cs stands.tree.0));
      root = root.0;
      updates = map_values said (forest_after old cs stands.tree.0);
      nodes = news;
      is_plan = planned_whole old now cs changes there can.once news now_is stands.alone root.0 root.1;
      updated = updated old now cs changes there can.once news now_is;
      renders = shown;
      committed = now;
      commits = commits_whole old now cs changes there can.once news now_is;
      is = now_is;
      at_root = changes.root ∙ root.1;
      laid = laid;
      laid_anew = subst (λ r. LaidAnew old r (entries None (map_values said (forest_after old cs stands.tree.0))) laid) root.1 anew;
      painted = painted;
      painted_anew = subst (λ r. PaintedAnew old r (entries None (map_values said (forest_after old cs stands.tree.0))) painted) root.1 anew_painted;
      laid_marked = laid_marked;
      layouts = layouts;
      paints = paints;
    }

    brings : Brings old new top
    brings = record {
      before = stands;
      kinds = (subst (AllKindsSo old) shown (kinds_of old cs alike stands.differ now changes None news now_is.stands)).0;
      synced = synced;
      after = new_stands;
      renders = renders ∙ (drawn_is ∙ shown);
    }

  pub takes_widgets : TakesWidgets cs old new
  unfolding redraws
  takes_widgets = record {
    redraws = redraws;
    kinds = kinds;
    objects = objects;
    renders = renders;
    brings = λ top shown. brings top (sym drawn_is ∙ shown);
    handles = keeps_then old.nodes laid_marked.nodes new.nodes (keeps_then old.nodes now.nodes laid_marked.nodes changes.handles layouts.handles) paints.handles;
    root = new_root;
  }
