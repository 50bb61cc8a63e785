-- A tree that is brought to the render nodes that it has: no node is marked.
use Rattle.std.proofs.Common.{◌≡◌, ◌≢◌, ap, refl, sym, subst, ◌∙◌, ℕ, ◌≤◌, Bool, true, ◌&&◌, ◌||◌, cond, Option, Some, None, option_map, List, [], ◌∷◌, ◌++◌, inl, inr, arith}
use Rattle.std.specs.Option.{option_to_list}
use Rattle.fx_handles.specs.declared.Handle.{Handle}
use Rattle.fx_handles.specs.Handle.{same, times, AreDistinct}
use Rattle.fx_handles.specs.HandleLaws.{same_self, same-ne, times-cons, times_here, cases_same}
use Rattle.fx_handles.specs.ArenaLaws.{same_Some}
use Rattle.node_tree.specs.Forest.{TreeNode, Forest, tops, Stands}
use Rattle.node_tree.specs.Forest.Forest.{none, tree}
use Rattle.node_tree.specs.Plan.{PlanEntry, entries, entry_at, planned, IsUpdated}
use Rattle.node_tree.specs.Tree.{Tree, IsTree, node_at, children_at, children_of}
use Rattle.node_tree.proofs.PlanLemmas.{entry-some}
use Rattle.node_tree.proofs.TreeLemmas.{is_node}
use Rattle.widget_model.specs.Look.{Look}
use Rattle.work_roles.specs.WorkRole.{is_offstage, is_viewport}
use Rattle.plain_tree.specs.declared.render.ParentData.{ParentData}
use Rattle.plain_tree.specs.Render.{Render, render, Renders, no_renders, more_renders}
use Rattle.tree_marks.specs.Marking.{IsMarking, at_top}
use Rattle.tree_marks.specs.Marks.{listed, sweep}
use Rattle.tree_marks.proofs.Sweeps.{sweep-nil}
use Rattle.layout_rules.specs.Nodes.{layout_node, layout_nodes}
use Rattle.render_tree.specs.Changes.{hides_at, KeepsList, KeepsOwn, KeepsTold, KeepsLook, ChangesLayout, ChangesPaint, EachEntry, SomeEntry, BecomesRoot}
use Rattle.work_roles.specs.ForLayout.{for_layout}
use Rattle.render_tree.specs.Marks.{layout_own, layout_told, has_say, layout_marks, paint_marks}
use Rattle.render_tree.specs.Object.{RenderObject, bounds_in, object_look}
use Rattle.render_tree.specs.Plain.{lazy_children, renders_of, root_tree}
use Rattle.render_tree.specs.Redraw.{Redraw, redrawn}
use Rattle.render_tree.specs.Tree.{object_at}
use Rattle.render_sync.specs.Numbering.{NumbersDiffer}
use Rattle.render_sync.specs.Synced.{Synced}
use Rattle.screen_owner.proofs.Bringing.{synced_is, synced_rooted}
use Rattle.screen_owner.proofs.Showing.{root_forest}

-- ---- entries of a plan

some_found : (P : PlanEntry Redraw → Type 0) (es : List (PlanEntry Redraw)) → AreDistinct (planned es) → SomeEntry P es → (e : PlanEntry Redraw) × P e × (entry_at es e.at ≡ Some e)
some_found P [] once some = absurd some
some_found P (x ∷ xs) once (inl p) = (x, p, ap (λ (b : Bool). cond {A = Option (PlanEntry Redraw)} b (Some x) (entry_at xs x.at)) (same_self x.at))
some_found P (x ∷ xs) once (inr some) =
    let later = some_found P xs (λ k. let two = once k in let more = times-cons k x.at (planned xs) in omega (arith, two, more)) some in
    let named = (entry-some xs later.0.at later.0 later.2).1 in (
      later.0,
      later.1,
      ap (λ (b : Bool). cond {A = Option (PlanEntry Redraw)} b (Some x) (entry_at xs later.0.at)) (same-ne later.0.at x.at (apart x later.0.at xs named (once later.0.at)))
          ∙ later.2,
    )
  where
    apart : (x : PlanEntry Redraw) (k : Handle) (xs : List (PlanEntry Redraw)) → 1 ≤ times k (planned xs) → times k (x.at ∷ planned xs) ≤ 1 → k ≢ x.at
    apart x k xs there once e =
        let two : times k (x.at ∷ planned xs) ≡ times k (k ∷ planned xs) = ap (λ (h : Handle). times k (h ∷ planned xs)) (sym e) in
        let more = times_here k (planned xs) in
        omega (arith, there, once, two, more)

each_at : (Q : PlanEntry Redraw → Type 0) (es : List (PlanEntry Redraw)) → EachEntry Q es → (k : Handle) (e : PlanEntry Redraw) → entry_at es k ≡ Some e → Q e
each_at Q [] each k e is = absurd (cc)
each_at Q (x ∷ xs) each k e is = elim (cases_same k x.at) [
  | inl here ↦ subst Q (same_Some (sym (ap (λ (b : Bool). cond {A = Option (PlanEntry Redraw)} b (Some x) (entry_at xs k)) (ap (same k) (sym here) ∙ same_self k)) ∙ is)) each.0
  | inr other ↦ each_at Q xs each.1 k e (sym (ap (λ (b : Bool). cond {A = Option (PlanEntry Redraw)} b (Some x) (entry_at xs k)) (same-ne k x.at other)) ∙ is)
]

each_both : (Q : PlanEntry Redraw → Type 0) (xs ys : List (PlanEntry Redraw)) → EachEntry Q xs → EachEntry Q ys → EachEntry Q (xs ++ ys)
each_both Q [] ys a b = b
each_both Q (x ∷ xs) ys a b = (a.0, each_both Q xs ys a.1 b)

-- ---- one node

-- the parts of a render node and of those after it
pub record RenderParts (n n2 : ℕ) (l l2 : Look) (t t2 : ParentData) (s s2 c c2 : ℕ) (below below2 rest rest2 : Renders) : Type 0 where
  pub number : n ≡ n2
  pub look : l ≡ l2
  pub told : t ≡ t2
  pub count : c ≡ c2
  pub inside : below ≡ below2
  pub after : rest ≡ rest2

same_render : {n n2 : ℕ} {l l2 : Look} {t t2 : ParentData} {s s2 c c2 : ℕ} {below below2 rest rest2 : Renders}
    → more_renders (render n l t s c below) rest ≡ more_renders (render n2 l2 t2 s2 c2 below2) rest2 → RenderParts n n2 l l2 t t2 s s2 c c2 below below2 rest rest2
same_render e = record { number = cc; look = cc; told = cc; count = cc; inside = cc; after = cc }

-- what a node keeps: all but its widget's key and child widgets
pub record Keeps (o v : RenderObject) : Type 0 where
  pub look : object_look v ≡ object_look o
  pub layout : layout_node v ≡ layout_node o
  pub needs_paint : v.needs_paint ≡ o.needs_paint

-- a forest is another one, where each node keeps so much
abbrev pub KeepEach : Forest RenderObject → Forest RenderObject → Type 0
KeepEach none none = Unit {0}
KeepEach none (tree k v kids more) = ⊥
KeepEach (tree h o below rest) none = ⊥
KeepEach (tree h o below rest) (tree k v kids more) = (h ≡ k) × Keeps o v × KeepEach below kids × KeepEach rest more

same_tops : (f g : Forest RenderObject) → KeepEach f g → tops f ≡ tops g
same_tops none none keep = refl
same_tops none (tree k v kids more) keep = absurd keep
same_tops (tree h o below rest) none keep = absurd keep
same_tops (tree h o below rest) (tree k v kids more) keep = λ i. keep.0 i ∷ same_tops rest more keep.3 i

pub kept_nodes : (f g : Forest RenderObject) → KeepEach f g → layout_nodes g ≡ layout_nodes f
kept_nodes none none keep = refl
kept_nodes none (tree k v kids more) keep = absurd keep
kept_nodes (tree h o below rest) none keep = absurd keep
kept_nodes (tree h o below rest) (tree k v kids more) keep = λ i. tree (sym keep.0 i) (keep.1.layout i) (kept_nodes below kids keep.2 i) (kept_nodes rest more keep.3 i)

updated_tops : (at : Handle → Option RenderObject) (u : Forest Redraw) (g : Forest RenderObject) → IsUpdated redrawn at u g → tops u ≡ tops g
updated_tops at none none updated = refl
updated_tops at none (tree k v kids more) updated = absurd updated
updated_tops at (tree j x inside after) none updated = absurd updated
updated_tops at (tree j x inside after) (tree k v kids more) updated = λ i. updated.0 i ∷ updated_tops at after more updated.3 i

module _ (x : Redraw) (o v : RenderObject) (is : redrawn x o ≡ v) (look : object_look v ≡ object_look o) (told : v.parent_data ≡ o.parent_data) (count : lazy_children v ≡ lazy_children o) where
  keeps_node : Keeps o v
  keeps_node = record {
    look = look;
    layout = λ i. record {
      number = (ap (λ (y : RenderObject). y.number) (sym is)) i;
      look = look i;
      told = told i;
      count = count i;
      scroll = (ap (λ (y : RenderObject). y.scroll) (sym is)) i;
      frame = (ap (λ (y : RenderObject). y.frame) (sym is)) i;
      notes = (ap (λ (y : RenderObject). y.notes) (sym is)) i;
      plugged = (ap (λ (y : RenderObject). y.plugged) (sym is)) i;
      scrolled = (ap (λ (y : RenderObject). y.scrolled) (sym is)) i;
      offset = (ap (λ (y : RenderObject). y.offset) (sym is)) i;
      shown = (ap (λ (y : RenderObject). y.shown) (sym is)) i;
      needs_layout = (ap (λ (y : RenderObject). y.needs_layout) (sym is)) i;
      layout_below = (ap (λ (y : RenderObject). y.layout_below) (sym is)) i;
    };
    needs_paint = ap (λ (y : RenderObject). y.needs_paint) (sym is);
  }

-- ---- what an update leaves

-- an entry of a plan changes nothing of a node that is painted or laid out
pub record Unmarks (t : Tree RenderObject) (e : PlanEntry Redraw) : Type 0 where
  pub own : KeepsOwn t e
  pub list : KeepsList t e
  pub told : KeepsTold t e
  pub look : KeepsLook t e

module _ (made : Tree RenderObject) (differ : NumbersDiffer made) where
  -- the node that is updated is the one with the number
  pub record Updates (j : Handle) (x : Redraw) (h : Handle) (o v : RenderObject) : Type 0 where
    pub at : h ≡ j
    pub value : redrawn x o ≡ v

  updates_it : (j : Handle) (x : Redraw) (v : RenderObject) (h : Handle) (o : RenderObject) → option_map (redrawn x) (object_at made j) ≡ Some v → object_at made h ≡ Some o
      → v.number ≡ o.number → Updates j x h o v
  updates_it j x v h o updated there number = by_made (object_at made j) refl
    where
      by_made : (y : Option RenderObject) → object_at made j ≡ y → Updates j x h o v
      by_made None e = absurd (no_some (sym updated ∙ ap (option_map (redrawn x)) e))
        where
          no_some : Some v ≡ None → ⊥
          no_some e = cc
      by_made (Some o2) e =
          let value : redrawn x o2 ≡ v = same_Some (sym (ap (option_map (redrawn x)) e) ∙ updated) in
          let one = ap (option_map (λ (y : RenderObject). y.number)) there in
          let two = ap (option_map (λ (y : RenderObject). y.number)) e ∙ ap Some (ap (λ (y : RenderObject). y.number) value ∙ number) in
          let at = differ o.number h j one two in
          record { at = at; value = ap (redrawn x) (same_Some (sym there ∙ (ap (object_at made) at ∙ e))) ∙ value }

  module _ (p : Option Handle) (j : Handle) (x : Redraw) (inside : Forest Redraw) (h : Handle) (o v : RenderObject) (there : object_at made h ≡ Some o) (updates : Updates j x h o v)
      (look : object_look v ≡ object_look o) (told : v.parent_data ≡ o.parent_data) (count : lazy_children v ≡ lazy_children o) (list : tops inside ≡ children_at made j) where
    same_object : (y : RenderObject) → object_at made j ≡ Some y → o ≡ y
    same_object y e = same_Some (sym there ∙ (ap (object_at made) updates.at ∙ e))

    abbrev entry_of : PlanEntry Redraw
    entry_of = record { at = j; parent = p; children = tops inside; update = x }

    same_told : (b : Bool) → layout_told b (redrawn x o) ≡ layout_told b o
    same_told b = λ i. record {
      parent_data = (ap (λ (z : RenderObject). z.parent_data) updates.value ∙ told) i;
      is_viewport = has_say b (bounds_in o.frame) && is_viewport ((ap object_look updates.value ∙ look) i);
      is_offstage = has_say b (bounds_in o.frame) && is_offstage ((ap object_look updates.value ∙ look) i);
    }

    unmarks : Unmarks made (record { at = j; parent = p; children = tops inside; update = x })
    unmarks = record {
      own = λ y e. subst (λ (z : RenderObject). layout_own (redrawn x z) ≡ layout_own z) (same_object y e)
          (ap layout_own updates.value
          ∙ (λ i. record { look = for_layout (look i); scroll = (ap (λ (z : RenderObject). z.scroll) (sym updates.value)) i; count = count i }));
      list = list;
      told = λ y e. subst (λ (z : RenderObject). layout_told (hides_at made p) (redrawn x z) ≡ layout_told (hides_at made p) z) (same_object y e) (same_told (hides_at made p));
      look = λ y e. subst (λ (z : RenderObject). object_look (redrawn x z) ≡ object_look z) (same_object y e) (ap object_look updates.value ∙ look);
    }

module _ (old new : Tree RenderObject) (top : Render) (synced : Synced old new top) (is : IsTree old) where
  node_made : (h : Handle) (n : TreeNode RenderObject) → node_at old h ≡ Some n → node_at synced.made h ≡ Some n
  node_made h n e = synced.grows.keeps h (is_node (node_at old h) n e) ∙ e

  all_keep : (p q : Option Handle) (f g : Forest RenderObject) (u : Forest Redraw) → Stands (node_at old) q f → IsUpdated redrawn (object_at synced.made) u g → renders_of g ≡ renders_of f
      → KeepEach f g × EachEntry (Unmarks synced.made) (entries p u)
  all_keep p q none none none stands updated same_renders = (tt, tt)
  all_keep p q none none (tree j x inside after) stands updated same_renders = absurd updated
  all_keep p q none (tree k v kids more) u stands updated same_renders = absurd (cc)
  all_keep p q (tree h o below rest) none u stands updated same_renders = absurd (cc)
  all_keep p q (tree h o below rest) (tree k v kids more) none stands updated same_renders = absurd updated
  all_keep p q (tree h o below rest) (tree k v kids more) (tree j x inside after) stands updated same_renders =
      let parts = same_render same_renders in
      let made = node_made h (record { parent = q; children = tops below; value = o }) stands.0 in
      let there : object_at synced.made h ≡ Some o = ap (option_map (λ (n : TreeNode RenderObject). n.value)) made in
      let updates = updates_it synced.made synced.differ j x v h o updated.1 there parts.number in
      let within = all_keep (Some j) (Some h) below kids inside stands.1 updated.2 parts.inside in
      let later = all_keep p q rest more after stands.2 updated.3 parts.after in
      let list : tops inside ≡ children_at synced.made j =
      updated_tops (object_at synced.made) inside kids updated.2
      ∙ (sym (same_tops below kids within.0) ∙ sym (ap children_of (ap (node_at synced.made) (sym updates.at) ∙ made))) in (
        (updates.at ∙ updated.0, keeps_node x o v updates.value parts.look parts.told parts.count, within.0, later.0),
        each_both (Unmarks synced.made) (entries (Some j) inside) (record { at = j; parent = p; children = tops inside; update = x } ∷ entries p after) within.1
            (unmarks synced.made synced.differ p j x inside h o v there updates parts.look parts.told parts.count list, later.1),
      )

  module _ (alone : old.inactive ≡ []) (there : renders_of (root_tree old) ≡ more_renders top no_renders) (layouts : IsMarking layout_marks) (paints : IsMarking paint_marks) where
    root_is : root_tree old ≡ is.0
    root_is = root_forest old is.0 alone is.1

    all : KeepEach is.0 synced.nodes × EachEntry (Unmarks synced.made) (entries None synced.updates)
    all = all_keep None None is.0 synced.nodes synced.updates is.1.stands synced.updated (synced.renders ∙ (sym there ∙ ap renders_of root_is))

    entry_keeps : (P : PlanEntry Redraw → Type 0) → SomeEntry P synced.plan → (e : PlanEntry Redraw) × P e × Unmarks synced.made e
    entry_keeps P some =
        let found = some_found P synced.plan synced.is_plan.once some in
        (found.0, found.1, each_at (Unmarks synced.made) (entries None synced.updates) all.1 found.0.at found.0 (sym (synced.is_plan.entry found.0.at) ∙ found.2))

    root_kept : old.root ≡ Some synced.root
    root_kept = by_root old.root refl
      where
        tops_are : option_to_list old.root ++ [] ≡ synced.root ∷ []
        tops_are =
            ap (λ (hs : List Handle). option_to_list old.root ++ hs) (sym alone)
            ∙ (is.1.tops ∙ (same_tops is.0 synced.nodes all.0 ∙ (sym (updated_tops (object_at synced.made) synced.updates synced.nodes synced.updated) ∙ sym synced.is_plan.tops)))

        by_root : (r : Option Handle) → old.root ≡ r → old.root ≡ Some synced.root
        by_root None e = absurd (no_handle (ap (λ (r : Option Handle). option_to_list r ++ []) (sym e) ∙ tops_are))
          where
            no_handle : [] ≡ synced.root ∷ [] → ⊥
            no_handle e = cc
        by_root (Some r) e = e ∙ ap Some (one (ap (λ (r : Option Handle). option_to_list r ++ []) (sym e) ∙ tops_are))
          where
            one : r ∷ [] ≡ synced.root ∷ [] → r ≡ synced.root
            one e = cc

    no_root : (h : Handle) → BecomesRoot synced.made (Some synced.root) h → ⊥
    no_root h becomes = becomes.1 (synced.grows.root ∙ (root_kept ∙ becomes.0))

    none_listed : (hs : List Handle) → ((h : Handle) → listed h hs ≡ true → ⊥) → hs ≡ []
    none_listed [] nowhere = refl
    none_listed (h ∷ hs) nowhere = absurd (nowhere h (ap (λ (b : Bool). b || listed h hs) (same_self h)))

    no_layouts : synced.laid ≡ []
    no_layouts = none_listed synced.laid (λ h there. elim (synced.laid_anew.caused h there) [
      | inl some ↦
          let entry = entry_keeps (ChangesLayout synced.made h) some in
          elim entry.1 [ inl own ↦ own.1 (entry.2.own, entry.2.list) | inr told ↦ told.1 entry.2.told ]
      | inr becomes ↦ no_root h becomes
    ])

    no_paints : synced.painted ≡ []
    no_paints = none_listed synced.painted (λ h there. elim (synced.painted_anew.caused h there) [
      | inl some ↦ let entry = entry_keeps (ChangesPaint synced.made h) some in entry.1.1 (entry.2.look, entry.2.list)
      | inr becomes ↦ no_root h becomes
    ])

    unmarked : sweep paint_marks true synced.painted at_top (sweep layout_marks true synced.laid at_top synced.nodes) ≡ synced.nodes
    unmarked =
        (λ i. sweep paint_marks true (no_paints i) at_top (sweep layout_marks true (no_layouts i) at_top synced.nodes))
        ∙ (sweep-nil paint_marks paints true at_top (sweep layout_marks true [] at_top synced.nodes) ∙ sweep-nil layout_marks layouts true at_top synced.nodes)

    pub unchanged : KeepEach (root_tree old) (root_tree new)
    unchanged =
        let now = root_forest new (sweep paint_marks true synced.painted at_top (sweep layout_marks true synced.laid at_top synced.nodes)) (synced_rooted old new top synced).alone (synced_is old new top synced) in
        subst (λ (f : Forest RenderObject). KeepEach f (root_tree new)) (sym root_is) (subst (λ (g : Forest RenderObject). KeepEach is.0 g) (sym (now ∙ unmarked)) all.0)
