-- What an outer flush leaves, once live ranges are stored.
use Rattle.std.proofs.Common.{◌≡◌, ap, refl, sym, subst, ◌∙◌, ℕ, Bool, true, false, cond, if◌then◌else◌, Option, Some, None, option_map, List, [], ◌∷◌, ◌++◌, arith}
use Rattle.std.specs.Prelude.{is_some}
use Rattle.std.proofs.lemmas.List.{append-nil}
use Rattle.fx_geom.specs.declared.boxes.Bounds.{Bounds}
use Rattle.fx_geom.specs.declared.shapes.Offset.{Offset}
use Rattle.fx_geom.specs.declared.shapes.Size.{Size}
use Rattle.fx_geom.specs.Bounds.{tight}
use Rattle.fx_geom.specs.Offset.{origin}
use Rattle.fx_handles.specs.declared.Handle.{Handle}
use Rattle.fx_handles.specs.Handle.{same}
use Rattle.node_tree.specs.Forest.{TreeNode, Forest, Stands}
use Rattle.node_tree.specs.Forest.Forest.{none, tree}
use Rattle.node_tree.specs.Tree.{Tree, IsTree, node_at, parent_of, parent_at}
use Rattle.node_tree.proofs.ForestLemmas.{same_Some, Stands-same}
use Rattle.plain_tree.specs.Laid.{Laid as LaidTree, Laids}
use Rattle.plain_tree.specs.Render.{Render, render, Renders}
use Rattle.sliver_layout.specs.declared.protocol.Window.{Window}
use Rattle.layout_form.specs.declared.asks.Ask.{Ask}
use Rattle.layout_form.specs.declared.asks.Ask.TheVariants.{AsBox}
use Rattle.layout_form.specs.Layout.{object, lay_view}
use Rattle.layout_form.specs.Object.{Setting}
use Rattle.layout_form.specs.Protocol.{answer}
use Rattle.render_tree.specs.Edits.{with_live}
use Rattle.render_tree.specs.Object.{RenderObject}
use Rattle.render_tree.specs.Plain.{laids_of, renders_of, root_tree}
use Rattle.render_tree.specs.Ranges.{Clears}
use Rattle.layout_walk.specs.Node.{LayoutNode, renders_in}
use Rattle.layout_walk.specs.Rule.{Lawful}
use Rattle.layout_walk.specs.Full.{laid_node, shown_trees}
use Rattle.layout_walk.specs.Here.{AreQuiet, outer_back}
use Rattle.layout_walk.specs.Items.{lists_of, lists_in}
use Rattle.layout_walk.specs.Rules.{parts_of, is_list, lazy_extent}
use Rattle.layout_walk.specs.Walk.{AreCorrected, LaysOut}
use Rattle.layout_rules.specs.Nodes.{layout_node, layout_nodes, seen_node, seen_at, SeenAt}
use Rattle.layout_rules.specs.Turns.{Turns}
use Rattle.layout_rules.proofs.Turning.{same_weigh, seen_whole, seen_live, turn_again}
use Rattle.layout_owner.specs.Outer.{AreRanged, lists_laid}
use Rattle.layout_owner.specs.Ranges.{is_among, lists_items, lists_in_window, or_live, ranged_one, ranged, range_of, without_live, KeepsButRanges, OnlyValues}
use Rattle.layout_owner.specs.Roots.{top_render, view_asks}
use Rattle.layout_owner.proofs.Flushing.{new_is, old_is}
use Rattle.layout_owner.proofs.Rooting.{SeenLaws, Found, placed, Laid}

abbrev NodeOf : Type 0
NodeOf = TreeNode RenderObject

-- ---- live ranges are nothing to a layout

abbrev LiveAlone : (Handle → RenderObject → RenderObject) → Type 0
LiveAlone g = (k : Handle) (o : RenderObject) → g k o ≡ with_live (g k o).live o

abbrev written : (g : Handle → RenderObject → RenderObject) (k : Handle) → NodeOf → NodeOf
written g k n = record n { value = g k n.value }

value_seen : (g : Handle → RenderObject → RenderObject) (k : Handle) (n : Option NodeOf) → LiveAlone g → option_map seen_node (option_map (written g k) n) ≡ option_map seen_node n
value_seen g k None alone = refl
value_seen g k (Some n) alone = ap (λ (o : RenderObject). Some (record { parent = n.parent; children = n.children; value = layout_node o })) (alone k n.value)

value_rests : (g : Handle → RenderObject → RenderObject) (k : Handle) (n : Option NodeOf) → LiveAlone g → option_map without_live (option_map (written g k) n) ≡ option_map without_live n
value_rests g k None alone = refl
value_rests g k (Some n) alone = ap (λ (o : RenderObject). Some (without_live (record n { value = o }))) (alone k n.value)

value_parent : (g : Handle → RenderObject → RenderObject) (k : Handle) (n : Option NodeOf) → parent_of (option_map (written g k) n) ≡ parent_of n
value_parent g k None = refl
value_parent g k (Some n) = refl

pub live_turns : (g : Handle → RenderObject → RenderObject) (old new : Tree RenderObject) (h : Handle) (s : Forest LayoutNode) → SeenAt old h s → LiveAlone g → OnlyValues g old new → Turns old new h s s
live_turns g old new h s seen alone only =
    let at : (k : Handle) → seen_at new k ≡ seen_at old k =
    λ k. ap (λ (n : Option NodeOf). option_map seen_node n) (only.values k) ∙ value_seen g k (node_at old k) alone in
    let up : parent_at new h ≡ parent_at old h = ap (λ (n : Option NodeOf). parent_of n) (only.values h) ∙ value_parent g h (node_at old h) in
    record {
      stands = record {
        top = seen.top;
        stands = subst (λ (p : Option Handle). Stands (seen_at new) p s) (sym up) (Stands-same (seen_at old) (seen_at new) (parent_at old h) s seen.stands (λ k inside. at k));
        distinct = seen.distinct;
      };
      parent = up;
      others = λ k out. at k;
      root = only.root;
      inactive = only.inactive;
      handles = only.handles;
    }

-- ---- what is kept beside

pub live_keeps : (g : Handle → RenderObject → RenderObject) (old new : Tree RenderObject) → LiveAlone g → OnlyValues g old new → KeepsButRanges old new
live_keeps g old new alone only = record {
  nodes = λ k. ap (λ (n : Option NodeOf). option_map without_live n) (only.values k) ∙ value_rests g k (node_at old k) alone;
  root = only.root;
  inactive = only.inactive;
  handles = only.handles;
}

pub keeps_again : (a b c : Tree RenderObject) → KeepsButRanges a b → KeepsButRanges b c → KeepsButRanges a c
keeps_again a b c one two = record {
  nodes = λ k. two.nodes k ∙ one.nodes k;
  root = two.root ∙ one.root;
  inactive = two.inactive ∙ one.inactive;
  handles = record {
    generations = λ index. two.handles.generations index ∙ one.handles.generations index;
    spent = λ k is. two.handles.spent k (one.handles.spent k is);
    used = two.handles.used ∙ one.handles.used;
    retired = two.handles.retired ∙ one.handles.retired;
    generation_sum = two.handles.generation_sum ∙ one.handles.generation_sum;
    inserted = two.handles.inserted ∙ one.handles.inserted;
  };
}

-- ---- first all are taken away, and then those of the lists are stored

abbrev pub bare : Handle → RenderObject → RenderObject
bare k o = with_live None o

abbrev pub both : ℕ → List Handle → Handle → RenderObject → RenderObject
both widen hs k o = ranged widen hs k (bare k o)

pub clears_bare : (old new : Tree RenderObject) → Clears old new (λ k. true) → OnlyValues bare old new
clears_bare old new clears = record { values = clears.nodes; root = clears.root; inactive = clears.inactive; handles = clears.handles }

live_or : (r : Option Window) (o : RenderObject) → or_live r o ≡ with_live (or_live r o).live o
live_or None o = refl
live_or (Some w) o = refl

pub ranged_alone : (widen : ℕ) (hs : List Handle) → LiveAlone (ranged widen hs)
ranged_alone widen hs k o = by (is_among k hs)
  where
    by : (b : Bool) → (if b then ranged_one widen o else o) ≡ with_live (if b then ranged_one widen o else o).live o
    by true = live_or (range_of widen o) o
    by false = refl

pub both_alone : (widen : ℕ) (hs : List Handle) → LiveAlone (both widen hs)
both_alone widen hs k o =
    ranged_alone widen hs k (bare k o)

-- the live range of a node that has only that of its list
ranged_so : (widen : ℕ) (b : Bool) (o p : RenderObject) → (if b then ranged_one widen (with_live None o) else with_live None o) ≡ p
    → p.live ≡ (if b then range_of widen p else None)
ranged_so widen true o p is = by (range_of widen o) refl
  where
    by : (r : Option Window) → range_of widen o ≡ r → p.live ≡ range_of widen p
    by None e =
        let same : with_live None o ≡ p = sym (ap (λ (r : Option Window). or_live r (with_live None o)) e) ∙ is in
        ap (λ (x : RenderObject). x.live) (sym same) ∙ sym e ∙ ap (λ (x : RenderObject). range_of widen x) same
    by (Some w) e =
        let same : with_live (Some w) o ≡ p = sym (ap (λ (r : Option Window). or_live r (with_live None o)) e) ∙ is in
        ap (λ (x : RenderObject). x.live) (sym same) ∙ sym e ∙ ap (λ (x : RenderObject). range_of widen x) same
ranged_so widen false o p is = ap (λ (x : RenderObject). x.live) (sym is)

node_value : (g : Handle → RenderObject → RenderObject) (k : Handle) (n m : Option NodeOf) (p : RenderObject) → m ≡ option_map (written g k) n → option_map (λ (x : NodeOf). x.value) m ≡ Some p
    → (o : RenderObject) × (g k o ≡ p)
node_value g k None m p e is = absurd (none_some p (sym (ap (λ (x : Option NodeOf). option_map (λ (y : NodeOf). y.value) x) e) ∙ is))
  where
    none_some : (p : RenderObject) → None ≡ Some p → ⊥
    none_some p e = cc
node_value g k (Some n) m p e is = (n.value, same_Some (sym (ap (λ (x : Option NodeOf). option_map (λ (y : NodeOf). y.value) x) e) ∙ is))

pub are_ranged : (widen : ℕ) (hs : List Handle) (old new : Tree RenderObject) → OnlyValues (both widen hs) old new → hs ≡ lists_in_window (root_tree new) → AreRanged widen new
are_ranged widen hs old new only lists k p is =
    let there = node_value (both widen hs) k (node_at old k) (node_at new k) p (only.values k) is in
    ranged_so widen (is_among k hs) there.0 p there.1
    ∙ ap (λ (xs : List Handle). cond {A = Option Window} (is_among k xs) (range_of widen p) None) lists

-- ---- the lists are read off what a layout sees

abbrev lists_seen : Forest LayoutNode → List Handle
lists_seen none = []
lists_seen (tree h v kids rest) = (if v.shown then (if is_some (lazy_extent v.look) then h ∷ [] else lists_seen kids) else []) ++ lists_seen rest

window_seen : (f : Forest RenderObject) → lists_seen (layout_nodes f) ≡ lists_in_window f
window_seen none = refl
window_seen (tree h o below rest) =
    ap (λ (xs : List Handle). cond {A = List Handle} o.shown (cond {A = List Handle} (lists_items o) (h ∷ []) xs) [] ++ lists_seen (layout_nodes rest)) (window_seen below)
    ∙ ap (λ (xs : List Handle). cond {A = List Handle} o.shown (cond {A = List Handle} (lists_items o) (h ∷ []) (lists_in_window below)) [] ++ xs) (window_seen rest)

pub same_lists : (f g : Forest RenderObject) → layout_nodes f ≡ layout_nodes g → lists_in_window f ≡ lists_in_window g
same_lists f g e = sym (window_seen f) ∙ ap (λ (x : Forest LayoutNode). lists_seen x) e ∙ window_seen g

-- ---- the flush

-- the laws of layout_walk on the lists that are laid out, and on full layout
pub record OuterLaws (s : Setting) : Type 0 where
  pub lists : (h : Handle) (v : LayoutNode) (kids : Forest LayoutNode) (w : LayoutNode) (below : Forest LayoutNode) (ask : Ask) (at : Offset)
      → LaysOut (parts_of s) (outer_back (parts_of s)) ask v kids w below → v.shown ≡ true → v.offset ≡ Some at
      → lists_in is_list (shown_trees (tree h w below none)) ≡ lists_of is_list (laid_node (parts_of s) v ask kids) ++ []
  pub full : (v : LayoutNode) (kids : Forest LayoutNode) (ask : Ask)
      → laid_node (parts_of s) v ask kids ≡ answer (object s (render v.number v.look v.told v.scroll v.count (renders_in kids))) ask

-- what is done then is nothing to a layout
abbrev pub laid_then : (s : Setting) (t0 : Tree RenderObject) (h : Handle) (found : Found s t0 h) (outer : Bool) (b : Bounds) (t3 t5 : Tree RenderObject) (before after : ℕ)
    → (done : Laid s t0 h found outer b t3 before after) → Turns t3 t5 h (tree h done.value done.kids none) (tree h done.value done.kids none) → IsTree t5
    → Laid s t0 h found outer b t5 before after
laid_then s t0 h found outer b t3 t5 before after done turns is_tree =
    let all = tree h done.value done.kids none in
    record {
      value = done.value;
      kids = done.kids;
      is = sym (seen_whole t5 h all is_tree (seen_live t5 h done.value done.kids turns.stands) turns.stands);
      turns = turn_again t0 t3 t5 h (tree h found.value found.kids none) all all
          (λ k. let alike = same_weigh (λ j. cond {A = ℕ} (same j k) 1 0) found.kids done.kids done.lays.same in omega (arith, alike)) done.turns turns;
      lays = done.lays;
      ticks = done.ticks;
    }

module _ (laws : SeenLaws) (trees : (f : Forest RenderObject) → shown_trees (layout_nodes f) ≡ laids_of f) (s : Setting) (law : Lawful (parts_of s)) (outers : OuterLaws s)
    (view : Size) (t0 t5 : Tree RenderObject) (h : Handle) (root : t0.root ≡ Some h)
    (found : Found s t0 h) (before after : ℕ) (done : Laid s t0 h found true (tight view) t5 before after) where
  abbrev after_outer : Forest LayoutNode
  after_outer = tree h done.value done.kids none

  found_is : layout_nodes (root_tree t0) ≡ tree h found.value found.kids none
  found_is = old_is laws s law view t0 t5 h root found true before after done

  left_is : layout_nodes (root_tree t5) ≡ after_outer
  left_is = new_is laws s law view t0 t5 h root found true before after done

  abbrev top : Render
  top = render found.value.number found.value.look found.value.told found.value.scroll found.value.count (renders_in found.kids)

  old_top : top_render (renders_of (root_tree t0)) ≡ Some top
  old_top =
      ap (λ (rs : Renders). top_render rs) (sym (laws.renders (root_tree t0))) ∙ ap (λ (f : Forest LayoutNode). top_render (renders_in f)) found_is

  pub now_lists : lists_in is_list (laids_of (root_tree t5)) ≡ lists_laid (option_map (λ x. lay_view s x view) (top_render (renders_of (root_tree t0))))
  now_lists =
      ap (λ (ls : Laids). lists_in is_list ls) (sym (trees (root_tree t5)) ∙ ap (λ (f : Forest LayoutNode). shown_trees f) left_is)
      ∙ outers.lists h (placed found.value) found.kids done.value done.kids (AsBox (tight view)) origin done.lays refl refl
      ∙ append-nil (lists_of is_list (laid_node (parts_of s) (placed found.value) (AsBox (tight view)) found.kids))
      ∙ ap (λ (l : LaidTree). lists_of is_list l) (outers.full (placed found.value) found.kids (AsBox (tight view)))
      ∙ ap (λ (o : Option Render). lists_laid (option_map (λ x. lay_view s x view) o)) (sym old_top)

  pub now_held : AreQuiet (parts_of s) (outer_back (parts_of s)) (layout_nodes (root_tree t5))
  now_held = subst (λ (f : Forest LayoutNode). AreQuiet (parts_of s) (outer_back (parts_of s)) f) (sym left_is) ((λ shown. done.lays.quiet), tt)

  pub now_corrected : AreCorrected (parts_of s) (outer_back (parts_of s)) (view_asks view) (layout_nodes (root_tree t0)) (layout_nodes (root_tree t5))
  now_corrected =
      subst (λ (f : Forest LayoutNode). AreCorrected (parts_of s) (outer_back (parts_of s)) (view_asks view) f (layout_nodes (root_tree t5))) (sym found_is)
      (subst (λ (f : Forest LayoutNode). AreCorrected (parts_of s) (outer_back (parts_of s)) (view_asks view) (tree h found.value found.kids none) f) (sym left_is)
      (refl, done.lays.member, done.lays.corrected, tt))
