-- The root of a tree, before it is laid out and afterwards.
use Rattle.std.proofs.Common.{◌≡◌, ap, refl, sym, subst, ◌∙◌, inl, ℕ, ◌+◌, ◌≤◌, Bool, true, Option, Some, None, IsSome, option_map, List, [], ◌∷◌, arith}
use Rattle.fx_geom.specs.declared.boxes.Bounds.{Bounds}
use Rattle.fx_geom.specs.Offset.{origin}
use Rattle.fx_handles.specs.declared.Handle.{Handle}
use Rattle.delegates.specs.Table.{Plug}
use Rattle.node_tree.specs.Forest.{TreeNode, Forest, tops, Stands}
use Rattle.node_tree.specs.Forest.Forest.{none, tree}
use Rattle.node_tree.specs.Tree.{Tree, IsNode, IsTree, StandsAt, Holds, node_at, parent_at, subtree_at}
use Rattle.node_tree.proofs.ForestLemmas.{same_Some}
use Rattle.plain_tree.specs.Render.{render, Renders}
use Rattle.layout_form.specs.declared.asks.Ask.TheVariants.{AsBox}
use Rattle.layout_form.specs.Fits.{CanBeLaidOut, CanAllBeLaidOut}
use Rattle.layout_form.specs.Object.{Setting}
use Rattle.render_tree.specs.declared.layout_state.LayoutState.{LayoutState}
use Rattle.render_tree.specs.Edits.{Changes}
use Rattle.render_tree.specs.LayoutState.{layout_state_of, with_layout_state}
use Rattle.render_tree.specs.Object.{RenderObject}
use Rattle.render_tree.specs.Plain.{renders_of, root_below, root_tree}
use Rattle.layout_walk.specs.Node.{LayoutNode, renders_in}
use Rattle.layout_walk.specs.Here.{HereAll, back_in}
use Rattle.layout_walk.specs.Flush.{runs, ticks}
use Rattle.layout_walk.specs.Rules.{parts_of}
use Rattle.layout_walk.specs.Walk.{LaysOut}
use Rattle.layout_walk.proofs.Standing.{stood_all}
use Rattle.layout_rules.specs.declared.duties.Duty.TheVariants.{Lay}
use Rattle.layout_rules.specs.Nodes.{layout_node, layout_nodes, seen_at, SeenAt}
use Rattle.layout_rules.specs.Reads.{state_or, state_at}
use Rattle.layout_rules.specs.Serving.{IsReadyFor, Serves}
use Rattle.layout_rules.specs.Turns.{Turns, node_with}
use Rattle.layout_rules.specs.Plugs.{ArePlugged}
use Rattle.layout_rules.proofs.Below.{parts_self}
use Rattle.layout_rules.proofs.Plugged.{kind_plug, stood_plug, turned_plugs}
use Rattle.layout_rules.proofs.Putting.{one_forest}
use Rattle.layout_rules.proofs.Turning.{seen_stored, seen_live, seen_whole, turn_again, node_turns}
use Rattle.layout_owner.specs.Roots.{Good}
use Rattle.layout_owner.specs.Stays.{Stays, placed_state}
use Rattle.layout_owner.proofs.Staying.{stays_turns}

-- ---- a forest of one tree

pub record OneTree (f : Forest RenderObject) (h : Handle) : Type 0 where
  pub value : RenderObject
  pub kids : Forest RenderObject
  pub is : f ≡ tree h value kids none

nil_cons : (h : Handle) (hs : List Handle) → [] ≡ h ∷ hs → ⊥
nil_cons h hs e = cc

no_rest : (f : Forest RenderObject) → tops f ≡ [] → f ≡ none
no_rest none e = refl
no_rest (tree h o below rest) e = absurd (nil_cons h (tops rest) (sym e))

pub one_tree : (f : Forest RenderObject) (h : Handle) → tops f ≡ h ∷ [] → OneTree f h
one_tree none h e = absurd (nil_cons h [] e)
one_tree (tree k o below rest) h e =
    let top : k ≡ h = cc in
    let end : tops rest ≡ [] = cc in
    record { value = o; kids = below; is = ap (λ (x : Handle). tree x o below rest) top ∙ ap (λ (g : Forest RenderObject). tree h o below g) (no_rest rest end) }

none_some : {X : Type 0} (n : X) → None ≡ Some n → ⊥
none_some n e = cc

some_node : {X : Type 0} (o : Option X) (n : X) → o ≡ Some n → IsSome o
some_node None n e = absurd (none_some n e)
some_node (Some m) n e = refl

pub live_root : (t : Tree RenderObject) (h : Handle) → Holds t h → IsNode t h
live_root t h holds =
    let one = one_tree (subtree_at t h) h holds.top in
    let stands = subst (λ (f : Forest RenderObject). Stands (node_at t) (parent_at t h) f) one.is holds.stands in
    some_node (node_at t h) (record { parent = parent_at t h; children = tops one.kids; value = one.value }) stands.0

pub live_stays : (old new : Tree RenderObject) (h : Handle) → Stays old new → IsNode old h → IsNode new h
live_stays old new h stays live = subst (λ (n : Option (TreeNode RenderObject)). IsSome n) (sym (stays.nodes h)) live

-- ---- the root, as it is found

-- what the laws of layout_rules say of what a layout sees
pub record SeenLaws : Type 0 where
  pub renders : (f : Forest RenderObject) → renders_in (layout_nodes f) ≡ renders_of f
  pub stands : (t : Tree RenderObject) (h : Handle) (f : Forest RenderObject) → StandsAt t h f → SeenAt t h (layout_nodes f)

pub record Found (s : Setting) (t : Tree RenderObject) (h : Handle) : Type 0 where
  pub value : LayoutNode
  pub kids : Forest LayoutNode
  pub is : layout_nodes (subtree_at t h) ≡ tree h value kids none
  pub seen : SeenAt t h (tree h value kids none)
  pub all : HereAll (parts_of s) (tree h value kids none)
  pub fits : CanBeLaidOut (render value.number value.look value.told value.scroll value.count (renders_in kids))

pub found_root : SeenLaws → (s : Setting) (t : Tree RenderObject) (h : Handle) → t.root ≡ Some h → Holds t h → Good s (root_tree t) → Found s t h
found_root laws s t h root holds good =
    let f = subtree_at t h in
    let one = one_tree f h holds.top in
    let v = layout_node one.value in
    let kids = layout_nodes one.kids in
    let is : layout_nodes f ≡ tree h v kids none = ap (λ (g : Forest RenderObject). layout_nodes g) one.is in
    let here : Good s f = subst (λ (g : Forest RenderObject). Good s g) (ap (λ (o : Option Handle). root_below t o) root) good in
    let fits : CanAllBeLaidOut (renders_in (tree h v kids none)) =
    subst (λ (g : Forest LayoutNode). CanAllBeLaidOut (renders_in g)) is (subst (λ (rs : Renders). CanAllBeLaidOut rs) (sym (laws.renders f)) here.fits) in
    record {
      value = v;
      kids = kids;
      is = is;
      seen = subst (λ (g : Forest LayoutNode). SeenAt t h g) is (laws.stands t h f holds);
      all = subst (λ (g : Forest LayoutNode). HereAll (parts_of s) g) is here.here;
      fits = fits.0;
    }

-- ---- and as it is laid out

abbrev pub placed : LayoutNode → LayoutNode
placed v = record v { shown = true; offset = Some origin }

placed_here : (t : Tree RenderObject) (h : Handle) (v : LayoutNode) (kids : Forest LayoutNode) → SeenAt t h (tree h v kids none)
    → node_with (placed_state (state_at t h)) v ≡ placed v
placed_here t h v kids seen =
    let stored = seen_stored t h v kids seen in
    ap (λ (o : Option RenderObject). node_with (placed_state (state_or o)) v) stored.is
    ∙ ap (λ (w : LayoutNode). node_with (placed_state (layout_state_of stored.object)) w) (sym stored.seen)
    ∙ ap placed stored.seen

-- what was done at the root
pub record Laid (s : Setting) (t0 : Tree RenderObject) (h : Handle) (found : Found s t0 h) (outer : Bool) (b : Bounds) (t3 : Tree RenderObject) (before after : ℕ) : Type 0 where
  pub value : LayoutNode
  pub kids : Forest LayoutNode
  pub is : layout_nodes (subtree_at t3 h) ≡ tree h value kids none
  pub turns : Turns t0 t3 h (tree h found.value found.kids none) (tree h value kids none)
  pub lays : LaysOut (parts_of s) (back_in (parts_of s) outer) (AsBox b) (placed found.value) found.kids value kids
  pub ticks : after ≤ before + ticks (parts_of s) outer (Some (AsBox b) ∷ []) (tree h (placed found.value) found.kids none)

module _ (s : Setting) (t0 t1 t2 : Tree RenderObject) (h : Handle) (found : Found s t0 h) (stays : Stays t0 t1)
    (changes : Changes t1 t2 h (with_layout_state (placed_state (state_at t1 h)))) where
  abbrev before_all : Forest LayoutNode
  before_all = tree h found.value found.kids none

  abbrev before_now : Forest LayoutNode
  before_now = tree h (placed found.value) found.kids none

  first_turn : Turns t0 t1 h before_all before_all
  first_turn = stays_turns t0 t1 h before_all found.seen stays

  second_turn : Turns t1 t2 h before_all before_now
  second_turn =
      subst (λ (w : LayoutNode). Turns t1 t2 h before_all (tree h w found.kids none)) (placed_here t1 h found.value found.kids first_turn.stands)
      (node_turns t1 t2 h found.value found.kids (placed_state (state_at t1 h)) first_turn.stands changes)

  both_turns : Turns t0 t2 h before_all before_now
  both_turns = turn_again t0 t1 t2 h before_all before_all before_now (λ k. refl) first_turn second_turn

  pub placed_seen : SeenAt t2 h before_now
  placed_seen = both_turns.stands

  pub placed_plugs : (ds : List Plug) → ArePlugged ds t0 t2
  placed_plugs ds = turned_plugs ds t0 t2 h found.value (placed found.value) found.kids found.kids found.seen both_turns (refl, inl refl) (parts_self kind_plug stood_plug found.kids)

  pub ready_root : (b : Bounds) → IsReadyFor (parts_of s) t2 h (Lay (AsBox b))
  ready_root b =
      let all : HereAll (parts_of s) before_now = stood_all (parts_of s) (Some (AsBox b) ∷ []) (origin ∷ []) before_all found.all in
      record {
        value = placed found.value;
        kids = found.kids;
        good = record { stands = both_turns.stands; here = all.0; all = all.1; fits = found.fits };
        may = tt;
      }

  abbrev Lays : Bool → Bounds → Forest LayoutNode → LayoutNode → Forest LayoutNode → Type 0
  Lays outer b none w below = Unit {0}
  Lays outer b (tree k v kids rest) w below = LaysOut (parts_of s) (back_in (parts_of s) outer) (AsBox b) v kids w below

  pub laid_root : (outer : Bool) (b : Bounds) (t3 : Tree RenderObject) (before after : ℕ) → IsTree t3
      → Serves (parts_of s) outer (Lay (AsBox b)) t2 t3 h before after → Laid s t0 h found outer b t3 before after
  unfolding runs
  laid_root outer b t3 before after is_tree serves =
      let P = parts_of s in
      let same : tree h serves.value serves.kids none ≡ before_now =
      one_forest (seen_at t2) (parent_at t2 h) (parent_at t2 h) (tree h serves.value serves.kids none) before_now serves.good.stands.stands both_turns.stands.stands refl in
      let after_all = tree h serves.value_now serves.kids_now none in
      let last : Turns t2 t3 h before_now after_all = subst (λ (f : Forest LayoutNode). Turns t2 t3 h f after_all) same serves.turns in
      let few : ticks P outer (Some (AsBox b) ∷ []) (tree h serves.value serves.kids none) ≡ ticks P outer (Some (AsBox b) ∷ []) before_now =
      ap (λ (f : Forest LayoutNode). ticks P outer (Some (AsBox b) ∷ []) f) same in
      let cost = serves.ticks in
      record {
        value = serves.value_now;
        kids = serves.kids_now;
        is = sym (seen_whole t3 h after_all is_tree (seen_live t3 h serves.value_now serves.kids_now last.stands) last.stands);
        turns = turn_again t0 t2 t3 h before_all before_now after_all (λ k. refl) both_turns last;
        lays = subst (λ (f : Forest LayoutNode). Lays outer b f serves.value_now serves.kids_now) same serves.does;
        ticks = omega (arith, few, cost);
      }

pub state_is : (o : Option RenderObject) (u : LayoutState) → option_map layout_state_of o ≡ Some u → u ≡ state_or o
state_is None u e = absurd (none_some u e)
state_is (Some o) u e = sym (same_Some e)
