-- What is listed of what children were told, and what all of them were told by it.
use Rattle.std.proofs.Common.{◌≡◌, ap, refl, sym, ◌∙◌, subst, ℕ, ◌^◌, ◌<◌, Bool, true, false, cond, Option, Some, None, IsSome, is_some, option_map, List, [], map, arith}
use Rattle.std.specs.Prelude.{sum}
use Rattle.std.proofs.lemmas.Bool.{false≢true}
use Rattle.fx_handles.specs.declared.Handle.{Handle}
use Rattle.node_tree.specs.Forest.{TreeNode, Forest}
use Rattle.node_tree.specs.Forest.Forest.{none, tree}
use Rattle.node_tree.specs.Tree.{Tree, IsNode, IsTree, node_at, children_at}
use Rattle.node_tree.proofs.Children.{opened}
use Rattle.node_tree.proofs.ForestLemmas.{same_Some}
use Rattle.node_tree.proofs.TreeLemmas.{Holds-from_Is}
use Rattle.widget_model.specs.Look.{Look, sliver_fixed}
use Rattle.plain_tree.specs.declared.laid.Frame.{Frame}
use Rattle.plain_tree.specs.declared.render.ParentData.{ParentData}
use Rattle.layout_form.specs.declared.asks.Ask.{Ask}
use Rattle.layout_form.specs.declared.asks.Ask.TheVariants.{AsBox, AsSliver}
use Rattle.layout_form.specs.FlexRule.{factors_of}
use Rattle.layout_form.specs.Object.{Setting}
use Rattle.layout_form.specs.Protocol.{Found}
use Rattle.kind_rules.specs.Asked.{found_for, rest_for}
use Rattle.kind_rules.specs.Cursor.{look_of}
use Rattle.render_tree.specs.Object.{RenderObject}
use Rattle.render_tree.specs.Tree.{object_at}
use Rattle.layout_walk.proofs.Measuring.{back_only}
use Rattle.layout_walk.proofs.Same.{same_tellings}
use Rattle.layout_walk.specs.Node.{LayoutNode, tellings}
use Rattle.layout_walk.specs.Rule.{Lawful}
use Rattle.layout_walk.specs.Here.{back_in}
use Rattle.layout_walk.specs.Rules.{parts_of}
use Rattle.layout_rules.specs.declared.duties.Duty.{Duty}
use Rattle.layout_rules.specs.declared.duties.Course.{Course}
use Rattle.layout_rules.specs.declared.duties.Course.TheVariants.{Stay, Visit, Hold, Run, View, Open}
use Rattle.layout_rules.specs.Ending.{CanMake, asked_rest, known_in}
use Rattle.layout_rules.specs.Heard.{list_extent, look_or, look_at, told_below, heard_at, all_told}
use Rattle.layout_rules.specs.Nodes.{SeenAt}
use Rattle.layout_rules.specs.Places.{first_render, render_at}
use Rattle.layout_rules.specs.Reads.{told_at}
use Rattle.layout_rules.proofs.Served.{served_same}
use Rattle.layout_rules.proofs.Turning.{none_some, seen_stored, seen_children}
use Rattle.layout_rules.proofs.Walked.{told_are}
use Rattle.layout_rules.proofs.Walking.{Progress}

-- ---- by whether a node is a list

pub is_list : (look : Look) (extent : ℕ) → list_extent look ≡ Some extent → look ≡ sliver_fixed extent
is_list (sliver_fixed n) extent e = ap sliver_fixed (same_Some e)
is_list look extent e = absurd (none_some extent e)

pub other_all : (t : Tree RenderObject) (h : Handle) (heard : List ParentData) → list_extent (look_at t h) ≡ None → all_told t h heard ≡ heard
other_all t h heard e = ap (λ (o : Option ℕ). cond (is_some o) (told_below t h) heard) e

pub list_all : (t : Tree RenderObject) (h : Handle) (heard : List ParentData) (extent : ℕ) → list_extent (look_at t h) ≡ Some extent → all_told t h heard ≡ told_below t h
list_all t h heard extent e = ap (λ (o : Option ℕ). cond (is_some o) (told_below t h) heard) e

-- where nothing is listed of the children of a list, all is told
pub heard_told : (t : Tree RenderObject) (h : Handle) (heard : List ParentData) → heard ≡ heard_at t h → all_told t h heard ≡ told_below t h
heard_told t h heard is = by (list_extent (look_at t h)) is
  where
    by : (o : Option ℕ) → heard ≡ cond (is_some o) [] (told_below t h) → cond (is_some o) (told_below t h) heard ≡ told_below t h
    by None e = e
    by (Some extent) e = refl

-- where nobody is below, nothing is told
pub nothing_told : (t : Tree RenderObject) (h : Handle) → children_at t h ≡ [] → all_told t h [] ≡ []
nothing_told t h empty = by (list_extent (look_at t h))
  where
    by : (o : Option ℕ) → cond (is_some o) (told_below t h) [] ≡ []
    by None = refl
    by (Some extent) = ap (λ (hs : List Handle). map (told_at t) hs) empty

pub heard_sum : (t : Tree RenderObject) (h : Handle) (heard : List ParentData) → heard ≡ heard_at t h → sum (factors_of (told_below t h)) < 2 ^ 64 → sum (factors_of heard) < 2 ^ 64
heard_sum t h heard is small = by (list_extent (look_at t h)) is
  where
    by : (o : Option ℕ) → heard ≡ cond (is_some o) [] (told_below t h) → sum (factors_of heard) < 2 ^ 64
    by None e = subst (λ (ds : List ParentData). sum (factors_of ds) < 2 ^ 64) (sym e) small
    by (Some extent) e = subst (λ (ds : List ParentData). sum (factors_of ds) < 2 ^ 64) (sym e) (omega arith)

-- ---- the look of a node

pub look_stored : (t : Tree RenderObject) (h : Handle) → IsTree t → IsNode t h → look_of (render_at t h) ≡ look_at t h
look_stored t h is live = by (node_at t h) refl live
  where
    by : (n : Option (TreeNode RenderObject)) → node_at t h ≡ n → IsSome n → look_of (render_at t h) ≡ look_at t h
    by None e there = absurd (false≢true there)
    by (Some n) e there =
        let stored : object_at t h ≡ Some n.value = ap (λ (o : Option (TreeNode RenderObject)). option_map (λ (x : TreeNode RenderObject). x.value) o) e in
        ap (λ (f : Forest RenderObject). look_of (first_render f)) (opened t h n.value (Holds-from_Is t is.0 h is.1 live) stored) ∙ sym (ap (λ (o : Option RenderObject). look_or o) stored)

look_seen : (t : Tree RenderObject) (h : Handle) (v : LayoutNode) (kids : Forest LayoutNode) → SeenAt t h (tree h v kids none) → look_at t h ≡ v.look
look_seen t h v kids seen =
    let stored = seen_stored t h v kids seen in
    ap (λ (o : Option RenderObject). look_or o) stored.is ∙ ap (λ (x : LayoutNode). x.look) stored.seen

told_seen : (t : Tree RenderObject) (h : Handle) (v : LayoutNode) (kids : Forest LayoutNode) → SeenAt t h (tree h v kids none) → told_below t h ≡ tellings kids
told_seen t h v kids seen = ap (λ (hs : List Handle). map (told_at t) hs) (seen_children t h v kids seen) ∙ told_are t (Some h) kids seen.stands.1

-- ---- between the rounds

-- duties done at the children change neither
pub all_kept : (s : Setting) (law : Lawful (parts_of s)) (outer : Bool) (t0 t : Tree RenderObject) (h : Handle) (i end : ℕ) (duties : List (Option Duty)) (before now : ℕ)
    → Progress s outer t0 t h i end duties before now → (heard : List ParentData) → all_told t h heard ≡ all_told t0 h heard
all_kept s law outer t0 t h i end duties before now p heard =
    let looks : look_at t h ≡ look_at t0 h = look_seen t h p.value p.kids p.turns.stands ∙ sym (look_seen t0 h p.value p.kids0 p.base) in
    let same = served_same s law (back_in (parts_of s) outer) (back_only (parts_of s) outer) i duties p.kids0 p.kids p.all p.served in
    let tells : told_below t h ≡ told_below t0 h =
    told_seen t h p.value p.kids p.turns.stands ∙ sym (same_tellings p.kids0 p.kids same) ∙ sym (told_seen t0 h p.value p.kids0 p.base) in
    ap (λ (l : Look). cond (is_some (list_extent l)) (told_below t h) heard) looks ∙ ap (λ (ds : List ParentData). cond (is_some (list_extent (look_at t0 h))) ds heard) tells

-- a list asks nobody then, whatever its children were told
list_rest : (look : Look) (extent : ℕ) (ask : Ask) (found : Found) (ds es : List ParentData) (fs : List (Option Frame)) → list_extent look ≡ Some extent
    → rest_for look ask found ds fs ≡ rest_for look ask found es fs
list_rest (sliver_fixed n) extent (AsBox b) found ds es fs e = refl
list_rest (sliver_fixed n) extent (AsSliver b) found ds es fs e = refl
list_rest look extent ask found ds es fs e = absurd (none_some extent e)

pub rest_heard : (t : Tree RenderObject) (h : Handle) (v : LayoutNode) (kids : Forest LayoutNode) → SeenAt t h (tree h v kids none) → (course : Course) (heard : List ParentData) (known : List (Option Frame))
    → asked_rest course v heard known ≡ asked_rest course v (all_told t h heard) known
rest_heard t h v kids seen course heard known = by (list_extent (look_at t h)) (ap (λ (l : Look). list_extent l) (sym (look_seen t h v kids seen)))
  where
    listed : (extent : ℕ) (course : Course) → list_extent v.look ≡ Some extent → asked_rest course v heard known ≡ asked_rest course v (told_below t h) known
    listed extent (Run (AsBox b)) e = list_rest v.look extent (AsBox b) (found_for v.look v.scroll (AsBox b) known) heard (told_below t h) known e
    listed extent (Run (AsSliver b)) e = refl
    listed extent (View axis b) e = list_rest v.look extent (AsBox b) (found_for v.look v.scroll (AsBox b) known) heard (told_below t h) known e
    listed extent Stay e = refl
    listed extent Visit e = refl
    listed extent (Hold ask) e = refl
    listed extent (Open duty) e = refl

    by : (o : Option ℕ) → list_extent v.look ≡ o → asked_rest course v heard known ≡ asked_rest course v (cond (is_some o) (told_below t h) heard) known
    by None e = refl
    by (Some extent) e = listed extent course e

-- whom a course asks then, by what all were told
pub rest_told : (t : Tree RenderObject) (h : Handle) (heard told : List ParentData) → all_told t h heard ≡ told → (course : Course) (first rest : List (Option Ask))
    → ((v : LayoutNode) (kids : Forest LayoutNode) → SeenAt t h (tree h v kids none) → rest ≡ asked_rest course v heard (known_in course first kids))
    → (v : LayoutNode) (kids : Forest LayoutNode) → SeenAt t h (tree h v kids none) → rest ≡ asked_rest course v told (known_in course first kids)
rest_told t h heard told all course first rest is v kids seen =
    is v kids seen ∙ rest_heard t h v kids seen course heard (known_in course first kids) ∙ ap (λ (ds : List ParentData). asked_rest course v ds (known_in course first kids)) all

-- ---- what can be made

pub can_none : (look : Look) (ask : Ask) (ds : List ParentData) (found : Found) (fs : List (Option Frame)) → CanMake look ask ds found fs → CanMake look ask [] found fs
can_none look ask ds found fs can = record {
  fits = record { members = can.fits.members; told = λ k d less. absurd (omega (arith, less)); few = omega arith };
  sizes = can.sizes;
  stack = can.stack;
  offset = can.offset;
  walk = can.walk;
}
