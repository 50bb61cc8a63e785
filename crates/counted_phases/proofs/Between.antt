-- The frames of nodes by their numbers, from phase to phase.
use Rattle.std.proofs.Common.{◌≡◌, ℕ, ◌++◌, ◌∷◌, [], ◌⊎◌, inl, inr, Bool, true, cond, IfSome, Option, Some, None, option_map, List, refl, sym, ap, ◌∙◌, subst, arith}
use Rattle.std.specs.Option.{option_to_list}
use Rattle.fx_handles.specs.declared.Handle.{Handle}
use Rattle.fx_handles.specs.ArenaLaws.{same_Some}
use Rattle.fx_handles.specs.Handle.{same}
use Rattle.fx_handles.specs.HandleLaws.{cases_same, same-ne, same_self}
use Rattle.node_tree.specs.Forest.{TreeNode, Forest, count, In, IsDistinct, Stands, append, map_values}
use Rattle.node_tree.specs.Forest.Forest.{none, tree}
use Rattle.node_tree.specs.Part.{CommitsPart, left_node, kept_by}
use Rattle.node_tree.specs.Plan.{PlanEntry, entries, entry_at, relinked, IsUpdated}
use Rattle.node_tree.specs.Tree.{Tree, Is, IsTree, Holds, node_at}
use Rattle.node_tree.proofs.Children.{mapped_is}
use Rattle.node_tree.proofs.ForestLemmas.{count_here, is_zero}
use Rattle.node_tree.proofs.TreeLemmas.{is_node, root_holds}
use Rattle.plain_tree.specs.Laws.{DiffersFrom, AllDiffer, render_numbers_in}
use Rattle.plain_tree.proofs.Numbers.{IsIn, differs}
use Rattle.sliver_layout.specs.declared.protocol.Window.{Window as Range}
use Rattle.tree_marks.specs.Marking.{Above, at_top, within}
use Rattle.tree_marks.specs.Marks.{sweep}
use Rattle.layout_rules.specs.Painting.{PaintsAnew}
use Rattle.layout_rules.specs.Reads.{state_at}
use Rattle.layout_owner.specs.Outer.{PaintsThenRanges}
use Rattle.layout_owner.specs.Ranges.{without_live, KeepsButRanges}
use Rattle.render_tree.specs.Edits.{with_live}
use Rattle.render_tree.specs.LayoutState.{with_layout_state}
use Rattle.render_tree.specs.Marked.{SetsMarks}
use Rattle.render_tree.specs.Marks.{layout_marks, paint_marks}
use Rattle.render_tree.specs.Object.{RenderObject}
use Rattle.render_tree.specs.Plain.{renders_of, root_below, root_tree}
use Rattle.render_tree.specs.Redraw.{Redraw, redrawn}
use Rattle.render_tree.specs.Tree.{object_at}
use Rattle.render_sync.specs.Numbering.{NumbersDiffer, number_at}
use Rattle.render_sync.specs.Synced.{Grows}
use Rattle.kept_phases.specs.Lists.{scrolled_as, StaysBuilt}
use Rattle.kept_phases.specs.Parts.{RedrawsPart}
use Rattle.kept_phases.specs.Redraws.{Redraws}
use Rattle.counted_work.proofs.Synced.{no_some}
use Rattle.counted_phases.proofs.OuterFound.{Pairs}

abbrev pub numbers : Forest RenderObject → List ℕ
numbers f = render_numbers_in (renders_of f)

-- ---- pairs of nodes

-- the node of another tree at a handle, of which this holds
abbrev pub Paired : (RenderObject → RenderObject → Type 0) → Tree RenderObject → Handle → RenderObject → Type 0
Paired R t k w = (o : RenderObject) × (object_at t k ≡ Some o) × R o w

value_at_node : (t : Tree RenderObject) (k : Handle) (n : TreeNode RenderObject) → node_at t k ≡ Some n → object_at t k ≡ Some n.value
value_at_node t k n e = ap (option_map (λ (m : TreeNode RenderObject). m.value)) e

module _ (R : RenderObject → RenderObject → Type 0) (old new : Tree RenderObject) where
  pub pairs_count : (f g : Forest RenderObject) → Pairs R f g → (k : Handle) → count k f ≡ count k g
  pairs_count none none pairs k = refl
  pairs_count none (tree j w below rest) pairs k = absurd pairs
  pairs_count (tree h o kids more) none pairs k = absurd pairs
  pairs_count (tree h o kids more) (tree j w below rest) pairs k =
      let here : cond {A = ℕ} (same h k) 1 0 ≡ cond {A = ℕ} (same j k) 1 0 = ap (λ (x : Handle). cond {A = ℕ} (same x k) 1 0) pairs.0 in
      let inside = pairs_count kids below pairs.2 k in
      let after = pairs_count more rest pairs.3 k in omega (arith, here, inside, after)

  pub pair_at : (p q : Option Handle) (f g : Forest RenderObject) → Stands (node_at old) p f → Stands (node_at new) q g → Pairs R f g
      → (k : Handle) → In k g → (w : RenderObject) → object_at new k ≡ Some w → Paired R old k w
  pair_at p q none none stands stood pairs k among w at = absurd (omega (arith, among))
  pair_at p q none (tree j x below rest) stands stood pairs k among w at = absurd pairs
  pair_at p q (tree h o kids more) none stands stood pairs k among w at = absurd pairs
  pair_at p q (tree h o kids more) (tree j x below rest) stands stood pairs k among w at = elim (cases_same j k) [
    | inl e ↦
        let value : x ≡ w = same_Some (sym (value_at_node new j _ stood.0) ∙ (ap (object_at new) e ∙ at)) in
        (o, ap (object_at old) (sym (pairs.0 ∙ e)) ∙ value_at_node old h _ stands.0, subst (R o) value pairs.1)
    | inr ne ↦
        let miss : cond {A = ℕ} (same j k) 1 0 ≡ 0 = ap (λ (b : Bool). cond {A = ℕ} b 1 0) (same-ne j k ne) in
        elim (is_zero (count k below)) [
          | inl gone ↦ pair_at p q more rest stands.2 stood.2 pairs.3 k (omega (arith, among, miss, gone)) w at
          | inr there ↦ pair_at (Some h) (Some j) kids below stands.1 stood.1 pairs.2 k there w at
        ]
  ]

-- ---- nodes that keep their numbers and their frames

abbrev pub KeepsFrame : RenderObject → RenderObject → Type 0
KeepsFrame o w = (w.number ≡ o.number) × (w.frame ≡ o.frame)

-- each node was there, with its number and its frame
abbrev pub AllKeepFrames : Tree RenderObject → Tree RenderObject → Type 0
AllKeepFrames old new = (k : Handle) (w : RenderObject) → object_at new k ≡ Some w → Paired KeepsFrame old k w

pub keeps_on : (a b c : Tree RenderObject) → AllKeepFrames a b → AllKeepFrames b c → AllKeepFrames a c
keeps_on a b c one two k w at =
    let next = two k w at in
    let first = one k next.0 next.1 in (first.0, first.1, (next.2.0 ∙ first.2.0, next.2.1 ∙ first.2.1))

module _ (old new : Tree RenderObject) where
  by_node : (G : RenderObject → Type 0) → ((k : Handle) (n : TreeNode RenderObject) → node_at new k ≡ Some n → G n.value) → (k : Handle) (w : RenderObject) → object_at new k ≡ Some w → G w
  by_node G go k w at = by (node_at new k) refl
    where
      by : (x : Option (TreeNode RenderObject)) → node_at new k ≡ x → G w
      by None e = no_some w (sym (ap (option_map (λ (n : TreeNode RenderObject). n.value)) e) ∙ at)
      by (Some n) e = subst G (same_Some (sym (value_at_node new k n e) ∙ at)) (go k n e)

  layouts_keep : (also : Bool) (hs : List Handle) → SetsMarks layout_marks also hs old new → AllKeepFrames old new
  layouts_keep also hs sets k w at = by (node_at old k) refl
    where
      by : (x : Option (TreeNode RenderObject)) → node_at old k ≡ x → Paired KeepsFrame old k w
      by None e = no_some w (sym (ap (option_map (λ (n : TreeNode RenderObject). n.value)) (sets.absent k e)) ∙ at)
      by (Some n) e =
          let marked = sets.only k n e in
          let value : w ≡ layout_marks.marked marked.0 marked.1 n.value = same_Some (sym at ∙ ap (option_map (λ (x : TreeNode RenderObject). x.value)) marked.2) in
          (n.value, value_at_node old k n e, (ap (λ (x : RenderObject). x.number) value, ap (λ (x : RenderObject). x.frame) value))

  paints_keep : (also : Bool) (hs : List Handle) → SetsMarks paint_marks also hs old new → AllKeepFrames old new
  paints_keep also hs sets k w at = by (node_at old k) refl
    where
      by : (x : Option (TreeNode RenderObject)) → node_at old k ≡ x → Paired KeepsFrame old k w
      by None e = no_some w (sym (ap (option_map (λ (n : TreeNode RenderObject). n.value)) (sets.absent k e)) ∙ at)
      by (Some n) e =
          let marked = sets.only k n e in
          let value : w ≡ paint_marks.marked marked.0 marked.1 n.value = same_Some (sym at ∙ ap (option_map (λ (x : TreeNode RenderObject). x.value)) marked.2) in
          (n.value, value_at_node old k n e, (ap (λ (x : RenderObject). x.number) value, ap (λ (x : RenderObject). x.frame) value))

  -- a plan changes widgets, and what parents take of them
  part_keeps : (es : List (PlanEntry Redraw)) → CommitsPart redrawn es old.nodes new.nodes → AllKeepFrames old new
  part_keeps es commits k w at = by (entry_at es k) (node_at old k) refl refl
    where
      now_at : (e : Option (PlanEntry Redraw)) (x : Option (TreeNode RenderObject)) → entry_at es k ≡ e → node_at old k ≡ x → option_map (λ (n : TreeNode RenderObject). n.value) (kept_by redrawn e es k x) ≡ Some w
      now_at e x entry node =
          sym (ap (option_map (λ (n : TreeNode RenderObject). n.value)) (commits.nodes k ∙ (λ i. kept_by redrawn (entry i) es k (node i)))) ∙ at

      by : (e : Option (PlanEntry Redraw)) (x : Option (TreeNode RenderObject)) → entry_at es k ≡ e → node_at old k ≡ x → Paired KeepsFrame old k w
      by None None entry node = no_some w (now_at None None entry node)
      by (Some e) None entry node = no_some w (now_at (Some e) None entry node)
      by None (Some n) entry node =
          let value : n.value ≡ w = same_Some (now_at None (Some n) entry node) in
          (n.value, value_at_node old k n node, (ap (λ (x : RenderObject). x.number) (sym value), ap (λ (x : RenderObject). x.frame) (sym value)))
      by (Some e) (Some n) entry node =
          let value : redrawn e.update n.value ≡ w = same_Some (now_at (Some e) (Some n) entry node) in
          (n.value, value_at_node old k n node, (ap (λ (x : RenderObject). x.number) (sym value), ap (λ (x : RenderObject). x.frame) (sym value)))

  plan_at : (q : Option Handle) (d : Forest Redraw) (g : Forest RenderObject) → IsUpdated redrawn (object_at old) d g → Stands (node_at new) q g → (k : Handle) → In k g
      → (w : RenderObject) → object_at new k ≡ Some w → Paired KeepsFrame old k w
  plan_at q none none updated stood k among w at = absurd (omega (arith, among))
  plan_at q none (tree j x below rest) updated stood k among w at = absurd updated
  plan_at q (tree h u kids more) none updated stood k among w at = absurd (omega (arith, among))
  plan_at q (tree h u kids more) (tree j x below rest) updated stood k among w at = elim (cases_same j k) [
    | inl e ↦
        let value : x ≡ w = same_Some (sym (value_at_node new j _ stood.0) ∙ (ap (object_at new) e ∙ at)) in
        by_old k (updated.0 ∙ e) value (object_at old k) refl
    | inr ne ↦
        let miss : cond {A = ℕ} (same j k) 1 0 ≡ 0 = ap (λ (b : Bool). cond {A = ℕ} b 1 0) (same-ne j k ne) in
        elim (is_zero (count k below)) [
          | inl gone ↦ plan_at q more rest updated.3 stood.2 k (omega (arith, among, miss, gone)) w at
          | inr there ↦ plan_at (Some j) kids below updated.2 stood.1 k there w at
        ]
  ]
    where
      by_old : (i : Handle) → h ≡ i → x ≡ w → (y : Option RenderObject) → object_at old i ≡ y → Paired KeepsFrame old i w
      by_old i here value None e = no_some x (sym (ap (option_map (redrawn u)) (ap (object_at old) here ∙ e)) ∙ updated.1)
      by_old i here value (Some v) e =
          let drawn : redrawn u v ≡ w = same_Some (sym (ap (option_map (redrawn u)) (ap (object_at old) here ∙ e)) ∙ updated.1) ∙ value in
          (v, e, (ap (λ (y : RenderObject). y.number) (sym drawn), ap (λ (y : RenderObject). y.frame) (sym drawn)))

  plan_keeps : (d : Forest Redraw) (g : Forest RenderObject) → IsUpdated redrawn (object_at old) d g → Is new g → AllKeepFrames old new
  plan_keeps d g updated is = by_live
    where
      by_live : AllKeepFrames old new
      by_live k w at = by (node_at new k) refl
        where
          by : (x : Option (TreeNode RenderObject)) → node_at new k ≡ x → Paired KeepsFrame old k w
          by None e = no_some w (sym (ap (option_map (λ (n : TreeNode RenderObject). n.value)) e) ∙ at)
          by (Some n) e = plan_at None d g updated is.stands k (is.whole k (is_node (node_at new k) n e)) w at

-- the first phase, and the second
pub first_keeps : (old new : Tree RenderObject) → (p : RedrawsPart old new) → AllKeepFrames p.made new
first_keeps old new p =
    keeps_on p.made p.committed new (part_keeps p.made p.committed (entries None p.updates) p.commits)
    (keeps_on p.committed p.laid_marked new (layouts_keep p.committed p.laid_marked true (p.laid ++ p.lost) p.layouts) (paints_keep p.laid_marked new true (p.painted ++ p.lost) p.paints))

pub second_keeps : (old new : Tree RenderObject) → (p : Redraws old new) → AllKeepFrames p.made new
second_keeps old new p =
    keeps_on p.made p.committed new (plan_keeps p.made p.committed p.updates p.nodes p.updated p.is)
    (keeps_on p.committed p.laid_marked new (layouts_keep p.committed p.laid_marked true p.laid p.layouts) (paints_keep p.laid_marked new true p.painted p.paints))

-- what is put back and marked
put_back_pairs : (scrolls : Handle → ℕ) (also : Bool) (hs : List Handle) (p : Above) (f : Forest RenderObject) → Pairs KeepsFrame f (scrolled_as scrolls (sweep layout_marks also hs p f))
put_back_pairs scrolls also hs p none = tt
put_back_pairs scrolls also hs p (tree h o kids rest) = (refl, (refl, refl), put_back_pairs scrolls also hs (within layout_marks p o) kids, put_back_pairs scrolls also hs p rest)

pub put_back_keeps : (old new : Tree RenderObject) (f : Forest RenderObject) (scrolls : Handle → ℕ) (also : Bool) (hs : List Handle) → Is old f → Is new (scrolled_as scrolls (sweep layout_marks also hs at_top f))
    → AllKeepFrames old new
put_back_keeps old new f scrolls also hs is_old is_new k w at = by (node_at new k) refl
  where
    by : (x : Option (TreeNode RenderObject)) → node_at new k ≡ x → Paired KeepsFrame old k w
    by None e = no_some w (sym (ap (option_map (λ (n : TreeNode RenderObject). n.value)) e) ∙ at)
    by (Some n) e =
        pair_at KeepsFrame old new None None f (scrolled_as scrolls (sweep layout_marks also hs at_top f)) is_old.stands is_new.stands (put_back_pairs scrolls also hs at_top f) k
        (is_new.whole k (is_node (node_at new k) n e)) w at

-- ---- trees

pub first_tree : (old new : Tree RenderObject) → RedrawsPart old new → IsTree new
first_tree old new p =
    let f : Forest RenderObject = append p.nodes p.others in
    let g : Forest RenderObject = sweep layout_marks true (p.laid ++ p.lost) at_top f in
    (sweep paint_marks true (p.painted ++ p.lost) at_top g, p.paints.plain g (p.layouts.plain f p.is))

anew_tree : (old new : Tree RenderObject) → IsTree old → PaintsAnew old new → IsTree new
anew_tree old new is p =
    let g : Handle → RenderObject → RenderObject = λ k o. with_layout_state (state_at p.laid k) o in
    let f : Forest RenderObject = map_values g is.0 in
    (sweep paint_marks true p.changed at_top f, p.marks.plain f (mapped_is g old p.laid is.0 is.1 p.rest.nodes (λ i. option_to_list (p.rest.root i) ++ p.rest.inactive i)))

abbrev live_or : Option (TreeNode RenderObject) → Option Range
live_or None = None
live_or (Some n) = n.value.live

same_live : (a b : Option (TreeNode RenderObject)) → option_map without_live a ≡ option_map without_live b → a ≡ option_map (λ (n : TreeNode RenderObject). record n { value = with_live (live_or a) n.value }) b
same_live None None e = refl
same_live None (Some n) e = absurd (cc)
same_live (Some m) None e = absurd (cc)
same_live (Some m) (Some n) e = ap (λ (x : TreeNode RenderObject). Some (record x { value = with_live m.value.live x.value })) (same_Some e)

ranges_tree : (old new : Tree RenderObject) → IsTree old → KeepsButRanges old new → IsTree new
ranges_tree old new is ranges =
    let g : Handle → RenderObject → RenderObject = λ k o. with_live (live_or (node_at new k)) o in
    (map_values g is.0, mapped_is g old new is.0 is.1 (λ k. same_live (node_at new k) (node_at old k) (ranges.nodes k)) (λ i. option_to_list (ranges.root i) ++ ranges.inactive i))

pub flushed_tree : (old new : Tree RenderObject) → IsTree old → PaintsThenRanges old new → IsTree new
flushed_tree old new is p = ranges_tree p.laid new (anew_tree old p.laid is p.paints) p.ranges

-- ---- numbers

from_out : (x : ℕ) (xs : List ℕ) → (IsIn x xs → ⊥) → DiffersFrom x xs
from_out x [] out = tt
from_out x (y ∷ ys) out = ((λ e. out (inl e)), from_out x ys (λ i. out (inr i)))

in_either : (k : ℕ) (xs ys : List ℕ) → IsIn k (xs ++ ys) → IsIn k xs ⊎ IsIn k ys
in_either k [] ys i = inr i
in_either k (x ∷ xs) ys (inl e) = inl (inl e)
in_either k (x ∷ xs) ys (inr i) = elim (in_either k xs ys i) [ inl a ↦ inl (inr a) | inr b ↦ inr b ]

differ_both : (xs ys : List ℕ) → AllDiffer xs → AllDiffer ys → ((n : ℕ) → IsIn n xs → IsIn n ys → ⊥) → AllDiffer (xs ++ ys)
differ_both [] ys a b apart = b
differ_both (x ∷ xs) ys a b apart = (
  from_out x (xs ++ ys) (λ i. elim (in_either x xs ys i) [ inl j ↦ differs x x xs a.0 j refl | inr j ↦ apart x (inl refl) j ]),
  differ_both xs ys a.1 b (λ n i j. apart n (inr i) j),
)

module _ (t : Tree RenderObject) where
  pub number_there : (h : Handle) (n : TreeNode RenderObject) → node_at t h ≡ Some n → number_at t h ≡ Some n.value.number
  number_there h n e = ap (option_map (λ (o : RenderObject). o.number)) (value_at_node t h n e)

  abbrev Named : ℕ → Forest RenderObject → Type 0
  Named n f = (k : Handle) × In k f × (number_at t k ≡ Some n)

  -- a number of a forest is one of its nodes'
  pub named : (n : ℕ) (q : Option Handle) (f : Forest RenderObject) → Stands (node_at t) q f → IsIn n (numbers f) → Named n f
  named n q none s i = absurd i
  named n q (tree h o kids rest) s (inl e) = (h, count_here h o kids rest, number_there h _ s.0 ∙ ap (λ (x : ℕ). Some x) (sym e))
  named n q (tree h o kids rest) s (inr i) = elim (in_either n (numbers kids) (numbers rest) i) [
    | inl a ↦ let there = named n (Some h) kids s.1 a in let inside = there.1 in (there.0, omega (arith, inside), there.2)
    | inr b ↦ let there = named n q rest s.2 b in let inside = there.1 in (there.0, omega (arith, inside), there.2)
  ]

  module _ (differ : NumbersDiffer t) where
    pub differ_list : (q : Option Handle) (f : Forest RenderObject) → Stands (node_at t) q f → IsDistinct f → AllDiffer (numbers f)
    differ_list q none s d = tt
    differ_list q (tree h o kids rest) s d = (
      from_out o.number (numbers kids ++ numbers rest) own,
      differ_both (numbers kids) (numbers rest) (differ_list (Some h) kids s.1 (λ c. omega (arith, d c))) (differ_list q rest s.2 (λ c. omega (arith, d c))) cross,
    )
      where
        here : number_at t h ≡ Some o.number
        here = number_there h _ s.0

        one_here : cond {A = ℕ} (same h h) 1 0 ≡ 1
        one_here = ap (λ (b : Bool). cond {A = ℕ} b 1 0) (same_self h)

        own : IsIn o.number (numbers kids ++ numbers rest) → ⊥
        own i = elim (in_either o.number (numbers kids) (numbers rest) i) [
          | inl a ↦
              let there = named o.number (Some h) kids s.1 a in
              let inside : In h kids = subst (λ (x : Handle). In x kids) (differ o.number there.0 h there.2 here) there.1 in omega (arith, inside, d h, one_here)
          | inr b ↦
              let there = named o.number q rest s.2 b in
              let inside : In h rest = subst (λ (x : Handle). In x rest) (differ o.number there.0 h there.2 here) there.1 in omega (arith, inside, d h, one_here)
        ]

        cross : (n : ℕ) → IsIn n (numbers kids) → IsIn n (numbers rest) → ⊥
        cross n a b =
            let one = named n (Some h) kids s.1 a in
            let other = named n q rest s.2 b in
            let inside : In one.0 kids = one.1 in
            let beside : In one.0 rest = subst (λ (x : Handle). In x rest) (differ n other.0 one.0 other.2 one.2) other.1 in omega (arith, inside, beside, d one.0)

pub root_distinct : (t : Tree RenderObject) → IsTree t → IsDistinct (root_tree t)
root_distinct t is = by t.root refl
  where
    by : (r : Option Handle) → t.root ≡ r → IsDistinct (root_tree t)
    by None e = subst (λ (x : Option Handle). IsDistinct (root_below t x)) (sym e) (λ h. omega arith)
    by (Some r) e =
        let holds : Holds t r = subst (λ (x : Option Handle). IfSome x (Holds t)) e (root_holds t is.0 is.1) in
        subst (λ (x : Option Handle). IsDistinct (root_below t x)) (sym e) holds.distinct

-- ---- what has a number has it afterwards

abbrev pub NumbersStay : Tree RenderObject → Tree RenderObject → Type 0
NumbersStay old new = (n : ℕ) (k : Handle) → number_at old k ≡ Some n → number_at new k ≡ Some n

-- the node that has a number
pub numbered_node : (t : Tree RenderObject) (n : ℕ) (k : Handle) → number_at t k ≡ Some n → (m : TreeNode RenderObject) × (node_at t k ≡ Some m) × (m.value.number ≡ n)
numbered_node t n k at = by (node_at t k) refl
  where
    by : (x : Option (TreeNode RenderObject)) → node_at t k ≡ x → (m : TreeNode RenderObject) × (node_at t k ≡ Some m) × (m.value.number ≡ n)
    by None e = no_some n (sym (ap (λ (y : Option (TreeNode RenderObject)). option_map (λ (o : RenderObject). o.number) (option_map (λ (m : TreeNode RenderObject). m.value) y)) e) ∙ at)
    by (Some m) e = (m, e, same_Some (sym (number_there t k m e) ∙ at))

module _ (old new : Tree RenderObject) where
  -- each node stays, with its number
  by_nodes : ((k : Handle) (m : TreeNode RenderObject) → node_at old k ≡ Some m → (x : TreeNode RenderObject) × (node_at new k ≡ Some x) × (x.value.number ≡ m.value.number)) → NumbersStay old new
  by_nodes go n k at =
      let was = numbered_node old n k at in
      let now = go k was.0 was.1 in number_there new k now.0 now.1 ∙ ap (λ (x : ℕ). Some x) (now.2 ∙ was.2)

  pub grown_numbers : Grows old new → NumbersStay old new
  grown_numbers grows = by_nodes (λ k m e. (m, grows.keeps k (is_node (node_at old k) m e) ∙ e, refl))

  layout_numbers : (also : Bool) (hs : List Handle) → SetsMarks layout_marks also hs old new → NumbersStay old new
  layout_numbers also hs sets = by_nodes (λ k m e. let marked = sets.only k m e in (record m { value = layout_marks.marked marked.0 marked.1 m.value }, marked.2, refl))

  paint_numbers : (also : Bool) (hs : List Handle) → SetsMarks paint_marks also hs old new → NumbersStay old new
  paint_numbers also hs sets = by_nodes (λ k m e. let marked = sets.only k m e in (record m { value = paint_marks.marked marked.0 marked.1 m.value }, marked.2, refl))

  part_numbers : (es : List (PlanEntry Redraw)) → CommitsPart redrawn es old.nodes new.nodes → NumbersStay old new
  part_numbers es commits = by_nodes (λ k m e. by k m e (entry_at es k) refl)
    where
      by : (k : Handle) (m : TreeNode RenderObject) → node_at old k ≡ Some m → (x : Option (PlanEntry Redraw)) → entry_at es k ≡ x → (y : TreeNode RenderObject) × (node_at new k ≡ Some y) × (y.value.number ≡ m.value.number)
      by k m e None entry = (left_node es k m, commits.nodes k ∙ (λ i. kept_by redrawn (entry i) es k (e i)), refl)
      by k m e (Some x) entry = (relinked redrawn x m, commits.nodes k ∙ (λ i. kept_by redrawn (entry i) es k (e i)), refl)

  pub built_numbers : StaysBuilt old new → NumbersStay old new
  built_numbers stays n k at =
      let was = numbered_node old n k at in
      let now = stays.drawn k was.0.value (value_at_node old k was.0 was.1) in
      ap (option_map (λ (o : RenderObject). o.number)) now.1 ∙ ap (λ (x : ℕ). Some x) (now.2 ∙ was.2)

pub first_numbers : (old new : Tree RenderObject) → (p : RedrawsPart old new) → NumbersStay p.made new
first_numbers old new p n k at =
    paint_numbers p.laid_marked new true (p.painted ++ p.lost) p.paints n k
    (layout_numbers p.committed p.laid_marked true (p.laid ++ p.lost) p.layouts n k (part_numbers p.made p.committed (entries None p.updates) p.commits n k at))
