-- Where a top is laid out nothing outside of its tree changes, nor does any mark for painting.
use Rattle.std.proofs.Common.{◌≡◌, ◌≢◌, ◌⊎◌, inl, inr, ap, refl, sym, ◌∙◌, subst, ℕ, zero, suc, ◌+◌, ◌≤◌, Bool, true, false, cond, ◌||◌, ◌&&◌, not, Option, Some, None, IsSome, option_map, List, [], ◌∷◌, arith}
use Rattle.std.proofs.lemmas.Bool.{false≢true}
use Rattle.fx_handles.specs.declared.Handle.{Handle}
use Rattle.fx_handles.specs.Handle.{same, times, Among}
use Rattle.fx_handles.specs.HandleLaws.{same_self, same-ne, cases_same, times_here, times-cons}
use Rattle.node_tree.specs.Forest.{TreeNode, Forest, tops, count, In, Stands}
use Rattle.node_tree.specs.Forest.Forest.{none, tree}
use Rattle.node_tree.specs.Tree.{Tree, IsNode, IsTree, node_at, parent_of, parent_at, children_of, children_at, subtree_at}
use Rattle.node_tree.proofs.ForestLemmas.{same_Some}
use Rattle.node_tree.proofs.TreeLemmas.{child_of, live_from_parent, Holds-from_Is}
use Rattle.node_tree.proofs.Walks.{child_inside}
use Rattle.tree_marks.specs.Marking.{Above, at_top, within, is_boundary}
use Rattle.tree_marks.specs.Marks.{listed, has_listed, some_climbs, sweep}
use Rattle.render_tree.specs.LayoutState.{layout_state_of}
use Rattle.render_tree.specs.Marked.{SetsMarks}
use Rattle.render_tree.specs.MarkLaws.{paint_lawful}
use Rattle.render_tree.specs.Marks.{paint_marks}
use Rattle.render_tree.specs.Object.{RenderObject}
use Rattle.render_tree.specs.declared.layout_state.LayoutState.{LayoutState}
use Rattle.layout_walk.specs.Node.{LayoutNode}
use Rattle.layout_rules.specs.Nodes.{layout_nodes, seen_node, SeenAt}
use Rattle.layout_rules.specs.Painting.{KeepsRest, IsUnder}
use Rattle.layout_rules.specs.Turns.{Turns}
use Rattle.layout_rules.proofs.Readings.{state_in}
use Rattle.layout_rules.proofs.Repainting.{with_state, state_of, under_same, under_now, or_left, or_right}
use Rattle.layout_rules.proofs.Turning.{none_some, seen_whole, seen_live, weigh_layout}

-- ---- nodes below others

-- a node below another one has a parent there
under_up : (t : Tree RenderObject) (n : ℕ) (k h : Handle) → IsTree t → IsUnder t (suc n) k h → (p : Handle) × (parent_at t k ≡ Some p) × IsUnder t n p h
under_up t zero k h is (c, among, e) = (h, subst (λ (x : Handle). parent_at t x ≡ Some h) (sym e) (child_of t is.0 h c is.1 among).parent, refl)
under_up t (suc n) k h is (c, among, more) = let up = under_up t n k c is more in (up.0, up.1, (c, among, up.2))

-- it is below one top alone
one_top : (t : Tree RenderObject) (n m : ℕ) (k h j : Handle) → IsTree t → parent_at t h ≡ None → parent_at t j ≡ None → IsUnder t n k h → IsUnder t m k j → h ≡ j
one_top t zero zero k h j is th tj a b = sym a ∙ b
one_top t zero (suc m) k h j is th tj a b =
    let up = under_up t m k j is b in absurd (none_some up.0 (sym th ∙ ap (λ (x : Handle). parent_at t x) (sym a) ∙ up.1))
one_top t (suc n) zero k h j is th tj a b =
    let up = under_up t n k h is a in absurd (none_some up.0 (sym tj ∙ ap (λ (x : Handle). parent_at t x) (sym b) ∙ up.1))
one_top t (suc n) (suc m) k h j is th tj a b =
    let up = under_up t n k h is a in
    let too = under_up t m k j is b in
    one_top t n m up.0 h j is th tj up.2 (subst (λ (x : Handle). IsUnder t m x j) (sym (same_Some (sym up.1 ∙ too.1))) too.2)

some_of : (x y : ℕ) → 1 ≤ x + y → (1 ≤ x) ⊎ (1 ≤ y)
some_of zero y some = inr (omega (arith, some))
some_of (suc x) y some = inl (omega arith)

below_count : (k h : Handle) (o : RenderObject) (below rest : Forest RenderObject) → h ≢ k → In k (tree h o below rest) → 1 ≤ count k below + count k rest
below_count k h o below rest other inside =
    let none : cond {A = ℕ} (same h k) 1 0 ≡ 0 = ap (λ (b : Bool). cond {A = ℕ} b 1 0) (same-ne h k other) in omega (arith, inside, none)

-- what stands in a tree is below its top
in_under : (t : Tree RenderObject) (p : Option Handle) (f : Forest RenderObject) (k : Handle) → Stands (node_at t) p f → In k f → (d : Handle) × Among d (tops f) × ((n : ℕ) × IsUnder t n k d)
in_under t p none k stands inside = absurd (omega (arith, inside))
in_under t p (tree h o below rest) k stands inside = elim (cases_same h k) [
  | inl e ↦ (h, (let here = times_here h (tops rest) in omega (arith, here)), (0, sym e))
  | inr other ↦ elim (some_of (count k below) (count k rest) (below_count k h o below rest other inside)) [
    | inl deep ↦
        let more = in_under t (Some h) below k stands.1 deep in
        let kids : children_at t h ≡ tops below = ap (λ (m : Option (TreeNode RenderObject)). children_of m) stands.0 in
        (h, (let here = times_here h (tops rest) in omega (arith, here)), (suc more.2.0, (more.0, subst (λ (cs : List Handle). Among more.0 cs) (sym kids) more.1, more.2.1)))
    | inr after ↦
        let more = in_under t p rest k stands.2 after in
        (more.0, (let there = times-cons more.0 h (tops rest) in let among = more.1 in omega (arith, there, among)), more.2)
  ]
]

-- and the other way round
under_in : (t : Tree RenderObject) (n : ℕ) (k h : Handle) → IsTree t → IsNode t h → IsUnder t n k h → In k (subtree_at t h)
under_in t zero k h is live e =
    let holds = Holds-from_Is t is.0 h is.1 live in
    subst (λ (x : Handle). In x (subtree_at t h)) (sym e) (top_in (subtree_at t h) holds.top)
  where
    top_in : (s : Forest RenderObject) → tops s ≡ h ∷ [] → In h s
    top_in none e = absurd (let differ : [] ≡ h ∷ [] = e in cc)
    top_in (tree j o below rest) e =
        let j_is : j ≡ h = cc in
        let one : cond {A = ℕ} (same j h) 1 0 ≡ 1 = ap (λ (x : Handle). cond {A = ℕ} (same x h) 1 0) j_is ∙ ap (λ (b : Bool). cond {A = ℕ} b 1 0) (same_self h) in
        omega (arith, one)
under_in t (suc n) k h is live (c, among, more) =
    child_inside t is.0 h c k is.1 among (under_in t n k c is (live_from_parent (node_at t c) h (child_of t is.0 h c is.1 among).parent) more)

-- ---- marks

no_climbs : (hs : List Handle) (p : Above) (f : Forest RenderObject) → has_listed hs f ≡ false → some_climbs paint_marks hs p f ≡ false
no_climbs hs p none unlisted = refl
no_climbs hs p (tree h o below rest) unlisted =
    let others = or_right (listed h hs) (has_listed hs below || has_listed hs rest) unlisted in
    λ i. ((or_left (listed h hs) (has_listed hs below || has_listed hs rest) unlisted i
    || no_climbs hs (within paint_marks p o) below (or_left (has_listed hs below) (has_listed hs rest) others) i) && not (is_boundary paint_marks p o))
    || no_climbs hs p rest (or_right (has_listed hs below) (has_listed hs rest) others) i

-- where no node of the list stands no mark is set
unswept : (hs : List Handle) (p : Above) (f : Forest RenderObject) → has_listed hs f ≡ false → sweep paint_marks true hs p f ≡ f
unswept hs p none unlisted = refl
unswept hs p (tree h o below rest) unlisted =
    let here = or_left (listed h hs) (has_listed hs below || has_listed hs rest) unlisted in
    let others = or_right (listed h hs) (has_listed hs below || has_listed hs rest) unlisted in
    let inside = or_left (has_listed hs below) (has_listed hs rest) others in
    let after = or_right (has_listed hs below) (has_listed hs rest) others in
    (λ i. tree h
    (paint_marks.marked ((here i || no_climbs hs (within paint_marks p o) below inside i) && paint_marks.takes p.top o) (inside i || (true && here i)) o)
    (unswept hs (within paint_marks p o) below inside i) (unswept hs p rest after i))
    ∙ ap (λ (x : RenderObject). tree h x below rest) (paint_lawful.nothing o)

-- some node of the list stands there
listed_in : (hs : List Handle) (f : Forest RenderObject) → has_listed hs f ≡ true → (c : Handle) × In c f × (listed c hs ≡ true)
listed_in hs none e = absurd (false≢true e)
listed_in hs (tree h o below rest) e = by (listed h hs) refl (λ is. listed_in hs below is) (λ is. listed_in hs rest is)
  where
    deep : (b : Bool) → has_listed hs below ≡ b → (has_listed hs below || has_listed hs rest) ≡ true
        → (has_listed hs below ≡ true → (c : Handle) × In c below × (listed c hs ≡ true)) → (has_listed hs rest ≡ true → (c : Handle) × In c rest × (listed c hs ≡ true))
        → (c : Handle) × In c (tree h o below rest) × (listed c hs ≡ true)
    deep true is some inside after = let one = inside is in (one.0, (let there = one.1 in omega (arith, there)), one.2)
    deep false is some inside after =
        let one = after (sym (ap (λ (b : Bool). b || has_listed hs rest) is) ∙ some) in (one.0, (let there = one.1 in omega (arith, there)), one.2)

    by : (b : Bool) → listed h hs ≡ b
        → (has_listed hs below ≡ true → (c : Handle) × In c below × (listed c hs ≡ true)) → (has_listed hs rest ≡ true → (c : Handle) × In c rest × (listed c hs ≡ true))
        → (c : Handle) × In c (tree h o below rest) × (listed c hs ≡ true)
    by true is inside after = (h, (let one : cond {A = ℕ} (same h h) 1 0 ≡ 1 = ap (λ (b : Bool). cond {A = ℕ} b 1 0) (same_self h) in omega (arith, one)), is)
    by false is inside after = deep (has_listed hs below) refl (sym (ap (λ (b : Bool). b || (has_listed hs below || has_listed hs rest)) is) ∙ e) inside after

listed_among : (c : Handle) (hs : List Handle) → listed c hs ≡ true → Among c hs
listed_among c [] e = absurd (false≢true e)
listed_among c (h ∷ hs) e = elim (cases_same c h) [
  | inl is ↦ (let here = times_here c hs in let head : times c (h ∷ hs) ≡ times c (c ∷ hs) = ap (λ (x : Handle). times c (x ∷ hs)) (sym is) in omega (arith, here, head))
  | inr other ↦ (
      let more = listed_among c hs (sym (ap (λ (b : Bool). b || listed c hs) (same-ne c h other)) ∙ e) in
      let there = times-cons c h hs in omega (arith, more, there))
]

-- two arenas in which one forest stands have the same nodes there
agree : (at bt : Handle → Option (TreeNode RenderObject)) (p : Option Handle) (f : Forest RenderObject) (k : Handle) → Stands at p f → Stands bt p f → In k f → bt k ≡ at k
agree at bt p none k a b inside = absurd (omega (arith, inside))
agree at bt p (tree h o below rest) k a b inside = elim (cases_same h k) [
  | inl e ↦ subst (λ (x : Handle). bt x ≡ at x) e (b.0 ∙ sym a.0)
  | inr other ↦ elim (some_of (count k below) (count k rest) (below_count k h o below rest other inside)) [
    | inl deep ↦ agree at bt (Some h) below k a.1 b.1 deep
    | inr after ↦ agree at bt p rest k a.2 b.2 after
  ]
]

module _ (hs : List Handle) (mid new : Tree RenderObject) (h : Handle) (is : IsTree mid) (top : parent_at mid h ≡ None) (under : (c : Handle) → Among c hs → (n : ℕ) × IsUnder mid n c h) where
  elsewhere : (f : Forest RenderObject) (k : Handle) → Stands (node_at mid) None f → Stands (node_at new) None (sweep paint_marks true hs at_top f) → In k f
      → ((n : ℕ) → IsUnder mid n k h → ⊥) → node_at new k ≡ node_at mid k
  elsewhere none k a b inside out = absurd (omega (arith, inside))
  elsewhere (tree j o below rest) k a b inside out = elim (some_of (count k (tree j o below none)) (count k rest) (omega (arith, inside))) [
    | inl here ↦ (
        let first : Stands (node_at mid) None (tree j o below none) = (a.0, a.1, tt) in
        let there = in_under mid None (tree j o below none) k first here in
        let apart : h ≢ j = λ e. out there.2.0 (subst (λ (x : Handle). IsUnder mid there.2.0 k x) (sym e) (subst (λ (x : Handle). IsUnder mid there.2.0 k x) (alone j there.0 there.1) there.2.1)) in
        let quiet : has_listed hs (tree j o below none) ≡ false = unlisted (has_listed hs (tree j o below none)) refl first apart in
        agree (node_at mid) (node_at new) None (tree j o below none) k first
        (subst (λ (f : Forest RenderObject). Stands (node_at new) None f) (unswept hs at_top (tree j o below none) quiet) (b.0, b.1, tt)) here)
    | inr after ↦ elsewhere rest k a.2 b.2 after out
  ]
    where
      alone : (j d : Handle) → Among d (j ∷ []) → d ≡ j
      alone j d among = elim (cases_same j d) [
        | inl e ↦ sym e
        | inr other ↦ (let differ = times-cons d j [] in let none_here : cond {A = ℕ} (same j d) 1 0 ≡ 0 = ap (λ (b : Bool). cond {A = ℕ} b 1 0) (same-ne j d other) in
            let nothing : times d [] ≡ 0 = refl in absurd (omega (arith, among, differ, none_here, nothing)))
      ]

      unlisted : (b : Bool) → has_listed hs (tree j o below none) ≡ b → Stands (node_at mid) None (tree j o below none) → h ≢ j → has_listed hs (tree j o below none) ≡ false
      unlisted false e first apart = e
      unlisted true e first apart =
          let one = listed_in hs (tree j o below none) e in
          let mine = in_under mid None (tree j o below none) one.0 first one.1 in
          let theirs = under one.0 (listed_among one.0 hs one.2) in
          let j_top : parent_at mid j ≡ None = ap (λ (m : Option (TreeNode RenderObject)). parent_of m) first.0 in
          absurd (apart (one_top mid theirs.0 mine.2.0 one.0 h j is top j_top theirs.1 (subst (λ (x : Handle). IsUnder mid mine.2.0 one.0 x) (alone j mine.0 mine.1) mine.2.1)))

  marks_elsewhere : SetsMarks paint_marks true hs mid new → (k : Handle) → ((n : ℕ) → IsUnder mid n k h → ⊥) → node_at new k ≡ node_at mid k
  marks_elsewhere sets k out = go (node_at mid k) refl
    where
      go : (m : Option (TreeNode RenderObject)) → node_at mid k ≡ m → node_at new k ≡ node_at mid k
      go None e = sets.absent k e ∙ sym e
      go (Some n) e = elsewhere is.0 k is.1.stands (sets.plain is.0 is.1).stands (is.1.whole k (subst (λ (m : Option (TreeNode RenderObject)). IsSome m) (sym e) refl)) out

-- ---- what a layout writes

same_both : (m m' : Option (TreeNode RenderObject)) → m' ≡ option_map (with_state (state_of m')) m → option_map seen_node m' ≡ option_map seen_node m → m' ≡ m
same_both None m' is seen = is
same_both (Some n) m' is seen =
    let written : Some (seen_node (with_state (state_of m') n)) ≡ Some (seen_node n) = sym (ap (λ (x : Option (TreeNode RenderObject)). option_map seen_node x) is) ∙ seen in
    let state : state_of m' ≡ layout_state_of n.value = ap (λ (x : TreeNode LayoutNode). state_in x.value) (same_Some written) in
    is ∙ ap (λ (u : LayoutState). Some (with_state u n)) state

pub top_apart : (old mid new : Tree RenderObject) (h : Handle) (v : LayoutNode) (kids after : Forest LayoutNode) (hs : List Handle) → IsTree old → IsTree mid → SeenAt old h (tree h v kids none)
    → Turns old mid h (tree h v kids none) after → KeepsRest old mid → ((c : Handle) → Among c hs → (n : ℕ) × IsUnder old n c h) → SetsMarks paint_marks true hs mid new
    → parent_at old h ≡ None → (k : Handle) → (In k (subtree_at old h) → ⊥) → node_at new k ≡ node_at old k
top_apart old mid new h v kids after hs is0 is1 seen turns rest under sets top k out =
    let live = seen_live old h v kids seen in
    let apart : (n : ℕ) → IsUnder mid n k h → ⊥ = λ n below. out (under_in old n k h is0 live (under_same old mid n k h rest below)) in
    let whole : tree h v kids none ≡ layout_nodes (subtree_at old h) = seen_whole old h (tree h v kids none) is0 live seen in
    let same_count : count k (tree h v kids none) ≡ count k (subtree_at old h) =
    ap (λ (f : Forest LayoutNode). count k f) whole ∙ weigh_layout (λ (x : Handle). cond {A = ℕ} (same x k) 1 0) (subtree_at old h) in
    marks_elsewhere hs mid new h is1 (turns.parent ∙ top) (λ c among. let u = under c among in (u.0, under_now old mid u.0 c h rest u.1)) sets k apart
    ∙ same_both (node_at old k) (node_at mid k) (rest.nodes k) (turns.others k (λ inside. out (omega (arith, inside, same_count))))
