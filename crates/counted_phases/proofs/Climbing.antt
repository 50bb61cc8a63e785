-- Marks for painting that climb in an arena, and in the forest that stands there.
use Rattle.std.proofs.Common.{◌≡◌, ℕ, zero, suc, Bool, true, false, not, ◌&&◌, ◌||◌, ◌⊎◌, Option, Some, None, IsSome, option_map, List, [], ◌∷◌, ◌++◌, refl, sym, ap, ◌∙◌, subst, inl, inr, arith}
use Rattle.std.proofs.lemmas.Bool.{and_parts, and_from, or_left, or_right, false≢true, true≢false}
use Rattle.fx_handles.specs.declared.Handle.{Handle}
use Rattle.fx_handles.specs.Handle.{same, Among}
use Rattle.fx_handles.specs.HandleLaws.{cases_same, same-true, times-cons, times_here, times_there}
use Rattle.fx_handles.specs.ArenaLaws.{same_Some}
use Rattle.node_tree.specs.Forest.{TreeNode, Forest, tops, Stands}
use Rattle.node_tree.specs.Forest.Forest.{none, tree}
use Rattle.node_tree.specs.Tree.{Tree, IsNode, IsTree, node_at, children_at, children_of}
use Rattle.node_tree.proofs.TreeEdits.{child_live}
use Rattle.node_tree.proofs.TreeLemmas.{is_node}
use Rattle.tree_marks.specs.Marking.{Marking, at_top}
use Rattle.tree_marks.specs.Marks.{listed, has_node, some_climbs, sweep}
use Rattle.tree_marks.proofs.Closing.{either}
use Rattle.tree_marks.proofs.MarkSteps.{node_stands}
use Rattle.kept_layers.specs.Group.{is_boundary}
use Rattle.render_tree.specs.Marked.{SetsMarks}
use Rattle.render_tree.specs.Marks.{paint_marks, ends_painting}
use Rattle.render_tree.specs.Object.{RenderObject, object_look}
use Rattle.render_tree.specs.Tree.{object_at}
use Rattle.counted_work.specs.Painted.{paint_above}
use Rattle.counted_phases.specs.Climbing.{IsPlainNode, Climbs, flagged_before, AreMarkedBy}

-- ---- lists of handles

pub first_or_later : (c k : Handle) (ks : List Handle) → Among c (k ∷ ks) → (c ≡ k) ⊎ Among c ks
first_or_later c k ks among = elim (cases_same c k) [
  | inl e ↦ inl e
  | inr ne ↦ inr (omega (arith, among, times_there c k ks (λ e. ne (sym e))))
]

pub first_among : (k : Handle) (ks : List Handle) → Among k (k ∷ ks)
first_among k ks = omega (arith, times_here k ks)

pub later_among : (c k : Handle) (ks : List Handle) → Among c ks → Among c (k ∷ ks)
later_among c k ks among = omega (arith, times-cons c k ks, among)

pub listed_among : (k : Handle) (hs : List Handle) → listed k hs ≡ true → Among k hs
listed_among k [] e = absurd (false≢true e)
listed_among k (h ∷ hs) e = elim (either (same k h) (listed k hs) e) [
  | inl s ↦ subst (λ x. Among k (x ∷ hs)) (same-true k h s) (first_among k hs)
  | inr l ↦ later_among k h hs (listed_among k hs l)
]

pub listed_first : (k : Handle) (hs ks : List Handle) → listed k hs ≡ true → listed k (hs ++ ks) ≡ true
listed_first k [] ks e = absurd (false≢true e)
listed_first k (h ∷ hs) ks e = elim (either (same k h) (listed k hs) e) [
  | inl s ↦ or_left (same k h) (listed k (hs ++ ks)) s
  | inr l ↦ or_right (same k h) (listed k (hs ++ ks)) (listed_first k hs ks l)
]

pub listed_second : (k : Handle) (hs ks : List Handle) → listed k ks ≡ true → listed k (hs ++ ks) ≡ true
listed_second k [] ks e = e
listed_second k (h ∷ hs) ks e = or_right (same k h) (listed k (hs ++ ks)) (listed_second k hs ks e)

pub listed_either : (k : Handle) (hs ks : List Handle) → listed k (hs ++ ks) ≡ true → (listed k hs ≡ true) ⊎ (listed k ks ≡ true)
listed_either k [] ks e = inr e
listed_either k (h ∷ hs) ks e = elim (either (same k h) (listed k (hs ++ ks)) e) [
  | inl s ↦ inl (or_left (same k h) (listed k hs) s)
  | inr l ↦ elim (listed_either k hs ks l) [
    | inl a ↦ inl (or_right (same k h) (listed k hs) a)
    | inr b ↦ inr b
  ]
]

not_true : (b : Bool) → not b ≡ true → b ≡ false
not_true true e = absurd (false≢true e)
not_true false e = refl

object_of : (t : Tree RenderObject) (k : Handle) (q : Option Handle) (l : List Handle) (w : RenderObject) → node_at t k ≡ Some (record { parent = q; children = l; value = w }) → object_at t k ≡ Some w
object_of t k q l w e = ap (option_map (λ (n : TreeNode RenderObject). n.value)) e

pub node_of : (t : Tree RenderObject) (k : Handle) (w : RenderObject) → object_at t k ≡ Some w → (n : TreeNode RenderObject) × (node_at t k ≡ Some n) × (n.value ≡ w)
node_of t k w at = by_node (node_at t k) refl
  where
    by_node : (x : Option (TreeNode RenderObject)) → node_at t k ≡ x → (n : TreeNode RenderObject) × (node_at t k ≡ Some n) × (n.value ≡ w)
    by_node None e = absurd (none_some (sym (ap (option_map (λ (n : TreeNode RenderObject). n.value)) e) ∙ at))
      where
        none_some : None ≡ Some w → ⊥
        none_some x = cc
    by_node (Some n) e = (n, e, same_Some (sym (ap (option_map (λ (m : TreeNode RenderObject). m.value)) e) ∙ at))

pub object_live : (t : Tree RenderObject) (k : Handle) (w : RenderObject) → object_at t k ≡ Some w → IsNode t k
object_live t k w at = let n = node_of t k w at in is_node (node_at t k) n.0 n.1

not_live : (x : Option (TreeNode RenderObject)) → x ≡ None → IsSome x → ⊥
not_live None e s = cc
not_live (Some n) e s = cc

pub live_object : (t : Tree RenderObject) (k : Handle) → IsNode t k → (w : RenderObject) × (object_at t k ≡ Some w)
live_object t k live = by_node (node_at t k) refl
  where
    by_node : (x : Option (TreeNode RenderObject)) → node_at t k ≡ x → (w : RenderObject) × (object_at t k ≡ Some w)
    by_node None e = absurd (not_live (node_at t k) e live)
    by_node (Some n) e = (n.value, ap (option_map (λ (m : TreeNode RenderObject). m.value)) e)

-- ---- from a forest to its arena

module _ (t : Tree RenderObject) (hs : List Handle) where
  -- a mark climbs out of a forest from one of its first nodes
  pub record ClimbsOut (f : Forest RenderObject) : Type 0 where
    pub child : Handle
    pub among : Among child (tops f)
    pub plain : IsPlainNode t child
    pub steps : ℕ
    pub climbs : Climbs t hs steps child

  abbrev pub starts : Handle → Forest RenderObject → Bool
  starts k kids = listed k hs || some_climbs paint_marks hs (paint_above false) kids

  started_by : (k : Handle) (q : Option Handle) (v : RenderObject) (kids : Forest RenderObject) → node_at t k ≡ Some (record { parent = q; children = tops kids; value = v })
      → (some_climbs paint_marks hs (paint_above false) kids ≡ true → ClimbsOut kids) → starts k kids ≡ true → (n : ℕ) × Climbs t hs n k
  started_by k q v kids at go e = elim (either (listed k hs) (some_climbs paint_marks hs (paint_above false) kids) e) [
    | inl a ↦ (zero, a)
    | inr b ↦ let out = go b in (suc out.steps, (out.child, subst (Among out.child) (sym (ap children_of at)) out.among, out.plain, out.climbs))
  ]

  climbs_from : (q : Option Handle) (f : Forest RenderObject) → Stands (node_at t) q f → some_climbs paint_marks hs (paint_above false) f ≡ true → ClimbsOut f
  climbs_from q none s e = absurd (false≢true e)
  climbs_from q (tree k v kids rest) s e = elim (either (starts k kids && not (is_boundary v)) (some_climbs paint_marks hs (paint_above false) rest) e) [
    | inl a ↦
        let parts = and_parts (starts k kids) (not (is_boundary v)) a in
        let d = started_by k q v kids s.0 (climbs_from (Some k) kids s.1) parts.0 in
        record { child = k; among = first_among k (tops rest); plain = record { object = v; is = object_of t k q (tops kids) v s.0; plain = not_true (is_boundary v) parts.1 }; steps = d.0; climbs = d.1 }
    | inr b ↦
        let out = climbs_from q rest s.2 b in
        record { child = out.child; among = later_among out.child k (tops rest) out.among; plain = out.plain; steps = out.steps; climbs = out.climbs }
  ]

  pub climbs_up : (k : Handle) (q : Option Handle) (v : RenderObject) (kids : Forest RenderObject) → node_at t k ≡ Some (record { parent = q; children = tops kids; value = v }) → Stands (node_at t) (Some k) kids
      → starts k kids ≡ true → (n : ℕ) × Climbs t hs n k
  climbs_up k q v kids at s e = started_by k q v kids at (climbs_from (Some k) kids s) e

  -- ---- and back

  abbrev Starting : ℕ → Type 0
  Starting n = (k : Handle) (q : Option Handle) (w : RenderObject) (under : Forest RenderObject) → node_at t k ≡ Some (record { parent = q; children = tops under; value = w }) → Stands (node_at t) (Some k) under
      → Climbs t hs n k → starts k under ≡ true

  not_boundary : (b : Bool) → b ≡ false → not b ≡ true
  not_boundary true e = absurd (true≢false e)
  not_boundary false e = refl

  climbs_through : (n : ℕ) → Starting n → (c : Handle) → IsPlainNode t c → Climbs t hs n c → (a : Option Handle) (f : Forest RenderObject) → Stands (node_at t) a f → Among c (tops f)
      → some_climbs paint_marks hs (paint_above false) f ≡ true
  climbs_through n go c plain climbs a none s among = absurd (omega arith)
  climbs_through n go c plain climbs a (tree j v kids rest) s among = elim (first_or_later c j (tops rest) among) [
    | inl e ↦
        let same_object : plain.object ≡ v = same_Some (sym plain.is ∙ (ap (object_at t) e ∙ object_of t j a (tops kids) v s.0)) in
        or_left (starts j kids && not (is_boundary v)) (some_climbs paint_marks hs (paint_above false) rest)
        (and_from (starts j kids) (not (is_boundary v)) (go j a v kids s.0 s.1 (subst (Climbs t hs n) e climbs))
        (not_boundary (is_boundary v) (sym (ap is_boundary same_object) ∙ plain.plain)))
    | inr l ↦ or_right (starts j kids && not (is_boundary v)) (some_climbs paint_marks hs (paint_above false) rest) (climbs_through n go c plain climbs a rest s.2 l)
  ]

  pub climbs_start : (n : ℕ) → Starting n
  climbs_start zero k q w under at s c = or_left (listed k hs) (some_climbs paint_marks hs (paint_above false) under) c
  climbs_start (suc n) k q w under at s c =
      or_right (listed k hs) (some_climbs paint_marks hs (paint_above false) under)
      (climbs_through n (climbs_start n) c.0 c.2 c.3 (Some k) under s (subst (Among c.0) (ap children_of at) c.1))

-- a mark of one of two lists is of the first or of the second
pub climbs_either : (t : Tree RenderObject) (hs ks : List Handle) (n : ℕ) (k : Handle) → Climbs t (hs ++ ks) n k → Climbs t hs n k ⊎ Climbs t ks n k
climbs_either t hs ks zero k c = listed_either k hs ks c
climbs_either t hs ks (suc n) k c = elim (climbs_either t hs ks n c.0 c.3) [
  | inl a ↦ inl (c.0, c.1, c.2, a)
  | inr b ↦ inr (c.0, c.1, c.2, b)
]

-- ---- from one arena to another

-- the nodes of the second arena that stood below others are boundaries as in the first, and each has the children that it had, or is listed
pub record IsShapedBut (ks : List Handle) (t u : Tree RenderObject) : Type 0 where
  pub tree : IsTree u
  pub kinds : (k c : Handle) (o w : RenderObject) → Among c (children_at t k) → object_at t c ≡ Some o → object_at u c ≡ Some w → is_boundary w ≡ is_boundary o
  pub lists : (k : Handle) → IsNode u k → (listed k ks ≡ true) ⊎ (children_at t k ≡ children_at u k)

pub climbs_moved : (t u : Tree RenderObject) (hs ks : List Handle) → IsShapedBut ks t u → ((k : Handle) → listed k hs ≡ true → listed k ks ≡ true) → (n : ℕ) (k : Handle) → IsNode u k → Climbs t hs n k → (m : ℕ) × Climbs u ks m k
climbs_moved t u hs ks shaped more zero k live c = (zero, more k c)
climbs_moved t u hs ks shaped more (suc n) k live c = elim (shaped.lists k live) [
  | inl l ↦ (zero, l)
  | inr e ↦
      let among : Among c.0 (children_at u k) = subst (Among c.0) e c.1 in
      let there : IsNode u c.0 = child_live u shaped.tree.0 k c.0 shaped.tree.1 among in
      let w = live_object u c.0 there in
      let d = climbs_moved t u hs ks shaped more n c.0 there c.3 in
      (suc d.0, (c.0, among, record { object = w.0; is = w.1; plain = shaped.kinds k c.0 c.2.object w.0 c.1 c.2.is w.1 ∙ c.2.plain }, d.1))
]

-- ---- flags

module _ (old : Tree RenderObject) where
  -- where no flag is set
  pub marked_moved : (t u : Tree RenderObject) (hs ks : List Handle) → IsShapedBut ks t u → ((k : Handle) → listed k hs ≡ true → listed k ks ≡ true)
      → ((k : Handle) (w : RenderObject) → object_at u k ≡ Some w → w.needs_paint ≡ true → (flagged_before (object_at old k) ≡ true) ⊎ ((v : RenderObject) × (object_at t k ≡ Some v) × (v.needs_paint ≡ true)))
      → AreMarkedBy old t hs → AreMarkedBy old u ks
  marked_moved t u hs ks shaped more flags marked k w at flag = elim (flags k w at flag) [
    | inl a ↦ inl a
    | inr b ↦ elim (marked k b.0 b.1 b.2) [
      | inl a ↦ inl a
      | inr c ↦ inr (climbs_moved t u hs ks shaped more c.0 k (object_live u k w at) c.1)
    ]
  ]

  -- where marks are set: in the forest
  module _ (t u : Tree RenderObject) (hs : List Handle) where
    abbrev FlaggedAt : Handle → Type 0
    FlaggedAt k = (w : RenderObject) → object_at u k ≡ Some w → w.needs_paint ≡ true → (v : RenderObject) × (object_at t k ≡ Some v) × ((v.needs_paint ≡ true) ⊎ ((n : ℕ) × Climbs t hs n k))

    flag_from : (k : Handle) (q : Option Handle) (v : RenderObject) (kids : Forest RenderObject) (takes : Bool) → node_at t k ≡ Some (record { parent = q; children = tops kids; value = v }) → Stands (node_at t) (Some k) kids
        → (v.needs_paint || (starts t hs k kids && takes)) ≡ true → (v.needs_paint ≡ true) ⊎ ((n : ℕ) × Climbs t hs n k)
    flag_from k q v kids takes at s e = elim (either v.needs_paint (starts t hs k kids && takes) e) [
      | inl a ↦ inl a
      | inr b ↦ inr (climbs_up t hs k q v kids at s (and_parts (starts t hs k kids) takes b).0)
    ]

    swept_flag : (top : Bool) (q r : Option Handle) (f : Forest RenderObject) → Stands (node_at t) q f → Stands (node_at u) r (sweep paint_marks true hs (paint_above top) f) → (k : Handle) → has_node k f ≡ true → FlaggedAt k
    swept_flag top q r none s z k there = absurd (false≢true there)
    swept_flag top q r (tree j v kids rest) s z k there = elim (either (same j k) (has_node k kids || has_node k rest) there) [
      | inl e ↦ subst FlaggedAt (same-true j k e) (λ w at flag.
          let value = same_Some (sym (object_of u j r (tops (sweep paint_marks true hs (paint_above false) kids)) _ z.0) ∙ at) in
          (v, object_of t j q (tops kids) v s.0, flag_from j q v kids (ends_painting top (object_look v)) s.0 s.1 (ap (λ (x : RenderObject). x.needs_paint) value ∙ flag)))
      | inr later ↦ elim (either (has_node k kids) (has_node k rest) later) [
        | inl b ↦ swept_flag false (Some j) (Some j) kids s.1 z.1 k b
        | inr b ↦ swept_flag top q r rest s.2 z.2 k b
      ]
    ]

  -- ---- a tree whose nodes are marked

  module _ (m : Marking RenderObject) (keeps : (f b : Bool) (o : RenderObject) → is_boundary (m.marked f b o) ≡ is_boundary o) (hs ks : List Handle) (t u : Tree RenderObject) (marks : SetsMarks m true hs t u) where
    pub was_there : (k : Handle) (w : RenderObject) → object_at u k ≡ Some w → (n : TreeNode RenderObject) × (node_at t k ≡ Some n) × ((f : Bool) × (b : Bool) × (w ≡ m.marked f b n.value))
    was_there k w at = by_node (node_at t k) refl
      where
        by_node : (x : Option (TreeNode RenderObject)) → node_at t k ≡ x → (n : TreeNode RenderObject) × (node_at t k ≡ Some n) × ((f : Bool) × (b : Bool) × (w ≡ m.marked f b n.value))
        by_node None e = absurd (none_some (sym (ap (option_map (λ (n : TreeNode RenderObject). n.value)) (marks.absent k e)) ∙ at))
          where
            none_some : None ≡ Some w → ⊥
            none_some x = cc
        by_node (Some n) e =
            let only = marks.only k n e in
            (n, e, (only.0, only.1, same_Some (sym at ∙ ap (option_map (λ (x : TreeNode RenderObject). x.value)) only.2)))

    pub marks_list : (k : Handle) → children_at t k ≡ children_at u k
    marks_list k = by_node (node_at t k) refl
      where
        by_node : (x : Option (TreeNode RenderObject)) → node_at t k ≡ x → children_at t k ≡ children_at u k
        by_node None e = ap children_of e ∙ sym (ap children_of (marks.absent k e))
        by_node (Some n) e = ap children_of e ∙ sym (ap children_of (marks.only k n e).2)

    pub marks_shape : IsTree t → IsShapedBut ks t u
    marks_shape is = record {
      tree = (sweep m true hs at_top is.0, marks.plain is.0 is.1);
      kinds = λ k c o w among at_o at_w.
          let there = was_there c w at_w in
          let same_object : there.0.value ≡ o = same_Some (sym (ap (option_map (λ (x : TreeNode RenderObject). x.value)) there.1) ∙ at_o) in
          ap is_boundary there.2.2 ∙ (keeps there.2.0 there.2.1 there.0.value ∙ ap is_boundary same_object);
      lists = λ k live. inr (marks_list k);
    }

  pub paint_shape : (hs ks : List Handle) (t u : Tree RenderObject) → SetsMarks paint_marks true hs t u → IsTree t → IsShapedBut ks t u
  paint_shape hs ks t u marks is = marks_shape paint_marks (λ f b o. refl) hs ks t u marks is

  pub marked_more : (t u : Tree RenderObject) (hs ks : List Handle) → SetsMarks paint_marks true ks t u → IsTree t → AreMarkedBy old t hs → AreMarkedBy old u (hs ++ ks)
  marked_more t u hs ks marks is marked k w at flag =
      let there = was_there paint_marks (λ f b o. refl) ks ks t u marks k w at in
      let shape = paint_shape ks (hs ++ ks) t u marks is in
      let live : IsNode u k = object_live u k w at in
      let cause = swept_flag t u ks true None None is.0 is.1.stands (marks.plain is.0 is.1).stands k (node_stands t is.0 k is.1 (is_node (node_at t k) there.0 there.1)) w at flag in
      elim cause.2 [
        | inl was ↦ elim (marked k cause.0 cause.1 was) [
          | inl a ↦ inl a
          | inr c ↦ inr (climbs_moved t u hs (hs ++ ks) shape (λ j e. listed_first j hs ks e) c.0 k live c.1)
        ]
        | inr c ↦ inr (climbs_moved t u ks (hs ++ ks) shape (λ j e. listed_second j hs ks e) c.0 k live c.1)
      ]
