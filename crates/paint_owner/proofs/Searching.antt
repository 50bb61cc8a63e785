-- The walk that follows the marks finds what is to be found.
use Rattle.std.proofs.Common.{◌≡◌, ◌+◌, ℕ, zero, suc, Bool, true, false, not, ◌&&◌, ◌||◌, if◌then◌else◌, List, [], ◌∷◌, ◌++◌, refl, ap, sym, ◌∙◌, subst, true≢false}
use Rattle.std.proofs.lemmas.List.{append_assoc, append-nil}
use Rattle.fx_handles.specs.declared.Handle.{Handle}
use Rattle.node_tree.specs.Forest.{Forest, below, skip}
use Rattle.node_tree.specs.Forest.Forest.{none, tree}
use Rattle.node_tree.specs.Tree.{Tree, subtree_at}
use Rattle.node_tree.specs.Children.{Nth}
use Rattle.tree_marks.specs.Closed.{any_mark}
use Rattle.render_tree.specs.Object.{RenderObject}
use Rattle.render_tree.specs.Marks.{paint_marks}
use Rattle.kept_layers.specs.Group.{is_boundary, opens, goes_in}
use Rattle.kept_layers.specs.KeptLayers.{IsMarked}
use Rattle.kept_layers.specs.Steps.{is_nil, is_stale, stale}
use Rattle.paint_owner.specs.declared.finding.SeenBelow.{SeenBelow}
use Rattle.paint_owner.specs.Settled.{is_entered, settled_node, settled}
use Rattle.paint_owner.specs.Finding.{gathered, has_flag, is_quiet, flagged, quiet, inner_of, seen_of, both_seen}
use Rattle.paint_owner.proofs.Settled.{calm_stale, settled_is, flag_left, mark_left}

-- ---- one tree after another

pub stale_split : (h : Handle) (o : RenderObject) (kids rest : Forest RenderObject) → stale (tree h o kids rest) ≡ stale (tree h o kids none) ++ stale rest
stale_split h o kids rest =
    let inner : List Handle = if goes_in o then stale kids else [] in
    let own : List Handle = if is_stale o inner then h ∷ [] else [] in
    ap (λ xs. xs ++ stale rest) (sym (append-nil (inner ++ own)))

pub gathered_split : (picks : RenderObject → Forest RenderObject → Bool) (h : Handle) (o : RenderObject) (kids rest : Forest RenderObject)
    → gathered picks (tree h o kids rest) ≡ gathered picks (tree h o kids none) ++ gathered picks rest
gathered_split picks h o kids rest =
    let inner : List Handle = if is_entered o then gathered picks kids else [] in
    let own : List Handle = if picks o kids then h ∷ [] else [] in
    ap (λ xs. xs ++ gathered picks rest) (sym (append-nil (inner ++ own)))

some_append : (xs ys : List Handle) → not (is_nil (xs ++ ys)) ≡ (not (is_nil xs) || not (is_nil ys))
some_append [] ys = refl
some_append (x ∷ xs) ys = refl

or_nil_left : (a b : Bool) → (a || b) ≡ ((a || false) || b)
or_nil_left true b = refl
or_nil_left false b = refl

or_assoc : (a b c : Bool) → ((a || b) || c) ≡ (a || (b || c))
or_assoc true b c = refl
or_assoc false b c = refl

pub or_none : (a : Bool) → (a || false) ≡ a
or_none true = refl
or_none false = refl

pub seen_split : (h : Handle) (o : RenderObject) (kids rest : Forest RenderObject) → seen_of (tree h o kids rest) ≡ both_seen (seen_of (tree h o kids none)) (seen_of rest)
seen_split h o kids rest =
    let v : RenderObject = settled_node (settled kids) o in
    λ i. record {
      stale = (ap (λ xs. not (is_nil xs)) (stale_split h o kids rest) ∙ some_append (stale (tree h o kids none)) (stale rest)) i;
      left = or_nil_left (v.needs_paint || v.paint_below) (any_mark paint_marks (settled rest)) i;
    }

module _ (t : Tree RenderObject) (f : Forest RenderObject) (i : ℕ) (c : Handle) (n : Nth t f i c) where
  -- one child more of a list that is gathered
  more : (X : Forest RenderObject → List Handle) → ((h : Handle) (o : RenderObject) (kids rest : Forest RenderObject) → X (tree h o kids rest) ≡ X (tree h o kids none) ++ X rest)
      → (acc new whole : List Handle) → new ≡ acc ++ X (subtree_at t c) → acc ++ X (skip i f) ≡ whole → new ++ X (skip (i + 1) f) ≡ whole
  more X split acc new whole step so_far =
      ap (λ xs. xs ++ X (skip (i + 1) f)) (step ∙ ap (λ s. acc ++ X s) n.subtree)
      ∙ append_assoc acc (X (tree c n.value n.kids none)) (X (skip (i + 1) f))
      ∙ ap (λ xs. acc ++ xs) (sym (split c n.value n.kids (skip (i + 1) f)) ∙ sym (ap X n.skips))
      ∙ so_far

  pub more_stale : (acc new whole : List Handle) → new ≡ acc ++ stale (subtree_at t c) → acc ++ stale (skip i f) ≡ whole → new ++ stale (skip (i + 1) f) ≡ whole
  more_stale = more stale stale_split

  pub more_flagged : (acc new whole : List Handle) → new ≡ acc ++ flagged (subtree_at t c) → acc ++ flagged (skip i f) ≡ whole → new ++ flagged (skip (i + 1) f) ≡ whole
  more_flagged = more flagged (gathered_split has_flag)

  pub more_quiet : (acc new whole : List Handle) → new ≡ acc ++ quiet (subtree_at t c) → acc ++ quiet (skip i f) ≡ whole → new ++ quiet (skip (i + 1) f) ≡ whole
  more_quiet = more quiet (gathered_split is_quiet)

  -- and of what is seen
  pub more_seen : (seen here whole : SeenBelow) → here ≡ seen_of (subtree_at t c) → both_seen seen (seen_of (skip i f)) ≡ whole
      → both_seen (both_seen seen here) (seen_of (skip (i + 1) f)) ≡ whole
  more_seen seen here whole is so_far =
      (λ j. record {
        stale = or_assoc seen.stale here.stale (not (is_nil (stale (skip (i + 1) f)))) j;
        left = or_assoc seen.left here.left (any_mark paint_marks (settled (skip (i + 1) f))) j;
      })
      ∙ ap (both_seen seen) (ap (λ s. both_seen s (seen_of (skip (i + 1) f))) (is ∙ ap seen_of n.subtree) ∙ sym (seen_split c n.value n.kids (skip (i + 1) f)) ∙ sym (ap seen_of n.skips))
      ∙ so_far

  -- the marks of the child's tree
  marked_skip : (j : ℕ) (g : Forest RenderObject) → IsMarked g → IsMarked (skip j g)
  marked_skip zero g marked = marked
  marked_skip (suc j) none marked = tt
  marked_skip (suc j) (tree h o kids rest) marked = marked_skip j rest marked.2

  pub child_marked : IsMarked f → IsMarked (subtree_at t c)
  child_marked marked =
      let m = subst IsMarked n.skips (marked_skip i f marked) in
      subst IsMarked (sym n.subtree) (m.0, m.1, tt)

-- ---- the end of the children, and a node that isn't entered

pub lists_end : (X : Forest RenderObject → List Handle) (acc whole : List Handle) (g f : Forest RenderObject) → g ≡ none → X none ≡ [] → acc ++ X g ≡ whole → acc ≡ whole
lists_end X acc whole g f e empty so_far = sym (append-nil acc) ∙ sym (ap (λ xs. acc ++ xs) (ap X e ∙ empty)) ∙ so_far

pub seen_end : (seen whole : SeenBelow) (g : Forest RenderObject) → g ≡ none → both_seen seen (seen_of g) ≡ whole → seen ≡ whole
seen_end seen whole g e so_far =
    sym (λ i. record { stale = or_none seen.stale i; left = or_none seen.left i }) ∙ sym (ap (λ s. both_seen seen (seen_of s)) e) ∙ so_far

-- what is looked at below a node
pub inner_is : (t : Tree RenderObject) (h : Handle) (o : RenderObject) (b : Bool) → subtree_at t h ≡ tree h o (below (subtree_at t h)) none → is_entered o ≡ b
    → inner_of (subtree_at t h) ≡ (if b then below (subtree_at t h) else none)
inner_is t h o b opened e = ap inner_of opened ∙ ap (λ x. if x then below (subtree_at t h) else none) e

-- ---- a node itself

-- not in the window
module _ (h : Handle) (o : RenderObject) (kids : Forest RenderObject) (out : o.shown ≡ false) where
  pub stale_out : stale (tree h o kids none) ≡ []
  stale_out = λ i. (if out i && opens o then stale kids else []) ++ (if out i && (is_boundary o && (o.needs_paint || not (is_nil (if out i && opens o then stale kids else [])))) then h ∷ [] else []) ++ []

  pub flagged_out : flagged (tree h o kids none) ≡ []
  flagged_out = λ i. (if (out i && opens o) && o.paint_below then flagged kids else []) ++ (if out i && o.needs_paint then h ∷ [] else []) ++ []

  pub quiet_out : quiet (tree h o kids none) ≡ []
  quiet_out = λ i. (if (out i && opens o) && o.paint_below then quiet kids else []) ++ (if ((out i && opens o) && o.paint_below) && not (any_mark paint_marks (settled kids)) then h ∷ [] else []) ++ []

  pub seen_out : seen_of (tree h o kids none) ≡ record { stale = false; left = o.needs_paint || o.paint_below }
  seen_out = λ i. record {
    stale = not (is_nil (stale_out i));
    left = (left_is ∙ or_none (o.needs_paint || o.paint_below)) i;
  }
    where
      left_is : any_mark paint_marks (settled (tree h o kids none)) ≡ ((o.needs_paint || o.paint_below) || false)
      left_is = ap (λ (s : Bool). let v : RenderObject = if s then record o { needs_paint = false; paint_below = o.paint_below && (not (opens o) || any_mark paint_marks (settled kids)) } else o in (v.needs_paint || v.paint_below) || false) out

-- and in it
module _ (h : Handle) (o : RenderObject) (kids : Forest RenderObject) (shown : o.shown ≡ true) (marked : IsMarked (tree h o kids none)) where
  -- nothing is stale where a node isn't entered that is seen through
  pub stale_inner : stale (inner_of (tree h o kids none)) ≡ (if goes_in o then stale kids else [])
  stale_inner = by_opens (opens o) o.paint_below o.shown shown refl
    where
      by_opens : (p m s : Bool) → s ≡ true → o.paint_below ≡ m → stale (if (s && p) && m then kids else none) ≡ (if s && p then stale kids else [])
      by_opens p m false e em = absurd (true≢false (sym e))
      by_opens false m true e em = refl
      by_opens true true true e em = refl
      by_opens true false true e em = sym (calm_stale kids (marked.0 em))

  gathered_inner : (picks : RenderObject → Forest RenderObject → Bool) → gathered picks (inner_of (tree h o kids none)) ≡ (if is_entered o then gathered picks kids else [])
  gathered_inner picks = by_entered (is_entered o)
    where
      by_entered : (b : Bool) → gathered picks (if b then kids else none) ≡ (if b then gathered picks kids else [])
      by_entered true = refl
      by_entered false = refl

  module _ (s : SeenBelow) (is_seen : s ≡ seen_of (inner_of (tree h o kids none))) (old mid new : List Handle) where
    seen_stale : s.stale ≡ not (is_nil (if goes_in o then stale kids else []))
    seen_stale = ap (λ (x : SeenBelow). x.stale) is_seen ∙ ap (λ xs. not (is_nil xs)) stale_inner

    pub node_stale : mid ≡ old ++ stale (inner_of (tree h o kids none)) → new ≡ mid ++ (if is_boundary o && (o.needs_paint || s.stale) then h ∷ [] else [])
        → new ≡ old ++ stale (tree h o kids none)
    node_stale is_mid is_new =
        let xs : List Handle = if goes_in o then stale kids else [] in
        is_new
        ∙ (λ i. (is_mid ∙ ap (λ ys. old ++ ys) stale_inner) i ++ (if is_boundary o && (o.needs_paint || seen_stale i) then h ∷ [] else []))
        ∙ append_assoc old xs (if is_boundary o && (o.needs_paint || not (is_nil xs)) then h ∷ [] else [])
        ∙ ap (λ b. old ++ (xs ++ (if b && (is_boundary o && (o.needs_paint || not (is_nil xs))) then h ∷ [] else []))) (sym shown)
        ∙ ap (λ ys. old ++ ys) (sym (append-nil (xs ++ (if is_stale o xs then h ∷ [] else []))))

    node_gathered : (picks : RenderObject → Forest RenderObject → Bool) (b : Bool) → b ≡ picks o kids → mid ≡ old ++ gathered picks (inner_of (tree h o kids none))
        → new ≡ mid ++ (if b then h ∷ [] else []) → new ≡ old ++ gathered picks (tree h o kids none)
    node_gathered picks b is is_mid is_new =
        let xs : List Handle = if is_entered o then gathered picks kids else [] in
        is_new
        ∙ (λ i. (is_mid ∙ ap (λ ys. old ++ ys) (gathered_inner picks)) i ++ (if is i then h ∷ [] else []))
        ∙ append_assoc old xs (if picks o kids then h ∷ [] else [])
        ∙ ap (λ ys. old ++ ys) (sym (append-nil (xs ++ (if picks o kids then h ∷ [] else []))))

    pub node_flagged : mid ≡ old ++ flagged (inner_of (tree h o kids none)) → new ≡ mid ++ (if o.needs_paint then h ∷ [] else []) → new ≡ old ++ flagged (tree h o kids none)
    node_flagged = node_gathered has_flag o.needs_paint (sym (ap (λ b. b && o.needs_paint) shown))

    -- where it is entered, what is left below it was seen
    seen_left : is_entered o ≡ true → s.left ≡ any_mark paint_marks (settled kids)
    seen_left e = ap (λ (x : SeenBelow). x.left) is_seen ∙ ap (λ b. any_mark paint_marks (settled (if b then kids else none))) e

    pub node_quiet : mid ≡ old ++ quiet (inner_of (tree h o kids none)) → new ≡ mid ++ (if is_entered o && not s.left then h ∷ [] else []) → new ≡ old ++ quiet (tree h o kids none)
    node_quiet = node_gathered is_quiet (is_entered o && not s.left) (by_entered (is_entered o) refl)
      where
        by_entered : (b : Bool) → is_entered o ≡ b → (b && not s.left) ≡ (b && not (any_mark paint_marks (settled kids)))
        by_entered true e = ap not (seen_left e)
        by_entered false e = refl

  pub node_seen : (s r : SeenBelow) → s ≡ seen_of (inner_of (tree h o kids none))
      → r ≡ record { stale = s.stale || (is_boundary o && (o.needs_paint || s.stale)); left = o.paint_below && (not (opens o) || s.left) }
      → r ≡ seen_of (tree h o kids none)
  node_seen s r is_seen is =
      is ∙ (λ i. record { stale = stale_is i; left = left_is i })
    where
      own_some : (b : Bool) → b ≡ not (is_nil (if b then h ∷ [] else []))
      own_some true = refl
      own_some false = refl

      stale_is : (s.stale || (is_boundary o && (o.needs_paint || s.stale))) ≡ not (is_nil (stale (tree h o kids none)))
      stale_is =
          let xs : List Handle = if goes_in o then stale kids else [] in
          let own : List Handle = if is_stale o xs then h ∷ [] else [] in
          ap (λ b. b || (is_boundary o && (o.needs_paint || b))) (seen_stale s is_seen [] [] [])
          ∙ ap (λ b. not (is_nil xs) || (b && (is_boundary o && (o.needs_paint || not (is_nil xs))))) (sym shown)
          ∙ ap (λ b. not (is_nil xs) || b) (own_some (is_stale o xs))
          ∙ sym (some_append xs own)
          ∙ ap (λ ys. not (is_nil ys)) (sym (append-nil (xs ++ own)))

      same_left : (p m : Bool) → opens o ≡ p → o.paint_below ≡ m → (m && (not p || s.left)) ≡ (m && (not p || any_mark paint_marks (settled kids)))
      same_left p false ep em = refl
      same_left false true ep em = refl
      same_left true true ep em = seen_left s is_seen [] [] [] (λ i. (shown i && ep i) && em i)

      left_is : (o.paint_below && (not (opens o) || s.left)) ≡ any_mark paint_marks (settled (tree h o kids none))
      left_is =
          same_left (opens o) o.paint_below refl refl
          ∙ sym (ap (λ b. (if b then false else o.needs_paint) || (if b then o.paint_below && (not (opens o) || any_mark paint_marks (settled kids)) else o.paint_below)) shown)
          ∙ sym (or_none (flag_left o || mark_left (any_mark paint_marks (settled kids)) o))
          ∙ sym (ap (λ (v : RenderObject). (v.needs_paint || v.paint_below) || false) (settled_is (settled kids) o))

-- ---- by handles

pub marked_below : (f : Forest RenderObject) → IsMarked f → IsMarked (below f)
marked_below none marked = tt
marked_below (tree h o kids rest) marked = marked.1

module _ (t : Tree RenderObject) (h : Handle) (o : RenderObject) (opened : subtree_at t h ≡ tree h o (below (subtree_at t h)) none) (shown : o.shown ≡ true) (marked : IsMarked (subtree_at t h))
    (s : SeenBelow) (is_seen : s ≡ seen_of (inner_of (subtree_at t h))) where
  abbrev kids : Forest RenderObject
  kids = below (subtree_at t h)

  marked_tree : IsMarked (tree h o kids none)
  marked_tree = subst IsMarked opened marked

  seen_tree : s ≡ seen_of (inner_of (tree h o kids none))
  seen_tree = is_seen ∙ ap (λ x. seen_of (inner_of x)) opened

  pub at_stale : (old mid new : List Handle) → mid ≡ old ++ stale (inner_of (subtree_at t h)) → new ≡ mid ++ (if is_boundary o && (o.needs_paint || s.stale) then h ∷ [] else [])
      → new ≡ old ++ stale (subtree_at t h)
  at_stale old mid new a b = node_stale h o kids shown marked_tree s seen_tree old mid new (a ∙ ap (λ x. old ++ stale (inner_of x)) opened) b ∙ ap (λ x. old ++ stale x) (sym opened)

  pub at_flagged : (old mid new : List Handle) → mid ≡ old ++ flagged (inner_of (subtree_at t h)) → new ≡ mid ++ (if o.needs_paint then h ∷ [] else []) → new ≡ old ++ flagged (subtree_at t h)
  at_flagged old mid new a b = node_flagged h o kids shown marked_tree s seen_tree old mid new (a ∙ ap (λ x. old ++ flagged (inner_of x)) opened) b ∙ ap (λ x. old ++ flagged x) (sym opened)

  pub at_quiet : (old mid new : List Handle) → mid ≡ old ++ quiet (inner_of (subtree_at t h)) → new ≡ mid ++ (if is_entered o && not s.left then h ∷ [] else []) → new ≡ old ++ quiet (subtree_at t h)
  at_quiet old mid new a b = node_quiet h o kids shown marked_tree s seen_tree old mid new (a ∙ ap (λ x. old ++ quiet (inner_of x)) opened) b ∙ ap (λ x. old ++ quiet x) (sym opened)

  pub at_seen : (r : SeenBelow) → r ≡ record { stale = s.stale || (is_boundary o && (o.needs_paint || s.stale)); left = o.paint_below && (not (opens o) || s.left) } → r ≡ seen_of (subtree_at t h)
  at_seen r e = node_seen h o kids shown marked_tree s r seen_tree e ∙ ap seen_of (sym opened)
