-- Whether a lazy list is among elements.
use Rattle.std.proofs.Common.{◌≡◌, ℕ, ◌+◌, Bool, true, false, ◌||◌, cond, if◌then◌else◌, Option, Some, None, IfSome, option_map, option_and_then, List, [], ◌∷◌, refl, sym, ap, subst, ◌∙◌, true≢false}
use Rattle.std.specs.Option.{option_to_list}
use Rattle.fx_handles.specs.declared.Handle.{Handle}
use Rattle.fx_handles.specs.ArenaLaws.{same_Some}
use Rattle.node_tree.specs.Children.{Nth}
use Rattle.node_tree.specs.Forest.{Forest, below, skip, tops}
use Rattle.node_tree.specs.Forest.Forest.{none, tree}
use Rattle.node_tree.specs.Tree.{Tree, Holds, subtree_at}
use Rattle.widget_model.specs.Plain.{PlainWidget, look_of}
use Rattle.program_check.specs.Checked.{PlainChecked}
use Rattle.plain_tree.specs.PlainNode.{PlainNode, nodes_of as listed}
use Rattle.build_form.specs.BuildRole.{build_role_of, is_lazy}
use Rattle.build_form.specs.KeptStates.{AllAre}
use Rattle.element_tree.specs.Element.{Element, element_at}
use Rattle.element_tree.specs.Nodes.{nodes_of}
use Rattle.global_keys.specs.Holders.{Registry}
use Rattle.render_tree.specs.Object.{RenderObject}
use Rattle.versioned_kinds.specs.Lists.{IsNoList, HasNoLists}
use Rattle.build_walk.specs.Standing.{ElementsStandFor}
use Rattle.build_owner.specs.Standing.{StandsFor}
use Rattle.frame_owner.specs.Nodes.{lists_among, root_to_keep}
use Rattle.frame_owner.proofs.Numbering.{held, root_subtree}

abbrev is_list : Element → Bool
is_list e = is_lazy (build_role_of (look_of e.widget))

-- ---- one tree after another

passes : (own below later : Bool) → (own || (below || false)) ≡ false → (own || (below || later)) ≡ later
passes true below later off = absurd (true≢false off)
passes false true later off = absurd (true≢false off)
passes false false later off = refl

-- tree number i has none: so it is of those after it
pub none_passed : (t : Tree Element) (f : Forest Element) (i : ℕ) (c : Handle) (answer whole : Bool) → Nth t f i c → answer ≡ lists_among (subtree_at t c) → answer ≡ false → lists_among (skip i f) ≡ whole
    → lists_among (skip (i + 1) f) ≡ whole
none_passed t f i c answer whole n is off so_far =
    sym (ap lists_among n.skips ∙ passes (is_list n.value) (lists_among n.kids) (lists_among (skip (i + 1) f)) (sym (ap lists_among n.subtree) ∙ (sym is ∙ off))) ∙ so_far

-- ---- a node, and then those below it

last_none : (below : Bool) → (below || false) ≡ below
last_none true = refl
last_none false = refl

-- whether an element is one, by the widget that is lent
own_list : (t : Tree Element) (h : Handle) (w : PlainWidget) (e : Element) (answer : Bool) → Some w ≡ option_map (λ (x : Element). x.widget) (element_at t h) → answer ≡ is_lazy (build_role_of (look_of w)) → element_at t h ≡ Some e
    → is_list e ≡ answer
own_list t h w e answer lent is there =
    sym (is ∙ ap (λ (x : PlainWidget). is_lazy (build_role_of (look_of x))) (same_Some (lent ∙ ap (option_map (λ (x : Element). x.widget)) there)))

module _ (t : Tree Element) (h : Handle) (holds : Holds t h) (opened : (e : Element) → element_at t h ≡ Some e → subtree_at t h ≡ tree h e (below (subtree_at t h)) none) (w : PlainWidget) (answer : Bool)
    (lent : Some w ≡ option_map (λ (x : Element). x.widget) (element_at t h)) (is : answer ≡ is_lazy (build_role_of (look_of w))) where
  whole_is : lists_among (subtree_at t h) ≡ (answer || lists_among (below (subtree_at t h)))
  whole_is =
      let e = held t h holds in
      ap lists_among (opened e.0 e.1)
      ∙ (ap (λ (b : Bool). is_list e.0 || b) (last_none (lists_among (below (subtree_at t h))))
      ∙ ap (λ (b : Bool). b || lists_among (below (subtree_at t h))) (own_list t h w e.0 answer lent is e.1))

  -- it isn't one itself
  pub own_passed : answer ≡ false → lists_among (below (subtree_at t h)) ≡ lists_among (subtree_at t h)
  own_passed off = sym (whole_is ∙ ap (λ (b : Bool). b || lists_among (below (subtree_at t h))) off)

pub has_widget : (t : Tree Element) (h : Handle) → Holds t h → None ≡ option_map (λ (x : Element). x.widget) (element_at t h) → ⊥
has_widget t h holds lent =
    let e = held t h holds in
    none_some e.0.widget (lent ∙ ap (option_map (λ (x : Element). x.widget)) e.1)
  where
    none_some : (w : PlainWidget) → None ≡ Some w → ⊥
    none_some w e = cc

-- ---- of the tree for which they stand

left_off : (a b : Bool) → (a || b) ≡ false → a ≡ false
left_off true b off = absurd (true≢false off)
left_off false b off = refl

right_off : (a b : Bool) → (a || b) ≡ false → b ≡ false
right_off true b off = absurd (true≢false off)
right_off false b off = off

none_listed : (scrolled : ℕ → ℕ) (f : Forest Element) → lists_among f ≡ false → AllAre (λ number widget fields scroll. IsNoList (look_of widget)) (listed (nodes_of scrolled f))
none_listed scrolled none off = tt
none_listed scrolled (tree h e kids rest) off =
    let after = right_off (is_list e) (lists_among kids || lists_among rest) off in (
      (left_off (is_list e) (lists_among kids || lists_among rest) off, none_listed scrolled kids (left_off (lists_among kids) (lists_among rest) after)),
      none_listed scrolled rest (right_off (lists_among kids) (lists_among rest) after),
    )

pub no_lists : (c : PlainChecked) (marks : List ℕ) (n : PlainNode) (scrolled : ℕ → ℕ) (t : Tree Element) (r : Tree RenderObject) (g : Registry) (top : Handle) → StandsFor c marks (Some n) scrolled t r g → Some top ≡ t.root
    → false ≡ lists_among (subtree_at t top) → HasNoLists n
no_lists c marks n scrolled t r g top h is off =
    let s = h.elements in
    let whole : subtree_at t top ≡ s.forest = root_subtree t s.forest top s.is (ap option_to_list is ∙ s.root) in
    (subst (λ (ns : List PlainNode). AllAre (λ number widget fields scroll. IsNoList (look_of widget)) (listed ns)) (sym s.nodes) (none_listed scrolled s.forest (sym (off ∙ ap lists_among whole)))).0

-- ---- and where the tree has none

no_node : (n : PlainNode) → n ∷ [] ≡ [] → ⊥
no_node n e = cc

no_handle : (h : Handle) (hs : List Handle) → [] ≡ h ∷ hs → ⊥
no_handle h hs e = cc

lists_gone : (scrolled : ℕ → ℕ) (f : Forest Element) → AllAre (λ number widget fields scroll. IsNoList (look_of widget)) (listed (nodes_of scrolled f)) → lists_among f ≡ false
lists_gone scrolled none free = refl
lists_gone scrolled (tree h e kids rest) free =
    ap (λ (b : Bool). b || (lists_among kids || lists_among rest)) free.0.0
    ∙ (ap (λ (b : Bool). b || lists_among rest) (lists_gone scrolled kids free.0.1) ∙ lists_gone scrolled rest free.1)

-- the root of a build is kept, whose tree has none
pub root_to_keep_is : (c : PlainChecked) (marks : List ℕ) (n : PlainNode) (scrolled : ℕ → ℕ) (t : Tree Element) (r : Tree RenderObject) (g : Registry) (root : PlainWidget) → StandsFor c marks (Some n) scrolled t r g → HasNoLists n
    → root_to_keep root t ≡ Some root
root_to_keep_is c marks n scrolled t r g root h free = by_root t.root refl
  where
    s : ElementsStandFor c marks (Some n) scrolled t
    s = h.elements

    off : lists_among s.forest ≡ false
    off = lists_gone scrolled s.forest (subst (λ (ns : List PlainNode). AllAre (λ number widget fields scroll. IsNoList (look_of widget)) (listed ns)) s.nodes (free, tt))

    kept : Option Handle → Option PlainWidget
    kept o = option_and_then (λ top. if lists_among (subtree_at t top) then None else Some root) o

    none_there : (f : Forest Element) → n ∷ [] ≡ nodes_of scrolled f → [] ≡ tops f → ⊥
    none_there none nodes roots = no_node n nodes
    none_there (tree k e kids rest) nodes roots = no_handle k (tops rest) roots

    by_root : (o : Option Handle) → t.root ≡ o → kept t.root ≡ Some root
    by_root (Some top) e =
        let whole : subtree_at t top ≡ s.forest = root_subtree t s.forest top s.is (ap option_to_list (sym e) ∙ s.root) in
        ap kept e ∙ ap (λ (b : Bool). cond {A = Option PlainWidget} b None (Some root)) (ap lists_among whole ∙ off)
    by_root None e = absurd (none_there s.forest s.nodes (ap option_to_list (sym e) ∙ s.root))

-- and whether one is, by the answer of the walk
pub to_keep : (root : PlainWidget) (t : Tree Element) (top : Handle) → t.root ≡ Some top → (answer : Bool) → lists_among (subtree_at t top) ≡ answer
    → root_to_keep root t ≡ cond {A = Option PlainWidget} answer None (Some root)
to_keep root t top is answer listed =
    ap (option_and_then (λ (h : Handle). if lists_among (subtree_at t h) then None else Some root)) is ∙ ap (λ (b : Bool). cond {A = Option PlainWidget} b None (Some root)) listed

pub none_to_keep : (root : PlainWidget) (t : Tree Element) → t.root ≡ None → root_to_keep root t ≡ None
none_to_keep root t is = ap (option_and_then (λ (h : Handle). if lists_among (subtree_at t h) then None else Some root)) is

-- and where it is kept there is none
module _ (c : PlainChecked) (marks : List ℕ) (n : PlainNode) (scrolled : ℕ → ℕ) (t : Tree Element) (r : Tree RenderObject) (g : Registry) (root : PlainWidget) (h : StandsFor c marks (Some n) scrolled t r g)
    (is : root_to_keep root t ≡ Some root) where
  not_kept : None ≡ Some root → ⊥
  not_kept e = cc

  by_lists : (top : Handle) → t.root ≡ Some top → (b : Bool) → lists_among (subtree_at t top) ≡ b → HasNoLists n
  by_lists top e true listed = absurd (not_kept (sym (to_keep root t top e true listed) ∙ is))
  by_lists top e false listed = no_lists c marks n scrolled t r g top h (sym e) (sym listed)

  by_root : (o : Option Handle) → t.root ≡ o → HasNoLists n
  by_root None e = absurd (not_kept (sym (none_to_keep root t e) ∙ is))
  by_root (Some top) e = by_lists top e (lists_among (subtree_at t top)) refl

  pub none_kept : HasNoLists n
  none_kept = by_root t.root refl

-- no other root is kept
pub only_root : (root : PlainWidget) (t : Tree Element) (o : Option PlainWidget) → o ≡ root_to_keep root t → IfSome o (λ kept. kept ≡ root)
only_root root t o is = subst (λ (x : Option PlainWidget). IfSome x (λ kept. kept ≡ root)) (sym is) (by_root t.root)
  where
    by_lists : (b : Bool) → IfSome (cond {A = Option PlainWidget} b None (Some root)) (λ kept. kept ≡ root)
    by_lists true = tt
    by_lists false = refl

    by_root : (top : Option Handle) → IfSome (option_and_then (λ (h : Handle). if lists_among (subtree_at t h) then None else Some root) top) (λ kept. kept ≡ root)
    by_root None = tt
    by_root (Some h) = by_lists (lists_among (subtree_at t h))
