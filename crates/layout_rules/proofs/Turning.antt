-- Subtrees of an arena, as a layout sees them: reading, writing, and what follows where a child's subtree becomes another.
use Rattle.std.proofs.Common.{◌≡◌, ap, refl, sym, subst, ◌∙◌, ℕ, ◌+◌, ◌≤◌, Bool, true, false, cond, Option, Some, None, IsSome, option_map, List, ◌∷◌, arith}
use Rattle.fx_handles.specs.declared.Handle.{Handle}
use Rattle.fx_handles.specs.Handle.{same}
use Rattle.fx_handles.specs.HandleLaws.{same-true, same_self, same-eq}
use Rattle.node_tree.specs.Edits.{KeepsHandles}
use Rattle.node_tree.specs.Forest.{TreeNode, Forest, tops, count, weigh, size, In, IsDistinct, Stands, skip, with_value_at}
use Rattle.node_tree.specs.Forest.Forest.{none, tree}
use Rattle.node_tree.specs.Tree.{Tree, IsNode, IsTree, node_at, parent_of, parent_at, children_of, children_at, subtree_at}
use Rattle.node_tree.proofs.ForestLemmas.{same_Some, Stands-same}
use Rattle.node_tree.proofs.TreeLemmas.{Holds-from_Is}
use Rattle.plain_tree.specs.Render.{render, Renders}
use Rattle.render_tree.specs.declared.layout_state.LayoutState.{LayoutState}
use Rattle.render_tree.specs.Edits.{Changes}
use Rattle.render_tree.specs.Object.{RenderObject, object_look}
use Rattle.render_tree.specs.LayoutState.{with_layout_state}
use Rattle.render_tree.specs.Plain.{lazy_children}
use Rattle.render_tree.specs.Tree.{object_at}
use Rattle.layout_walk.specs.Node.{LayoutNode, renders_in}
use Rattle.layout_walk.specs.Walk.{SameMembers}
use Rattle.layout_rules.specs.Nodes.{layout_node, layout_nodes, seen_node, seen_at, SeenAt}
use Rattle.layout_rules.specs.Places.{first_render, render_at}
use Rattle.layout_rules.specs.Turns.{Turns, node_with, put}
use Rattle.layout_rules.proofs.Putting.{one_forest, put_tops, put_weigh, put_stands, nth_stands, in_tree}
use Rattle.layout_rules.proofs.Seeing.{renders_seen, stands_at}

-- ---- one node

pub none_some : {X : Type 0} (x : X) → None ≡ Some x → ⊥
none_some x e = cc

-- what is stored at a handle that is seen so
pub record Stored (t : Tree RenderObject) (h : Handle) (v : LayoutNode) (hs : List Handle) : Type 0 where
  pub object : RenderObject
  pub is : object_at t h ≡ Some object
  pub seen : layout_node object ≡ v
  pub children : children_at t h ≡ hs

stored_in : (t : Tree RenderObject) (h : Handle) (n : Option (TreeNode RenderObject)) (m : TreeNode LayoutNode) → node_at t h ≡ n → option_map seen_node n ≡ Some m → Stored t h m.value m.children
stored_in t h None m at is = absurd (none_some m is)
stored_in t h (Some n) m at is =
    let same : seen_node n ≡ m = same_Some is in record {
      object = n.value;
      is = ap (λ (o : Option (TreeNode RenderObject)). option_map (λ (x : TreeNode RenderObject). x.value) o) at;
      seen = ap (λ (x : TreeNode LayoutNode). x.value) same;
      children = ap (λ (o : Option (TreeNode RenderObject)). children_of o) at ∙ ap (λ (x : TreeNode LayoutNode). x.children) same;
    }

pub stored_at : (t : Tree RenderObject) (h : Handle) (p : Option Handle) (v : LayoutNode) (hs : List Handle) → seen_at t h ≡ Some (record { parent = p; children = hs; value = v }) → Stored t h v hs
stored_at t h p v hs is = stored_in t h (node_at t h) (record { parent = p; children = hs; value = v }) refl is

pub seen_stored : (t : Tree RenderObject) (h : Handle) (v : LayoutNode) (kids : Forest LayoutNode) → SeenAt t h (tree h v kids none) → Stored t h v (tops kids)
seen_stored t h v kids s = stored_at t h (parent_at t h) v (tops kids) s.stands.0

pub seen_live : (t : Tree RenderObject) (h : Handle) (v : LayoutNode) (kids : Forest LayoutNode) → SeenAt t h (tree h v kids none) → IsNode t h
seen_live t h v kids s = live_in (node_at t h) (record { parent = parent_at t h; children = tops kids; value = v }) s.stands.0
  where
    live_in : (n : Option (TreeNode RenderObject)) (m : TreeNode LayoutNode) → option_map seen_node n ≡ Some m → IsSome n
    live_in None m is = absurd (none_some m is)
    live_in (Some n) m is = refl

pub seen_children : (t : Tree RenderObject) (h : Handle) (v : LayoutNode) (kids : Forest LayoutNode) → SeenAt t h (tree h v kids none) → children_at t h ≡ tops kids
seen_children t h v kids s = (seen_stored t h v kids s).children

-- ---- the whole subtree

pub seen_whole : (t : Tree RenderObject) (h : Handle) (s : Forest LayoutNode) → IsTree t → IsNode t h → SeenAt t h s → s ≡ layout_nodes (subtree_at t h)
seen_whole t h s is live seen =
    let holds = Holds-from_Is t is.0 h is.1 live in
    let whole = stands_at t h (subtree_at t h) holds in
    one_forest (seen_at t) (parent_at t h) (parent_at t h) s (layout_nodes (subtree_at t h)) seen.stands whole.stands (seen.top ∙ sym whole.top)

first_seen : (f : Forest RenderObject) (h : Handle) (v : LayoutNode) (kids : Forest LayoutNode) → tree h v kids none ≡ layout_nodes f
    → first_render f ≡ render v.number v.look v.told v.scroll v.count (renders_in kids)
first_seen none h v kids e = absurd (none_trees h v kids e)
  where
    none_trees : (h : Handle) (v : LayoutNode) (kids : Forest LayoutNode) → tree h v kids none ≡ none → ⊥
    none_trees h v kids e = cc
first_seen (tree k o below rest) h v kids e =
    let value : v ≡ layout_node o = cc in
    let parts : kids ≡ layout_nodes below = cc in
    ap (λ (rs : Renders). render o.number (object_look o) o.parent_data o.scroll (lazy_children o) rs) (sym (renders_seen below) ∙ ap (λ (f : Forest LayoutNode). renders_in f) (sym parts))
    ∙ ap (λ (x : LayoutNode). render x.number x.look x.told x.scroll x.count (renders_in kids)) (sym value)

pub seen_render : (t : Tree RenderObject) (h : Handle) (v : LayoutNode) (kids : Forest LayoutNode) → IsTree t → SeenAt t h (tree h v kids none)
    → render_at t h ≡ render v.number v.look v.told v.scroll v.count (renders_in kids)
seen_render t h v kids is seen = first_seen (subtree_at t h) h v kids (seen_whole t h (tree h v kids none) is (seen_live t h v kids seen) seen)

pub weigh_layout : (w : Handle → ℕ) (f : Forest RenderObject) → weigh w (layout_nodes f) ≡ weigh w f
weigh_layout w none = refl
weigh_layout w (tree h o below rest) = ap (λ (n : ℕ). w h + n + weigh w (layout_nodes rest)) (weigh_layout w below) ∙ ap (λ (n : ℕ). w h + weigh w below + n) (weigh_layout w rest)

pub seen_size : (t : Tree RenderObject) (h : Handle) (v : LayoutNode) (kids : Forest LayoutNode) → IsTree t → SeenAt t h (tree h v kids none) → size (subtree_at t h) ≡ size (tree h v kids none)
seen_size t h v kids is seen =
    sym (weigh_layout (λ _. 1) (subtree_at t h)) ∙ ap (λ (f : Forest LayoutNode). size f) (sym (seen_whole t h (tree h v kids none) is (seen_live t h v kids seen) seen))

pub same_weigh : (w : Handle → ℕ) (f g : Forest LayoutNode) → SameMembers f g → weigh w f ≡ weigh w g
same_weigh w none none same = refl
same_weigh w none (tree k x below rest) same = absurd same
same_weigh w (tree h v kids more) none same = absurd same
same_weigh w (tree h v kids more) (tree k x below rest) same =
    ap (λ (j : Handle). w j + weigh w kids + weigh w more) same.0
    ∙ ap (λ (n : ℕ). w k + n + weigh w more) (same_weigh w kids below same.2)
    ∙ ap (λ (n : ℕ). w k + weigh w below + n) (same_weigh w more rest same.3)

pub same_tops : (f g : Forest LayoutNode) → SameMembers f g → tops f ≡ tops g
same_tops none none same = refl
same_tops none (tree k x below rest) same = absurd same
same_tops (tree h v kids more) none same = absurd same
same_tops (tree h v kids more) (tree k x below rest) same = ap (λ (j : Handle). j ∷ tops more) same.0 ∙ ap (λ (hs : List Handle). k ∷ hs) (same_tops more rest same.3)

-- ---- nothing is done

pub turn_same : (t : Tree RenderObject) (h : Handle) (s : Forest LayoutNode) → SeenAt t h s → Turns t t h s s
turn_same t h s seen = record {
  stands = seen;
  parent = refl;
  others = λ k out. refl;
  root = refl;
  inactive = refl;
  handles = record { generations = λ index. refl; spent = λ k is. is; used = refl; retired = refl; generation_sum = refl; inserted = refl };
}

pub keeps_again : (a b c : Tree RenderObject) → KeepsHandles a.nodes b.nodes → KeepsHandles b.nodes c.nodes → KeepsHandles a.nodes c.nodes
keeps_again a b c one two = record {
  generations = λ index. two.generations index ∙ one.generations index;
  spent = λ k is. two.spent k (one.spent k is);
  used = two.used ∙ one.used;
  retired = two.retired ∙ one.retired;
  generation_sum = two.generation_sum ∙ one.generation_sum;
  inserted = two.inserted ∙ one.inserted;
}

-- one turn and then another, that has no other nodes
pub turn_again : (a b c : Tree RenderObject) (h : Handle) (s u w : Forest LayoutNode) → ((k : Handle) → count k u ≡ count k s) → Turns a b h s u → Turns b c h u w → Turns a c h s w
turn_again a b c h s u w alike one two = record {
  stands = two.stands;
  parent = two.parent ∙ one.parent;
  others = λ k out. two.others k (λ inside. out (let e = alike k in omega (arith, e, inside))) ∙ one.others k out;
  root = two.root ∙ one.root;
  inactive = two.inactive ∙ one.inactive;
  handles = keeps_again a b c one.handles two.handles;
}

-- ---- a child

pub parent_seen : (n m : Option (TreeNode RenderObject)) → option_map seen_node n ≡ option_map seen_node m → parent_of n ≡ parent_of m
parent_seen None None e = refl
parent_seen None (Some m) e = absurd (none_some (seen_node m) e)
parent_seen (Some n) None e = absurd (none_some (seen_node n) (sym e))
parent_seen (Some n) (Some m) e = ap (λ (x : TreeNode LayoutNode). x.parent) (same_Some e)

parent_is : (n : Option (TreeNode RenderObject)) (m : TreeNode LayoutNode) → option_map seen_node n ≡ Some m → parent_of n ≡ m.parent
parent_is None m e = absurd (none_some m e)
parent_is (Some n) m e = ap (λ (x : TreeNode LayoutNode). x.parent) (same_Some e)

pub child_parent : (t : Tree RenderObject) (h c : Handle) (v cv : LayoutNode) (kids ck after : Forest LayoutNode) (i : ℕ) → SeenAt t h (tree h v kids none)
    → skip i kids ≡ tree c cv ck after → parent_at t c ≡ Some h
child_parent t h c v cv kids ck after i seen is =
    parent_is (node_at t c) (record { parent = Some h; children = tops ck; value = cv }) (nth_stands (seen_at t) (Some h) i c cv ck after kids seen.stands.1 is).0

hit : Handle → Handle → ℕ
hit k h = cond {A = ℕ} (same h k) 1 0

pub child_seen : (t : Tree RenderObject) (h c : Handle) (v cv : LayoutNode) (kids ck after : Forest LayoutNode) (i : ℕ) → SeenAt t h (tree h v kids none)
    → skip i kids ≡ tree c cv ck after → SeenAt t c (tree c cv ck none)
child_seen t h c v cv kids ck after i seen is = record {
  top = refl;
  stands = subst (λ (p : Option Handle). Stands (seen_at t) p (tree c cv ck none)) (sym (child_parent t h c v cv kids ck after i seen is)) (nth_stands (seen_at t) (Some h) i c cv ck after kids seen.stands.1 is);
  distinct = λ k. let all : count k (tree h v kids none) ≤ 1 = seen.distinct k in let within = in_tree (λ j. cond {A = ℕ} (same j k) 1 0) i c cv ck after kids is in omega (arith, all, within);
}

-- a child's subtree becomes another
pub child_turns : (old new : Tree RenderObject) (h c : Handle) (v cv cw : LayoutNode) (kids ck cb after : Forest LayoutNode) (i : ℕ) → SeenAt old h (tree h v kids none)
    → skip i kids ≡ tree c cv ck after → ((w : Handle → ℕ) → weigh w cb ≡ weigh w ck) → Turns old new c (tree c cv ck none) (tree c cw cb none)
    → Turns old new h (tree h v kids none) (tree h v (put i cw cb kids) none)
child_turns old new h c v cv cw kids ck cb after i seen is alike turns =
    let apart : In h (tree c cv ck none) → ⊥ =
    λ inside. let all : count h (tree h v kids none) ≤ 1 = seen.distinct h in
    let within = in_tree (λ j. cond {A = ℕ} (same j h) 1 0) i c cv ck after kids is in
    let mine : cond {A = ℕ} (same h h) 1 0 ≡ 1 = ap (λ b. cond {A = ℕ} b 1 0) (same_self h) in
    omega (arith, all, within, mine, inside) in
    let here : seen_at new h ≡ seen_at old h = turns.others h apart in
    let up : parent_at new h ≡ parent_at old h = parent_seen (node_at new h) (node_at old h) here in
    let kid_parent : parent_at new c ≡ Some h = turns.parent ∙ child_parent old h c v cv kids ck after i seen is in
    let kid_stands : Stands (seen_at new) (Some h) (tree c cw cb none) = subst (λ (p : Option Handle). Stands (seen_at new) p (tree c cw cb none)) kid_parent turns.stands.stands in
    let distinct : IsDistinct kids = λ k. let all : count k (tree h v kids none) ≤ 1 = seen.distinct k in omega (arith, all) in
    record {
      stands = record {
        top = refl;
        stands = (
          here ∙ seen.stands.0 ∙ ap (λ (p : Option Handle). Some (record { parent = p; children = tops kids; value = v })) (sym up)
              ∙ ap (λ (hs : List Handle). Some (record { parent = parent_at new h; children = hs; value = v })) (sym (put_tops i cw cb kids)),
          put_stands (seen_at old) (seen_at new) (Some h) i c cv cw ck cb after kids seen.stands.1 distinct is kid_stands turns.others,
          tt,
        );
        distinct = λ k. let all : count k (tree h v kids none) ≤ 1 = seen.distinct k in
            let kept = put_weigh (λ j. cond {A = ℕ} (same j k) 1 0) i c cv cw ck cb after kids is (alike (λ j. cond {A = ℕ} (same j k) 1 0)) in omega (arith, all, kept);
      };
      parent = up;
      others = λ k out. turns.others k (λ inside. out (let within = in_tree (λ j. cond {A = ℕ} (same j k) 1 0) i c cv ck after kids is in omega (arith, within, inside)));
      root = turns.root;
      inactive = turns.inactive;
      handles = turns.handles;
    }

-- ---- one node is written

written : (h k : Handle) (u : LayoutState) (o : RenderObject) (n : Option (TreeNode RenderObject)) (m : Option (TreeNode RenderObject))
    → n ≡ option_map (with_value_at h (with_layout_state u o) k) m → same k h ≡ false → option_map seen_node n ≡ option_map seen_node m
written h k u o n None e other = ap (λ (x : Option (TreeNode RenderObject)). option_map seen_node x) e
written h k u o n (Some m) e other =
    ap (λ (x : Option (TreeNode RenderObject)). option_map seen_node x) (e ∙ ap (λ (b : Bool). Some (cond {A = TreeNode RenderObject} b (record m { value = with_layout_state u o }) m)) other)

written_here : (h : Handle) (u : LayoutState) (o : RenderObject) (n : Option (TreeNode RenderObject)) (m : Option (TreeNode RenderObject)) (x : TreeNode LayoutNode)
    → n ≡ option_map (with_value_at h (with_layout_state u o) h) m → option_map seen_node m ≡ Some x → layout_node o ≡ x.value
    → option_map seen_node n ≡ Some (record x { value = node_with u x.value })
written_here h u o n None x e seen is = absurd (none_some x seen)
written_here h u o n (Some m) x e seen is =
    ap (λ (y : Option (TreeNode RenderObject)). option_map seen_node y) (e ∙ ap (λ (b : Bool). Some (cond {A = TreeNode RenderObject} b (record m { value = with_layout_state u o }) m)) (same_self h))
    ∙ ap (λ (y : LayoutNode). Some (record { parent = m.parent; children = m.children; value = node_with u y })) is
    ∙ ap (λ (y : TreeNode LayoutNode). Some (record { parent = y.parent; children = y.children; value = node_with u x.value })) (same_Some seen)

pub node_turns : (old new : Tree RenderObject) (h : Handle) (v : LayoutNode) (kids : Forest LayoutNode) (u : LayoutState) → SeenAt old h (tree h v kids none)
    → Changes old new h (with_layout_state u) → Turns old new h (tree h v kids none) (tree h (node_with u v) kids none)
node_turns old new h v kids u seen changes =
    let stored = seen_stored old h v kids seen in
    let w = changes.live stored.object stored.is in
    let at_h = written_here h u stored.object (node_at new h) (node_at old h) (record { parent = parent_at old h; children = tops kids; value = v }) (w.writes.nodes h) seen.stands.0 stored.seen in
    let others : (k : Handle) → same k h ≡ false → seen_at new k ≡ seen_at old k = λ k other. written h k u stored.object (node_at new k) (node_at old k) (w.writes.nodes k) other in
    let up : parent_at new h ≡ parent_at old h = parent_is (node_at new h) (record { parent = parent_at old h; children = tops kids; value = node_with u v }) at_h in
    let below_other : (k : Handle) → In k kids → same k h ≡ false = λ k inside. below k inside (same k h) refl in
    record {
      stands = record {
        top = refl;
        stands = (
          at_h ∙ ap (λ (p : Option Handle). Some (record { parent = p; children = tops kids; value = node_with u v })) (sym up),
          Stands-same (seen_at old) (seen_at new) (Some h) kids seen.stands.1 (λ k inside. others k (below_other k inside)),
          tt,
        );
        distinct = seen.distinct;
      };
      parent = up;
      others = λ k out. others k (apart k out (same k h) refl);
      root = w.root;
      inactive = w.inactive;
      handles = w.writes.handles;
    }
  where
    below : (k : Handle) → In k kids → (b : Bool) → same k h ≡ b → same k h ≡ false
    below k inside false e = e
    below k inside true e =
        absurd (let all : count k (tree h v kids none) ≤ 1 = seen.distinct k in
        let mine : cond {A = ℕ} (same h k) 1 0 ≡ 1 = ap (λ b. cond {A = ℕ} b 1 0) (same-eq h k (sym (same-true k h e))) in omega (arith, all, mine, inside))

    apart : (k : Handle) → (In k (tree h v kids none) → ⊥) → (b : Bool) → same k h ≡ b → same k h ≡ false
    apart k out false e = e
    apart k out true e =
        absurd (out (let mine : cond {A = ℕ} (same h k) 1 0 ≡ 1 = ap (λ b. cond {A = ℕ} b 1 0) (same-eq h k (sym (same-true k h e))) in omega (arith, mine)))
