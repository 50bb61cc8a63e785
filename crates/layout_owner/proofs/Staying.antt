-- Trees in which nothing differs, or only where the root stands.
use Rattle.std.proofs.Common.{◌≡◌, ◌≢◌, ap, refl, sym, subst, ◌∙◌, ℕ, Option, Some, None, option_map, List, [], ◌∷◌, ◌++◌}
use Rattle.std.specs.Option.{option_to_list}
use Rattle.fx_handles.specs.declared.Handle.{Handle}
use Rattle.fx_handles.specs.Handle.{Among}
use Rattle.node_tree.specs.Forest.{TreeNode, Forest, Stands, tops}
use Rattle.node_tree.specs.Forest.Forest.{none, tree}
use Rattle.node_tree.specs.Tree.{Tree, Is, IsTree, parent_of, parent_at, children_at}
use Rattle.node_tree.proofs.ForestLemmas.{Stands-same}
use Rattle.node_tree.proofs.TreeLemmas.{child_of}
use Rattle.render_tree.specs.Edits.{Changes}
use Rattle.render_tree.specs.LayoutState.{with_layout_state}
use Rattle.render_tree.specs.Object.{RenderObject}
use Rattle.layout_walk.specs.Node.{LayoutNode}
use Rattle.layout_rules.specs.Nodes.{seen_node, seen_at, SeenAt}
use Rattle.layout_rules.specs.Painting.{KeepsRest, own_in, place_in, LooksSame, Repaints, PaintsAnew, PaintsFew}
use Rattle.layout_rules.specs.Reads.{state_or, state_at}
use Rattle.layout_rules.specs.Turns.{Turns}
use Rattle.layout_rules.proofs.Repainting.{kept_self, kept_again, kept_children, kept_live, write_is, part_kept}
use Rattle.layout_owner.specs.Stays.{Stays, placed_state}

none_some : {X : Type 0} (x : X) → None ≡ Some x → ⊥
none_some x e = cc

pub stays_turns : (old new : Tree RenderObject) (h : Handle) (s : Forest LayoutNode) → SeenAt old h s → Stays old new → Turns old new h s s
stays_turns old new h s seen stays =
    let at : (k : Handle) → seen_at new k ≡ seen_at old k = λ k. ap (λ (n : Option (TreeNode RenderObject)). option_map seen_node n) (stays.nodes k) in
    let up : parent_at new h ≡ parent_at old h = ap (λ (n : Option (TreeNode RenderObject)). parent_of n) (stays.nodes h) in
    record {
      stands = record {
        top = seen.top;
        stands = subst (λ (p : Option Handle). Stands (seen_at new) p s) (sym up)
            (Stands-same (seen_at old) (seen_at new) (parent_at old h) s seen.stands (λ k inside. at k));
        distinct = seen.distinct;
      };
      parent = up;
      others = λ k out. at k;
      root = stays.root;
      inactive = stays.inactive;
      handles = stays.handles;
    }

-- ---- what is painted

pub stays_kept : (old new : Tree RenderObject) → Stays old new → KeepsRest old new
stays_kept old new stays = record {
  nodes = λ k.
      (kept_self new).nodes k
      ∙ ap (λ (n : Option (TreeNode RenderObject)). option_map (λ (m : TreeNode RenderObject). record m { value = with_layout_state (state_at new k) m.value }) n) (stays.nodes k);
  root = stays.root;
  inactive = stays.inactive;
  handles = stays.handles;
}

stays_state : (old new : Tree RenderObject) → Stays old new → (k : Handle) → state_at new k ≡ state_at old k
stays_state old new stays k = ap (λ (n : Option (TreeNode RenderObject)). state_or (option_map (λ (m : TreeNode RenderObject). m.value) n)) (stays.nodes k)

-- only where a root stands differs
pub record Placing (old new : Tree RenderObject) (h : Handle) : Type 0 where
  pub keeps : KeepsRest old new
  pub own : (k : Handle) → own_in (state_at new k) ≡ own_in (state_at old k)
  pub place : (k : Handle) → h ≢ k → place_in (state_at new k) ≡ place_in (state_at old k)

pub placing : (t0 t1 t2 : Tree RenderObject) (h : Handle) → Stays t0 t1 → Changes t1 t2 h (with_layout_state (placed_state (state_at t1 h))) → Placing t0 t2 h
placing t0 t1 t2 h stays changes =
    let w = write_is t1 t2 h (placed_state (state_at t1 h)) changes in
    record {
      keeps = kept_again t0 t1 t2 (stays_kept t0 t1 stays) w.keeps;
      own = λ k. part_kept own_in t1 t2 h (placed_state (state_at t1 h)) changes refl k ∙ ap own_in (stays_state t0 t1 stays k);
      place = λ k other. ap place_in (w.there k other ∙ stays_state t0 t1 stays k);
    }

nil_cons : (h : Handle) (hs : List Handle) → [] ≡ h ∷ hs → ⊥
nil_cons h hs e = cc

root_alone : (t : Tree RenderObject) (f : Forest RenderObject) (h : Handle) → Is t f → t.root ≡ Some h → parent_at t h ≡ None
root_alone t none h is root = absurd (nil_cons h t.inactive (sym is.tops ∙ ap (λ (o : Option Handle). option_to_list o ++ t.inactive) root))
root_alone t (tree k o below rest) h is root =
    let list : h ∷ t.inactive ≡ k ∷ tops rest = sym (ap (λ (o : Option Handle). option_to_list o ++ t.inactive) root) ∙ is.tops in
    let first : h ≡ k = cc in
    ap (λ (x : Handle). parent_at t x) first ∙ ap (λ (n : Option (TreeNode RenderObject)). parent_of n) is.stands.0

-- the root is nobody's child
not_root : (t : Tree RenderObject) (h k c : Handle) → IsTree t → t.root ≡ Some h → Among c (children_at t k) → h ≢ c
not_root t h k c is root among same =
    let child = child_of t is.0 k c is.1 among in
    none_some k (sym (root_alone t is.0 h is.1 root) ∙ ap (λ (x : Handle). parent_at t x) same ∙ child.parent)

placed_repaints : (t0 t2 laid : Tree RenderObject) (h : Handle) (hs : List Handle) → IsTree t0 → t0.root ≡ Some h → Placing t0 t2 h → Repaints t2 laid hs → Repaints t0 laid hs
placed_repaints t0 t2 laid h hs is root put repaints = record {
  same = λ k none. looks k (repaints.same k none);
  other = λ k once seen. repaints.other k once (back k seen);
  live = λ k among. kept_live t0 t2 k put.keeps (repaints.live k among);
}
  where
    looks : (k : Handle) → LooksSame t2 laid k → LooksSame t0 laid k
    looks k seen = record {
      own = seen.own ∙ put.own k;
      places = λ c among. seen.places c (subst (λ (hs : List Handle). Among c hs) (sym (kept_children t0 t2 k put.keeps)) among) ∙ put.place c (not_root t0 h k c is root among);
    }

    back : (k : Handle) → LooksSame t0 laid k → LooksSame t2 laid k
    back k seen = record {
      own = seen.own ∙ sym (put.own k);
      places = λ c among. let before = subst (λ (hs : List Handle). Among c hs) (kept_children t0 t2 k put.keeps) among in
          seen.places c before ∙ sym (put.place c (not_root t0 h k c is root before));
    }

pub placed_paints : (t0 t2 t3 : Tree RenderObject) (h : Handle) → IsTree t0 → t0.root ≡ Some h → Placing t0 t2 h → PaintsAnew t2 t3 → PaintsAnew t0 t3
placed_paints t0 t2 t3 h is root put paints = record {
  laid = paints.laid;
  changed = paints.changed;
  rest = kept_again t0 t2 paints.laid put.keeps paints.rest;
  repaints = placed_repaints t0 t2 paints.laid h paints.changed is root put paints.repaints;
  marks = paints.marks;
  once = paints.once;
}

pub placed_few : (t0 t2 t3 : Tree RenderObject) (h : Handle) (before after : ℕ) → IsTree t0 → t0.root ≡ Some h → Placing t0 t2 h → PaintsFew t2 t3 before after → PaintsFew t0 t3 before after
placed_few t0 t2 t3 h before after is root put few =
    let paints = few.paints in
    record {
      paints = record {
        laid = paints.laid;
        changed = paints.changed;
        rest = kept_again t0 t2 paints.laid put.keeps paints.rest;
        repaints = placed_repaints t0 t2 paints.laid h paints.changed is root put paints.repaints;
        marks = paints.marks;
        once = paints.once;
      };
      few = few.few;
    }
