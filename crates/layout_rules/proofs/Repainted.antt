-- Marks for painting, set after a layout: to a layout nothing changes.
use Rattle.std.proofs.Common.{◌≡◌, ap, refl, sym, ◌∙◌, subst, ℕ, ◌+◌, ◌≤◌, Bool, true, Option, Some, None, option_map, List, [], ◌++◌, get_or, length, arith}
use Rattle.std.specs.List.{All}
use Rattle.fx_handles.specs.declared.Handle.{Handle}
use Rattle.fx_handles.specs.Handle.{times, Among}
use Rattle.node_tree.specs.Forest.{TreeNode, Forest, In, Stands}
use Rattle.node_tree.specs.Forest.Forest.{none, tree}
use Rattle.node_tree.specs.Tree.{Tree, IsNode, IsTree, node_at, parent_at, subtree_at}
use Rattle.node_tree.proofs.Children.{among_at}
use Rattle.node_tree.proofs.ForestLemmas.{Stands-same}
use Rattle.render_tree.specs.Marked.{SetsMarks}
use Rattle.render_tree.specs.Marks.{paint_marks}
use Rattle.render_tree.specs.Object.{RenderObject}
use Rattle.layout_walk.specs.Node.{LayoutNode}
use Rattle.layout_walk.specs.Rule.{LayoutParts}
use Rattle.layout_rules.specs.declared.duties.Duty.{Duty}
use Rattle.layout_rules.specs.Nodes.{seen_node, seen_at, SeenAt}
use Rattle.layout_rules.specs.Painting.{IsUnder, Repaints, Leaves, PaintsAnew, PaintsFew}
use Rattle.layout_rules.specs.Serving.{Serves}
use Rattle.layout_rules.specs.Turns.{Turns}
use Rattle.layout_rules.proofs.Apart.{top_apart}
use Rattle.layout_rules.proofs.Repainting.{live_kept}
use Rattle.layout_rules.proofs.Turning.{keeps_again, parent_seen}

pub all_live : (t : Tree RenderObject) (hs : List Handle) → ((k : Handle) → Among k hs → IsNode t k) → All (IsNode t) hs
all_live t hs live = λ k d less. live (get_or hs k d) (among_at hs k d less)

module _ (also : Bool) (hs : List Handle) (mid new : Tree RenderObject) (sets : SetsMarks paint_marks also hs mid new) where
  pub seen_marked : (k : Handle) → seen_at new k ≡ seen_at mid k
  seen_marked k = go (node_at mid k) refl
    where
      go : (m : Option (TreeNode RenderObject)) → node_at mid k ≡ m → seen_at new k ≡ seen_at mid k
      go None e = ap (λ (m : Option (TreeNode RenderObject)). option_map seen_node m) (sets.absent k e ∙ sym e)
      go (Some n) e =
          let now = sets.only k n e in
          ap (λ (m : Option (TreeNode RenderObject)). option_map seen_node m) now.2 ∙ sym (ap (λ (m : Option (TreeNode RenderObject)). option_map seen_node m) e)

  parent_marked : (k : Handle) → parent_at new k ≡ parent_at mid k
  parent_marked k = parent_seen (node_at new k) (node_at mid k) (seen_marked k)

  pub stands_marked : (h : Handle) (s : Forest LayoutNode) → SeenAt mid h s → SeenAt new h s
  stands_marked h s seen = record {
    top = seen.top;
    stands = subst (λ (p : Option Handle). Stands (seen_at new) p s) (sym (parent_marked h))
        (Stands-same (seen_at mid) (seen_at new) (parent_at mid h) s seen.stands (λ k inside. seen_marked k));
    distinct = seen.distinct;
  }

  pub turns_marked : (old : Tree RenderObject) (h : Handle) (s after : Forest LayoutNode) → Turns old mid h s after → Turns old new h s after
  turns_marked old h s after turns = record {
    stands = stands_marked h after turns.stands;
    parent = parent_marked h ∙ turns.parent;
    others = λ k out. seen_marked k ∙ turns.others k out;
    root = sets.root ∙ turns.root;
    inactive = sets.inactive ∙ turns.inactive;
    handles = keeps_again old mid new turns.handles sets.handles;
  }

  pub serves_marked : (P : LayoutParts) (outer : Bool) (duty : Duty) (old : Tree RenderObject) (h : Handle) (before after : ℕ)
      → Serves P outer duty old mid h before after → Serves P outer duty old new h before after
  serves_marked P outer duty old h before after serves = record {
    value = serves.value;
    kids = serves.kids;
    good = serves.good;
    value_now = serves.value_now;
    kids_now = serves.kids_now;
    turns = turns_marked old h _ _ serves.turns;
    does = serves.does;
    ticks = serves.ticks;
  }

news_are : (old mid : Tree RenderObject) (h : Handle) (before after hs : List Handle) (leaves : Leaves old mid h before after) → before ≡ [] → hs ≡ after → leaves.news ≡ hs
news_are old mid h before after hs leaves empty is = sym (is ∙ leaves.added ∙ ap (λ (xs : List Handle). xs ++ leaves.news) empty)

pub marks_live : (old mid : Tree RenderObject) (h : Handle) (before after hs : List Handle) → Leaves old mid h before after → before ≡ [] → hs ≡ after → All (IsNode mid) hs
marks_live old mid h before after hs leaves empty is =
    subst (λ (xs : List Handle). All (IsNode mid) xs) (news_are old mid h before after hs leaves empty is)
    (all_live mid leaves.news (λ k among. live_kept old mid k leaves.rest (leaves.repaints.live k among)))

pub painted_anew : (old mid new : Tree RenderObject) (h : Handle) (before after hs : List Handle) → Leaves old mid h before after → before ≡ [] → hs ≡ after
    → SetsMarks paint_marks true hs mid new → ((k : Handle) → times k hs ≤ 1) → PaintsAnew old new
painted_anew old mid new h before after hs leaves empty is sets once = record {
  laid = mid;
  changed = hs;
  rest = leaves.rest;
  repaints = subst (λ (xs : List Handle). Repaints old mid xs) (news_are old mid h before after hs leaves empty is) leaves.repaints;
  marks = sets;
  once = once;
}

-- where a walk has listed no more than it has ticked
pub painted_few : (old mid new : Tree RenderObject) (h : Handle) (before after hs : List Handle) (start stop : ℕ) → Leaves old mid h before after → before ≡ [] → hs ≡ after
    → SetsMarks paint_marks true hs mid new → ((k : Handle) → times k hs ≤ 1) → length after + start ≤ length before + stop → PaintsFew old new start stop
painted_few old mid new h before after hs start stop leaves empty is sets once few = record {
  paints = record {
    laid = mid;
    changed = hs;
    rest = leaves.rest;
    repaints = subst (λ (xs : List Handle). Repaints old mid xs) (news_are old mid h before after hs leaves empty is) leaves.repaints;
    marks = sets;
    once = once;
  };
  few = let none_before = ap (λ (xs : List Handle). length xs) empty in let all = ap (λ (xs : List Handle). length xs) is in omega (arith, none_before, all, few);
}

pub laid_apart : (old mid new : Tree RenderObject) (h : Handle) (before after hs : List Handle) → IsTree old → IsTree mid → (v : LayoutNode) (kids now : Forest LayoutNode)
    → SeenAt old h (tree h v kids none) → Turns old mid h (tree h v kids none) now → Leaves old mid h before after → before ≡ [] → hs ≡ after → SetsMarks paint_marks true hs mid new
    → parent_at old h ≡ None → (k : Handle) → (In k (subtree_at old h) → ⊥) → node_at new k ≡ node_at old k
laid_apart old mid new h before after hs is0 is1 v kids now seen turns leaves empty is sets =
    top_apart old mid new h v kids now hs is0 is1 seen turns leaves.rest
    (subst (λ (xs : List Handle). (c : Handle) → Among c xs → (n : ℕ) × IsUnder old n c h) (news_are old mid h before after hs leaves empty is) leaves.under) sets
