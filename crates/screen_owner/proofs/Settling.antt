-- A tree whose frame was painted: what it has of flags and marks is nothing that is shown, and nothing of which a build knows.
use Rattle.std.proofs.Common.{◌≡◌, ap, refl, sym, subst, ◌∙◌, ℕ, ◌+◌, ◌≤◌, Bool, true, false, cond, not, ◌&&◌, ◌||◌, Option, Some, None, option_map, []}
use Rattle.fx_handles.specs.declared.Handle.{Handle}
use Rattle.node_tree.specs.Forest.{TreeNode, Forest, Stands, In, weigh}
use Rattle.node_tree.specs.Forest.Forest.{none, tree}
use Rattle.node_tree.specs.Tree.{Tree, Is, IsTree, node_at}
use Rattle.node_tree.proofs.ForestLemmas.{find}
use Rattle.node_tree.proofs.TreeLemmas.{is_node}
use Rattle.plain_tree.specs.Render.{render, Renders, more_renders}
use Rattle.tree_marks.specs.Marking.{Above, at_top, within}
use Rattle.tree_marks.specs.Closed.{any_mark}
use Rattle.tree_marks.proofs.MarkSteps.{node_stands}
use Rattle.tree_marks.proofs.Stores.{AllNodes, spot}
use Rattle.render_tree.specs.Marks.{paint_marks}
use Rattle.render_tree.specs.Object.{RenderObject, object_look}
use Rattle.render_tree.specs.Plain.{lazy_children, renders_of, root_tree}
use Rattle.render_readers.specs.Shown.{shown_laid}
use Rattle.render_sync.specs.Numbering.{number_at}
use Rattle.kept_layers.specs.Group.{opens}
use Rattle.paint_owner.specs.Settled.{Settles, is_entered, settled_node, settled, first_settled}
use Rattle.screen_owner.proofs.Showing.{part, parts, same_shown, root_forest}

-- a node with other flags and marks
same_if : {A : Type 0} (read : RenderObject → A) (b : Bool) (x o : RenderObject) → read x ≡ read o → read (cond b x o) ≡ read o
same_if read true x o e = e
same_if read false x o e = refl

pub same_by : {A : Type 0} (read : RenderObject → A) (inside : Forest RenderObject) (o : RenderObject)
    → ((below : Bool) → read (record o { needs_paint = false; paint_below = below }) ≡ read o) → read (settled_node inside o) ≡ read o
same_by read inside o steady =
    same_if read o.shown (record o { needs_paint = false; paint_below = o.paint_below && (not (opens o) || any_mark paint_marks inside) }) o
    (steady (o.paint_below && (not (opens o) || any_mark paint_marks inside)))

pub either_way : {A : Type 0} (read : Forest RenderObject → A) (b : Bool) (f g : Forest RenderObject) → read f ≡ read g → read (cond b f g) ≡ read g
either_way read true f g e = e
either_way read false f g e = refl

-- ---- what is shown

parts_settled : (f : Forest RenderObject) → parts (settled f) ≡ parts f
parts_settled none = refl
parts_settled (tree h o below rest) =
    λ i. tree h (same_by part (settled below) o (λ b. refl) i) (either_way parts (is_entered o) (settled below) below (parts_settled below) i) (parts_settled rest i)

first_parts : (f : Forest RenderObject) → parts (first_settled f) ≡ parts f
first_parts none = refl
first_parts (tree h o below rest) =
    λ i. tree h (same_by part (settled below) o (λ b. refl) i) (either_way parts (is_entered o) (settled below) below (parts_settled below) i) (parts rest)

module _ (old new : Tree RenderObject) (alone : old.inactive ≡ []) (is : IsTree old) (settles : Settles old new) where
  new_tree : root_tree new ≡ first_settled is.0
  new_tree = root_forest new (first_settled is.0) (settles.inactive ∙ alone) (settles.plain is.0 is.1)

  old_tree : root_tree old ≡ is.0
  old_tree = root_forest old is.0 alone is.1

  pub settled_parts : parts (root_tree new) ≡ parts (root_tree old)
  settled_parts = ap parts new_tree ∙ (first_parts is.0 ∙ sym (ap parts old_tree))

  pub settled_shown : shown_laid new ≡ shown_laid old
  settled_shown = same_shown old new settled_parts

-- ---- the render nodes

abbrev drawn : RenderObject → Renders → Renders → Renders
drawn o kids rest = more_renders (render o.number (object_look o) o.parent_data o.scroll (lazy_children o) kids) rest

renders_settled : (f : Forest RenderObject) → renders_of (settled f) ≡ renders_of f
renders_settled none = refl
renders_settled (tree h o below rest) =
    λ i. same_by drawn (settled below) o (λ b. refl) i (either_way renders_of (is_entered o) (settled below) below (renders_settled below) i) (renders_settled rest i)

first_renders : (f : Forest RenderObject) → renders_of (first_settled f) ≡ renders_of f
first_renders none = refl
first_renders (tree h o below rest) =
    λ i. same_by drawn (settled below) o (λ b. refl) i (either_way renders_of (is_entered o) (settled below) below (renders_settled below) i) (renders_of rest)

pub settled_renders : (old new : Tree RenderObject) → old.inactive ≡ [] → IsTree old → Settles old new → renders_of (root_tree new) ≡ renders_of (root_tree old)
settled_renders old new alone is settles = ap renders_of (new_tree old new alone is settles) ∙ (first_renders is.0 ∙ sym (ap renders_of (old_tree old new alone is settles)))

-- ---- the numbers

module _ (at : Handle → Option (TreeNode RenderObject)) where
  abbrev Numbered : Above → Handle → RenderObject → Forest RenderObject → Type 0
  Numbered p k o kids = option_map (λ (n : TreeNode RenderObject). n.value.number) (at k) ≡ Some o.number

  plain_numbers : (p : Above) (q : Option Handle) (f : Forest RenderObject) → Stands at q f → AllNodes paint_marks at Numbered p f
  plain_numbers p q none stands = tt
  plain_numbers p q (tree h o below rest) stands = (
    ap (option_map (λ (n : TreeNode RenderObject). n.value.number)) stands.0,
    plain_numbers (within paint_marks p o) (Some h) below stands.1,
    plain_numbers p q rest stands.2,
  )

  by_entered : (b : Bool) (p : Above) (q : Option Handle) (f g : Forest RenderObject) → (Stands at q f → AllNodes paint_marks at Numbered p g) → Stands at q (cond b f g) → AllNodes paint_marks at Numbered p g
  by_entered true p q f g inside stands = inside stands
  by_entered false p q f g inside stands = plain_numbers p q g stands

  settled_numbers : (p : Above) (q : Option Handle) (f : Forest RenderObject) → Stands at q (settled f) → AllNodes paint_marks at Numbered p f
  settled_numbers p q none stands = tt
  settled_numbers p q (tree h o below rest) stands = (
    ap (option_map (λ (n : TreeNode RenderObject). n.value.number)) stands.0 ∙ ap Some (same_by (λ (x : RenderObject). x.number) (settled below) o (λ b. refl)),
    by_entered (is_entered o) (within paint_marks p o) (Some h) (settled below) below (settled_numbers (within paint_marks p o) (Some h) below) stands.1,
    settled_numbers p q rest stands.2,
  )

  first_numbers : (p : Above) (q : Option Handle) (f : Forest RenderObject) → Stands at q (first_settled f) → AllNodes paint_marks at Numbered p f
  first_numbers p q none stands = tt
  first_numbers p q (tree h o below rest) stands = (
    ap (option_map (λ (n : TreeNode RenderObject). n.value.number)) stands.0 ∙ ap Some (same_by (λ (x : RenderObject). x.number) (settled below) o (λ b. refl)),
    by_entered (is_entered o) (within paint_marks p o) (Some h) (settled below) below (settled_numbers (within paint_marks p o) (Some h) below) stands.1,
    plain_numbers p q rest stands.2,
  )

weigh_either : (u : Handle → ℕ) (b : Bool) (f g : Forest RenderObject) → weigh u f ≡ weigh u g → weigh u (cond b f g) ≡ weigh u g
weigh_either u b f g e = either_way (weigh u) b f g e

weigh_settled : (u : Handle → ℕ) (f : Forest RenderObject) → weigh u (settled f) ≡ weigh u f
weigh_settled u none = refl
weigh_settled u (tree h o below rest) =
    let inside = weigh_either u (is_entered o) (settled below) below (weigh_settled u below) in
    let after = weigh_settled u rest in
    λ i. u h + inside i + after i

weigh_first : (u : Handle → ℕ) (f : Forest RenderObject) → weigh u (first_settled f) ≡ weigh u f
weigh_first u none = refl
weigh_first u (tree h o below rest) =
    let inside = weigh_either u (is_entered o) (settled below) below (weigh_settled u below) in
    λ i. u h + inside i + weigh u rest

pub same_numbers_settled : (old new : Tree RenderObject) → IsTree old → Settles old new → (k : Handle) → number_at new k ≡ number_at old k
same_numbers_settled old new is settles k = by_node (node_at old k) refl
  where
    now : Is new (first_settled is.0)
    now = settles.plain is.0 is.1

    read : (t : Tree RenderObject) → option_map (λ (n : TreeNode RenderObject). n.value.number) (node_at t k) ≡ number_at t k
    read t = fused (node_at t k)
      where
        fused : (x : Option (TreeNode RenderObject)) → option_map (λ (n : TreeNode RenderObject). n.value.number) x ≡ option_map (λ (o : RenderObject). o.number) (option_map (λ (n : TreeNode RenderObject). n.value) x)
        fused None = refl
        fused (Some n) = refl

    gone : node_at old k ≡ None → (y : Option (TreeNode RenderObject)) → node_at new k ≡ y → node_at new k ≡ None
    gone e None f = f
    gone e (Some m) f =
        let inside : In k is.0 = subst (λ (n : ℕ). 1 ≤ n) (weigh_first _ is.0) (now.whole k (is_node (node_at new k) m f)) in
        let found = find (node_at old) None is.0 k is.1.stands inside (is.1.distinct k) in
        absurd (let both = sym e ∙ found.is in none_some _ both)
      where
        none_some : (n : TreeNode RenderObject) → None ≡ Some n → ⊥
        none_some n e = cc

    by_node : (x : Option (TreeNode RenderObject)) → node_at old k ≡ x → number_at new k ≡ number_at old k
    by_node None e =
        sym (read new) ∙ (ap (option_map (λ (n : TreeNode RenderObject). n.value.number)) (gone e (node_at new k) refl ∙ sym e) ∙ read old)
    by_node (Some n) e =
        let there = spot paint_marks (node_at old) (Numbered (node_at new)) None at_top is.0 k n is.1.stands (first_numbers (node_at new) at_top None is.0 now.stands) e
        (node_stands old is.0 k is.1 (is_node (node_at old k) n e)) in
        sym (read new) ∙ (there.holds ∙ (sym (ap (option_map (λ (m : TreeNode RenderObject). m.value.number)) e) ∙ read old))
