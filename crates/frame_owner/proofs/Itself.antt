-- Render nodes are brought to those that they are: nothing changes.
use Rattle.std.proofs.Common.{◌≡◌, Bool, true, false, not, ◌||◌, ◌&&◌, Option, Some, None, IfSome, option_map, [], refl, ap, sym, ◌∙◌, subst, arith, true≢false}
use Rattle.fx_handles.specs.declared.Handle.{Handle}
use Rattle.node_tree.specs.Forest.{TreeNode, Forest}
use Rattle.node_tree.specs.Forest.Forest.{none, tree}
use Rattle.node_tree.specs.Tree.{Tree, Is, node_at}
use Rattle.node_tree.proofs.EditLemmas.{keeps_self}
use Rattle.plain_tree.specs.Render.{Render, no_renders, more_renders}
use Rattle.tree_marks.specs.Marking.{Above, Marking, IsMarking, at_top, within, is_boundary}
use Rattle.tree_marks.specs.Marks.{listed, has_listed, some_climbs, sweep}
use Rattle.render_tree.specs.Marked.{SetsMarks}
use Rattle.render_tree.specs.Marks.{layout_marks, paint_marks}
use Rattle.render_tree.specs.Object.{RenderObject}
use Rattle.render_tree.specs.Plain.{renders_of, root_tree}
use Rattle.screen_owner.specs.Standing.{StandsAlone}
use Rattle.screen_owner.specs.Steps.{Brings}
use Rattle.frame_owner.specs.Redrawing.{forest_after, CanRedraw, TakesWidgets}
use Rattle.frame_owner.proofs.Taken.{node_after, HasChanged}
use Rattle.frame_owner.proofs.Taking.{takes_widgets}

-- ---- no marks

unlisted : (f : Forest RenderObject) → has_listed [] f ≡ false
unlisted none = refl
unlisted (tree h o kids rest) = ap (λ (b : Bool). b || has_listed [] rest) (unlisted kids) ∙ unlisted rest

module _ (m : Marking RenderObject) (is : IsMarking m) where
  no_climbs : (p : Above) (f : Forest RenderObject) → some_climbs m [] p f ≡ false
  no_climbs p none = refl
  no_climbs p (tree h o kids rest) = ap (λ (b : Bool). (b && not (is_boundary m p o)) || some_climbs m [] p rest) (no_climbs (within m p o) kids) ∙ no_climbs p rest

  unswept : (p : Above) (f : Forest RenderObject) → sweep m true [] p f ≡ f
  unswept p none = refl
  unswept p (tree h o kids rest) =
      let a : ((some_climbs m [] (within m p o) kids) && m.takes p.top o) ≡ false = ap (λ (b : Bool). b && m.takes p.top o) (no_climbs (within m p o) kids) in
      let b : (has_listed [] kids || false) ≡ false = ap (λ (x : Bool). x || false) (unlisted kids) in
      let value : m.marked ((some_climbs m [] (within m p o) kids) && m.takes p.top o) (has_listed [] kids || false) o ≡ o =
      ap (λ (x : Bool). m.marked x (has_listed [] kids || false) o) a ∙ (ap (λ (x : Bool). m.marked false x o) b ∙ is.nothing o) in
      λ i. tree h (value i) (unswept (within m p o) kids i) (unswept p rest i)

  no_marks : (t : Tree RenderObject) → SetsMarks m true [] t t
  no_marks t = record {
    plain = λ f g. subst (Is t) (sym (unswept at_top f)) g;
    only = λ k n at. (false, false, at ∙ ap (λ (o : RenderObject). Some (record n { value = o })) (sym (is.nothing n.value)));
    absent = λ k e. e;
    root = refl;
    inactive = refl;
    handles = keeps_self t.nodes;
  }

-- ---- no changes

unchanged : (t : Tree RenderObject) (f : Forest RenderObject) → forest_after t [] f ≡ f
unchanged t none = refl
unchanged t (tree h o kids rest) = λ i. tree h o (unchanged t kids i) (unchanged t rest i)

same_node : (k : Handle) (x : Option (TreeNode RenderObject)) → x ≡ option_map (node_after [] k) x
same_node k None = refl
same_node k (Some n) = refl

-- what is the root stays it
root_stays : (o : Option Handle) → IfSome o (λ r. listed r [] ≡ false → o ≡ Some r)
root_stays None = tt
root_stays (Some r) = λ off. refl

module _ (layout : IsMarking layout_marks) (paint : IsMarking paint_marks) (t : Tree RenderObject) (stands : StandsAlone t) (top : Render) (renders : renders_of (root_tree t) ≡ more_renders top no_renders) where
  can : CanRedraw t []
  can = record { each = λ k d less. absurd (omega (arith, less)); orders = λ k d less. absurd (omega (arith, less)); once = λ h. omega arith }

  stays : HasChanged [] t t
  stays = record { nodes = λ k. same_node k (node_at t k); handles = keeps_self t.nodes; root = refl; inactive = refl }

  takes : TakesWidgets [] t t
  takes =
      takes_widgets [] t t t t stands can stays (subst (Is t) (sym (unchanged t stands.tree.0)) stands.tree.1) [] [] (record { own = tt; told = tt; top = root_stays t.root; caused = λ h on. absurd (true≢false (sym on)) })
      (record { own = tt; top = root_stays t.root; caused = λ h on. absurd (true≢false (sym on)) }) (no_marks layout_marks layout t) (no_marks paint_marks paint t)

  -- a frame of them brings nothing
  pub brings_itself : Brings t t top
  brings_itself = takes.brings top (ap renders_of (unchanged t (root_tree t)) ∙ renders)
