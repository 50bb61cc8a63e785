-- What stood in the last frame's tree with a number, with all that was below it.
use Rattle.std.proofs.Common.{◌≡◌, ℕ, Bool, true, false, eqb, cond, Option, Some, None, option_map, refl, sym, ap, ◌∙◌}
use Rattle.std.proofs.lemmas.Bool.{false≢true}
use Rattle.std.specs.Cmp.{unsigned_Decides}
use Rattle.std.specs.Option.{option_or}
use Rattle.fx_handles.specs.declared.Handle.{Handle}
use Rattle.node_tree.specs.Forest.{TreeNode, Forest, tops, Stands}
use Rattle.node_tree.specs.Forest.Forest.{none, tree}
use Rattle.node_tree.specs.Tree.{Tree, node_at}
use Rattle.work_roles.specs.Place.{RegionPlace, at_root, below}
use Rattle.work_sets.specs.Before.{Before, Frames}
use Rattle.work_sets.specs.InTree.{Standing, standing, standing_at, standing_in}
use Rattle.work_sets.proofs.Found.{FindsAll}
use Rattle.render_tree.specs.Object.{RenderObject, object_look}
use Rattle.render_tree.specs.Plain.{renders_of}
use Rattle.build_walk.specs.Changing.{render_over}
use Rattle.counted_work.specs.Caused.{FramesAgree}
use Rattle.counted_phases.specs.Framed.{HaveFrames}
use Rattle.counted_phases.specs.Left.{AreStanding}
use Rattle.counted_frames.proofs.Planned.{some_is}

module _ (old : Tree RenderObject) (top : Handle) where
  -- only the root stands at the top
  pub record WasNode (wanted : ℕ) (st : Standing) : Type 0 where
    pub handle : Handle
    pub parent : Option Handle
    pub object : RenderObject
    pub under : Forest RenderObject
    pub at : node_at old handle ≡ Some (record { parent = parent; children = tops under; value = object })
    pub stands : Stands (node_at old) (Some handle) under
    pub node : st.node ≡ render_over object under
    pub number : object.number ≡ wanted
    pub high : st.place.top ≡ true → handle ≡ top

  this_was : (wanted : ℕ) (p : RegionPlace) (q : Option Handle) (h : Handle) (o : RenderObject) (kids : Forest RenderObject) (st : Standing) (b : Bool) (other : Option Standing)
      → eqb o.number wanted ≡ b → node_at old h ≡ Some (record { parent = q; children = tops kids; value = o }) → Stands (node_at old) (Some h) kids → (p.top ≡ true → h ≡ top)
      → (other ≡ Some st → WasNode wanted st) → cond b (Some (record { place = p; node = render_over o kids })) other ≡ Some st → WasNode wanted st
  this_was wanted p q h o kids st true other is at stands high go e =
      let same : record { place = p; node = render_over o kids } ≡ st = some_is (record { place = p; node = render_over o kids }) st e in
      record {
        handle = h;
        parent = q;
        object = o;
        under = kids;
        at = at;
        stands = stands;
        node = sym (ap (λ (x : Standing). x.node) same);
        number = (unsigned_Decides o.number wanted).0 is;
        high = λ t. high (ap (λ (x : Standing). x.place.top) same ∙ t);
      }
  this_was wanted p q h o kids st false other is at stands high go e = go e

  either_was : (wanted : ℕ) (st : Standing) (a b : Option Standing) → (a ≡ Some st → WasNode wanted st) → (b ≡ Some st → WasNode wanted st) → option_or a b ≡ Some st → WasNode wanted st
  either_was wanted st (Some x) b f g e = f e
  either_was wanted st None b f g e = g e

  none_was : {B : Type 0} (st : Standing) → None ≡ Some st → B
  none_was st e = absurd (cc)

  was_in : (wanted : ℕ) (p : RegionPlace) (q : Option Handle) (f : Forest RenderObject) (st : Standing) → p.top ≡ false → Stands (node_at old) q f → standing_in wanted p (renders_of f) ≡ Some st → WasNode wanted st
  was_in wanted p q none st low s e = none_was st e
  was_in wanted p q (tree h o kids rest) st low s e =
      either_was wanted st (standing_at wanted p (render_over o kids)) (standing_in wanted p (renders_of rest))
      (λ here. this_was wanted p q h o kids st (eqb o.number wanted) (standing_in wanted (below p (object_look o)) (renders_of kids)) refl s.0 s.1 (λ t. absurd (false≢true (sym low ∙ t)))
      (λ under. was_in wanted (below p (object_look o)) (Some h) kids st refl s.1 under) here)
      (λ later. was_in wanted p q rest st low s.2 later) e

  pub root_was : (wanted : ℕ) (o : RenderObject) (kids : Forest RenderObject) (st : Standing) → Stands (node_at old) None (tree top o kids none) → standing_at wanted at_root (render_over o kids) ≡ Some st → WasNode wanted st
  root_was wanted o kids st s e =
      this_was wanted at_root None top o kids st (eqb o.number wanted) (standing_in wanted (below at_root (object_look o)) (renders_of kids)) refl s.0 s.1 (λ t. refl)
      (λ under. was_in wanted (below at_root (object_look o)) (Some top) kids st refl s.1 under) e

-- the frames of what stood
pub have_frames : (frames : Frames) (t : Tree RenderObject) (q : Option Handle) (f : Forest RenderObject) → FramesAgree frames t → Stands (node_at t) q f → HaveFrames frames f
have_frames frames t q none agree s = tt
have_frames frames t q (tree h o kids rest) agree s =
    (agree h o (ap (option_map (λ (n : TreeNode RenderObject). n.value)) s.0), have_frames frames t (Some h) kids agree s.1, have_frames frames t q rest agree s.2)

-- where nodes stand
pub finds_standing : (before : Before) (p : RegionPlace) (f : Forest RenderObject) → FindsAll (standing before.tree) p (renders_of f) → AreStanding before p f
finds_standing before p none finds = tt
finds_standing before p (tree h o kids rest) finds = (finds.0.0, finds_standing before (below p (object_look o)) kids finds.0.1, finds_standing before p rest finds.1)
