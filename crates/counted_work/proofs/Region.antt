-- What is painted in a frame is in its paint region.
use Rattle.std.proofs.Common.{◌≡◌, ◌≤◌, Bool, not, ◌&&◌, ◌||◌, [], ◌∷◌, ◌++◌, length, refl, sym, ap, ◌∙◌, subst, if◌then◌else◌}
use Rattle.std.specs.List.{list_any}
use Rattle.node_tree.specs.Forest.{Forest}
use Rattle.node_tree.specs.Forest.Forest.{none, tree}
use Rattle.layout_form.specs.Layout.{delegate_of}
use Rattle.plain_tree.specs.Render.{Render, Renders, no_renders, more_renders}
use Rattle.work_roles.specs.Place.{RegionPlace, at_root, below}
use Rattle.work_roles.specs.WorkRole.{is_repaint_boundary}
use Rattle.work_sets.specs.Before.{Before, frame_in, names_touched}
use Rattle.work_sets.specs.InTree.{standing}
use Rattle.work_sets.specs.Paint.{Asks, Shows, asks_paint, changes_painting, differs_since, group_asks, groups_below, groups_of, is_in_group, is_moved, is_other_frame, paint_region, some_of_group_asks}
use Rattle.kept_layers.specs.Steps.{painted_count}
use Rattle.paint_owner.specs.Finding.{root_flag}
use Rattle.render_tree.specs.Object.{RenderObject, object_look}
use Rattle.render_tree.specs.Plain.{renders_of}
use Rattle.build_walk.specs.Changing.{render_over}
use Rattle.counted_work.specs.Painted.{RootFlagsAsked}
use Rattle.counted_work.proofs.Asking.{root_painted_inside}
use Rattle.counted_work.proofs.Flagging.{differs_same}
use Rattle.counted_work.proofs.Relaid.{SameNodes, numbers_same}

pub same_trans : (f g l : Forest RenderObject) → SameNodes f g → SameNodes g l → SameNodes f l
same_trans none none none s t = tt
same_trans none none (tree k w under rest) s t = absurd t
same_trans none (tree k w under rest) l s t = absurd s
same_trans (tree h v kids more) none l s t = absurd s
same_trans (tree h v kids more) (tree k w under rest) none s t = absurd t
same_trans (tree h v kids more) (tree k w under rest) (tree j x below_x others) s t =
    (s.0 ∙ t.0, s.1 ∙ t.1, s.2 ∙ t.2, same_trans kids under below_x s.3 t.3, same_trans more rest others s.4 t.4)

module _ (before : Before) (shows : Shows) where
  abbrev asks : Asks
  asks = asks_paint before shows

  asks_same : (p q : RegionPlace) (v w : RenderObject) (kids under : Forest RenderObject) → p ≡ q → object_look v ≡ object_look w → v.number ≡ w.number → SameNodes kids under → asks p (render_over v kids) ≡ asks q (render_over w under)
  asks_same p q v w kids under place look number same =
      let differs : differs_since (standing before.tree v.number) p (render_over v kids) ≡ differs_since (standing before.tree w.number) q (render_over w under) =
      differs_same (standing before.tree v.number) p (render_over v kids) (render_over w under) look (numbers_same kids under same)
      ∙ (ap (λ x. differs_since (standing before.tree v.number) x (render_over w under)) place ∙ ap (λ n. differs_since (standing before.tree n) q (render_over w under)) number) in
      λ i. differs i || (names_touched (delegate_of (look i)) before.touched || (is_other_frame (frame_in shows.now (number i)) (before.frames (number i))
      || (changes_painting shows (number i) || list_any (is_moved shows) (numbers_same kids under same i))))

  some_same : (p q : RegionPlace) (f g : Forest RenderObject) → p ≡ q → SameNodes f g → some_of_group_asks asks p (renders_of f) ≡ some_of_group_asks asks q (renders_of g)
  some_same p q none none place s = refl
  some_same p q none (tree k w under rest) place s = absurd s
  some_same p q (tree h v kids more) none place s = absurd s
  some_same p q (tree h v kids more) (tree k w under rest) place s = λ i.
      (not (is_repaint_boundary (s.1 i))
      && (asks_same p q v w kids under place s.1 s.2 s.3 i || some_same (below p (object_look v)) (below q (object_look w)) kids under (λ j. below (place j) (s.1 j)) s.3 i))
      || some_same p q more rest place s.4 i

  group_same : (p q : RegionPlace) (v w : RenderObject) (kids under : Forest RenderObject) → p ≡ q → object_look v ≡ object_look w → v.number ≡ w.number → SameNodes kids under
      → group_asks asks p (render_over v kids) ≡ group_asks asks q (render_over w under)
  group_same p q v w kids under place look number s = λ i.
      asks_same p q v w kids under place look number s i || some_same (below p (object_look v)) (below q (object_look w)) kids under (λ j. below (place j) (look j)) s i

  below_same : (a b : Bool) (p q : RegionPlace) (f g : Forest RenderObject) → a ≡ b → p ≡ q → SameNodes f g → groups_below asks a p (renders_of f) ≡ groups_below asks b q (renders_of g)
  below_same a b p q none none above place s = refl
  below_same a b p q none (tree k w under rest) above place s = absurd s
  below_same a b p q (tree h v kids more) none above place s = absurd s
  below_same a b p q (tree h v kids more) (tree k w under rest) above place s =
      let own : is_in_group asks a p (render_over v kids) ≡ is_in_group asks b q (render_over w under) = λ i.
      if is_repaint_boundary (s.1 i) then group_same p q v w kids under place s.1 s.2 s.3 i else above i in
      let inner = below_same (is_in_group asks a p (render_over v kids)) (is_in_group asks b q (render_over w under)) (below p (object_look v)) (below q (object_look w)) kids under own (λ j. below (place j) (s.1 j)) s.3 in
      λ i. ((if own i then s.2 i ∷ [] else []) ++ inner i) ++ below_same a b p q more rest above place s.4 i

  groups_same : (v w : RenderObject) (kids under : Forest RenderObject) → object_look v ≡ object_look w → v.number ≡ w.number → SameNodes kids under → groups_of asks (render_over v kids) ≡ groups_of asks (render_over w under)
  groups_same v w kids under look number s =
      let own = group_same at_root at_root v w kids under refl look number s in
      let inner = below_same (group_asks asks at_root (render_over v kids)) (group_asks asks at_root (render_over w under)) (below at_root (object_look v)) (below at_root (object_look w)) kids under own (λ j. below at_root (look j)) s in
      λ i. (if own i then number i ∷ [] else []) ++ inner i

  same_top : (r s : Render) → more_renders r no_renders ≡ more_renders s no_renders → r ≡ s
  same_top r s e = cc

  pub painted_in_region : (f g : Forest RenderObject) (top : Render) → renders_of f ≡ more_renders top no_renders → SameNodes f g → RootFlagsAsked asks g → painted_count (root_flag g) g ≤ length (paint_region before shows top)
  painted_in_region none g top renders s flags = absurd (cc)
  painted_in_region (tree h v kids more) none top renders s flags = absurd s
  painted_in_region (tree h v kids none) (tree k w under none) top renders s flags =
      subst (λ xs. painted_count (root_flag (tree k w under none)) (tree k w under none) ≤ length xs)
      (sym (groups_same v w kids under s.1 s.2 s.3) ∙ ap (groups_of asks) (same_top (render_over v kids) top renders))
      (root_painted_inside asks k w under flags)
  painted_in_region (tree h v kids none) (tree k w under (tree j x below_x rest)) top renders s flags = absurd s.4
  painted_in_region (tree h v kids (tree j x below_x rest)) (tree k w under others) top renders s flags = absurd (two (render_over v kids) (render_over x below_x) (renders_of rest) renders)
    where
      two : (r s : Render) (rs : Renders) → more_renders r (more_renders s rs) ≡ more_renders top no_renders → ⊥
      two r s rs e = cc
