-- The nodes that a plan changes for layout are changed by the words of the work sets, or a changed node reaches them.
use Rattle.std.proofs.Common.{◌≡◌, ℕ, Bool, true, false, not, eqb, cond, ◌&&◌, ◌||◌, Option, Some, None, option_map, List, ◌∷◌, refl, sym, ap, ◌∙◌, subst, inl, inr, ◌⊎◌, Decides}
use Rattle.std.proofs.lemmas.Bool.{cases_Bool, and_parts, and_from, or_parts, or_left, or_right, false≢true, true≢false}
use Rattle.std.specs.Bool.{beq}
use Rattle.std.specs.Cmp.{booleans_Decides, unsigned_Decides}
use Rattle.std.specs.Option.{option_or}
use lib.Pointwise.{pointwise}
use Rattle.fx_geom.specs.Bounds.{is_tight}
use Rattle.fx_geom.specs.declared.boxes.Bounds.{Bounds}
use Rattle.fx_handles.specs.declared.Handle.{Handle}
use Rattle.node_tree.specs.Forest.{TreeNode, Forest, tops, Stands}
use Rattle.node_tree.specs.Forest.Forest.{none, tree}
use Rattle.node_tree.specs.Tree.{Tree, node_at, children_at, children_of as children_in}
use Rattle.widget_model.specs.Look.{Look}
use Rattle.plain_tree.specs.declared.laid.Frame.{Frame}
use Rattle.plain_tree.specs.declared.laid.Frame.TheVariants.{Boxed, Sliver}
use Rattle.plain_tree.specs.declared.render.ParentData.{ParentData}
use Rattle.plain_tree.specs.Render.{Render, render, Renders, no_renders, more_renders}
use Rattle.tree_marks.proofs.Closing.{not-false}
use Rattle.work_roles.proofs.Blanks.{same_role}
use Rattle.work_roles.specs.ForLayout.{for_layout}
use Rattle.work_roles.specs.Place.{RegionPlace, at_root, below, is_relayout_boundary}
use Rattle.work_roles.specs.WorkRole.{WorkRole, measures, hides, scrolls, loads, fences, plain, work_role_of, is_viewport, is_viewport_role, is_offstage, is_offstage_role}
use Rattle.work_sets.specs.Before.{Before, Frames, bounds_in, is_touched}
use Rattle.work_sets.specs.InTree.{Standing, standing, standing_at, standing_in, look_of}
use Rattle.work_sets.specs.Layout.{is_firm_in, is_told_same, is_same_for_layout, is_changed_root, is_changed_since, is_changed, list_below, is_child_same, frame_judge}
use Rattle.work_sets.specs.Members.{is_same_look}
use Rattle.work_sets.specs.Region.{Judge, is_reached, reaches_out, some_reaches_out}
use Rattle.work_sets.proofs.Found.{Finds, FindsAll}
use Rattle.render_tree.specs.Marks.{LayoutOwn, layout_own, has_say}
use Rattle.render_tree.specs.Object.{RenderObject, object_look, bounds_in as object_bounds}
use Rattle.render_tree.specs.Plain.{lazy_children, renders_of}
use Rattle.render_tree.specs.Tree.{object_at}
use Rattle.build_walk.specs.Changing.{AreNumbered, TellsApart, AreStored, StoodBelow, AreSizedSame, ChangesForLayout, object_number, render_over}
use Rattle.build_walk.proofs.Changing.{for_layout_decided}
use Rattle.build_walk.proofs.Finding.{changed_for_layout}
use Rattle.counted_work.specs.Windows.{AllWindowsStay}
use Rattle.counted_work.proofs.Twins.{viewport_by, AreCarried}

-- ---- what stood in the tree

module _ (t : Tree RenderObject) where
  stored_tops : (q : Option Handle) (f : Forest RenderObject) → Stands (node_at t) q f → AreStored t f
  stored_tops q none s = tt
  stored_tops q (tree h o kids rest) s = (ap (option_map (λ (n : TreeNode RenderObject). n.value)) s.0, stored_tops q rest s.2)

  -- what stood with a number
  pub record StoodWith (wanted : ℕ) (st : Standing) : Type 0 where
    pub handle : Handle
    pub object : RenderObject
    pub under : Forest RenderObject
    pub node : st.node ≡ render_over object under
    pub number : object.number ≡ wanted
    pub stored : object_at t handle ≡ Some object
    pub stood : StoodBelow t handle under

  some_is : {A : Type 0} (x y : A) → Some x ≡ Some y → x ≡ y
  some_is x y e = cc

  this_stood : (wanted : ℕ) (p : RegionPlace) (q : Option Handle) (h : Handle) (o : RenderObject) (kids : Forest RenderObject) (st : Standing) (b : Bool) (other : Option Standing)
      → eqb o.number wanted ≡ b → node_at t h ≡ Some (record { parent = q; children = tops kids; value = o }) → Stands (node_at t) (Some h) kids
      → (other ≡ Some st → StoodWith wanted st) → cond b (Some (record { place = p; node = render_over o kids })) other ≡ Some st → StoodWith wanted st
  this_stood wanted p q h o kids st true other is at stands go e = record {
    handle = h;
    object = o;
    under = kids;
    node = sym (ap (λ (x : Standing). x.node) (some_is (record { place = p; node = render_over o kids }) st e));
    number = (unsigned_Decides o.number wanted).0 is;
    stored = ap (option_map (λ (n : TreeNode RenderObject). n.value)) at;
    stood = record { list = sym (ap children_in at); stored = stored_tops (Some h) kids stands };
  }
  this_stood wanted p q h o kids st false other is at stands go e = go e

  either_stood : (wanted : ℕ) (st : Standing) (a b : Option Standing) → (a ≡ Some st → StoodWith wanted st) → (b ≡ Some st → StoodWith wanted st) → option_or a b ≡ Some st → StoodWith wanted st
  either_stood wanted st (Some x) b f g e = f e
  either_stood wanted st None b f g e = g e

  stood_in : (wanted : ℕ) (p : RegionPlace) (q : Option Handle) (f : Forest RenderObject) (st : Standing) → Stands (node_at t) q f → standing_in wanted p (renders_of f) ≡ Some st → StoodWith wanted st
  stood_in wanted p q none st s e = cc
  stood_in wanted p q (tree h o kids rest) st s e =
      either_stood wanted st (standing_at wanted p (render_over o kids)) (standing_in wanted p (renders_of rest))
      (λ this. this_stood wanted p q h o kids st (eqb o.number wanted) (standing_in wanted (below p (object_look o)) (renders_of kids)) refl s.0 s.1
      (λ under. stood_in wanted (below p (object_look o)) (Some h) kids st s.1 under) this)
      (λ later. stood_in wanted p q rest st s.2 later) e

  pub root_stood : (wanted : ℕ) (h : Handle) (o : RenderObject) (kids : Forest RenderObject) (st : Standing) → Stands (node_at t) None (tree h o kids none) → standing_at wanted at_root (render_over o kids) ≡ Some st → StoodWith wanted st
  root_stood wanted h o kids st s e =
      this_stood wanted at_root None h o kids st (eqb o.number wanted) (standing_in wanted (below at_root (object_look o)) (renders_of kids)) refl s.0 s.1
      (λ under. stood_in wanted (below at_root (object_look o)) (Some h) kids st s.1 under) e

-- ---- what stands below what was found

module _ (S : ℕ → Option Standing) where
  one_standing : (x y : Standing) → Some x ≡ Some y → x ≡ y
  one_standing x y e = cc

  this_below : (wanted : ℕ) (p : RegionPlace) (r : Render) (st : Standing) (b : Bool) (other : Option Standing) → Finds S p r → (other ≡ Some st → Finds S st.place st.node)
      → cond b (Some (record { place = p; node = r })) other ≡ Some st → Finds S st.place st.node
  this_below wanted p r st true other finds go e = subst (λ (x : Standing). Finds S x.place x.node) (one_standing (record { place = p; node = r }) st e) finds
  this_below wanted p r st false other finds go e = go e

  or_below : (a b : Option Standing) (st : Standing) → (a ≡ Some st → Finds S st.place st.node) → (b ≡ Some st → Finds S st.place st.node) → option_or a b ≡ Some st → Finds S st.place st.node
  or_below (Some x) b st f g e = f e
  or_below None b st f g e = g e

  mutual
    found_below : (wanted : ℕ) (p : RegionPlace) (r : Render) (st : Standing) → Finds S p r → standing_at wanted p r ≡ Some st → Finds S st.place st.node
    found_below wanted p (render number look told scroll count children) st finds e =
        this_below wanted p (render number look told scroll count children) st (eqb number wanted) (standing_in wanted (below p look) children) finds
        (λ under. all_found_below wanted (below p look) children st finds.1 under) e

    all_found_below : (wanted : ℕ) (p : RegionPlace) (rs : Renders) (st : Standing) → FindsAll S p rs → standing_in wanted p rs ≡ Some st → Finds S st.place st.node
    all_found_below wanted p no_renders st finds e = absurd (cc)
    all_found_below wanted p (more_renders r rs) st finds e =
        or_below (standing_at wanted p r) (standing_in wanted p rs) st (λ this. found_below wanted p r st finds.0 this) (λ later. all_found_below wanted p rs st finds.1 later) e

-- ---- sizes that follow otherwise

-- the sizes of two kinds follow from their bounds alone in the same way, where that has a say
abbrev is_sized_alike : Bool → Look → Look → Bool
is_sized_alike say a b = beq (say && is_viewport a) (say && is_viewport b) && beq (say && is_offstage a) (say && is_offstage b)

offstage_by : (a b : Look) → for_layout a ≡ for_layout b → is_offstage a ≡ is_offstage b
offstage_by a b e = ap is_offstage_role (sym (same_role a) ∙ ap work_role_of e ∙ same_role b)

offstage_by_own : (a b : RenderObject) → layout_own a ≡ layout_own b → is_offstage (object_look a) ≡ is_offstage (object_look b)
offstage_by_own a b e = offstage_by (object_look a) (object_look b) (ap (λ (x : LayoutOwn). x.look) e)

alike_by : (say : Bool) (a b : Look) → for_layout a ≡ for_layout b → is_sized_alike say a b ≡ true
alike_by say a b e =
    and_from (beq (say && is_viewport a) (say && is_viewport b)) (beq (say && is_offstage a) (say && is_offstage b))
    ((booleans_Decides (say && is_viewport a) (say && is_viewport b)).1 (ap (λ (x : Bool). say && x) (viewport_by a b e)))
    ((booleans_Decides (say && is_offstage a) (say && is_offstage b)).1 (ap (λ (x : Bool). say && x) (offstage_by a b e)))

alike_parts : (say : Bool) (a b : Look) → is_sized_alike say a b ≡ true → ((say && is_viewport a) ≡ (say && is_viewport b)) × ((say && is_offstage a) ≡ (say && is_offstage b))
alike_parts say a b e =
    let parts = and_parts (beq (say && is_viewport a) (say && is_viewport b)) (beq (say && is_offstage a) (say && is_offstage b)) e in
    ((booleans_Decides (say && is_viewport a) (say && is_viewport b)).0 parts.0, (booleans_Decides (say && is_offstage a) (say && is_offstage b)).0 parts.1)

-- a Viewport isn't offstage
role_shows : (r : WorkRole) → is_viewport_role r ≡ true → is_offstage_role r ≡ false
role_shows measures e = refl
role_shows (hides hidden) e = absurd (false≢true e)
role_shows scrolls e = refl
role_shows loads e = refl
role_shows fences e = refl
role_shows plain e = refl

-- of two kinds of which one has its size by its bounds alone and the other hasn't, one is no boundary: by two tests of each
unsized : (pi qi a b c d : Bool) → (a ≡ true → c ≡ false) → (b ≡ true → d ≡ false) → a ≡ b → (beq a b && beq c d) ≡ false
    → ((not pi && (false || (false || ((a || c) || false)))) && (not qi && (false || (false || ((b || d) || false))))) ≡ false
unsized pi qi true true true d f g same other = absurd (true≢false (f refl))
unsized pi qi true true false true f g same other = absurd (true≢false (g refl))
unsized pi qi true true false false f g same other = absurd (true≢false other)
unsized pi qi true false c d f g same other = absurd (true≢false same)
unsized pi qi false true c d f g same other = absurd (false≢true same)
unsized pi qi false false true true f g same other = absurd (true≢false other)
unsized pi qi false false false false f g same other = absurd (true≢false other)
unsized true qi false false true false f g same other = refl
unsized false true false false true false f g same other = refl
unsized false false false false true false f g same other = refl
unsized true qi false false false true f g same other = refl
unsized false qi false false false true f g same other = refl

-- where that has a say, at places below nodes that aren't offstage, it is no firm boundary
no_firm_by : (hidden t pi pt ph a c qi qt qh b d : Bool) → pt ≡ false → qt ≡ false → ph ≡ hidden → qh ≡ hidden → (a ≡ true → c ≡ false) → (b ≡ true → d ≡ false) → a ≡ b
    → (beq (not (hidden || t) && a) (not (hidden || t) && b) && beq (not (hidden || t) && c) (not (hidden || t) && d)) ≡ false
    → ((not pi && (pt || (t || ((a || c) || ph)))) && (not qi && (qt || (t || ((b || d) || qh))))) ≡ false
no_firm_by true t pi pt ph a c qi qt qh b d ept eqt eph eqh f g same other = absurd (true≢false other)
no_firm_by false true pi pt ph a c qi qt qh b d ept eqt eph eqh f g same other = absurd (true≢false other)
no_firm_by false false pi pt ph a c qi qt qh b d ept eqt eph eqh f g same other =
    (λ i. (not pi && (ept i || (false || ((a || c) || eph i)))) && (not qi && (eqt i || (false || ((b || d) || eqh i))))) ∙ unsized pi qi a b c d f g same other

unfirm : (hidden : Bool) (bounds : Option Bounds) (p q : RegionPlace) (node : Render) (lv lw : Look) → look_of node ≡ lv → p.top ≡ false → q.top ≡ false → p.below_offstage ≡ hidden → q.below_offstage ≡ hidden
    → is_viewport lv ≡ is_viewport lw → is_sized_alike (has_say hidden bounds) lv lw ≡ false → is_firm_in bounds (Some (record { place = p; node = node })) q lw ≡ false
unfirm hidden None p q node lv lw look ptop qtop phid qhid same other = refl
unfirm hidden (Some b) p q node lv lw look ptop qtop phid qhid same other =
    ap (λ (l : Look). is_relayout_boundary p l b && is_relayout_boundary q lw b) look
    ∙ no_firm_by hidden (is_tight b) p.below_intrinsic p.top p.below_offstage (is_viewport lv) (is_offstage lv) q.below_intrinsic q.top q.below_offstage (is_viewport lw) (is_offstage lw) ptop qtop phid qhid
    (role_shows (work_role_of lv)) (role_shows (work_role_of lw)) same other

-- a forest whose nodes have the frames that their numbers had
abbrev pub AreFramed : Frames → Forest RenderObject → Type 0
AreFramed frames none = Unit {0}
AreFramed frames (tree h o kids rest) = (o.frame ≡ frames o.number) × AreFramed frames kids × AreFramed frames rest

same_bounds : (o : Option Frame) → bounds_in o ≡ object_bounds o
same_bounds None = refl
same_bounds (Some (Boxed b size)) = refl
same_bounds (Some (Sliver b geometry)) = refl

module _ (told_same : (a b : ParentData) → Decides (is_told_same a b) (a ≡ b)) (look_same : (a b : Look) → Decides (is_same_look a b) (a ≡ b))
    (t : Tree RenderObject) (apart : TellsApart (object_number t)) (before : Before) where
  abbrev now : Judge
  now = frame_judge before

  -- whatever stood with a number in the last frame's tree stands at a handle
  abbrev pub Stood : Type 0
  Stood = (wanted : ℕ) (st : Standing) → standing before.tree wanted ≡ Some st → StoodWith t wanted st

  pub numbered_in : (f : Forest RenderObject) → AreCarried (object_at t) f → AreNumbered (object_number t) f
  numbered_in none c = tt
  numbered_in (tree h w kids rest) c = (ap (option_map (λ (v : RenderObject). v.number)) c.0.is ∙ ap (λ n. Some n) (sym c.0.number), numbered_in rest c.2)

  stored_in : (f : Forest RenderObject) → AreStored t f → AreNumbered (object_number t) f
  stored_in none s = tt
  stored_in (tree h o kids rest) s = (ap (option_map (λ (v : RenderObject). v.number)) s.0, stored_in rest s.1)

  -- what stood with the number of a node stood at its handle
  same_object : (n : ℕ) (k : Handle) (v : RenderObject) (st : Standing) → object_at t k ≡ Some v → v.number ≡ n → (found : StoodWith t n st) → (found.handle ≡ k) × (found.object ≡ v)
  same_object n k v st at number found =
      let handle : found.handle ≡ k = apart found.handle k n (ap (option_map (λ (o : RenderObject). o.number)) found.stored ∙ ap (λ m. Some m) found.number)
      (ap (option_map (λ (o : RenderObject). o.number)) at ∙ ap (λ m. Some m) number) in
      (handle, some_is t found.object v (sym found.stored ∙ ap (object_at t) handle ∙ at))

  -- a child whose size follows otherwise is changed, and no firm boundary
  toggled_out : (hidden : Bool) (p q : RegionPlace) (v w : RenderObject) (others under : Forest RenderObject) → p.top ≡ false → q.top ≡ false → p.below_offstage ≡ hidden → q.below_offstage ≡ hidden
      → standing before.tree v.number ≡ Some (record { place = p; node = render_over v others }) → w.number ≡ v.number → v.frame ≡ before.frames w.number
      → is_viewport (object_look v) ≡ is_viewport (object_look w) → is_sized_alike (has_say hidden (object_bounds v.frame)) (object_look v) (object_look w) ≡ false → reaches_out now q (render_over w under) ≡ true
  toggled_out hidden p q v w others under ptop qtop phid qhid there number frame same other =
      out (ap (λ x. is_changed_since x before q (render_over w under)) is ∙ by_same (is_same_for_layout (render_over v others) (render_over w under)) refl)
      (ap (λ x. is_firm_in (bounds_in (before.frames w.number)) x q (object_look w)) is
      ∙ (ap (λ x. is_firm_in x (Some st) q (object_look w)) bounds ∙ unfirm hidden (object_bounds v.frame) p q (render_over v others) (object_look v) (object_look w) refl ptop qtop phid qhid same other))
    where
      st : Standing
      st = record { place = p; node = render_over v others }

      is : standing before.tree w.number ≡ Some (record { place = p; node = render_over v others })
      is = ap (λ n. standing before.tree n) number ∙ there

      bounds : bounds_in (before.frames w.number) ≡ object_bounds v.frame
      bounds = ap bounds_in (sym frame) ∙ same_bounds v.frame

      out : now.is_changed q (render_over w under) ≡ true → now.is_firm q (render_over w under) ≡ false → reaches_out now q (render_over w under) ≡ true
      out changed firm =
          and_from (is_reached now q (render_over w under)) (not (now.is_firm q (render_over w under)))
          (or_left (now.is_changed q (render_over w under)) (some_reaches_out now (below q (object_look w)) (renders_of under)) changed) (ap not firm)

      by_same : (b : Bool) → is_same_for_layout (render_over v others) (render_over w under) ≡ b → is_changed_since (Some (record { place = p; node = render_over v others })) before q (render_over w under) ≡ true
      by_same true e =
          let alike = (and_parts (is_same_look (for_layout (object_look v)) (for_layout (object_look w)))
          (pointwise is_child_same (list_below (renders_of others)) (list_below (renders_of under)) && eqb (lazy_children v) (lazy_children w)) e).0 in
          absurd (true≢false (sym (alike_by (has_say hidden (object_bounds v.frame)) (object_look v) (object_look w) ((look_same (for_layout (object_look v)) (for_layout (object_look w))).0 alike)) ∙ other))
      by_same false e = ap (λ b. not b || (is_touched before.touched (render_over w under) || is_changed_root before p q)) e

  heads_are : (h k : Handle) (hs ks : List Handle) → h ∷ hs ≡ k ∷ ks → (h ≡ k) × (hs ≡ ks)
  heads_are h k hs ks e = (cc, cc)

  -- where not all sizes follow as before, one of the children reaches out
  some_toggled : (hidden : Bool) (p q : RegionPlace) → p.top ≡ false → q.top ≡ false → p.below_offstage ≡ hidden → q.below_offstage ≡ hidden → (was under : Forest RenderObject) → tops under ≡ tops was → AreStored t was
      → FindsAll (standing before.tree) p (renders_of was) → AreCarried (object_at t) under → AreFramed before.frames under → AllWindowsStay before (renders_of under)
      → (AreSizedSame hidden was under → ⊥) → some_reaches_out now q (renders_of under) ≡ true
  some_toggled hidden p q ptop qtop phid qhid none none list stored finds carried framed windows not_same = absurd (not_same tt)
  some_toggled hidden p q ptop qtop phid qhid none (tree c w kids rest) list stored finds carried framed windows not_same = cc
  some_toggled hidden p q ptop qtop phid qhid (tree j v others more) none list stored finds carried framed windows not_same = cc
  some_toggled hidden p q ptop qtop phid qhid (tree j v others more) (tree c w kids rest) list stored finds carried framed windows not_same =
      let say : Bool = has_say hidden (object_bounds v.frame) in elim (cases_Bool (is_sized_alike say (object_look v) (object_look w))) [
        | inl same ↦
            let parts = alike_parts say (object_look v) (object_look w) same in
            or_right (reaches_out now q (render_over w kids)) (some_reaches_out now q (renders_of rest))
            (some_toggled hidden p q ptop qtop phid qhid more rest (heads_are c j (tops rest) (tops more) list).1 stored.1 finds.1 carried.2 framed.2 windows.1 (λ s. not_same (sym parts.0, sym parts.1, s)))
        | inr other ↦
            let at : object_at t c ≡ Some v = ap (object_at t) (heads_are c j (tops rest) (tops more) list).0 ∙ stored.0 in
            let is : carried.0.stored ≡ v = some_is t carried.0.stored v (sym carried.0.is ∙ at) in
            let number : w.number ≡ v.number = carried.0.number ∙ ap (λ (o : RenderObject). o.number) is in
            let frame : v.frame ≡ before.frames w.number = sym (carried.0.frame ∙ ap (λ (o : RenderObject). o.frame) is) ∙ framed.0 in
            let there : standing before.tree v.number ≡ Some (record { place = p; node = render_over v others }) = finds.0.0 in
            or_left (reaches_out now q (render_over w kids)) (some_reaches_out now q (renders_of rest))
            (toggled_out hidden p q v w others kids ptop qtop phid qhid there number frame (windows.0.0 (record { place = p; node = render_over v others }) (ap (λ n. standing before.tree n) number ∙ there)) other)
      ]

  -- nodes that are stored at the same handles are the same
  sized_too : (hidden : Bool) (f g now_f : Forest RenderObject) → tops f ≡ tops g → AreStored t f → AreStored t g → AreSizedSame hidden f now_f → AreSizedSame hidden g now_f
  sized_too hidden none none now_f list a b sized = sized
  sized_too hidden none (tree k w below_w rest) now_f list a b sized = cc
  sized_too hidden (tree h v kids more) none now_f list a b sized = cc
  sized_too hidden (tree h v kids more) (tree k w below_w rest) none list a b sized = sized
  sized_too hidden (tree h v kids more) (tree k w below_w rest) (tree c x under others) list a b sized =
      let heads = heads_are h k (tops more) (tops rest) list in
      let value : v ≡ w = some_is t v w (sym a.0 ∙ (ap (object_at t) heads.0 ∙ b.0)) in
      let say : RenderObject → Bool = λ o. has_say hidden (object_bounds o.frame) in (
        subst (λ (o : RenderObject). (say o && is_viewport (object_look x)) ≡ (say o && is_viewport (object_look o))) value sized.0,
        subst (λ (o : RenderObject). (say o && is_offstage (object_look x)) ≡ (say o && is_offstage (object_look o))) value sized.1,
        sized_too hidden more rest others heads.1 a.1 b.1 sized.2,
      )

  -- a node that a plan changes is reached
  pub changed_reached : Stood → (top : Handle) (root : RenderObject) (kids : Forest RenderObject) → Stands (node_at t) None (tree top root kids none) → before.tree ≡ Some (render_over root kids)
      → Finds (standing before.tree) at_root (render_over root kids)
      → (p : RegionPlace) (k : Handle) (v w : RenderObject) (under : Forest RenderObject) → object_at t k ≡ Some v → w.number ≡ v.number → w.scroll ≡ v.scroll → AreCarried (object_at t) under
      → AreFramed before.frames under → AllWindowsStay before (renders_of under) → ChangesForLayout t k w under → is_reached now p (render_over w under) ≡ true
  changed_reached stood top root kids stands was_tree finds p k v w under at number scroll carried framed windows changes = elim (cases_Bool (now.is_changed p (render_over w under))) [
    | inl c ↦ or_left (now.is_changed p (render_over w under)) (some_reaches_out now (below p (object_look w)) (renders_of under)) c
    | inr c ↦ or_right (now.is_changed p (render_over w under)) (some_reaches_out now (below p (object_look w)) (renders_of under))
        (by_law (changed_for_layout t told_same look_same apart before top root kids stands was_tree k v w under at number (numbered_in under carried) p scroll changes) c)
  ]
    where
      by_standing : (was : Forest RenderObject) → StoodBelow t k was → (AreSizedSame (is_offstage (object_look v)) was under → ⊥) → (x : Option Standing) → standing before.tree w.number ≡ x
          → is_changed_since x before p (render_over w under) ≡ false → some_reaches_out now (below p (object_look w)) (renders_of under) ≡ true
      by_standing was below_k not_same None is e = absurd (true≢false e)
      by_standing was below_k not_same (Some st) is e =
          let found = stood w.number st is in
          let same = same_object w.number k v st at (sym number) found in
          let here : st.node ≡ render_over v found.under = found.node ∙ ap (λ o. render_over o found.under) same.1 in
          let parts = or_parts (not (is_same_for_layout st.node (render_over w under))) (is_touched before.touched (render_over w under) || is_changed_root before st.place p) e in
          let kept = not-false (is_same_for_layout st.node (render_over w under)) parts.0 in
          let keeps = (for_layout_decided told_same look_same (object_number t) apart v found.under w under (stored_in found.under found.stood.stored) (numbered_in under carried) scroll).0
          (sym (ap (λ r. is_same_for_layout r (render_over w under)) here) ∙ kept) in
          let finds_st : Finds (standing before.tree) st.place st.node =
          found_below (standing before.tree) w.number at_root (render_over root kids) st finds (sym (ap (λ r. standing r w.number) was_tree) ∙ is) in
          let finds_here : Finds (standing before.tree) st.place (render_over v found.under) = subst (Finds (standing before.tree) st.place) here finds_st in
          let hides_same : is_offstage (object_look w) ≡ is_offstage (object_look v) = offstage_by_own w v keeps.own in
          let list_was : tops found.under ≡ tops was = found.stood.list ∙ (ap (children_at t) same.0 ∙ sym below_k.list) in
          some_toggled (is_offstage (object_look v)) (below st.place (object_look v)) (below p (object_look w)) refl refl refl hides_same found.under under keeps.list found.stood.stored finds_here.1 carried framed windows
          (λ sized. not_same (sized_too (is_offstage (object_look v)) found.under was under list_was found.stood.stored below_k.stored sized))

      by_law : (is_changed before p (render_over w under) ≡ true) ⊎ ((was : Forest RenderObject) × StoodBelow t k was × (AreSizedSame (is_offstage (object_look v)) was under → ⊥)) → now.is_changed p (render_over w under) ≡ false
          → some_reaches_out now (below p (object_look w)) (renders_of under) ≡ true
      by_law (inl a) c = absurd (true≢false (sym a ∙ c))
      by_law (inr (was, below_k, not_same)) c = by_standing was below_k not_same (standing before.tree w.number) refl c
