-- What a plan reports is what changes in the forest that it leaves.
use Rattle.std.proofs.Common.{◌≡◌, Bool, false, ◌&&◌, Option, Some, None, option_map, List, [], ◌∷◌, ◌++◌, ◌⊎◌, inl, inr, refl, sym, ap, ◌∙◌, subst}
use Rattle.fx_handles.specs.declared.Handle.{Handle}
use Rattle.node_tree.specs.Forest.{Forest, tops}
use Rattle.node_tree.specs.Forest.Forest.{none, tree}
use Rattle.node_tree.specs.Plan.{PlanEntry, entries, IsUpdated}
use Rattle.node_tree.specs.Tree.{Tree, children_at}
use Rattle.tree_marks.specs.Marks.{listed}
use Rattle.work_roles.specs.WorkRole.{is_offstage, is_viewport}
use Rattle.render_tree.specs.Changes.{hides_in, hides_at, KeepsList, KeepsOwn, KeepsTold, KeepsLook, ChangesLayout, ChangesPaint, EachEntry, SomeEntry}
use Rattle.render_tree.specs.Marks.{LayoutTold, layout_own, layout_told, has_say}
use Rattle.render_tree.specs.Object.{RenderObject, bounds_in, object_look}
use Rattle.render_tree.specs.Redraw.{Redraw, redrawn}
use Rattle.render_tree.specs.Tree.{object_at}
use Rattle.build_walk.specs.Changing.{AreToldSame, AreStored, AreSizedSame, ChangesForLayout, OthersStay, SomeChanges, ChangesForPaint, OthersLook, SomeLooks}

each_left : (P : PlanEntry Redraw → Type 0) (es fs : List (PlanEntry Redraw)) → EachEntry P (es ++ fs) → EachEntry P es
each_left P [] fs h = tt
each_left P (e ∷ es) fs h = (h.0, each_left P es fs h.1)

each_right : (P : PlanEntry Redraw → Type 0) (es fs : List (PlanEntry Redraw)) → EachEntry P (es ++ fs) → EachEntry P fs
each_right P [] fs h = h
each_right P (e ∷ es) fs h = each_right P es fs h.1

some_split : (P : PlanEntry Redraw → Type 0) (es fs : List (PlanEntry Redraw)) → SomeEntry P (es ++ fs) → SomeEntry P es ⊎ SomeEntry P fs
some_split P [] fs h = inr h
some_split P (e ∷ es) fs (inl h) = inl (inl h)
some_split P (e ∷ es) fs (inr h) = later (some_split P es fs h)
  where
    later : SomeEntry P es ⊎ SomeEntry P fs → SomeEntry P (e ∷ es) ⊎ SomeEntry P fs
    later (inl x) = inl (inr x)
    later (inr x) = inr x

some_equal : {A : Type 0} (x y : A) → Some x ≡ Some y → x ≡ y
some_equal x y e = cc

same_head : (h k : Handle) (hs ks : List Handle) → h ∷ hs ≡ k ∷ ks → (h ≡ k) × (hs ≡ ks)
same_head h k hs ks e = (cc, cc)

none_some : {A : Type 0} {P : Type 0} (x : A) → None ≡ Some x → P
none_some x e = cc

module _ (t : Tree RenderObject) where
  abbrev Updated : Forest Redraw → Forest RenderObject → Type 0
  Updated d g = IsUpdated redrawn (object_at t) d g

  abbrev entry : Handle → Option Handle → Forest Redraw → Redraw → PlanEntry Redraw
  entry h p kids u = record { at = h; parent = p; children = tops kids; update = u }

  -- the node that an entry leaves
  left : (h : Handle) (u : Redraw) (w o : RenderObject) → option_map (redrawn u) (object_at t h) ≡ Some w → object_at t h ≡ Some o → w ≡ redrawn u o
  left h u w o made is = some_equal w (redrawn u o) (sym made ∙ ap (option_map (redrawn u)) is)

  pub same_tops : (d : Forest Redraw) (g : Forest RenderObject) → Updated d g → tops g ≡ tops d
  same_tops none none u = refl
  same_tops none (tree k w below rest) u = absurd u
  same_tops (tree h x kids more) none u = absurd u
  same_tops (tree h x kids more) (tree k w below rest) u = let later = same_tops more rest u.3 in λ i. sym u.0 i ∷ later i

  -- ---- what isn't reported stays

  module _ (hs : List Handle) where
    abbrev Own : PlanEntry Redraw → Type 0
    Own e = listed e.at hs ≡ false → KeepsOwn t e × KeepsList t e

    abbrev Told : PlanEntry Redraw → Type 0
    Told e = (p : Handle) → e.parent ≡ Some p → listed p hs ≡ false → KeepsTold t e

    abbrev Look : PlanEntry Redraw → Type 0
    Look e = listed e.at hs ≡ false → KeepsLook t e × KeepsList t e

    told_below : (h : Handle) (d : Forest Redraw) (g was : Forest RenderObject) → listed h hs ≡ false → Updated d g → EachEntry Told (entries (Some h) d) → tops was ≡ tops g → AreStored t was → AreToldSame was g
    told_below h none none none l u e s st = tt
    told_below h none none (tree j v below rest) l u e s st = cc
    told_below h none (tree k w below rest) was l u e s st = absurd u
    told_below h (tree x y kids more) none was l u e s st = absurd u
    told_below h (tree x y kids more) (tree k w below rest) none l u e s st = cc
    told_below h (tree x y kids more) (tree k w below rest) (tree j v under others) l u e s st =
        let handles = same_head j k (tops others) (tops rest) s in
        let here = each_right Told (entries (Some x) kids) (entry x (Some h) kids y ∷ entries (Some h) more) e in
        let at_x : object_at t x ≡ Some v = ap (object_at t) (u.0 ∙ sym handles.0) ∙ st.0 in
        let keeps : layout_told (hides_at t (Some h)) (redrawn y v) ≡ layout_told (hides_at t (Some h)) v = here.0 h refl l v at_x in
        let is : w ≡ redrawn y v = left x y w v u.1 at_x in
        (sym (ap (λ (o : RenderObject). o.parent_data) is ∙ ap (λ (m : LayoutTold). m.parent_data) keeps), told_below h more rest others l u.3 here.1 handles.1 st.1)

    pub others_stay : (p : Option Handle) (d : Forest Redraw) (g : Forest RenderObject) → Updated d g → EachEntry Own (entries p d) → EachEntry Told (entries p d) → OthersStay t hs g
    others_stay p none none u a b = tt
    others_stay p none (tree k w below rest) u a b = absurd u
    others_stay p (tree x y kids more) none u a b = absurd u
    others_stay p (tree x y kids more) (tree k w below rest) u a b =
        let own = each_right Own (entries (Some x) kids) (entry x p kids y ∷ entries p more) a in
        let told = each_right Told (entries (Some x) kids) (entry x p kids y ∷ entries p more) b in
        let own_below = each_left Own (entries (Some x) kids) (entry x p kids y ∷ entries p more) a in
        let told_under = each_left Told (entries (Some x) kids) (entry x p kids y ∷ entries p more) b in (
          (λ l o was is stood.
              let free : listed x hs ≡ false = ap (λ h. listed h hs) u.0 ∙ l in
              let at_x : object_at t x ≡ Some o = ap (object_at t) u.0 ∙ is in
              let keeps = own.0 free in
              let under : tops below ≡ tops was = same_tops kids below u.2 ∙ keeps.1 ∙ ap (children_at t) u.0 ∙ sym stood.list in
              record {
                own = ap layout_own (left x y w o u.1 at_x) ∙ keeps.0 o at_x;
                list = under;
                told = told_below x kids below was free u.2 told_under (sym under) stood.stored;
              }),
          others_stay (Some x) kids below u.2 own_below told_under,
          others_stay p more rest u.3 own.1 told.1,
        )

    pub others_look : (p : Option Handle) (d : Forest Redraw) (g : Forest RenderObject) → Updated d g → EachEntry Look (entries p d) → OthersLook t hs g
    others_look p none none u a = tt
    others_look p none (tree k w below rest) u a = absurd u
    others_look p (tree x y kids more) none u a = absurd u
    others_look p (tree x y kids more) (tree k w below rest) u a =
        let own = each_right Look (entries (Some x) kids) (entry x p kids y ∷ entries p more) a in
        let own_below = each_left Look (entries (Some x) kids) (entry x p kids y ∷ entries p more) a in (
          (λ l o was is stood.
              let free : listed x hs ≡ false = ap (λ h. listed h hs) u.0 ∙ l in
              let at_x : object_at t x ≡ Some o = ap (object_at t) u.0 ∙ is in
              let keeps = own.0 free in
              record {
                look = ap object_look (left x y w o u.1 at_x) ∙ keeps.0 o at_x;
                list = same_tops kids below u.2 ∙ keeps.1 ∙ ap (children_at t) u.0 ∙ sym stood.list;
              }),
          others_look (Some x) kids below u.2 own_below,
          others_look p more rest u.3 own.1,
        )

  -- ---- what is reported changes

  -- of some node at the top the parent takes something else
  abbrev SomeUntold : Option Handle → Forest Redraw → Type 0
  SomeUntold p none = ⊥
  SomeUntold p (tree x y kids more) = (KeepsTold t (entry x p kids y) → ⊥) ⊎ SomeUntold p more

  all_told : (hidden : Bool) (p : Option Handle) → hides_at t p ≡ hidden → (d : Forest Redraw) (g was : Forest RenderObject) → Updated d g → tops was ≡ tops g → AreStored t was → AreToldSame was g → AreSizedSame hidden was g → SomeUntold p d → ⊥
  all_told hidden p hides none g was u s st m z un = absurd un
  all_told hidden p hides (tree x y kids more) none was u s st m z un = absurd u
  all_told hidden p hides (tree x y kids more) (tree k w below rest) none u s st m z un = absurd m
  all_told hidden p hides (tree x y kids more) (tree k w below rest) (tree j v under others) u s st m z (inl un) =
      let handles = same_head j k (tops others) (tops rest) s in
      let at_x : object_at t x ≡ Some v = ap (object_at t) (u.0 ∙ sym handles.0) ∙ st.0 in
      let is : w ≡ redrawn y v = left x y w v u.1 at_x in
      un (λ o found.
      let same : o ≡ v = some_equal o v (sym found ∙ at_x) in
      let say : Bool = has_say hidden (bounds_in v.frame) in
      let views : (say && is_viewport (object_look (redrawn y v))) ≡ (say && is_viewport (object_look v)) = ap (λ (q : RenderObject). say && is_viewport (object_look q)) (sym is) ∙ z.0 in
      let hidings : (say && is_offstage (object_look (redrawn y v))) ≡ (say && is_offstage (object_look v)) = ap (λ (q : RenderObject). say && is_offstage (object_look q)) (sym is) ∙ z.1 in
      let data_same : (redrawn y v).parent_data ≡ v.parent_data = ap (λ (q : RenderObject). q.parent_data) (sym is) ∙ sym m.0 in
      let keeps : layout_told hidden (redrawn y v) ≡ layout_told hidden v = λ i. record { parent_data = data_same i; is_viewport = views i; is_offstage = hidings i } in
      subst (λ (q : RenderObject). layout_told (hides_at t p) (redrawn y q) ≡ layout_told (hides_at t p) q) (sym same) (subst (λ (b : Bool). layout_told b (redrawn y v) ≡ layout_told b v) (sym hides) keeps))
  all_told hidden p hides (tree x y kids more) (tree k w below rest) (tree j v under others) u s st m z (inr un) =
      all_told hidden p hides more rest others u.3 (same_head j k (tops others) (tops rest) s).1 st.1 m.1 z.2 un

  module _ (h : Handle) where
    abbrev Found : Option Handle → Forest Redraw → Forest RenderObject → Type 0
    Found p d g = ((p ≡ Some h) × SomeUntold p d) ⊎ SomeChanges t h g

    -- an entry's own change
    own_changes : (x k : Handle) (p : Option Handle) (y : Redraw) (kids : Forest Redraw) (w : RenderObject) (below : Forest RenderObject) → x ≡ k → option_map (redrawn y) (object_at t x) ≡ Some w → Updated kids below
        → (KeepsOwn t (entry x p kids y) × KeepsList t (entry x p kids y) → ⊥) → ChangesForLayout t k w below
    own_changes x k p y kids w below e made u not = λ o was is stood keeps.
        let at_x : object_at t x ≡ Some o = ap (object_at t) e ∙ is in
        not (
          (λ q found. let same : q ≡ o = some_equal q o (sym found ∙ at_x) in
              subst (λ (z : RenderObject). layout_own (redrawn y z) ≡ layout_own z) (sym same) (ap layout_own (sym (left x y w o made at_x)) ∙ keeps.0.own)),
          sym (same_tops kids below u) ∙ keeps.0.list ∙ stood.list ∙ sym (ap (children_at t) e),
        )

    -- of a node right below it something else is taken
    child_changes : (x k : Handle) (kids : Forest Redraw) (w : RenderObject) (below : Forest RenderObject) → x ≡ k → Updated kids below → SomeUntold (Some x) kids → ChangesForLayout t k w below
    child_changes x k kids w below e u un = λ o was is stood keeps.
        all_told (is_offstage (object_look o)) (Some x) (ap (λ (y : Option RenderObject). hides_in y) (ap (object_at t) e ∙ is)) kids below was u (sym keeps.0.list) stood.stored keeps.0.told keeps.1 un

    this_entry : (x k : Handle) (p : Option Handle) (y : Redraw) (kids more : Forest Redraw) (w : RenderObject) (below rest : Forest RenderObject) → x ≡ k → option_map (redrawn y) (object_at t x) ≡ Some w → Updated kids below
        → ChangesLayout t h (entry x p kids y) → Found p (tree x y kids more) (tree k w below rest)
    this_entry x k p y kids more w below rest e made u (inl own) = inr (inl (sym e ∙ own.0, own_changes x k p y kids w below e made u own.1))
    this_entry x k p y kids more w below rest e made u (inr told) = inl (told.0, inl told.1)

    lift_below : (x k : Handle) (p : Option Handle) (y : Redraw) (kids more : Forest Redraw) (w : RenderObject) (below rest : Forest RenderObject) → x ≡ k → Updated kids below → Found (Some x) kids below → Found p (tree x y kids more) (tree k w below rest)
    lift_below x k p y kids more w below rest e u (inl un) = inr (inl (sym e ∙ some_equal x h un.0, child_changes x k kids w below e u un.1))
    lift_below x k p y kids more w below rest e u (inr c) = inr (inr (inl c))

    lift_rest : (x k : Handle) (p : Option Handle) (y : Redraw) (kids more : Forest Redraw) (w : RenderObject) (below rest : Forest RenderObject) → Found p more rest → Found p (tree x y kids more) (tree k w below rest)
    lift_rest x k p y kids more w below rest (inl un) = inl (un.0, inr un.1)
    lift_rest x k p y kids more w below rest (inr c) = inr (inr (inr c))

    either : {A B C : Type 0} → A ⊎ B → (A → C) → (B → C) → C
    either (inl a) f g = f a
    either (inr b) f g = g b

    found : (p : Option Handle) (d : Forest Redraw) (g : Forest RenderObject) → Updated d g → SomeEntry (ChangesLayout t h) (entries p d) → Found p d g
    found p none g u s = absurd s
    found p (tree x y kids more) none u s = absurd u
    found p (tree x y kids more) (tree k w below rest) u s =
        either (some_split (ChangesLayout t h) (entries (Some x) kids) (entry x p kids y ∷ entries p more) s)
        (λ under. lift_below x k p y kids more w below rest u.0 u.2 (found (Some x) kids below u.2 under))
        (λ later. either later
        (λ this. this_entry x k p y kids more w below rest u.0 u.1 u.2 this)
        (λ others. lift_rest x k p y kids more w below rest (found p more rest u.3 others)))

    top_found : (d : Forest Redraw) (g : Forest RenderObject) → Found None d g → SomeChanges t h g
    top_found d g (inl un) = none_some h un.0
    top_found d g (inr c) = c

    pub reported_changes : (d : Forest Redraw) (g : Forest RenderObject) → Updated d g → SomeEntry (ChangesLayout t h) (entries None d) → SomeChanges t h g
    reported_changes d g u s = top_found d g (found None d g u s)

    -- ---- for painting

    paint_changes : (x k : Handle) (p : Option Handle) (y : Redraw) (kids : Forest Redraw) (w : RenderObject) (below : Forest RenderObject) → x ≡ k → option_map (redrawn y) (object_at t x) ≡ Some w → Updated kids below
        → (KeepsLook t (entry x p kids y) × KeepsList t (entry x p kids y) → ⊥) → ChangesForPaint t k w below
    paint_changes x k p y kids w below e made u not = λ o was is stood keeps.
        let at_x : object_at t x ≡ Some o = ap (object_at t) e ∙ is in
        not (
          (λ q found. let same : q ≡ o = some_equal q o (sym found ∙ at_x) in
              subst (λ (z : RenderObject). object_look (redrawn y z) ≡ object_look z) (sym same) (ap object_look (sym (left x y w o made at_x)) ∙ keeps.look)),
          sym (same_tops kids below u) ∙ keeps.list ∙ stood.list ∙ sym (ap (children_at t) e),
        )

    pub reported_looks : (p : Option Handle) (d : Forest Redraw) (g : Forest RenderObject) → Updated d g → SomeEntry (ChangesPaint t h) (entries p d) → SomeLooks t h g
    reported_looks p none g u s = absurd s
    reported_looks p (tree x y kids more) none u s = absurd u
    reported_looks p (tree x y kids more) (tree k w below rest) u s =
        either (some_split (ChangesPaint t h) (entries (Some x) kids) (entry x p kids y ∷ entries p more) s)
        (λ under. inr (inl (reported_looks (Some x) kids below u.2 under)))
        (λ later. either later
        (λ this. inl (sym u.0 ∙ this.0, paint_changes x k p y kids w below u.0 u.1 u.2 this.1))
        (λ others. inr (inr (reported_looks p more rest u.3 others))))
