-- What the mount of one widget comes to.
use Rattle.std.proofs.Common.{◌≡◌, ℕ, suc, ◌+◌, ◌≤◌, nat_le, true, false, List, [], length, Option, Some, None, IsSome, option_map, refl, sym, ap, ◌∙◌, subst, inl, inr, arith}
use Rattle.std.proofs.lemmas.Bool.{cases_Bool}
use Rattle.std.specs.Option.{option_to_list}
use Rattle.fx_expr.specs.declared.values.Value.{Value}
use Rattle.fx_handles.specs.declared.Handle.{Handle}
use Rattle.fx_handles.specs.Arena.{used_count, retired_count}
use Rattle.fx_handles.specs.HandleLaws.{cases_same}
use Rattle.node_tree.specs.Forest.{TreeNode, Forest}
use Rattle.node_tree.specs.Forest.Forest.{none, tree}
use Rattle.node_tree.specs.Mounting.{put_last, children_below}
use Rattle.node_tree.specs.Tree.{Tree, Is, IsNode, node_at, value_at}
use Rattle.node_tree.proofs.Children.{loose-keeps}
use Rattle.node_tree.proofs.EditLaws.{adds_keep}
use Rattle.widget_model.specs.Plain.{PlainWidget, look_of}
use Rattle.plain_tree.specs.Projection.{told_at}
use Rattle.plain_tree.specs.RenderRole.{render_role_of, vanishes}
use Rattle.build_form.specs.BuildRole.{composes, build_role_of}
use Rattle.build_form.specs.Entering.{Blueprint, first_fields, given_by, apart, opening, counted}
use Rattle.build_form.specs.Partner.{arrival, partner_of, holder_in}
use Rattle.build_form.specs.Step.{Progress, gives}
use Rattle.element_tree.specs.Element.{Element, made_count}
use Rattle.global_keys.specs.Holders.{Registry, is_met}
use Rattle.render_tree.specs.Edits.{new_object}
use Rattle.render_tree.specs.Object.{RenderObject}
use Rattle.render_tree.specs.Tree.{object_at}
use Rattle.build_walk.specs.Past.{Pasts}
use Rattle.build_walk.specs.Walked.{WalkPlace}
use Rattle.build_owner.specs.Making.{MakesNodes}
use Rattle.build_owner.specs.Ready.{HasRoom}
use Rattle.build_owner.proofs.Makings.{makes_nothing, makes_one}
use Rattle.first_builds.specs.Inflated.{progress_at, IsUnscrolled, given_of, IsMounted, IsReadyToMount, HasGrown}
use Rattle.first_builds.specs.Mounted.{drawn_object, mounted}
use Rattle.first_builds.specs.Mounts.{MountsNode, MountsIfDrawn, IsNoted, new_element, MountsWidget}
use Rattle.first_builds.specs.Scattered.{scattered}
use Rattle.first_builds.proofs.Nesting.{put_nothing, mounted_drawn, mounted_through}
use Rattle.first_builds.proofs.Placing.{new_alone}
use Rattle.first_builds.proofs.Opening.{new_opened, stores_given, element_for}
use Rattle.first_builds.proofs.Scattering.{scattered_adds}

none_some : {A : Type 0} {x : A} → None ≡ Some x → ⊥
none_some e = cc

-- ---- what is stored

module _ {T : Type 0} (old new : Tree T) (q : Option Handle) (h : Handle) (v : T) (m : MountsNode old new q h v) where
  pub stored_there : value_at new h ≡ Some v
  stored_there = ap (option_map (λ (n : TreeNode T). n.value)) m.adds.found

  pub absent_before : value_at old h ≡ None
  absent_before = ap (option_map (λ (n : TreeNode T). n.value)) m.adds.was_absent

  pub stays : (k : Handle) (x : T) → value_at old k ≡ Some x → value_at new k ≡ Some x
  stays k x at = elim (cases_same k h) [
    | inl same ↦ absurd (none_some (sym absent_before ∙ ap (value_at old) (sym same) ∙ at))
    | inr other ↦ adds_keep old new q (length (children_below old q)) h v m.adds k other ∙ at
  ]

module _ (fields : List Value) (at : WalkPlace) (w : PlainWidget) (place : ℕ) (t0 t : Tree Element) (r0 r : Tree RenderObject) (g0 g : Registry) (h : Handle) (output : Option PlainWidget) where
  abbrev element : Option Handle → Element
  element k = new_element t0 w place fields output k

  abbrev object : Option Handle → RenderObject
  object k = drawn_object (element k) (told_at at.role at.told place)

  one_more : (k : Option Handle) → MountsWidget fields at w place t0 t r0 r g0 g h output k → made_count t ≡ made_count t0 + 1
  one_more k m = m.element.adds.inserted

  -- ---- what has grown

  drawn_stay : (k : Option Handle) (o : RenderObject) → MountsIfDrawn r0 r at.above o k → (j : Handle) (x : RenderObject) → object_at r0 j ≡ Some x → object_at r j ≡ Some x
  drawn_stay None o same j x is = ap (λ s. object_at s j) same ∙ is
  drawn_stay (Some k) o m j x is = stays r0 r at.above k o m j x is

  drawn_made : (k : Option Handle) (o : RenderObject) → o.number ≡ made_count t0 + 1 → made_count t ≡ made_count t0 + 1 → MountsIfDrawn r0 r at.above o k
      → MakesNodes (made_count t0) (made_count t) (scattered r0) (scattered r)
  drawn_made None o number more same = subst (λ s. MakesNodes (made_count t0) (made_count t) (scattered r0) (scattered s)) (sym same) (makes_nothing (scattered r0) (omega (arith, more)))
  drawn_made (Some k) o number more m =
      makes_one (scattered r0) (scattered r) k o.number o.widget (scattered_adds r0 r at.above (length (children_below r0 at.above)) k o m.adds) refl (omega (arith, number)) (omega (arith, number, more))

  drawn_kept : (k : Option Handle) (o : RenderObject) → MountsIfDrawn r0 r at.above o k → (j : Handle) → IsNode (scattered r0) j → node_at (scattered r) j ≡ node_at (scattered r0) j
  drawn_kept None o same j live = ap (λ s. node_at (scattered s) j) same
  drawn_kept (Some k) o m j live =
      loose-keeps (scattered r0) (scattered r) k (new_object o.number o.widget) 0 (scattered_adds r0 r at.above (length (children_below r0 at.above)) k o m.adds) j live

  drawn_inactive : (k : Option Handle) (o : RenderObject) → MountsIfDrawn r0 r at.above o k → r.inactive ≡ r0.inactive
  drawn_inactive None o same = ap (λ s. s.inactive) same
  drawn_inactive (Some k) o m = m.inactive

  pub has_grown : (k : Option Handle) → MountsWidget fields at w place t0 t r0 r g0 g h output k → HasGrown t0 t r0 r
  has_grown k m = record {
    stay = stays t0 t at.parent h (element k) m.element;
    stay_drawn = drawn_stay k (object k) m.render;
    makes = drawn_made k (object k) refl (one_more k m) m.render;
    keeps = drawn_kept k (object k) m.render;
    inactive = m.element.inactive;
    inactive_drawn = drawn_inactive k (object k) m.render;
  }

  -- ---- what is ready

  drawn_used : (k : Option Handle) (o : RenderObject) → MountsIfDrawn r0 r at.above o k → used_count r.nodes + retired_count r.nodes ≤ used_count r0.nodes + retired_count r0.nodes + 1
  drawn_used None o same =
      let used : used_count r.nodes ≡ used_count r0.nodes = ap (λ s. used_count s.nodes) same in
      let retired : retired_count r.nodes ≡ retired_count r0.nodes = ap (λ s. retired_count s.nodes) same in
      omega (arith, used, retired)
  drawn_used (Some k) o m = let used = m.adds.used in let retired = m.adds.retired in omega (arith, used, retired)

  pub is_ready : (limit n : ℕ) (k : Option Handle) → MountsWidget fields at w place t0 t r0 r g0 g h output k → HasRoom limit n t0 r0 → IsReadyToMount limit (n + 1) g t r
  is_ready limit n k m room = record {
    room = record {
      elements = let used = m.element.adds.used in let retired = m.element.adds.retired in let before = room.elements in omega (arith, used, retired, before);
      renders = let more = drawn_used k (object k) m.render in let before = room.renders in omega (arith, more, before);
    };
    names = m.noted.names;
    met = m.noted.met;
  }

  pub is_undrawn : (k : Option Handle) → MountsWidget fields at w place t0 t r0 r g0 g h output k → k ≡ None → r ≡ r0
  is_undrawn k m absent = subst (MountsIfDrawn r0 r at.above (object k)) absent m.render

  -- ---- it is mounted

  seen_so : (k : Option Handle) (o : RenderObject) → IsSome k → MountsIfDrawn r0 r at.above o k → (j : Handle) × (k ≡ Some j) × (object_at r j ≡ Some o) × (object_at r0 j ≡ None)
  seen_so None o live m = absurd (cc)
  seen_so (Some k) o live m = (k, refl, stored_there r0 r at.above k o m, absent_before r0 r at.above k o m)

  renders_hidden : (k : Option Handle) → MountsWidget fields at w place t0 t r0 r g0 g h output k → vanishes (render_role_of (look_of w)) ≡ true → (d : Forest RenderObject) → Is r0 d
      → Is r (put_last at.above (mounted at.role at.told (tree h (element k) none none)) d)
  renders_hidden k m hidden d is =
      let same : r ≡ r0 = is_undrawn k m (m.unseen hidden) in
      subst (Is r) (sym (ap (λ f. put_last at.above f d) (mounted_through at.role at.told h (element k) none hidden) ∙ put_nothing at.above d)) (subst (λ s. Is s d) (sym same) is)

  renders_shown : (k : Option Handle) (e : Element) → e.render ≡ k → vanishes (render_role_of (look_of e.widget)) ≡ false → IsSome k → MountsIfDrawn r0 r at.above (drawn_object e (told_at at.role at.told e.index)) k
      → (d : Forest RenderObject) → Is r0 d → Is r (put_last at.above (mounted at.role at.told (tree h e none none)) d)
  renders_shown None e named shown live m d is = absurd (cc)
  renders_shown (Some k) e named shown live m d is = subst (λ f. Is r (put_last at.above f d)) (sym (mounted_drawn at.role at.told h e none k shown named)) (m.plain d is)

  module _ (b : Blueprint) (pasts : Pasts) (values : List Value) (scrolled : ℕ → ℕ) (n : ℕ) (k : Option Handle) (m : MountsWidget fields at w place t0 t r0 r g0 g h output k) (room : nat_le b.nodes n ≡ false)
      (firsts : fields ≡ first_fields b (build_role_of (look_of w))) (given : (u : Progress) → given_by b (build_role_of (look_of w)) values (made_count t0 + 1) fields w u ≡ gives (given_of w output) u)
      (apart_so : (u : Progress) → apart (given_of w output) u ≡ gives (given_of w output) u)
      (stores : (p : ℕ) (props : List Value) → build_role_of (look_of w) ≡ composes p props → option_to_list output ≡ given_of w output) (unscrolled : IsUnscrolled (made_count t0 + 1) scrolled) where
    abbrev met : Progress
    met = record { entered = n; met = λ j. is_met g j; next = made_count t0 + 1; waiting = [] }

    after_so : counted None met ≡ progress_at (n + 1) g t
    after_so =
        let more = one_more k m in
        let entered : suc n ≡ n + 1 = omega arith in
        let next : suc (made_count t0 + 1) ≡ made_count t + 1 = omega (arith, more) in
        λ i. record { entered = entered i; met = λ j. is_met g j; next = next i; waiting = [] }

    pub is_mounted : IsMounted b pasts values scrolled at w place (progress_at n g0 t0) (progress_at (n + 1) g t) t0 t r0 r h output k
    is_mounted = record {
      opening = opening (partner_of (holder_in None) (arrival w place None)) (made_count t0 + 1) fields (given_of w output);
      is = new_opened b pasts values w place (progress_at n g0 t0) met room (m.noted.once (progress_at n g0 t0) refl) (made_count t0 + 1) fields refl firsts (given_of w output) given
          (progress_at (n + 1) g t) apart_so after_so;
      partner = new_alone w place;
      given = refl;
      element = element k;
      for = element_for scrolled w place (made_count t0 + 1) fields (given_of w output) (element k) refl refl refl refl (unscrolled (made_count t0 + 1) (omega arith))
          (stores_given (build_role_of (look_of w)) (element k) (given_of w output) stores);
      clean = refl;
      stored = stored_there t0 t at.parent h (element k) m.element;
      absent = absent_before t0 t at.parent h (element k) m.element;
      render = refl;
      unseen = m.unseen;
      seen = λ shown. seen_so k (object k) (m.seen shown) m.render;
      elements = m.element.plain;
      renders = λ d is. elim (cases_Bool (vanishes (render_role_of (look_of w)))) [
        | inl hidden ↦ renders_hidden k m hidden d is
        | inr shown ↦ renders_shown k (element k) refl shown (m.seen shown) m.render d is
      ];
    }

-- what is recorded is all that counts of the registry before
pub mounts_since : (fields : List Value) (at : WalkPlace) (w : PlainWidget) (place : ℕ) (t0 t : Tree Element) (r0 r : Tree RenderObject) (was g0 g : Registry) (h : Handle) (output : Option PlainWidget) (k : Option Handle)
    → IsNoted w was g t → MountsWidget fields at w place t0 t r0 r g0 g h output k → MountsWidget fields at w place t0 t r0 r was g h output k
mounts_since fields at w place t0 t r0 r was g0 g h output k noted m = record { element = m.element; render = m.render; unseen = m.unseen; seen = m.seen; noted = noted }
