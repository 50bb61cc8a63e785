-- A number's node is a Viewport in the tree of a build exactly where it was one before.
use Rattle.std.proofs.Common.{◌≡◌, ℕ, ◌==◌, Bool, true, false, cond, Option, Some, None, IfSome, option_map, List, [], ◌∷◌, ◌++◌, length, refl, sym, ap, subst, ◌∙◌, inl, inr}
use Rattle.std.specs.Option.{option_or}
use Rattle.fx_expr.specs.declared.values.Value.{Value}
use Rattle.widget_model.specs.Look.{Look, viewport}
use Rattle.widget_model.specs.Plain.{PlainWidget, look_of}
use Rattle.widget_model.specs.WidgetType.{type_of}
use Rattle.work_roles.specs.Place.{RegionPlace, at_root, below}
use Rattle.work_roles.specs.WorkRole.{is_viewport}
use Rattle.plain_tree.specs.declared.render.ParentData.{ParentData}
use Rattle.plain_tree.specs.declared.role.RenderRole.{RenderRole}
use Rattle.plain_tree.specs.declared.role.RenderRole.TheVariants.{Plain}
use Rattle.plain_tree.specs.PlainNode.{PlainNode, node, PlainNodes, no_nodes, more_nodes, widget_of}
use Rattle.plain_tree.specs.Projection.{projected, projected_all, render_of, told_at, told_by}
use Rattle.plain_tree.specs.Render.{Render, render, Renders, no_renders, more_renders, renders_of}
use Rattle.plain_tree.specs.RenderRole.{render_role_of, vanishes}
use Rattle.build_form.specs.Entering.{Blueprint}
use Rattle.build_form.specs.KeptStates.{HadOrIsNew, EachIs, AllAre}
use Rattle.build_form.specs.Numbered.{IsNumbered}
use Rattle.screen_owner.specs.Last.{LastNode, drawn_at, drawn_in}
use Rattle.session_form.specs.Framing.{top_of}
use Rattle.work_sets.specs.Before.{Before}
use Rattle.work_sets.specs.InTree.{Standing, standing, standing_at, standing_in, look_of as look_in}
use Rattle.work_sets.specs.Work.{render_root}
use Rattle.counted_work.specs.Windows.{WindowsStay, AllWindowsStay}
use Rattle.frame_owner.proofs.Finding.{head_is, none_is, more_is, own_render}
use Rattle.frame_session.proofs.GoingLemmas.{was_drawn, free_drawn}

no_some : {A : Type 0} {a : A} → Some a ≡ None → ⊥
no_some e = cc

some_same : {a b : Look} → Some a ≡ Some b → a ≡ b
some_same e = cc

looks_window : (a b : Look) → type_of a ≡ type_of b → is_viewport a ≡ is_viewport b
looks_window (viewport a0) (viewport b0) same = refl
looks_window (viewport a0) b same = cc
looks_window a (viewport b0) same = cc
looks_window a b same = refl

-- ---- what stands with a number is what is drawn with it

abbrev stood_look : Standing → Look
stood_look was = look_in was.node

abbrev drawn_look : LastNode → Look
drawn_look d = d.look

look_if : (b : Bool) (s : Standing) (d : LastNode) (x : Option Standing) (y : Option LastNode) → stood_look s ≡ drawn_look d → option_map stood_look x ≡ option_map drawn_look y
    → option_map stood_look (cond b (Some s) x) ≡ option_map drawn_look (cond b (Some d) y)
look_if true s d x y e f = ap (λ (l : Look). Some l) e
look_if false s d x y e f = f

look_or : (a c : Option Standing) (b d : Option LastNode) → option_map stood_look a ≡ option_map drawn_look b → option_map stood_look c ≡ option_map drawn_look d
    → option_map stood_look (option_or a c) ≡ option_map drawn_look (option_or b d)
look_or None c None d e f = f
look_or None c (Some y) d e f = absurd (no_some (sym e))
look_or (Some x) c None d e f = absurd (no_some e)
look_or (Some x) c (Some y) d e f = e

mutual
  same_look : (wanted : ℕ) (p : RegionPlace) (r : Render) → option_map stood_look (standing_at wanted p r) ≡ option_map drawn_look (drawn_at wanted r)
  same_look wanted p (render number look told scroll count children) =
      look_if (number == wanted) (record { place = p; node = render number look told scroll count children }) (record { look = look; scroll = scroll })
      (standing_in wanted (below p look) children) (drawn_in wanted children) refl (same_looks wanted (below p look) children)

  same_looks : (wanted : ℕ) (p : RegionPlace) (rs : Renders) → option_map stood_look (standing_in wanted p rs) ≡ option_map drawn_look (drawn_in wanted rs)
  same_looks wanted p no_renders = refl
  same_looks wanted p (more_renders r rs) =
      look_or (standing_at wanted p r) (standing_in wanted p rs) (drawn_at wanted r) (drawn_in wanted rs) (same_look wanted p r) (same_looks wanted p rs)

alone : {A : Type 0} (o : Option A) → option_or o None ≡ o
alone None = refl
alone (Some x) = refl

one_root : (rs : List Render) → length rs ≡ 1 → rs ≡ top_of rs ∷ []
one_root [] e = absurd (cc)
one_root (r ∷ []) e = refl
one_root (r ∷ (q ∷ rs)) e = absurd (cc)

-- of the one render node of a tree
root_look : (wanted : ℕ) (n : PlainNode) → length (render_of n) ≡ 1 → option_map stood_look (standing_at wanted at_root (render_root n)) ≡ option_map drawn_look (drawn_in wanted (renders_of (render_of n)))
root_look wanted n single =
    same_look wanted at_root (render_root n)
    ∙ (ap (option_map drawn_look) (sym (alone (drawn_at wanted (render_root n)))) ∙ ap (λ (rs : List Render). option_map drawn_look (drawn_in wanted (renders_of rs))) (sym (one_root (render_of n) single)))

-- ---- one node of a build

module _ (b : Blueprint) (next : ℕ) where
  stays_window : (o : Option PlainNode) → IfSome o (IsNumbered next) → IfSome o (λ n. length (render_of n) ≡ 1)
      → (number : ℕ) (widget : PlainWidget) (fields : List Value) (scroll : ℕ) → vanishes (render_role_of (look_of widget)) ≡ false → HadOrIsNew b o next number widget fields scroll
      → (was : Standing) → standing (option_map render_root o) number ≡ Some was → is_viewport (look_in was.node) ≡ is_viewport (look_of widget)
  stays_window None numbered single number widget fields scroll shows had was e = absurd (no_some (sym e))
  stays_window (Some n) numbered single number widget fields scroll shows (inl had) was e =
      let drawn = was_drawn next n had.0 number widget numbered had.1 shows had.2.type in
      let same : look_in was.node ≡ look_of (widget_of had.0) =
      some_same (sym (ap (option_map stood_look) e) ∙ (root_look number n single ∙ ap (option_map drawn_look) drawn)) in
      ap is_viewport same ∙ looks_window (look_of (widget_of had.0)) (look_of widget) had.2.type
  stays_window (Some n) numbered single number widget fields scroll shows (inr new) was e =
      absurd (no_some (sym (ap (option_map stood_look) e) ∙ (root_look number n single ∙ ap (option_map drawn_look) (free_drawn next (Some n) number numbered new.number_free))))

  -- ---- all of them

  module _ (before : Before) (old : Option PlainNode) (was : before.tree ≡ option_map render_root old) (numbered : IfSome old (IsNumbered next)) (single : IfSome old (λ n. length (render_of n) ≡ 1)) where
    either_stay : (v : Bool) (xs ys : List Render) → AllWindowsStay before (renders_of xs) → (v ≡ false → AllWindowsStay before (renders_of ys)) → AllWindowsStay before (renders_of (cond v xs ys))
    either_stay true xs ys h k = h
    either_stay false xs ys h k = k refl

    append_stay : (xs ys : List Render) → AllWindowsStay before (renders_of xs) → AllWindowsStay before (renders_of ys) → AllWindowsStay before (renders_of (xs ++ ys))
    append_stay [] ys h k = k
    append_stay (x ∷ xs) ys h k = (h.0, append_stay xs ys h.1 k)

    mutual
      each_stays : (above : RenderRole) (told : Option ParentData) (n : PlainNode) → EachIs (HadOrIsNew b old next) n → AllWindowsStay before (renders_of (projected above told n))
      each_stays above told (node number widget fields scroll index children) h =
          let role = render_role_of (look_of widget) in
          let among : Option ParentData = Some (told_by above role (told_at above told index)) in
          subst (λ (rs : List Render). AllWindowsStay before (renders_of rs)) (sym (head_is above told number widget fields scroll index children))
          (either_stay (vanishes role) (projected_all above among children) (own_render above told number widget scroll index children ∷ []) (all_stay above among children h.1)
          (λ shows. (((λ st e. stays_window old numbered single number widget fields scroll shows h.0 st (ap (λ t. standing t number) (sym was) ∙ e)), all_stay role None children h.1), tt)))

      all_stay : (above : RenderRole) (told : Option ParentData) (ns : PlainNodes) → AllAre (HadOrIsNew b old next) ns → AllWindowsStay before (renders_of (projected_all above told ns))
      all_stay above told no_nodes h = subst (λ (rs : List Render). AllWindowsStay before (renders_of rs)) (sym (none_is above told)) tt
      all_stay above told (more_nodes n ns) h =
          subst (λ (rs : List Render). AllWindowsStay before (renders_of rs)) (sym (more_is above told n ns))
          (append_stay (projected above told n) (projected_all above told ns) (each_stays above told n h.0) (all_stay above told ns h.1))

    pub windows_stay : (made : PlainNode) (top : Render) → render_of made ≡ top ∷ [] → EachIs (HadOrIsNew b old next) made → WindowsStay before (render_root made)
    windows_stay made top is h =
        let all = subst (λ (rs : List Render). AllWindowsStay before (renders_of rs)) is (each_stays Plain None made h) in
        subst (λ (rs : List Render). WindowsStay before (top_of rs)) (sym is) all.0
