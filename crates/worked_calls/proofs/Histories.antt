-- A screen that showed a build can show the next one.
use Rattle.std.proofs.Common.{◌≡◌, ◌==◌, ℕ, Bool, true, false, cond, Option, Some, None, option_and_then, unwrap_or, refl, sym, ap, ◌∙◌, subst, ◌⊎◌, inl, inr, eqb-true}
use Rattle.std.proofs.lemmas.Bool.{cases_Bool, false≢true}
use Rattle.std.specs.Option.{option_or}
use Rattle.fx_handles.specs.ArenaLaws.{same_Some}
use Rattle.widget_model.specs.Look.{Look}
use Rattle.plain_tree.specs.Offsets.{of_window, rescrolled}
use Rattle.plain_tree.specs.Render.{Render, render, Renders, no_renders, more_renders}
use Rattle.plain_tree.specs.declared.role.RenderRole.{RenderRole}
use Rattle.plain_tree.specs.declared.role.RenderRole.TheVariants.{Composes, Shares, Places, Line, Pile, Lazy, Window, Plain}
use Rattle.plain_tree.specs.RenderRole.{render_role_of, is_window}
use Rattle.layout_form.specs.Corrected.{render_scrolled_by, renders_scrolled_by}
use Rattle.screen_owner.specs.Last.{LastNode, drawn_at, drawn_in, GoesOnFrom, GoOn, AllGoOn}
use Rattle.worked_calls.specs.Grown.{scrolls, IsTame, IsTameAt, EachNode, EachOf}
use Rattle.worked_calls.specs.Histories.{scrolled_in}

-- ---- what a frame and a scroll leave

steady : (role : RenderRole) (offset : Option ℕ) (before : ℕ) → is_window role ≡ false → rescrolled role offset before ≡ before
steady Composes offset before e = refl
steady (Shares flex tight) offset before e = refl
steady (Places placed) offset before e = refl
steady Line offset before e = refl
steady Pile offset before e = refl
steady Lazy offset before e = refl
steady Window offset before e = absurd (false≢true (sym e))
steady Plain offset before e = refl

mutual
  pub tame_of : (s : ℕ) (r : Render) → EachNode (IsTameAt s) r → EachNode IsTame r
  tame_of s (render number look told scroll count children) each = (each.0.tame, tame_in s children each.1)

  tame_in : (s : ℕ) (rs : Renders) → EachOf (IsTameAt s) rs → EachOf IsTame rs
  tame_in s no_renders each = tt
  tame_in s (more_renders r rs) each = (tame_of s r each.0, tame_in s rs each.1)

mutual
  pub scrolled_tame : (offset : ℕ → Option ℕ) (r : Render) → EachNode IsTame r → EachNode IsTame (render_scrolled_by offset r)
  scrolled_tame offset (render number look told scroll count children) each = (
    record {
      edge = each.0.edge;
      window = each.0.window;
      still = λ e. steady (render_role_of look) (offset number) scroll (each.0.window ∙ e) ∙ each.0.still e;
    },
    all_scrolled_tame offset children each.1,
  )

  pub all_scrolled_tame : (offset : ℕ → Option ℕ) (rs : Renders) → EachOf IsTame rs → EachOf IsTame (renders_scrolled_by offset rs)
  all_scrolled_tame offset no_renders each = tt
  all_scrolled_tame offset (more_renders r rs) each = (scrolled_tame offset r each.0, all_scrolled_tame offset rs each.1)

-- ---- what the next build needs

no_node : (d : LastNode) → None ≡ Some d → ⊥
no_node d e = cc

either : (o p : Option LastNode) (d : LastNode) → option_or o p ≡ Some d → (o ≡ Some d) ⊎ (p ≡ Some d)
either (Some x) p d e = inl e
either None p d e = inr e

mutual
  tame_at : (n : ℕ) (r : Render) → EachNode IsTame r → (d : LastNode) → drawn_at n r ≡ Some d → IsTame n d.look d.scroll
  tame_at n (render number look told scroll count children) each d e = by_number (tame_among n children each.1 d) (number == n) refl
    where
      here : LastNode
      here = record { look = look; scroll = scroll }

      found : (b : Bool) → (number == n) ≡ b → cond b (Some here) (drawn_in n children) ≡ Some d
      found b is = ap (λ (c : Bool). cond c (Some here) (drawn_in n children)) (sym is) ∙ e

      by_number : (drawn_in n children ≡ Some d → IsTame n d.look d.scroll) → (b : Bool) → (number == n) ≡ b → IsTame n d.look d.scroll
      by_number below true is =
          subst (λ (x : LastNode). IsTame n x.look x.scroll) (same_Some (found true is)) (subst (λ (k : ℕ). IsTame k look scroll) (eqb-true number n is) each.0)
      by_number below false is = below (found false is)

  tame_among : (n : ℕ) (rs : Renders) → EachOf IsTame rs → (d : LastNode) → drawn_in n rs ≡ Some d → IsTame n d.look d.scroll
  tame_among n no_renders each d e = absurd (no_node d e)
  tame_among n (more_renders r rs) each d e = elim (either (drawn_at n r) (drawn_in n rs) d e) [
    | inl first ↦ tame_at n r each.0 d first
    | inr later ↦ tame_among n rs each.1 d later
  ]

of_a_window : (role : RenderRole) (scroll : ℕ) → is_window role ≡ true → of_window role scroll ≡ Some scroll
of_a_window Composes scroll e = absurd (false≢true e)
of_a_window (Shares flex tight) scroll e = absurd (false≢true e)
of_a_window (Places placed) scroll e = absurd (false≢true e)
of_a_window Line scroll e = absurd (false≢true e)
of_a_window Pile scroll e = absurd (false≢true e)
of_a_window Lazy scroll e = absurd (false≢true e)
of_a_window Window scroll e = refl
of_a_window Plain scroll e = absurd (false≢true e)

module _ (last : Renders) (tame : EachOf IsTame last) where
  -- how far the last frame's Viewport is scrolled, if it has one
  abbrev of_found : Option LastNode → ℕ
  of_found o = unwrap_or (option_and_then (λ (d : LastNode). of_window (render_role_of d.look) d.scroll) o) 0

  scroll_found : (d : LastNode) (number : ℕ) → drawn_in number last ≡ Some d → scrolls number ≡ true → scrolled_in last ≡ d.scroll
  scroll_found d number found is =
      ap (λ (k : ℕ). of_found (drawn_in k last)) (sym (eqb-true number 9 is))
      ∙ (ap of_found found ∙ ap (λ (o : Option ℕ). unwrap_or o 0) (of_a_window (render_role_of d.look) d.scroll ((tame_among number last tame d found).window ∙ is)))

  scroll_new : (number : ℕ) → drawn_in number last ≡ None → scrolls number ≡ true → scrolled_in last ≡ 0
  scroll_new number none is = ap (λ (k : ℕ). of_found (drawn_in k last)) (sym (eqb-true number 9 is)) ∙ ap of_found none

  goes_on_from : (number : ℕ) (look : Look) (scroll : ℕ) → IsTameAt (scrolled_in last) number look scroll → GoesOnFrom last number look scroll
  goes_on_from number look scroll is = record {
    was = λ d found. (same_scroll d found, (tame_among number last tame d found).edge ∙ sym is.tame.edge);
    new = λ none. elim (cases_Bool (scrolls number)) [
      | inl e ↦ is.at e ∙ scroll_new number none e
      | inr e ↦ is.tame.still e
    ];
  }
    where
      same_scroll : (d : LastNode) → drawn_in number last ≡ Some d → d.scroll ≡ scroll
      same_scroll d found = elim (cases_Bool (scrolls number)) [
        | inl e ↦ sym (is.at e ∙ scroll_found d number found e)
        | inr e ↦ (tame_among number last tame d found).still e ∙ sym (is.tame.still e)
      ]

  mutual
    pub goes_on : (r : Render) → EachNode (IsTameAt (scrolled_in last)) r → GoOn last r
    goes_on (render number look told scroll count children) each = (goes_on_from number look scroll each.0, all_go_on children each.1)

    all_go_on : (rs : Renders) → EachOf (IsTameAt (scrolled_in last)) rs → AllGoOn last rs
    all_go_on no_renders each = tt
    all_go_on (more_renders r rs) each = (goes_on r each.0, all_go_on rs each.1)
