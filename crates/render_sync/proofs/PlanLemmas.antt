-- The plan for render nodes, and its forest.
use Rattle.std.proofs.Common.{◌≡◌, ℕ, ◌+◌, ◌≤◌, List, [], ◌∷◌, ◌++◌, Option, Some, length, take, zero, suc, refl, sym, ap, ◌∙◌, subst}
use Rattle.std.proofs.lemmas.List.{append_assoc, take_all}
use Rattle.std.proofs.Common.{append-nil}
use Rattle.fx_handles.specs.declared.Handle.{Handle}
use Rattle.node_tree.specs.Forest.{Forest, append, tops}
use Rattle.node_tree.specs.Forest.Forest.{none, tree}
use Rattle.node_tree.specs.Plan.{PlanEntry, entries}
use Rattle.widget_model.specs.declared.widgets.Widget.{Widget}
use Rattle.widget_model.specs.Plain.{look_of}
use Rattle.widget_model.specs.Plain.{children_of as child_widgets}
use Rattle.widget_model.specs.View.{plain_of, look_in}
use Rattle.plain_tree.specs.declared.render.ParentData.{ParentData}
use Rattle.plain_tree.specs.RenderRole.{render_role_of}
use Rattle.widget_model.specs.PlainLaws.{list_of-widgets_of}
use Rattle.plain_tree.specs.Render.{lazy_count, Render, render, renders_of, list_of}
use Rattle.render_tree.specs.Redraw.{Redraw}
use Rattle.render_sync.specs.Renders.{EachNumber, AllNumbers, AreDrawn}
use Rattle.render_sync.specs.Synced.{Plans}

entries_more : (p : Option Handle) (f g : Forest Redraw) → entries p (append f g) ≡ entries p f ++ entries p g
entries_more p none g = refl
entries_more p (tree h u kids rest) g =
    ap (λ l. entries (Some h) kids ++ (record { at = h; parent = p; children = tops kids; update = u } ∷ l)) (entries_more p rest g)
    ∙ sym (append_assoc (entries (Some h) kids) (record { at = h; parent = p; children = tops kids; update = u } ∷ entries p rest) (entries p g))

tops_more : (f g : Forest Redraw) → tops (append f g) ≡ tops f ++ tops g
tops_more none g = refl
tops_more (tree h u kids rest) g = ap (λ l. h ∷ l) (tops_more rest g)

module _ (find : ℕ → Option Handle) where
  drawn_more : (f g : Forest Redraw) (rs qs : List Render) → AreDrawn find f rs → AreDrawn find g qs → AreDrawn find (append f g) (rs ++ qs)
  drawn_more none g [] qs d e = e
  drawn_more none g (r ∷ rs) qs d e = absurd d
  drawn_more (tree h u kids rest) g [] qs d e = absurd d
  drawn_more (tree h u kids rest) g (render number look told scroll count children ∷ rs) qs d e = (d.0, d.1, drawn_more rest g rs qs d.2 e)

  pub plans_none : (p : Option Handle) (plan : List (PlanEntry Redraw)) (hs : List Handle) → Plans find p [] plan plan hs hs
  plans_none p plan hs = record { forest = none; drawn = tt; entries_are = sym (append-nil plan); tops_are = sym (append-nil hs) }

  pub plans_more : (p : Option Handle) (rs qs : List Render) (a b c : List (PlanEntry Redraw)) (hs ks ls : List Handle) → Plans find p rs a b hs ks → Plans find p qs b c ks ls → Plans find p (rs ++ qs) a c hs ls
  plans_more p rs qs a b c hs ks ls first then = record {
    forest = append first.forest then.forest;
    drawn = drawn_more first.forest then.forest rs qs first.drawn then.drawn;
    entries_are = then.entries_are ∙ ap (λ l. l ++ entries p then.forest) first.entries_are ∙ append_assoc a (entries p first.forest) (entries p then.forest) ∙ sym (ap (λ l. a ++ l) (entries_more p first.forest then.forest));
    tops_are = then.tops_are ∙ ap (λ l. l ++ tops then.forest) first.tops_are ∙ append_assoc hs (tops first.forest) (tops then.forest) ∙ sym (ap (λ l. hs ++ l) (tops_more first.forest then.forest));
  }

  plans_after : (p : Option Handle) (rs : List Render) (a b : List (PlanEntry Redraw)) (hs ks : List Handle) → Plans find p rs a b [] ks → Plans find p rs a b hs (hs ++ ks)
  plans_after p rs a b hs ks plans = record { forest = plans.forest; drawn = plans.drawn; entries_are = plans.entries_are; tops_are = ap (λ l. hs ++ l) plans.tops_are }

  -- one more of a list
  pub plans_next : (p : Option Handle) (i : ℕ) (rs : List Render) (r : Render) (a b c : List (PlanEntry Redraw)) (ks ls : List Handle) (h : Handle) → take (i + 1) rs ≡ take i rs ++ r ∷ []
      → Plans find p (take i rs) a b [] ks → Plans find p (r ∷ []) b c [] (h ∷ []) → ls ≡ ks ++ h ∷ [] → Plans find p (take (i + 1) rs) a c [] ls
  plans_next p i rs r a b c ks ls h taken first then more =
      subst (λ l. Plans find p l a c [] ls) (sym taken)
      (subst (λ l. Plans find p (take i rs ++ r ∷ []) a c [] l) (sym more) (plans_more p (take i rs) (r ∷ []) a b c [] ks (ks ++ h ∷ []) first (plans_after p (r ∷ []) b c ks (h ∷ []) then)))

  pub plans_all : (p : Option Handle) (i : ℕ) (rs : List Render) (a b : List (PlanEntry Redraw)) (ks : List Handle) → length rs ≤ i → Plans find p (take i rs) a b [] ks → Plans find p rs a b [] ks
  plans_all p i rs a b ks past plans = subst (λ l. Plans find p l a b [] ks) (take_all i rs past) plans

  -- a node over those below it
  pub plans_node : (p : Option Handle) (h : Handle) (u : Redraw) (r : Render) (rs : List Render) (a b c : List (PlanEntry Redraw)) (below : List Handle) (e : PlanEntry Redraw)
      → ((f : Forest Redraw) → AreDrawn find f rs → AreDrawn find (tree h u f none) (r ∷ []))
      → Plans find (Some h) rs a b [] below → e ≡ record { at = h; parent = p; children = below; update = u } → c ≡ b ++ e ∷ [] → Plans find p (r ∷ []) a c [] (h ∷ [])
  plans_node p h u r rs a b c below e draws inner entry more = record {
    forest = tree h u inner.forest none;
    drawn = draws inner.forest inner.drawn;
    entries_are = more ∙ ap (λ l. l ++ e ∷ []) inner.entries_are ∙ append_assoc a (entries (Some h) inner.forest) (e ∷ [])
        ∙ ap (λ x. a ++ (entries (Some h) inner.forest ++ (x ∷ []))) (entry ∙ ap (λ l. record { at = h; parent = p; children = l; update = u }) inner.tops_are);
    tops_are = refl;
  }

-- the numbers of one of a list
pub number_of_one : (P : ℕ → Type 0) (i : ℕ) (rs : List Render) (r : Render) → take (i + 1) rs ≡ take i rs ++ r ∷ [] → AllNumbers P (renders_of rs) → EachNumber P r
number_of_one P i rs r taken all = last_one (take i rs) (subst (λ l. AllNumbers P (renders_of l)) taken (first_ones (i + 1) rs all))
  where
    first_ones : (k : ℕ) (rs : List Render) → AllNumbers P (renders_of rs) → AllNumbers P (renders_of (take k rs))
    first_ones zero rs h = tt
    first_ones (suc k) [] h = tt
    first_ones (suc k) (r ∷ rs) h = (h.0, first_ones k rs h.1)

    last_one : (rs : List Render) → AllNumbers P (renders_of (rs ++ r ∷ [])) → EachNumber P r
    last_one [] h = h.0
    last_one (q ∷ rs) h = last_one rs h.1

list_of-renders_of : (rs : List Render) → list_of (renders_of rs) ≡ rs
list_of-renders_of [] = refl
list_of-renders_of (r ∷ rs) = ap (λ l. r ∷ l) (list_of-renders_of rs)

-- a render node is drawn by the update with its widget
pub draws_node : (find : ℕ → Option Handle) (h : Handle) (w v : Widget) (u : Redraw) (r : Render) (number scroll : ℕ) (told : ParentData) (items rs : List Render)
    → render number (look_in v.kind) told scroll (lazy_count (render_role_of (look_in v.kind)) v.children) (renders_of items) ≡ r → rs ≡ items → find number ≡ Some h
    → u ≡ record { widget = plain_of w; parent_data = told } → w ≡ v → (f : Forest Redraw) → AreDrawn find f rs → AreDrawn find (tree h u f none) (r ∷ [])
draws_node find h w v u r number scroll told items rs is same found update widget f drawn =
    let word : u.widget ≡ plain_of v = ap (λ (x : Redraw). x.widget) update ∙ ap plain_of widget in
    subst (λ q. AreDrawn find (tree h u f none) (q ∷ [])) is (
      record {
        found = found;
        look_is = ap look_of word;
        told_is = ap (λ (x : Redraw). x.parent_data) update;
        count_is = ap (λ x. lazy_count (render_role_of (look_in v.kind)) (child_widgets x)) word ∙ ap (lazy_count (render_role_of (look_in v.kind))) (list_of-widgets_of v.children);
      },
      subst (AreDrawn find f) (same ∙ sym (list_of-renders_of items)) drawn,
      tt,
    )
