-- Parts of a walk that follow one another are one, and a node is walked once what is below it is.
use Rattle.std.proofs.Common.{◌≡◌, ℕ, Bool, true, false, cond, Option, Some, None, List, [], ◌∷◌, ◌++◌, refl, sym, ap, ◌∙◌}
use Rattle.std.proofs.lemmas.List.{append_assoc}
use Rattle.fx_handles.specs.declared.Handle.{Handle}
use Rattle.node_tree.specs.Forest.{Forest, append, tops}
use Rattle.node_tree.specs.Forest.Forest.{none, tree}
use Rattle.node_tree.specs.Plan.{PlanEntry, entries}
use Rattle.node_tree.specs.Tree.{Tree}
use Rattle.plain_tree.specs.Projection.{told_at}
use Rattle.plain_tree.specs.RenderRole.{vanishes}
use Rattle.widget_model.specs.Plain.{look_of}
use Rattle.build_form.specs.BuildRole.{BuildRole, composes, provides, keeps, lists, holds, build_role_of, is_lazy}
use Rattle.build_form.specs.Entering.{Phase, first, second, waits}
use Rattle.element_tree.specs.Element.{Element, element_at}
use Rattle.render_tree.specs.Object.{RenderObject}
use Rattle.render_tree.specs.Tree.{object_at}
use Rattle.build_walk.specs.Merging.{lists_element, list_handles}
use Rattle.build_walk.specs.Renewing.{renewals, GoesOn, role_of, redraw_of, drawn_at, drawn, IsDrawn, Unless}
use Rattle.build_walk.specs.Serving.{WaitingList}
use Rattle.build_walk.specs.Walked.{WalkPlans, WalkPlace, waiting_handles, Walked, through, under, element_entry, render_entry, planned_through, planned_under, without_tops}
use Rattle.element_tree.specs.Renewal.{Renewal}
use Rattle.render_tree.specs.Redraw.{Redraw}
use Rattle.build_walk.proofs.Handling.{tops_mapped}
use Rattle.build_walk.proofs.Siblings.{renewals_append, drawn_append, handles_append, go_on_append, drawn_both, go_on_later, drawn_later}

pub no_more : {A : Type 0} (xs : List A) → xs ≡ xs ++ []
no_more [] = refl
no_more (x ∷ xs) = ap (λ l. x ∷ l) (no_more xs)

entries_append : {U : Type 0} (p : Option Handle) (f g : Forest U) → entries p (append f g) ≡ entries p f ++ entries p g
entries_append p none g = refl
entries_append p (tree h v kids rest) g =
    ap (λ l. entries (Some h) kids ++ (record { at = h; parent = p; children = tops kids; update = v } ∷ l)) (entries_append p rest g)
    ∙ sym (append_assoc (entries (Some h) kids) _ (entries p g))

pub tops_append : {U : Type 0} (f g : Forest U) → tops (append f g) ≡ tops f ++ tops g
tops_append none g = refl
tops_append (tree h v kids rest) g = ap (λ l. h ∷ l) (tops_append rest g)

-- what is added in two steps
pub added : {A : Type 0} (old mid new xs ys zs : List A) → mid ≡ old ++ xs → new ≡ mid ++ ys → zs ≡ xs ++ ys → new ≡ old ++ zs
added old mid new xs ys zs a b c = b ∙ ap (λ l. l ++ ys) a ∙ append_assoc old xs ys ∙ ap (λ l. old ++ l) (sym c)

none_waits : (phase : Phase) (hs : List Handle) → hs ≡ hs ++ waiting_handles phase none
none_waits first hs = no_more hs
none_waits second hs = no_more hs

waiting_append : (phase : Phase) (f g : Forest Element) → waiting_handles phase (append f g) ≡ waiting_handles phase f ++ waiting_handles phase g
waiting_append first f g = handles_append lists_element f g
waiting_append second f g = refl

waits_as : (r : BuildRole) → waits first r ≡ is_lazy r
waits_as (composes place props) = refl
waits_as (provides name value) = refl
waits_as (keeps kept) = refl
waits_as (lists extent) = refl
waits_as holds = refl

pub nothing_walked : (phase : Phase) (t : Tree Element) (r : Tree RenderObject) (scrolled : ℕ → ℕ) (at : WalkPlace) (p : WalkPlans) → Walked phase t r scrolled at p p none
nothing_walked phase t r scrolled at p = record {
  elements = no_more p.elements;
  renders = no_more p.renders;
  tops = no_more p.tops;
  lists = none_waits phase p.lists;
  go_on = tt;
  drawn = tt;
}

pub walked_both : (phase : Phase) (t u : Tree Element) (r s : Tree RenderObject) (scrolled : ℕ → ℕ) (at : WalkPlace) (old mid new : WalkPlans) (f g : Forest Element)
    → ((h : Handle) (e : Element) → element_at t h ≡ Some e → element_at u h ≡ Some e) → ((h : Handle) (o : RenderObject) → object_at r h ≡ Some o → object_at s h ≡ Some o)
    → Walked phase t r scrolled at old mid f → Walked phase u s scrolled at mid new g → Walked phase u s scrolled at old new (append f g)
walked_both phase t u r s scrolled at old mid new f g stays also a b = record {
  elements = added old.elements mid.elements new.elements (entries at.parent (renewals f)) (entries at.parent (renewals g)) _ a.elements b.elements
      (ap (entries at.parent) (renewals_append f g) ∙ entries_append at.parent (renewals f) (renewals g));
  renders = added old.renders mid.renders new.renders (entries at.above (drawn at.role at.told f)) (entries at.above (drawn at.role at.told g)) _ a.renders b.renders
      (ap (entries at.above) (drawn_append at.role at.told f g) ∙ entries_append at.above (drawn at.role at.told f) (drawn at.role at.told g));
  tops = added old.tops mid.tops new.tops (tops (drawn at.role at.told f)) (tops (drawn at.role at.told g)) _ a.tops b.tops
      (ap tops (drawn_append at.role at.told f g) ∙ tops_append (drawn at.role at.told f) (drawn at.role at.told g));
  lists = added old.lists mid.lists new.lists (waiting_handles phase f) (waiting_handles phase g) _ a.lists b.lists (waiting_append phase f g);
  go_on = go_on_append (element_at u) f g (go_on_later (element_at t) (element_at u) stays f a.go_on) b.go_on;
  drawn = drawn_both (object_at s) scrolled f g (drawn_later (object_at r) (object_at s) scrolled also f a.drawn) b.drawn;
}

-- ---- a node

append_none : {U : Type 0} (f : Forest U) → append f none ≡ f
append_none none = refl
append_none (tree h v kids rest) = ap (tree h v kids) (append_none rest)

unless_true : (b : Bool) (P : Type 0) → b ≡ true → Unless b P
unless_true true P e = tt
unless_true false P e = cc

unless_this : (b : Bool) (P : Type 0) → P → Unless b P
unless_this true P p = tt
unless_this false P p = p

module _ (phase : Phase) (t : Tree Element) (r : Tree RenderObject) (scrolled : ℕ → ℕ) (at : WalkPlace) (h : Handle) (e : Element) (kids : Forest Element) (goes : GoesOn (element_at t) h e) where
  element_planned : (old mid : List (PlanEntry Renewal)) → mid ≡ old ++ entries (Some h) (renewals kids) → mid ++ element_entry at h e (tops kids) ∷ [] ≡ old ++ entries at.parent (renewals (tree h e kids none))
  element_planned old mid is =
      ap (λ l. l ++ element_entry at h e (tops kids) ∷ []) is
      ∙ append_assoc old (entries (Some h) (renewals kids)) (element_entry at h e (tops kids) ∷ [])
      ∙ ap (λ hs. old ++ (entries (Some h) (renewals kids) ++ element_entry at h e hs ∷ [])) (sym (tops_mapped kids))

  module _ (vanishing : vanishes (role_of e) ≡ true) (plain : lists_element e ≡ false) where
    drawn_through : drawn at.role at.told (tree h e kids none) ≡ drawn (through at h e).role (through at h e).told kids
    drawn_through =
        ap (λ b. append (cond b (drawn at.role (through at h e).told kids) (drawn_at e.render (redraw_of e (told_at at.role at.told e.index)) (drawn (role_of e) None kids))) none) vanishing
        ∙ append_none (drawn at.role (through at h e).told kids)

    list_through : (p : Phase) → waiting_handles p (tree h e kids none) ≡ waiting_handles p kids
    list_through first = ap (λ b. cond b (h ∷ []) (list_handles lists_element kids) ++ []) plain ∙ sym (no_more (list_handles lists_element kids))
    list_through second = refl

    pub through_walked : (old mid : WalkPlans) → Walked phase t r scrolled (through at h e) old mid kids → Walked phase t r scrolled at old (planned_through at h e (tops kids) mid) (tree h e kids none)
    through_walked old mid w = record {
      elements = element_planned old.elements mid.elements w.elements;
      renders = w.renders ∙ ap (λ d. old.renders ++ entries at.above d) (sym drawn_through);
      tops = w.tops ∙ ap (λ d. old.tops ++ tops d) (sym drawn_through);
      lists = w.lists ∙ ap (λ l. old.lists ++ l) (sym (list_through phase));
      go_on = (goes, w.go_on, tt);
      drawn = (unless_true (vanishes (role_of e)) (IsDrawn (object_at r) (scrolled e.number) e) vanishing, w.drawn, tt);
    }

  module _ (k : Handle) (own : vanishes (role_of e) ≡ false) (is : IsDrawn (object_at r) (scrolled e.number) e) (named : e.render ≡ Some k) where
    abbrev redraw : Redraw
    redraw = redraw_of e (told_at at.role at.told e.index)

    drawn_under : drawn at.role at.told (tree h e kids none) ≡ tree k redraw (drawn (role_of e) None kids) none
    drawn_under =
        ap (λ b. append (cond b (drawn at.role (through at h e).told kids) (drawn_at e.render redraw (drawn (role_of e) None kids))) none) own
        ∙ ap (λ o. append (drawn_at o redraw (drawn (role_of e) None kids)) none) named

    list_first : (b : Bool) (old mid : List Handle) → mid ≡ old ++ list_handles lists_element kids
        → cond b (old ++ h ∷ []) mid ≡ old ++ (cond b (h ∷ []) (list_handles lists_element kids) ++ [])
    list_first true old mid m = refl
    list_first false old mid m = m ∙ ap (λ l. old ++ l) (no_more (list_handles lists_element kids))

    lists_when : (p : Phase) (old mid : List Handle) → mid ≡ old ++ waiting_handles p kids
        → cond (waits p (build_role_of (look_of e.widget))) (old ++ h ∷ []) mid ≡ old ++ waiting_handles p (tree h e kids none)
    lists_when first old mid m = ap (λ b. cond b (old ++ h ∷ []) mid) (waits_as (build_role_of (look_of e.widget))) ∙ list_first (lists_element e) old mid m
    lists_when second old mid m = m

    pub under_walked : (itself : WaitingList) (old mid : WalkPlans) → Walked phase t r scrolled (under h k e) (without_tops old) mid kids
        → Walked phase t r scrolled at old (planned_under phase at h k e itself (tops kids) old mid) (tree h e kids none)
    under_walked itself old mid w = record {
      elements = element_planned old.elements mid.elements w.elements;
      renders =
          ap (λ l. l ++ render_entry at k e mid.tops ∷ []) w.renders
          ∙ append_assoc old.renders (entries (Some k) (drawn (role_of e) None kids)) (render_entry at k e mid.tops ∷ [])
          ∙ ap (λ hs. old.renders ++ (entries (Some k) (drawn (role_of e) None kids) ++ render_entry at k e hs ∷ [])) w.tops
          ∙ ap (λ d. old.renders ++ entries at.above d) (sym drawn_under);
      tops = ap (λ d. old.tops ++ tops d) (sym drawn_under);
      lists = lists_when phase old.lists mid.lists w.lists;
      go_on = (goes, w.go_on, tt);
      drawn = (unless_this (vanishes (role_of e)) (IsDrawn (object_at r) (scrolled e.number) e) is, w.drawn, tt);
    }
