-- A whole frame: what is flagged for painting once it was brought and laid out.
use Rattle.std.proofs.Common.{◌≡◌, true, false, ◌||◌, Option, Some, None, option_map, List, [], ◌∷◌, refl, sym, ap, ◌∙◌, subst, inl, inr, ◌⊎◌, arith, Decides}
use Rattle.std.proofs.lemmas.Bool.{cases_Bool, or_left, or_from, false≢true}
use Rattle.delegates.specs.Table.{Plug}
use Rattle.fx_handles.specs.declared.Handle.{Handle}
use Rattle.fx_handles.specs.Handle.{same, Among}
use Rattle.fx_handles.specs.HandleLaws.{same-true, cases_same, times-cons, times_here, times_there}
use Rattle.node_tree.specs.Forest.{TreeNode, Forest, tops, Stands}
use Rattle.node_tree.specs.Forest.Forest.{none, tree}
use Rattle.node_tree.specs.Tree.{Tree, node_at, children_at, children_of}
use Rattle.widget_model.specs.Look.{Look}
use Rattle.plain_tree.specs.Laid.{Laid}
use Rattle.tree_marks.specs.Marks.{listed, has_listed}
use Rattle.tree_marks.proofs.Closing.{either}
use Rattle.work_roles.specs.Place.{RegionPlace, at_root, below}
use Rattle.work_sets.specs.Before.{Before}
use Rattle.work_sets.specs.InTree.{standing}
use Rattle.work_sets.specs.Members.{is_same_look}
use Rattle.work_sets.specs.Paint.{Shows, asks_paint, differs_since, group_asks}
use Rattle.layout_rules.specs.Nodes.{layout_node, layout_nodes}
use Rattle.layout_rules.specs.Painting.{KeepsRest, LooksSame, own_in, place_in}
use Rattle.layout_rules.specs.Reads.{state_at, state_or}
use Rattle.layout_walk.specs.Node.{LayoutNode}
use Rattle.render_tree.specs.declared.layout_state.LayoutState.{LayoutState}
use Rattle.render_tree.specs.LayoutState.{layout_state_of}
use Rattle.render_tree.specs.Object.{RenderObject, object_look}
use Rattle.build_walk.specs.Changing.{render_over}
use Rattle.layout_owner.specs.Left.{LeftIf, AreLeft}
use Rattle.counted_work.specs.Painted.{FlagsAsked, RootFlagsAsked}
use Rattle.counted_work.specs.Shows.{PluggedAsBefore, LookOtherwise}
use Rattle.counted_work.proofs.Relaid.{same_lists}
use Rattle.counted_work.proofs.Repaint.{StayQuiet}

-- ---- where nothing was there before, all asks

new_asks : (before : Before) (shows : Shows) (p : RegionPlace) (w : RenderObject) (under : Forest RenderObject) → before.tree ≡ None → group_asks (asks_paint before shows) p (render_over w under) ≡ true
new_asks before shows p w under was = or_left (asks_paint before shows p (render_over w under)) _ (or_left _ _ (ap (λ t. differs_since (standing t w.number) p (render_over w under)) was))

all_new : (before : Before) (shows : Shows) (p : RegionPlace) (f : Forest RenderObject) → before.tree ≡ None → FlagsAsked (asks_paint before shows) p f
all_new before shows p none was = tt
all_new before shows p (tree h o kids rest) was =
    ((λ shown. ((λ boundary flag. new_asks before shows p o kids was), (λ opened. all_new before shows (below p (object_look o)) kids was))), all_new before shows p rest was)

pub first_asked : (before : Before) (shows : Shows) (f : Forest RenderObject) → before.tree ≡ None → RootFlagsAsked (asks_paint before shows) f
first_asked before shows none was = tt
first_asked before shows (tree h o kids rest) was = ((λ flag. new_asks before shows at_root o kids was), (λ opened. all_new before shows (below at_root (object_look o)) kids was))

-- ---- what a layout leaves alone

state_of : LayoutNode → LayoutState
state_of v = record {
  scroll = v.scroll;
  frame = v.frame;
  notes = v.notes;
  plugged = v.plugged;
  scrolled = v.scrolled;
  offset = v.offset;
  shown = v.shown;
  needs_layout = v.needs_layout;
  layout_below = v.layout_below;
}

state_same : (w v : RenderObject) → layout_node w ≡ layout_node v → layout_state_of w ≡ layout_state_of v
unfolding state_of
state_same w v e = ap state_of e

listed_among : (k : Handle) (hs : List Handle) → listed k hs ≡ true → Among k hs
listed_among k [] e = absurd (false≢true e)
listed_among k (h ∷ hs) e = elim (either (same k h) (listed k hs) e) [
  | inl s ↦ subst (λ x. Among k (x ∷ hs)) (same-true k h s) (omega (arith, times_here k hs))
  | inr l ↦ let later = listed_among k hs l in omega (arith, times-cons k h hs, later)
]

first_or_later : (c k : Handle) (ks : List Handle) → Among c (k ∷ ks) → (c ≡ k) ⊎ Among c ks
first_or_later c k ks among = elim (cases_same c k) [
  | inl e ↦ inl e
  | inr ne ↦ inr (omega (arith, among, times_there c k ks (λ e. ne (sym e))))
]

module _ (brought laid : Tree RenderObject) (keeps : KeepsRest brought laid) (changed : List Handle) (otherwise : LookOtherwise brought laid changed) where
  tree_parts : (h k : Handle) (v w : RenderObject) (kids under more rest : Forest RenderObject) → tree k (layout_node w) (layout_nodes under) (layout_nodes rest) ≡ tree h (layout_node v) (layout_nodes kids) (layout_nodes more)
      → (k ≡ h) × (layout_node w ≡ layout_node v) × (layout_nodes under ≡ layout_nodes kids) × (layout_nodes rest ≡ layout_nodes more)
  tree_parts h k v w kids under more rest e = (cc, cc, cc, cc)

  no_tree : (k : Handle) (w : LayoutNode) (under rest : Forest LayoutNode) → tree k w under rest ≡ none → ⊥
  no_tree k w under rest e = cc

  not_listed : (k : Handle) → LooksSame brought laid k → listed k changed ≡ false
  not_listed k looks = elim (cases_Bool (listed k changed)) [
    | inl e ↦ absurd (otherwise k (listed_among k changed e) looks)
    | inr e ↦ e
  ]

  at_laid : (k : Handle) (q : Option Handle) (l : List Handle) (w : RenderObject) → node_at laid k ≡ Some (record { parent = q; children = l; value = w }) → state_at laid k ≡ layout_state_of w
  at_laid k q l w e = ap state_or (ap (option_map (λ (n : TreeNode RenderObject). n.value)) e)

  at_brought : (k : Handle) (q : Option Handle) (l : List Handle) (w : RenderObject) → node_at brought k ≡ Some (record { parent = q; children = l; value = w }) → state_at brought k ≡ layout_state_of w
  at_brought k q l w e = ap state_or (ap (option_map (λ (n : TreeNode RenderObject). n.value)) e)

  places_still : (a b : Option Handle) (f g : Forest RenderObject) → Stands (node_at brought) a f → Stands (node_at laid) b g → layout_nodes g ≡ layout_nodes f → (c : Handle) → Among c (tops g) → place_in (state_at laid c) ≡ place_in (state_at brought c)
  places_still a b f none s t e c among = absurd (omega arith)
  places_still a b none (tree k w under rest) s t e c among = absurd (no_tree k (layout_node w) (layout_nodes under) (layout_nodes rest) e)
  places_still a b (tree h v kids more) (tree k w under rest) s t e c among =
      let parts = tree_parts h k v w kids under more rest e in
      elim (first_or_later c k (tops rest) among) [
        | inl here ↦
            ap place_in (ap (state_at laid) here ∙ (at_laid k b (tops under) w t.0 ∙ (state_same w v parts.1 ∙ (sym (at_brought h a (tops kids) v s.0) ∙ (ap (state_at brought) (sym parts.0) ∙ ap (state_at brought) (sym here))))))
        | inr later ↦ places_still a b more rest s.2 t.2 parts.3 c later
      ]

  list_laid : (k : Handle) (q : Option Handle) (under : Forest RenderObject) (w : RenderObject) → node_at laid k ≡ Some (record { parent = q; children = tops under; value = w }) → children_at brought k ≡ tops under
  list_laid k q under w e = same_lists brought laid keeps k ∙ ap children_of e

  none_listed : (a b : Option Handle) (f g : Forest RenderObject) → Stands (node_at brought) a f → Stands (node_at laid) b g → layout_nodes g ≡ layout_nodes f → has_listed changed g ≡ false
  none_listed a b f none s t e = refl
  none_listed a b none (tree k w under rest) s t e = absurd (no_tree k (layout_node w) (layout_nodes under) (layout_nodes rest) e)
  none_listed a b (tree h v kids more) (tree k w under rest) s t e =
      let parts = tree_parts h k v w kids under more rest e in
      let looks : LooksSame brought laid k = record {
        own = ap own_in (at_laid k b (tops under) w t.0 ∙ (state_same w v parts.1 ∙ (sym (at_brought h a (tops kids) v s.0) ∙ ap (state_at brought) (sym parts.0))));
        places = λ c among. places_still (Some h) (Some k) kids under s.1 t.1 parts.2 c (subst (Among c) (list_laid k b under w t.0) among);
      } in
      or_from (listed k changed) (has_listed changed under || has_listed changed rest) (not_listed k looks)
      (or_from (has_listed changed under) (has_listed changed rest) (none_listed (Some h) (Some k) kids under s.1 t.1 parts.2) (none_listed a b more rest s.2 t.2 parts.3))

  abbrev Unseen : Handle → RenderObject → Forest RenderObject → Type 0
  Unseen k w under = ((place_in (state_at laid k)).offset ≡ (place_in (state_at brought k)).offset) × (has_listed changed (tree k w under none) ≡ false)

  unseen_node : (a b : Option Handle) (h k : Handle) (v w : RenderObject) (kids under : Forest RenderObject) → h ≡ k → node_at brought h ≡ Some (record { parent = a; children = tops kids; value = v })
      → node_at laid k ≡ Some (record { parent = b; children = tops under; value = w }) → Stands (node_at brought) (Some h) kids → Stands (node_at laid) (Some k) under
      → record (layout_node w) { shown = false } ≡ record (layout_node v) { shown = false } → layout_nodes under ≡ layout_nodes kids → Unseen k w under
  unseen_node a b h k v w kids under handle at_h at_k s t value inside =
      let laid_state = at_laid k b (tops under) w at_k in
      let brought_state : state_at brought k ≡ layout_state_of v = ap (state_at brought) (sym handle) ∙ at_brought h a (tops kids) v at_h in
      let frame : w.frame ≡ v.frame = ap (λ (x : LayoutNode). x.frame) value in
      let plugged : w.plugged ≡ v.plugged = ap (λ (x : LayoutNode). x.plugged) value in
      let looks : LooksSame brought laid k = record {
        own = ap own_in laid_state ∙ ((λ i. record { frame = frame i; plugged = plugged i }) ∙ sym (ap own_in brought_state));
        places = λ c among. places_still (Some h) (Some k) kids under s t inside c (subst (Among c) (list_laid k b under w at_k) among);
      } in (
        ap (λ u. (place_in u).offset) laid_state ∙ (ap (λ (x : LayoutNode). x.offset) value ∙ sym (ap (λ u. (place_in u).offset) brought_state)),
        or_from (listed k changed) (has_listed changed under || false) (not_listed k looks) (or_from (has_listed changed under) false (none_listed (Some h) (Some k) kids under s t inside) refl),
      )

  module _ (before : Before) (last now_laid : Laid) (look_same : (a b : Look) → Decides (is_same_look a b) (a ≡ b)) (then now : List Plug) (plugs : PluggedAsBefore before.touched then now) (old : Tree RenderObject) where
    abbrev Quiet : Forest RenderObject → Type 0
    Quiet g = StayQuiet before last now_laid look_same then now plugs old brought laid changed g

    pub quiet_from : (a b : Option Handle) (f g : Forest RenderObject) → Stands (node_at brought) a f → Stands (node_at laid) b g → AreLeft (layout_nodes f) (layout_nodes g) → Quiet g
    quiet_from a b none none s t left = tt
    quiet_from a b none (tree k w under rest) s t left = absurd left
    quiet_from a b (tree h v kids more) none s t left = tt
    quiet_from a b (tree h v kids more) (tree k w under rest) s t left = (
      (λ shown.
          let inner = subst (λ x. LeftIf x (layout_node v) (layout_nodes kids) (layout_node w) (layout_nodes under) (AreLeft (layout_nodes kids) (layout_nodes under))) shown left.1 in
          quiet_from (Some h) (Some k) kids under s.1 t.1 inner.1),
      (λ unseen.
          let still = subst (λ x. LeftIf x (layout_node v) (layout_nodes kids) (layout_node w) (layout_nodes under) (AreLeft (layout_nodes kids) (layout_nodes under))) unseen left.1 in
          unseen_node a b h k v w kids under left.0 s.0 t.0 s.1 t.1 still.value still.inside),
      quiet_from a b more rest s.2 t.2 left.2,
    )
