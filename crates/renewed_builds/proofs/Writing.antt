-- Elements that are written anew one after another.
use Rattle.std.proofs.Common.{◌≡◌, Bool, true, false, cond, Option, Some, None, option_map, List, [], ◌∷◌, ◌++◌, refl, sym, ap, ◌∙◌, subst, inl, inr}
use Rattle.std.specs.List.{All}
use Rattle.std.specs.Option.{option_to_list}
use Rattle.std.proofs.lemmas.List.Elements.{All-head, All-tail}
use Rattle.fx_handles.specs.declared.Handle.{Handle}
use Rattle.fx_handles.specs.Handle.{same}
use Rattle.fx_handles.specs.HandleLaws.{same-true, same-ne, cases_same}
use Rattle.node_tree.specs.Children.{MapsValues}
use Rattle.node_tree.specs.Edits.{KeepsHandles}
use Rattle.node_tree.specs.Forest.{TreeNode}
use Rattle.node_tree.specs.Tree.{Tree, node_at, tops_at}
use Rattle.node_tree.proofs.EditLemmas.{keeps_self, keeps_then}
use Rattle.widget_model.specs.Plain.{PlainWidget}
use Rattle.element_tree.specs.Edits.{Changes, with_widget, with_index}
use Rattle.element_tree.specs.Element.{Element, element_at}
use Rattle.element_tree.specs.Fields.{CanFollow}
use Rattle.global_keys.specs.Holders.{Registry}
use Rattle.global_keys.specs.Named.{NamesExactly}
use Rattle.renewed_builds.specs.declared.taking.Moved.{Moved}
use Rattle.renewed_builds.specs.Renewing.{Change}
use Rattle.renewed_builds.specs.Taking.{FollowsChange, after_changes, after_moves, WritesAll}
use Rattle.renewed_builds.proofs.Seen.{after_append, moves_append}

abbrev NodeOf : Type 0
NodeOf = TreeNode Element

-- ---- widgets that follow one another

follows_back : (a b c : PlainWidget) → CanFollow a b → CanFollow a c → CanFollow b c
follows_back a b c x y = record {
  updates = record { type = sym x.updates.type ∙ y.updates.type; key = sym x.updates.key ∙ y.updates.key };
  fields = y.fields ∙ sym x.fields;
}

follows_then : (a b c : PlainWidget) → CanFollow a b → CanFollow b c → CanFollow a c
follows_then a b c x y = record {
  updates = record { type = x.updates.type ∙ y.updates.type; key = x.updates.key ∙ y.updates.key };
  fields = y.fields ∙ x.fields;
}

follows_itself : (a : PlainWidget) → CanFollow a a
follows_itself a = record { updates = record { type = refl; key = refl }; fields = refl }

-- ---- one change

same_node : (o : Option NodeOf) → o ≡ option_map (λ (n : NodeOf). record n { value = n.value }) o
same_node None = refl
same_node (Some n) = refl

twice : (f g : Element → Element) (o : Option NodeOf)
    → option_map (λ (n : NodeOf). record n { value = f n.value }) (option_map (λ (n : NodeOf). record n { value = g n.value }) o) ≡ option_map (λ (n : NodeOf). record n { value = f (g n.value) }) o
twice f g None = refl
twice f g (Some n) = refl

otherwise : (f g : Element → Element) → ((e : Element) → f e ≡ g e) → (o : Option NodeOf)
    → option_map (λ (n : NodeOf). record n { value = f n.value }) o ≡ option_map (λ (n : NodeOf). record n { value = g n.value }) o
otherwise f g same None = refl
otherwise f g same (Some n) = λ i. Some (record n { value = same n.value i })

module _ (old new : Tree Element) (h : Handle) (change : Element → Element) (changes : Changes old new h change) where
  abbrev pub at_one : Handle → Element → Element
  at_one k e = cond (same k h) (change e) e

  pub record ChangesOne : Type 0 where
    pub values : MapsValues at_one old new
    pub root : new.root ≡ old.root
    pub inactive : new.inactive ≡ old.inactive
    pub handles : KeepsHandles old.nodes new.nodes

  written : (n : NodeOf) → node_at old h ≡ Some n → (k : Handle) → (b : Bool) → same k h ≡ b → (o : Option NodeOf) → node_at old k ≡ o
      → option_map (λ (m : NodeOf). cond b (record m { value = change n.value }) m) o ≡ option_map (λ (m : NodeOf). record m { value = cond b (change m.value) m.value }) o
  written n at k b is None has = refl
  written n at k false is (Some m) has = refl
  written n at k true is (Some m) has =
      let k_is : k ≡ h = elim (cases_same k h) [ inl e ↦ e | inr apart ↦ absurd (let no = sym (same-ne k h apart) ∙ is in cc) ] in
      let same_one : Some m ≡ Some n = sym has ∙ ap (node_at old) k_is ∙ at in
      let m_is : m ≡ n = cc in
      λ i. Some (record m { value = change (sym m_is i).value })

  untouched : node_at old h ≡ None → (k : Handle) → node_at old k ≡ option_map (λ (m : NodeOf). record m { value = at_one k m.value }) (node_at old k)
  untouched gone k = elim (cases_same k h) [
    | inl e ↦ let none_k : node_at old k ≡ None = ap (node_at old) e ∙ gone in none_k ∙ sym (ap (option_map (λ (m : NodeOf). record m { value = at_one k m.value })) none_k)
    | inr apart ↦ same_node (node_at old k) ∙ otherwise (λ e. e) (at_one k) (λ e. sym (ap (λ (b : Bool). cond b (change e) e) (same-ne k h apart))) (node_at old k)
  ]

  pub changed : ChangesOne
  changed = by_node (node_at old h) refl
    where
      by_node : (o : Option NodeOf) → node_at old h ≡ o → ChangesOne
      by_node None at =
          let same_tree : new ≡ old = changes.dead (ap (option_map (λ (n : NodeOf). n.value)) at) in record {
            values = λ k. ap (λ (t : Tree Element). node_at t k) same_tree ∙ untouched at k;
            root = ap (λ (t : Tree Element). t.root) same_tree;
            inactive = ap (λ (t : Tree Element). t.inactive) same_tree;
            handles = subst (λ (t : Tree Element). KeepsHandles old.nodes t.nodes) (sym same_tree) (keeps_self old.nodes);
          }
      by_node (Some n) at =
          let w = changes.live n.value (ap (option_map (λ (m : NodeOf). m.value)) at) in record {
            values = λ k. w.writes.nodes k ∙ written n at k (same k h) refl (node_at old k) refl;
            root = w.root;
            inactive = w.inactive;
            handles = w.writes.handles;
          }

-- ---- one after another

numbers_kept : (k : Handle) (o p : Option NodeOf) (g : Element → Element) → p ≡ option_map (λ (n : NodeOf). record n { value = g n.value }) o → ((e : Element) → (g e).number ≡ e.number)
    → option_map (λ (e : Element). e.number) (option_map (λ (n : NodeOf). n.value) p) ≡ option_map (λ (e : Element). e.number) (option_map (λ (n : NodeOf). n.value) o)
numbers_kept k None p g is same = ap (λ (q : Option NodeOf). option_map (λ (e : Element). e.number) (option_map (λ (n : NodeOf). n.value) q)) is
numbers_kept k (Some n) p g is same = ap (λ (q : Option NodeOf). option_map (λ (e : Element). e.number) (option_map (λ (m : NodeOf). m.value) q)) is ∙ ap Some (same n.value)

one_number : (change : Element → Element) → ((e : Element) → (change e).number ≡ e.number) → (e : Element) (b : Bool) → (cond b (change e) e).number ≡ e.number
one_number change keeps e true = keeps e
one_number change keeps e false = refl

nothing_written : (t : Tree Element) (g : Handle → Element → Element) → ((k : Handle) (e : Element) → g k e ≡ e) → WritesAll g t t
nothing_written t g is = record {
  values = λ k. same_node (node_at t k) ∙ otherwise (λ e. e) (g k) (λ e. sym (is k e)) (node_at t k);
  root = refl;
  inactive = refl;
  handles = keeps_self t.nodes;
  numbers = λ k. refl;
  names = λ g named. named;
}

pub writes_none : (t : Tree Element) → WritesAll (after_changes []) t t
writes_none t = nothing_written t (after_changes []) (λ k e. refl)

pub moves_none : (t : Tree Element) → WritesAll (after_moves []) t t
moves_none t = nothing_written t (after_moves []) (λ k e. refl)

module _ (g f : Handle → Element → Element) (h : Handle) (change : Element → Element) (keeps : (e : Element) → (change e).number ≡ e.number) (is : (k : Handle) (e : Element) → f k e ≡ cond (same k h) (change (g k e)) (g k e))
    (a b c : Tree Element) (so_far : WritesAll g a b) (changes : Changes b c h change) where
  one : ChangesOne b c h change changes
  one = changed b c h change changes

  one_written : ((r : Registry) → NamesExactly r b → NamesExactly r c) → WritesAll f a c
  one_written names = record {
    values = λ k.
        one.values k
        ∙ ap (option_map (λ (n : NodeOf). record n { value = cond (same k h) (change n.value) n.value })) (so_far.values k)
        ∙ twice (λ e. cond (same k h) (change e) e) (g k) (node_at a k)
        ∙ otherwise (λ e. cond (same k h) (change (g k e)) (g k e)) (f k) (λ e. sym (is k e)) (node_at a k);
    root = one.root ∙ so_far.root;
    inactive = one.inactive ∙ so_far.inactive;
    handles = keeps_then a.nodes b.nodes c.nodes so_far.handles one.handles;
    numbers = λ k. numbers_kept k (node_at b k) (node_at c k) (λ e. cond (same k h) (change e) e) (one.values k) (λ e. one_number change keeps e (same k h)) ∙ so_far.numbers k;
    names = λ r named. names r (so_far.names r named);
  }

pub writes_more : (xs : List Change) (x : Change) (a b c : Tree Element) → WritesAll (after_changes xs) a b → Changes b c x.element (with_widget x.widget) → ((r : Registry) → NamesExactly r b → NamesExactly r c)
    → WritesAll (after_changes (xs ++ x ∷ [])) a c
writes_more xs x a b c so_far changes =
    one_written (after_changes xs) (after_changes (xs ++ x ∷ [])) x.element (with_widget x.widget) (λ e. refl) (λ k e. after_append xs (x ∷ []) k e) a b c so_far changes

pub moves_more : (xs : List Moved) (x : Moved) (a b c : Tree Element) → WritesAll (after_moves xs) a b → Changes b c x.element (with_index x.place) → ((r : Registry) → NamesExactly r b → NamesExactly r c)
    → WritesAll (after_moves (xs ++ x ∷ [])) a c
moves_more xs x a b c so_far changes =
    one_written (after_moves xs) (after_moves (xs ++ x ∷ [])) x.element (with_index x.place) (λ e. refl) (λ k e. moves_append xs (x ∷ []) k e) a b c so_far changes

-- ---- a widget that comes later may follow the one that is there then

module _ (t : Tree Element) (k : Handle) (e : Element) (there : element_at t k ≡ Some e) where
  step : (c : Change) (v : Element) → FollowsChange t c → CanFollow e.widget v.widget → (b : Bool) → same k c.element ≡ b → CanFollow e.widget (cond b (with_widget c.widget v) v).widget
  step c v may now true is = may e (ap (element_at t) (sym (same-true k c.element is)) ∙ there)
  step c v may now false is = now

  still : (cs : List Change) (v : Element) → All (FollowsChange t) cs → CanFollow e.widget v.widget → CanFollow e.widget (after_changes cs k v).widget
  still [] v all now = now
  still (c ∷ cs) v all now =
      still cs (cond (same k c.element) (with_widget c.widget v) v) (All-tail (FollowsChange t) c cs all) (step c v (All-head (FollowsChange t) c cs all) now (same k c.element) refl)

module _ (cs : List Change) (a b : Tree Element) (so_far : WritesAll (after_changes cs) a b) (all : All (FollowsChange a) cs) where
  by_node : (x : Change) (e : Element) → FollowsChange a x → (o : Option NodeOf) → node_at a x.element ≡ o → node_at b x.element ≡ option_map (λ (n : NodeOf). record n { value = after_changes cs x.element n.value }) o
      → option_map (λ (n : NodeOf). n.value) (node_at b x.element) ≡ Some e → CanFollow e.widget x.widget
  by_node x e may None was is at = absurd (let no = sym (ap (option_map (λ (n : NodeOf). n.value)) is) ∙ at in cc)
  by_node x e may (Some n) was is at =
      let there : element_at a x.element ≡ Some n.value = ap (option_map (λ (m : NodeOf). m.value)) was in
      let now : Some (after_changes cs x.element n.value) ≡ Some e = sym (ap (option_map (λ (m : NodeOf). m.value)) is) ∙ at in
      let is_e : after_changes cs x.element n.value ≡ e = cc in
      follows_back n.value.widget e.widget x.widget
      (subst (λ (v : Element). CanFollow n.value.widget v.widget) is_e (still a x.element n.value there cs n.value all (follows_itself n.value.widget)))
      (may n.value there)

  pub next_follows : (x : Change) → FollowsChange a x → FollowsChange b x
  next_follows x may e at = by_node x e may (node_at a x.element) refl (so_far.values x.element) at

pub same_tops : (g : Handle → Element → Element) (a b : Tree Element) → WritesAll g a b → tops_at b ≡ tops_at a
same_tops g a b w = λ i. option_to_list (w.root i) ++ w.inactive i
