-- A stale tree stays so where nodes of it are scrolled, and where the fields of the stale component are set again.
use Rattle.std.proofs.Common.{◌≡◌, ℕ, ◌≤◌, ◌==◌, Bool, true, false, cond, Option, List, [], map, refl, sym, ap, ◌∙◌, subst}
use Rattle.fx_expr.specs.declared.values.Value.{Value}
use Rattle.widget_model.specs.Plain.{PlainWidget, look_of}
use Rattle.plain_tree.specs.At.{is_there, changed_at, changed_in, having_scroll}
use Rattle.plain_tree.specs.Offsets.{scrolled_by, all_scrolled_by}
use Rattle.plain_tree.specs.PlainNode.{PlainNode, node, PlainNodes, no_nodes, more_nodes, list_of, widget_of}
use Rattle.build_form.specs.BuildRole.{build_role_of}
use Rattle.build_form.specs.Entering.{Blueprint, depth_limit, values_below}
use Rattle.build_form.proofs.Alike.{IsAlike, AreAlike}
use Rattle.build_walk.specs.Fresh.{HasOutput, HasFreshOutputs, HaveFreshOutputs}
use Rattle.settled_builds.specs.Taken.{AskedIf, IsFreshBut, AreFreshBut, IsStaleFor}
use Rattle.settled_builds.proofs.Editing.{same_widget, same_index, same_widgets, settled_too, within_too, same_count, keys_too}
use Rattle.settled_builds.proofs.Setting.{same_there, set, set_alike, all_set_alike}

-- ---- the same but for offsets

abbrev mutual
  IsSame : PlainNode → PlainNode → Type 0
  IsSame (node number w fs s i ns) (node k v gs r j ms) = (k ≡ number) × (v ≡ w) × (gs ≡ fs) × (j ≡ i) × AreSame ns ms

  AreSame : PlainNodes → PlainNodes → Type 0
  AreSame no_nodes no_nodes = Unit {0}
  AreSame no_nodes (more_nodes m ms) = ⊥
  AreSame (more_nodes n ns) no_nodes = ⊥
  AreSame (more_nodes n ns) (more_nodes m ms) = IsSame n m × AreSame ns ms

mutual
  same_alike : (n m : PlainNode) → IsSame n m → IsAlike n m
  same_alike (node number w fs s i ns) (node k v gs r j ms) h = (h.0, h.1, h.3, all_same_alike ns ms h.4)

  all_same_alike : (ns ms : PlainNodes) → AreSame ns ms → AreAlike ns ms
  all_same_alike no_nodes no_nodes h = tt
  all_same_alike no_nodes (more_nodes m ms) h = absurd h
  all_same_alike (more_nodes n ns) no_nodes h = absurd h
  all_same_alike (more_nodes n ns) (more_nodes m ms) h = (same_alike n m h.0, all_same_alike ns ms h.1)

mutual
  same_itself : (n : PlainNode) → IsSame n n
  same_itself (node number w fs s i ns) = (refl, refl, refl, refl, all_same_themselves ns)

  all_same_themselves : (ns : PlainNodes) → AreSame ns ns
  all_same_themselves no_nodes = tt
  all_same_themselves (more_nodes n ns) = (same_itself n, all_same_themselves ns)

module _ (b : Blueprint) where
  output_too : (values : List Value) (number k : ℕ) (w v : PlainWidget) (fs gs : List Value) (ns ms : PlainNodes) → k ≡ number → v ≡ w → gs ≡ fs → AreAlike ns ms
      → HasOutput b (build_role_of (look_of w)) w fs values number (map widget_of (list_of ns)) → HasOutput b (build_role_of (look_of v)) v gs values k (map widget_of (list_of ms))
  output_too values number k w v fs gs ns ms e f g alike h =
      subst (λ ws. HasOutput b (build_role_of (look_of v)) v gs values k ws) (sym (same_widgets ns ms alike))
      (subst (λ x. HasOutput b (build_role_of (look_of v)) v gs values x (map widget_of (list_of ns))) (sym e)
      (subst (λ fields. HasOutput b (build_role_of (look_of v)) v fields values number (map widget_of (list_of ns))) (sym g)
      (subst (λ x. HasOutput b (build_role_of (look_of x)) x fs values number (map widget_of (list_of ns))) (sym f) h)))

  mutual
    fresh_too : (values : List Value) (n m : PlainNode) → IsSame n m → HasFreshOutputs b [] values n → HasFreshOutputs b [] values m
    fresh_too values (node number w fs s i ns) (node k v gs r j ms) h fresh = (
      λ e. output_too values number k w v fs gs ns ms h.0 h.1 h.2 (all_same_alike ns ms h.4) (fresh.0 refl),
      all_fresh_too (values_below v values) ns ms h.4 (subst (λ x. HaveFreshOutputs b [] (values_below x values) ns) (sym h.1) fresh.1),
    )

    all_fresh_too : (values : List Value) (ns ms : PlainNodes) → AreSame ns ms → HaveFreshOutputs b [] values ns → HaveFreshOutputs b [] values ms
    all_fresh_too values no_nodes no_nodes h fresh = tt
    all_fresh_too values no_nodes (more_nodes m ms) h fresh = absurd h
    all_fresh_too values (more_nodes n ns) no_nodes h fresh = absurd h
    all_fresh_too values (more_nodes n ns) (more_nodes m ms) h fresh = (fresh_too values n m h.0 fresh.0, all_fresh_too values ns ms h.1 fresh.1)

  asked : (t u : Bool) (X Y : Type 0) → t ≡ u → AskedIf u X Y → AskedIf t X Y
  asked t u X Y e h = subst (λ v. AskedIf v X Y) (sym e) h

  asked_too : (t : Bool) (X Y U V : Type 0) → (X → U) → (Y → V) → AskedIf t X Y → AskedIf t U V
  asked_too true X Y U V f g h = f h
  asked_too false X Y U V f g h = g h

  module _ (wanted : ℕ) where
    mutual
      stale_too : (values : List Value) (n m : PlainNode) → IsSame n m → IsFreshBut b wanted values n → IsFreshBut b wanted values m
      stale_too values (node number w fs s i ns) (node k v gs r j ms) h fresh =
          asked (k == wanted) (number == wanted) _ _ (ap (λ x. x == wanted) h.0)
          (asked_too (number == wanted) _ _ _ _
          (λ x. all_fresh_too (values_below v values) ns ms h.4 (subst (λ u. HaveFreshOutputs b [] (values_below u values) ns) (sym h.1) x))
          (λ x. (
            output_too values number k w v fs gs ns ms h.0 h.1 h.2 (all_same_alike ns ms h.4) x.0,
            all_stale_too (values_below v values) ns ms h.4 (subst (λ u. AreFreshBut b wanted (values_below u values) ns) (sym h.1) x.1),
          ))
          fresh)

      all_stale_too : (values : List Value) (ns ms : PlainNodes) → AreSame ns ms → AreFreshBut b wanted values ns → AreFreshBut b wanted values ms
      all_stale_too values no_nodes ms h fresh = absurd fresh
      all_stale_too values (more_nodes n ns) no_nodes h fresh = absurd h
      all_stale_too values (more_nodes n ns) (more_nodes m ms) h fresh =
          asked (is_there wanted m) (is_there wanted n) _ _ (same_there wanted n m (same_alike n m h.0))
          (asked_too (is_there wanted n) _ _ _ _
          (λ x. (stale_too values n m h.0 x.0, all_fresh_too values ns ms h.1 x.1))
          (λ x. (fresh_too values n m h.0 x.0, all_stale_too values ns ms h.1 x.1))
          fresh)

    alike_stale : (root : PlainWidget) (n m : PlainNode) → IsAlike n m → IsFreshBut b wanted b.defaults m → IsStaleFor b wanted root n → IsStaleFor b wanted root m
    alike_stale root n m alike fresh h =
        record {
          widget = same_widget n m alike ∙ h.widget;
          place = same_index n m alike ∙ h.place;
          small = h.small;
          settled = settled_too n m alike h.settled;
          fresh = fresh;
          within = within_too depth_limit n m alike h.within;
          few = subst (λ (k : ℕ). k ≤ b.nodes) (sym (same_count n m alike)) h.few;
          keys = keys_too (λ k. false) n m alike h.keys;
        }

    same_stale : (root : PlainWidget) (n m : PlainNode) → IsSame n m → IsStaleFor b wanted root n → IsStaleFor b wanted root m
    same_stale root n m same h = alike_stale root n m (same_alike n m same) (stale_too b.defaults n m same h.fresh) h

    -- ---- scrolled

    same_by : (t : Bool) (n k m : PlainNode) → IsSame n k → IsSame n m → IsSame n (cond t k m)
    same_by true n k m h g = h
    same_by false n k m h g = g

    all_same_by : (t : Bool) (ns ks ms : PlainNodes) → AreSame ns ks → AreSame ns ms → AreSame ns (cond t ks ms)
    all_same_by true ns ks ms h g = h
    all_same_by false ns ks ms h g = g

    mutual
      scroll_same : (scroll at : ℕ) (n : PlainNode) → IsSame n (changed_at (having_scroll scroll) at n)
      scroll_same scroll at (node number w fs s i ns) =
          same_by (number == at) (node number w fs s i ns) (node number w fs scroll i ns) (node number w fs s i (changed_in (having_scroll scroll) at ns))
          (refl, refl, refl, refl, all_same_themselves ns) (refl, refl, refl, refl, all_scroll_same scroll at ns)

      all_scroll_same : (scroll at : ℕ) (ns : PlainNodes) → AreSame ns (changed_in (having_scroll scroll) at ns)
      all_scroll_same scroll at no_nodes = tt
      all_scroll_same scroll at (more_nodes n ns) =
          all_same_by (is_there at n) (more_nodes n ns) (more_nodes (changed_at (having_scroll scroll) at n) ns) (more_nodes n (changed_in (having_scroll scroll) at ns))
          (scroll_same scroll at n, all_same_themselves ns) (same_itself n, all_scroll_same scroll at ns)

    mutual
      offsets_same : (offset : ℕ → Option ℕ) (n : PlainNode) → IsSame n (scrolled_by offset n)
      offsets_same offset (node number w fs s i ns) = (refl, refl, refl, refl, all_offsets_same offset ns)

      all_offsets_same : (offset : ℕ → Option ℕ) (ns : PlainNodes) → AreSame ns (all_scrolled_by offset ns)
      all_offsets_same offset no_nodes = tt
      all_offsets_same offset (more_nodes n ns) = (offsets_same offset n, all_offsets_same offset ns)

    pub scroll_stale : (root : PlainWidget) (tree : PlainNode) (scroll at : ℕ) → IsStaleFor b wanted root tree → IsStaleFor b wanted root (changed_at (having_scroll scroll) at tree)
    scroll_stale root tree scroll at h = same_stale root tree (changed_at (having_scroll scroll) at tree) (scroll_same scroll at tree) h

    pub offsets_stale : (root : PlainWidget) (tree : PlainNode) (offset : ℕ → Option ℕ) → IsStaleFor b wanted root tree → IsStaleFor b wanted root (scrolled_by offset tree)
    offsets_stale root tree offset h = same_stale root tree (scrolled_by offset tree) (offsets_same offset tree) h

    -- ---- set again

    module _ (f : PlainNode → List Value) where
      again_by : (values : List Value) (number : ℕ) (w : PlainWidget) (fs : List Value) (s i : ℕ) (ns : PlainNodes)
          → (AreFreshBut b wanted (values_below w values) ns → AreFreshBut b wanted (values_below w values) (changed_in (set f wanted) wanted ns))
          → (here : Bool) → (number == wanted) ≡ here
          → AskedIf here (HaveFreshOutputs b [] (values_below w values) ns) (HasOutput b (build_role_of (look_of w)) w fs values number (map widget_of (list_of ns)) × AreFreshBut b wanted (values_below w values) ns)
          → IsFreshBut b wanted values (cond here (node number w (f (node number w fs s i ns)) s i ns) (node number w fs s i (changed_in (set f wanted) wanted ns)))
      again_by values number w fs s i ns step true is fresh = asked (number == wanted) true _ _ is fresh
      again_by values number w fs s i ns step false is fresh =
          asked (number == wanted) false _ _ is
          (subst (HasOutput b (build_role_of (look_of w)) w fs values number) (sym (same_widgets ns (changed_in (set f wanted) wanted ns) (all_set_alike f wanted ns))) fresh.0, step fresh.1)

      again_in : (values : List Value) (n : PlainNode) (ns : PlainNodes)
          → (IsFreshBut b wanted values n → IsFreshBut b wanted values (changed_at (set f wanted) wanted n)) → (AreFreshBut b wanted values ns → AreFreshBut b wanted values (changed_in (set f wanted) wanted ns))
          → (there : Bool) → is_there wanted n ≡ there
          → AskedIf there (IsFreshBut b wanted values n × HaveFreshOutputs b [] values ns) (HasFreshOutputs b [] values n × AreFreshBut b wanted values ns)
          → AreFreshBut b wanted values (cond there (more_nodes (changed_at (set f wanted) wanted n) ns) (more_nodes n (changed_in (set f wanted) wanted ns)))
      again_in values n ns one rest true is fresh =
          asked (is_there wanted (changed_at (set f wanted) wanted n)) true _ _ (same_there wanted n (changed_at (set f wanted) wanted n) (set_alike f wanted n) ∙ is) (one fresh.0, fresh.1)
      again_in values n ns one rest false is fresh = asked (is_there wanted n) false _ _ is (fresh.0, rest fresh.1)

      mutual
        again : (values : List Value) (n : PlainNode) → IsFreshBut b wanted values n → IsFreshBut b wanted values (changed_at (set f wanted) wanted n)
        again values (node number w fs s i ns) fresh = again_by values number w fs s i ns (λ h. all_again (values_below w values) ns h) (number == wanted) refl fresh

        all_again : (values : List Value) (ns : PlainNodes) → AreFreshBut b wanted values ns → AreFreshBut b wanted values (changed_in (set f wanted) wanted ns)
        all_again values no_nodes fresh = absurd fresh
        all_again values (more_nodes n ns) fresh = again_in values n ns (λ h. again values n h) (λ h. all_again values ns h) (is_there wanted n) refl fresh

      pub again_stale : (root : PlainWidget) (tree : PlainNode) → IsStaleFor b wanted root tree → IsStaleFor b wanted root (changed_at (set f wanted) wanted tree)
      again_stale root tree h = alike_stale root tree (changed_at (set f wanted) wanted tree) (set_alike f wanted tree) (again b.defaults tree h.fresh) h
