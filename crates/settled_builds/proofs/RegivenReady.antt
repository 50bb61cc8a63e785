-- Where the Inherit below the first marked component gives the value that its body gives, the tree is ready with the readers of the name marked instead.
use Rattle.std.proofs.Common.{◌≡◌, ℕ, zero, suc, true, false, is_some, Option, None, List, [], ◌∷◌, ◌++◌, map, length, refl, sym, ap, ◌∙◌, subst, inl, inr}
use Rattle.std.specs.Prelude.{slice_set}
use Rattle.fx_expr.specs.declared.values.Value.{Value}
use Rattle.widget_model.specs.Plain.{PlainWidget, look_of, key_of}
use Rattle.widget_model.specs.Plain.{children_of as child_widgets}
use Rattle.widget_model.specs.Update.{updates}
use Rattle.reconcile.proofs.Updates.{updates_key}
use Rattle.plain_tree.specs.PlainNode.{PlainNode, node, no_nodes, more_nodes, list_of, number_of, widget_of, fields_of}
use Rattle.build_form.specs.BuildRole.{BuildRole, provides, build_role_of}
use Rattle.build_form.specs.Entering.{Blueprint, depth_limit, first_repeated, values_by, values_below}
use Rattle.build_form.specs.Laws.{AllNumbersAre}
use Rattle.build_walk.proofs.Reentering.{long_by}
use Rattle.build_walk.specs.Fresh.{HasOutput}
use Rattle.build_walk.specs.Past.{is_marked}
use Rattle.work_sets.specs.Due.{names_read}
use Rattle.settled_builds.specs.Places.{NodePlace, IsNoGlobal}
use Rattle.settled_builds.specs.Regiven.{having_widget, first_having, regiven, readers_in, ReadTheirNames, AllReadTheirNames, CanRegive}
use Rattle.settled_builds.specs.Settled.{AreItsOwn, IsSettledAbove, AreComponents, IsReadyTree}
use Rattle.settled_builds.specs.Steps.{without, IsFirstMarked}
use Rattle.settled_builds.specs.Taken.{nodes_below}
use Rattle.settled_builds.proofs.Entries.{SomeNode, SomeNodeIn, At}
use Rattle.settled_builds.proofs.Once.{Other, alone}
use Rattle.settled_builds.proofs.Reaching.{same_spot}
use Rattle.settled_builds.proofs.Readied.{Renews, RenewsAt, whole, ready_then}
use Rattle.settled_builds.proofs.Regived.{marked_right, marked_neither, provides_reads, all_again, both_have, spot_has, ReadsAt, reads_at, Reads, read_some, IsReader, readers_there, components_from, either_component}
use Rattle.settled_builds.proofs.Retakes.{Sound}
use Rattle.settled_builds.proofs.Values.{DifferAt, differ_start}
use Rattle.settled_builds.proofs.Without.{others_stay, components_without}

module _ (b : Blueprint) (marks : List ℕ) (next wanted : ℕ) (w : PlainWidget) (name : ℕ) (p : NodePlace) (can : CanRegive b w name p) where
  abbrev pub readers : List ℕ
  readers = readers_in name (nodes_below can.child)

  abbrev pub left : List ℕ
  left = without wanted marks ++ readers

  pub fewer : (k : ℕ) → Other wanted k → is_marked left k ≡ false → is_marked marks k ≡ false
  fewer k other e = sym (others_stay wanted k other marks) ∙ (marked_neither k (without wanted marks) readers e).0

  -- values below the Inherit
  pub differ_there : (vs : List Value) (was : PlainWidget) → build_role_of (look_of was) ≡ provides name can.was → DifferAt name (values_below was vs) (values_below w vs)
  differ_there vs was was_given =
      subst (λ r. DifferAt name (values_by r vs) (values_below w vs)) (sym was_given) (subst (λ r. DifferAt name (slice_set vs name can.was) (values_by r vs)) (sym can.now_given) (differ_start name vs can.was can.now))

  none_output : (p : BuildRole) (value : Value) (fs vs : List Value) (number : ℕ) (cs : List PlainWidget) → p ≡ provides name value → HasOutput b p w fs vs number cs
  none_output p value fs vs number cs e = subst (λ r. HasOutput b r w fs vs number cs) (sym e) tt

  own_children : (p : BuildRole) (value : Value) (u : PlainWidget) (cs : List PlainWidget) → p ≡ provides name value → cs ≡ child_widgets u → AreItsOwn p u cs
  own_children p value u cs e h = subst (λ r. AreItsOwn r u cs) (sym e) h

  its_children : (p : BuildRole) (value : Value) (u : PlainWidget) (cs : List PlainWidget) → p ≡ provides name value → AreItsOwn p u cs → cs ≡ child_widgets u
  its_children p value u cs e h = subst (λ r. AreItsOwn r u cs) e h

  alone_apart : (a c : PlainWidget) → key_of a ≡ key_of c → first_repeated [] (key_of a ∷ []) ≡ None → first_repeated [] (key_of c ∷ []) ≡ None
  alone_apart a c e h = subst (λ q. first_repeated [] (q ∷ []) ≡ None) e h

  regive_one : (deep : ℕ) (values : List Value) (number : ℕ) (u : PlainWidget) (fields : List Value) (scroll index : ℕ) (c : PlainNode) → AreItsOwn (build_role_of (look_of u)) u (w ∷ [])
      → HasOutput b (build_role_of (look_of u)) u fields values number (w ∷ []) → build_role_of (look_of (widget_of c)) ≡ provides name can.was → updates (widget_of c) w ≡ true → child_widgets w ≡ child_widgets (widget_of c)
      → length values ≡ length b.defaults → AllReadTheirNames b (nodes_below c) → ((k : ℕ) → is_marked (readers_in name (nodes_below c)) k ≡ true → is_marked left k ≡ true)
      → Sound b marks left next (suc deep) values (node number u fields scroll index (more_nodes c no_nodes)) → AllNumbersAre (Other wanted) (more_nodes c no_nodes)
      → Renews b left left next (suc deep) values (node number u fields scroll index (more_nodes c no_nodes)) (node number u fields scroll index (more_nodes (having_widget w c) no_nodes))
  regive_one zero values number u fields scroll index (node cn was cf cs ci cns) own output was_given key same long reads all h other = absurd h.within.0
  regive_one (suc deep) values number u fields scroll index (node cn was cf cs ci cns) own output was_given key same long reads all h other =
      let under = values_below u values in
      let none : is_some (names_read (look_of was)) ≡ false = ap (λ (o : Option (List ℕ)). is_some o) (provides_reads (look_of was) name can.was was_given) in
      let above : IsSettledAbove was (list_of cns) = h.settled.1.0.0 in
      let long_there : length (values_below was under) ≡ length b.defaults = long_by (build_role_of (look_of was)) under ∙ long_by (build_role_of (look_of u)) values ∙ long in
      record {
        sound = record {
          settled = (
            record { own = own; order = (h.settled.0.order.0, tt); apart = alone_apart was w (updates_key was w key) h.settled.0.apart },
            (
              (
                record {
                  own =
                      own_children (build_role_of (look_of w)) can.now w (map widget_of (list_of cns)) can.now_given
                      (its_children (build_role_of (look_of was)) can.was was (map widget_of (list_of cns)) was_given above.own ∙ sym same);
                  order = above.order;
                  apart = above.apart;
                },
                h.settled.1.0.1,
              ),
              tt,
            ),
          );
          fresh = (
            λ e. output,
            (
              (
                λ e. none_output (build_role_of (look_of w)) can.now cf under cn (map widget_of (list_of cns)) can.now_given,
                all_again b marks left wanted name fewer (values_below was under) (values_below w under) cns (differ_there under was was_given) long_there reads other.0.1 all h.fresh.1.0.1,
              ),
              tt,
            ),
          );
          within = (h.within.0, tt);
          keyless = (h.keyless.0, ((subst IsNoGlobal (updates_key was w key) h.keyless.1.0.0, h.keyless.1.0.1), tt));
          components = (h.components.0, ((λ e. (let wrong : false ≡ true = sym none ∙ h.components.1.0.0 e in cc), h.components.1.0.1), tt));
          below = h.below;
        };
        many = record { count = refl; times = λ k. refl };
      }

  regive_here : ReadsAt b wanted p → RenewsAt b marks left left next wanted (first_having w) p fewer
  regive_here reads_there deep values before after number u fields scroll index children at h other =
      let q : NodePlace = record { node = node number u fields scroll index children; left = suc deep; values = values; before = before; after = after } in
      let is : q ≡ p = same_spot p q at in
      let below : children ≡ more_nodes can.child no_nodes = ap (λ (x : NodePlace). nodes_below x.node) is ∙ can.below in
      let own : AreItsOwn (build_role_of (look_of u)) u (w ∷ []) = subst (λ (x : NodePlace). AreItsOwn (build_role_of (look_of (widget_of x.node))) (widget_of x.node) (w ∷ [])) (sym is) can.given.own in
      let output : HasOutput b (build_role_of (look_of u)) u fields values number (w ∷ []) =
      subst (λ (x : NodePlace). HasOutput b (build_role_of (look_of (widget_of x.node))) (widget_of x.node) (fields_of x.node) x.values (number_of x.node) (w ∷ [])) (sym is) can.given.output in
      let long : length values ≡ length b.defaults = subst (λ (x : NodePlace). length x.values ≡ length b.defaults) (sym is) reads_there.long in
      let names : AllReadTheirNames b children = under_reads (node number u fields scroll index children) (subst (λ (x : NodePlace). ReadTheirNames b x.node) (sym is) reads_there.reads) in
      let names_one : AllReadTheirNames b (more_nodes can.child no_nodes) = subst (AllReadTheirNames b) below names in
      subst (λ ns. Renews b left left next (suc deep) values (node number u fields scroll index ns) (node number u fields scroll index (first_having w ns))) (sym below)
      (regive_one deep values number u fields scroll index can.child own output can.was_given can.key can.same long (under_reads can.child names_one.0) (λ k e. marked_right k (without wanted marks) readers e)
      (subst (λ ns. Sound b marks left next (suc deep) values (node number u fields scroll index ns)) below h) (subst (AllNumbersAre (Other wanted)) below other))
    where
      under_reads : (n : PlainNode) → ReadTheirNames b n → AllReadTheirNames b (nodes_below n)
      under_reads (node k v fs s i ns) g = g.1

  -- the readers are components of the tree
  lifted : (k : ℕ) (P : PlainWidget → List Value → Type 0) (c : PlainNode) (vs : List Value) → SomeNodeIn (At k P) (values_below (widget_of c) vs) (nodes_below c) → SomeNode (At k P) vs c
  lifted k P (node number u fs s i ns) vs x = inr x

  pub below_spot : (k : ℕ) (P : PlainWidget → List Value → Type 0) → SomeNodeIn (At k P) (values_below (widget_of can.child) (values_below (widget_of p.node) p.values)) (nodes_below can.child) → SomeNode (At k P) p.values p.node
  below_spot k P x = lifted k P p.node p.values (subst (SomeNodeIn (At k P) (values_below (widget_of p.node) p.values)) (sym can.below) (inl (lifted k P can.child (values_below (widget_of p.node) p.values) x)))

  readers_read : (root : PlainWidget) (tree : PlainNode) → IsReadyTree b marks next root tree → IsFirstMarked b marks wanted tree p → AreComponents readers tree
  readers_read root tree h first =
      components_from readers b.defaults tree (λ j v e x.
      let y = spot_has (At j (IsReader j name)) wanted p (below_spot j (IsReader j name) (readers_there j name (values_below (widget_of can.child) (values_below (widget_of p.node) p.values)) (nodes_below can.child) e)) depth_limit b.defaults 0 0 tree first.at in
      let both = both_have j (λ u vs. u ≡ v) (IsReader j name) b.defaults tree (alone j tree h.numbered.differ) x y in
      subst Reads both.1 (read_some name (names_read (look_of both.0.widget)) both.2))

  pub left_components : (root : PlainWidget) (tree : PlainNode) → IsReadyTree b marks next root tree → IsFirstMarked b marks wanted tree p → AreComponents left tree
  left_components root tree h first = either_component (without wanted marks) readers tree (components_without wanted marks tree h.components) (readers_read root tree h first)

  pub regiven_whole : (root : PlainWidget) (tree : PlainNode) → IsReadyTree b marks next root tree → IsFirstMarked b marks wanted tree p → ReadTheirNames b tree → Renews b left left next depth_limit b.defaults tree (regiven w wanted tree)
  regiven_whole root tree h first reads =
      whole b marks left left next wanted (first_having w) p fewer root tree h (left_components root tree h first) first.at (regive_here (reads_at b wanted p depth_limit b.defaults 0 0 tree refl reads first.at))

  pub regiven_ready : (root : PlainWidget) (tree : PlainNode) → IsReadyTree b marks next root tree → IsFirstMarked b marks wanted tree p → ReadTheirNames b tree → IsReadyTree b left next root (regiven w wanted tree)
  regiven_ready root tree h first reads =
      let r = regiven_whole root tree h first reads in
      ready_then b marks left left next wanted (first_having w) p fewer root tree h r r.sound.components
