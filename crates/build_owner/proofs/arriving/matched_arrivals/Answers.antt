use Rattle.std.proofs.Common.{◌≡◌, ℕ, ◌<◌, ◌≤◌, Some, None, Option, List, [], ◌∷◌, ◌++◌, length, map, drop, slice_get, slice_index_or, refl, IfSome, subst, sym, ap, ◌∙◌, arith}
use Rattle.std.specs.List.{All}
use Rattle.std.proofs.lemmas.List.{append-nil, drop_all, get_or-map, length-map}
use Rattle.std.proofs.lemmas.List.Elements.{All-nil, All-same, All-push, All-get_or}
use Rattle.std.proofs.lemmas.Option.{slice_get_read}
use Rattle.fx_handles.specs.declared.Handle.{Handle}
use Rattle.fx_handles.specs.Handle.{Among}
use Rattle.node_tree.specs.Tree.{IsNode}
use Rattle.widget_model.specs.Plain.{PlainWidget}
use Rattle.widget_model.specs.Update.{CanUpdate}
use Rattle.widget_model.specs.View.{shared}
use Rattle.reconcile.specs.Matching.{matching}
use Rattle.plain_tree.specs.PlainNode.{PlainNode}
use Rattle.build_form.specs.Partner.{arrival, arrivals_from, nodes_had, widgets_had, node_at_any}
use Rattle.build_form.proofs.Arriving.{matched_len, arrived_more, pushed}
use Rattle.build_form.proofs.Outcomes.{some_map}
use Rattle.build_walk.specs.Kept.{plain_at, plain_at_any}
use Rattle.build_owner.specs.declared.arriving.Arrival.{Arrival}
use Rattle.build_owner.specs.ArrivalView.{widget_at, children_had, arrives_in}
use Rattle.build_owner.proofs.Children.{live_element}
use Rattle.build_owner.proofs.Had.{matched_updates, beside_updates, some_among, found_plain, had_nodes}
use Rattle.build_owner.proofs.arriving.matched_arrivals.Goals as goal

pub loop-i-init : goal.loop-i-init
loop-i-init c =
    let t = c.args.t.now.tree in
    let kin = c.args.partner in
    let none = c.in_ok-arrivals.ensures.items in
    let among : Arrival → Type 0 = λ a. IfSome a.beside (λ k. Among k (children_had t kin) × IsNode t k) in
    let updates : Arrival → Type 0 = λ a. IfSome a.beside (λ k. IfSome (widget_at t k) (λ old. CanUpdate old (shared a.widget))) in (
      λ scrolled. ap (λ (l : List Arrival). map (arrives_in scrolled t) l ++ arrivals_from (nodes_had (plain_at_any scrolled t kin)) 0 (map shared c.args.widgets.now) c.match_children.new.out.items) none,
      All-same among c.in_ok-arrivals.arrivals.items [] none (All-nil among),
      All-same updates c.in_ok-arrivals.arrivals.items [] none (All-nil updates),
    )

pub index-requires : goal.index-requires
index-requires c =
    let len : length c.match_children.new.out.items ≡ length c.args.widgets.now = matched_len c.as_slice.result.now c.args.widgets.now c.match_children.new.out.items c.in_ok-match_children.ensures.ok in
    omega (arith, c.match_children.new.out.ok.0)

pub beside_at-beside-requires : goal.beside_at-beside-requires
beside_at-beside-requires c =
    let len : length c.match_children.new.out.items ≡ length c.args.widgets.now = matched_len c.as_slice.result.now c.args.widgets.now c.match_children.new.out.items c.in_ok-match_children.ensures.ok in
    let within : (m : Option ℕ) → Type 0 = λ m. IfSome m (λ j. j < length c.as_slice.result.now) in
    let at = All-get_or within c.match_children.new.out.items c.loop-i.i c.index.result.now (omega arith) c.in_ok-match_children.ensures.within in
    let same : length c.as_slice.result.now ≡ length c.as_slice-in-loop-i.result.now = omega (arith, c.in_ok-had.had.ok.0, c.in_ok-by_place.by_place.ok.0, c.in_ok-by_place.ensures.len) in
    let here = subst within (sym c.index.ensures) at in
    let P : ℕ → Type 0 = λ n. IfSome c.index.result.now (λ j. j < n) in
    subst P same here

pub loop-i-preserved : goal.loop-i-preserved
loop-i-preserved c =
    let t = c.args.t.now.tree in
    let kin = c.args.partner in
    let ws = c.args.widgets.now in
    let ms = c.match_children.new.out.items in
    let i = c.loop-i.i in
    let m = c.index.result.now in
    let hs = c.as_slice-in-loop-i.result.now in
    let o = c.beside_at-beside.result in
    let r = c.index-widgets-i.result in
    let a = c.in_ok-arrives.field-0 in
    let len : length ms ≡ length ws = matched_len c.as_slice.result.now ws ms c.in_ok-match_children.ensures.ok in
    let in_ms : i < length ms = omega arith in
    let inside : (x : Option ℕ) → Type 0 = λ x. IfSome x (λ j. j < length c.as_slice.result.now) in
    let at = All-get_or inside ms i m in_ms c.in_ok-match_children.ensures.within in
    let same : length c.as_slice.result.now ≡ length hs = omega (arith, c.in_ok-had.had.ok.0, c.in_ok-by_place.by_place.ok.0, c.in_ok-by_place.ensures.len) in
    let P : ℕ → Type 0 = λ n. IfSome m (λ j. j < n) in
    let within : IfSome m (λ j. j < length hs) = subst P same (subst inside (sym c.index.ensures) at) in
    let holds : (h : Handle) → IsNode t h → _ = λ h live. c.walk_laws.ensures.holds t h c.root.ensures.tree live in
    let nodes : (ℕ → ℕ) → List PlainNode = λ scrolled. nodes_had (plain_at_any scrolled t kin) in
    let knows : (scrolled : ℕ → ℕ) → map (plain_at scrolled t) c.children_had-handles.result.now ≡ map Some (nodes scrolled) =
    λ scrolled. ap (map (plain_at scrolled t)) c.children_had-handles.ensures.value
    ∙ had_nodes scrolled t kin c.requires.live (λ h live. let e = live_element t h live in c.kept_elements_are_known.ensures.nodes scrolled t h e.0 (holds h live) e.1) in
    let value : hs ≡ c.in_ok-by_place.by_place.items = c.as_slice-in-loop-i.ensures.value in
    let long : length hs ≡ length c.in_ok-by_place.by_place.items = ap length value in
    let found : (scrolled : ℕ → ℕ) → plain_at_any scrolled t o ≡ node_at_any (nodes scrolled) m =
    λ scrolled. found_plain scrolled t hs (nodes scrolled) m o
    (λ j low. ap (λ (l : List (Option Handle)). plain_at_any scrolled t (slice_index_or l j None)) value
    ∙ c.in_ok-by_place.ensures.nodes scrolled (nodes scrolled) (knows scrolled) j (omega (arith, low, long, c.in_ok-by_place.ensures.len)))
    within c.beside_at-beside.ensures.none c.beside_at-beside.ensures.some in
    let made : (scrolled : ℕ → ℕ) → arrives_in scrolled t a ≡ arrival (shared r) i (node_at_any (nodes scrolled) m) =
    λ scrolled. λ k. record {
      widget = c.in_ok-arrives.ensures.widget k;
      place = c.in_ok-arrives.ensures.place k;
      beside = (ap (plain_at_any scrolled t) c.in_ok-arrives.ensures.beside ∙ found scrolled) k;
    } in
    let there : IfSome o (λ k. Among k c.children_had-handles.result.now) =
    some_among hs (λ k. Among k c.children_had-handles.result.now) m o (subst (All (λ x. IfSome x (λ k. Among k c.children_had-handles.result.now))) (sym value) c.in_ok-by_place.ensures.among) within
    c.beside_at-beside.ensures.none c.beside_at-beside.ensures.some in
    let stands : IfSome o (λ k. Among k (children_had t kin) × IsNode t k) =
    some_map _ _ o (λ k among. (subst (Among k) c.children_had-handles.ensures.value among, c.children_had-handles.ensures.live k among)) there in
    let olds = widgets_had (plain_at_any (λ _. 0) t kin) in
    let news = map shared ws in
    let low : i < length news = rw length-map c.loop-i-test.true in
    let is_w : slice_get news i ≡ Some (shared r) = slice_get_read news (length news) i (shared r) refl low (ap shared c.index-widgets-i.is ∙ sym (get_or-map shared ws i r (shared r) c.loop-i-test.true)) in
    let is_ms : ms ≡ matching olds news =
    c.in_ok-match_children.ensures.ok ∙ ap (λ l. matching l news) (ap (map shared) c.as_slice.ensures.value ∙ c.in_ok-had.ensures (λ _. 0)) in
    let is_m : slice_get (matching olds news) i ≡ Some m = sym (ap (λ (l : List (Option ℕ)). slice_get l i) is_ms) ∙ slice_get_read ms (length ms) i m refl in_ms c.index.ensures in
    let can = beside_updates (λ _. 0) t o (node_at_any (nodes (λ _. 0)) m) (shared r) (found (λ _. 0))
    (some_map _ _ o (λ k p. c.kept_elements_are_known.ensures.widget (λ _. 0) t k (holds k p.1)) stands)
    (matched_updates olds news (nodes (λ _. 0)) i m (shared r) c.requires.placed is_w is_m) in
    let among : Arrival → Type 0 = λ x. IfSome x.beside (λ k. Among k (children_had t kin) × IsNode t k) in
    let updates : Arrival → Type 0 = λ x. IfSome x.beside (λ k. IfSome (widget_at t k) (λ old. CanUpdate old (shared x.widget))) in
    let more = c.in_ok-push.ensures.items in (
      λ scrolled. arrived_more (nodes scrolled) ws ms i (map (arrives_in scrolled t) c.loop-i.arrivals.items) _ _ r m _ c.loop-i-test.true in_ms c.index-widgets-i.is c.index.ensures (made scrolled)
          (pushed (arrives_in scrolled t) c.loop-i.arrivals.items c.push.new.self.items a _ more refl) (c.loop-i.invariant.0 scrolled),
      All-same among c.push.new.self.items (c.loop-i.arrivals.items ++ a ∷ []) more
          (All-push among c.loop-i.arrivals.items a c.loop-i.invariant.1 (subst (λ x. IfSome x (λ k. Among k (children_had t kin) × IsNode t k)) (sym c.in_ok-arrives.ensures.beside) stands)),
      All-same updates c.push.new.self.items (c.loop-i.arrivals.items ++ a ∷ []) more
          (All-push updates c.loop-i.arrivals.items a c.loop-i.invariant.2
          (subst (λ (v : PlainWidget). IfSome a.beside (λ k. IfSome (widget_at t k) (λ old. CanUpdate old v))) (sym c.in_ok-arrives.ensures.widget)
          (subst (λ x. IfSome x (λ k. IfSome (widget_at t k) (λ old. CanUpdate old (shared r)))) (sym c.in_ok-arrives.ensures.beside) can))),
    )

pub returns-clause-arrivals : goal.returns-clause-arrivals
returns-clause-arrivals c = λ scrolled.
    let t = c.args.t.now.tree in
    let kin = c.args.partner in
    let news = map shared c.args.widgets.now in
    let ms = c.match_children.new.out.items in
    let ns = nodes_had (plain_at_any scrolled t kin) in
    let i = c.loop-i.i in
    let long : length news ≤ i = rw length-map (omega arith) in
    let is_ms : ms ≡ matching (widgets_had (plain_at_any scrolled t kin)) news =
    c.in_ok-match_children.ensures.ok ∙ ap (λ l. matching l news) (ap (map shared) c.as_slice.ensures.value ∙ c.in_ok-had.ensures scrolled) in
    let items = map (arrives_in scrolled t) c.loop-i.arrivals.items in
    sym (append-nil items) ∙ ap (λ l. items ++ arrivals_from ns i l (drop i ms)) (sym (drop_all i news long)) ∙ c.loop-i.invariant.0 scrolled ∙ ap (arrivals_from ns 0 news) is_ms

pub returns-clause-beside : goal.returns-clause-beside
returns-clause-beside c = c.loop-i.invariant.1

pub returns-clause-matched : goal.returns-clause-matched
returns-clause-matched c = c.loop-i.invariant.2
