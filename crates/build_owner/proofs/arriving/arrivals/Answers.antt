use Rattle.std.proofs.Common.{◌≡◌, ℕ, Some, IfSome, List, map, sym, ap, ◌∙◌, subst}
use Rattle.std.proofs.lemmas.List.{length-map}
use Rattle.std.proofs.lemmas.Result.{IfOk-weaker}
use Rattle.fx_handles.specs.declared.Handle.{Handle}
use Rattle.fx_handles.specs.Handle.{Among}
use Rattle.node_tree.specs.Forest.{below}
use Rattle.node_tree.specs.Tree.{IsNode, subtree_at}
use Rattle.widget_model.specs.Update.{CanUpdate}
use Rattle.widget_model.specs.View.{shared}
use Rattle.reconcile.specs.Matching.{matching}
use Rattle.plain_tree.specs.PlainNode.{PlainNode}
use Rattle.build_form.specs.Partner.{arrivals_from, nodes_had, widgets_had}
use Rattle.build_form.proofs.Outcomes.{some_map}
use Rattle.element_tree.specs.Element.{Element, element_at}
use Rattle.build_walk.specs.Kept.{node_over, plain_at, plain_at_any}
use Rattle.build_owner.specs.ArrivalView.{arrived, widget_at, children_had, ComingWidget}
use Rattle.build_owner.proofs.Children.{live_element}
use Rattle.build_owner.proofs.Fresh.{none_had, arrive_anew, each_anew}
use Rattle.build_owner.proofs.Had.{had_nodes}
use Rattle.build_owner.proofs.Paired.{had_same, found, matched, arrive_paired, each_came, stands_among}
use Rattle.build_owner.proofs.arriving.arrivals.Goals as goal

pub returns-then-handles-eq0-clause-arrivals : goal.returns-then-handles-eq0-clause-arrivals
returns-then-handles-eq0-clause-arrivals c =
    let t = c.args.t.now.tree in
    let kin = c.args.partner in
    let hs = c.children_had-handles.result.now in
    let news = map shared c.args.widgets.now in
    let holds : (h : Handle) → IsNode t h → _ = λ h live. c.walk_laws.ensures.holds t h c.root.ensures.tree live in
    let nodes : (ℕ → ℕ) → List PlainNode = λ s. nodes_had (plain_at_any s t kin) in
    let knows : (s : ℕ → ℕ) → map (plain_at s t) hs ≡ map Some (nodes s) =
    λ s. ap (map (plain_at s t)) c.children_had-handles.ensures.value
    ∙ had_nodes s t kin c.requires.live (λ h live. let e = live_element t h live in c.kept_elements_are_known.ensures.nodes s t h e.0 (holds h live) e.1) in
    IfOk-weaker c.fresh_arrivals.result _ _
    (λ v is. λ s. arrive_anew s t (nodes s) news (matching (widgets_had (plain_at_any s t kin)) news) (arrived v) (none_had (plain_at s t) hs (nodes s) (knows s) c.if-handles-eq0.true) is)
    c.fresh_arrivals.ensures

pub returns-then-handles-eq0-clause-beside : goal.returns-then-handles-eq0-clause-beside
returns-then-handles-eq0-clause-beside c =
    let t = c.args.t.now.tree in
    IfOk-weaker c.fresh_arrivals.result _ _
    (λ v is. each_anew (λ (x : ComingWidget). IfSome x.beside (λ k. Among k (children_had t c.args.partner) × IsNode t k)) (map shared c.args.widgets.now) (arrived v) is (λ w place. tt))
    c.fresh_arrivals.ensures

pub returns-then-handles-eq0-clause-matched : goal.returns-then-handles-eq0-clause-matched
returns-then-handles-eq0-clause-matched c =
    let t = c.args.t.now.tree in
    IfOk-weaker c.fresh_arrivals.result _ _
    (λ v is. each_anew (λ (x : ComingWidget). IfSome x.beside (λ k. IfSome (widget_at t k) (λ old. CanUpdate old x.widget))) (map shared c.args.widgets.now) (arrived v) is (λ w place. tt))
    c.fresh_arrivals.ensures

pub paired_arrivals-requires : goal.paired_arrivals-requires
paired_arrivals-requires c = (c.are_paired.ensures.0 c.if-are_paired.true).0 ∙ simp length-map

pub returns-then-are_paired-clause-arrivals : goal.returns-then-are_paired-clause-arrivals
returns-then-are_paired-clause-arrivals c =
    let t = c.args.t.now.tree in
    let kin = c.args.partner in
    let hs = c.children_had-handles.result.now in
    let news = map shared c.args.widgets.now in
    let paired = c.are_paired.ensures.0 c.if-are_paired.true in
    let holds : (h : Handle) → IsNode t h → _ = λ h live. c.walk_laws.ensures.holds t h c.root.ensures.tree live in
    let there : (h : Handle) → Among h hs → _ = λ h among. holds h (c.children_had-handles.ensures.live h among) in
    let nodes : (ℕ → ℕ) → List PlainNode = λ s. nodes_had (plain_at_any s t kin) in
    let zeros : ℕ → ℕ = λ _. 0 in
    let knows : (s : ℕ → ℕ) → map (plain_at s t) hs ≡ map Some (nodes s) =
    λ s. ap (map (plain_at s t)) c.children_had-handles.ensures.value
    ∙ had_nodes s t kin c.requires.live (λ h live. let e = live_element t h live in c.kept_elements_are_known.ensures.nodes s t h e.0 (holds h live) e.1) in
    let all_matched = matched t zeros hs (nodes zeros) news (knows zeros) paired (λ h among. c.kept_elements_are_known.ensures.place zeros t h (there h among))
    (widgets_had (plain_at_any zeros t kin)) (λ h among. c.kept_elements_are_known.ensures.widget zeros t h (there h among)) c.requires.placed in
    IfOk-weaker c.paired_arrivals.result _ _
    (λ v is. λ s.
    arrive_paired s t (nodes s) (widgets_had (plain_at_any zeros t kin)) news hs (arrived v) paired.0 all_matched
    (found t s hs (nodes s) news (knows s) paired (λ h among. c.kept_elements_are_known.ensures.place s t h (there h among))) is
    ∙ ap (λ olds. arrivals_from (nodes s) 0 news (matching olds news))
    (had_same zeros s t kin (λ z. some_map (IsNode t) (λ h. (e : Element) × (plain_at z t h ≡ Some (node_over z e (below (subtree_at t h)))) × (element_at t h ≡ Some e)) kin
    (λ h live. let e = live_element t h live in (e.0, c.kept_elements_are_known.ensures.node z t h e.0 (holds h live) e.1, e.1)) c.requires.live)))
    c.paired_arrivals.ensures

pub returns-then-are_paired-clause-beside : goal.returns-then-are_paired-clause-beside
returns-then-are_paired-clause-beside c =
    let t = c.args.t.now.tree in
    let hs = c.children_had-handles.result.now in
    IfOk-weaker c.paired_arrivals.result _ _
    (λ v is.
    each_came (λ (x : ComingWidget). IfSome x.beside (λ k. Among k (children_had t c.args.partner) × IsNode t k)) hs (map shared c.args.widgets.now) (arrived v) is
    (λ i h w at_h at_w place. let among = stands_among hs i h at_h in (subst (Among h) c.children_had-handles.ensures.value among, c.children_had-handles.ensures.live h among)))
    c.paired_arrivals.ensures

pub returns-then-are_paired-clause-matched : goal.returns-then-are_paired-clause-matched
returns-then-are_paired-clause-matched c =
    let t = c.args.t.now.tree in
    let hs = c.children_had-handles.result.now in
    let paired = c.are_paired.ensures.0 c.if-are_paired.true in
    IfOk-weaker c.paired_arrivals.result _ _
    (λ v is.
    each_came (λ (x : ComingWidget). IfSome x.beside (λ k. IfSome (widget_at t k) (λ old. CanUpdate old x.widget))) hs (map shared c.args.widgets.now) (arrived v) is
    (λ i h w at_h at_w place. let pair = paired.1 i h w at_h at_w in subst (λ o. IfSome o (λ old. CanUpdate old w)) (sym pair.1.1) pair.1.2))
    c.paired_arrivals.ensures

pub returns-clause-arrivals : goal.returns-clause-arrivals
returns-clause-arrivals c = c.in_ok-matched.ensures.arrivals

pub returns-clause-beside : goal.returns-clause-beside
returns-clause-beside c = c.in_ok-matched.ensures.beside

pub returns-clause-matched : goal.returns-clause-matched
returns-clause-matched c = c.in_ok-matched.ensures.matched
