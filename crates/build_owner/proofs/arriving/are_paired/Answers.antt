use Rattle.std.proofs.Common.{◌≡◌, false, true, length, map, get_or, refl, sym, ap, ◌∙◌, subst, arith}
use Rattle.std.proofs.lemmas.List.{length-map}
use Rattle.std.proofs.lemmas.Option.{slice_get_within}
use Rattle.fx_handles.specs.declared.Handle.{Handle}
use Rattle.widget_model.specs.View.{plain_of, shared}
use Rattle.build_owner.specs.ArrivalView.{IsPair}
use Rattle.build_owner.proofs.Paired.{pair_there, pair_more}
use Rattle.build_owner.proofs.arriving.are_paired.Goals as goal

no_true : false ≡ true → ⊥
no_true e = cc

pub returns-then-not-is_pair : goal.returns-then-not-is_pair
returns-then-not-is_pair c = (
  λ no. absurd (no_true no),
  λ all.
      let hs = c.args.handles.now in
      let i = c.loop-i.i in
      let zero_handle : Handle = record { index = 0; generation = 0 } in
      let r = c.index-widgets-i.result in
      let there = pair_there hs c.args.widgets.now i zero_handle r c.loop-i-test.true (omega (arith, c.loop-i-test.true, c.if-handles-widgets.false)) c.index-widgets-i.is in
      let pair = subst (λ v. IsPair c.args.t.now.tree i (get_or hs i zero_handle) v) (ap plain_of (sym c.deref.ensures)) (all.1 i (get_or hs i zero_handle) (shared r) there.0 there.1) in
      sym c.if-not-is_pair.true ∙ c.is_pair.ensures.1 pair,
)

pub loop-i-preserved : goal.loop-i-preserved
loop-i-preserved c =
    let hs = c.args.handles.now in
    let i = c.loop-i.i in
    let zero_handle : Handle = record { index = 0; generation = 0 } in
    let r = c.index-widgets-i.result in
    let there = pair_there hs c.args.widgets.now i zero_handle r c.loop-i-test.true (omega (arith, c.loop-i-test.true, c.if-handles-widgets.false)) c.index-widgets-i.is in
    let pair = subst (λ v. IsPair c.args.t.now.tree i (get_or hs i zero_handle) v) (ap plain_of c.deref.ensures) (c.is_pair.ensures.0 c.if-not-is_pair.false) in
    λ k h w low at_h at_w. pair_more c.args.t.now.tree hs (map shared c.args.widgets.now) i (get_or hs i zero_handle) (shared r) there.0 there.1 pair c.loop-i.invariant k h w low at_h at_w

pub returns : goal.returns
returns c = (
  λ yes. (
    (let same : length c.args.handles.now ≡ length c.args.widgets.now = c.if-handles-widgets.false in same ∙ simp length-map),
    λ i h w at_h at_w. c.loop-i.invariant i h w (let low = slice_get_within c.args.handles.now i h at_h in omega (arith, low, c.loop-i-test.false)) at_h at_w,
  ),
  λ all. refl,
)
