use Rattle.std.proofs.Common.{◌≡◌, ◌<◌, ◌-◌, ℕ, Some, None, IfSome, Option, option_map, length, length-set, get_or, set, drop, sym, ap, ◌∙◌, subst, arith}
use Rattle.std.proofs.lemmas.List.Elements.{All-set}
use Rattle.fx_handles.specs.declared.Handle.{Handle}
use Rattle.fx_handles.specs.Handle.{Among}
use Rattle.plain_tree.specs.PlainNode.{index_of}
use Rattle.build_form.specs.Partner.{node_at}
use Rattle.build_walk.specs.Kept.{plain_at, plain_at_any}
use Rattle.build_owner.proofs.Children.{among_at, any_default, some_is, no_place, read, by_place_more, by_place_past}
use Rattle.build_owner.proofs.arriving.elements_by_place.Goals as goal

pub loop-k-preserved-then-place-count : goal.loop-k-preserved-then-place-count
loop-k-preserved-then-place-count c =
    let t = c.args.t.now.tree in
    let hs = c.args.handles.now in
    let zero_handle : Handle = record { index = 0; generation = 0 } in
    let k = c.loop-k.k - 1 in
    let h = get_or hs k zero_handle in
    let low : k < length hs = omega arith in
    let at : h ≡ get_or hs k h = any_default hs k zero_handle h low in
    let among : Among h hs = among_at hs k zero_handle low in
    let holds = c.walk_laws.ensures.holds t h c.root.ensures.tree (c.requires h among) in (
      length-set c.loop-k.by_place.items _ _ ∙ c.loop-k.invariant.0,
      All-set (λ (o : Option Handle). IfSome o (λ j. Among j hs)) c.loop-k.by_place.items c.in-Some.place (Some h) among c.loop-k.invariant.1,
      λ scrolled nodes e j less.
          let r = read (plain_at scrolled t) hs nodes k h e low at in
          let index : index_of r.plain ≡ c.in-Some.place = some_is (sym (ap (option_map index_of) r.is) ∙ c.kept_elements_are_known.ensures.place scrolled t h holds ∙ sym c.place.ensures ∙ c.in-Some.is) in
          let below : index_of r.plain < c.args.count = omega (arith, index) in
          let P : ℕ → Type 0 = λ p. plain_at_any scrolled t (get_or (set c.loop-k.by_place.items p (Some h)) j None) ≡ node_at (drop k nodes) j in
          subst P index
          (by_place_more (plain_at_any scrolled t) nodes k c.loop-k.k h r.plain c.args.count c.loop-k.by_place.items (omega arith) r.within r.at r.is c.loop-k.invariant.0
          (c.loop-k.invariant.2 scrolled nodes e) j less below),
    )

pub loop-k-preserved-else-place-count : goal.loop-k-preserved-else-place-count
loop-k-preserved-else-place-count c =
    let t = c.args.t.now.tree in
    let hs = c.args.handles.now in
    let zero_handle : Handle = record { index = 0; generation = 0 } in
    let k = c.loop-k.k - 1 in
    let h = get_or hs k zero_handle in
    let low : k < length hs = omega arith in
    let at : h ≡ get_or hs k h = any_default hs k zero_handle h low in
    let holds = c.walk_laws.ensures.holds t h c.root.ensures.tree (c.requires h (among_at hs k zero_handle low)) in (
      c.loop-k.invariant.0,
      c.loop-k.invariant.1,
      λ scrolled nodes e j less.
          let r = read (plain_at scrolled t) hs nodes k h e low at in
          let index : index_of r.plain ≡ c.in-Some.place = some_is (sym (ap (option_map index_of) r.is) ∙ c.kept_elements_are_known.ensures.place scrolled t h holds ∙ sym c.place.ensures ∙ c.in-Some.is) in
          by_place_past (plain_at_any scrolled t) nodes k c.loop-k.k h r.plain c.args.count c.loop-k.by_place.items (omega arith) r.within r.at r.is c.loop-k.invariant.0
          (c.loop-k.invariant.2 scrolled nodes e) j less (λ below. omega (arith, below, index)),
    )

pub loop-k-preserved : goal.loop-k-preserved
loop-k-preserved c =
    let hs = c.args.handles.now in
    let zero_handle : Handle = record { index = 0; generation = 0 } in
    let low : c.loop-k.k - 1 < length hs = omega arith in
    absurd (no_place c.args.t.now.tree (get_or hs (c.loop-k.k - 1) zero_handle) (c.requires _ (among_at hs (c.loop-k.k - 1) zero_handle low)) (sym c.in_default.is ∙ c.place.ensures))

pub returns-clause-nodes : goal.returns-clause-nodes
returns-clause-nodes c = λ scrolled nodes e j less.
    let end : c.loop-k.k ≡ 0 = omega arith in
    c.loop-k.invariant.2 scrolled nodes e j less ∙ ap (λ k. node_at (drop k nodes) j) end
