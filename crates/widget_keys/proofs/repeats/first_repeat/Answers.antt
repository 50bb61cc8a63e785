use Rattle.std.proofs.Common.{true≢false, refl, sym, ◌∙◌}
use borrow.Author.Count.{below_more}
use Rattle.widget_keys.specs.contracts.keys.KeyOrd.TheImpl.{ghosts}
use Rattle.std.specs.Ordering.{eq_by_cmp}
use Rattle.widget_keys.specs.Key.{IsRepeat}
use Rattle.widget_keys.proofs.Seen.{absent_at, absent_grows, set_answers, set_grows, order_ties, keys_equal-turned, ties_turned, was_there, was_not_there, none_past}
use Rattle.widget_keys.proofs.repeats.first_repeat.Goals as goal

pub loop-i-preserved-in-None : goal.loop-i-preserved-in-None
loop-i-preserved-in-None g c =
    let none = absent_at (eq_by_cmp g.V.Ord.cmp) c.args.keys.now c.loop-i.i c.index-keys-i.result c.loop-i-test.true c.index-keys-i.is c.in-None.is in (
      below_more (λ k. IsRepeat (eq_by_cmp g.V.Ord.cmp) c.args.keys.now k → ⊥) c.loop-i.i c.loop-i.invariant.0 none,
      λ q h. absent_grows (eq_by_cmp g.V.Ord.cmp) c.args.keys.now c.loop-i.i c.index-keys-i.result _ c.loop-i-test.true c.index-keys-i.is c.in-None.is q h (c.loop-i.invariant.1 q h),
    )

pub returns-then-not-branch : goal.returns-then-not-branch
returns-then-not-branch g c =
    let R = (ghosts g.row.V g.V.Ord g.V.Ord-dict g.V.Eq g.V.Eq-dict g.V.PartialEq g.V.PartialEq-dict g.V.PartialOrd g.V.PartialOrd-dict).cmp in
    let ties = order_ties g.V.Ord.cmp R refl (λ _. refl) (λ _. refl) (λ _. refl) (λ _ _. refl) (λ _ _. refl) (λ _. refl) (λ _ _. refl) (λ _ _. refl) in
    let answers = set_answers (eq_by_cmp g.V.Ord.cmp) R ties c.args.keys.now c.loop-i.seen.keys c.loop-i.i c.index-keys-i.result c.loop-i-test.true c.index-keys-i.is c.in_default.not-None c.loop-i.invariant.1 in
    record {
      repeat = answers ∙ was_there _ _ c.in_ok-insert.ensures.added c.if-not-branch.true;
      least = c.loop-i.invariant.0;
      none = tt;
    }

pub loop-i-preserved : goal.loop-i-preserved
loop-i-preserved g c =
    let R = (ghosts g.row.V g.V.Ord g.V.Ord-dict g.V.Eq g.V.Eq-dict g.V.PartialEq g.V.PartialEq-dict g.V.PartialOrd g.V.PartialOrd-dict).cmp in
    let ties = order_ties g.V.Ord.cmp R refl (λ _. refl) (λ _. refl) (λ _. refl) (λ _ _. refl) (λ _ _. refl) (λ _. refl) (λ _ _. refl) (λ _ _. refl) in
    let turns = keys_equal-turned (eq_by_cmp g.V.Ord.cmp) (ties_turned g.V.Ord.cmp g.met.V.Ord.total) in
    let answers = set_answers (eq_by_cmp g.V.Ord.cmp) R ties c.args.keys.now c.loop-i.seen.keys c.loop-i.i c.index-keys-i.result c.loop-i-test.true c.index-keys-i.is c.in_default.not-None c.loop-i.invariant.1 in
    let fresh = answers ∙ was_not_there _ _ c.in_ok-insert.ensures.added c.if-not-branch.false in (
      below_more (λ k. IsRepeat (eq_by_cmp g.V.Ord.cmp) c.args.keys.now k → ⊥) c.loop-i.i c.loop-i.invariant.0 (λ r. true≢false (sym r ∙ fresh)),
      set_grows (eq_by_cmp g.V.Ord.cmp) R ties (λ a b. ties a b ∙ turns a b ∙ sym (ties b a)) c.args.keys.now c.loop-i.seen.keys c.insert.new.self.keys c.loop-i.i c.index-keys-i.result c.loop-i-test.true c.index-keys-i.is c.loop-i.invariant.1
          (λ q. c.in_ok-insert.ensures.updates.0 (record { ref_ptr = (0, 0); now = q })),
    )

pub returns-clause-none : goal.returns-clause-none
returns-clause-none g c = none_past (eq_by_cmp g.V.Ord.cmp) c.args.keys.now c.loop-i.i c.loop-i.invariant.0 c.loop-i-test.false
