use Rattle.std.proofs.Common.{◌≡◌, ◌+◌, [], ◌∷◌, ◌++◌, map, length, ◌<◌, sym, subst, arith}
use Rattle.std.specs.List.{All, range_with_len}
use Rattle.std.specs.Option.{IfSome}
use Rattle.std.proofs.lemmas.List.{length-map}
use Rattle.widget_model.specs.View.{shared}
use Rattle.std.proofs.lemmas.List.FromFn.{map-range_with_len_more}
use Rattle.reconcile.specs.Matching.{match_at, matching}
use Rattle.reconcile.proofs.LawLemmas.{all_matched, matching_within}
use Rattle.reconcile.proofs.scan.match_by_scan.Goals as goal

pub loop-i-preserved : goal.loop-i-preserved
loop-i-preserved c =
    let f = match_at (map shared c.args.old.now) (map shared c.args.new.now) in
    let so_far : c.loop-i.matches.items ≡ map f (range_with_len 0 c.loop-i.i) = c.loop-i.invariant in
    let more : map f (range_with_len 0 (c.loop-i.i + 1)) ≡ map f (range_with_len 0 c.loop-i.i) ++ f c.loop-i.i ∷ [] = map-range_with_len_more f 0 c.loop-i.i c.loop-i.i (omega arith) in
    let pushed : c.push.new.self.items ≡ c.loop-i.matches.items ++ c.match_at.result ∷ [] = c.in_ok-push.ensures.items in
    let one = c.match_at.ensures in
    cc

pub returns-clause-ok : goal.returns-clause-ok
returns-clause-ok c =
    all_matched (map shared c.args.old.now) (map shared c.args.new.now) c.loop-i.i (length c.args.new.now) c.loop-i.matches.items c.loop-i.invariant
    (length-map c.args.new.now shared) (omega arith) c.loop-i-test.false

pub returns-clause-within : goal.returns-clause-within
returns-clause-within c =
    let e = all_matched (map shared c.args.old.now) (map shared c.args.new.now) c.loop-i.i (length c.args.new.now) c.loop-i.matches.items c.loop-i.invariant
    (length-map c.args.new.now shared) (omega arith) c.loop-i-test.false
    in
    let n : length (map shared c.args.old.now) ≡ length c.args.old.now = length-map c.args.old.now shared in
    let h = matching_within (map shared c.args.old.now) (map shared c.args.new.now) in
    subst (λ xs. All (λ place. IfSome place (λ j. j < length c.args.old.now)) xs) (sym e) (subst (λ m. All (λ place. IfSome place (λ j. j < m)) (matching (map shared c.args.old.now) (map shared c.args.new.now))) n h)
