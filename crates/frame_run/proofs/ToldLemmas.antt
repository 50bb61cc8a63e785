-- What counters that begin at 0 tell is no more than what they have counted.
use Rattle.std.proofs.Common.{◌≡◌, ℕ, ◌+◌, ◌≤◌, min, subst, sym, ap, ◌∙◌, arith}
use Rattle.std.proofs.Math.Nat.{min-le_left}
use Rattle.work_sets.specs.Work.{Work}
use Rattle.frame_run.specs.Status.{OnMemory}
use Rattle.frame_run.specs.Work.{RoseWithin}
use Rattle.frame_run.specs.Run.{AnsweredWithin}
use Rattle.frame_run.specs.declared.status.Status.{Status}
use Rattle.frame_run.proofs.StatusLemmas.{OnMemory-map}
use Rattle.std.specs.Prelude.{List, Option}

-- a counter that began at 0, what it has counted, and what it tells
pub record Tells (before after told : ℕ) : Type 0 where
  pub begins : before ≡ 0
  pub tells : told ≡ min after 18446744073709551615

below : (before after told work : ℕ) → Tells before after told → after ≤ before + work → told ≤ 0 + work
below before after told work t h =
    let least : told ≤ after = subst (λ n. n ≤ after) (sym t.tells) (min-le_left after 18446744073709551615) in
    let most : after ≤ 0 + work = subst (λ n. after ≤ n + work) t.begins h in
    omega (arith, least, most)

told_within : (work : Work) (bo bn b lo ln l po pn p : ℕ) → Tells bo bn b → Tells lo ln l → Tells po pn p
    → RoseWithin work bo bn lo ln po pn → RoseWithin work 0 b 0 l 0 p
told_within work bo bn b lo ln l po pn p x y z h = record {
  builds = below bo bn b work.builds x h.builds;
  layouts = below lo ln l work.layouts y h.layouts;
  paints = below po pn p work.paints z h.paints;
}

pub told_on_memory : (s : Status) (work : Work) (bo bn b lo ln l po pn p : ℕ) → Tells bo bn b → Tells lo ln l → Tells po pn p
    → OnMemory s (RoseWithin work bo bn lo ln po pn) → OnMemory s (RoseWithin work 0 b 0 l 0 p)
told_on_memory s work bo bn b lo ln l po pn p x y z h = OnMemory-map s _ _ (told_within work bo bn b lo ln l po pn p x y z) h

pub told_answered : (status_at : List ℕ → Status) (text_at : List ℕ → List ℕ) (work_at : List ℕ → Work) (s : Status) (left_old left_new held_old held_new : Option (List ℕ)) (bo bn b lo ln l po pn p : ℕ)
    → Tells bo bn b → Tells lo ln l → Tells po pn p
    → AnsweredWithin status_at text_at work_at s left_old left_new held_old held_new bo bn lo ln po pn
    → AnsweredWithin status_at text_at work_at s left_old left_new held_old held_new 0 b 0 l 0 p
told_answered status_at text_at work_at s left_old left_new held_old held_new bo bn b lo ln l po pn p x y z h = record {
  answered = h.answered;
  within = told_on_memory s (work_at h.answered.bytes) bo bn b lo ln l po pn p x y z h.within;
}

-- a counter that has counted nothing tells 0
tells_none : (before after told : ℕ) → Tells before after told → after ≡ 0 → told ≡ 0
tells_none before after told t none = t.tells ∙ ap (λ n. min n 18446744073709551615) none

-- and so does one that didn't move, or didn't rise
pub told_none : (before after told : ℕ) → Tells before after told → after ≡ before → told ≡ 0
told_none before after told t e = tells_none before after told t (e ∙ t.begins)

told_unrisen : (before after told : ℕ) → Tells before after told → after ≤ before → told ≡ 0
told_unrisen before after told t h = tells_none before after told t (omega (arith, t.begins, h))

pub told_uncounted : (s : Status) (bo bn b lo ln l po pn p : ℕ) → Tells bo bn b → Tells lo ln l → Tells po pn p
    → OnMemory s ((bn ≤ bo) × (ln ≤ lo) × (pn ≤ po)) → OnMemory s ((b ≡ 0) × (l ≡ 0) × (p ≡ 0))
told_uncounted s bo bn b lo ln l po pn p x y z h =
    OnMemory-map s ((bn ≤ bo) × (ln ≤ lo) × (pn ≤ po)) ((b ≡ 0) × (l ≡ 0) × (p ≡ 0))
    (λ (w : (bn ≤ bo) × (ln ≤ lo) × (pn ≤ po)). (told_unrisen bo bn b x w.0, told_unrisen lo ln l y w.1, told_unrisen po pn p z w.2)) h
