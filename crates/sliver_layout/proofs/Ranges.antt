-- The children of a list between two places are those whose stretches meet the one between the places.
use Rattle.std.proofs.Common.{◌≡◌, refl, ℕ, ◌+◌, ◌*◌, ◌/◌, ◌<◌, ◌≤◌, ◌↔◌, min, max, nat_lt, nat_eq, true, false, inl, inr, arith, rules, tests}
use Rattle.std.specs.Int.{div_ceil}
use Rattle.std.proofs.Math.Nat.{div-mul-le_self, lt-div-mul-add, mul-le-mul_right}
use Rattle.std.proofs.lemmas.Bool.{cases_lt}
use Rattle.std.proofs.lemmas.Grind.{div_ceil_times}
use Rattle.sliver_layout.specs.declared.protocol.SliverBounds.{SliverBounds}
use Rattle.sliver_layout.specs.Lists.{IsAmong, Meets, nothing, children_between, window_of}

-- where the first child and the end of the children stand
first_low : (low x : ℕ) → low / x * x ≤ low
first_low low x = div-mul-le_self low x

first_high : (low x : ℕ) → 0 < x → low < low / x * x + x
first_high low x some = lt-div-mul-add some

end_low : (high x : ℕ) → 0 < x → high ≤ div_ceil high x * x
end_low high x some = (div_ceil_times high x some).0

end_high : (high x : ℕ) → 0 < x → div_ceil high x * x < high + x
end_high high x some = (div_ceil_times high x some).1

-- a child from the first to before the end meets the stretch
among-Meets : (i low high x first end : ℕ) → 0 < x → low < high → low < first * x + x → end * x < high + x
    → first ≤ i → i < end → Meets i x low high
among-Meets i low high x first end some room first_near end_near from_first before_end =
    let starts : first * x ≤ i * x = mul-le-mul_right x from_first in
    let next : i + 1 ≤ end = omega arith in
    let ends : (i + 1) * x ≤ end * x = mul-le-mul_right x next in
    record {
      place = max low (i * x);
      from_start = omega arith;
      before_end = omega arith;
      from_low = omega arith;
      before_high = omega arith;
    }

-- a child that meets the stretch is not before the first
Meets-first : (i low high x first : ℕ) → first * x ≤ low → Meets i x low high → first ≤ i
Meets-first i low high x first first_near meets =
    elim (cases_lt i first) as (λ _. first ≤ i) [
      | inl before ↦
          let next : i + 1 ≤ first = omega arith in
          let ends : (i + 1) * x ≤ first * x = mul-le-mul_right x next in
          omega (arith, meets.before_end, meets.from_low)
      | inr after ↦ after
    ]

-- nor past the end
Meets-end : (i low high x end : ℕ) → high ≤ end * x → Meets i x low high → i < end
Meets-end i low high x end end_near meets =
    elim (cases_lt i end) as (λ _. i < end) [
      | inl before ↦ before
      | inr after ↦
          let starts : end * x ≤ i * x = mul-le-mul_right x after in
          omega (arith, meets.from_start, meets.before_high)
    ]

-- the children between two places, by whether there are any
children_between-some : (low high x n : ℕ) → low / x < min n (div_ceil high x)
    → children_between low high x n ≡ record { first = low / x; end = min n (div_ceil high x) }
children_between-some low high x n some =
    let yes : nat_lt (low / x) (min n (div_ceil high x)) ≡ true = search (rules, tests) in
    rw yes refl

children_between-none : (low high x n : ℕ) → min n (div_ceil high x) ≤ low / x → children_between low high x n ≡ nothing
children_between-none low high x n none =
    let no : nat_lt (low / x) (min n (div_ceil high x)) ≡ false = search (rules, tests) in
    rw no refl

pub among_iff_Meets : (i low high x n : ℕ) → 0 < x → low < high → i < n
    → IsAmong (children_between low high x n) i ↔ Meets i x low high
among_iff_Meets i low high x n some room counted =
    elim (cases_lt (low / x) (min n (div_ceil high x)))
    as (λ _. IsAmong (children_between low high x n) i ↔ Meets i x low high) [
      | inl any ↦
          rw (children_between-some low high x n any) (
            (λ among. among-Meets i low high x (low / x) (div_ceil high x) some room (first_high low x some)
                (end_high high x some) among.0 (omega (arith, among.1))),
            (λ meets. (
              Meets-first i low high x (low / x) (first_low low x) meets,
              let before : i < div_ceil high x = Meets-end i low high x (div_ceil high x) (end_low high x some) meets in
                  omega arith,
            )),
          )
      | inr none ↦
          rw (children_between-none low high x n none) (
            (λ among. absurd (omega (arith, among.1))),
            (λ meets.
                let first : low / x ≤ i = Meets-first i low high x (low / x) (first_low low x) meets in
                let before : i < div_ceil high x = Meets-end i low high x (div_ceil high x) (end_low high x some) meets in
                absurd (omega arith)),
          )
    ]

-- they are counted
among-counted : (i low high x n : ℕ) → IsAmong (children_between low high x n) i → i < n
among-counted i low high x n among =
    elim (cases_lt (low / x) (min n (div_ceil high x))) as (λ _. i < n) [
      | inl any ↦ let there : IsAmong (record { first = low / x; end = min n (div_ceil high x) }) i =
          rw (children_between-some low high x n any) at among in omega (arith, there.1)
      | inr none ↦ let there : IsAmong nothing i = rw (children_between-none low high x n none) at among in
          absurd (omega (arith, there.1))
    ]

-- a wider stretch meets no fewer children
pub between_grows : (i low high wide_low wide_high x n : ℕ) → 0 < x → low < high → wide_low ≤ low → high ≤ wide_high
    → IsAmong (children_between low high x n) i → IsAmong (children_between wide_low wide_high x n) i
between_grows i low high wide_low wide_high x n some room lower higher among =
    let counted : i < n = among-counted i low high x n among in
    let meets : Meets i x low high = (among_iff_Meets i low high x n some room counted).0 among in
    (among_iff_Meets i wide_low wide_high x n some (omega arith) counted).1 (record {
      place = meets.place;
      from_start = meets.from_start;
      before_end = meets.before_end;
      from_low = omega (arith, meets.from_low);
      before_high = omega (arith, meets.before_high);
    })

-- where there is a view, the window is that of the view's stretch
pub window_of-some : (b : SliverBounds) (x n : ℕ) → 0 < b.remaining
    → window_of b x n ≡ children_between b.offset (b.offset + b.remaining) x n
window_of-some b x n some =
    let no : nat_eq b.remaining 0 ≡ false = search (rules, tests) in
    rw no refl
