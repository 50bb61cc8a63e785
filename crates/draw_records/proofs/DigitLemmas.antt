-- How long numbers are in decimal.
use Rattle.std.proofs.Common.{ℕ, ◌^◌, ◌<◌, ◌≤◌, length, arith}
use Rattle.std.specs.Fmt.{decimal}
use Rattle.std.proofs.lemmas.Fmt.{length-decimal-le}

pub digits_few : (n : ℕ) → n < 2 ^ 64 → length (decimal n) ≤ 20
digits_few n fits = length-decimal-le 20 n (omega arith) (omega arith) fits

-- a digit fewer where there may be a sign
pub digits_fewer : (n : ℕ) → n ≤ 2 ^ 63 → length (decimal n) ≤ 19
digits_fewer n fits = length-decimal-le 19 n (omega arith) (omega arith) (omega arith)
