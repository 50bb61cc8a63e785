mod ColorLemmas
mod DigitLemmas
mod QuotedLaws
mod StretchLemmas
