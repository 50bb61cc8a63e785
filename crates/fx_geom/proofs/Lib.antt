mod Totals
pub mod Within
