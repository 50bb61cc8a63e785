-- How the program says what the definitions speak of.
pub mod PartnerView
pub mod WalkView
pub mod BasisView
pub mod OpeningView
pub mod ProvidingView
pub mod RangesView
