-- The definitions that the contracts cite, in reading order.
pub mod Step
pub mod BuildRole
pub mod RoleView
pub mod Partner
pub mod Lent
pub mod Entering
pub mod FullBuild
pub mod ScreenView
pub mod Program
pub mod WellBuilt
pub mod FaultView
pub mod Filling
pub mod Owned
pub mod Worked
pub mod Laws
pub mod Numbered
pub mod KeptStates
