pub mod Changing
pub mod Fielding
pub mod Fieldwise
pub mod Rising
pub mod Indexed
pub mod Lawful
pub mod Worked
