pub mod Quoted
pub mod Printed
pub mod Shifted
