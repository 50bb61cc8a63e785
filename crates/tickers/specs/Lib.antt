pub mod Running
pub mod Tween
