-- The definitions that the contracts cite, in reading order.
pub mod ShapeFault
pub mod Answers
pub mod Leaves
pub mod Names
pub mod FormWalk
pub mod HandlerWalk
pub mod KeyWalk
pub mod WordWalk
pub mod Objects
pub mod TemplateWalk
pub mod ProgramWalk
pub mod Reading
pub mod Refusals
pub mod Worked
