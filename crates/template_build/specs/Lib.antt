-- The definitions that the contracts cite, in reading order.
pub mod Scene
pub mod TemplateRole
pub mod Members
pub mod Looks
pub mod Output
pub mod Program
pub mod Suits
pub mod HandlersIn
pub mod SceneView
pub mod Worked
pub mod Wanted
pub mod MembersView
pub mod Building
pub mod TemplatesView
