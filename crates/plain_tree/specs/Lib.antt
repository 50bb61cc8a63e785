-- The definitions that the contracts cite, in reading order.
pub mod PlainNode
pub mod PlainNodeCode
pub mod PlainNodeLighter
pub mod RenderRole
pub mod Render
pub mod RenderCode
pub mod RenderLighter
pub mod Laid
pub mod LaidCode
pub mod LaidView
pub mod LaidLighter
pub mod Shown
pub mod Projection
pub mod At
pub mod Offsets
pub mod States
pub mod Laws
