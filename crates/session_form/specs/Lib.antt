-- The definitions of a session, in reading order.
pub mod Program
pub mod State
pub mod Refusals
pub mod Values
pub mod FaultText
pub mod Outcome
pub mod EventText
pub mod StatesText
pub mod FrameText
pub mod FieldValue
pub mod Handlers
pub mod Changing
pub mod Seeing
pub mod Gestures
pub mod Framing
pub mod Step
pub mod Worked
