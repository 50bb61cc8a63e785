-- Lemmas on the definitions, for their laws.
-- What holds where a step gives something
mod Steps
-- What is read and checked
mod Reading
mod Checked
-- What templates give, and builds
mod Built
mod Outputs
-- What a session does
mod States
-- Lazy lists
mod Shown
mod Waiting
mod Listless
-- The worked ones
mod Worked
