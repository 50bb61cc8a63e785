-- Nodes are made, and found by their numbers
mod Forgetting
mod PlaceLemmas
-- The plan and its forest
mod PlanLemmas
-- The whole
mod SyncLemmas
