-- Lemmas on what the program keeps.
-- Which node stood at a place, and what arrivals are
pub mod ByPlace
pub mod Arrived
-- Holders of global keys, keys that were met, siblings' keys
pub mod Holding
pub mod Meeting
-- Items of lazy lists, and which are there
pub mod Itemized
pub mod Ranged
