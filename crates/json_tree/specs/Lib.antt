-- The definitions that the contracts cite. What a text reads as stands in `serde_json`.
pub mod View
