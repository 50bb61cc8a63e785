pub mod Flex
pub mod Gaps
pub mod Stack
