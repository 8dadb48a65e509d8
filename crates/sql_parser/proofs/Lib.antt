pub mod Nests
pub mod Listing
pub mod Whole
pub mod Placed
pub mod ConditionSpans
pub mod SelectSpans
