pub mod Selected
pub mod Comparable
pub mod SmallQuery
pub mod NoShorter
pub mod StandsFor
pub mod PathCandidates
