mod Counting
mod Forward
mod SampleEdges
pub mod SampleBindings
