pub mod SampleTree
