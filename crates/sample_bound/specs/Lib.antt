pub mod SampleQuery
