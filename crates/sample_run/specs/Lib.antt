pub mod SampleCatalog
pub mod SampleRun
