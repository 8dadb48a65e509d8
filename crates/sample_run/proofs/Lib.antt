mod SampleFits
mod RowsMade
