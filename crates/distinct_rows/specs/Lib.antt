pub mod Different
pub mod KeyOrder
