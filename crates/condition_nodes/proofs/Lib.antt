pub mod GatheredLists
pub mod LiteralKinds
pub mod FirstLiterals
