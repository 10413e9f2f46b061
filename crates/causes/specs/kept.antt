pub mod Effects
pub mod KeyedLines
