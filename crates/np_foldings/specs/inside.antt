pub mod Blocks
pub mod FieldReading
pub mod FileReading
pub mod HeadReading
pub mod LowercaseReading
pub mod Memories
pub mod RecordReading
pub mod RecordValues
