pub mod Bytes
pub mod Incidences
pub mod GraphExamples
