pub mod RunLaws
pub mod OneResult
