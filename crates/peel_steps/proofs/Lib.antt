pub mod SideLaws
pub mod BuildLaws
