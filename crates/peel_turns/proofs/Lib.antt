pub mod PictureLaws
pub mod StepLaws
pub mod StackLaws
