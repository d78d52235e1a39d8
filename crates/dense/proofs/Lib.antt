pub mod Theorems
pub mod Running
pub mod Slack
pub mod Examples
pub mod CallTheorems
pub mod Determined
