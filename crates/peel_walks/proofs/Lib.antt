pub mod TableLaws
pub mod PeelLaws
pub mod FromLaws
pub mod TwoEdges
