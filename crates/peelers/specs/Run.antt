-- What a call leaves, passed on for whoever cites the calls.
pub use Rattle.peel_runs.specs.Runs.{Leaves}
