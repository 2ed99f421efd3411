-- The ranges of a command's options, where the crates above look for them.
pub use Rattle.run_meaning.specs.Ranges.{IsWithin, AreInRange, IsInRange}
